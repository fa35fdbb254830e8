-- Local steps touch what they touch in the private part.
use Rattle.std.proofs.Common.{Bool, List, None, Option, Some, [], ap, append_assoc, append-nil, refl, suc, sym, true, zero, ℕ, ◌++◌, ◌∙◌, ◌≡◌}
use Rattle.std.proofs.lemmas.Bool.{false≢true}
use Rattle.group_defs.specs.Group.{Group}
use Rattle.group_defs.specs.Pages.{pages_of_writes, touched_by_effect, touched_with_step}
use Rattle.group_defs.specs.Standing.{State, is_durable}
use Rattle.group_defs.specs.Step.{effect_in}
use Rattle.group_defs.specs.declared.frame.Proc.{Proc}
use Rattle.group_parts.proofs.LocalSteps.{effect_seen, steps_change}
use Rattle.group_parts.proofs.OthersParts.{behind}
use Rattle.group_parts.specs.Local.{AllLocalPart, is_local_part, steps_of_part, pages_of_step, pages_of_steps, part_effect, writes_of_effect}
use Rattle.group_parts.specs.Parts.{IsApart, PrivatePart, part_in, part_of}
use Rattle.run_defs.specs.Touched.{touched_with_steps}
use Rattle.run_defs.specs.Turns.{steps_of}
use Rattle.rv64_isa.specs.Instruction.{Effect, calls, is_step, steps, traps}

by_effect : (durable : Bool) (g : Group) (p : Proc) (so_far : List (ℕ × ℕ)) (e : Effect) → is_step e ≡ true → touched_by_effect durable g p so_far e ≡ pages_of_writes p.maps (writes_of_effect e)
by_effect durable g p so_far (steps r stored) local = refl
by_effect durable g p so_far calls local = absurd (false≢true local)
by_effect durable g p so_far (traps status) local = absurd (false≢true local)

step_touches : (durable : Bool) (g : Group) (pid : ℕ) (s : PrivatePart) (so_far : List (ℕ × ℕ)) → part_of g pid ≡ Some s → is_local_part s ≡ true → touched_with_step durable g pid so_far ≡ so_far ++ pages_of_step s
unfolding touched_with_step pages_of_step is_local_part
step_touches durable g pid s so_far is local =
    let (p, found, same) = behind g pid s is in
    let here : is_step (part_effect (part_in g p)) ≡ true = ap (λ (t : PrivatePart). is_step (part_effect t)) same ∙ local in
    ap (λ (l : List (ℕ × ℕ)). so_far ++ l)
    (ap (λ (o : Option Proc). elim o [ None ↦ [] | Some q ↦ touched_by_effect durable g q so_far (effect_in g q) ]) found
    ∙ ap (touched_by_effect durable g p so_far) (effect_seen g p here) ∙ by_effect durable g p so_far (part_effect (part_in g p)) here
    ∙ ap (λ (t : PrivatePart). pages_of_writes t.maps (writes_of_effect (part_effect t))) same)

pub steps_touch : (s : State) (pid : ℕ) (part : PrivatePart) (n : ℕ) (so_far : List (ℕ × ℕ)) → IsApart s.group → part_of s.group pid ≡ Some part → AllLocalPart part n → touched_with_steps s pid n so_far ≡ so_far ++ pages_of_steps part n
unfolding touched_with_steps pages_of_steps AllLocalPart
steps_touch s pid part zero so_far apart is all = sym (append-nil so_far)
steps_touch s pid part (suc n) so_far apart is all =
    let at : State = steps_of s pid n in
    ap (touched_with_step (is_durable at.standing pid) at.group pid) (steps_touch s pid part n so_far apart is all.0)
    ∙ step_touches (is_durable at.standing pid) at.group pid (steps_of_part part n) (so_far ++ pages_of_steps part n) (steps_change s pid part n apart is all.0).part_is all.1
    ∙ append_assoc so_far (pages_of_steps part n) (pages_of_step (steps_of_part part n))
