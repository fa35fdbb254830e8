-- No mark but a Turn of p changes p's private part.
use Rattle.std.proofs.Common.{Bool, List, Some, [], ap, false, suc, true, zero, ℕ, ◌==◌, ◌∙◌, ◌∷◌, ◌≡◌}
use Rattle.std.proofs.lemmas.Bool.{or_parts}
use Rattle.std.specs.List.{list_any}
use Rattle.std.specs.Prelude.{if◌then◌else◌}
use Rattle.group_defs.specs.Group.{runner}
use Rattle.group_defs.specs.Standing.{State, is_durable}
use Rattle.group_defs.specs.Valid.{GroupIsValid}
use Rattle.group_parts.proofs.LocalValid.{local_steps_valid}
use Rattle.group_parts.proofs.OthersParts.{steps_leave_parts}
use Rattle.group_parts.proofs.States.{step_group}
use Rattle.group_parts.specs.Marks.{AreAllowed, is_turn_of}
use Rattle.group_parts.specs.Parts.{PrivatePart, part_of}
use Rattle.run_defs.specs.Legal.{Allowed}
use Rattle.run_defs.specs.Progress.{EachMark, Progress, after_mark, progress_after}
use Rattle.run_defs.specs.Turns.{AllLocal, steps_of, turned}
use Rattle.run_defs.specs.declared.run.Limits.{Limits}
use Rattle.run_defs.specs.declared.run.Mark.{Mark}
use Rattle.run_defs.specs.declared.run.Mark.TheVariants.{Take, Turn, Barrier, Fetch, Ack}

module _ (s : State) (pid other : ℕ) (part : PrivatePart) (valid : GroupIsValid s.group) (differ : (pid == other) ≡ false) (is : part_of s.group other ≡ Some part) where
  one_more : (n : ℕ) → AllLocal s pid n → part_of (steps_of s pid n).group other ≡ Some part → part_of (steps_of s pid (suc n)).group other ≡ Some part
  unfolding steps_of
  one_more n all before = ap (λ g. part_of g other) (step_group (steps_of s pid n) pid) ∙ steps_leave_parts (is_durable (steps_of s pid n).standing pid) (steps_of s pid n).group pid other part (local_steps_valid s pid n valid all) differ before

  pub local_leaves : (n : ℕ) → AllLocal s pid n → part_of (steps_of s pid n).group other ≡ Some part
  unfolding steps_of AllLocal
  local_leaves zero all = is
  local_leaves (suc n) all = one_more n all.0 (local_leaves n all.0)

  turn_leaves : (quantum n : ℕ) → AllLocal s pid n → part_of (turned quantum s pid n).group other ≡ Some part
  turn_leaves quantum n all = by_end (n == quantum)
    where
      by_end : (b : Bool) → part_of (steps_of s pid (if b then n else suc n)).group other ≡ Some part
      by_end true = local_leaves n all
      by_end false = one_more n all (local_leaves n all)

pub mark_leaves_parts : (limits : Limits) (r : Progress) (m : Mark) (p : ℕ) (part : PrivatePart) → GroupIsValid r.state.group → Allowed limits r m → is_turn_of p m ≡ false → part_of r.state.group p ≡ Some part → part_of (after_mark limits.quantum r m).state.group p ≡ Some part
unfolding part_of runner
mark_leaves_parts limits r (Take worker pid) p part valid allowed none is = is
mark_leaves_parts limits r (Turn worker pid n) p part valid allowed none is = turn_leaves r.state pid p part valid none is limits.quantum n allowed.turn.all_local
mark_leaves_parts limits r (Barrier epoch) p part valid allowed none is = is
mark_leaves_parts limits r (Fetch epoch) p part valid allowed none is = is
mark_leaves_parts limits r (Ack epoch) p part valid allowed none is = is

pub marks_leave_parts : (limits : Limits) (r : Progress) (marks : List Mark) (p : ℕ) (part : PrivatePart) → AreAllowed limits r marks → list_any (is_turn_of p) marks ≡ false → part_of r.state.group p ≡ Some part → part_of (progress_after limits.quantum r marks).state.group p ≡ Some part
unfolding EachMark
marks_leave_parts limits r [] p part allowed none is = is
marks_leave_parts limits r (m ∷ ms) p part allowed none is =
    let neither = or_parts (is_turn_of p m) (list_any (is_turn_of p) ms) none in
    marks_leave_parts limits (after_mark limits.quantum r m) ms p part allowed.1 neither.1 (mark_leaves_parts limits r m p part allowed.0.0 allowed.0.1 neither.0 is)
