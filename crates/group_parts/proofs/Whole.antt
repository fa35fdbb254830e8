-- With no lease out, the processes are the rows of the public part with the private parts in them.
use Rattle.std.proofs.Common.{Bool, List, Option, Some, [], ap, false, get_or, map, refl, subst, sym, true, ◌∙◌, ◌∷◌, ◌≡◌}
use Rattle.std.proofs.lemmas.List.Elements.{All-head, All-tail}
use Rattle.std.specs.Option.{option_map}
use Rattle.std.specs.Prelude.{All, if◌then◌else◌}
use Rattle.group_defs.specs.Group.{Group, is_running, runner}
use Rattle.group_defs.specs.declared.frame.Frame.{Frame}
use Rattle.group_defs.specs.declared.frame.Proc.{Proc}
use Rattle.group_laws.proofs.Lists.{any_at}
use Rattle.group_parts.proofs.Runners.{runner_found}
use Rattle.group_parts.specs.Kept.{KeptParts, StandsFor, filled, kept_part, with_part}
use Rattle.group_parts.specs.Parts.{PrivatePart, part_in, part_of, public_part, public_process, shared_mappings}
use Rattle.tables.specs.Rising.{Rise}

module _ (g : Group) (k : KeptParts) (stands : StandsFor [] k g) where
  one_filled : (p : Proc) → (is_running p ≡ true → runner g p.pid ≡ Some p) → with_part k.here (public_process p) ≡ p
  unfolding part_of
  one_filled p found = by_running (is_running p) refl
    where
      here : is_running p ≡ true → kept_part k.here p.pid ≡ Some (part_in g p)
      here runs = stands.here p.pid ∙ ap (option_map (part_in g)) (found runs)

      by_running : (b : Bool) → is_running p ≡ b → with_part k.here (if b then record p { pc = 0; regs = []; maps = shared_mappings p.maps } else p) ≡ p
      by_running true e =
          ap (λ (t : Bool). if t then filled (kept_part k.here p.pid) (record p { pc = 0; regs = []; maps = shared_mappings p.maps }) else record p { pc = 0; regs = []; maps = shared_mappings p.maps }) e
          ∙ ap (λ (o : Option PrivatePart). filled o (record p { pc = 0; regs = []; maps = shared_mappings p.maps })) (here e)
      by_running false e = ap (λ (t : Bool). if t then filled (kept_part k.here p.pid) p else p) e

  all_filled : (procs : List Proc) → All (λ p. with_part k.here (public_process p) ≡ p) procs → map (with_part k.here) (map public_process procs) ≡ procs
  all_filled [] all = refl
  all_filled (p ∷ ps) all = ap (λ (x : Proc). x ∷ map (with_part k.here) (map public_process ps)) (All-head (λ q. with_part k.here (public_process q) ≡ q) p ps all) ∙ ap (λ (l : List Proc). p ∷ l) (all_filled ps (All-tail (λ q. with_part k.here (public_process q) ≡ q) p ps all))

  pub whole_frame : Rise (λ p. p.pid) g.frame.procs → g.frame ≡ record k.public.frame { procs = map (with_part k.here) k.public.frame.procs }
  unfolding public_part runner
  whole_frame rise =
      let P : Group → Type 0 = λ x. g.frame ≡ record x.frame { procs = map (with_part k.here) x.frame.procs } in
      let F : List Proc → Frame = λ procs. record g.frame { procs = procs } in
      let found : All (λ p. with_part k.here (public_process p) ≡ p) g.frame.procs = λ i d lt. one_filled (get_or g.frame.procs i d) (λ runs. runner_found g.frame.procs (get_or g.frame.procs i d) rise (any_at (λ q. q ≡ get_or g.frame.procs i d) g.frame.procs i d lt refl) runs) in
      subst P (sym stands.public) (ap F (sym (all_filled g.frame.procs found)))
