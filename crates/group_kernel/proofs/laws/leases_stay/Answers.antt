use Rattle.std.proofs.Common.{◌≡◌, ℕ, ◌+◌, ◌-◌, ◌++◌, ◌∙◌, List, [], false, inl, inr, refl, sym, ap, subst, arith, append_assoc}
use Rattle.std.proofs.lemmas.List.Elements.{All-from_recursion, recursion_from_All}
use Rattle.std.specs.Prelude.{All}
use Rattle.std.specs.List.{AllByRecursion, list_any}
use Rattle.address_maps.specs.declared.maps.Mapping.{Mapping}
use Rattle.rv64_core.specs.Step.{IsNoStep}
use Rattle.rv64_isa.specs.Instruction.{Effect, calls, is_step, steps, traps}
use Rattle.group_defs.specs.Group.{Group}
use Rattle.run_defs.specs.Legal.{Allowed, Legal}
use Rattle.run_defs.specs.declared.run.Limits.{Limits}
use Rattle.run_defs.specs.declared.run.Mark.{Mark}
use Rattle.group_parts.specs.Local.{AllLocalPart, is_local_part, pages_of_steps, steps_of_part}
use Rattle.group_parts.specs.Parts.{PrivatePart, part_of}
use Rattle.group_parts.proofs.Commute.{marks_leave_lease}
use Rattle.group_parts.proofs.LeaseSteps.{lease_runs, local_more, pages_more, steps_more}
use Rattle.group_parts.proofs.LeasesKept.{marks_stand, start_stands}
use Rattle.proc_lease.specs.Private.{ObjectView, private_in, views_of}
use Rattle.run_defs.specs.Progress.{Progress, is_lease, progress_after, progress_at}
use Rattle.run_laws.proofs.MachineLaws.{each_split, progress_more}
use Rattle.run_laws.proofs.RunLaws.{each_in_valid}
use Rattle.group_kernel.specs.Faces.{StandsOver, base_memory}
use Rattle.group_kernel.specs.Leases.{IsLeased, part_held}
use Rattle.group_kernel.specs.View.{after_marks, progress_of}
use Rattle.group_kernel.proofs.LeaseMarks.{faces_stay, rise_by_views, rise_of_views}
use Rattle.group_kernel.proofs.LeaseRuns.{part_with, steps_moved}
use Rattle.group_kernel.proofs.laws.leases_stay.Goals as goal

no_step : (e : Effect) → IsNoStep e → is_step e ≡ false
no_step (steps r stored) none = absurd none
no_step calls none = refl
no_step (traps status) none = refl

each_left : (limits : Limits) (origin_epoch : ℕ) (start : Group) (before marks : List Mark) → Legal start origin_epoch limits (before ++ marks) → Legal start origin_epoch limits before
each_left limits origin_epoch start before marks legal = (each_split (Allowed limits) limits.quantum (progress_at origin_epoch start) before marks legal).0

pub returns-clause-run : goal.returns-clause-run
returns-clause-run c v worker old new leased pid more maps after =
    let r : Progress = progress_of v in
    let n : ℕ = new.done - old.done in
    let count : old.done + n ≡ new.done = omega (arith, more) in
    let objects : List ObjectView = views_of old.process.faces.entries in
    let objects' : List ObjectView = views_of new.process.faces.entries in
    let part : PrivatePart = part_with old.process.regs old.process.map.entries objects in
    let taken : PrivatePart = leased.part.taken in
    let (all, moved) = steps_moved n old.process.map.entries old.process.regs objects new.process.regs (private_in objects' old.process.map.entries) (objects', old.process.map.entries) old.process.fits after in
    let later = lease_runs r.state.group old.pid old.done n part leased.part all in
    let held : part_held new.process ≡ steps_of_part part n = ap (λ (l : List Mapping). part_with new.process.regs l objects') maps ∙ sym moved.part_is in
    let pages : pages_of_steps taken new.done ≡ pages_of_steps taken old.done ++ pages_of_steps part n =
    ap (pages_of_steps taken) (sym count) ∙ pages_more taken old.done n ∙ ap (λ (s : PrivatePart). pages_of_steps taken old.done ++ pages_of_steps s n) (sym leased.part.part_is) in
    record {
      out = ap (λ (p : ℕ). list_any (is_lease worker p) r.leases) pid ∙ leased.out;
      once = rise_by_views old.process.faces.entries new.process.faces.entries moved.numbers leased.once;
      part = record {
        taken = taken;
        taken_is = ap (part_of r.state.group) pid ∙ leased.part.taken_is;
        all_local = subst (AllLocalPart taken) count (local_more taken old.done n leased.part.all_local (subst (λ (s : PrivatePart). AllLocalPart s n) leased.part.part_is all));
        part_is = held ∙ ap (λ (s : PrivatePart). steps_of_part s n) leased.part.part_is ∙ sym (steps_more taken old.done n) ∙ ap (steps_of_part taken) count;
      };
      faces = All-from_recursion (StandsOver (base_memory r) (r.touched ++ pages_of_steps taken new.done)) objects'
          (subst (λ (l : List (ℕ × ℕ)). AllByRecursion (StandsOver (base_memory r) l) objects')
          (append_assoc r.touched (pages_of_steps taken old.done) (pages_of_steps part n) ∙ ap (λ (l : List (ℕ × ℕ)). r.touched ++ l) (sym pages))
          (moved.sets (base_memory r) (r.touched ++ pages_of_steps taken old.done) (rise_of_views old.process.faces.entries leased.once)
          (recursion_from_All (StandsOver (base_memory r) (r.touched ++ pages_of_steps taken old.done)) objects leased.faces)));
    }

pub returns-clause-others : goal.returns-clause-others
returns-clause-others c v marks stopped prepared worker lease valid unworn small legal none leased =
    let p : Progress = progress_at v.origin_epoch v.start in
    let r : Progress = progress_of v in
    let allowed = each_in_valid v.limits v.origin_epoch small v.start v.marks marks valid unworn legal in
    let before = each_in_valid v.limits v.origin_epoch small v.start [] v.marks valid unworn (each_left v.limits v.origin_epoch v.start v.marks marks legal) in
    let stand = marks_stand v.limits p v.marks before (start_stands v.origin_epoch v.start) in
    let leaves = marks_leave_lease v.limits r marks worker lease.pid lease.done (part_held lease.process) allowed stand leased.out none leased.part in
    let same : progress_of (after_marks v marks) ≡ progress_after v.limits.quantum r marks = progress_more v.limits.quantum p v.marks marks in
    let taken : PrivatePart = leased.part.taken in
    record {
      out = ap (λ (q : Progress). list_any (is_lease worker lease.pid) q.leases) same ∙ leaves.out;
      once = leased.once;
      part = record {
        taken = taken;
        taken_is = ap (λ (q : Progress). part_of q.state.group lease.pid) same ∙ leaves.stays ∙ leased.part.taken_is;
        all_local = leased.part.all_local;
        part_is = leased.part.part_is;
      };
      faces = subst (λ (q : Progress). All (StandsOver (base_memory q) (q.touched ++ pages_of_steps taken lease.done)) (views_of lease.process.faces.entries)) (sym same)
          (faces_stay v.limits r marks worker lease.pid lease.done lease.process.regs lease.process.map.entries (views_of lease.process.faces.entries) allowed stand leased.out none leased.part (pages_of_steps taken lease.done) leased.faces);
    }

pub returns-clause-shared : goal.returns-clause-shared
unfolding is_local_part
returns-clause-shared c quantum lease stops = inr (stops.0, no_step _ stops.1)
