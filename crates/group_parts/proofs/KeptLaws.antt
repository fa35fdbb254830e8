-- What is kept stands for the group: at the start, after a Take, and once a lease is given back.
use Rattle.std.proofs.Common.{Bool, List, None, Option, Some, [], ap, arith, false, inl, inr, not, refl, subst, suc, sym, true, ℕ, ◌++◌, ◌&&◌, ◌<◌, ◌==◌, ◌||◌, ◌∙◌, ◌∷◌, ◌≡◌, ◌≤◌, ◌⊎◌}
use Rattle.std.proofs.Math.Bool.{or-true}
use Rattle.std.proofs.lemmas.Bool.{and_parts, eq-eqb, eqb-true, false≢true}
use Rattle.std.proofs.lemmas.List.Elements.{All-head, All-tail}
use Rattle.std.specs.List.{list_any}
use Rattle.std.specs.Option.{option_map}
use Rattle.std.specs.Prelude.{All, IsTrue, find, if◌then◌else◌}
use Rattle.group_defs.specs.Group.{Group, is_runner, is_running, runner}
use Rattle.group_defs.specs.Pages.{touched_with_step}
use Rattle.group_defs.specs.Standing.{State, group_barrier, is_durable}
use Rattle.group_defs.specs.Step.{do_step, is_local, is_waiting}
use Rattle.group_defs.specs.declared.frame.Proc.{Proc}
use Rattle.group_parts.proofs.LeaseLists.{taken_unleased}
use Rattle.group_parts.proofs.LeaseSteps.{lease_begins}
use Rattle.group_parts.proofs.LocalPages.{steps_touch}
use Rattle.group_parts.proofs.LocalSteps.{all_local_in_group, local_in_group, steps_change}
use Rattle.group_parts.proofs.Unleased.{unleased_taken, unleased_turned}
use Rattle.group_parts.specs.Kept.{KeptParts, PutsPart, StandsFor, TakesPart, all_parts, kept_part, parts_in}
use Rattle.group_parts.specs.Leases.{IsLeaseOf, LeasedOnce, LeasesStand, MayEnd}
use Rattle.group_parts.specs.Local.{OnlyPartChanges, is_local_part, pages_of_steps}
use Rattle.group_parts.specs.Parts.{IsApart, PrivatePart, part_in, part_of, public_part}
use Rattle.run_defs.specs.Legal.{TakeAllowed, TurnAllowed, has_moved, is_unleased}
use Rattle.run_defs.specs.Progress.{Lease, Progress, after_mark, is_lease, leases_after_turn}
use Rattle.run_defs.specs.Touched.{touched_with_steps}
use Rattle.run_defs.specs.Turns.{does_something, steps_of, turned}
use Rattle.run_defs.specs.declared.run.Limits.{Limits}
use Rattle.run_defs.specs.declared.run.Mark.TheVariants.{Take, Turn}

-- All parts of a group stand for it.
here_is : (g : Group) (procs : List Proc) (q : ℕ) → kept_part (parts_in g procs) q ≡ option_map (part_in g) (find (is_runner q) procs)
here_is g [] q = refl
here_is g (p ∷ ps) q = by_running (is_running p) (p.pid == q) refl (here_is g ps q)
  where
    by_running : (a b : Bool) → (p.pid == q) ≡ b → kept_part (parts_in g ps) q ≡ option_map (part_in g) (find (is_runner q) ps)
        → kept_part (if a then (p.pid, part_in g p) ∷ parts_in g ps else parts_in g ps) q ≡ option_map (part_in g) (if a && b then Some p else find (is_runner q) ps)
    by_running true true e ih = ap (λ (t : Bool). option_map (λ (x : ℕ × PrivatePart). x.1) (if t then Some (p.pid, part_in g p) else find (λ x. x.0 == q) (parts_in g ps))) e
    by_running true false e ih = ap (λ (t : Bool). option_map (λ (x : ℕ × PrivatePart). x.1) (if t then Some (p.pid, part_in g p) else find (λ x. x.0 == q) (parts_in g ps))) e ∙ ih
    by_running false b e ih = ih

pub all_stand : (g : Group) → StandsFor [] (all_parts g) g
unfolding part_of runner
all_stand g = record { public = refl; here = λ q. here_is g g.frame.procs q }

-- A lease goes out: its process's private part is here no more, and the lease has it.
stands_taken : (leases : List Lease) (k : KeptParts) (g : Group) (here : List (ℕ × PrivatePart)) (lease : Lease) → StandsFor leases k g → TakesPart k.here here lease.pid → StandsFor (leases ++ lease ∷ []) (record k { here = here }) g
stands_taken leases k g here lease stands takes = record {
  public = stands.public;
  here = λ q. takes q ∙ by_pid q (lease.pid == q) ∙ sym (ap (λ (t : Bool). if t then part_of g q else None) (unleased_taken leases lease q));
}
  where
    by_tests : (t f : Bool) (o : Option PrivatePart) → (if t then None else (if f then o else None)) ≡ (if (if t then false else f) then o else None)
    by_tests true f o = refl
    by_tests false f o = refl

    by_pid : (q : ℕ) (t : Bool) → (if t then None else kept_part k.here q) ≡ (if (if t then false else is_unleased leases q) then part_of g q else None)
    by_pid q t = ap (λ (o : Option PrivatePart). if t then None else o) (stands.here q) ∙ by_tests t (is_unleased leases q) (part_of g q)

pub take_stands : (limits : Limits) (r : Progress) (k : KeptParts) (worker pid : ℕ) (here : List (ℕ × PrivatePart)) → StandsFor r.leases k r.state.group → TakesPart k.here here pid
    → StandsFor (after_mark limits.quantum r (Take worker pid)).leases (record k { here = here }) (after_mark limits.quantum r (Take worker pid)).state.group
take_stands limits r k worker pid here stands takes = stands_taken r.leases k r.state.group here (record { worker = worker; pid = pid; moved = false }) stands takes

pub here_part : (leases : List Lease) (k : KeptParts) (g : Group) (pid : ℕ) → StandsFor leases k g → is_unleased leases pid ≡ true → kept_part k.here pid ≡ part_of g pid
here_part leases k g pid stands free = stands.here pid ∙ ap (λ (t : Bool). if t then part_of g pid else None) free

pub take_begins : (limits : Limits) (r : Progress) (k : KeptParts) (worker pid : ℕ) (part : PrivatePart) → StandsFor r.leases k r.state.group → TakeAllowed limits r worker pid → kept_part k.here pid ≡ Some part → IsLeaseOf r.state.group pid 0 part
take_begins limits r k worker pid part stands allowed has = lease_begins r.state.group pid part (sym (here_part r.leases k r.state.group pid stands (taken_unleased limits r worker pid allowed)) ∙ has)

-- A lease comes back after its local steps.
pub stands_back : (leases : List Lease) (k : KeptParts) (g h : Group) (here : List (ℕ × PrivatePart)) (worker pid : ℕ) (did : Bool) (part : PrivatePart) → StandsFor leases k g → OnlyPartChanges pid g h part
    → LeasedOnce leases → list_any (is_lease worker pid) leases ≡ true → PutsPart k.here here pid part → StandsFor (leases_after_turn worker pid did leases) (record k { here = here }) h
stands_back leases k g h here worker pid did part stands change once out puts = record {
  public = stands.public ∙ sym change.public;
  here = λ q. puts q ∙ by_pid q (pid == q) refl ∙ sym (ap (λ (t : Bool). if t then part_of h q else None) (unleased_turned leases worker pid did q once out));
}
  where
    by_pid : (q : ℕ) (t : Bool) → (pid == q) ≡ t → (if t then Some part else kept_part k.here q) ≡ (if (if t then true else is_unleased leases q) then part_of h q else None)
    by_pid q true e = sym (subst (λ (n : ℕ). part_of h n ≡ Some part) (eqb-true pid q e) change.part_is)
    by_pid q false e = stands.here q ∙ sym (ap (λ (o : Option PrivatePart). if is_unleased leases q then o else None) (change.others q e))

-- the lease's steps are the group's
pub lease_changes : (s : State) (pid done : ℕ) (part : PrivatePart) → IsApart s.group → IsLeaseOf s.group pid done part → OnlyPartChanges pid s.group (steps_of s pid done).group part
lease_changes s pid done part apart lease = subst (OnlyPartChanges pid s.group (steps_of s pid done).group) (sym lease.part_is) (steps_change s pid lease.taken done apart lease.taken_is lease.all_local)

-- a lease that hasn't moved is of a process that doesn't wait
acts_or_moved : (r : Progress) (worker pid : ℕ) (leases : List Lease) → All (MayEnd r) leases → list_any (is_lease worker pid) leases ≡ true → (is_waiting r.state pid ≡ false) ⊎ (has_moved leases worker pid ≡ true)
acts_or_moved r worker pid [] all out = absurd (false≢true out)
acts_or_moved r worker pid (l ∷ ls) all out = by_lease (is_lease worker pid l) refl out (λ later. acts_or_moved r worker pid ls (All-tail (MayEnd r) l ls all) later)
  where
    its : is_lease worker pid l ≡ true → MayEnd r l → (is_waiting r.state pid ≡ false) ⊎ ((true && l.moved || has_moved ls worker pid) ≡ true)
    its hit (inl moved) = inr (ap (λ (b : Bool). b || has_moved ls worker pid) moved)
    its hit (inr acts) = inl (subst (λ (n : ℕ). is_waiting r.state n ≡ false) (eqb-true l.pid pid (and_parts (l.worker == worker) (l.pid == pid) hit).1) acts)

    by_lease : (t : Bool) → is_lease worker pid l ≡ t → (t || list_any (is_lease worker pid) ls) ≡ true → (list_any (is_lease worker pid) ls ≡ true → (is_waiting r.state pid ≡ false) ⊎ (has_moved ls worker pid ≡ true))
        → (is_waiting r.state pid ≡ false) ⊎ ((t && l.moved || has_moved ls worker pid) ≡ true)
    by_lease true hit out rest = its hit (All-head (MayEnd r) l ls all)
    by_lease false hit out rest = rest out

pub lease_moves : (r : Progress) (worker pid n : ℕ) → LeasesStand r → IsTrue (list_any (is_lease worker pid) r.leases) → IsTrue (does_something r.state pid n || has_moved r.leases worker pid)
lease_moves r worker pid n stand out = by_case (acts_or_moved r worker pid r.leases stand.may_end out)
  where
    acts : (b : Bool) → not (b && false) ≡ true
    acts true = refl
    acts false = refl

    by_case : (is_waiting r.state pid ≡ false) ⊎ (has_moved r.leases worker pid ≡ true) → (does_something r.state pid n || has_moved r.leases worker pid) ≡ true
    by_case (inl still) = ap (λ (b : Bool). b || has_moved r.leases worker pid) (ap (λ (b : Bool). not ((n == 0) && b)) still ∙ acts (n == 0))
    by_case (inr moved) = ap (λ (b : Bool). does_something r.state pid n || b) moved ∙ or-true (does_something r.state pid n)

module _ (r : Progress) (worker pid done : ℕ) (part : PrivatePart) (stand : LeasesStand r) (apart : IsApart r.state.group) (out : IsTrue (list_any (is_lease worker pid) r.leases)) (lease : IsLeaseOf r.state.group pid done part) where
  -- Its Turn is allowed at the quantum, and before a step that isn't local.
  turns : (limits : Limits) → (done ≡ limits.quantum) ⊎ ((done < limits.quantum) × (is_local_part part ≡ false)) → TurnAllowed limits r worker pid done
  turns limits ends = record {
    leased = out;
    turn = record { within = within ends; all_local = all_local_in_group r.state pid lease.taken done apart lease.taken_is lease.all_local; no_more = no_more ends };
    moves = lease_moves r worker pid done stand out;
  }
    where
      within : (done ≡ limits.quantum) ⊎ ((done < limits.quantum) × (is_local_part part ≡ false)) → done ≤ limits.quantum
      within (inl same) = omega (arith, same)
      within (inr short) = let less = short.0 in omega (arith, less)

      no_more : (done ≡ limits.quantum) ⊎ ((done < limits.quantum) × (is_local_part part ≡ false)) → done < limits.quantum → is_local (steps_of r.state pid done).group pid ≡ false
      no_more (inl same) less = absurd (omega (arith, same, less))
      no_more (inr short) less = local_in_group (steps_of r.state pid done).group pid part (lease_changes r.state pid done part apart lease).part_is ∙ short.1

  -- what stands once it is back, before the step behind its local ones
  pub back_stands : (k : KeptParts) (here : List (ℕ × PrivatePart)) (did : Bool) → StandsFor r.leases k r.state.group → PutsPart k.here here pid part → StandsFor (leases_after_turn worker pid did r.leases) (record k { here = here }) (steps_of r.state pid done).group
  back_stands k here did stands puts = stands_back r.leases k r.state.group (steps_of r.state pid done).group here worker pid did part stands (lease_changes r.state pid done part apart lease) stand.once out puts

  -- and at the quantum, where that is all
  whole : (limits : Limits) (k : KeptParts) (here : List (ℕ × PrivatePart)) → done ≡ limits.quantum → StandsFor r.leases k r.state.group → PutsPart k.here here pid part
      → StandsFor (after_mark limits.quantum r (Turn worker pid done)).leases (record k { here = here }) (after_mark limits.quantum r (Turn worker pid done)).state.group
  whole limits k here same stands puts =
      let P : ℕ → Type 0 = λ n. StandsFor (leases_after_turn worker pid (does_something r.state pid done) r.leases) (record k { here = here }) (steps_of r.state pid n).group in
      subst P (sym (ap (λ (t : Bool). if t then done else suc done) (eq-eqb done limits.quantum same))) (back_stands k here (does_something r.state pid done) stands puts)

pub turn_allowed : (limits : Limits) (r : Progress) (worker pid done : ℕ) (part : PrivatePart) → LeasesStand r → IsApart r.state.group → IsTrue (list_any (is_lease worker pid) r.leases) → IsLeaseOf r.state.group pid done part
    → (done ≡ limits.quantum) ⊎ ((done < limits.quantum) × (is_local_part part ≡ false)) → TurnAllowed limits r worker pid done
turn_allowed limits r worker pid done part stand apart out lease ends = turns r worker pid done part stand apart out lease limits ends

pub whole_stands : (limits : Limits) (r : Progress) (worker pid done : ℕ) (part : PrivatePart) (k : KeptParts) (here : List (ℕ × PrivatePart)) → LeasesStand r → IsApart r.state.group → IsTrue (list_any (is_lease worker pid) r.leases) → IsLeaseOf r.state.group pid done part → done ≡ limits.quantum
    → StandsFor r.leases k r.state.group → PutsPart k.here here pid part → StandsFor (after_mark limits.quantum r (Turn worker pid done)).leases (record k { here = here }) (after_mark limits.quantum r (Turn worker pid done)).state.group
whole_stands limits r worker pid done part k here stand apart out lease same stands puts = whole r worker pid done part stand apart out lease limits k here same stands puts

pub whole_touches : (limits : Limits) (r : Progress) (worker pid done : ℕ) (part : PrivatePart) → IsApart r.state.group → (lease : IsLeaseOf r.state.group pid done part) → done ≡ limits.quantum → (after_mark limits.quantum r (Turn worker pid done)).touched ≡ r.touched ++ pages_of_steps lease.taken done
whole_touches limits r worker pid done part apart lease same =
    ap (λ (t : Bool). touched_with_steps r.state pid (if t then done else suc done) r.touched) (eq-eqb done limits.quantum same) ∙ steps_touch r.state pid lease.taken done r.touched apart lease.taken_is lease.all_local

-- Before the quantum one more step is part of the Turn.
pub short_turn : (limits : Limits) (s : State) (pid n : ℕ) → n < limits.quantum → turned limits.quantum s pid n ≡ do_step (steps_of s pid n) pid
unfolding steps_of
short_turn limits s pid n less = by_test (n == limits.quantum) refl
  where
    by_test : (t : Bool) → (n == limits.quantum) ≡ t → steps_of s pid (if t then n else suc n) ≡ do_step (steps_of s pid n) pid
    by_test true e = let same = eqb-true n limits.quantum e in absurd (omega (arith, same, less))
    by_test false e = refl

pub short_touches : (limits : Limits) (r : Progress) (worker pid done : ℕ) (part : PrivatePart) → IsApart r.state.group → (lease : IsLeaseOf r.state.group pid done part) → done < limits.quantum
    → (after_mark limits.quantum r (Turn worker pid done)).touched ≡ touched_with_step (is_durable (steps_of r.state pid done).standing pid) (steps_of r.state pid done).group pid (r.touched ++ pages_of_steps lease.taken done)
unfolding touched_with_steps
short_touches limits r worker pid done part apart lease less =
    ap (λ (t : Bool). touched_with_steps r.state pid (if t then done else suc done) r.touched) (other (done == limits.quantum) refl)
    ∙ ap (touched_with_step (is_durable (steps_of r.state pid done).standing pid) (steps_of r.state pid done).group pid) (steps_touch r.state pid lease.taken done r.touched apart lease.taken_is lease.all_local)
  where
    other : (b : Bool) → (done == limits.quantum) ≡ b → b ≡ false
    other false e = refl
    other true e = let same = eqb-true done limits.quantum e in absurd (omega (arith, same, less))

-- A barrier leaves all but the output.
pub barrier_stands : (leases : List Lease) (k : KeptParts) (g : Group) → StandsFor leases k g → StandsFor leases (record k { public = group_barrier k.public }) (group_barrier g)
unfolding part_of public_part runner
barrier_stands leases k g stands = record { public = ap group_barrier stands.public; here = stands.here }
