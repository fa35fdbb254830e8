-- A kernel after a Turn: the lease's private part is back in its row, with the step behind its local ones where it has one to make.
use Rattle.std.proofs.Common.{◌≡◌, ◌⊎◌, inl, inr, ℕ, zero, suc, ◌+◌, ◌-◌, ◌++◌, ◌<◌, ◌≤◌, ◌==◌, ◌&&◌, ◌||◌, Bool, true, false, not, List, [], ◌∷◌, length, map, Option, Some, None, refl, sym, ap, ◌∙◌, arith, subst}
use Rattle.std.proofs.lemmas.Bool.{and_parts, eq-eqb, eqb-true, false≢true}
use Rattle.std.proofs.lemmas.Bool.Decides.{nat_tests}
use Rattle.std.specs.Prelude.{All, IfSome, if◌then◌else◌, IsTrue}
use Rattle.std.specs.List.{filter, list_any}
use Rattle.address_maps.specs.declared.maps.Mapping.{Mapping}
use Rattle.descriptors.specs.declared.opens.Open.{Open}
use Rattle.group_defs.specs.Built.{IsPlain}
use Rattle.group_defs.specs.Fork.{maps_privately}
use Rattle.group_defs.specs.Group.{Group, runner}
use Rattle.group_defs.specs.Pages.{is_among, touched_with_step}
use Rattle.group_defs.specs.Standing.{State, is_durable}
use Rattle.group_defs.specs.Step.{do_step, group_step, is_local}
use Rattle.group_defs.specs.Valid.{GroupIsValid}
use Rattle.group_defs.specs.declared.frame.Frame.{Frame}
use Rattle.group_parts.specs.Kept.{KeptParts, StandsFor}
use Rattle.group_parts.specs.Leases.{IsLeaseOf, LeasedOnce, LeasesStand}
use Rattle.group_parts.specs.Local.{OnlyPartChanges, is_local_part, pages_of_steps}
use Rattle.group_parts.specs.Parts.{IsApart, PrivatePart, part_in, part_of, public_part}
use Rattle.group_parts.proofs.Apart.{valid_apart}
use Rattle.group_parts.proofs.KeptLaws.{back_stands, lease_changes, short_touches, short_turn, whole_stands, whole_touches}
use Rattle.group_parts.proofs.States.{step_group}
use Rattle.group_parts.proofs.Unleased.{unleased_turned}
use Rattle.group_parts.proofs.LocalSteps.{maps_stay}
use Rattle.group_parts.proofs.OthersParts.{behind}
use Rattle.group_parts.proofs.OwnPages.{steps_touch_own}
use Rattle.proc_lease.specs.Private.{views_of}
use Rattle.proc_lease.specs.declared.process.Process.{Process}
use Rattle.run_defs.specs.Legal.{is_unleased}
use Rattle.run_defs.specs.Progress.{Lease, Progress, after_mark, is_lease, leases_after_turn}
use Rattle.run_defs.specs.Turns.{does_something, steps_of, turned}
use Rattle.run_defs.specs.declared.run.Limits.{Limits}
use Rattle.run_defs.specs.declared.run.Mark.TheVariants.{Turn}
use Rattle.run_laws.proofs.TurnLaws.{turn_epochs}
use Rattle.group_kernel.specs.Calls.{HasOnlyServedTables}
use Rattle.group_kernel.specs.Faces.{AllStandOver, base_memory}
use Rattle.group_kernel.specs.Held.{FacesStandOver, TablesView, kept_in, with_process}
use Rattle.group_kernel.specs.Leases.{part_held}
use Rattle.group_kernel.specs.Standing.{HasRoom, IsCountOf, IsUnfetched}
use Rattle.group_kernel.specs.Steps.{MakesStep, StandsBefore}
use Rattle.group_kernel.specs.declared.ckpt.Ckpt.{Ckpt}
use Rattle.group_kernel.specs.declared.ckpt.Prepared.{Prepared}
use Rattle.group_kernel.specs.declared.log.Log.{Log}
use Rattle.group_kernel.proofs.BesideFaces.{faces_stand}
use Rattle.group_kernel.proofs.HereParts.{HasRow, public_same, puts_here}
use Rattle.group_kernel.proofs.LeaseMarks.{same_base}
use Rattle.group_kernel.proofs.Standings.{StandsAt, unfetched_stays}
use Rattle.group_kernel.proofs.Takes.{owners_with}

-- ---- one lease less

none_left : (worker pid : ℕ) (leases : List Lease) → is_unleased leases pid ≡ true → filter (λ l. not (is_lease worker pid l)) leases ≡ leases
none_left worker pid [] free = refl
none_left worker pid (l ∷ ls) free = by_test (l.pid == pid) refl free (none_left worker pid ls)
  where
    other : (l.pid == pid) ≡ false → not (is_lease worker pid l) ≡ true
    other e = ap not (ap (λ (b : Bool). (l.worker == worker) && b) e ∙ none (l.worker == worker))
      where
        none : (b : Bool) → (b && false) ≡ false
        none true = refl
        none false = refl

    by_test : (b : Bool) → (l.pid == pid) ≡ b → not (b || list_any (λ x. x.pid == pid) ls) ≡ true → (is_unleased ls pid ≡ true → filter (λ x. not (is_lease worker pid x)) ls ≡ ls) → filter (λ x. not (is_lease worker pid x)) (l ∷ ls) ≡ l ∷ ls
    by_test true e free rest = absurd (false≢true free)
    by_test false e free rest = rw (other e) (ap (λ xs. l ∷ xs) (rest free))

same_length : {X Y : Type 0} (f : X → Y) (xs : List X) → length (map f xs) ≡ length xs
same_length f [] = refl
same_length f (x ∷ xs) = ap suc (same_length f xs)

one_less : (worker pid : ℕ) (leases : List Lease) → LeasedOnce leases → list_any (is_lease worker pid) leases ≡ true → length (filter (λ l. not (is_lease worker pid l)) leases) + 1 ≡ length leases
one_less worker pid [] once out = absurd (false≢true out)
one_less worker pid (l ∷ ls) once out = by_test (is_lease worker pid l) refl out (one_less worker pid ls once.1)
  where
    by_test : (b : Bool) → is_lease worker pid l ≡ b → (b || list_any (is_lease worker pid) ls) ≡ true → (list_any (is_lease worker pid) ls ≡ true → length (filter (λ x. not (is_lease worker pid x)) ls) + 1 ≡ length ls)
        → length (filter (λ x. not (is_lease worker pid x)) (l ∷ ls)) + 1 ≡ suc (length ls)
    by_test true e out rest =
        let same : l.pid ≡ pid = eqb-true l.pid pid (and_parts (l.worker == worker) (l.pid == pid) e).1 in
        let left : filter (λ x. not (is_lease worker pid x)) ls ≡ ls = none_left worker pid ls (subst (λ (n : ℕ). is_unleased ls n ≡ true) same once.0) in
        let gone : not (is_lease worker pid l) ≡ false = ap not e in
        rw gone (let n : length (filter (λ x. not (is_lease worker pid x)) ls) ≡ length ls = ap length left in omega (arith, n))
    by_test false e out rest =
        let stays : not (is_lease worker pid l) ≡ true = ap not e in
        rw stays (let n = rest out in omega (arith, n))

pub leases_less : (worker pid : ℕ) (did : Bool) (leases : List Lease) → LeasedOnce leases → list_any (is_lease worker pid) leases ≡ true → length leases - 1 ≡ length (leases_after_turn worker pid did leases)
leases_less worker pid did leases once out =
    let n = one_less worker pid leases once out in
    let same : length (leases_after_turn worker pid did leases) ≡ length (filter (λ l. not (is_lease worker pid l)) leases) = same_length (λ (l : Lease). record l { moved = did || l.moved }) (filter (λ l. not (is_lease worker pid l)) leases) in
    omega (arith, n, same)

-- ---- the tables of a group stay through local steps
served_by_public : (g h : Group) → public_part h ≡ public_part g → HasOnlyServedTables g.frame → HasOnlyServedTables h.frame
unfolding public_part
served_by_public g h same served = record {
  files = ap (λ (x : Group). x.frame.files) same ∙ served.files;
  pipes = ap (λ (x : Group). x.frame.pipes) same ∙ served.pipes;
  pairs = ap (λ (x : Group). x.frame.pairs) same ∙ served.pairs;
  opens = subst (λ (l : List Open). All (λ o. IsPlain o.kind) l) (sym (ap (λ (x : Group). x.frame.opens) same)) served.opens;
}

-- ---- the Turn

abbrev pub IsTurnLogged : Log → Log → Type 0
IsTurnLogged log log' = log' ≡ record log { marks = log'.marks; leases = log.leases - 1; turns = log.turns + 1; turns_since = log.turns_since + 1 }

module _ (limits : Limits) (r : Progress) (t : TablesView) (log log' : Log) (prepared : Option Prepared) (frozen : Option Ckpt) (s : StandsAt r t log prepared frozen) (valid : GroupIsValid r.state.group) (stand : LeasesStand r)
    (worker pid done : ℕ) (process : Process) (out : IsTrue (list_any (is_lease worker pid) r.leases)) (part : IsLeaseOf r.state.group pid done (part_held process))
    (own : AllStandOver (base_memory r) (r.touched ++ pages_of_steps part.taken done) (views_of process.faces.entries)) (row : HasRow t.rows pid) (logged : IsTurnLogged log log') (room : HasRoom log' 0) where
  abbrev after : Progress
  after = after_mark limits.quantum r (Turn worker pid done)

  apart : IsApart r.state.group
  apart = valid_apart r.state.group valid

  counts_after : IsCountOf (after_mark limits.quantum r (Turn worker pid done)) log'
  counts_after = record {
    turns = ap (λ (l : Log). l.turns) logged ∙ ap (λ (n : ℕ). n + 1) s.counts.turns;
    turns_since = ap (λ (l : Log). l.turns_since) logged ∙ ap (λ (n : ℕ). n + 1) s.counts.turns_since;
    leases = ap (λ (l : Log). l.leases) logged ∙ ap (λ (n : ℕ). n - 1) s.counts.leases ∙ leases_less worker pid (does_something r.state pid done) r.leases stand.once out;
    taken = ap (λ (l : Log). l.taken) logged ∙ s.counts.taken;
    last = ap (λ (l : Log). l.last) logged ∙ s.counts.last ∙ sym (turn_epochs limits.quantum r.state pid done).0;
    fetched = ap (λ (l : Log). l.fetched) logged ∙ s.counts.fetched;
    acked = ap (λ (l : Log). l.acked) logged ∙ s.counts.acked ∙ sym (turn_epochs limits.quantum r.state pid done).1;
  }

  base_after : base_memory (after_mark limits.quantum r (Turn worker pid done)) ≡ base_memory r
  base_after = same_base r (after_mark limits.quantum r (Turn worker pid done)) refl (turn_epochs limits.quantum r.state pid done).0

  frozen_after : IfSome frozen (IsUnfetched (after_mark limits.quantum r (Turn worker pid done)))
  frozen_after = unfetched_stays r (after_mark limits.quantum r (Turn worker pid done)) frozen refl (turn_epochs limits.quantum r.state pid done).0 refl s.frozen_is

  -- with the process put in, faces stand with the pages of its local steps
  faces_back : FacesStandOver (base_memory r) (r.touched ++ pages_of_steps part.taken done) (with_process t pid (Some process))
  faces_back =
      let (p, found, same) = behind r.state.group pid part.taken part.taken_is in
      let maps : p.maps ≡ part.taken.maps = ap (λ (x : PrivatePart). x.maps) same in
      faces_stand r.state.group valid pid p found t r.leases s.stands (base_memory r) r.touched (pages_of_steps part.taken done) process
      (λ object page none. steps_touch_own part.taken done object page (ap (λ (l : List Mapping). maps_privately l object) (sym maps) ∙ none)) own s.faces

  served_back : HasOnlyServedTables (steps_of r.state pid done).group.frame
  served_back = served_by_public r.state.group (steps_of r.state pid done).group (lease_changes r.state pid done (part_held process) apart part).public s.served

  with_public : {leases : List Lease} {g : Group} → StandsFor leases (record (kept_in t) { here = (kept_in (with_process t pid (Some process))).here }) g → StandsFor leases (kept_in (with_process t pid (Some process))) g
  with_public {leases = leases} {g = g} stands =
      subst (λ (x : Group). StandsFor leases (record { public = x; here = (kept_in (with_process t pid (Some process))).here }) g) (sym (public_same t pid (Some process))) stands

  pub give_whole : done ≡ limits.quantum → StandsAt (after_mark limits.quantum r (Turn worker pid done)) (with_process t pid (Some process)) log' None frozen
  give_whole whole = record {
    stands = with_public (whole_stands limits r worker pid done (part_held process) (kept_in t) (kept_in (with_process t pid (Some process))).here stand apart out part whole s.stands (puts_here t pid process row));
    faces = subst (λ (m : List (ℕ × List ℕ)). FacesStandOver m (after_mark limits.quantum r (Turn worker pid done)).touched (with_process t pid (Some process))) (sym base_after)
        (subst (λ (l : List (ℕ × ℕ)). FacesStandOver (base_memory r) l (with_process t pid (Some process))) (sym (whole_touches limits r worker pid done (part_held process) apart part whole)) faces_back);
    owners = owners_with t pid (Some process) s.owners;
    served = subst (λ (x : State). HasOnlyServedTables x.group.frame) (sym turned_whole) served_back;
    counts = counts_after;
    room = room;
    prepared_is = tt;
    frozen_is = frozen_after;
    fetched = λ none. ap (λ (l : Log). l.fetched) logged ∙ s.fetched none ∙ sym (ap (λ (l : Log). l.last) logged);
  }
    where
      turned_whole : turned limits.quantum r.state pid done ≡ steps_of r.state pid done
      turned_whole = ap (λ (b : Bool). steps_of r.state pid (if b then done else suc done)) (eq-eqb done limits.quantum whole)

  -- what stands before the step behind the local ones
  before : GroupIsValid (steps_of r.state pid done).group → is_local (steps_of r.state pid done).group pid ≡ false
      → StandsBefore (with_process t pid (Some process)) (leases_after_turn worker pid (does_something r.state pid done) r.leases) (steps_of r.state pid done).group pid
  before within not_local = record {
    valid = within;
    served = served_back;
    unleased = free_after;
    not_local = not_local;
    owners = owners_with t pid (Some process) s.owners;
    stands = with_public (back_stands r worker pid done (part_held process) stand apart out part (kept_in t) (kept_in (with_process t pid (Some process))).here (does_something r.state pid done) s.stands (puts_here t pid process row));
  }
    where
      free_after : is_unleased (leases_after_turn worker pid (does_something r.state pid done) r.leases) pid ≡ true
      free_after = unleased_turned r.leases worker pid (does_something r.state pid done) pid stand.once out ∙ ap (λ (b : Bool). if b then true else is_unleased r.leases pid) (eq-eqb pid pid refl)

  pub give_short : (new : TablesView) → done < limits.quantum → GroupIsValid (steps_of r.state pid done).group → is_local (steps_of r.state pid done).group pid ≡ false
      → ((durable : Bool) (g : Group) → GroupIsValid g → HasOnlyServedTables g.frame → HasOnlyServedTables (group_step durable g pid).frame)
      → MakesStep (with_process t pid (Some process)) new pid → StandsAt (after_mark limits.quantum r (Turn worker pid done)) new log' None frozen
  give_short new less within not_local keeps makes =
      let at : State = steps_of r.state pid done in
      let durable : Bool = is_durable at.standing pid in
      let turned_group : (turned limits.quantum r.state pid done).group ≡ group_step durable at.group pid = ap (λ (x : State). x.group) (short_turn limits r.state pid done less) ∙ step_group at pid in
      let leases' : List Lease = leases_after_turn worker pid (does_something r.state pid done) r.leases in
      record {
        stands = subst (λ (x : Group). StandsFor leases' (kept_in new) x) (sym turned_group) (makes.stands durable leases' at.group (before within not_local));
        faces = subst (λ (m : List (ℕ × List ℕ)). FacesStandOver m (after_mark limits.quantum r (Turn worker pid done)).touched new) (sym base_after)
            (subst (λ (l : List (ℕ × ℕ)). FacesStandOver (base_memory r) l new) (sym (short_touches limits r worker pid done (part_held process) apart part less))
            (makes.faces durable leases' at.group (base_memory r) (r.touched ++ pages_of_steps part.taken done) (before within not_local) faces_back));
        owners = makes.owners leases' at.group (before within not_local);
        served = subst (λ (x : Group). HasOnlyServedTables x.frame) (sym turned_group) (keeps durable at.group within served_back);
        counts = counts_after;
        room = room;
        prepared_is = tt;
        frozen_is = frozen_after;
        fetched = λ none. ap (λ (l : Log). l.fetched) logged ∙ s.fetched none ∙ sym (ap (λ (l : Log). l.last) logged);
      }
