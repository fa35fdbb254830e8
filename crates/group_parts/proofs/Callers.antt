-- What is kept of a process without a lease tells the process, and the bytes of objects.
use Rattle.std.proofs.Common.{Bool, List, None, Option, Some, [], ap, false, get_or, inl, inr, map, not, refl, sym, true, ℕ, ◌&&◌, ◌==◌, ◌∙◌, ◌∷◌, ◌≡◌, ◌⊎◌}
use Rattle.std.proofs.lemmas.Bool.{and_parts, eq-eqb, false≢true}
use Rattle.std.proofs.lemmas.List.Elements.{All-filter, All-map}
use Rattle.std.specs.List.{list_any}
use Rattle.std.specs.Option.{option_map}
use Rattle.std.specs.Prelude.{All, Any, filter, find, if◌then◌else◌}
use Rattle.group_defs.specs.Cells.{bytes_in}
use Rattle.group_defs.specs.Fork.{maps_privately}
use Rattle.group_defs.specs.Group.{Group, is_runner, is_running, runner}
use Rattle.group_defs.specs.Step.{is_waiting}
use Rattle.address_maps.specs.declared.maps.Mapping.{Mapping}
use Rattle.group_defs.specs.Valid.{GroupIsValid}
use Rattle.group_defs.specs.declared.frame.ObjectRec.{ObjectRec}
use Rattle.group_defs.specs.declared.frame.Proc.{Proc}
use Rattle.group_laws.proofs.Inside.{found_has}
use Rattle.group_laws.proofs.Lists.{all_filter, any_all, any_at, any_true, any_weaker, true_any}
use Rattle.group_laws.proofs.ObjectBytes.{kept_bytes}
use Rattle.group_laws.proofs.WriteFileLaws.{zip_there}
use Rattle.group_parts.proofs.KeptLaws.{here_part}
use Rattle.group_parts.proofs.LeaseLists.{next_has, taken_unleased}
use Rattle.group_parts.proofs.Memory.{kept_in}
use Rattle.group_parts.proofs.OthersParts.{behind}
use Rattle.group_parts.proofs.Runners.{ended_maps, runner_found, some_found}
use Rattle.group_parts.proofs.Sight.{bytes_at, gone_entry, kept_entry}
use Rattle.group_parts.specs.Kept.{KeptParts, StandsFor, filled, kept_part}
use Rattle.group_parts.specs.Parts.{PrivatePart, is_private, is_public, part_in, part_of, public_part, public_process, shared_mappings}
use Rattle.run_defs.specs.Legal.{TakeAllowed, is_unleased, ready}
use Rattle.run_defs.specs.Progress.{Lease, Progress}
use Rattle.run_defs.specs.declared.run.Limits.{Limits}

-- a process's row is found by its pid
row_found : (pid : ℕ) (procs : List Proc) → find (is_runner pid) (map public_process procs) ≡ option_map public_process (find (is_runner pid) procs)
row_found pid [] = refl
row_found pid (y ∷ ys) = ap (λ (b : Bool). if b then Some (public_process y) else find (is_runner pid) (map public_process ys)) (same (is_running y)) ∙ by_test (is_runner pid y) (row_found pid ys)
  where
    same : (b : Bool) → is_runner pid (if b then record y { pc = 0; regs = []; maps = shared_mappings y.maps } else y) ≡ is_runner pid y
    same true = refl
    same false = refl

    by_test : (b : Bool) → find (is_runner pid) (map public_process ys) ≡ option_map public_process (find (is_runner pid) ys) → (if b then Some (public_process y) else find (is_runner pid) (map public_process ys)) ≡ option_map public_process (if b then Some y else find (is_runner pid) ys)
    by_test true rest = refl
    by_test false rest = rest

whole : (g : Group) (p : Proc) → is_running p ≡ true → filled (Some (part_in g p)) (public_process p) ≡ p
whole g p runs = ap (λ (b : Bool). filled (Some (part_in g p)) (if b then record p { pc = 0; regs = []; maps = shared_mappings p.maps } else p)) runs

-- WHO CALLS: the row of the public part, with the private part that is here
pub caller_is : (leases : List Lease) (k : KeptParts) (g : Group) (pid : ℕ) (row : Proc) (part : PrivatePart) → StandsFor leases k g → is_unleased leases pid ≡ true → runner k.public pid ≡ Some row → kept_part k.here pid ≡ Some part → runner g pid ≡ Some (filled (Some part) row)
unfolding runner public_part
caller_is leases k g pid row part stands free there here =
    let (p, found, same) = behind g pid part (sym (here_part leases k g pid stands free) ∙ here) in
    let runs : is_running p ≡ true = (and_parts (is_running p) (p.pid == pid) (found_has (λ x. Unit {0}) (is_runner pid) g.frame.procs p (λ k d lt. tt) found).1).0 in
    let ends : Some row ≡ Some (public_process p) = sym there ∙ ap (λ (x : Group). find (is_runner pid) x.frame.procs) stands.public ∙ row_found pid g.frame.procs ∙ ap (option_map public_process) found in
    let row_is : row ≡ public_process p = cc in
    found ∙ ap (λ (x : Proc). Some x) (sym (whole g p runs)) ∙ ap (λ (x : Proc). Some (filled (Some (part_in g p)) x)) (sym row_is) ∙ ap (λ (s : PrivatePart). Some (filled (Some s) row)) same

-- whose turn is next runs
pub next_runs : (limits : Limits) (r : Progress) (worker pid : ℕ) → TakeAllowed limits r worker pid → list_any (is_runner pid) r.state.group.frame.procs ≡ true
unfolding ready
next_runs limits r worker pid allowed =
    next_has Runs r.taken (filter (is_unleased r.leases) (ready r.state)) pid (All-filter (is_unleased r.leases) Runs (ready r.state) (All-map Runs (λ (p : Proc). p.pid) (filter test procs) each)) allowed.next
  where
    procs : List Proc
    procs = r.state.group.frame.procs

    test : Proc → Bool
    test p = is_running p && not (is_waiting r.state p.pid)

    Runs : ℕ → Type 0
    Runs n = list_any (is_runner n) r.state.group.frame.procs ≡ true

    found : All (λ (p : Proc). is_running p ≡ true → list_any (is_runner p.pid) r.state.group.frame.procs ≡ true) r.state.group.frame.procs
    found k d lt runs =
        let p = get_or r.state.group.frame.procs k d in
        true_any (is_runner p.pid) r.state.group.frame.procs (any_at (λ x. is_runner p.pid x ≡ true) r.state.group.frame.procs k d lt (ap (λ (b : Bool). b && (p.pid == p.pid)) runs ∙ eq-eqb p.pid p.pid refl))

    each : All (λ (p : Proc). Runs p.pid) (filter test procs)
    each = all_filter (λ (p : Proc). is_running p ≡ true → list_any (is_runner p.pid) r.state.group.frame.procs ≡ true) (λ (p : Proc). list_any (is_runner p.pid) r.state.group.frame.procs ≡ true) test (λ p f hit. f (and_parts (is_running p) (not (is_waiting r.state p.pid)) hit).0) r.state.group.frame.procs found

-- and so the process of a Take is here
pub taken_here : (limits : Limits) (r : Progress) (k : KeptParts) (worker pid : ℕ) → StandsFor r.leases k r.state.group → TakeAllowed limits r worker pid → (part : PrivatePart) × (kept_part k.here pid ≡ Some part)
unfolding part_of runner
taken_here limits r k worker pid stands allowed =
    let (p, found) = some_found (is_runner pid) r.state.group.frame.procs (next_runs limits r worker pid allowed) in
    (part_in r.state.group p, here_part r.leases k r.state.group pid stands (taken_unleased limits r worker pid allowed) ∙ ap (option_map (part_in r.state.group)) found)

-- Bytes of objects: those that are mapped privately, and the public ones.
pub private_bytes : (leases : List Lease) (k : KeptParts) (g : Group) (pid object : ℕ) (part : PrivatePart) → StandsFor leases k g → is_unleased leases pid ≡ true → kept_part k.here pid ≡ Some part → maps_privately part.maps object ≡ true → bytes_in part.memory object ≡ bytes_in g.memory object
private_bytes leases k g pid object part stands free here own =
    let (p, found, same) = behind g pid part (sym (here_part leases k g pid stands free) ∙ here) in
    ap (λ (s : PrivatePart). bytes_in s.memory object) (sym same) ∙ kept_bytes (maps_privately p.maps) object g.memory (ap (λ (s : PrivatePart). maps_privately s.maps object) same ∙ own)

pub public_bytes : (leases : List Lease) (k : KeptParts) (g : Group) (object : ℕ) (entry : ℕ × List ℕ) → StandsFor leases k g → find (λ o. o.0 == object) k.public.memory ≡ Some entry → bytes_in g.memory object ≡ entry.1
unfolding public_part
public_bytes leases k g object entry stands there = by_test (is_public g.frame.procs object) refl
  where
    its : find (λ o. o.0 == object) (kept_in (is_public g.frame.procs) g.memory) ≡ Some entry
    its = ap (λ (x : Group). find (λ o. o.0 == object) x.memory) (sym stands.public) ∙ there

    by_test : (b : Bool) → is_public g.frame.procs object ≡ b → bytes_in g.memory object ≡ entry.1
    by_test true e = ap bytes_at (sym (kept_entry (is_public g.frame.procs) g.memory object e) ∙ its)
    by_test false e = let none : None ≡ Some entry = sym (gone_entry (is_public g.frame.procs) g.memory object e) ∙ its in absurd (cc)

-- With no lease out each object of the group is in one of the parts.
pub each_object : (k : KeptParts) (g : Group) (o : ObjectRec) → StandsFor [] k g → GroupIsValid g → Any (λ x. x ≡ o) g.frame.objects
    → ((entry : ℕ × List ℕ) × (find (λ e. e.0 == o.number) k.public.memory ≡ Some entry)) ⊎ ((pid : ℕ) × (part : PrivatePart) × (kept_part k.here pid ≡ Some part) × (maps_privately part.maps o.number ≡ true))
unfolding public_part part_of runner
each_object k g o stands valid there = by_test (is_private g.frame.procs o.number) refl
  where
    entry : (x : Option (ℕ × List ℕ)) → find (λ e. e.0 == o.number) g.memory ≡ x → (e : ℕ × List ℕ) × (find (λ e. e.0 == o.number) g.memory ≡ Some e)
    entry None e = absurd (zip_there g.frame.objects g.memory o.number valid.sound.memory.bytes (any_weaker (λ x. x ≡ o) (λ x. x.number ≡ o.number) g.frame.objects (λ x same. ap (λ (y : ObjectRec). y.number) same) there) e)
    entry (Some x) e = (x, e)

    owner : Any (λ q. (maps_privately q.maps o.number ≡ true) × (is_running q ≡ false → q.maps ≡ [])) g.frame.procs → (pid : ℕ) × (part : PrivatePart) × (kept_part k.here pid ≡ Some part) × (maps_privately part.maps o.number ≡ true)
    owner (i, q, lt, at, both) =
        let runs : is_running q ≡ true = running (is_running q) refl in
        let found = runner_found g.frame.procs q valid.sound.frame.procs.rise (i, q, lt, at, refl) runs in
        (q.pid, part_in g q, stands.here q.pid ∙ ap (option_map (part_in g)) found, both.0)
      where
        running : (b : Bool) → is_running q ≡ b → b ≡ true
        running true e = refl
        running false e = absurd (false≢true (sym (ap (λ (l : List Mapping). maps_privately l o.number) (both.1 e)) ∙ both.0))

    by_test : (b : Bool) → is_private g.frame.procs o.number ≡ b → ((e : ℕ × List ℕ) × (find (λ e. e.0 == o.number) k.public.memory ≡ Some e)) ⊎ ((pid : ℕ) × (part : PrivatePart) × (kept_part k.here pid ≡ Some part) × (maps_privately part.maps o.number ≡ true))
    by_test false e =
        let its = entry (find (λ e. e.0 == o.number) g.memory) refl in
        inl (its.0, ap (λ (x : Group). find (λ e. e.0 == o.number) x.memory) stands.public ∙ kept_entry (is_public g.frame.procs) g.memory o.number (ap not e) ∙ its.1)
    by_test true e =
        inr (owner (any_all (λ q. maps_privately q.maps o.number ≡ true) (λ q. is_running q ≡ false → q.maps ≡ []) g.frame.procs (any_true (λ q. maps_privately q.maps o.number) g.frame.procs e) (ended_maps g valid)))
