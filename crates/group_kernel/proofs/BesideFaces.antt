-- Faces of the public part and of other processes are of objects that a process doesn't map privately.
use Rattle.std.proofs.Common.{◌≡◌, ◌⊎◌, inl, inr, ℕ, zero, suc, ◌+◌, ◌++◌, ◌<◌, ◌≤◌, ◌==◌, ◌&&◌, ◌||◌, Bool, true, false, not, List, [], ◌∷◌, length, map, get_or, Option, Some, None, refl, sym, ap, ◌∙◌, arith, subst}
use Rattle.std.proofs.lemmas.Bool.{and_parts, cases_Bool, eq-eqb, eqb-true, false≢true}
use Rattle.std.proofs.lemmas.Bool.Decides.{nat_tests}
use Rattle.std.proofs.lemmas.List.Elements.{All-from_recursion, recursion_from_All}
use Rattle.std.specs.Prelude.{All, Any, IfSome, find, if◌then◌else◌}
use Rattle.std.specs.List.{AllByRecursion, cons_option, filter_map, list_any}
use Rattle.std.specs.Option.{option_map}
use Rattle.address_maps.specs.declared.maps.Mapping.{Mapping}
use Rattle.group_defs.specs.Fork.{maps_privately}
use Rattle.group_defs.specs.Group.{Group, is_runner, runner}
use Rattle.group_defs.specs.Mappings.{IsInside}
use Rattle.group_defs.specs.Objects.{maps_object}
use Rattle.group_defs.specs.Valid.{GroupIsValid}
use Rattle.group_defs.specs.declared.frame.ObjectRec.{ObjectRec}
use Rattle.group_defs.specs.declared.frame.Proc.{Proc}
use Rattle.group_laws.proofs.Lists.{any_all, any_at, any_true, any_weaker, found_is, true_any}
use Rattle.group_laws.proofs.Inside.{found_has}
use Rattle.group_parts.proofs.Runners.{some_found}
use Rattle.group_parts.proofs.Sight.{gone_entry}
use Rattle.group_parts.specs.Kept.{StandsFor}
use Rattle.group_parts.specs.Parts.{IsApart, PrivatePart, is_private, is_public, part_in, part_of, public_part}
use Rattle.group_parts.proofs.Apart.{valid_apart}
use Rattle.group_parts.proofs.OthersParts.{behind}
use Rattle.group_defs.specs.Pages.{is_among}
use Rattle.proc_lease.specs.Private.{ObjectView, memory_of, views_of}
use Rattle.proc_lease.specs.declared.process.Process.{Process}
use Rattle.run_defs.specs.Legal.{is_unleased}
use Rattle.tables.proofs.Ordered.{each_both, each_of_map, each_weaker}
use Rattle.run_defs.specs.Progress.{Lease}
use Rattle.group_kernel.specs.Faces.{AllStandOver, StandsOver}
use Rattle.group_kernel.specs.Held.{FacesStandOver, TablesView, kept_in, public_memory, public_objects, view_in, with_process}
use Rattle.group_kernel.specs.Leases.{part_held}
use Rattle.group_kernel.specs.declared.row.Row.{Row}
use Rattle.group_kernel.proofs.HereParts.{here_of, rows_with}
use Rattle.group_kernel.proofs.LeaseMarks.{kept_pass}
use Rattle.group_kernel.proofs.RowPids.{here_at, pids_rise}
use Rattle.group_kernel.proofs.StoredSets.{stands_beside}
use Rattle.group_kernel.proofs.Takes.{HasFaces}

-- ---- what is found

in_table : (objects : List ObjectView) (records : List ObjectRec) (number : ℕ) (v : ObjectView) → view_in objects number ≡ Some v → Any (λ d. d.number ≡ number) records
    → list_any (λ (e : ℕ × List ℕ). e.0 == number) (filter_map (λ d. option_map (λ (x : ObjectView). (d.number, x.bytes)) (view_in objects d.number)) records) ≡ true
in_table objects [] number v found (k, d, lt, is, same) = absurd (omega (arith, lt))
in_table objects (r ∷ rs) number v found (zero, d, lt, is, same) =
    let here : r.number ≡ number = ap (λ (x : ObjectRec). x.number) is ∙ same in
    let its : view_in objects r.number ≡ Some v = ap (view_in objects) here ∙ found in
    let hit : (r.number == number) ≡ true = eq-eqb r.number number here in
    rw its (ap (λ (b : Bool). b || list_any (λ (e : ℕ × List ℕ). e.0 == number) (filter_map (λ d. option_map (λ (x : ObjectView). (d.number, x.bytes)) (view_in objects d.number)) rs)) hit)
in_table objects (r ∷ rs) number v found (suc k, d, lt, is, same) = by_view (view_in objects r.number) (in_table objects rs number v found (k, d, omega (arith, lt), is, same))
  where
    rest : List (ℕ × List ℕ)
    rest = filter_map (λ d. option_map (λ (x : ObjectView). (d.number, x.bytes)) (view_in objects d.number)) rs

    more : (b : Bool) → list_any (λ (e : ℕ × List ℕ). e.0 == number) rest ≡ true → (b || list_any (λ (e : ℕ × List ℕ). e.0 == number) rest) ≡ true
    more true later = refl
    more false later = later

    by_view : (o : Option ObjectView) → list_any (λ (e : ℕ × List ℕ). e.0 == number) rest ≡ true
        → list_any (λ (e : ℕ × List ℕ). e.0 == number) (cons_option (option_map (λ (x : ObjectView). (r.number, x.bytes)) o) rest) ≡ true
    by_view None later = later
    by_view (Some x) later = more (r.number == number) later

no_find : {X : Type 0} (t : X → Bool) (xs : List X) → list_any t xs ≡ true → find t xs ≡ None → ⊥
no_find t xs any none = let (y, found) = some_found t xs any in let never : None ≡ Some y = sym none ∙ found in cc

-- ---- a process's privately mapped objects

module _ (g : Group) (valid : GroupIsValid g) (pid : ℕ) (p : Proc) (runs : runner g pid ≡ Some p) (number : ℕ) (own : maps_privately p.maps number ≡ true) where
  maps_it : Any (λ (m : Mapping). (m.object == number) ≡ true) p.maps
  maps_it = any_weaker (λ (m : Mapping). ((m.object == number) && not m.shared) ≡ true) (λ m. (m.object == number) ≡ true) p.maps (λ m both. (and_parts (m.object == number) (not m.shared) both).0) (any_true (λ m. (m.object == number) && not m.shared) p.maps own)

  pub is_there : Any (λ (o : ObjectRec). o.number ≡ number) g.frame.objects
  unfolding runner IsInside
  is_there =
      let inside : All (IsInside g.frame.objects) p.maps = (found_has (λ (q : Proc). All (IsInside g.frame.objects) q.maps) (is_runner pid) g.frame.procs p valid.sound.frame.maps.inside runs).0 in
      by_mapping (any_all (λ (m : Mapping). (m.object == number) ≡ true) (IsInside g.frame.objects) p.maps maps_it inside)
    where
      by_mapping : Any (λ (m : Mapping). ((m.object == number) ≡ true) × IsInside g.frame.objects m) p.maps → Any (λ (o : ObjectRec). o.number ≡ number) g.frame.objects
      by_mapping (k, m, lt, is, both) =
          any_weaker (λ (o : ObjectRec). (o.number ≡ m.object) × (m.first + m.pages ≤ o.pages)) (λ o. o.number ≡ number) g.frame.objects (λ o its. its.0 ∙ eqb-true m.object number both.0) both.1

  one_maps : is_private g.frame.procs number ≡ true
  unfolding runner
  one_maps =
      true_any (λ (q : Proc). maps_privately q.maps number) g.frame.procs
      (any_weaker (λ (q : Proc). (q ≡ p) × (is_runner pid q ≡ true)) (λ q. maps_privately q.maps number ≡ true) g.frame.procs (λ q its. ap (λ (x : Proc). maps_privately x.maps number) its.0 ∙ own) (found_is (is_runner pid) g.frame.procs p runs))

  -- no public face is of it
  not_public : (t : TablesView) (leases : List Lease) → StandsFor leases (kept_in t) g → (v : ObjectView) → view_in (public_objects t) number ≡ Some v → ⊥
  unfolding public_part
  not_public t leases stands v found =
      let records : t.objects ≡ g.frame.objects = ap (λ (x : Group). x.frame.objects) stands.public in
      let listed : list_any (λ (e : ℕ × List ℕ). e.0 == number) (public_memory t) ≡ true = in_table (public_objects t) t.objects number v found (subst (λ (l : List ObjectRec). Any (λ (o : ObjectRec). o.number ≡ number) l) (sym records) is_there) in
      let memory : public_memory t ≡ _ = ap (λ (x : Group). x.memory) stands.public in
      let none : find (λ (e : ℕ × List ℕ). e.0 == number) (public_memory t) ≡ None = ap (λ (l : List (ℕ × List ℕ)). find (λ (e : ℕ × List ℕ). e.0 == number) l) memory ∙ gone_entry (is_public g.frame.procs) g.memory number (ap not one_maps) in
      no_find (λ (e : ℕ × List ℕ). e.0 == number) (public_memory t) listed none

-- each public face is of an object that no running process maps privately
pub public_beside : (g : Group) → GroupIsValid g → (pid : ℕ) (p : Proc) → runner g pid ≡ Some p → (t : TablesView) (leases : List Lease) → StandsFor leases (kept_in t) g
    → All (λ (o : ObjectView). maps_privately p.maps o.number ≡ false) (public_objects t)
public_beside g valid pid p runs t leases stands k d lt = by_test (maps_privately p.maps (get_or (public_objects t) k d).number) refl
  where
    o : ObjectView
    o = get_or (public_objects t) k d

    listed : list_any (λ (x : ObjectView). x.number == (get_or (public_objects t) k d).number) (public_objects t) ≡ true
    listed = true_any (λ (x : ObjectView). x.number == (get_or (public_objects t) k d).number) (public_objects t)
        (any_at (λ (x : ObjectView). (x.number == (get_or (public_objects t) k d).number) ≡ true) (public_objects t) k d lt (eq-eqb (get_or (public_objects t) k d).number (get_or (public_objects t) k d).number refl))

    by_test : (b : Bool) → maps_privately p.maps (get_or (public_objects t) k d).number ≡ b → b ≡ false
    by_test false e = refl
    by_test true e =
        let (v, found) = some_found (λ (x : ObjectView). x.number == (get_or (public_objects t) k d).number) (public_objects t) listed in
        absurd (not_public g valid pid p runs (get_or (public_objects t) k d).number e t leases stands v found)

-- Each face of another process is of an object that this one doesn't map privately.
module _ (g : Group) (valid : GroupIsValid g) (pid : ℕ) (p : Proc) (runs : runner g pid ≡ Some p) (t : TablesView) (leases : List Lease) (stands : StandsFor leases (kept_in t) g) where
  own_or_other : (number : ℕ) (q : Proc) (other : ℕ) → (pid == other) ≡ false → runner g other ≡ Some q → maps_privately q.maps number ≡ true → maps_privately p.maps number ≡ false
  unfolding IsApart maps_object
  own_or_other number q other differ found theirs = by_test (maps_privately p.maps number) refl
    where
      by_test : (b : Bool) → maps_privately p.maps number ≡ b → b ≡ false
      by_test false e = refl
      by_test true e =
          let mapped : list_any (λ (m : Mapping). m.object == number) p.maps ≡ true =
          true_any (λ (m : Mapping). m.object == number) p.maps (any_weaker (λ (m : Mapping). ((m.object == number) && not m.shared) ≡ true) (λ m. (m.object == number) ≡ true) p.maps (λ m both. (and_parts (m.object == number) (not m.shared) both).0) (any_true (λ m. (m.object == number) && not m.shared) p.maps e)) in
          absurd (false≢true (sym (valid_apart g valid pid other p q differ runs found number mapped) ∙ theirs))

  part_beside : (row : Row) (q : Process) → (row.pid == pid) ≡ false → here_of t.rows row.pid ≡ Some (part_held q) → AllByRecursion (λ (o : ObjectView). maps_privately p.maps o.number ≡ false) (views_of q.faces.entries)
  part_beside row q differ here =
      let is : part_of g row.pid ≡ Some (part_held q) = unleased_part (is_unleased leases row.pid) (sym (stands.here row.pid) ∙ here) in
      let (p', found, same) = behind g row.pid (part_held q) is in
      let apart : (pid == row.pid) ≡ false = grind (arith, nat_tests, differ) in
      let own : AllByRecursion (λ (e : ℕ × List ℕ). maps_privately p'.maps e.0 ≡ true) (part_in g p').memory = kept_pass (maps_privately p'.maps) g.memory in
      let theirs : AllByRecursion (λ (e : ℕ × List ℕ). maps_privately p'.maps e.0 ≡ true) (memory_of (views_of q.faces.entries)) = subst (λ (s : PrivatePart). AllByRecursion (λ (e : ℕ × List ℕ). maps_privately p'.maps e.0 ≡ true) s.memory) same own in
      each_weaker (λ (o : ObjectView). maps_privately p'.maps o.number ≡ true) (λ o. maps_privately p.maps o.number ≡ false) (views_of q.faces.entries)
      (λ o its. own_or_other o.number p' row.pid apart found its)
      (each_of_map (λ (e : ℕ × List ℕ). maps_privately p'.maps e.0 ≡ true) (λ (o : ObjectView). (o.number, o.bytes)) (views_of q.faces.entries) theirs)
    where
      unleased_part : (b : Bool) → (if b then part_of g row.pid else None) ≡ Some (part_held q) → part_of g row.pid ≡ Some (part_held q)
      unleased_part true is = is
      unleased_part false is = absurd (cc)

  abbrev IsBeside : Row → Type 0
  IsBeside row = (row.pid == pid) ≡ false → IfSome row.process (λ q. AllByRecursion (λ (o : ObjectView). maps_privately p.maps o.number ≡ false) (views_of q.faces.entries))

  pub private_beside : AllByRecursion (λ (row : Row). (row.pid == pid) ≡ false → IfSome row.process (λ q. AllByRecursion (λ (o : ObjectView). maps_privately p.maps o.number ≡ false) (views_of q.faces.entries))) t.rows
  private_beside = recursion_from_All IsBeside t.rows (λ k d lt differ. by_process k d lt differ (get_or t.rows k d).process refl)
    where
      by_process : (k : ℕ) (d : Row) → k < length t.rows → ((get_or t.rows k d).pid == pid) ≡ false → (o : Option Process) → (get_or t.rows k d).process ≡ o → IfSome o (λ q. AllByRecursion (λ (o : ObjectView). maps_privately p.maps o.number ≡ false) (views_of q.faces.entries))
      by_process k d lt differ None e = tt
      by_process k d lt differ (Some q) e =
          part_beside (get_or t.rows k d) q differ (here_at t.rows k d (pids_rise t leases g stands valid) lt ∙ ap (option_map part_held) e)

-- ---- all faces stand over the last barrier with pages of a process's own, whose faces are put in
rows_stand : (memory : List (ℕ × List ℕ)) (touched more : List (ℕ × ℕ)) (pid : ℕ) (maps : List Mapping) (process : Process) (rows : List Row)
    → ((object page : ℕ) → maps_privately maps object ≡ false → is_among more (object, page) ≡ false) → AllStandOver memory (touched ++ more) (views_of process.faces.entries)
    → AllByRecursion (λ (row : Row). (row.pid == pid) ≡ false → IfSome row.process (λ q. AllByRecursion (λ (o : ObjectView). maps_privately maps o.number ≡ false) (views_of q.faces.entries))) rows
    → AllByRecursion (λ (row : Row). HasFaces memory touched row.process) rows → AllByRecursion (λ (row : Row). HasFaces memory (touched ++ more) row.process) (rows_with rows pid (Some process))
rows_stand memory touched more pid maps process [] none own beside each = tt
rows_stand memory touched more pid maps process (row ∷ rows) none own beside each =
    (by_test (row.pid == pid) refl, rows_stand memory touched more pid maps process rows none own beside.1 each.1)
  where
    others : (o : Option Process) → IfSome o (λ q. AllByRecursion (λ (x : ObjectView). maps_privately maps x.number ≡ false) (views_of q.faces.entries)) → HasFaces memory touched o → HasFaces memory (touched ++ more) o
    others None aside stand = tt
    others (Some q) aside stand =
        All-from_recursion (StandsOver memory (touched ++ more)) (views_of q.faces.entries)
        (each_both (λ (x : ObjectView). maps_privately maps x.number ≡ false) (StandsOver memory touched) (StandsOver memory (touched ++ more)) (views_of q.faces.entries)
        (λ x away its. stands_beside memory touched more x (λ page lt. none x.number page away) its) aside (recursion_from_All (StandsOver memory touched) (views_of q.faces.entries) stand))

    by_test : (b : Bool) → (row.pid == pid) ≡ b → HasFaces memory (touched ++ more) (if b then record row { process = Some process } else row).process
    by_test true e = own
    by_test false e = others row.process (beside.0 e) each.0

pub faces_stand : (g : Group) → GroupIsValid g → (pid : ℕ) (p : Proc) → runner g pid ≡ Some p → (t : TablesView) (leases : List Lease) → StandsFor leases (kept_in t) g
    → (memory : List (ℕ × List ℕ)) (touched more : List (ℕ × ℕ)) (process : Process) → ((object page : ℕ) → maps_privately p.maps object ≡ false → is_among more (object, page) ≡ false)
    → AllStandOver memory (touched ++ more) (views_of process.faces.entries) → FacesStandOver memory touched t → FacesStandOver memory (touched ++ more) (with_process t pid (Some process))
faces_stand g valid pid p runs t leases stands memory touched more process none own faces = record {
  files = faces.files;
  shared = faces.shared;
  public = All-from_recursion (StandsOver memory (touched ++ more)) (public_objects t)
      (each_both (λ (x : ObjectView). maps_privately p.maps x.number ≡ false) (StandsOver memory touched) (StandsOver memory (touched ++ more)) (public_objects t)
      (λ x aside its. stands_beside memory touched more x (λ page lt. none x.number page aside) its)
      (recursion_from_All (λ (x : ObjectView). maps_privately p.maps x.number ≡ false) (public_objects t) (public_beside g valid pid p runs t leases stands))
      (recursion_from_All (StandsOver memory touched) (public_objects t) faces.public));
  private = All-from_recursion (λ (row : Row). HasFaces memory (touched ++ more) row.process) (rows_with t.rows pid (Some process))
      (rows_stand memory touched more pid p.maps process t.rows none own (private_beside g valid pid p runs t leases stands)
      (recursion_from_All (λ (row : Row). HasFaces memory touched row.process) t.rows faces.private));
}
