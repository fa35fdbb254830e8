-- Rows made one by one, of which each takes its process's faces out of those that are left.
use Rattle.std.proofs.Common.{◌≡◌, ℕ, ◌+◌, ◌<◌, subst, Bool, true, false, not, List, [], ◌∷◌, ◌++◌, length, map, get_or, take, Option, Some, None, refl, sym, ap, ◌∙◌, arith}
use Rattle.std.proofs.lemmas.Bool.{false≢true}
use Rattle.std.proofs.lemmas.List.{map-append}
use Rattle.std.specs.Prelude.{All}
use Rattle.std.specs.List.{AllByRecursion, AllZip}
use Rattle.descriptors.specs.Descriptors.{count_at}
use Rattle.descriptors.specs.Owners.{OwnersAre, descriptors_at, holds_on}
use Rattle.descriptors.specs.declared.counted.Counted.{Counted}
use Rattle.descriptors.specs.declared.opens.Open.{Open}
use Rattle.group_defs.specs.Descriptions.{DescriptorsValid, IsOpen}
use Rattle.group_defs.specs.Fork.{maps_privately}
use Rattle.group_defs.specs.Group.{is_running}
use Rattle.group_defs.specs.declared.frame.Proc.{Proc}
use Rattle.group_laws.proofs.ObjectLaws.{zip_push}
use Rattle.proc_lease.specs.Private.{PrivateFits, views_of}
use Rattle.proc_lease.specs.declared.process.Process.{Process}
use Rattle.shadow_chains.specs.Entries.{number_of}
use Rattle.shadow_chains.specs.declared.entry.Entry.{Entry}
use Rattle.tables.specs.Rising.{Rise}
use Rattle.tables.proofs.Ordered.{ordered_filter, ordered_of_pairs, pairs_of_ordered}
use Rattle.group_kernel.specs.Starting.{HasFaces, HasTables, IsProcessOf, IsRowOf, TakeApart, faces_but, faces_that, take_face, takes_face}
use Rattle.group_kernel.specs.declared.row.Row.{Row}
use Rattle.group_kernel.proofs.AddedLast.{before_ordered, take_next}
use Rattle.group_kernel.proofs.FacesMoved.{any_more}
use Rattle.group_kernel.proofs.FacesTaken.{but_alike, but_but, that_but}

-- ---- what a row needs
pub opens_there : (opens : List Open) (p : Proc) (list : List (ℕ × ℕ)) → HasTables opens p → list ≡ p.fds → All (λ d. IsOpen opens d.1) list
unfolding DescriptorsValid
opens_there opens p list has is = rw is has.named

pub rises_left : (takes : ℕ → Bool) (all left : List Entry) → Rise number_of all → left ≡ faces_but takes all → Rise number_of left
unfolding Rise
rises_left takes all left rise is =
    let below : Entry → Entry → Type 0 = λ x y. number_of x < number_of y in
    rw is (pairs_of_ordered below (faces_but takes all) (ordered_filter below (λ e. not (takes e.number)) all (ordered_of_pairs below all rise)))

pub tables_next : (procs : List Proc) (k : ℕ) (d : Proc) (before opens : List Open) → k < length procs → opens ≡ before → All (HasTables before) procs → HasTables opens (get_or procs k d)
tables_next procs k d before opens lt same each = rw same (each k d lt)

-- ---- whose faces are taken
abbrev Apart : Proc → Proc → Type 0
Apart p q = (number : ℕ) → takes_face p number ≡ true → takes_face q number ≡ false

untaken : (done : List Proc) (p : Proc) (number : ℕ) → AllByRecursion (λ q. Apart q p) done → takes_face p number ≡ true → take_face done number ≡ false
untaken [] p number apart takes = refl
untaken (q ∷ qs) p number apart takes = by_test (takes_face q number) refl (untaken qs p number apart.1 takes)
  where
    by_test : (b : Bool) → takes_face q number ≡ b → take_face qs number ≡ false → take_face (q ∷ qs) number ≡ false
    by_test true e rest = absurd (false≢true (sym (apart.0 number e) ∙ takes))
    by_test false e rest = rw e rest

takes_mapped : (p : Proc) (number : ℕ) → is_running p ≡ true → maps_privately p.maps number ≡ true → takes_face p number ≡ true
takes_mapped p number runs maps = rw (runs, maps) refl

-- the faces that the next running process takes are still there
pub own_left : (procs : List Proc) (k : ℕ) (d : Proc) (all left : List Entry) → k < length procs → TakeApart procs → left ≡ faces_but (take_face (take k procs)) all → is_running (get_or procs k d) ≡ true
    → faces_that (maps_privately (get_or procs k d).maps) left ≡ faces_that (maps_privately (get_or procs k d).maps) all
own_left procs k d all left lt apart is runs =
    let p = get_or procs k d in
    ap (faces_that (maps_privately p.maps)) is
    ∙ that_but number_of (take_face (take k procs)) (maps_privately p.maps)
    (λ number maps. untaken (take k procs) p number (before_ordered Apart procs k d lt (ordered_of_pairs Apart procs apart)) (takes_mapped p number runs maps)) all

pub faces_next : (procs : List Proc) (k : ℕ) (d : Proc) (all left : List Entry) → k < length procs → TakeApart procs → left ≡ faces_but (take_face (take k procs)) all → All (HasFaces all) procs
    → HasFaces left (get_or procs k d)
faces_next procs k d all left lt apart is each runs =
    let p = get_or procs k d in
    subst (λ (l : List Entry). PrivateFits (views_of l) p.maps) (sym (own_left procs k d all left lt apart is runs)) (each k d lt runs)

-- ---- what it is then
row_before : (procs : List Proc) (k : ℕ) (d : Proc) (all left : List Entry) (row : Row) → k < length procs → TakeApart procs → left ≡ faces_but (take_face (take k procs)) all
    → IsRowOf left (get_or procs k d) row → IsRowOf all (get_or procs k d) row
row_before procs k d all left row lt apart is its = record {
  pid = its.pid;
  parent = its.parent;
  state = its.state;
  brk_base = its.brk_base;
  brk = its.brk;
  shared = its.shared;
  fds = its.fds;
  process = process_before row.process its.process;
}
  where
    process_before : (o : Option Process) → IsProcessOf left (get_or procs k d) o → IsProcessOf all (get_or procs k d) o
    process_before None ended = ended
    process_before (Some process) here = record {
      runs = here.runs;
      regs = here.regs;
      maps = here.maps;
      own = here.own ∙ own_left procs k d all left lt apart is here.runs;
    }

pub rows_next : (procs : List Proc) (k : ℕ) (d : Proc) (all left : List Entry) (rows new : List Row) (row : Row) → k < length procs → TakeApart procs → left ≡ faces_but (take_face (take k procs)) all
    → AllZip (IsRowOf all) (take k procs) rows → IsRowOf left (get_or procs k d) row → new ≡ rows ++ row ∷ [] → AllZip (IsRowOf all) (take (k + 1) procs) new
rows_next procs k d all left rows new row lt apart is before its next =
    rw (take_next procs k d lt, next) (zip_push (IsRowOf all) (take k procs) rows (get_or procs k d) row before (row_before procs k d all left row lt apart is its))

pub left_next : (procs : List Proc) (k : ℕ) (d : Proc) (all left new : List Entry) → k < length procs → left ≡ faces_but (take_face (take k procs)) all → new ≡ faces_but (takes_face (get_or procs k d)) left
    → new ≡ faces_but (take_face (take (k + 1) procs)) all
left_next procs k d all left new lt is next =
    next ∙ ap (faces_but (takes_face (get_or procs k d))) is ∙ but_but number_of (take_face (take k procs)) (takes_face (get_or procs k d)) all
    ∙ but_alike number_of _ _ (λ number. sym (any_more (λ (p : Proc). takes_face p number) procs k d lt)) all

-- ---- whose the descriptions are
owned_behind : (tables : List (List (ℕ × ℕ))) (fds : List (ℕ × ℕ)) (number : ℕ) → descriptors_at (tables ++ fds ∷ []) number ≡ count_at fds number + descriptors_at tables number
owned_behind [] fds number = refl
owned_behind (t ∷ ts) fds number =
    let rest = owned_behind ts fds number in
    let a = count_at t number in
    let b = count_at fds number in
    let c = descriptors_at ts number in
    let whole = descriptors_at (ts ++ fds ∷ []) number in
    let is : whole ≡ b + c = rest in
    let e : a + whole ≡ b + (a + c) = omega (arith, is) in
    e

pub owners_next : (procs : List Proc) (k : ℕ) (d : Proc) (opens : List Counted) → k < length procs → OwnersAre ((get_or procs k d).fds ∷ map (λ (p : Proc). p.fds) (take k procs)) [] opens
    → OwnersAre (map (λ (p : Proc). p.fds) (take (k + 1) procs)) [] opens
unfolding OwnersAre
owners_next procs k d opens lt are number =
    let fds : Proc → List (ℕ × ℕ) = λ p. p.fds in
    are number ∙ ap (λ (n : ℕ). n + holds_on [] number) (sym (
    ap (λ (l : List Proc). descriptors_at (map fds l) number) (take_next procs k d lt)
    ∙ ap (λ (l : List (List (ℕ × ℕ))). descriptors_at l number) (map-append fds (take k procs) (get_or procs k d ∷ []))
    ∙ owned_behind (map fds (take k procs)) (fds (get_or procs k d)) number))
