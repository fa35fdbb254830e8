-- The rows that the end of a process leaves, one by one: its own, those of its children, and all others.
use Rattle.std.proofs.Common.{◌≡◌, ℕ, zero, suc, ◌<◌, ◌==◌, ◌&&◌, Bool, true, false, not, List, [], ◌∷◌, length, map, set, get_or, Option, Some, None, refl, sym, ap, ◌∙◌, arith}
use Rattle.std.proofs.Math.Bool.{and-false}
use Rattle.std.proofs.lemmas.Bool.{eq-eqb}
use Rattle.std.proofs.lemmas.Bool.Decides.{nat_tests}
use Rattle.std.specs.Prelude.{if◌then◌else◌}
use Rattle.std.specs.List.{AllByRecursion, cons_option, filter, filter_map}
use Rattle.std.specs.Option.{option_map}
use Rattle.group_defs.specs.Family.{after_end, ended_process}
use Rattle.group_defs.specs.Group.{is_running}
use Rattle.group_defs.specs.declared.frame.Proc.{Proc}
use Rattle.group_defs.specs.declared.frame.ProcState.{ProcState}
use Rattle.group_defs.specs.declared.frame.ProcState.TheVariants.{Running, Ended}
use Rattle.group_parts.specs.Parts.{PrivatePart, public_process, shared_mappings}
use Rattle.proc_lease.specs.declared.process.Process.{Process}
use Rattle.tables.specs.Rows.{Rows}
use Rattle.group_kernel.specs.Ending.{ended_row, remains, rows_left_by, without_parent}
use Rattle.group_kernel.specs.Held.{part_here, public_row}
use Rattle.group_kernel.specs.Leases.{part_held}
use Rattle.group_kernel.specs.declared.row.Row.{Row}
use Rattle.group_kernel.proofs.HereParts.{rows_with}
use Rattle.group_kernel.proofs.RowPids.{PidsRise, at_above}
use Rattle.group_kernel.proofs.Takes.{HasFaces}

-- ---- one row

abbrev orphan : Row → Row
orphan row = record row { parent = 0 }

abbrev pub child_after : Row → ProcState → Option Row
child_after row Running = Some (orphan row)
child_after row (Ended s) = None

abbrev pub row_after_end : ℕ → ℕ → Rows (ℕ × ℕ) → Row → Option Row
row_after_end pid status fds row = if row.pid == pid then (if row.parent == 0 then None else Some (ended_row status fds row)) else if row.parent == pid then child_after row row.state else Some row

abbrev pub rows_after_end : ℕ → ℕ → Rows (ℕ × ℕ) → List Row → List Row
rows_after_end pid status fds rows = filter_map (row_after_end pid status fds) rows

-- ---- the row at a place is the one of its pid

unchanged : (f : Row → Row) (pid : ℕ) (rows : List Row) → AllByRecursion (λ (n : ℕ). pid < n) (map (λ (row : Row). row.pid) rows) → map (λ (row : Row). if row.pid == pid then f row else row) rows ≡ rows
unchanged f pid [] above = refl
unchanged f pid (row ∷ rows) above =
    let differ : (row.pid == pid) ≡ false = grind (arith, nat_tests, above.0) in
    ap (λ (b : Bool). (if b then f row else row) ∷ map (λ (x : Row). if x.pid == pid then f x else x) rows) differ ∙ ap (λ (l : List Row). row ∷ l) (unchanged f pid rows above.1)

pub set_by_pid : (f : Row → Row) (rows : List Row) (place : ℕ) (d : Row) → PidsRise rows → place < length rows → set rows place (f (get_or rows place d)) ≡ map (λ (row : Row). if row.pid == (get_or rows place d).pid then f row else row) rows
set_by_pid f [] place d rise lt = absurd (omega (arith, lt))
set_by_pid f (row ∷ rows) zero d rise lt =
    ap (λ (l : List Row). f row ∷ l) (sym (unchanged f row.pid rows rise.0))
    ∙ sym (ap (λ (b : Bool). (if b then f row else row) ∷ map (λ (x : Row). if x.pid == row.pid then f x else x) rows) (eq-eqb row.pid row.pid refl))
set_by_pid f (row ∷ rows) (suc place) d rise lt =
    let pid : ℕ = (get_or rows place d).pid in
    let above : row.pid < pid = at_above row.pid rows place d rise.0 (omega (arith, lt)) in
    let differ : (row.pid == pid) ≡ false = grind (arith, nat_tests, above) in
    ap (λ (l : List Row). row ∷ l) (set_by_pid f rows place d rise.1 (omega (arith, lt)))
    ∙ sym (ap (λ (b : Bool). (if b then f row else row) ∷ map (λ (x : Row). if x.pid == pid then f x else x) rows) differ)

module _ (pid status : ℕ) (fds : Rows (ℕ × ℕ)) where
  abbrev after : List Row → List Row
  after rows = filter_map (row_after_end pid status fds) rows

  abbrev pub end_own : Row → Row
  end_own row = if row.pid == pid then ended_row status fds row else row

  -- ---- those that remain, without their parent

  abbrev Leaves : Row → Option Row → Type 0
  Leaves x None = remains pid x ≡ false
  Leaves x (Some y) = (remains pid x ≡ true) × (without_parent pid x ≡ y)

  one_more : (x : Row) (xs ys : List Row) → map (without_parent pid) xs ≡ ys → (o : Option Row) → Leaves x o → map (without_parent pid) (if remains pid x then x ∷ xs else xs) ≡ cons_option o ys
  one_more x xs ys same None goes = ap (λ (b : Bool). map (without_parent pid) (if b then x ∷ xs else xs)) goes ∙ same
  one_more x xs ys same (Some y) leaves =
      ap (λ (b : Bool). map (without_parent pid) (if b then x ∷ xs else xs)) leaves.0 ∙ ap (λ (z : Row). z ∷ map (without_parent pid) xs) leaves.1 ∙ ap (λ (l : List Row). y ∷ l) same

  abbrev remains_by : Row → Bool → Bool
  remains_by row b = if b then not (row.parent == 0) else elim row.state [ Running ↦ true | Ended s ↦ not (row.parent == pid) ]

  abbrev parted_by : Row → Bool → Row
  parted_by row b = if b then orphan row else row

  leaves_by : (row : Row) (t u v : Bool) (s : ProcState) → (row.pid == pid) ≡ t → (row.parent == 0) ≡ u → (row.parent == pid) ≡ v → row.state ≡ s
      → Leaves (if t then ended_row status fds row else row) (if t then (if u then None else Some (ended_row status fds row)) else if v then child_after row s else Some row)
  leaves_by row true true v s e f h i = ap (remains_by (ended_row status fds row)) e ∙ ap not f
  leaves_by row true false v s e f h i = (
    ap (remains_by (ended_row status fds row)) e ∙ ap not f,
    ap (λ (b : Bool). parted_by (ended_row status fds row) (not b && (row.parent == pid))) e,
  )
  leaves_by row false u true Running e f h i = (
    ap (remains_by row) e ∙ ap (λ (x : ProcState). elim x [ Running ↦ true | Ended s ↦ not (row.parent == pid) ]) i,
    ap (λ (b : Bool). parted_by row (not b && (row.parent == pid))) e ∙ ap (parted_by row) h,
  )
  leaves_by row false u true (Ended s) e f h i = ap (remains_by row) e ∙ ap (λ (x : ProcState). elim x [ Running ↦ true | Ended s ↦ not (row.parent == pid) ]) i ∙ ap not h
  leaves_by row false u false Running e f h i = (
    ap (remains_by row) e ∙ ap (λ (x : ProcState). elim x [ Running ↦ true | Ended s ↦ not (row.parent == pid) ]) i,
    ap (λ (b : Bool). parted_by row (not b && (row.parent == pid))) e ∙ ap (parted_by row) h,
  )
  leaves_by row false u false (Ended s) e f h i = (
    ap (remains_by row) e ∙ ap (λ (x : ProcState). elim x [ Running ↦ true | Ended s ↦ not (row.parent == pid) ]) i ∙ ap not h,
    ap (λ (b : Bool). parted_by row (not b && (row.parent == pid))) e ∙ ap (parted_by row) h,
  )

  pub left_rows : (rows : List Row) → rows_left_by pid (map (λ (row : Row). if row.pid == pid then ended_row status fds row else row) rows) ≡ rows_after_end pid status fds rows
  left_rows [] = refl
  left_rows (row ∷ rows) =
      one_more (end_own row) (filter (remains pid) (map end_own rows)) (after rows) (left_rows rows) (row_after_end pid status fds row) (leaves_by row (row.pid == pid) (row.parent == 0) (row.parent == pid) row.state refl refl refl refl)

  -- ---- whatever private part stood in the row of the process

  abbrev with_in : Row → Option Process → Row
  with_in row process = record row { process = process }

  abbrev own_after : Row → Option Row
  own_after row = if row.parent == 0 then None else Some (ended_row status fds row)

  abbrev other_after : Row → Option Row
  other_after row = if row.parent == pid then child_after row row.state else Some row

  same_after : (row : Row) (process : Option Process) (t : Bool) → (row.pid == pid) ≡ t → row_after_end pid status fds (if t then with_in row process else row) ≡ row_after_end pid status fds row
  same_after row process true e = ap (λ (b : Bool). if b then own_after row else other_after (with_in row process)) e ∙ sym (ap (λ (b : Bool). if b then own_after row else other_after row) e)
  same_after row process false e = refl

  pub after_with : (process : Option Process) (rows : List Row) → rows_after_end pid status fds (rows_with rows pid process) ≡ rows_after_end pid status fds rows
  after_with process [] = refl
  after_with process (row ∷ rows) = ap (λ (o : Option Row). cons_option o (after (rows_with rows pid process))) (same_after row process (row.pid == pid) refl) ∙ ap (cons_option (row_after_end pid status fds row)) (after_with process rows)

  -- ---- the private parts that are here

  abbrev pub NoneEnded : Row → Type 0
  NoneEnded row = is_running (public_row row) ≡ false → row.process ≡ None

  abbrev part_by : Row → Option Process → Option (ℕ × PrivatePart)
  part_by row o = option_map (λ (p : Process). (row.pid, part_held p)) o

  parts_by : (row : Row) (rows : List Row) → NoneEnded row → filter_map part_here (after rows) ≡ filter_map part_here (rows_with rows pid None) → (t u v : Bool) (s : ProcState) → row.state ≡ s
      → filter_map part_here (cons_option (if t then (if u then None else Some (ended_row status fds row)) else if v then child_after row s else Some row) (after rows))
      ≡ filter_map part_here ((if t then with_in row None else row) ∷ rows_with rows pid None)
  parts_by row rows none rest true true v s i = rest
  parts_by row rows none rest true false v s i = rest
  parts_by row rows none rest false u true Running i = ap (cons_option (part_by row row.process)) rest
  parts_by row rows none rest false u true (Ended s) i =
      rest ∙ sym (ap (λ (o : Option Process). cons_option (part_by row o) (filter_map part_here (rows_with rows pid None))) (none (ap (λ (x : ProcState). elim x [ Running ↦ true | Ended s ↦ false ]) i)))
  parts_by row rows none rest false u false s i = ap (cons_option (part_by row row.process)) rest

  pub parts_after : (rows : List Row) → AllByRecursion NoneEnded rows → filter_map part_here (rows_after_end pid status fds rows) ≡ filter_map part_here (rows_with rows pid None)
  parts_after [] each = refl
  parts_after (row ∷ rows) each = parts_by row rows each.0 (parts_after rows each.1) (row.pid == pid) (row.parent == 0) (row.parent == pid) row.state refl

  -- ---- their faces

  abbrev Stand : List (ℕ × List ℕ) → List (ℕ × ℕ) → List Row → Type 0
  Stand memory touched rows = AllByRecursion (λ (row : Row). HasFaces memory touched row.process) rows

  faces_by : (memory : List (ℕ × List ℕ)) (touched : List (ℕ × ℕ)) (row : Row) (rest : List Row) → HasFaces memory touched row.process → Stand memory touched rest → (t u v : Bool) (s : ProcState)
      → Stand memory touched (cons_option (if t then (if u then None else Some (ended_row status fds row)) else if v then child_after row s else Some row) rest)
  faces_by memory touched row rest has each true true v s = each
  faces_by memory touched row rest has each true false v s = (tt, each)
  faces_by memory touched row rest has each false u true Running = (has, each)
  faces_by memory touched row rest has each false u true (Ended s) = each
  faces_by memory touched row rest has each false u false s = (has, each)

  pub faces_after : (memory : List (ℕ × List ℕ)) (touched : List (ℕ × ℕ)) (rows : List Row) → AllByRecursion (λ (row : Row). HasFaces memory touched row.process) rows → AllByRecursion (λ (row : Row). HasFaces memory touched row.process) (rows_after_end pid status fds rows)
  faces_after memory touched [] each = tt
  faces_after memory touched (row ∷ rows) each = faces_by memory touched row (after rows) each.0 (faces_after memory touched rows each.1) (row.pid == pid) (row.parent == 0) (row.parent == pid) row.state

-- ---- as the public part has them
module _ (p : Proc) (runs : is_running p ≡ true) (status : ℕ) (fds : Rows (ℕ × ℕ)) (closed : fds.entries ≡ []) where
  abbrev pub IsOwn : Row → Type 0
  IsOwn row = (row.pid == p.pid) ≡ true → public_row row ≡ public_process p

  abbrev ended_with : ℕ → ℕ → List (ℕ × ℕ) → Proc
  ended_with pid parent l = record (ended_process p status) { pid = pid; parent = parent; fds = l }

  public_is : public_process p ≡ record p { pc = 0; regs = []; maps = shared_mappings p.maps }
  public_is = ap (λ (b : Bool). let w : Proc = if b then record p { pc = 0; regs = []; maps = shared_mappings p.maps } else p in w) runs

  abbrev public_child : Row → Bool → Option Proc
  public_child row b = if b then Some (record (public_row row) { parent = 0 }) else None

  abbrev proc_after : Row → Bool → Option Proc
  proc_after row b = if b then (if p.parent == 0 then None else Some (ended_process p status)) else if row.parent == p.pid then public_child row (is_running (public_row row)) else Some (public_row row)

  public_by : (row : Row) → IsOwn row → (t u v : Bool) (s : ProcState) → (row.pid == p.pid) ≡ t → (row.parent == 0) ≡ u → (row.parent == p.pid) ≡ v → row.state ≡ s
      → option_map public_row (if t then (if u then None else Some (ended_row status fds row)) else if v then child_after row s else Some row) ≡ after_end p status (public_row row)
  public_by row own true u v s e f h i =
      let same : public_row row ≡ record p { pc = 0; regs = []; maps = shared_mappings p.maps } = own e ∙ public_is in
      let running : is_running (public_row row) ≡ true = ap (λ (x : Proc). is_running x) same ∙ runs in
      let parent : row.parent ≡ p.parent = ap (λ (x : Proc). x.parent) same in
      let pid : row.pid ≡ p.pid = ap (λ (x : Proc). x.pid) same in
      by_parent pid parent u f
      ∙ sym (ap (λ (b : Bool). proc_after row (b && (row.pid == p.pid))) running ∙ ap (proc_after row) e ∙ ap (λ (n : ℕ). let o : Option Proc = if n == 0 then None else Some (ended_process p status) in o) (sym parent) ∙ ap (λ (b : Bool). let o : Option Proc = if b then None else Some (ended_process p status) in o) f)
    where
      by_parent : row.pid ≡ p.pid → row.parent ≡ p.parent → (u : Bool) → (row.parent == 0) ≡ u → option_map public_row (if u then None else Some (ended_row status fds row)) ≡ (let o : Option Proc = if u then None else Some (ended_process p status) in o)
      by_parent pid parent true f = refl
      by_parent pid parent false f =
          ap (λ (n : ℕ). Some (ended_with n row.parent fds.entries)) pid ∙ ap (λ (n : ℕ). Some (ended_with p.pid n fds.entries)) parent ∙ ap (λ (l : List (ℕ × ℕ)). Some (ended_with p.pid p.parent l)) closed
  public_by row own false u v s e f h i =
      by_child v s h i
      ∙ sym (ap (λ (b : Bool). proc_after row (is_running (public_row row) && b)) e ∙ ap (proc_after row) (and-false (is_running (public_row row))))
    where
      by_child : (v : Bool) (s : ProcState) → (row.parent == p.pid) ≡ v → row.state ≡ s → option_map public_row (if v then child_after row s else Some row) ≡ proc_after row false
      by_child true Running h i =
          sym (ap (λ (b : Bool). let o : Option Proc = if b then public_child row (is_running (public_row row)) else Some (public_row row) in o) h ∙ ap (λ (x : ProcState). public_child row (elim x [ Running ↦ true | Ended s ↦ false ])) i)
      by_child true (Ended s) h i =
          sym (ap (λ (b : Bool). let o : Option Proc = if b then public_child row (is_running (public_row row)) else Some (public_row row) in o) h ∙ ap (λ (x : ProcState). public_child row (elim x [ Running ↦ true | Ended s ↦ false ])) i)
      by_child false s h i = sym (ap (λ (b : Bool). let o : Option Proc = if b then public_child row (is_running (public_row row)) else Some (public_row row) in o) h)

  mapped : (o : Option Row) (xs : List Row) (ys : List Proc) → map public_row xs ≡ ys → map public_row (cons_option o xs) ≡ cons_option (option_map public_row o) ys
  mapped None xs ys same = same
  mapped (Some x) xs ys same = ap (λ (l : List Proc). public_row x ∷ l) same

  pub public_after : (rows : List Row) → AllByRecursion IsOwn rows → map public_row (rows_after_end p.pid status fds rows) ≡ filter_map (after_end p status) (map public_row rows)
  public_after [] each = refl
  public_after (row ∷ rows) each =
      mapped (row_after_end p.pid status fds row) (rows_after_end p.pid status fds rows) (filter_map (after_end p status) (map public_row rows)) (public_after rows each.1)
      ∙ ap (λ (o : Option Proc). cons_option o (filter_map (after_end p status) (map public_row rows))) (public_by row each.0 (row.pid == p.pid) (row.parent == 0) (row.parent == p.pid) row.state refl refl refl refl)
