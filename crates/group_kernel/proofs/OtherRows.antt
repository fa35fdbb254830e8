-- The processes of the other rows, in the group that the tables stand for.
use Rattle.std.proofs.Common.{◌≡◌, ℕ, zero, suc, ◌<◌, ◌==◌, Bool, true, false, List, [], ◌∷◌, length, map, get_or, Option, Some, None, refl, sym, ap, ◌∙◌, arith}
use Rattle.std.proofs.lemmas.List.{get_or-map, length-map}
use Rattle.std.specs.Prelude.{IfSome, if◌then◌else◌}
use Rattle.std.specs.List.{filter_map}
use Rattle.group_defs.specs.Group.{Group, is_running, runner}
use Rattle.group_defs.specs.Valid.{GroupIsValid}
use Rattle.group_defs.specs.declared.frame.Proc.{Proc}
use Rattle.group_parts.proofs.OthersParts.{behind}
use Rattle.group_parts.specs.Kept.{StandsFor, kept_part}
use Rattle.group_parts.specs.Parts.{part_of, public_part, public_process, shared_mappings}
use Rattle.group_kernel.specs.Held.{FileFacesOfFiles, TablesView, kept_in, part_here, public_row}
use Rattle.group_kernel.specs.Leases.{part_held}
use Rattle.group_kernel.specs.SeenTables.{AllSeenFit}
use Rattle.proc_lease.specs.Sight.{SeenFits, seen_by}
use Rattle.group_kernel.specs.declared.row.Row.{Row}
use Rattle.group_kernel.proofs.SeenInGroup.{seen_fits}
use Rattle.proc_lease.specs.declared.process.Process.{Process}
use Rattle.run_defs.specs.Legal.{is_unleased}
use Rattle.run_defs.specs.Progress.{Lease}
use Rattle.tables.specs.Rising.{Rise}

-- lists with the same keys rise alike
rise_map : {X Y : Type 0} (f : X → ℕ) (h : Y → ℕ) (xs : List X) (ys : List Y) → map f xs ≡ map h ys → Rise h ys → Rise f xs
unfolding Rise
rise_map f h xs [] same rise i j d less end = let e : length (map f xs) ≡ 0 = ap length same in absurd (omega (arith, end, e, length-map xs f))
rise_map f h xs (y ∷ ys) same rise i j d less end =
    let size : length xs ≡ length (y ∷ ys) = sym (length-map xs f) ∙ ap length same ∙ length-map (y ∷ ys) h in
    let at : (k : ℕ) → k < length xs → f (get_or xs k d) ≡ h (get_or (y ∷ ys) k y) = λ k lt.
    sym (get_or-map f xs k d 0 lt) ∙ ap (λ (l : List ℕ). get_or l k 0) same ∙ get_or-map h (y ∷ ys) k y 0 (omega (arith, lt, size)) in
    omega (arith, at i (omega (arith, less, end)), at j end, rise i j y less (omega (arith, end, size)))

row_part : (rows : List Row) (k : ℕ) (d : Row) (process : Process) → Rise (λ row. row.pid) rows → k < length rows → (get_or rows k d).process ≡ Some process → kept_part (filter_map part_here rows) (get_or rows k d).pid ≡ Some (part_held process)
unfolding Rise
row_part [] k d process rise lt is = absurd (omega (arith, lt))
row_part (row ∷ rows) zero d process rise lt is = by_process row.process is
  where
    by_process : (o : Option Process) → o ≡ Some process → kept_part (filter_map part_here (record row { process = o } ∷ rows)) row.pid ≡ Some (part_held process)
    by_process None e = absurd cc
    by_process (Some p) e =
        let own : (row.pid == row.pid) ≡ true = grind arith in
        let same : p ≡ process = cc in
        rw own (ap (λ (q : Process). Some (part_held q)) same)
row_part (row ∷ rows) (suc k) d process rise lt is =
    let below : row.pid < (get_or rows k d).pid = rise 0 (suc k) d (omega arith) lt in
    let miss : (row.pid == (get_or rows k d).pid) ≡ false = grind (arith, below) in
    skipped row.process miss ∙ row_part rows k d process (λ i j e less end. rise (suc i) (suc j) e (omega (arith, less)) (omega (arith, end))) (omega (arith, lt)) is
  where
    skipped : (o : Option Process) → (row.pid == (get_or rows k d).pid) ≡ false → kept_part (filter_map part_here (record row { process = o } ∷ rows)) (get_or rows k d).pid ≡ kept_part (filter_map part_here rows) (get_or rows k d).pid
    skipped None miss = refl
    skipped (Some p) miss = rw miss refl

module _ (t : TablesView) (leases : List Lease) (g : Group) (stands : StandsFor leases (kept_in t) g) (valid : GroupIsValid g) where
  pub rows_rise : Rise (λ row. row.pid) t.rows
  unfolding public_part
  rows_rise = rise_map (λ (row : Row). row.pid) (λ (p : Proc). p.pid) t.rows g.frame.procs pids valid.sound.frame.procs.rise
    where
      one_pid : (p : Proc) → (public_process p).pid ≡ p.pid
      one_pid p = by_running (is_running p)
        where
          by_running : (b : Bool) → (if b then record p { pc = 0; regs = []; maps = shared_mappings p.maps } else p).pid ≡ p.pid
          by_running true = refl
          by_running false = refl

      pids_of : (procs : List Proc) → map (λ (p : Proc). p.pid) (map public_process procs) ≡ map (λ (p : Proc). p.pid) procs
      pids_of [] = refl
      pids_of (p ∷ ps) = ap (λ (n : ℕ). n ∷ map (λ (q : Proc). q.pid) (map public_process ps)) (one_pid p) ∙ ap (λ (l : List ℕ). p.pid ∷ l) (pids_of ps)

      rows_of : (rows : List Row) → map (λ (row : Row). row.pid) rows ≡ map (λ (p : Proc). p.pid) (map public_row rows)
      rows_of [] = refl
      rows_of (row ∷ rows) = ap (λ (l : List ℕ). row.pid ∷ l) (rows_of rows)

      pids : map (λ (row : Row). row.pid) t.rows ≡ map (λ (p : Proc). p.pid) g.frame.procs
      pids = rows_of t.rows ∙ ap (λ (h : Group). map (λ (p : Proc). p.pid) h.frame.procs) stands.public ∙ pids_of g.frame.procs

  module _ (k : ℕ) (d : Row) (lt : k < length t.rows) (process : Process) (here : (get_or t.rows k d).process ≡ Some process) where
    abbrev pid : ℕ
    pid = (get_or t.rows k d).pid

    pub its_part : kept_part (kept_in t).here pid ≡ Some (part_held process)
    its_part = row_part t.rows k d process rows_rise lt here

    unleased_part : (is_unleased leases pid ≡ true) × (part_of g pid ≡ Some (part_held process))
    unleased_part = by_lease (is_unleased leases pid) refl (sym its_part ∙ stands.here pid)
      where
        by_lease : (b : Bool) → is_unleased leases pid ≡ b → Some (part_held process) ≡ (if b then part_of g pid else None) → (is_unleased leases pid ≡ true) × (part_of g pid ≡ Some (part_held process))
        by_lease true e is = (e, sym is)
        by_lease false e is = absurd cc

    pub unleased : is_unleased leases pid ≡ true
    unleased = unleased_part.0

    pub its_process : (p : Proc) × (runner g pid ≡ Some p)
    its_process = let found = behind g pid (part_held process) unleased_part.1 in (found.0, found.1)

-- WHAT EACH PROCESS HERE SEES
pub all_seen_fit : (t : TablesView) (leases : List Lease) (g : Group) → StandsFor leases (kept_in t) g → GroupIsValid g → FileFacesOfFiles t → AllSeenFit t
all_seen_fit t leases g stands valid only k d lt = by_process (get_or t.rows k d).process refl
  where
    by_process : (o : Option Process) → (get_or t.rows k d).process ≡ o → IfSome o (λ process. SeenFits (seen_by process t.shared))
    by_process None is = tt
    by_process (Some process) is =
        let runs = its_process t leases g stands valid k d lt process is in
        seen_fits t leases g (get_or t.rows k d).pid process runs.0 stands valid (unleased t leases g stands valid k d lt process is) runs.1 (its_part t leases g stands valid k d lt process is) only
