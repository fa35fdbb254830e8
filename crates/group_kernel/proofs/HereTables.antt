-- The private part of one row's process among those that are here.
use Rattle.std.proofs.Common.{◌≡◌, ℕ, zero, suc, ◌<◌, ◌==◌, ◌||◌, Bool, true, false, List, [], ◌∷◌, length, map, Option, Some, None, refl, sym, ap, ◌∙◌, arith}
use Rattle.std.proofs.lemmas.Bool.{eq-eqb, eqb-true}
use Rattle.std.specs.Prelude.{if◌then◌else◌, slice_index_or, find}
use Rattle.std.specs.List.{filter_map, list_any}
use Rattle.std.specs.Option.{option_map}
use Rattle.group_parts.specs.Kept.{PutsPart, kept_part}
use Rattle.group_parts.specs.Parts.{PrivatePart}
use Rattle.group_kernel.specs.Held.{TablesView, kept_in, part_here, pid_at, with_process}
use Rattle.group_kernel.specs.Leases.{part_held}
use Rattle.group_kernel.specs.declared.row.Row.{Row}
use Rattle.proc_lease.specs.declared.process.Process.{Process}

abbrev pub with_in : ℕ → Option Process → List Row → List Row
with_in pid process rows = map {A = Row} (λ row. if row.pid == pid then record row { process = process } else row) rows

abbrev there : List Row → ℕ → Bool
there rows pid = list_any (λ row. row.pid == pid) rows

its_part : (rows : List Row) (pid : ℕ) (process : Process) → there rows pid ≡ true → kept_part (filter_map part_here (with_in pid (Some process) rows)) pid ≡ Some (part_held process)
its_part [] pid process is = absurd cc
its_part (row ∷ rows) pid process is = by_test (its_part rows pid process) (row.pid == pid) refl is
  where
    entries : List (ℕ × PrivatePart)
    entries = filter_map part_here (with_in pid (Some process) rows)

    other : (o : Option Process) → (row.pid == pid) ≡ false → kept_part (filter_map part_here (record row { process = o } ∷ with_in pid (Some process) rows)) pid ≡ kept_part entries pid
    other None miss = refl
    other (Some p) miss = rw miss refl

    by_test : (there rows pid ≡ true → kept_part entries pid ≡ Some (part_held process)) → (t : Bool) → (row.pid == pid) ≡ t → (t || there rows pid) ≡ true
        → kept_part (filter_map part_here ((if t then record row { process = Some process } else row) ∷ with_in pid (Some process) rows)) pid ≡ Some (part_held process)
    by_test rest true hit e = rw hit refl
    by_test rest false miss e = other row.process miss ∙ rest e

others_part : (rows : List Row) (pid q : ℕ) (old new : Option Process) → (pid == q) ≡ false → kept_part (filter_map part_here (with_in pid new rows)) q ≡ kept_part (filter_map part_here (with_in pid old rows)) q
others_part [] pid q old new differ = refl
others_part (row ∷ rows) pid q old new differ = by_test (row.pid == pid) refl (others_part rows pid q old new differ)
  where
    after : Option Process → List (ℕ × PrivatePart)
    after o = filter_map part_here (with_in pid o rows)

    same : (o : Option Process) → kept_part (after new) q ≡ kept_part (after old) q → kept_part (filter_map part_here (record row { process = o } ∷ with_in pid new rows)) q ≡ kept_part (filter_map part_here (record row { process = o } ∷ with_in pid old rows)) q
    same None ih = ih
    same (Some p) ih = by_number (row.pid == q) refl
      where
        by_number : (u : Bool) → (row.pid == q) ≡ u → option_map (λ (e : ℕ × PrivatePart). e.1) (if u then Some (row.pid, part_held p) else find (λ e. e.0 == q) (after new)) ≡ option_map (λ (e : ℕ × PrivatePart). e.1) (if u then Some (row.pid, part_held p) else find (λ e. e.0 == q) (after old))
        by_number true e = refl
        by_number false e = ih

    skipped : (o x : Option Process) → (row.pid == q) ≡ false → kept_part (filter_map part_here (record row { process = o } ∷ with_in pid x rows)) q ≡ kept_part (after x) q
    skipped None x miss = refl
    skipped (Some p) x miss = rw miss refl

    not_q : (row.pid == pid) ≡ true → (row.pid == q) ≡ false
    not_q hit = ap (λ (n : ℕ). n == q) (eqb-true row.pid pid hit) ∙ differ

    by_test : (t : Bool) → (row.pid == pid) ≡ t → kept_part (after new) q ≡ kept_part (after old) q
        → kept_part (filter_map part_here ((if t then record row { process = new } else row) ∷ with_in pid new rows)) q ≡ kept_part (filter_map part_here ((if t then record row { process = old } else row) ∷ with_in pid old rows)) q
    by_test true hit ih = skipped new new (not_q hit) ∙ ih ∙ sym (skipped old old (not_q hit))
    by_test false miss ih = same row.process ih

pub at_place : (rows : List Row) (place : ℕ) → place < length rows → there rows (slice_index_or (map (λ (row : Row). row.pid) rows) place 0) ≡ true
at_place [] place lt = absurd (omega (arith, lt))
at_place (row ∷ rows) zero lt = ap (λ t. t || there rows row.pid) (eq-eqb row.pid row.pid refl)
at_place (row ∷ rows) (suc place) lt = by_test (row.pid == slice_index_or (map (λ (r : Row). r.pid) rows) place 0) (at_place rows place (omega (arith, lt)))
  where
    by_test : (t : Bool) → there rows (slice_index_or (map (λ (r : Row). r.pid) rows) place 0) ≡ true → (t || there rows (slice_index_or (map (λ (r : Row). r.pid) rows) place 0)) ≡ true
    by_test true rest = refl
    by_test false rest = rest

-- the process's part is here
pub here_with : (t : TablesView) (place : ℕ) (process : Process) → place < length t.rows → kept_part (kept_in (with_process t (pid_at t place) (Some process))).here (pid_at t place) ≡ Some (part_held process)
here_with t place process lt = its_part t.rows (pid_at t place) process (at_place t.rows place lt)

-- another takes its place
pub puts_with : (t : TablesView) (rows : List Row) (place : ℕ) (old new : Process) → place < length t.rows → rows ≡ t.rows
    → PutsPart (filter_map part_here (with_in (pid_at t place) (Some old) t.rows)) (filter_map part_here (with_in (pid_at t place) (Some new) rows)) (pid_at t place) (part_held new)
puts_with t rows place old new lt same q =
    ap (λ (l : List Row). kept_part (filter_map part_here (with_in (pid_at t place) (Some new) l)) q) same ∙ by_pid (pid_at t place == q) refl
  where
    by_pid : (b : Bool) → (pid_at t place == q) ≡ b → kept_part (filter_map part_here (with_in (pid_at t place) (Some new) t.rows)) q ≡ (if b then Some (part_held new) else kept_part (filter_map part_here (with_in (pid_at t place) (Some old) t.rows)) q)
    by_pid true e = ap (kept_part (filter_map part_here (with_in (pid_at t place) (Some new) t.rows))) (sym (eqb-true (pid_at t place) q e)) ∙ here_with t place new lt
    by_pid false e = others_part t.rows (pid_at t place) q (Some old) (Some new) e
