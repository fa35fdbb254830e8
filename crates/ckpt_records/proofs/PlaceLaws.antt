-- The pages of runs are in their order and in their places exactly where the runs are.
use Rattle.std.proofs.Common.{◌≡◌, ◌⊎◌, inl, inr, ℕ, zero, suc, ◌+◌, ◌-◌, ◌<◌, ◌≤◌, List, [], ◌∷◌, ◌++◌, map, length, refl, sym, ap, subst, ◌∙◌, arith}
use Rattle.std.specs.List.{flat_map, range_with_len, AllByRecursion, Any}
use Rattle.std.proofs.lemmas.List.Elements.{All-from_recursion}
use Rattle.std.proofs.lemmas.List.FromFn.{length-map-range_with_len, get_or-map-range_with_len}
use Rattle.group_defs.specs.declared.frame.Frame.{Frame}
use Rattle.group_defs.specs.declared.frame.ObjectRec.{ObjectRec}
use Rattle.ckpt_records.specs.declared.meta.PagePlace.{PagePlace}
use Rattle.ckpt_records.specs.declared.meta.PageRun.{PageRun}
use Rattle.ckpt_records.specs.Runs.{page_at, run_pages, pages_of_runs}
use Rattle.ckpt_records.specs.Listed.{IsRunPlace, IsRunBefore}
use Rattle.ckpt_records.specs.Spells.{IsPageOf, IsPagePlace, IsPageBefore}
use Rattle.ckpt_records.proofs.RunLaws.{HasPages}
use Rattle.tables.proofs.Ordered.{IsOrdered, each_weaker, each_map, each_flat, each_left, each_right, each_in_range, ordered_append, ordered_map, ordered_weaker, ordered_range}

-- what holds of each page of a run, and of the page at a place
at_each : (P : PagePlace → Type 0) (r : PageRun) → ((k : ℕ) → k < r.count → P (page_at r k)) → AllByRecursion P (run_pages r)
at_each P r holds = each_map P (page_at r) (range_with_len 0 r.count) (each_weaker (λ k. (0 ≤ k) × (k < 0 + r.count)) (λ k. P (page_at r k)) (range_with_len 0 r.count) (λ k h. holds k (omega (arith, h.1))) (each_in_range 0 r.count))

at_place : (P : PagePlace → Type 0) (r : PageRun) (k : ℕ) → k < r.count → AllByRecursion P (run_pages r) → P (page_at r k)
at_place P r k lt each =
    subst P (get_or-map-range_with_len (page_at r) 0 r.count k k (page_at r k) lt (omega arith)) (All-from_recursion P (run_pages r) each k (page_at r k) (omega (arith, lt, length-map-range_with_len (page_at r) 0 r.count)))

-- ---- places

module _ (f : Frame) (blocks : ℕ) where
  run_placed : (r : PageRun) → IsRunPlace f.objects blocks r → AllByRecursion (IsPagePlace f blocks) (run_pages r)
  unfolding IsPagePlace IsPageOf
  run_placed r h = at_each (IsPagePlace f blocks) r (λ k lt. let (i, o, in_list, is, own) = h.3 in ((i, o, in_list, is, (own.0, omega (arith, own.1, lt))), omega (arith, h.1), omega (arith, h.2, lt)))

  placed_run : (r : PageRun) → 1 ≤ r.count → AllByRecursion (IsPagePlace f blocks) (run_pages r) → IsRunPlace f.objects blocks r
  unfolding IsPagePlace IsPageOf
  placed_run r some each =
      let first = at_place (IsPagePlace f blocks) r 0 (omega arith) each in
      let last = at_place (IsPagePlace f blocks) r (r.count - 1) (omega arith) each in
      let (i, o, in_list, is, own) = last.0 in
      (some, omega (arith, first.1), omega (arith, last.2), (i, o, in_list, is, (own.0, omega (arith, own.1))))

  pub runs_placed : (runs : List PageRun) → AllByRecursion (IsRunPlace f.objects blocks) runs → AllByRecursion (IsPagePlace f blocks) (pages_of_runs runs)
  runs_placed runs each = each_flat (IsPagePlace f blocks) run_pages runs (each_weaker (IsRunPlace f.objects blocks) (λ r. AllByRecursion (IsPagePlace f blocks) (run_pages r)) runs run_placed each)

  pub placed_runs : (runs : List PageRun) → AllByRecursion HasPages runs → AllByRecursion (IsPagePlace f blocks) (pages_of_runs runs) → AllByRecursion (IsRunPlace f.objects blocks) runs
  placed_runs [] some each = tt
  placed_runs (r ∷ runs) some each =
      (placed_run r some.0 (each_left (IsPagePlace f blocks) (run_pages r) (pages_of_runs runs) each), placed_runs runs some.1 (each_right (IsPagePlace f blocks) (run_pages r) (pages_of_runs runs) each))

-- ---- order

within : (r : PageRun) → IsOrdered IsPageBefore (run_pages r)
unfolding IsPageBefore
within r = ordered_map IsPageBefore (page_at r) (range_with_len 0 r.count) (ordered_weaker (λ j k. j < k) (λ j k. IsPageBefore (page_at r j) (page_at r k)) (range_with_len 0 r.count) (λ j k lt. inr (refl, omega (arith, lt))) (ordered_range 0 r.count))

page_before : (r q : PageRun) (j k : ℕ) → j < r.count → IsRunBefore r q → IsPageBefore (page_at r j) (page_at q k)
unfolding IsPageBefore IsRunBefore
page_before r q j k lt (inl object) = inl object
page_before r q j k lt (inr same) = inr (same.0, omega (arith, same.1, lt))

pub runs_ordered : (runs : List PageRun) → IsOrdered IsRunBefore runs → IsOrdered IsPageBefore (pages_of_runs runs)
runs_ordered [] ordered = tt
runs_ordered (r ∷ runs) ordered =
    ordered_append IsPageBefore (run_pages r) (pages_of_runs runs) (within r) (runs_ordered runs ordered.1)
    (at_each (λ p. AllByRecursion (IsPageBefore p) (pages_of_runs runs)) r (λ j lt. each_flat (IsPageBefore (page_at r j)) run_pages runs
    (each_weaker (IsRunBefore r) (λ q. AllByRecursion (IsPageBefore (page_at r j)) (run_pages q)) runs (λ q before. at_each (IsPageBefore (page_at r j)) q (λ k _. page_before r q j k lt before)) ordered.0)))

-- the parts of a list in order
across : {X : Type 0} (R : X → X → Type 0) (xs ys : List X) → IsOrdered R (xs ++ ys) → AllByRecursion (λ x. AllByRecursion (R x) ys) xs × IsOrdered R ys
across R [] ys ordered = (tt, ordered)
across R (x ∷ xs) ys ordered = let rest = across R xs ys ordered.1 in ((each_right (R x) xs ys ordered.0, rest.0), rest.1)

first_pages : (P : PagePlace → Type 0) (runs : List PageRun) → AllByRecursion HasPages runs → AllByRecursion P (pages_of_runs runs) → AllByRecursion (λ q. P (page_at q 0)) runs
first_pages P [] some each = tt
first_pages P (r ∷ runs) some each = (at_place P r 0 (omega (arith, some.0)) (each_left P (run_pages r) (pages_of_runs runs) each), first_pages P runs some.1 (each_right P (run_pages r) (pages_of_runs runs) each))

run_before : (r q : PageRun) → 1 ≤ r.count → IsPageBefore (page_at r (r.count - 1)) (page_at q 0) → IsRunBefore r q
unfolding IsPageBefore IsRunBefore
run_before r q some (inl object) = inl object
run_before r q some (inr same) = inr (same.0, omega (arith, same.1, some))

pub ordered_runs : (runs : List PageRun) → AllByRecursion HasPages runs → IsOrdered IsPageBefore (pages_of_runs runs) → IsOrdered IsRunBefore runs
ordered_runs [] some ordered = tt
ordered_runs (r ∷ runs) some ordered =
    let parts = across IsPageBefore (run_pages r) (pages_of_runs runs) ordered in
    let last = at_place (λ p. AllByRecursion (IsPageBefore p) (pages_of_runs runs)) r (r.count - 1) (omega (arith, some.0)) parts.0 in
    (each_weaker (λ q. IsPageBefore (page_at r (r.count - 1)) (page_at q 0)) (IsRunBefore r) runs (λ q before. run_before r q some.0 before) (first_pages (IsPageBefore (page_at r (r.count - 1))) runs some.1 last), ordered_runs runs some.1 parts.1)
