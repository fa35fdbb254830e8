-- A record takes no more meta blocks than one in which each page is a run of its own.
use Rattle.std.proofs.Common.{◌≡◌, ◌⊎◌, inl, inr, ℕ, zero, suc, ◌+◌, ◌*◌, ◌/◌, ◌≤◌, Bool, true, false, List, [], ◌∷◌, ◌++◌, map, length, length-append, refl, sym, ap, ◌∙◌, arith}
use Rattle.std.specs.List.{flat_map}
use Rattle.std.proofs.lemmas.List.{length-map}
use Rattle.std.proofs.lemmas.List.Concat.{flat_map-cons}
use Rattle.group_defs.specs.declared.frame.Frame.{Frame}
use Rattle.ckpt_chain.specs.Chain.{metas_for}
use Rattle.ckpt_records.specs.declared.meta.PagePlace.{PagePlace}
use Rattle.ckpt_records.specs.declared.meta.PageRun.{PageRun}
use Rattle.ckpt_records.specs.Codec.{number, with_count}
use Rattle.ckpt_records.specs.Cost.{unplaced, metas_of}
use Rattle.ckpt_records.specs.Holds.{listed_page}
use Rattle.ckpt_records.specs.Runs.{lone_run, continues, longer, runs_from, runs_of}
use Rattle.ckpt_records.specs.Spelling.{first_fields, middle, proc, page_run, run_record, record_bytes}
use Rattle.ckpt_records.proofs.RunLaws.{cases}

-- ---- no more runs than pages

few_from : (r : PageRun) (pages : List PagePlace) → length (runs_from r pages) ≤ length pages + 1
unfolding runs_from
few_from r [] = omega arith
few_from r (p ∷ pages) = elim (cases (continues r p)) [
  | inl said ↦ rw said (omega (arith, few_from (longer r) pages))
  | inr said ↦ rw said (omega (arith, few_from (lone_run p) pages))
]

few_runs : (pages : List PagePlace) → length (runs_of pages) ≤ length pages
unfolding runs_of
few_runs [] = omega arith
few_runs (p ∷ pages) = omega (arith, few_from (lone_run p) pages)

-- ---- the size of a record

number_size : (n : ℕ) → length (number n) ≡ 8
unfolding number
number_size n = refl

run_size : (r : PageRun) → length (page_run 2 r) ≡ 32
unfolding number
run_size r = refl

all_sizes : (runs : List PageRun) → length (flat_map (page_run 2) runs) ≡ 32 * length runs
all_sizes [] = omega arith
all_sizes (r ∷ runs) =
    let e : length (flat_map (page_run 2) (r ∷ runs)) ≡ length (page_run 2 r) + length (flat_map (page_run 2) runs) = ap length (flat_map-cons (page_run 2) r runs) ∙ length-append (page_run 2 r) (flat_map (page_run 2) runs) in
    omega (arith, e, run_size r, all_sizes runs)

runs_size : (runs : List PageRun) → length (with_count (page_run 2) runs) ≡ 8 + 32 * length runs
runs_size runs = omega (arith, length-append (number (length runs)) (flat_map (page_run 2) runs), number_size (length runs), all_sizes runs)

no_shorter : (xs ys zs : List ℕ) → length ys ≤ length zs → length (xs ++ ys) ≤ length (xs ++ zs)
no_shorter xs ys zs le = omega (arith, length-append xs ys, length-append xs zs, le)

no_longer : (f : Frame) (few many : List PageRun) → length few ≤ length many → length (run_record 2 f few) ≤ length (run_record 2 f many)
unfolding run_record
no_longer f few many le =
    let lists : length (with_count (page_run 2) few) ≤ length (with_count (page_run 2) many) = omega (arith, runs_size few, runs_size many, le) in
    no_shorter (first_fields 2 f) _ _ (no_shorter (middle 2 f) _ _ (no_shorter (with_count proc f.procs) (with_count (page_run 2) few) (with_count (page_run 2) many) lists))

-- ---- meta blocks

no_more_metas : (few many : ℕ) → few ≤ many → metas_for few ≤ metas_for many
no_more_metas few many le = omega (arith, le)

as_many : (pages : List PagePlace) → length (map (λ page. lone_run (unplaced page)) (map listed_page pages)) ≡ length pages
as_many pages = length-map (map listed_page pages) (λ page. lone_run (unplaced page)) ∙ length-map pages listed_page

pub metas_enough : (f : Frame) (pages : List PagePlace) → metas_for (length (record_bytes 2 f pages)) ≤ metas_of f (map listed_page pages)
metas_enough f pages =
    no_more_metas _ _ (no_longer f (runs_of pages) (map (λ page. lone_run (unplaced page)) (map listed_page pages)) (omega (arith, few_runs pages, as_many pages)))
