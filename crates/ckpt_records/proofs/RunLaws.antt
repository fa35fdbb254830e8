-- A list of pages is the pages of its runs, and runs of which none continues the one before are the runs of their pages.
use Rattle.std.proofs.Common.{◌≡◌, ◌⊎◌, inl, inr, ℕ, zero, suc, ◌+◌, ◌-◌, ◌<◌, ◌≤◌, Bool, true, false, cond, List, [], ◌∷◌, ◌++◌, map, length, drop, drop-cons, add-one, refl, sym, ap, subst, ◌∙◌, append_assoc, eq-eqb, arith}
use Rattle.std.specs.Prelude.{◌==◌, ◌&&◌, not, get_or, IsTrue}
use Rattle.std.specs.List.{flat_map, range_with_len, AllByRecursion, AllAdjacentBelow, IsAllAdjacentAnswer}
use Rattle.std.proofs.lemmas.Bool.{eqb-true, false≢true}
use Rattle.std.proofs.lemmas.List.{drop_all}
use Rattle.std.proofs.lemmas.List.FromFn.{map-range_with_len_more}
use Rattle.ckpt_records.specs.declared.meta.PagePlace.{PagePlace}
use Rattle.ckpt_records.specs.declared.meta.PageRun.{PageRun}
use Rattle.ckpt_records.specs.Listed.{first_page, IsApart, AreApart}
use Rattle.ckpt_records.specs.Spelling.{listed_runs}
use Rattle.ckpt_chain.specs.Slot.{IsFormat}
use Rattle.tables.proofs.Ordered.{each_weaker}
use Rattle.ckpt_records.specs.Runs.{page_at, run_pages, pages_of_runs, lone_run, continues, longer, runs_from, runs_of}

pub cases : (b : Bool) → (b ≡ true) ⊎ (b ≡ false)
cases true = inl refl
cases false = inr refl

and_both : (a b : Bool) → (a && b) ≡ true → (a ≡ true) × (b ≡ true)
and_both true b both = (refl, both)
and_both false b both = absurd cc

-- places are the same where their numbers are
same_place : (o p b o' p' b' : ℕ) → o ≡ o' → p ≡ p' → b ≡ b' → let q : PagePlace = record { object = o; page = p; block = b } in let r : PagePlace = record { object = o'; page = p'; block = b' } in q ≡ r
same_place o p b o' p' b' x y z =
    ap (λ (n : ℕ). record { object = n; page = p; block = b }) x ∙ ap (λ (n : ℕ). record { object = o'; page = n; block = b }) y ∙ ap (λ (n : ℕ). record { object = o'; page = p'; block = n }) z

same_run : (o f c b f' c' b' : ℕ) → f ≡ f' → c ≡ c' → b ≡ b' → let q : PageRun = record { object = o; first = f; count = c; block = b } in let r : PageRun = record { object = o; first = f'; count = c'; block = b' } in q ≡ r
same_run o f c b f' c' b' x y z =
    ap (λ (n : ℕ). record { object = o; first = n; count = c; block = b }) x ∙ ap (λ (n : ℕ). record { object = o; first = f'; count = n; block = b }) y ∙ ap (λ (n : ℕ). record { object = o; first = f'; count = c'; block = n }) z

-- the page that continues a run is its next one
next_page : (r : PageRun) (p : PagePlace) → continues r p ≡ true → page_at r r.count ≡ p
next_page r p said =
    let most = and_both ((p.object == r.object) && (p.page == r.first + r.count)) (p.block == r.block + r.count) said in
    let both = and_both (p.object == r.object) (p.page == r.first + r.count) most.0 in
    same_place _ _ _ p.object p.page p.block (sym (eqb-true _ _ both.0)) (sym (eqb-true _ _ both.1)) (sym (eqb-true _ _ most.1))

-- and a run's next page continues it
continued : (r : PageRun) (p : PagePlace) → p.object ≡ r.object → p.page ≡ r.first + r.count → p.block ≡ r.block + r.count → continues r p ≡ true
continued r p x y z = rw (eq-eqb p.object r.object x, eq-eqb p.page (r.first + r.count) y, eq-eqb p.block (r.block + r.count) z) refl

-- ---- the pages of the runs of a list

pub lone_pages : (p : PagePlace) → run_pages (lone_run p) ≡ p ∷ []
lone_pages p = ap (λ (q : PagePlace). q ∷ []) (same_place p.object (p.page + 0) (p.block + 0) p.object p.page p.block refl (omega arith) (omega arith))

longer_pages : (r : PageRun) (p : PagePlace) → continues r p ≡ true → run_pages (longer r) ≡ run_pages r ++ p ∷ []
longer_pages r p said = map-range_with_len_more (page_at r) 0 r.count r.count (omega arith) ∙ ap (λ (q : PagePlace). run_pages r ++ q ∷ []) (next_page r p said)

from_pages : (r : PageRun) (pages : List PagePlace) → pages_of_runs (runs_from r pages) ≡ run_pages r ++ pages
unfolding runs_from
from_pages r [] = refl
from_pages r (p ∷ pages) = elim (cases (continues r p)) [
  | inl said ↦ rw said (from_pages (longer r) pages ∙ ap (λ (ps : List PagePlace). ps ++ pages) (longer_pages r p said) ∙ append_assoc (run_pages r) (p ∷ []) pages)
  | inr said ↦ rw said (ap (λ (ps : List PagePlace). run_pages r ++ ps) (from_pages (lone_run p) pages ∙ ap (λ (ps : List PagePlace). ps ++ pages) (lone_pages p)))
]

runs_cover : (pages : List PagePlace) → pages_of_runs (runs_of pages) ≡ pages
unfolding runs_of
runs_cover [] = refl
runs_cover (p ∷ pages) = from_pages (lone_run p) pages ∙ ap (λ (ps : List PagePlace). ps ++ pages) (lone_pages p)

-- ---- the runs of the pages of runs

abbrev pub HasPages : PageRun → Type 0
HasPages r = 1 ≤ r.count

apart_from : (r s : PageRun) (pages : List PagePlace) → continues r (first_page s) ≡ false → IsApart r (runs_from s pages)
unfolding runs_from
apart_from r s [] apart = apart
apart_from r s (p ∷ pages) apart = elim (cases (continues s p)) [
  | inl said ↦ rw said (apart_from r (longer s) pages apart)
  | inr said ↦ rw said apart
]

from_apart : (r : PageRun) (pages : List PagePlace) → AreApart (runs_from r pages)
unfolding runs_from
from_apart r [] = (tt, tt)
from_apart r (p ∷ pages) = elim (cases (continues r p)) [
  | inl said ↦ rw said (from_apart (longer r) pages)
  | inr said ↦ rw said (apart_from r (lone_run p) pages said, from_apart (lone_run p) pages)
]

from_some : (r : PageRun) (pages : List PagePlace) → 1 ≤ r.count → AllByRecursion HasPages (runs_from r pages)
unfolding runs_from
from_some r [] some = (some, tt)
from_some r (p ∷ pages) some = elim (cases (continues r p)) [
  | inl said ↦ rw said (from_some (longer r) pages (omega arith))
  | inr said ↦ rw said (some, from_some (lone_run p) pages (omega arith))
]

runs_apart : (pages : List PagePlace) → AreApart (runs_of pages)
unfolding runs_of
runs_apart [] = tt
runs_apart (p ∷ pages) = from_apart (lone_run p) pages

runs_some : (pages : List PagePlace) → AllByRecursion HasPages (runs_of pages)
unfolding runs_of
runs_some [] = tt
runs_some (p ∷ pages) = from_some (lone_run p) pages (omega arith)

-- a run takes in the pages that follow its own
takes_in : (r : PageRun) (n : ℕ) (pages : List PagePlace) → runs_from r (map (page_at r) (range_with_len r.count n) ++ pages) ≡ runs_from (record r { count = r.count + n }) pages
unfolding runs_from
takes_in r zero pages = ap (λ (q : PageRun). runs_from q pages) (same_run r.object r.first r.count r.block r.first (r.count + 0) r.block refl (omega arith) refl)
takes_in r (suc n) pages =
    let yes : continues r (page_at r r.count) ≡ true = continued r (page_at r r.count) refl refl refl in
    rw yes (takes_in (longer r) n pages ∙ ap (λ (q : PageRun). runs_from q pages) (same_run r.object r.first (r.count + 1 + n) r.block r.first (r.count + suc n) r.block refl (omega arith) refl))

-- a run's first page, and the others
opened : (r : PageRun) (n : ℕ) → r.count ≡ suc n → run_pages r ≡ first_page r ∷ map (page_at r) (range_with_len 1 n)
opened r n is =
    ap (λ (k : ℕ). map (page_at r) (range_with_len 0 k)) is ∙ ap (λ (p : PagePlace). p ∷ map (page_at r) (range_with_len 1 n)) (same_place r.object (r.first + 0) (r.block + 0) r.object r.first r.block refl (omega arith) (omega arith))

-- a run's pages begin its run
begins : (r : PageRun) (n : ℕ) (pages : List PagePlace) → r.count ≡ suc n → runs_of (run_pages r ++ pages) ≡ runs_from r pages
unfolding runs_of
begins r n pages is =
    let alone : PageRun = lone_run (first_page r) in
    ap (λ (ps : List PagePlace). runs_of (ps ++ pages)) (opened r n is) ∙ takes_in alone n pages ∙ ap (λ (q : PageRun). runs_from q pages) (same_run r.object r.first (1 + n) r.block r.first r.count r.block refl (omega (arith, is)) refl)

goes_on : (r q : PageRun) (n : ℕ) (pages : List PagePlace) → q.count ≡ suc n → continues r (first_page q) ≡ false → runs_from r (run_pages q ++ pages) ≡ r ∷ runs_of (run_pages q ++ pages)
unfolding runs_of runs_from
goes_on r q n pages is apart = rw (opened q n is) (rw apart refl)

one_less : (n : ℕ) → 1 ≤ n → n ≡ suc (n - 1)
one_less n some = omega arith

runs_again : (runs : List PageRun) → AllByRecursion HasPages runs → AreApart runs → runs_of (pages_of_runs runs) ≡ runs
unfolding runs_of runs_from
runs_again [] some apart = refl
runs_again (r ∷ []) some apart = begins r (r.count - 1) [] (one_less r.count some.0)
runs_again (r ∷ q ∷ runs) some apart =
    begins r (r.count - 1) (pages_of_runs (q ∷ runs)) (one_less r.count some.0) ∙ goes_on r q (q.count - 1) (pages_of_runs runs) (one_less q.count some.1.0) apart.0 ∙ ap (λ (rs : List PageRun). r ∷ rs) (runs_again (q ∷ runs) some.1 apart.1)

-- ---- pages alone

lone_cover : (pages : List PagePlace) → pages_of_runs (map lone_run pages) ≡ pages
lone_cover [] = refl
lone_cover (p ∷ pages) = ap (λ (ps : List PagePlace). ps ++ pages_of_runs (map lone_run pages)) (lone_pages p) ∙ ap (λ (ps : List PagePlace). p ∷ ps) (lone_cover pages)

lone_some : (pages : List PagePlace) → AllByRecursion HasPages (map lone_run pages)
lone_some [] = tt
lone_some (p ∷ pages) = (omega arith, lone_some pages)

lone_again : (runs : List PageRun) → AllByRecursion (λ r. r.count ≡ 1) runs → map lone_run (pages_of_runs runs) ≡ runs
lone_again [] ones = refl
lone_again (r ∷ runs) ones =
    ap (λ (ps : List PagePlace). map lone_run (ps ++ pages_of_runs runs)) (opened r 0 ones.0) ∙ ap (λ (rs : List PageRun). lone_run (first_page r) ∷ rs) (lone_again runs ones.1)
    ∙ ap (λ (q : PageRun). q ∷ runs) (same_run r.object r.first 1 r.block r.first r.count r.block refl (sym ones.0) refl)

-- ---- the runs by which pages are listed

pub listed_cover : (format : ℕ) → IsFormat format → (pages : List PagePlace) → pages_of_runs (listed_runs format pages) ≡ pages
listed_cover format (inl is) pages = subst (λ (n : ℕ). pages_of_runs (listed_runs n pages) ≡ pages) (sym is) (lone_cover pages)
listed_cover format (inr is) pages = subst (λ (n : ℕ). pages_of_runs (listed_runs n pages) ≡ pages) (sym is) (runs_cover pages)

pub listed_some : (format : ℕ) → IsFormat format → (pages : List PagePlace) → AllByRecursion HasPages (listed_runs format pages)
listed_some format (inl is) pages = subst (λ (n : ℕ). AllByRecursion HasPages (listed_runs n pages)) (sym is) (lone_some pages)
listed_some format (inr is) pages = subst (λ (n : ℕ). AllByRecursion HasPages (listed_runs n pages)) (sym is) (runs_some pages)

pub listed_apart : (format : ℕ) (pages : List PagePlace) → format ≡ 2 → AreApart (listed_runs format pages)
listed_apart format pages is = subst (λ (n : ℕ). AreApart (listed_runs n pages)) (sym is) (runs_apart pages)

pub listed_again : (format : ℕ) → IsFormat format → (runs : List PageRun) → AllByRecursion (λ r. format ≡ 1 → r.count ≡ 1) runs → AllByRecursion HasPages runs → (format ≡ 2 → AreApart runs) → listed_runs format (pages_of_runs runs) ≡ runs
listed_again format (inl is) runs ones some apart = subst (λ (n : ℕ). listed_runs n (pages_of_runs runs) ≡ runs) (sym is) (lone_again runs (each_weaker (λ r. format ≡ 1 → r.count ≡ 1) (λ r. r.count ≡ 1) runs (λ r one. one is) ones))
listed_again format (inr is) runs ones some apart = subst (λ (n : ℕ). listed_runs n (pages_of_runs runs) ≡ runs) (sym is) (runs_again runs some (apart is))

-- ---- the test

not_true : (b : Bool) → true ≡ not b → b ≡ false
not_true true is = absurd (false≢true (sym is))
not_true false is = refl

apart_near : (runs : List PageRun) → AllAdjacentBelow (λ r q. true ≡ not (continues r (first_page q))) runs (length runs) → AreApart runs
apart_near [] near = tt
apart_near (r ∷ []) near = (tt, tt)
apart_near (r ∷ q ∷ runs) near = (
  not_true (continues r (first_page q)) (near 0 r (omega arith)),
  apart_near (q ∷ runs) (λ k d lt.
      let next : suc k + 1 ≡ suc (k + 1) = omega arith in
      subst (λ (j : ℕ). true ≡ not (continues (get_or (q ∷ runs) k d) (first_page (get_or (r ∷ q ∷ runs) j d)))) next (near (suc k) d (omega (arith, lt)))),
)

apart_at : (runs : List PageRun) (k : ℕ) (d : PageRun) → k + 1 < length runs → AreApart runs → continues (get_or runs k d) (first_page (get_or runs (k + 1) d)) ≡ false
apart_at [] k d lt apart = absurd (omega (arith, lt))
apart_at (r ∷ []) k d lt apart = absurd (omega (arith, lt))
apart_at (r ∷ q ∷ runs) zero d lt apart = apart.0
apart_at (r ∷ q ∷ runs) (suc k) d lt apart =
    let next : suc (k + 1) ≡ suc k + 1 = omega arith in
    subst (λ (j : ℕ). continues (get_or (q ∷ runs) k d) (first_page (get_or (r ∷ q ∷ runs) j d)) ≡ false) next (apart_at (q ∷ runs) k d (omega (arith, lt)) apart.1)

pub apart_answered : (runs : List PageRun) (b : Bool) → IsAllAdjacentAnswer (λ r q b. b ≡ not (continues r (first_page q))) runs b → (IsTrue b → AreApart runs) × (AreApart runs → IsTrue b)
apart_answered runs true near = (λ _. apart_near runs near, λ _. refl)
apart_answered [] false (k, lt, differs) = absurd (omega (arith, lt))
apart_answered (r ∷ runs) false (k, lt, differs) =
    (λ never. absurd (false≢true never), λ apart. absurd (false≢true (differs r ∙ ap not (apart_at (r ∷ runs) k r lt apart))))

-- ---- one page after another

split_at : (pages : List PagePlace) (i : ℕ) (d : PagePlace) → i < length pages → drop i pages ≡ get_or pages i d ∷ drop (i + 1) pages
split_at pages i d lt = rw add-one (drop-cons pages i d lt)

pub more_run : (found found' : List PageRun) (r r' : PageRun) (pages : List PagePlace) (i : ℕ) (d : PagePlace) (whole : List PageRun) → i < length pages → continues r (get_or pages i d) ≡ true → found' ≡ found → r' ≡ longer r
    → found ++ runs_from r (drop i pages) ≡ whole → found' ++ runs_from r' (drop (i + 1) pages) ≡ whole
unfolding runs_from
more_run found found' r r' pages i d whole lt said found_is run_is so_far =
    let step : runs_from r (drop i pages) ≡ runs_from (longer r) (drop (i + 1) pages) = rw (split_at pages i d lt, said) refl in
    ap (λ (rs : List PageRun). rs ++ runs_from r' (drop (i + 1) pages)) found_is ∙ ap (λ (q : PageRun). found ++ runs_from q (drop (i + 1) pages)) run_is ∙ ap (λ (rs : List PageRun). found ++ rs) (sym step) ∙ so_far

pub new_run : (found found' : List PageRun) (r r' : PageRun) (pages : List PagePlace) (i : ℕ) (d : PagePlace) (whole : List PageRun) → i < length pages → continues r (get_or pages i d) ≡ false → found' ≡ found ++ r ∷ [] → r' ≡ lone_run (get_or pages i d)
    → found ++ runs_from r (drop i pages) ≡ whole → found' ++ runs_from r' (drop (i + 1) pages) ≡ whole
unfolding runs_from
new_run found found' r r' pages i d whole lt said found_is run_is so_far =
    let step : runs_from r (drop i pages) ≡ r ∷ runs_from (lone_run (get_or pages i d)) (drop (i + 1) pages) = rw (split_at pages i d lt, said) refl in
    ap (λ (rs : List PageRun). rs ++ runs_from r' (drop (i + 1) pages)) found_is ∙ append_assoc found (r ∷ []) (runs_from r' (drop (i + 1) pages)) ∙ ap (λ (q : PageRun). found ++ r ∷ runs_from q (drop (i + 1) pages)) run_is ∙ ap (λ (rs : List PageRun). found ++ rs) (sym step) ∙ so_far

pub last_run : (found : List PageRun) (r : PageRun) (pages : List PagePlace) (i : ℕ) (whole : List PageRun) → length pages ≤ i → found ++ runs_from r (drop i pages) ≡ whole → found ++ r ∷ [] ≡ whole
unfolding runs_from
last_run found r pages i whole le so_far = ap (λ (ps : List PagePlace). found ++ runs_from r ps) (sym (drop_all i pages le)) ∙ so_far

pub runs_begin : (p : PagePlace) (pages : List PagePlace) → runs_of (p ∷ pages) ≡ runs_from (lone_run p) pages
unfolding runs_of
runs_begin p pages = refl

pub runs_none : runs_of [] ≡ []
unfolding runs_of
runs_none = refl
