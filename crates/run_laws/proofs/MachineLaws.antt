-- What stands after marks and further marks, and conditions that each mark meets.
use Rattle.std.proofs.Common.{◌≡◌, ℕ, List, [], ◌∷◌, ◌++◌}
use Rattle.std.proofs.lemmas.List.Sums.{fold-append}
use Rattle.run_defs.specs.Progress.{EachMark, Progress, after_mark, progress_after}
use Rattle.run_defs.specs.declared.run.Mark.{Mark}

pub progress_more : (quantum : ℕ) (r : Progress) (a b : List Mark) → progress_after quantum r (a ++ b) ≡ progress_after quantum (progress_after quantum r a) b
progress_more quantum r a b = fold-append (after_mark quantum) r a b

module _ (Meets : Progress → Mark → Type 0) (quantum : ℕ) where
  pub each_none : (r : Progress) → EachMark Meets quantum r []
  unfolding EachMark
  each_none r = tt

  pub each_split : (r : Progress) (a b : List Mark) → EachMark Meets quantum r (a ++ b) → EachMark Meets quantum r a × EachMark Meets quantum (progress_after quantum r a) b
  unfolding EachMark
  each_split r [] b e = (tt, e)
  each_split r (m ∷ a) b e = let rest = each_split (after_mark quantum r m) a b e.1 in ((e.0, rest.0), rest.1)

  pub each_join : (r : Progress) (a b : List Mark) → EachMark Meets quantum r a → EachMark Meets quantum (progress_after quantum r a) b → EachMark Meets quantum r (a ++ b)
  unfolding EachMark
  each_join r [] b e f = f
  each_join r (m ∷ a) b e f = (e.0, each_join (after_mark quantum r m) a b e.1 f)

  pub each_more : (r : Progress) (a : List Mark) (m : Mark) → EachMark Meets quantum r a → Meets (progress_after quantum r a) m → EachMark Meets quantum r (a ++ m ∷ [])
  unfolding EachMark
  each_more r a m e last = each_join r a (m ∷ []) e (last, tt)

  pub each_before : (r : Progress) (a : List Mark) (m : Mark) (b : List Mark) → EachMark Meets quantum r (a ++ m ∷ b) → Meets (progress_after quantum r a) m
  unfolding EachMark
  each_before r a m b e = (each_split r a (m ∷ b) e).1.0

  -- what each such mark keeps, all of them keep
  pub each_keeps : (P : Progress → Type 0) → ((r : Progress) (m : Mark) → Meets r m → P r → P (after_mark quantum r m)) → (r : Progress) (marks : List Mark) → EachMark Meets quantum r marks → P r → P (progress_after quantum r marks)
  unfolding EachMark
  each_keeps P keeps r [] e p = p
  each_keeps P keeps r (m ∷ ms) e p = each_keeps P keeps (after_mark quantum r m) ms e.1 (keeps r m e.0 p)

  -- and it holds where each of them stands
  pub each_with : (P : Progress → Type 0) → ((r : Progress) (m : Mark) → Meets r m → P r → P (after_mark quantum r m)) → (r : Progress) (marks : List Mark) → EachMark Meets quantum r marks → P r → EachMark (λ q m. P q × Meets q m) quantum r marks
  unfolding EachMark
  each_with P keeps r [] e p = tt
  each_with P keeps r (m ∷ ms) e p = ((p, e.0), each_with P keeps (after_mark quantum r m) ms e.1 (keeps r m e.0 p))

pub each_weaker : (quantum : ℕ) (P Q : Progress → Mark → Type 0) → ((r : Progress) (m : Mark) → P r m → Q r m) → (r : Progress) (marks : List Mark) → EachMark P quantum r marks → EachMark Q quantum r marks
unfolding EachMark
each_weaker quantum P Q f r [] e = tt
each_weaker quantum P Q f r (m ∷ ms) e = (f r m e.0, each_weaker quantum P Q f (after_mark quantum r m) ms e.1)
