-- Whether a Turn since its Take did something stands in a lease.
use Rattle.std.proofs.Common.{◌≡◌, ◌⊎◌, inl, inr, ℕ, ◌==◌, ◌&&◌, ◌||◌, not, Bool, true, false, List, [], ◌∷◌, ◌++◌, map, refl, ap, sym, ◌∙◌, subst}
use Rattle.std.specs.Prelude.{All, if◌then◌else◌, filter, IsTrue}
use Rattle.std.specs.List.{list_any}
use Rattle.std.proofs.lemmas.Bool.{and_parts, eqb-true}
use Rattle.std.proofs.lemmas.List.Elements.{All-filter, All-head, All-map, All-push, All-tail}
use Rattle.std.proofs.lemmas.List.Folds.{list_any-append}
use Rattle.group_defs.specs.Group.{Group}
use Rattle.run_laws.proofs.FileBytes.{or_both}
use Rattle.run_laws.proofs.MachineLaws.{progress_more}
use Rattle.run_defs.specs.Marks.{is_take_of}
use Rattle.run_laws.specs.Counts.{did_something}
use Rattle.run_defs.specs.Legal.{Allowed, Legal, has_moved}
use Rattle.run_defs.specs.Progress.{EachMark, Lease, Progress, after_mark, is_lease, leases_after_turn, progress_after, progress_at}
use Rattle.run_defs.specs.Turns.{does_something}
use Rattle.run_defs.specs.declared.run.Limits.{Limits}
use Rattle.run_defs.specs.declared.run.Mark.{Mark}
use Rattle.run_defs.specs.declared.run.Mark.TheVariants.{Take, Turn, Barrier, Fetch, Ack}

or_true : (b : Bool) → (b || true) ≡ true
or_true true = refl
or_true false = refl

any_of_map : {X : Type 0} (t : X → Bool) (f : X → X) (xs : List X) → list_any t (map f xs) ≡ list_any (λ x. t (f x)) xs
any_of_map t f [] = refl
any_of_map t f (x ∷ xs) = ap (λ (b : Bool). t (f x) || b) (any_of_map t f xs)

any_of_filter : {X : Type 0} (t q : X → Bool) (xs : List X) → list_any t (filter q xs) ≡ true → list_any t xs ≡ true
any_of_filter t q [] e = e
any_of_filter t q (x ∷ xs) e = by_test (q x) (t x) e (any_of_filter t q xs)
  where
    by_test : (b u : Bool) → list_any t (if b then x ∷ filter q xs else filter q xs) ≡ true → (list_any t (filter q xs) ≡ true → list_any t xs ≡ true) → (t x || list_any t xs) ≡ true
    by_test true u e rest = by_here (t x) e
      where
        by_here : (h : Bool) → (h || list_any t (filter q xs)) ≡ true → (h || list_any t xs) ≡ true
        by_here true e = refl
        by_here false e = rest e
    by_test false u e rest = ap (λ (b : Bool). t x || b) (rest e) ∙ or_true (t x)

module _ (worker pid : ℕ) where
  abbrev its : Lease → Bool
  its l = is_lease worker pid l

  -- ---- with a Turn that did something behind its Take, it has moved

  abbrev HasMoved : Lease → Type 0
  HasMoved l = its l ≡ true → l.moved ≡ true

  step_moved : (quantum : ℕ) (r : Progress) (m : Mark) → is_take_of worker pid m ≡ false → All HasMoved r.leases → All HasMoved (after_mark quantum r m).leases
  step_moved quantum r (Take w p) other all = All-push HasMoved r.leases _ all (λ hit. let wrong = sym other ∙ hit in cc)
  step_moved quantum r (Turn w p n) other all =
      let did = does_something r.state p n in let kept = filter (λ l. not (is_lease w p l)) r.leases in
      All-map HasMoved (λ (l : Lease). record l { moved = did || l.moved }) kept (λ k d lt hit. ap (λ (t : Bool). did || t) (All-filter (λ l. not (is_lease w p l)) HasMoved r.leases all k d lt hit) ∙ or_true did)
  step_moved quantum r (Barrier e) other all = all
  step_moved quantum r (Fetch e) other all = all
  step_moved quantum r (Ack e) other all = all

  marks_moved : (quantum : ℕ) (r : Progress) (ms : List Mark) → list_any (is_take_of worker pid) ms ≡ false → All HasMoved r.leases → All HasMoved (progress_after quantum r ms).leases
  marks_moved quantum r [] other all = all
  marks_moved quantum r (m ∷ ms) other all = let parts = or_both (is_take_of worker pid m) (list_any (is_take_of worker pid) ms) other in marks_moved quantum (after_mark quantum r m) ms parts.1 (step_moved quantum r m parts.0 all)

  leased_moved : (ls : List Lease) → list_any its ls ≡ true → All HasMoved ls → has_moved ls worker pid ≡ true
  leased_moved [] e all = absurd (cc)
  leased_moved (l ∷ ls) e all = by_case (its l) l.moved (All-head HasMoved l ls all) e (λ more. leased_moved ls more (All-tail HasMoved l ls all))
    where
      by_case : (i m : Bool) → (i ≡ true → m ≡ true) → (i || list_any its ls) ≡ true → (list_any its ls ≡ true → has_moved ls worker pid ≡ true) → ((i && m) || has_moved ls worker pid) ≡ true
      by_case true true moved e rest = refl
      by_case true false moved e rest = let wrong = moved refl in absurd (cc)
      by_case false m moved e rest = rest e

  -- a Turn that did something
  after_did : (quantum : ℕ) (r : Progress) (m : Mark) → did_something r m ≡ true → All HasMoved (after_mark quantum r m).leases
  after_did quantum r (Take w p) did = absurd (cc)
  after_did quantum r (Turn w p n) did =
      let kept = filter (λ l. not (is_lease w p l)) r.leases in
      subst (λ (t : Bool). All HasMoved (leases_after_turn w p t r.leases)) (sym did) (All-map HasMoved (λ (l : Lease). record l { moved = true || l.moved }) kept (λ k d lt hit. refl))
  after_did quantum r (Barrier e) did = absurd (cc)
  after_did quantum r (Fetch e) did = absurd (cc)
  after_did quantum r (Ack e) did = absurd (cc)

  pub moved_behind : (quantum : ℕ) (r : Progress) (b : List Mark) (m : Mark) (c : List Mark) → did_something (progress_after quantum r b) m ≡ true → list_any (is_take_of worker pid) c ≡ false
      → list_any its (progress_after quantum r (b ++ m ∷ c)).leases ≡ true → has_moved (progress_after quantum r (b ++ m ∷ c)).leases worker pid ≡ true
  moved_behind quantum r b m c did none leased =
      let s = progress_after quantum r b in
      leased_moved (progress_after quantum r (b ++ m ∷ c)).leases leased (subst (λ (x : Progress). All HasMoved x.leases) (sym (progress_more quantum r b (m ∷ c))) (marks_moved quantum (after_mark quantum s m) c none (after_did quantum s m did)))

  -- ---- and a lease that has moved has such a Turn behind its Take

  abbrev Moved : ℕ → Progress → List Mark → Type 0
  Moved quantum r marks = (b : List Mark) × (m : Mark) × (c : List Mark) × (marks ≡ b ++ m ∷ c) × IsTrue (did_something (progress_after quantum r b) m) × (list_any (is_take_of worker pid) c ≡ false)

  abbrev Found : ℕ → Progress → List Mark → Type 0
  Found quantum r marks = ((has_moved r.leases worker pid ≡ true) × (list_any (is_take_of worker pid) marks ≡ false)) ⊎ Moved quantum r marks

  moved_before : (w p : ℕ) (did : Bool) (ls : List Lease) → did ≡ false → has_moved (leases_after_turn w p did ls) worker pid ≡ true → has_moved ls worker pid ≡ true
  moved_before w p true ls no_did e = absurd (cc)
  moved_before w p false ls no_did e =
      let kept = filter (λ l. not (is_lease w p l)) ls in
      any_of_filter (λ l. its l && l.moved) (λ l. not (is_lease w p l)) ls (sym (any_of_map (λ l. its l && l.moved) (λ (l : Lease). record l { moved = false || l.moved }) kept) ∙ e)

  idle_none : (ls : List Lease) → not (list_any (λ l. l.worker == worker) ls) ≡ true → has_moved ls worker pid ≡ false
  idle_none [] e = refl
  idle_none (l ∷ ls) e = by_test (l.worker == worker) e (idle_none ls)
    where
      by_test : (t : Bool) → not (t || list_any (λ x. x.worker == worker) ls) ≡ true → (not (list_any (λ x. x.worker == worker) ls) ≡ true → has_moved ls worker pid ≡ false) → (((t && (l.pid == pid)) && l.moved) || has_moved ls worker pid) ≡ false
      by_test true e rest = absurd (cc)
      by_test false e rest = rest e

  moved_found : (limits : Limits) (r : Progress) (marks : List Mark) → EachMark (Allowed limits) limits.quantum r marks → has_moved (progress_after limits.quantum r marks).leases worker pid ≡ true → Found limits.quantum r marks
  unfolding EachMark
  moved_found limits r [] l e = inl (e, refl)
  moved_found limits r (m ∷ ms) l e = by_rest (moved_found limits (after_mark limits.quantum r m) ms l.1 e)
    where
      of_mark : (m : Mark) → Allowed limits r m → has_moved (after_mark limits.quantum r m).leases worker pid ≡ true → list_any (is_take_of worker pid) ms ≡ false → Found limits.quantum r (m ∷ ms)
      of_mark (Take w p) a h none = by_take ((w == worker) && (p == pid)) refl (sym (list_any-append (λ x. its x && x.moved) r.leases _) ∙ h)
        where
          drop_last : (a b : Bool) → (a || ((b && false) || false)) ≡ true → a ≡ true
          drop_last true b e = refl
          drop_last false true e = e
          drop_last false false e = e

          by_take : (t : Bool) → ((w == worker) && (p == pid)) ≡ t → (has_moved r.leases worker pid || ((((w == worker) && (p == pid)) && false) || false)) ≡ true → Found limits.quantum r (Take w p ∷ ms)
          by_take false other h = inl (drop_last _ _ h, ap (λ (t : Bool). t || list_any (is_take_of worker pid) ms) other ∙ none)
          by_take true hit h =
              let same : w ≡ worker = eqb-true w worker (and_parts (w == worker) (p == pid) hit).0 in
              let was = drop_last _ _ h in
              let never = idle_none r.leases (ap (λ (x : ℕ). not (list_any (λ l. l.worker == x) r.leases)) (sym same) ∙ a.idle) in
              absurd (cc)
      of_mark (Turn w p n) a h none = by_did (does_something r.state p n) refl
        where
          by_did : (d : Bool) → does_something r.state p n ≡ d → Found limits.quantum r (Turn w p n ∷ ms)
          by_did true did = inr ([], Turn w p n, ms, refl, did, none)
          by_did false did = inl (moved_before w p (does_something r.state p n) r.leases did h, none)
      of_mark (Barrier e) a h none = inl (h, none)
      of_mark (Fetch e) a h none = inl (h, none)
      of_mark (Ack e) a h none = inl (h, none)

      by_rest : Found limits.quantum (after_mark limits.quantum r m) ms → Found limits.quantum r (m ∷ ms)
      by_rest (inl (h, none)) = of_mark m l.0 h none
      by_rest (inr (b, x, c, is, did, none)) = inr (m ∷ b, x, c, ap (λ (xs : List Mark). m ∷ xs) is, did, none)

  pub has_moved_found : (start : Group) (origin : ℕ) (limits : Limits) (marks : List Mark) → Legal start origin limits marks → has_moved (progress_after limits.quantum (progress_at origin start) marks).leases worker pid ≡ true → Moved limits.quantum (progress_at origin start) marks
  has_moved_found start origin limits marks l e = by_case (moved_found limits (progress_at origin start) marks l e)
    where
      by_case : Found limits.quantum (progress_at origin start) marks → Moved limits.quantum (progress_at origin start) marks
      by_case (inl (never, none)) = absurd (cc)
      by_case (inr found) = found
