-- Rows changed one after another, and faces that go one after another.
use Rattle.std.proofs.Common.{◌≡◌, ℕ, zero, suc, ◌+◌, ◌++◌, ◌≤◌, ◌<◌, ◌==◌, ◌||◌, ◌&&◌, Bool, true, false, not, List, [], ◌∷◌, length, take, drop, map, remove, set, get_or, refl, sym, ap, ◌∙◌, arith}
use Rattle.std.proofs.lemmas.Bool.{eqb-true, false≢true}
use Rattle.std.proofs.lemmas.Bool.Decides.{nat_tests}
use Rattle.std.proofs.lemmas.List.Elements.{filter_agree}
use Rattle.std.proofs.lemmas.List.Folds.{list_any-append}
use Rattle.std.specs.Prelude.{if◌then◌else◌}
use Rattle.std.specs.List.{filter, list_any}
use Rattle.address_maps.specs.declared.maps.Mapping.{Mapping}
use Rattle.shadow_chains.specs.Entries.{number_of}
use Rattle.shadow_chains.specs.declared.entry.Entry.{Entry}
use Rattle.tables.specs.Rising.{removed}
use Rattle.group_kernel.specs.Ending.{filtered_from, maps_any, row_maps, stays_shared, without_unmapped}
use Rattle.group_kernel.specs.declared.row.Row.{Row}

-- the first so many changed
abbrev pub changed_to : {X : Type 0} → (X → X) → List X → ℕ → List X
changed_to f xs n = map f (take n xs) ++ drop n xs

pub change_next : {X : Type 0} (f : X → X) (xs : List X) (n : ℕ) (d : X) → n < length xs → set (changed_to f xs n) n (f (get_or (changed_to f xs n) n d)) ≡ changed_to f xs (n + 1)
change_next f [] n d lt = absurd (omega (arith, lt))
change_next f (x ∷ xs) zero d lt = refl
change_next {X} f (x ∷ xs) (suc n) d lt =
    let next : suc n + 1 ≡ suc (n + 1) = omega arith in
    ap (λ (l : List X). f x ∷ l) (change_next f xs n d (omega (arith, lt))) ∙ ap (changed_to f (x ∷ xs)) (sym next)

pub all_changed : {X : Type 0} (f : X → X) (xs : List X) (n : ℕ) → length xs ≤ n → changed_to f xs n ≡ map f xs
all_changed f [] zero le = refl
all_changed f [] (suc n) le = refl
all_changed f (x ∷ xs) zero le = absurd (omega (arith, le))
all_changed {X} f (x ∷ xs) (suc n) le = ap (λ (l : List X). f x ∷ l) (all_changed f xs n (omega (arith, le)))

-- One more mapping: its object's face goes where no row maps it.
filter_both : {X : Type 0} (t u : X → Bool) (xs : List X) → filter t (filter u xs) ≡ filter (λ x. u x && t x) xs
filter_both t u [] = refl
filter_both {X} t u (x ∷ xs) = by_test (u x) (t x) refl (filter_both t u xs)
  where
    by_test : (b c : Bool) → t x ≡ c → filter t (filter u xs) ≡ filter (λ y. u y && t y) xs → filter t (if b then x ∷ filter u xs else filter u xs) ≡ (if b && c then x ∷ filter (λ y. u y && t y) xs else filter (λ y. u y && t y) xs)
    by_test true true e ih = rw e (ap (λ (l : List X). x ∷ l) ih)
    by_test true false e ih = rw e ih
    by_test false c e ih = ih

module _ (rows : List Row) (ms : List Mapping) (m : Mapping) where
  one_more : (n : ℕ) → maps_any (ms ++ m ∷ []) n ≡ (maps_any ms n || ((m.object == n) || false))
  one_more n = list_any-append (λ (x : Mapping). x.object == n) ms (m ∷ [])

  kept_test : (a b c : Bool) → (b ≡ true → c ≡ true) → (not (a || (b || false)) || c) ≡ (not a || c)
  kept_test true b c e = refl
  kept_test false true true e = refl
  kept_test false true false e = absurd (false≢true (e refl))
  kept_test false false c e = refl

  gone_test : (a b c : Bool) → (b ≡ true → c ≡ false) → ((not a || c) && not b) ≡ (not (a || (b || false)) || c)
  gone_test true true true e = absurd (false≢true (sym (e refl)))
  gone_test true true false e = refl
  gone_test true false true e = refl
  gone_test true false false e = refl
  gone_test false true true e = absurd (false≢true (sym (e refl)))
  gone_test false true false e = refl
  gone_test false false c e = refl

  mapped_same : list_any (row_maps m.object) rows ≡ true → (n : ℕ) → stays_shared ms rows n ≡ stays_shared (ms ++ m ∷ []) rows n
  mapped_same mapped n =
      sym (ap (λ (b : Bool). not b || list_any (row_maps n) rows) (one_more n)
      ∙ kept_test (maps_any ms n) (m.object == n) (list_any (row_maps n) rows) (λ e. ap (λ k. list_any (row_maps k) rows) (sym (eqb-true m.object n e)) ∙ mapped))

  unmapped_less : list_any (row_maps m.object) rows ≡ false → (n : ℕ) → (stays_shared ms rows n && not (n == m.object)) ≡ stays_shared (ms ++ m ∷ []) rows n
  unmapped_less mapped n =
      ap (λ (b : Bool). stays_shared ms rows n && not b) (turned n m.object)
      ∙ gone_test (maps_any ms n) (m.object == n) (list_any (row_maps n) rows) (λ e. ap (λ k. list_any (row_maps k) rows) (sym (eqb-true m.object n e)) ∙ mapped)
      ∙ sym (ap (λ (b : Bool). not b || list_any (row_maps n) rows) (one_more n))
    where
      turned : (k l : ℕ) → (k == l) ≡ (l == k)
      turned k l = grind (arith, nat_tests)

  next_by : (xs : List Entry) (t : Bool) → list_any (row_maps m.object) rows ≡ t
      → (if t then filter (λ e. stays_shared ms rows e.number) xs else removed number_of (filter (λ e. stays_shared ms rows e.number) xs) m.object) ≡ filter (λ e. stays_shared (ms ++ m ∷ []) rows e.number) xs
  next_by xs true mapped = filter_agree (λ (e : Entry). stays_shared ms rows e.number) (λ (e : Entry). stays_shared (ms ++ m ∷ []) rows e.number) (λ e. mapped_same mapped e.number) xs
  next_by xs false mapped =
      filter_both (λ (e : Entry). not (e.number == m.object)) (λ (e : Entry). stays_shared ms rows e.number) xs
      ∙ filter_agree (λ (e : Entry). stays_shared ms rows e.number && not (e.number == m.object)) (λ (e : Entry). stays_shared (ms ++ m ∷ []) rows e.number) (λ e. unmapped_less mapped e.number) xs

  pub next_stays : (xs : List Entry) → without_unmapped rows m.object (filter (λ e. stays_shared ms rows e.number) xs) ≡ filter (λ e. stays_shared (ms ++ m ∷ []) rows e.number) xs
  next_stays xs = next_by xs (list_any (row_maps m.object) rows) refl

pub all_stay : (rows : List Row) (xs : List Entry) → filter (λ e. stays_shared [] rows e.number) xs ≡ xs
all_stay rows [] = refl
all_stay rows (x ∷ xs) = ap (λ (l : List Entry). x ∷ l) (all_stay rows xs)

-- An entry passes and stays, or goes: what is still to be tested is filtered as before.
pub one_kept : {X : Type 0} (t : X → Bool) (xs : List X) (n : ℕ) (d : X) → n < length xs → t (get_or xs n d) ≡ true → filtered_from t (n + 1) xs ≡ filtered_from t n xs
one_kept t [] n d lt e = absurd (omega (arith, lt))
one_kept t (x ∷ xs) zero d lt e = rw e refl
one_kept {X} t (x ∷ xs) (suc n) d lt e =
    let next : suc n + 1 ≡ suc (n + 1) = omega arith in
    ap (λ k. filtered_from t k (x ∷ xs)) next ∙ ap (λ (l : List X). x ∷ l) (one_kept t xs n d (omega (arith, lt)) e)

pub one_gone : {X : Type 0} (t : X → Bool) (xs : List X) (n : ℕ) (d : X) → n < length xs → t (get_or xs n d) ≡ false → filtered_from t n (remove xs n) ≡ filtered_from t n xs
one_gone t [] n d lt e = absurd (omega (arith, lt))
one_gone t (x ∷ xs) zero d lt e = rw e refl
one_gone {X} t (x ∷ xs) (suc n) d lt e = ap (λ (l : List X). x ∷ l) (one_gone t xs n d (omega (arith, lt)) e)

pub all_kept : {X : Type 0} (t : X → Bool) (xs : List X) (n : ℕ) → length xs ≤ n → filtered_from t n xs ≡ xs
all_kept t [] zero le = refl
all_kept t [] (suc n) le = refl
all_kept t (x ∷ xs) zero le = absurd (omega (arith, le))
all_kept {X} t (x ∷ xs) (suc n) le = ap (λ (l : List X). x ∷ l) (all_kept t xs n (omega (arith, le)))
