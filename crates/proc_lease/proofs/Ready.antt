-- What is ready for a store.
use Rattle.std.proofs.Common.{◌≡◌, ◌⊎◌, inl, inr, ℕ, zero, suc, is_some, ◌+◌, ◌-◌, ◌*◌, ◌%◌, ◌^◌, ◌<◌, ◌≤◌, Bool, true, false, List, [], Option, Some, None, refl, sym, ap, ◌∙◌, subst, arith, All}
use Rattle.std.specs.Prelude.{nat_le, slice_index, slice_index_or, Result, Ok, Err, OnOk, IsOk}
use Rattle.std.proofs.lemmas.Bool.Decides.{nat_tests}
use Rattle.address_maps.specs.declared.maps.Mapping.{Mapping}
use Rattle.address_maps.specs.Mappings.{AreApart, IsMapping, mapping_at}
use Rattle.group_defs.specs.Cells.{bytes_in, cells_of, object_place}
use Rattle.group_defs.specs.Reserved.{EachFrom}
use Rattle.rv64_isa.specs.Memory.{both, bytes_with}
use Rattle.rv64_isa.specs.Numbers.{wrapped}
use Rattle.shadow_chains.specs.Chain.{HasRange, covers}
use Rattle.shadow_chains.specs.Faces.{FaceView}
use Rattle.shadow_chains.specs.declared.entry.Entry.{Entry}
use Rattle.proc_lease.specs.Sight.{IsSpot, IsStoreReady, has_object, is_able}
use Rattle.proc_lease.proofs.ObjectLists.{no_face}
use Rattle.proc_lease.proofs.Rights.{cell_at}
use Rattle.proc_lease.proofs.Spots.{all_able, mapped_wrapped, small, starts_by}
use Rattle.proc_lease.specs.Private.{IsReadyFor, StaysReady, ready_of, views_of}
use Rattle.proc_lease.proofs.Views.{nothing_unready, still_ready}

pub kept_ready : (private public private' public' : List Entry) (maps : List Mapping) (a : ℕ) → StaysReady private private' → StaysReady public public' → IsStoreReady private public maps a → IsStoreReady private' public' maps a
kept_ready private public private' public' maps a mine theirs ready = record { mapping = ready.mapping; is = ready.is; able = ready.able; ready = by_side ready.ready }
  where
    by_side : IsReadyFor private ready.mapping.object (object_place ready.mapping a) 1 ⊎ IsReadyFor public ready.mapping.object (object_place ready.mapping a) 1 → IsReadyFor private' ready.mapping.object (object_place ready.mapping a) 1 ⊎ IsReadyFor public' ready.mapping.object (object_place ready.mapping a) 1
    by_side (inl r) = inl (still_ready private private' ready.mapping.object (object_place ready.mapping a) 1 mine r)
    by_side (inr r) = inr (still_ready public public' ready.mapping.object (object_place ready.mapping a) 1 theirs r)

pub kept_private : (private public private' : List Entry) (maps : List Mapping) (a : ℕ) → StaysReady private private' → IsStoreReady private public maps a → IsStoreReady private' public maps a
kept_private private public private' maps a mine ready = kept_ready private public private' public maps a mine (nothing_unready public) ready

pub kept_public : (private public public' : List Entry) (maps : List Mapping) (a : ℕ) → StaysReady public public' → IsStoreReady private public maps a → IsStoreReady private public' maps a
kept_public private public public' maps a theirs ready = kept_ready private public private public' maps a (nothing_unready private) theirs ready

-- ---- pages

covers_in : (place n k p : ℕ) → k < n → covers (place + k) 1 p ≡ true → covers place n p ≡ true
unfolding covers
covers_in place n k p lt is = grind (arith, nat_tests, lt, is)

covers_some : (place n p : ℕ) → covers place n p ≡ true → 4096 * p - place < n
unfolding covers
covers_some place n p is = grind (arith, nat_tests, is)

covers_here : (place n p : ℕ) → covers place n p ≡ true → covers (place + (4096 * p - place)) 1 p ≡ true
unfolding covers
covers_here place n p is = grind (arith, nat_tests, is)

none_ready : (entries : List Entry) (number place p : ℕ) → has_object (views_of entries) number ≡ false → IsReadyFor entries number place 1 → covers place 1 p ≡ true → ⊥
unfolding HasRange
none_ready entries number place p none ready covered =
    let empty : ready_of entries number ≡ [] = ap (λ (o : Option FaceView). elim o [ None ↦ [] | Some f ↦ f.ready ]) (no_face entries number none) in
    let never : slice_index_or {A = Bool} [] p false ≡ true = sym (ap (λ (l : List Bool). slice_index_or l p false) empty) ∙ ready p covered in
    absurd cc

same_some : {x y : Mapping} → Some x ≡ Some y → x ≡ y
same_some e = cc

module _ (private public : List Entry) (maps : List Mapping) (each : All IsMapping maps) (apart : AreApart maps) (a object place : ℕ) (shared : Bool) (is : IsSpot maps 2 a object place shared) (n : ℕ) (one : a % 4096 + n ≤ 4096) where
  abbrev m : Mapping
  m = is.mapping

  place_on : (k : ℕ) → k < n → object_place m (wrapped (a + k)) ≡ place + k
  place_on k lt =
      let e : wrapped (a + k) ≡ a + k = omega (arith, lt, small maps each apart 2 a object place shared is n one) in
      ap (object_place m) e ∙ omega (arith, is.place_is, starts_by maps each apart 2 a object place shared is n one)

  range_on : (entries : List Entry) (k : ℕ) → k < n → IsReadyFor entries object place n → IsReadyFor entries m.object (object_place m (wrapped (a + k))) 1
  unfolding HasRange
  range_on entries k lt ready p covered =
      ap (λ (o : ℕ). slice_index_or (ready_of entries o) p false) (sym is.object_is)
      ∙ ready p (covers_in place n k p lt (ap (λ (i : ℕ). covers i 1 p) (sym (place_on k lt)) ∙ covered))

  pub private_ready : IsReadyFor private object place n → EachFrom (IsStoreReady private public maps) a n
  private_ready ready k lt = record { mapping = m; is = mapped_wrapped maps each apart 2 a object place shared is n one k lt; able = is.able; ready = inl (range_on private k lt ready) }

  pub public_ready : IsReadyFor public object place n → EachFrom (IsStoreReady private public maps) a n
  public_ready ready k lt = record { mapping = m; is = mapped_wrapped maps each apart 2 a object place shared is n one k lt; able = is.able; ready = inr (range_on public k lt ready) }

  module _ (all : EachFrom (IsStoreReady private public maps) a n) where
    -- at the first byte that lies in a page
    ready_at : (k : ℕ) → k < n → IsReadyFor private m.object (place + k) 1 ⊎ IsReadyFor public m.object (place + k) 1
    ready_at k lt =
        let here = all k lt in
        let same : here.mapping ≡ m = same_some (sym here.is ∙ mapped_wrapped maps each apart 2 a object place shared is n one k lt) in
        subst (λ (i : ℕ). IsReadyFor private m.object i 1 ⊎ IsReadyFor public m.object i 1) (place_on k lt)
        (subst (λ (x : Mapping). IsReadyFor private x.object (object_place x (wrapped (a + k))) 1 ⊎ IsReadyFor public x.object (object_place x (wrapped (a + k))) 1) same here.ready)

    pub ready_public : has_object (views_of private) object ≡ false → IsReadyFor public object place n
    unfolding HasRange
    ready_public none p covered =
        let k = 4096 * p - place in
        let lt : k < n = covers_some place n p covered in
        let there : covers (place + k) 1 p ≡ true = covers_here place n p covered in
        by_side k there (ready_at k lt)
      where
        by_side : (k : ℕ) → covers (place + k) 1 p ≡ true → IsReadyFor private m.object (place + k) 1 ⊎ IsReadyFor public m.object (place + k) 1 → slice_index_or (ready_of public object) p false ≡ true
        by_side k there (inl r) = absurd (none_ready private m.object (place + k) p (ap (has_object (views_of private)) (sym is.object_is) ∙ none) r there)
        by_side k there (inr r) = ap (λ (o : ℕ). slice_index_or (ready_of public o) p false) is.object_is ∙ r p there

    pub ready_private : has_object (views_of public) object ≡ false → IsReadyFor private object place n
    unfolding HasRange
    ready_private none p covered =
        let k = 4096 * p - place in
        let lt : k < n = covers_some place n p covered in
        let there : covers (place + k) 1 p ≡ true = covers_here place n p covered in
        by_side k there (ready_at k lt)
      where
        by_side : (k : ℕ) → covers (place + k) 1 p ≡ true → IsReadyFor private m.object (place + k) 1 ⊎ IsReadyFor public m.object (place + k) 1 → slice_index_or (ready_of private object) p false ≡ true
        by_side k there (inr r) = absurd (none_ready public m.object (place + k) p (ap (has_object (views_of public)) (sym is.object_is) ∙ none) r there)
        by_side k there (inl r) = ap (λ (o : ℕ). slice_index_or (ready_of private o) p false) is.object_is ∙ r p there

-- what is ready may be written
pub ready_able : (private public : List Entry) (maps : List Mapping) (a n : ℕ) → a < 2 ^ 64 → 1 ≤ n → EachFrom (IsStoreReady private public maps) a n → is_able maps 2 a 1 ≡ false → ⊥
ready_able private public maps a n small some all unable =
    let here = all 0 (omega (arith, some)) in
    let at : wrapped (a + 0) ≡ a + 0 = omega (arith, small) in
    let able : is_able maps 2 a 1 ≡ true = all_able maps 2 a 1 here.mapping (λ k lt. let e : a + k ≡ wrapped (a + 0) = omega (arith, at, lt) in ap (mapping_at maps) e ∙ here.is) here.able (omega (arith, small)) in
    let never : true ≡ false = sym able ∙ unable in
    absurd cc

pub ok_given : {T E : Type 0} (r : Result T E) (P : Type 0) → IsOk r → OnOk r P → P
ok_given (Ok x) P is p = p
ok_given (Err x) P is p = absurd cc

-- a part of what is ready
pub each_part : (Holds : ℕ → Type 0) (a n k size : ℕ) → EachFrom Holds a n → k + size ≤ n → EachFrom Holds (wrapped (a + k)) size
each_part Holds a n k size all le i lt =
    let e : wrapped (a + (k + i)) ≡ wrapped (wrapped (a + k) + i) = omega arith in
    subst Holds e (all (k + i) (omega (arith, lt, le)))

-- ... and one part behind another
pub each_more : (Holds : ℕ → Type 0) (a k size : ℕ) → EachFrom Holds a k → EachFrom Holds (wrapped (a + k)) size → EachFrom Holds a (k + size)
each_more Holds a k size front back i lt = by_place (le_or_lt k i)
  where
    le_or_lt : (x y : ℕ) → (x ≤ y) ⊎ (y < x)
    le_or_lt x y = by_test (nat_le x y) refl
      where
        by_test : (b : Bool) → nat_le x y ≡ b → (x ≤ y) ⊎ (y < x)
        by_test true e = inl (grind (arith, nat_tests, e))
        by_test false e = inr (grind (arith, nat_tests, e))

    by_place : (k ≤ i) ⊎ (i < k) → Holds (wrapped (a + i))
    by_place (inr small) = front i small
    by_place (inl big) =
        let e : wrapped (wrapped (a + k) + (i - k)) ≡ wrapped (a + i) = omega (arith, big) in
        subst Holds e (back (i - k) (omega (arith, big, lt)))

all_ready_able : (private public : List Entry) (maps : List Mapping) (a n : ℕ) → EachFrom (IsStoreReady private public maps) a n → is_able maps 2 a n ≡ true
unfolding bytes_with
all_ready_able private public maps a zero all = refl
all_ready_able private public maps a (suc n) all =
    let here = all 0 (omega arith) in
    let at : wrapped (a + 0) ≡ wrapped a = omega arith in
    let found : mapping_at maps (wrapped a) ≡ Some here.mapping = ap (mapping_at maps) (sym at) ∙ here.is in
    let first = cell_at [] maps (wrapped a) 2 here.mapping true found here.able in
    ap (λ o. is_some (both o (bytes_with 2 (cells_of [] maps) (a + 1) n))) first
    ∙ one (slice_index (bytes_in [] here.mapping.object) (object_place here.mapping (wrapped a))) (bytes_with 2 (cells_of [] maps) (a + 1) n)
    ∙ all_ready_able private public maps (a + 1) n (λ k lt. let e : wrapped (a + suc k) ≡ wrapped (a + 1 + k) = omega arith in subst (IsStoreReady private public maps) e (all (suc k) (omega (arith, lt))))
  where
    one : (b : ℕ) (o : Option (List ℕ)) → is_some (both (Some b) o) ≡ is_some o
    one b None = refl
    one b (Some bs) = refl

-- where not each byte may be written, not each is ready
pub unable_unready : (private public : List Entry) (maps : List Mapping) (a n : ℕ) → is_able maps 2 a n ≡ false → EachFrom (IsStoreReady private public maps) a n → false ≡ true
unable_unready private public maps a n unable all = sym unable ∙ all_ready_able private public maps a n all
