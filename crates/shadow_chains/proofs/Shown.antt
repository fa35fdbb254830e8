-- What is read.
use Rattle.std.proofs.Common.{◌≡◌, ◌∙◌, inl, inr, ℕ, ◌+◌, ◌-◌, ◌*◌, ◌%◌, ◌<◌, ◌≤◌, List, ◌++◌, length, get_or, take, drop, Some, Option, sym, ap, arith}
use Rattle.std.proofs.lemmas.List.{ext_get_or, length-take-le, get_or-take, get_or-drop, length-drop, get_or_append_left, get_or-append_right}
use Rattle.std.proofs.lemmas.Bool.{cases_lt}
use borrow.Rule.Slice.PartMut.{put_mid, post_of}
use Rattle.mem_objects.specs.Pages.{Pages}
use Rattle.shadow_chains.specs.Chain.{top_page, byte_of, byte_at, flat}
use Rattle.shadow_chains.proofs.Flat.{get_or-flat, length-flat, split_place}

-- a byte of a page
pub byte_in_page : (ls : List Pages) (page k : ℕ) → k < 4096 → byte_at ls (4096 * page + k) ≡ byte_of (top_page ls page) k
unfolding byte_at
byte_in_page ls page k lt =
    let parts = split_place page k lt in
    ap (λ (m : ℕ). byte_of (top_page ls m) ((4096 * page + k) % 4096)) parts.0 ∙ ap (λ (m : ℕ). byte_of (top_page ls page) m) parts.1

pub read_is : (ls : List Pages) (n place k : ℕ) (into : List ℕ) → length into ≡ k → place + k ≤ 4096 * n → ((i : ℕ) → i < k → get_or into i 0 ≡ byte_at ls (place + i)) → into ≡ take (place + k - place) (drop place (flat ls n))
read_is ls n place k into size fits each =
    let all = flat ls n in
    let whole : length all ≡ 4096 * n = length-flat ls n in
    let e : place + k - place ≡ k = omega arith in
    rw e (ext_get_or 0 into (take k (drop place all)) (size ∙ sym (length-take-le k (drop place all) (omega (arith, length-drop place all))))
    (λ i lt. each i (omega arith) ∙ sym (get_or-take k (drop place all) i 0 (omega arith) ∙ get_or-drop place all i 0 ∙ get_or-flat ls n (place + i) (omega arith))))

pub piece_byte : (o : Option (List ℕ)) (buf into : List ℕ) (at len k : ℕ) → Some buf ≡ o → into ≡ take (at + len - at) (drop at buf) → k < len → get_or into k 0 ≡ byte_of o (at + k)
piece_byte o buf into at len k is read lt =
    let e : at + len - at ≡ len = omega arith in
    ap (λ (l : List ℕ). get_or l k 0) (read ∙ ap (λ (m : ℕ). take m (drop at buf)) e) ∙ get_or-take len (drop at buf) k 0 lt ∙ get_or-drop at buf k 0
    ∙ ap (λ (x : Option (List ℕ)). byte_of x (at + k)) is

pub read_step : (f : ℕ → ℕ) (xs ys : List ℕ) (a k n : ℕ) → a ≤ length xs → length ys ≡ n → ((i : ℕ) → i < a → get_or xs i 0 ≡ f i) → ((i : ℕ) → i < n → get_or ys i 0 ≡ f (a + i)) → (i : ℕ) → i < a + n → get_or (put_mid a k xs ys) i 0 ≡ f i
read_step f xs ys a k n le size first second i lt =
    let front : length (take a xs) ≡ a = length-take-le a xs le in
    elim (cases_lt i a) [
      | inl below ↦ get_or_append_left (take a xs) (ys ++ post_of a k xs) 0 i (omega arith) ∙ get_or-take a xs i 0 below ∙ first i below
      | inr from ↦
          let e : a + (i - a) ≡ i = omega arith in
          get_or-append_right (take a xs) (ys ++ post_of a k xs) a i 0 front from ∙ get_or_append_left ys (post_of a k xs) 0 (i - a) (omega arith)
          ∙ second (i - a) (omega arith) ∙ ap f e
    ]

-- the bytes of a piece, by their places among all
pub piece_at : (ls : List Pages) (place page at done i : ℕ) → at + i < 4096 → 4096 * page + at ≡ place + done → byte_of (top_page ls page) (at + i) ≡ byte_at ls (place + (done + i))
piece_at ls place page at done i small here =
    let e : 4096 * page + (at + i) ≡ place + (done + i) = omega arith in
    sym (byte_in_page ls page (at + i) small) ∙ ap (byte_at ls) e
