-- Bytes piece by piece.
use Rattle.std.proofs.Common.{◌≡◌, ℕ, ◌+◌, ◌-◌, ◌≤◌, List, [], ◌∷◌, ◌++◌, w32, length, take, drop, Option, Some, sym, ap, ◌∙◌, arith, append_assoc, length-append, length-drop, take-append-drop}
use borrow.Rule.Slice.PartMut.{put_mid, post_of}
use Rattle.std.proofs.lemmas.List.{length-take-le, take_at}
use Rattle.rv64_isa.specs.Memory.{Cells, bytes_with}
use Rattle.std.specs.Int.{from_le_bytes}
use Rattle.rv64_isa.specs.Numbers.{number_of, wrapped}
use Rattle.rv64_isa.specs.PlaceLaws.{bytes_with-wrapped}
use Rattle.proc_lease.specs.Sight.{SeenObjects, stored_joined, with_stored_in}
use Rattle.proc_lease.specs.Private.{ObjectView, stored_into}
use Rattle.proc_lease.proofs.Runs.{wrapped_start}
use Rattle.proc_lease.proofs.Rights.{joined, split}
use Rattle.proc_lease.proofs.Spots.{seen_with}

pub piece_size : (xs : List ℕ) (done n : ℕ) → done + n ≤ length xs → length (take (done + n - done) (drop done xs)) ≡ n
piece_size xs done n le =
    let e : done + n - done ≡ n = omega arith in
    ap (λ (k : ℕ). length (take k (drop done xs))) e ∙ length-take-le n (drop done xs) (omega (arith, le, length-drop done xs))

pub put_front : (xs ys : List ℕ) (done n k : ℕ) → done + n ≤ length xs → length ys ≡ n → take (done + n) (put_mid done k xs ys) ≡ take done xs ++ ys
put_front xs ys done n k le size =
    ap (take (done + n)) (sym (append_assoc (take done xs) ys (post_of done k xs)))
    ∙ take_at (take done xs ++ ys) (post_of done k xs) (done + n) (omega (arith, length-append (take done xs) ys, length-take-le done xs (omega (arith, le)), size))

-- bytes read behind others
pub read_on : (right : ℕ) (cells : Cells) (from done n : ℕ) (front ys : List ℕ) → bytes_with right cells from done ≡ Some front → bytes_with right cells (wrapped (from + done)) n ≡ Some ys → bytes_with right cells from (done + n) ≡ Some (front ++ ys)
read_on right cells from done n front ys before here =
    split right cells from done n
    ∙ ap (λ (o : Option (List ℕ)). joined o (bytes_with right cells (from + done) n)) before
    ∙ ap (joined (Some front)) (sym (bytes_with-wrapped right cells (from + done) n) ∙ here)

-- the first bytes, and one piece more
pub take_more : (xs : List ℕ) (done n : ℕ) → done + n ≤ length xs → take done xs ++ take (done + n - done) (drop done xs) ≡ take (done + n) xs
take_more xs done n le =
    let e : done + n - done ≡ n = omega arith in
    let size : length (take done xs ++ take n (drop done xs)) ≡ done + n =
    omega (arith, length-append (take done xs) (take n (drop done xs)), length-take-le done xs (omega (arith, le)), length-take-le n (drop done xs) (omega (arith, le, length-drop done xs))) in
    ap (λ (k : ℕ). take done xs ++ take k (drop done xs)) e
    ∙ sym (take_at (take done xs ++ take n (drop done xs)) (drop n (drop done xs)) (done + n) size)
    ∙ ap (take (done + n)) (append_assoc (take done xs) (take n (drop done xs)) (drop n (drop done xs)) ∙ ap (λ (l : List ℕ). take done xs ++ l) (take-append-drop n (drop done xs)) ∙ take-append-drop done xs)

-- the number that four bytes spell
pub word_spelled : (bytes : List ℕ) → length bytes ≡ 4 → from_le_bytes w32 bytes ≡ number_of bytes
unfolding number_of
word_spelled [] size = absurd (omega (arith, size))
word_spelled (a ∷ []) size = absurd (omega (arith, size))
word_spelled (a ∷ b ∷ []) size = absurd (omega (arith, size))
word_spelled (a ∷ b ∷ c ∷ []) size = absurd (omega (arith, size))
word_spelled (a ∷ b ∷ c ∷ d ∷ []) size = omega arith
word_spelled (a ∷ b ∷ c ∷ d ∷ e ∷ more) size = absurd (omega (arith, size))

-- bytes stored behind others
pub stored_on : (t : SeenObjects) (to done n : ℕ) (bytes : List ℕ) → done + n ≤ length bytes → with_stored_in (with_stored_in t to (take done bytes)) (wrapped (to + done)) (take (done + n - done) (drop done bytes)) ≡ with_stored_in t to (take (done + n) bytes)
stored_on t to done n bytes le =
    let front = take done bytes in
    let piece = take (done + n - done) (drop done bytes) in
    let u = with_stored_in t to front in
    let size : done ≡ length front = sym (length-take-le done bytes (omega (arith, le))) in
    ap (λ (l : List ObjectView). seen_with l (stored_into u.public u.maps (wrapped (to + done)) piece) u.maps) (wrapped_start u.private u.maps (to + done) piece)
    ∙ ap (λ (l : List ObjectView). seen_with (stored_into u.private u.maps (to + done) piece) l u.maps) (wrapped_start u.public u.maps (to + done) piece)
    ∙ ap (λ (k : ℕ). with_stored_in u (to + k) piece) size
    ∙ stored_joined t to front piece
    ∙ ap (with_stored_in t to) (take_more bytes done n le)
