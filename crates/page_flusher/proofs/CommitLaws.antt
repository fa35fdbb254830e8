-- What a commit leaves of what is kept, and what a disk reads once it is finished: its slot, each of its blocks, and the gates.
use Rattle.std.proofs.Common.{◌≡◌, ◌≢◌, ◌⊎◌, inl, inr, ℕ, zero, suc, ◌+◌, ◌-◌, ◌*◌, ◌/◌, ◌^◌, ◌<◌, ◌≤◌, Bool, true, false, ◌&&◌, List, [], ◌∷◌, ◌++◌, map, length, take, drop, Option, Some, None, refl, sym, ap, ap₂, ◌∙◌, subst, arith, if◌then◌else◌}
use Rattle.std.specs.Prelude.{nat_le, nat_lt, ◌==◌, All, slice_index}
use Rattle.std.specs.List.{AllByRecursion, flat_map}
use Rattle.std.specs.Option.{ForSome}
use Rattle.std.proofs.lemmas.Bool.{cases_lt, cases_eq, and_parts}
use Rattle.std.proofs.lemmas.Option.{none-some, same_Some}
use Rattle.std.proofs.lemmas.List.{length-take-le, take_at, drop_at}
use Rattle.lists.specs.Bytes.{SameOutside, IsOutside, put, put_same, put_within, length-put}
use Rattle.group_defs.specs.Group.{Group}
use Rattle.group_defs.specs.declared.frame.Frame.{Frame}
use Rattle.ckpt_chain.specs.Chain.{◌>>=◌, block, link, payload, chain_at, whole_at, stream_at, Has, HasBlocks, SameBlocks}
use Rattle.ckpt_chain.specs.Slot.{gate_place, IsFormat, open_body, newer, newest, other, body_bytes}
use Rattle.ckpt_chain.specs.declared.slot.Slot.{Slot}
use Rattle.ckpt_chain.specs.declared.slot.Slot.TheVariants.{A, B}
use Rattle.ckpt_chain.specs.declared.slot.SlotBody.{SlotBody}
use Rattle.ckpt_chain.specs.MemberLaws.{all_has, from_map, in_left, in_right}
use Rattle.ckpt_records.specs.Holds.{HoldsAt, block_numbers, block_count}
use Rattle.ckpt_records.specs.Spells.{IsPagePlace as IsPagePlaced}
use Rattle.ckpt_records.specs.declared.meta.PagePlace.{PagePlace}
use Rattle.commit_gate.specs.SlotLaws.{same_part}
use Rattle.commit_gate.specs.FinishedLaws.{unfinished_other, finished_slot, finished_other, finished_same}
use Rattle.commit_gate.specs.Commit.{block_range}
use Rattle.commit_gate.specs.Whole.{IsDataBlock, IsUnfinished, numbers, finished, with_blocks}
use Rattle.commit_gate.specs.declared.whole.Block.{Block}
use Rattle.ckpt_records.specs.Newest.{NewestCheckpoint, nothing, checkpoint, HasNewest, target_after, epoch_after}
use Rattle.page_flusher.specs.CommitPlan.{Avoids, HasNewestOr}
use Rattle.commit_gate.specs.ImageLaws.{below_blocks, blocks_same}
use Rattle.page_flusher.specs.KeptBlocks.{DescribesGates, gate_in}
use Rattle.page_flusher.specs.declared.kept.KeptBlocks.{KeptBlocks}
use Rattle.tables.proofs.Ordered.{IsOrdered}

-- ---- the newest slot

abbrev at : Slot → SlotBody → Option (Slot × SlotBody)
at slot body = Some (slot, body)

-- the slot that says the greater epoch, and A where both say the same
abbrev IsNewest : Option SlotBody → Option SlotBody → Slot × SlotBody → Type 0
IsNewest a b (A, body) = (a ≡ Some body) × ForSome b (λ x. x.epoch ≤ body.epoch)
IsNewest a b (B, body) = (b ≡ Some body) × ForSome a (λ x. x.epoch < body.epoch)

found : (a b : Option SlotBody) (s : Slot × SlotBody) → newer a b ≡ Some s → IsNewest a b s
unfolding newer
found None None s e = absurd (none-some s e)
found (Some a) None s e = subst (IsNewest (Some a) None) (same_Some (A, a) s e) (refl, λ x none. absurd (none-some x none))
found None (Some b) s e = subst (IsNewest None (Some b)) (same_Some (B, b) s e) (refl, λ x none. absurd (none-some x none))
found (Some a) (Some b) s e = by_test (nat_lt a.epoch b.epoch) refl e
  where
    by_test : (t : Bool) → nat_lt a.epoch b.epoch ≡ t → (if t then at B b else at A a) ≡ Some s → IsNewest (Some a) (Some b) s
    by_test true is e = subst (IsNewest (Some a) (Some b)) (same_Some (B, b) s e) (refl, λ x same. grind (arith, is, ap (λ (y : SlotBody). y.epoch) (same_Some a x same)))
    by_test false is e = subst (IsNewest (Some a) (Some b)) (same_Some (A, a) s e) (refl, λ x same. grind (arith, is, ap (λ (y : SlotBody). y.epoch) (same_Some b x same)))

none_found : (a b : Option SlotBody) → newer a b ≡ None → (a ≡ None) × (b ≡ None)
unfolding newer
none_found None None e = (refl, refl)
none_found (Some a) None e = absurd (none-some (A, a) (sym e))
none_found None (Some b) e = absurd (none-some (B, b) (sym e))
none_found (Some a) (Some b) e = absurd (by_test (nat_lt a.epoch b.epoch) e)
  where
    by_test : (t : Bool) → (if t then at B b else at A a) ≡ None → ⊥
    by_test true x = none-some (B, b) (sym x)
    by_test false x = none-some (A, a) (sym x)

none_newest : newer None None ≡ None
unfolding newer
none_newest = refl

a_newest : (a b : Option SlotBody) (body : SlotBody) → IsNewest a b (A, body) → newer a b ≡ Some (A, body)
unfolding newer
a_newest a None body is = rw is.0 refl
a_newest a (Some b) body is = let test : nat_lt body.epoch b.epoch ≡ false = grind (arith, is.1 b refl) in rw (is.0, test) refl

b_newest : (a b : Option SlotBody) (body : SlotBody) → IsNewest a b (B, body) → newer a b ≡ Some (B, body)
unfolding newer
b_newest None b body is = rw is.0 refl
b_newest (Some a) b body is = let test : nat_lt a.epoch body.epoch ≡ true = grind (arith, is.1 a refl) in rw (is.0, test) refl

-- what a slot says is no more where it closes, or says what it said
still : (was now : Option SlotBody) (P : SlotBody → Type 0) → (now ≡ None) ⊎ (now ≡ was) → ForSome was P → ForSome now P
still was now P (inl shut) before x is = absurd (none-some x (sym shut ∙ is))
still was now P (inr kept) before x is = before x (sym kept ∙ is)

still_none : (was now : Option SlotBody) → (now ≡ None) ⊎ (now ≡ was) → was ≡ None → now ≡ None
still_none was now (inl shut) none = shut
still_none was now (inr kept) none = kept ∙ none

-- ---- blocks that a commit doesn't write

pub block_is : (image : List ℕ) (n : ℕ) → block image n ≡ take 4096 (drop (4096 * n) image)
unfolding block
block_is image n = let size : 4096 * n + 4096 - 4096 * n ≡ 4096 = omega arith in ap (λ (k : ℕ). take k (drop (4096 * n) image)) size

same_block : (ranges : List (ℕ × ℕ)) (a b : List ℕ) (n : ℕ) → ((i : ℕ) → 4096 * n ≤ i → i < 4096 * n + 4096 → IsOutside ranges i) → SameOutside ranges a b → block b n ≡ block a n
same_block ranges a b n out same = block_is b n ∙ same_part b a (4096 * n) 4096 same.size (λ i le lt. same.each i (out i le lt)) ∙ sym (block_is a n)

-- places of a block that isn't among these
outside : (ns : List ℕ) (n i : ℕ) → (Has n ns → ⊥) → 4096 * n ≤ i → i < 4096 * n + 4096 → IsOutside (map block_range ns) i
outside [] n i free le lt = tt
outside (m ∷ ns) n i free le lt = (one (cases_eq m n), outside ns n i (λ h. free (inr h)) le lt)
  where
    one : (m ≡ n) ⊎ (m ≢ n) → (i < 4096 * m) ⊎ (4096 * m + 4096 ≤ i)
    one (inl same) = absurd (free (inl same))
    one (inr differs) = elim (cases_lt m n) [ inl below ↦ inr (omega (arith, below, le)) | inr above ↦ let higher : n < m = omega (arith, above, differs) in inl (omega (arith, higher, lt)) ]

pub low : (target : Slot) → gate_place target + 4096 ≤ 8192
low A = omega arith
low B = omega arith

kept_block : (target : Slot) (blocks : List Block) (r image : List ℕ) (n : ℕ) → IsUnfinished target blocks r image → 2 ≤ n → (Has n (numbers blocks) → ⊥) → block image n ≡ block r n
kept_block target blocks r image n un least free =
    same_block ((gate_place target + 8, 32) ∷ (gate_place target, 1) ∷ map block_range (numbers blocks)) r image n
    (λ i le lt. (inr (omega (arith, low target, least, le)), (inr (omega (arith, low target, least, le)), outside (numbers blocks) n i free le lt))) un.same

-- ---- the blocks of a checkpoint lie behind the slots

then_some : {X : Type 0} (c : Bool) (o : Option X) (x : X) → (if c then o else None) ≡ Some x → (c ≡ true) × (o ≡ Some x)
then_some true o x e = (refl, e)
then_some false o x e = absurd (none-some x e)

bind_some : {X Y : Type 0} (o : Option X) (f : X → Option Y) (y : Y) → (o >>= f) ≡ Some y → (x : X) × (o ≡ Some x) × (f x ≡ Some y)
bind_some None f y e = absurd (none-some y e)
bind_some (Some x) f y e = (x, refl, e)

chain_behind : (image : List ℕ) (count n b : ℕ) (blocks : List ℕ) → chain_at image count n b ≡ Some blocks → (k : ℕ) → Has k blocks → 2 ≤ k
unfolding chain_at
chain_behind image count zero b blocks e k has = let none : List ℕ = [] in absurd (subst (Has k) (sym (same_Some none blocks (then_some (b == 0) (Some none) blocks e).1)) has)
chain_behind image count (suc n) b blocks e k has =
    let (inside, more) = then_some (nat_le 2 b && nat_lt b count) (chain_at image count n (link image b) >>= λ bs. Some (b ∷ bs)) blocks e in
    let (bs, rest, is) = bind_some (chain_at image count n (link image b)) (λ bs. Some (b ∷ bs)) blocks more in
    let least : 2 ≤ b = grind (arith, (and_parts (nat_le 2 b) (nat_lt b count) inside).0) in
    elim (subst (Has k) (sym (same_Some (b ∷ bs) blocks is)) has) [ inl same ↦ omega (arith, same, least) | inr later ↦ chain_behind image count n (link image b) bs rest k later ]

stream_behind : (image : List ℕ) (count : ℕ) (body : SlotBody) (bytes blocks : List ℕ) → stream_at image count body ≡ Some (bytes, blocks) → (k : ℕ) → Has k blocks → 2 ≤ k
unfolding stream_at whole_at
stream_behind image count body bytes blocks e k has =
    let n = (body.length + 4087) / 4088 in
    let cut : List ℕ × List ℕ → Option (List ℕ × List ℕ) = λ s. Some (take body.length s.0, s.1) in
    let joined : List ℕ → Option (List ℕ × List ℕ) = λ chain. Some (flat_map (payload image) chain, chain) in
    let (few, more) = then_some (nat_lt 0 body.length && nat_le body.length (4088 * (count - 2))) (whole_at image count n body.first >>= cut) (bytes, blocks) e in
    let (s, whole, is) = bind_some (whole_at image count n body.first) cut (bytes, blocks) more in
    let (bs, chain, made) = bind_some (chain_at image count n body.first) joined s whole in
    let second : List ℕ × List ℕ → List ℕ = λ x. x.1 in
    let same : bs ≡ blocks = ap second (same_Some (flat_map (payload image) bs, bs) s made) ∙ ap second (same_Some (take body.length s.0, s.1) (bytes, blocks) is) in
    chain_behind image count n body.first bs chain k (subst (Has k) (sym same) has)

page_behind : (f : Frame) (count : ℕ) (pages : List PagePlace) → All (IsPagePlaced f count) pages → (b : ℕ) → Has b (block_numbers pages) → 2 ≤ b
unfolding IsPagePlaced
page_behind f count pages all b has =
    let (p, there, is) = from_map (λ (p : PagePlace). p.block) b pages has in
    omega (arith, is, (all_has (IsPagePlaced f count) p pages all there).1)

-- ---- during a commit

-- that a held checkpoint stays, as ckpt_records promises it
abbrev pub KeptIsHeld : Type 0
KeptIsHeld = (old new : List ℕ) (epoch : ℕ) (g : Group) (pages : List PagePlace) (metas : List ℕ) (slot : Slot) → HoldsAt old epoch g pages metas slot → length new ≡ length old → newest new ≡ newest old
    → SameBlocks old new metas → SameBlocks old new (block_numbers pages) → HoldsAt new epoch g pages metas slot

stays : KeptIsHeld → (blocks : List Block) (r image : List ℕ) (epoch : ℕ) (g : Group) (pages : List PagePlace) (metas : List ℕ) (slot : Slot) → HoldsAt r epoch g pages metas slot → newest image ≡ newest r
    → IsUnfinished (other slot) blocks r image → ((b : ℕ) → Has b (numbers blocks) → Has b (metas ++ block_numbers pages) → ⊥) → HoldsAt image epoch g pages metas slot
stays held_kept blocks r image epoch g pages metas slot held same un free =
    held_kept r image epoch g pages metas slot held un.same.size same
    (λ b h. kept_block (other slot) blocks r image b un (stream_behind r (block_count r) held.body held.checkpoint.bytes metas held.checkpoint.stream b h) (λ w. free b w (in_left b metas (block_numbers pages) h)))
    (λ b h. kept_block (other slot) blocks r image b un (page_behind g.frame (block_count r) pages held.checkpoint.spelled.orderly.placed b h) (λ w. free b w (in_right b metas (block_numbers pages) h)))

pub keeps_unfinished : KeptIsHeld → (count : ℕ) (kept : NewestCheckpoint) (blocks : List Block) (r image : List ℕ) → length r ≡ 4096 * count → HasNewest r kept → Avoids count kept blocks → IsUnfinished (target_after kept) blocks r image → HasNewest image kept
keeps_unfinished law count nothing blocks r image size keeps avoids un =
    let none = none_found (open_body r (gate_place A)) (open_body r (gate_place B)) keeps in
    ap₂ newer (still_none (open_body r (gate_place A)) (open_body image (gate_place A)) un.slot none.0) (unfinished_other A blocks count avoids.placed r image un ∙ none.1) ∙ none_newest
keeps_unfinished law count (checkpoint epoch g pages metas A) blocks r image size keeps avoids un =
    let was = found (open_body r (gate_place A)) (open_body r (gate_place B)) (A, keeps.body) keeps.newest_is in
    let now = a_newest (open_body image (gate_place A)) (open_body image (gate_place B)) keeps.body
    (unfinished_other B blocks count avoids.placed r image un ∙ was.0, still (open_body r (gate_place B)) (open_body image (gate_place B)) (λ x. x.epoch ≤ keeps.body.epoch) un.slot was.1) in
    stays law blocks r image epoch g pages metas A keeps (now ∙ sym keeps.newest_is) un avoids.free
keeps_unfinished law count (checkpoint epoch g pages metas B) blocks r image size keeps avoids un =
    let was = found (open_body r (gate_place A)) (open_body r (gate_place B)) (B, keeps.body) keeps.newest_is in
    let now = b_newest (open_body image (gate_place A)) (open_body image (gate_place B)) keeps.body
    (unfinished_other A blocks count avoids.placed r image un ∙ was.0, still (open_body r (gate_place A)) (open_body image (gate_place A)) (λ x. x.epoch < keeps.body.epoch) un.slot was.1) in
    stays law blocks r image epoch g pages metas B keeps (now ∙ sym keeps.newest_is) un avoids.free

pub keeps_or_holds : KeptIsHeld → (count : ℕ) (kept : NewestCheckpoint) (epoch : ℕ) (h : Group) (pages : List PagePlace) (metas : List ℕ) (blocks : List Block) (body : SlotBody) (r image : List ℕ) → length r ≡ 4096 * count → HasNewest r kept → Avoids count kept blocks
    → HoldsAt (finished (target_after kept) blocks body r) epoch h pages metas (target_after kept)
    → IsUnfinished (target_after kept) blocks r image ⊎ (image ≡ finished (target_after kept) blocks body r) → HasNewestOr kept epoch h image
keeps_or_holds law count kept epoch h pages metas blocks body r image size keeps avoids held (inl un) = inl (keeps_unfinished law count kept blocks r image size keeps avoids un)
keeps_or_holds law count kept epoch h pages metas blocks body r image size keeps avoids held (inr done) =
    inr (pages, metas, subst (λ (x : List ℕ). HoldsAt x epoch h pages metas (target_after kept)) (sym done) held)

-- ---- the slot of a finished commit

module _ (count : ℕ) (blocks : List Block) (body : SlotBody) (r : List ℕ) (least : 16 ≤ count) (size : length r ≡ 4096 * count) (placed : AllByRecursion (IsDataBlock count) blocks)
    (format : IsFormat body.format) (epoch64 : body.epoch < 2 ^ 64) (first64 : body.first < 2 ^ 64) (length64 : body.length < 2 ^ 64) where
  says : (target : Slot) → 1 ≤ body.epoch → open_body (finished target blocks body r) (gate_place target) ≡ Some body
  says target some = finished_slot target blocks count placed r body least size format some epoch64 first64 length64

  newest_after : (kept : NewestCheckpoint) → HasNewest r kept → epoch_after kept ≤ body.epoch → newest (finished (target_after kept) blocks body r) ≡ Some (target_after kept, body)
  newest_after nothing keeps is =
      let none = finished_other A blocks count placed r body least size ∙ (none_found (open_body r (gate_place A)) (open_body r (gate_place B)) keeps).1 in
      a_newest (open_body (finished A blocks body r) (gate_place A)) (open_body (finished A blocks body r) (gate_place B)) body (says A (omega (arith, is)), λ x some. absurd (none-some x (sym none ∙ some)))
  newest_after (checkpoint epoch g pages metas A) keeps is =
      let before = finished_other B blocks count placed r body least size ∙ (found (open_body r (gate_place A)) (open_body r (gate_place B)) (A, keeps.body) keeps.newest_is).0 in
      b_newest (open_body (finished B blocks body r) (gate_place A)) (open_body (finished B blocks body r) (gate_place B)) body
      (says B (omega (arith, is)), λ x some. omega (arith, ap (λ (y : SlotBody). y.epoch) (same_Some keeps.body x (sym before ∙ some)), keeps.epoch_is, is))
  newest_after (checkpoint epoch g pages metas B) keeps is =
      let before = finished_other A blocks count placed r body least size ∙ (found (open_body r (gate_place A)) (open_body r (gate_place B)) (B, keeps.body) keeps.newest_is).0 in
      a_newest (open_body (finished A blocks body r) (gate_place A)) (open_body (finished A blocks body r) (gate_place B)) body
      (says A (omega (arith, is)), λ x some. omega (arith, ap (λ (y : SlotBody). y.epoch) (same_Some keeps.body x (sym before ∙ some)), keeps.epoch_is, is))

pub committed_newest : (count : ℕ) (kept : NewestCheckpoint) (blocks : List Block) (body : SlotBody) (r : List ℕ) → 16 ≤ count → length r ≡ 4096 * count → HasNewest r kept → Avoids count kept blocks → IsFormat body.format → epoch_after kept ≤ body.epoch
    → body.epoch < 2 ^ 64 → body.first < 2 ^ 64 → body.length < 2 ^ 64 → newest (finished (target_after kept) blocks body r) ≡ Some (target_after kept, body)
committed_newest count kept blocks body r least size keeps avoids format is epoch first len = newest_after count blocks body r least size avoids.placed format epoch first len kept keeps is

-- a block that was put
block_put : (image : List ℕ) (n : ℕ) (bytes : List ℕ) → length bytes ≡ 4096 → 4096 * n + length bytes ≤ length image → block (put image (4096 * n) bytes) n ≡ bytes
unfolding put
block_put image n bytes whole fits =
    let front : length (take (4096 * n) image) ≡ 4096 * n = length-take-le (4096 * n) image (omega (arith, fits)) in
    block_is (put image (4096 * n) bytes) n
    ∙ ap (take 4096) (drop_at (take (4096 * n) image) _ (4096 * n) front)
    ∙ take_at bytes (drop (4096 * n + length bytes) image) 4096 whole

-- ---- blocks of rising numbers

abbrev pub IsRising : List Block → Type 0
IsRising blocks = IsOrdered (λ b c. b.number < c.number) blocks

-- blocks of higher numbers don't reach a block
above : (blocks : List Block) (n i : ℕ) → AllByRecursion (λ c. n < c.number) blocks → i < 4096 * n + 4096 → IsOutside (map block_range (numbers blocks)) i
above [] n i higher lt = tt
above (c ∷ blocks) n i higher lt = (inl (omega (arith, higher.0, lt)), above blocks n i higher.1 lt)

reads_back : (count : ℕ) (blocks : List Block) (image : List ℕ) → AllByRecursion (IsDataBlock count) blocks → IsRising blocks → length image ≡ 4096 * count
    → AllByRecursion (λ b. block (with_blocks blocks image) b.number ≡ b.bytes) blocks
reads_back count [] image placed rising size = tt
reads_back count (b ∷ blocks) image placed rising size =
    let fits : 4096 * b.number + length b.bytes ≤ length image = omega (arith, placed.0.most, placed.0.whole, size) in
    let next = put image (4096 * b.number) b.bytes in
    let size' : length next ≡ 4096 * count = length-put image (4096 * b.number) b.bytes fits ∙ size in (
      same_block (map block_range (numbers blocks)) next (with_blocks blocks next) b.number (λ i le lt. above blocks b.number i rising.0 lt) (blocks_same count blocks next placed.1 size')
          ∙ block_put image b.number b.bytes placed.0.whole fits,
      reads_back count blocks next placed.1 rising.1 size',
    )

-- ---- the finished commit

-- bytes put below a block
put_before : (image : List ℕ) (place n : ℕ) (bytes : List ℕ) → place + length bytes ≤ 4096 * n → place + length bytes ≤ length image → block (put image place bytes) n ≡ block image n
put_before image place n bytes below fits =
    same_block ((place, length bytes) ∷ []) image (put image place bytes) n (λ i le lt. (inr (omega (arith, below, le)), tt)) (put_same image place bytes fits)

module _ (target : Slot) (blocks : List Block) (count : ℕ) (placed : AllByRecursion (IsDataBlock count) blocks) (r : List ℕ) (body : SlotBody) (least : 16 ≤ count) (size : length r ≡ 4096 * count) where
  long : length (body_bytes body) ≡ 32
  unfolding body_bytes
  long = refl

  whole : length (with_blocks blocks r) ≡ length r
  whole = (blocks_same count blocks r placed size).size

  room : gate_place target + 8 + length (body_bytes body) ≤ length (with_blocks blocks r)
  room = omega (arith, long, low target, whole, size, least)

  under : List ℕ
  under = put (with_blocks blocks r) (gate_place target + 8) (body_bytes body)

  fits : gate_place target + 1 ≤ length under
  unfolding under
  fits = omega (arith, length-put (with_blocks blocks r) (gate_place target + 8) (body_bytes body) room, low target, whole, size, least)

  body_kept : (n : ℕ) → 2 ≤ n → block (finished target blocks body r) n ≡ block (with_blocks blocks r) n
  unfolding finished under
  body_kept n behind =
      put_before under (gate_place target) n (1 ∷ []) (omega (arith, low target, behind)) fits
      ∙ put_before (with_blocks blocks r) (gate_place target + 8) n (body_bytes body) (omega (arith, long, low target, behind)) room

  all_read : (bs : List Block) → AllByRecursion (IsDataBlock count) bs → AllByRecursion (λ b. block (with_blocks blocks r) b.number ≡ b.bytes) bs → HasBlocks (finished target blocks body r) (numbers bs) (map (λ b. b.bytes) bs)
  unfolding HasBlocks
  all_read [] there reads = tt
  all_read (b ∷ bs) there reads = (body_kept b.number there.0.least ∙ reads.0, all_read bs there.1 reads.1)

  -- each block reads as its bytes
  pub committed : IsRising blocks → HasBlocks (finished target blocks body r) (numbers blocks) (map (λ b. b.bytes) blocks)
  committed rising = all_read blocks placed (reads_back count blocks r placed rising size)

  -- ---- the gates

  gate_opened : slice_index (finished target blocks body r) (gate_place target) ≡ 1
  unfolding finished under
  gate_opened =
      let at : gate_place target + 0 ≡ gate_place target = omega arith in
      subst (λ (k : ℕ). slice_index (put under (gate_place target) (1 ∷ [])) k ≡ 1) at (put_within under (gate_place target) (1 ∷ []) fits 0 (omega arith))

  gate_stays : slice_index (finished target blocks body r) (gate_place (other target)) ≡ slice_index r (gate_place (other target))
  gate_stays = (finished_same target blocks count placed r body least size).each (gate_place (other target)) (apart target)
    where
      apart : (t : Slot) → IsOutside ((gate_place t + 8, 32) ∷ (gate_place t, 1) ∷ map block_range (numbers blocks)) (gate_place (other t))
      apart A = (inr (omega arith), (inr (omega arith), below_blocks count blocks 4096 placed (omega arith)))
      apart B = (inl (omega arith), (inl (omega arith), below_blocks count blocks 0 placed (omega arith)))

-- the target's gate opens, and the other one stays
abbrev pub Opens : Slot → KeptBlocks → KeptBlocks → Type 0
Opens target k k' = (gate_in k' target ≡ 1) × (gate_in k' (other target) ≡ gate_in k (other target))

-- what is known of the gates before a commit gives what is known after it
pub gates_after : (k k' : KeptBlocks) (blocks : List Block) → Opens k.target k k' → (count : ℕ) (body : SlotBody) (r : List ℕ)
    → 16 ≤ count → length r ≡ 4096 * count → AllByRecursion (IsDataBlock count) blocks → DescribesGates k r → DescribesGates k' (finished k.target blocks body r)
gates_after k k' blocks opens count body r least size placed knows slot =
    by_slot k.target slot opens (gate_opened k.target blocks count placed r body least size) (gate_stays k.target blocks count placed r body least size ∙ knows (other k.target))
  where
    image : List ℕ
    image = finished k.target blocks body r

    by_slot : (t slot : Slot) → Opens t k k' → slice_index image (gate_place t) ≡ 1 → slice_index image (gate_place (other t)) ≡ gate_in k (other t) → slice_index image (gate_place slot) ≡ gate_in k' slot
    by_slot A A opens one same = one ∙ sym opens.0
    by_slot A B opens one same = same ∙ sym opens.1
    by_slot B A opens one same = same ∙ sym opens.1
    by_slot B B opens one same = one ∙ sym opens.0
