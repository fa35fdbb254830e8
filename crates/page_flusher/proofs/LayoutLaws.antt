-- What the blocks of a layout and its body make of a disk that keeps what is kept.
use Rattle.std.proofs.Common.{◌≡◌, ◌≢◌, ◌⊎◌, inl, inr, ℕ, ◌+◌, ◌-◌, ◌*◌, ◌^◌, ◌<◌, ◌≤◌, List, [], ◌∷◌, ◌++◌, map, length, take, drop, Some, refl, sym, ap, ◌∙◌, subst, arith, length-append, length-take}
use Rattle.std.specs.Prelude.{◌↔◌}
use Rattle.std.specs.Int.{w64, to_le_bytes}
use Rattle.std.specs.List.{AllByRecursion, AllPairs}
use Rattle.std.proofs.Math.ListN.{replicate}
use Rattle.std.proofs.lemmas.List.{length-map, length-replicate}
use Rattle.std.proofs.lemmas.List.Elements.{All-from_recursion}
use Rattle.block_alloc.specs.Free.{MayBeFree}
use Rattle.group_defs.specs.Group.{Group}
use Rattle.group_defs.specs.Pages.{page_bytes, nonzero_pages}
use Rattle.group_defs.specs.Valid.{lists_of}
use Rattle.group_defs.specs.declared.frame.Frame.{Frame}
use Rattle.ckpt_chain.specs.Chain.{block, laid, meta_block, first_of, metas_for, Has, HasBlocks, InDisk}
use Rattle.ckpt_chain.specs.Slot.{newest}
use Rattle.ckpt_chain.specs.declared.slot.Slot.{Slot}
use Rattle.ckpt_chain.specs.declared.slot.SlotBody.{SlotBody}
use Rattle.ckpt_records.specs.Holds.{block_numbers, block_count, listed_page, AreListed, IsCheckpointed, IsWritten, HoldsAt}
use Rattle.ckpt_records.specs.Spelling.{record_bytes, run_record, first_fields, magic}
use Rattle.ckpt_records.specs.Spells.{IsOrderly, IsPageOf, IsPagePlace as IsPagePlaced, Spells}
use Rattle.ckpt_records.specs.declared.meta.PagePlace.{PagePlace}
use Rattle.commit_gate.specs.Whole.{IsDataBlock, numbers, finished}
use Rattle.commit_gate.specs.declared.whole.Block.{Block}
use Rattle.commit_gate.specs.FinishedLaws.{finished_same}
use Rattle.ckpt_records.specs.Newest.{NewestCheckpoint, HasNewest, target_after, epoch_after}
use Rattle.page_flusher.specs.CommitPlan.{Avoids, Covers, IsBeforeCommit, IsPlan, Replaces}
use Rattle.ckpt_records.specs.Pages.{written_page, ArePagesOf}
use Rattle.page_flusher.specs.Plans.{placed, IsLaidOut}
use Rattle.ckpt_records.specs.Cost.{blocks_for, cost_of}
use Rattle.ckpt_records.specs.declared.meta.Page.{Page}
use Rattle.page_flusher.specs.Taking.{IsSpelledBy}
use Rattle.page_flusher.proofs.RecordLaws.{few_between, pages_rise, pages_are_of}
use Rattle.page_flusher.proofs.CommitLaws.{IsRising, KeptIsHeld, committed, committed_newest, keeps_or_holds}
use Rattle.ckpt_chain.specs.MemberLaws.{all_has, in_left, in_right}
use Rattle.tables.proofs.Ordered.{IsOrdered, each_weaker, each_both, each_append, each_left, each_right, each_map, each_of_map, ordered_of_map, ordered_of_pairs}
use Rattle.page_flusher.proofs.Laying.{MetasSuffice, blocks_placed, length_placed, metas_within, which_placed}

abbrev IsWhole : List ℕ → Type 0
IsWhole bytes = length bytes ≡ 4096

-- ---- numbers of meta blocks

first_below : (high : ℕ) (ns : List ℕ) → 1 ≤ high → AllByRecursion (λ n. (2 ≤ n) × (n < high)) ns → first_of ns < high
first_below high [] some within = omega (arith, some)
first_below high (n ∷ ns) some within = within.0.1

-- ---- the blocks of a record

block_whole : (next : ℕ) (part : List ℕ) → length part ≤ 4088 → IsWhole (meta_block next part)
unfolding meta_block
block_whole next part short =
    let eight : length (to_le_bytes w64 next) ≡ 8 = refl in
    omega (arith, eight, short, length-append (to_le_bytes w64 next) (part ++ replicate (4088 - length part) 0), length-append part (replicate (4088 - length part) 0), length-replicate {A = ℕ} (4088 - length part) 0)

laid_whole : (bytes blocks : List ℕ) → AllByRecursion IsWhole (laid bytes blocks)
unfolding laid
laid_whole bytes [] = tt
laid_whole bytes (b ∷ blocks) = (block_whole (first_of blocks) (take 4088 bytes) (omega (arith, length-take 4088 bytes)), laid_whole (drop 4088 bytes) blocks)

some_record : (f : Frame) (pages : List PagePlace) → 1 ≤ length (record_bytes 2 f pages)
unfolding run_record first_fields magic
some_record f pages = omega arith

-- ---- blocks that an image has

has_parts : (image ms ns : List ℕ) (xs ys : List (List ℕ)) → length ms ≡ length xs → HasBlocks image (ms ++ ns) (xs ++ ys) → HasBlocks image ms xs × HasBlocks image ns ys
unfolding HasBlocks
has_parts image [] ns [] ys size has = (tt, has)
has_parts image [] ns (x ∷ xs) ys size has = absurd (omega (arith, size))
has_parts image (m ∷ ms) ns [] ys size has = absurd (omega (arith, size))
has_parts image (m ∷ ms) ns (x ∷ xs) ys size has = let both = has_parts image ms ns xs ys (omega (arith, size)) has.1 in ((has.0, both.0), both.1)

-- ---- pages in their blocks

pages_read : (image : List ℕ) (memory : List (ℕ × List ℕ)) (pages : List Page) (places : List ℕ) → HasBlocks image places (map (λ p. p.bytes) pages)
    → AllByRecursion (λ (p : Page). p.bytes ≡ page_bytes memory (written_page p)) pages
    → AllByRecursion (λ (p : PagePlace). block image p.block ≡ page_bytes memory (listed_page p)) (placed pages places)
unfolding placed HasBlocks
pages_read image memory [] places has are = tt
pages_read image memory (p ∷ pages) [] has are = tt
pages_read image memory (p ∷ pages) (b ∷ places) has are = (has.0 ∙ are.0, pages_read image memory pages places has.1 are.1)

-- ---- the blocks of pages and of meta blocks

has_either : (xs ys : List ℕ) (b : ℕ) → Has b (xs ++ ys) → Has b xs ⊎ Has b ys
has_either [] ys b has = inr has
has_either (x ∷ xs) ys b (inl same) = inl (inl same)
has_either (x ∷ xs) ys b (inr has) = elim (has_either xs ys b has) [ inl before ↦ inl (inr before) | inr back ↦ inr back ]

has_swap : (xs ys : List ℕ) (b : ℕ) → Has b (xs ++ ys) → Has b (ys ++ xs)
has_swap xs ys b has = elim (has_either xs ys b has) [ inl before ↦ in_right b ys xs before | inr back ↦ in_left b ys xs back ]

-- that a written checkpoint is held, as ckpt_records promises it
abbrev pub WrittenIsHeld : Type 0
WrittenIsHeld = (image bytes : List ℕ) (epoch : ℕ) (g : Group) (pages : List PagePlace) (metas : List ℕ) (slot : Slot) → IsWritten image bytes epoch g pages metas slot → HoldsAt image epoch g pages metas slot

-- ---- a layout

module _ (count : ℕ) (used : List ℕ) (epoch : ℕ) (f : Frame) (pages : List Page) (blocks : List Block) (body : SlotBody)
    (whole : AllByRecursion (λ p. length p.bytes ≡ 4096) pages) (l : IsLaidOut count used epoch f pages blocks body) where
  all_free : AllByRecursion (MayBeFree count used) (numbers blocks)
  all_free = subst (AllByRecursion (MayBeFree count used)) (sym l.numbers_are) l.free

  all_whole : AllByRecursion IsWhole (map (λ b. b.bytes) blocks)
  all_whole = subst (AllByRecursion IsWhole) (sym l.bytes_are)
      (each_append IsWhole (map (λ (p : Page). p.bytes) pages) (laid (record_bytes 2 f (placed pages l.places)) l.metas) (each_map IsWhole (λ (p : Page). p.bytes) pages whole) (laid_whole (record_bytes 2 f (placed pages l.places)) l.metas))

  all_placed : AllByRecursion (IsDataBlock count) blocks
  all_placed =
      each_both (λ (b : Block). MayBeFree count used b.number) (λ (b : Block). IsWhole b.bytes) (IsDataBlock count) blocks (λ b free size. record { least = free.least; most = free.most; whole = size })
      (each_of_map (MayBeFree count used) (λ (b : Block). b.number) blocks all_free) (each_of_map IsWhole (λ (b : Block). b.bytes) blocks all_whole)

  none_used : (b : ℕ) → Has b (numbers blocks) → Has b used → ⊥
  none_used b has in_use = all_has (λ u. u ≢ b) b used (All-from_recursion (λ u. u ≢ b) used (all_has (MayBeFree count used) b (numbers blocks) (All-from_recursion (MayBeFree count used) (numbers blocks) all_free) has).unused) in_use refl

  pub laid_avoids : (kept : NewestCheckpoint) → Covers used kept → Avoids count kept blocks
  laid_avoids kept covers = record { placed = all_placed; free = λ b has in_use. none_used b has (covers b in_use) }

  all_rise : IsOrdered (λ m n. m < n) (l.places ++ l.metas)
  all_rise = ordered_of_pairs (λ m n. m < n) (l.places ++ l.metas) l.rising

  blocks_rise : IsRising blocks
  blocks_rise = ordered_of_map (λ (m n : ℕ). m < n) (λ (b : Block). b.number) blocks (subst (IsOrdered (λ (m n : ℕ). m < n)) (sym l.numbers_are) all_rise)

  within : AllByRecursion (λ n. (2 ≤ n) × (n < count)) (l.places ++ l.metas)
  within = each_weaker (MayBeFree count used) (λ n. (2 ≤ n) × (n < count)) (l.places ++ l.metas) (λ n free. (free.least, free.most)) l.free

  metas_on_disk : AllByRecursion (λ n. (2 ≤ n) × (n < count)) l.metas
  metas_on_disk = each_right (λ n. (2 ≤ n) × (n < count)) l.places l.metas within

  few_blocks : length l.places + length l.metas ≤ count - 2
  few_blocks = omega (arith, few_between (λ (n : ℕ). n) 2 count (l.places ++ l.metas) all_rise within, length-append l.places l.metas)

  few_bytes : length (record_bytes 2 f (placed pages l.places)) ≤ 4088 * (count - 2)
  few_bytes = omega (arith, few_blocks, l.metas_enough)

  -- the image has each page in its place, and the record in the meta blocks
  parts_there : (image : List ℕ) → HasBlocks image (numbers blocks) (map (λ b. b.bytes) blocks) → HasBlocks image l.places (map (λ p. p.bytes) pages) × HasBlocks image l.metas (laid (record_bytes 2 f (placed pages l.places)) l.metas)
  parts_there image there =
      has_parts image l.places l.metas (map (λ p. p.bytes) pages) (laid (record_bytes 2 f (placed pages l.places)) l.metas) (l.enough ∙ sym (length-map pages (λ (p : Page). p.bytes)))
      (subst (HasBlocks image (l.places ++ l.metas)) l.bytes_are (subst (λ (ns : List ℕ). HasBlocks image ns (map (λ b. b.bytes) blocks)) l.numbers_are there))

  -- a group whose pages these are
  module _ (g : Group) (same : g.frame ≡ f) (checkpointed : IsCheckpointed g) (are : ArePagesOf g pages) where
    which : map listed_page (placed pages l.places) ≡ nonzero_pages g
    which = which_placed pages l.places l.enough ∙ are.which

    orderly : IsOrderly count g.frame (placed pages l.places)
    unfolding IsPagePlaced
    orderly = record {
      lists = lists_of g.frame checkpointed.valid.sound.frame;
      rising = pages_rise g checkpointed.valid (placed pages l.places) which;
      placed = All-from_recursion (IsPagePlaced g.frame count) (placed pages l.places)
          (each_both (IsPageOf g.frame) (λ (p : PagePlace). (2 ≤ p.block) × (p.block < count)) (IsPagePlaced g.frame count) (placed pages l.places) (λ p page there. (page, there.0, there.1))
          (pages_are_of g checkpointed.valid (placed pages l.places) which)
          (each_of_map (λ n. (2 ≤ n) × (n < count)) (λ (p : PagePlace). p.block) (placed pages l.places)
          (subst (AllByRecursion (λ n. (2 ≤ n) × (n < count))) (sym (blocks_placed pages l.places l.enough)) (each_left (λ n. (2 ≤ n) × (n < count)) l.places l.metas within))));
    }

    module _ (least : 16 ≤ count) (most : count ≤ 2 ^ 20)
        (kept : NewestCheckpoint) (covers : Covers used kept) (later : epoch_after kept ≤ epoch) (epoch64 : epoch < 2 ^ 64)
        (r : List ℕ) (size : length r ≡ 4096 * count) (keeps : HasNewest r kept) where
      counted : block_count (finished (target_after kept) blocks body r) ≡ count
      counted =
          let long : length (finished (target_after kept) blocks body r) ≡ length r = (finished_same (target_after kept) blocks count all_placed r body least size).size in
          omega (arith, long, size)

      there : HasBlocks (finished (target_after kept) blocks body r) l.places (map (λ p. p.bytes) pages) × HasBlocks (finished (target_after kept) blocks body r) l.metas (laid (record_bytes 2 f (placed pages l.places)) l.metas)
      there = parts_there (finished (target_after kept) blocks body r) (committed (target_after kept) blocks count all_placed r body least size blocks_rise)

      listed : AreListed (finished (target_after kept) blocks body r) g (placed pages l.places)
      listed = record {
        which = which;
        contents = All-from_recursion (λ (p : PagePlace). block (finished (target_after kept) blocks body r) p.block ≡ page_bytes g.memory (listed_page p)) (placed pages l.places)
            (pages_read (finished (target_after kept) blocks body r) g.memory pages l.places there.0 are.bytes);
      }

      newest_is : newest (finished (target_after kept) blocks body r) ≡ Some (target_after kept, body)
      newest_is =
          committed_newest count kept blocks body r least size keeps (laid_avoids kept covers) (inr (ap (λ (b : SlotBody). b.format) l.body_is)) (omega (arith, ap (λ (b : SlotBody). b.epoch) l.body_is, later))
          (omega (arith, ap (λ (b : SlotBody). b.epoch) l.body_is, epoch64))
          (omega (arith, ap (λ (b : SlotBody). b.first) l.body_is, first_below count l.metas (omega (arith, least)) metas_on_disk, most))
          (omega (arith, ap (λ (b : SlotBody). b.length) l.body_is, few_bytes, most))

      spells : IsSpelledBy (record_bytes 2 f (placed pages l.places)) f (placed pages l.places) → Spells 2 (record_bytes 2 f (placed pages l.places)) count g.frame (placed pages l.places)
      spells spelled =
          let own : IsOrderly count f (placed pages l.places) = subst (λ (x : Frame). IsOrderly count x (placed pages l.places)) same orderly in
          subst (λ (x : Frame). Spells 2 (record_bytes 2 f (placed pages l.places)) count x (placed pages l.places)) (sym same) (spelled count own)

      holds_after : IsSpelledBy (record_bytes 2 f (placed pages l.places)) f (placed pages l.places) → WrittenIsHeld → HoldsAt (finished (target_after kept) blocks body r) epoch g (placed pages l.places) l.metas (target_after kept)
      unfolding InDisk
      holds_after spelled written_held = written_held (finished (target_after kept) blocks body r) (record_bytes 2 f (placed pages l.places)) epoch g (placed pages l.places) l.metas (target_after kept) (record {
        size = omega (arith, counted, most);
        newest_is = newest_is ∙ ap (λ (b : SlotBody). Some (target_after kept, b)) l.body_is;
        some_bytes = some_record f (placed pages l.places);
        few_bytes = omega (arith, counted, few_bytes);
        enough = l.metas_enough;
        in_disk = subst (λ (n : ℕ). InDisk n l.metas) (sym counted) metas_on_disk;
        laid_there = there.1;
        spelled = subst (λ (n : ℕ). Spells 2 (record_bytes 2 f (placed pages l.places)) n g.frame (placed pages l.places)) (sym counted) (spells spelled);
        listed = listed;
        group = checkpointed;
      })

  -- the blocks written are those of the places and the meta blocks
  uses : (b : ℕ) → Has b (numbers blocks) ↔ Has b (l.metas ++ block_numbers (placed pages l.places))
  uses b =
      let are : l.metas ++ l.places ≡ l.metas ++ block_numbers (placed pages l.places) = ap (λ (ns : List ℕ). l.metas ++ ns) (sym (blocks_placed pages l.places l.enough)) in
      (λ has. subst (Has b) are (has_swap l.places l.metas b (subst (Has b) l.numbers_are has)), λ has. subst (Has b) (sym l.numbers_are) (has_swap l.metas l.places b (subst (Has b) (sym are) has)))

  -- no number stands twice
  once : AllPairs (λ m n. m ≢ n) (numbers blocks)
  once = subst (AllPairs (λ m n. m ≢ n)) (sym l.numbers_are) (λ i j d lt end same. absurd (omega (arith, l.rising i j d lt end, same)))

  all_blocks : length blocks ≡ length l.places + length l.metas
  all_blocks = sym (length-map blocks (λ (b : Block). b.number)) ∙ ap length l.numbers_are ∙ length-append l.places l.metas

  -- the record of a group of this frame
  record_length : (g : Group) → g.frame ≡ f → length (record_bytes 2 f (placed pages l.places)) ≡ length (record_bytes 2 g.frame (placed pages l.places))
  record_length g same = ap (λ (x : Frame). length (record_bytes 2 x (placed pages l.places))) (sym same)

  -- no more than the group's pages, and its meta blocks where each page is a run of its own
  as_many : MetasSuffice → (g : Group) → g.frame ≡ f → ArePagesOf g pages → length blocks ≤ cost_of g
  as_many suffice g same are =
      let own : blocks_for f (map written_page pages) ≡ cost_of g = ap (λ (x : Frame). blocks_for x (map written_page pages)) (sym same) ∙ ap (blocks_for g.frame) are.which in
      omega (arith, all_blocks, own, l.enough, l.metas_enough, metas_within suffice f pages l.places l.enough, length-map pages written_page)

  replaced : IsSpelledBy (record_bytes 2 f (placed pages l.places)) f (placed pages l.places) → WrittenIsHeld → KeptIsHeld → (g : Group) → g.frame ≡ f → IsCheckpointed g → ArePagesOf g pages → 16 ≤ count → count ≤ 2 ^ 20 → epoch < 2 ^ 64 → (kept : NewestCheckpoint) (target : Slot) (r : List ℕ)
      → IsBeforeCommit count used epoch target kept r → Replaces kept epoch g (placed pages l.places) l.metas target blocks body r
  replaced spelled written_held held_kept g same checkpointed are least most epoch64 kept target r before =
      let held = holds_after g same checkpointed are least most kept before.covers before.later epoch64 r before.size before.keeps spelled written_held in
      subst (λ (t : Slot). Replaces kept epoch g (placed pages l.places) l.metas t blocks body r) before.into (record {
        during = λ image either. keeps_or_holds held_kept count kept epoch g (placed pages l.places) l.metas blocks body r image before.size before.keeps (laid_avoids kept before.covers) held either;
        after = held;
      })

  pub laid_plan : IsSpelledBy (record_bytes 2 f (placed pages l.places)) f (placed pages l.places) → WrittenIsHeld → KeptIsHeld → MetasSuffice → 16 ≤ count → count ≤ 2 ^ 20 → (g : Group) → g.frame ≡ f → IsCheckpointed g → ArePagesOf g pages → epoch < 2 ^ 64 → IsPlan count used epoch g blocks body
  laid_plan spelled written_held held_kept suffice least most g same checkpointed are epoch64 = record {
    pages = placed pages l.places;
    metas = l.metas;
    listed = which g same checkpointed are;
    metas_are = l.metas_enough ∙ ap metas_for (record_length g same);
    uses = uses;
    one_each = omega (arith, all_blocks, length_placed pages l.places l.enough);
    once = once;
    unused = none_used;
    size = as_many suffice g same are;
    placed = all_placed;
    format = ap (λ (b : SlotBody). b.format) l.body_is;
    epoch_is = ap (λ (b : SlotBody). b.epoch) l.body_is;
    first_is = ap (λ (b : SlotBody). b.first) l.body_is;
    length_is = ap (λ (b : SlotBody). b.length) l.body_is ∙ record_length g same;
    replaces = λ kept target r before. replaced spelled written_held held_kept g same checkpointed are least most epoch64 kept target r before;
  }
