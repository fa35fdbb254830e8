-- What an image holds, from what was read of it.
use Rattle.std.proofs.Common.{◌≡◌, ℕ, ◌*◌, ◌≤◌, ◌<◌, arith, Bool, true, false, List, [], ◌∷◌, length, Some, None, Err, refl, sym, ap, ◌∙◌, subst}
use Rattle.std.specs.Prelude.{not, ◌==◌}
use Rattle.std.specs.List.{All, AllByRecursion, list_all}
use Rattle.std.proofs.lemmas.Bool.{false≢true}
use Rattle.std.proofs.lemmas.List.Elements.{recursion_from_All}
use Rattle.group_defs.specs.Group.{Group}
use Rattle.group_defs.specs.Pages.{page_bytes, is_zero_page, nonzero_pages, all_pages}
use Rattle.group_defs.specs.Valid.{valid_frame}
use Rattle.group_defs.specs.declared.frame.Frame.{Frame}
use Rattle.ckpt_chain.specs.Chain.{block, stream_at, Has, InDisk}
use Rattle.ckpt_chain.specs.Slot.{newest}
use Rattle.ckpt_chain.specs.declared.slot.Slot.{Slot}
use Rattle.ckpt_chain.specs.declared.slot.SlotBody.{SlotBody}
use Rattle.ckpt_chain.specs.declared.stream.StreamRefused.{StreamRefused}
use Rattle.ckpt_chain.specs.declared.stream.StreamRefused.TheVariants.{Broken}
use Rattle.ckpt_chain.specs.declared.stream.StreamRefused.TheVariants as reasons
use Rattle.ckpt_chain.specs.Refusals.{FaultRose}
use Rattle.ckpt_chain.specs.MemberLaws.{in_map, from_filter, has_at}
use Rattle.ckpt_records.specs.declared.meta.PagePlace.{PagePlace}
use Rattle.ckpt_records.specs.declared.origin.Origin.{Origin}
use Rattle.ckpt_records.specs.Holds.{block_count, listed_page, AreListed, HoldsAt, Holds, IsCheckpoint}
use Rattle.ckpt_records.specs.Spells.{Spells, IsPagePlace, IsOrderly}
use Rattle.mem_objects.specs.Pages.{Pages, IsZero}
use Rattle.restore_group.specs.Layers.{AreLayersOf, layers_in, shared_out, NoneZero}
use Rattle.restore_group.specs.Meta.{IsMeta, IsWholeFrame}
use Rattle.restore_group.specs.Outcome.{HoldsNothing, IsOpenAt, IsSound, IsOutcome, FaultIsCause}
use Rattle.restore_group.specs.declared.restoring.Refused.{Refused}
use Rattle.restore_group.specs.declared.restoring.Refused.TheVariants.{Damaged, DiskFault, NoMemory}
use Rattle.ckpt_records.specs.Parts.{memory_of}
use Rattle.restore_group.proofs.OwnLaws.{own_law}
use Rattle.restore_group.proofs.PartsLaws.{parts_law, contents_law}

some_is : {X : Type 0} (x y : X) → Some x ≡ Some y → x ≡ y
some_is x y e = cc

-- ---- pages that are listed aren't all zero

zeros : (bytes : List ℕ) → AllByRecursion (λ b. b ≡ 0) bytes → list_all (λ b. b == 0) bytes ≡ true
zeros [] all = refl
zeros (b ∷ bytes) all = rw (all.0) (zeros bytes all.1)

never_zero : (b : Bool) → not b ≡ true → b ≡ true → ⊥
never_zero true said is = false≢true said
never_zero false said is = false≢true is

listed_not_zero : (image : List ℕ) (g : Group) (pages : List PagePlace) → AreListed image g pages → (p : PagePlace) → block image p.block ≡ page_bytes g.memory (listed_page p) → Has p pages → IsZero (block image p.block) → ⊥
unfolding IsZero nonzero_pages
listed_not_zero image g pages listed p bytes has zero =
    let there : Has (listed_page p) (nonzero_pages g) = subst (λ (l : List (ℕ × ℕ)). Has (listed_page p) l) listed.which (in_map listed_page p pages has) in
    let said = from_filter (λ page. not (is_zero_page g.memory page)) (listed_page p) (all_pages g.frame) there in
    never_zero (is_zero_page g.memory (listed_page p)) said (zeros (page_bytes g.memory (listed_page p)) (subst (λ (x : List ℕ). AllByRecursion (λ b. b ≡ 0) x) bytes zero))

none_zero : (image : List ℕ) (g : Group) (pages : List PagePlace) → AreListed image g pages → NoneZero image pages
unfolding NoneZero
none_zero image g pages listed =
    recursion_from_All (λ p. IsZero (block image p.block) → ⊥) pages (λ i d lt. listed_not_zero image g pages listed _ (listed.contents i d lt) (has_at pages i d lt))

-- ---- why nothing was restored

abbrev refusal_of : StreamRefused → ℕ → Refused
refusal_of r epoch = elim r [ Broken ↦ Damaged epoch | reasons.DiskFault ↦ DiskFault | reasons.NoMemory ↦ NoMemory ]

shut : (image : List ℕ) (epoch : ℕ) → IsOpenAt image epoch → newest image ≡ None → ⊥
shut image epoch open_at none = let is = open_at.newest_is in cc

refused_outcome : (r : StreamRefused) (image : List ℕ) (epoch : ℕ) → IsOpenAt image epoch → (r ≡ Broken → HoldsNothing image) → IsOutcome image (Err (refusal_of r epoch))
refused_outcome Broken image epoch open_at damaged = (open_at, damaged refl)
refused_outcome reasons.DiskFault image epoch open_at damaged = tt
refused_outcome reasons.NoMemory image epoch open_at damaged = shut image epoch open_at

pub refused_cause : (r : StreamRefused) (epoch before mid after : ℕ) → before ≤ mid → FaultRose {X = ℕ} mid after (Err r) → FaultIsCause before after (Err (refusal_of r epoch))
refused_cause Broken epoch before mid after le rose = tt
refused_cause reasons.DiskFault epoch before mid after le rose = omega (arith, le, rose)
refused_cause reasons.NoMemory epoch before mid after le rose = tt

-- that bytes spell one frame at most in a format, as ckpt_records promises it
abbrev pub OneSpelled : Type 0
OneSpelled = (format : ℕ) (bytes : List ℕ) (blocks : ℕ) (f g : Frame) (pages others : List PagePlace) → Spells format bytes blocks f pages → Spells format bytes blocks g others → (f ≡ g) × (pages ≡ others)

-- ---- what an image whose newest slot has a body holds

module _ (image : List ℕ) (count : ℕ) (size : block_count image ≡ count) (slot : Slot) (body : SlotBody) (opened : newest image ≡ Some (slot, body)) where
  meta_held : (epoch : ℕ) (g : Group) (h : Holds image epoch g) → IsMeta image count body g.frame h.pages h.metas
  meta_held epoch g h =
      let same : h.at.body ≡ body = ap (λ (x : Slot × SlotBody). x.1) (some_is (h.slot, h.at.body) (slot, body) (sym h.at.newest_is ∙ opened)) in
      let c : IsCheckpoint image body g h.pages h.metas = subst (λ (b : SlotBody). IsCheckpoint image b g h.pages h.metas) same h.at.checkpoint in
      record {
        bytes = c.bytes;
        stream = subst (λ (n : ℕ). stream_at image n body ≡ Some (c.bytes, h.metas)) size c.stream;
        spelled = subst (λ (n : ℕ). Spells body.format c.bytes n g.frame h.pages) size c.spelled;
        whole = record { valid = valid_frame g c.group.valid; built = c.group.built; all_marked = c.group.all_marked };
      }

  -- no record was read
  no_meta : ((f : Frame) (pages : List PagePlace) (metas : List ℕ) → IsMeta image count body f pages metas → ⊥) → HoldsNothing image
  no_meta never epoch g h = never g.frame h.pages h.metas (meta_held epoch g h)

  same_pages : OneSpelled → (f g : Frame) (pages others : List PagePlace) (metas ends : List ℕ) → IsMeta image count body f pages metas → IsMeta image count body g others ends → others ≡ pages
  same_pages spells_once f g pages others metas ends a b =
      let e : b.bytes ≡ a.bytes = ap (λ (x : List ℕ × List ℕ). x.0) (some_is (b.bytes, ends) (a.bytes, metas) (sym b.stream ∙ a.stream)) in
      (spells_once body.format a.bytes count g f others pages (subst (λ (s : List ℕ). Spells body.format s count g others) e b.spelled) a.spelled).1

  -- a page of those that the record lists is all zero
  some_zero : OneSpelled → (f : Frame) (pages : List PagePlace) (metas : List ℕ) → IsMeta image count body f pages metas → (NoneZero image pages → ⊥) → HoldsNothing image
  some_zero law f pages metas meta never epoch g h =
      let same = same_pages law f g.frame pages h.pages metas h.metas meta (meta_held epoch g h) in
      never (subst (λ (ps : List PagePlace). NoneZero image ps) same (none_zero image g h.pages h.at.checkpoint.listed))

  open_at : IsOpenAt image body.epoch
  open_at = record { slot = slot; body = body; newest_is = opened; epoch_is = refl }

  -- the record and the layers were read
  pub held : (f : Frame) (pages : List PagePlace) (metas : List ℕ) (layers : List (ℕ × Pages)) → IsMeta image count body f pages metas
      → AreLayersOf (shared_out f.objects pages) layers → layers ≡ layers_in image (shared_out f.objects pages)
      → HoldsAt image body.epoch (record { frame = f; memory = memory_of f.objects layers }) pages metas slot
  held f pages metas layers meta are there =
      let law = parts_law f pages layers count meta.whole meta.spelled.orderly are in
      record {
        body = body;
        newest_is = opened;
        epoch_is = refl;
        checkpoint = record {
          bytes = meta.bytes;
          stream = subst (λ (n : ℕ). stream_at image n body ≡ Some (meta.bytes, metas)) (sym size) meta.stream;
          spelled = subst (λ (n : ℕ). Spells body.format meta.bytes n f pages) (sym size) meta.spelled;
          listed = record { which = law.2; contents = contents_law image f pages layers count meta.whole meta.spelled.orderly are there };
          group = law.1;
        };
      }

  -- the answers to what stopped the reading
  pub meta_refused : (r : StreamRefused) → (r ≡ Broken → (f : Frame) (pages : List PagePlace) (metas : List ℕ) → IsMeta image count body f pages metas → ⊥) → IsOutcome image (Err (refusal_of r body.epoch))
  meta_refused r never = refused_outcome r image body.epoch open_at (λ e. no_meta (never e))

  pub layers_refused : OneSpelled → (r : StreamRefused) (f : Frame) (pages : List PagePlace) (metas : List ℕ) → IsMeta image count body f pages metas → (r ≡ Broken → NoneZero image pages → ⊥) → IsOutcome image (Err (refusal_of r body.epoch))
  layers_refused law r f pages metas meta never = refused_outcome r image body.epoch open_at (λ e. some_zero law f pages metas meta (never e))

-- ---- on every disk

within : (f : Frame) (count : ℕ) (p : PagePlace) → IsPagePlace f count p → (2 ≤ p.block) × (p.block < count)
unfolding IsPagePlace
within f count p is = (is.1, is.2)

placed : (f : Frame) (count : ℕ) (pages : List PagePlace) → All (IsPagePlace f count) pages → AllByRecursion (λ p. (2 ≤ p.block) × (p.block < count)) pages
placed f count pages all = recursion_from_All (λ p. (2 ≤ p.block) × (p.block < count)) pages (λ i d lt. within f count _ (all i d lt))

pub below : (f : Frame) (count : ℕ) (pages : List PagePlace) → All (IsPagePlace f count) pages → AllByRecursion (λ p. p.block < count) pages
below f count pages all = recursion_from_All (λ p. p.block < count) pages (λ i d lt. (within f count _ (all i d lt)).1)

pub sound : (count : ℕ) (o : Origin) → 1 ≤ o.epoch → IsWholeFrame o.parts.frame → IsOrderly count o.parts.frame o.placement.pages
    → AreLayersOf (shared_out o.parts.frame.objects o.placement.pages) o.parts.layers → (1 ≤ length o.placement.metas) × InDisk count o.placement.metas → IsSound count o
sound count o epoch whole orderly are metas =
    let law = parts_law o.parts.frame o.placement.pages o.parts.layers count whole orderly are in
    record {
      epoch = epoch;
      parts = record { group = refl; layers = law.0; own = own_law o.parts.frame o.placement.pages o.parts.layers count orderly are ∙ law.2 };
      group = law.1;
      listed = law.2;
      rising = orderly.rising;
      placed = placed o.parts.frame count o.placement.pages orderly.placed;
      some_meta = metas.0;
      metas = metas.1;
    }

pub blocks_are : (image : List ℕ) (count : ℕ) → length image ≡ 4096 * count → block_count image ≡ count
blocks_are image count long = omega (arith, long)
