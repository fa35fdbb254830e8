-- What a step leaves of the pages that it doesn't touch, whichever call it makes.
use Rattle.std.proofs.Common.{Bool, List, None, Option, Some, [], ap, arith, drop, false, inl, inr, length, map, max, refl, subst, suc, sym, take, true, zero, ℕ, ⊎_elim, ◌&&◌, ◌*◌, ◌++◌, ◌+◌, ◌-◌, ◌/◌, ◌<◌, ◌==◌, ◌^◌, ◌||◌, ◌∙◌, ◌∷◌, ◌≡◌, ◌≤◌, ◌⊎◌}
use Rattle.std.proofs.lemmas.Bool.{eq-eqb, eqb-true, ltb-false, ltb-true}
use Rattle.std.proofs.lemmas.List.{append-nil, drop-set-add, drop-set-lt, nil_from_length, take-set-le}
use Rattle.std.proofs.lemmas.List.Elements.{All-cons, All-filter, All-nil, All-push}
use Rattle.std.proofs.lemmas.List.Folds.{list_any-append}
use Rattle.std.specs.List.{filter_map, flat_map, list_all, list_any, range_with_len}
use Rattle.std.specs.Prelude.{All, Any, if◌then◌else◌, nat_lt, slice_set}
use Rattle.address_maps.specs.Cut.{cut}
use Rattle.address_maps.specs.Mappings.{mapping_at}
use Rattle.address_maps.specs.declared.maps.Mapping.{Mapping}
use Rattle.descriptors.specs.declared.opens.Open.{Open}
use Rattle.descriptors.specs.declared.opens.OpenKind.{OpenKind}
use Rattle.group_defs.specs.Calls.{Reply, answers, ends, fd_of, refuses, waits}
use Rattle.group_defs.specs.Cells.{bytes_in, object_place, sight, with_byte, with_byte_at, with_stored, with_writes}
use Rattle.group_defs.specs.Changes.{on_caller, open_at, with_break, with_fds, with_maps, with_offset, with_open, with_pairs, with_procs, zeros}
use Rattle.group_defs.specs.Family.{after_end, ended, without_proc}
use Rattle.group_defs.specs.FileCalls.{emptied, openat, with_content, with_new_file, write_place}
use Rattle.group_defs.specs.Fork.{Copy, clone, copies_from, forked, to_copy}
use Rattle.group_defs.specs.Group.{Group, is_runner, regs_of, with_regs}
use Rattle.group_defs.specs.Held.{is_kept, settled}
use Rattle.group_defs.specs.MapCalls.{mapped, new_mapping}
use Rattle.group_defs.specs.Objects.{is_of_file}
use Rattle.group_defs.specs.Pages.{copied_page, handed_on, is_among, is_zero_page, page_at, page_bytes, pages_at, pages_between, pages_emptied, pages_of_file_write, pages_of_writes, pages_written_to, touched_beside, touched_by_effect, touched_by_reply}
use Rattle.group_defs.specs.PairCalls.{with_new_pair}
use Rattle.group_defs.specs.PipeCalls.{new_ends, with_new_pipe}
use Rattle.group_defs.specs.ReadWrite.{write}
use Rattle.group_defs.specs.Step.{after_effect, after_reply, call_in, reply_in, served, written}
use Rattle.group_defs.specs.declared.calls.TheConstants.{ENOSYS}
use Rattle.group_defs.specs.declared.frame.Proc.{Proc}
use Rattle.group_files.specs.Files.{length_of, with_length}
use Rattle.group_files.specs.declared.named_files.FileRec.{FileRec}
use Rattle.group_laws.proofs.Lists.{any_weaker, on_first_all, true_any}
use Rattle.group_laws.proofs.NewFileLaws.{zeros_are_zero, zeros_length}
use Rattle.group_laws.proofs.ObjectBytes.{left_or_gone, replaced_other}
use Rattle.group_laws.proofs.OthersBytes.{open_has}
use Rattle.group_laws.proofs.Replies.{Leaves, Opened, Plain, call_holds, clone_leaves, openat_leaves, with_put, write_reply}
use Rattle.group_laws.proofs.SeenLaws.{bytes_other, bytes_same, size_kept_at}
use Rattle.group_laws.proofs.WriteFileLaws.{zeros_behind}
use Rattle.lists.specs.Bytes.{length-put, put}
use Rattle.run_laws.specs.Untouched.{IsZeroOrCopy}
use Rattle.run_laws.proofs.FileBytes.{not_between, or_both, put_kept, zero_page_same, zeros_page}
use Rattle.run_laws.proofs.FilesStand.{IsAtFile, IsContent, OfMemory, StandsIn, absent, changed_stands, content_stands, copied, copied_from, copies_from_next, cut_of, ended_stands, forked_stands, its_length, its_new_file, mapped_stands, new_file_old, new_file_stands, none_there, of_before, old_bytes, only_more, opens_stand, procs_stand, replaced_same, same_files, settled_stands, stored_stands}
use Rattle.rv64_isa.specs.Instruction.{Effect, calls, list_of, steps, traps}
use Rattle.rv64_isa.specs.Memory.{Write}
use Rattle.rv64_isa.specs.Numbers.{wrapped}
use Rattle.rv64_isa.specs.Registers.{answered, call_number}
use Rattle.rv64_isa.specs.declared.regs.Regs.{Regs}
use Rattle.tables.specs.Lists.{on_first}
use Rattle.descriptors.specs.declared.opens.OpenKind.TheVariants as kinds

-- a byte stored outside a page leaves it
set_outside : (bytes : List ℕ) (place b page : ℕ) → (place / 4096 == page) ≡ false → take 4096 (drop (4096 * page) (slice_set bytes place b)) ≡ take 4096 (drop (4096 * page) bytes)
set_outside bytes place b page other = by_side (nat_lt place (4096 * page)) refl
  where
    by_side : (t : Bool) → nat_lt place (4096 * page) ≡ t → take 4096 (drop (4096 * page) (slice_set bytes place b)) ≡ take 4096 (drop (4096 * page) bytes)
    by_side true e = ap (take 4096) (drop-set-lt (4096 * page) bytes place b (grind (arith, e)))
    by_side false e =
        let above : 4096 * page ≤ place = grind (arith, e) in
        let split : place ≡ 4096 * page + (place - 4096 * page) = omega (arith, above) in
        let differs : place / 4096 ≡ page → ⊥ = λ same. grind (arith, other, same) in
        let far : 4096 ≤ place - 4096 * page = omega (arith, above, differs) in
        let P : ℕ → Type 0 = λ i. take 4096 (drop (4096 * page) (slice_set bytes i b)) ≡ take 4096 (drop (4096 * page) bytes) in
        subst P (sym split) (ap (take 4096) (drop-set-add (4096 * page) bytes (place - 4096 * page) b) ∙ take-set-le 4096 (drop (4096 * page) bytes) (place - 4096 * page) b far)

-- a page that isn't among those of two lists is in neither
pub apart : (xs ys : List (ℕ × ℕ)) (page : ℕ × ℕ) → is_among (xs ++ ys) page ≡ false → (is_among xs page ≡ false) × (is_among ys page ≡ false)
apart xs ys page e = or_both (is_among xs page) (is_among ys page) (sym (list_any-append (λ p. (p.0 == page.0) && (p.1 == page.1)) xs ys) ∙ e)

byte_kept : (memory : List (ℕ × List ℕ)) (object place b : ℕ) (page : ℕ × ℕ) → ((object == page.0) && (place / 4096 == page.1)) ≡ false → page_bytes (with_byte memory object place b) page ≡ page_bytes memory page
byte_kept memory object place b page e = by_object (object == page.0) refl e
  where
    by_object : (t : Bool) → (object == page.0) ≡ t → (t && (place / 4096 == page.1)) ≡ false → page_bytes (with_byte memory object place b) page ≡ page_bytes memory page
    by_object false other e = ap (λ (bytes : List ℕ). take 4096 (drop (4096 * page.1) bytes)) (bytes_other memory object place b page.0 other)
    by_object true same e =
        let here : object ≡ page.0 = grind (arith, same) in
        let P : ℕ → Type 0 = λ n. take 4096 (drop (4096 * page.1) (bytes_in (with_byte memory object place b) n)) ≡ take 4096 (drop (4096 * page.1) (bytes_in memory n)) in
        subst P here (ap (λ (bytes : List ℕ). take 4096 (drop (4096 * page.1) bytes)) (bytes_same memory object place b) ∙ set_outside (bytes_in memory object) place b page.1 e)

at_kept : (memory : List (ℕ × List ℕ)) (o : Option Mapping) (a b : ℕ) (page : ℕ × ℕ) → is_among (elim o [ None ↦ [] | Some m ↦ (m.object, object_place m a / 4096) ∷ [] ]) page ≡ false → page_bytes (with_byte_at memory o a b) page ≡ page_bytes memory page
at_kept memory None a b page e = refl
at_kept memory (Some m) a b page e = byte_kept memory m.object (object_place m a) b page (or_both ((m.object == page.0) && (object_place m a / 4096 == page.1)) false e).0

bytes_kept : (memory : List (ℕ × List ℕ)) (maps : List Mapping) (a : ℕ) (bytes : List ℕ) (page : ℕ × ℕ) → is_among (pages_at maps a bytes) page ≡ false → page_bytes (with_stored memory maps a bytes) page ≡ page_bytes memory page
unfolding with_stored pages_at
bytes_kept memory maps a [] page e = refl
bytes_kept memory maps a (b ∷ bs) page e =
    let parts = apart (page_at maps (wrapped a)) (pages_at maps (a + 1) bs) page e in
    bytes_kept (with_byte_at memory (mapping_at maps (wrapped a)) (wrapped a) b) maps (a + 1) bs page parts.1 ∙ at_kept memory (mapping_at maps (wrapped a)) (wrapped a) b page parts.0

writes_kept : (memory : List (ℕ × List ℕ)) (maps : List Mapping) (writes : List Write) (page : ℕ × ℕ) → is_among (pages_of_writes maps writes) page ≡ false → page_bytes (with_writes memory maps writes) page ≡ page_bytes memory page
unfolding with_writes
writes_kept memory maps [] page e = refl
writes_kept memory maps (w ∷ ws) page e =
    let parts = apart (pages_at maps w.address w.bytes) (pages_of_writes maps ws) page e in
    writes_kept (with_stored memory maps w.address w.bytes) maps ws page parts.1 ∙ bytes_kept memory maps w.address w.bytes page parts.0

-- bytes stored change no object's size, so what isn't there has none
stored_size : (memory : List (ℕ × List ℕ)) (maps : List Mapping) (n a : ℕ) (bytes : List ℕ) → length (bytes_in (with_stored memory maps a bytes) n) ≡ length (bytes_in memory n)
unfolding with_stored
stored_size memory maps n a [] = refl
stored_size memory maps n a (b ∷ bs) = stored_size (with_byte_at memory (mapping_at maps (wrapped a)) (wrapped a) b) maps n (a + 1) bs ∙ size_kept_at memory (wrapped a) b n (mapping_at maps (wrapped a))

writes_size : (memory : List (ℕ × List ℕ)) (maps : List Mapping) (n : ℕ) (writes : List Write) → length (bytes_in (with_writes memory maps writes) n) ≡ length (bytes_in memory n)
unfolding with_writes
writes_size memory maps n [] = refl
writes_size memory maps n (w ∷ ws) = writes_size (with_stored memory maps w.address w.bytes) maps n ws ∙ stored_size memory maps n w.address w.bytes

writes_gone : (memory : List (ℕ × List ℕ)) (maps : List Mapping) (n : ℕ) (writes : List Write) → bytes_in memory n ≡ [] → bytes_in (with_writes memory maps writes) n ≡ []
writes_gone memory maps n writes e = nil_from_length (bytes_in (with_writes memory maps writes) n) (writes_size memory maps n writes ∙ ap length e)

-- the page's bytes are as before, or its object has gone
abbrev pub Stays : List (ℕ × List ℕ) → List (ℕ × List ℕ) → ℕ × ℕ → Type 0
Stays before after page = (page_bytes after page ≡ page_bytes before page) ⊎ (bytes_in after page.0 ≡ [])

pub none_left : (n : ℕ) → take {A = ℕ} 4096 (drop n []) ≡ []
none_left zero = refl
none_left (suc n) = refl

pub stays_then : (a b c : List (ℕ × List ℕ)) (page : ℕ × ℕ) → (bytes_in b page.0 ≡ [] → bytes_in c page.0 ≡ []) → Stays a b page → Stays b c page → Stays a c page
stays_then a b c page none x (inr gone) = inr gone
stays_then a b c page none (inl e) (inl f) = inl (f ∙ e)
stays_then a b c page none (inr gone) (inl f) = inr (none gone)

both_false : (a b : Bool) → (a ≡ false) ⊎ (b ≡ false) → (a && b) ≡ false
both_false false b e = refl
both_false true false e = refl
both_false true true (inl e) = e
both_false true true (inr e) = e

-- a page of an object, by the object's bytes
abbrev part : ℕ → List ℕ → List ℕ
part page bytes = take 4096 (drop (4096 * page) bytes)

-- What a step leaves of the pages that it doesn't touch.
pub record Follows (g : Group) (so_far touched : List (ℕ × ℕ)) (next : ℕ) (memory : List (ℕ × List ℕ)) : Type 0 where
  pub rises : g.frame.next.object ≤ next
  pub old : (page : ℕ × ℕ) → is_among touched page ≡ false → page.0 < g.frame.next.object → Stays g.memory memory page
  pub new : (page : ℕ × ℕ) → is_among touched page ≡ false → g.frame.next.object ≤ page.0 → IsZeroOrCopy g so_far memory page
  pub gone : (n : ℕ) → n < g.frame.next.object → bytes_in g.memory n ≡ [] → bytes_in memory n ≡ []

-- an object that was there before, or may have been, is a file's afterwards only where it was one before
abbrev pub OldFiles : Group → Group → Type 0
OldFiles g h = (n : ℕ) → n < g.frame.next.object → is_of_file h.frame.files n ≡ true → is_of_file g.frame.files n ≡ true

abbrev pub StepLeaves : Group → List (ℕ × ℕ) → List (ℕ × ℕ) → Group → Type 0
StepLeaves g so_far touched h = StandsIn h × Follows g so_far touched h.frame.next.object h.memory × OldFiles g h

-- where all pages follow, those follow that aren't touched
all_follow : (g : Group) (so_far touched : List (ℕ × ℕ)) (next : ℕ) (memory : List (ℕ × List ℕ)) → Follows g so_far [] next memory → Follows g so_far touched next memory
all_follow g so_far touched next memory f = record { rises = f.rises; old = λ page e lt. f.old page refl lt; new = λ page e le. f.new page refl le; gone = f.gone }

pub zero_page : (memory : List (ℕ × List ℕ)) (page : ℕ × ℕ) → bytes_in memory page.0 ≡ [] → is_zero_page memory page ≡ true
zero_page memory page e = ap (λ (bs : List ℕ). list_all (λ b. b == 0) (take 4096 (drop (4096 * page.1) bs))) e ∙ ap (λ (bs : List ℕ). list_all (λ b. b == 0) bs) (none_left (4096 * page.1))

-- where a page isn't among those touched by more, it isn't among those touched
pub fewer_follow : (g : Group) (so_far touched more : List (ℕ × ℕ)) (next : ℕ) (memory : List (ℕ × List ℕ)) → ((page : ℕ × ℕ) → is_among more page ≡ false → is_among touched page ≡ false) → Follows g so_far touched next memory → Follows g so_far more next memory
fewer_follow g so_far touched more next memory fewer f = record { rises = f.rises; old = λ page e lt. f.old page (fewer page e) lt; new = λ page e le. f.new page (fewer page e) le; gone = f.gone }

-- where nothing is changed
none_changed : (g : Group) (so_far : List (ℕ × ℕ)) → StandsIn g → Follows g so_far [] g.frame.next.object g.memory
none_changed g so_far s = record { rises = omega arith; old = λ page e lt. inl refl; new = λ page e le. inl (zero_page g.memory page (absent g.frame.next.object g.memory page.0 s.numbers le)); gone = λ n lt e. e }

pub nothing_leaves : (g : Group) (so_far touched : List (ℕ × ℕ)) → StandsIn g → StepLeaves g so_far touched g
nothing_leaves g so_far touched s = (s, all_follow g so_far touched g.frame.next.object g.memory (none_changed g so_far s), λ n lt e. e)

module _ (g : Group) (p : Proc) (so_far : List (ℕ × ℕ)) (s : StandsIn g) (mine : OfMemory g.frame.next.object g.frame.files p.maps) where
  abbrev next : ℕ
  next = g.frame.next.object

  same_follow : Follows g so_far [] next g.memory
  same_follow = none_changed g so_far s

  settled_follow : (touched : List (ℕ × ℕ)) (h : Group) → Follows g so_far touched h.frame.next.object h.memory → Follows g so_far touched h.frame.next.object (settled h).memory
  unfolding settled
  settled_follow touched h f = record {
    rises = f.rises;
    old = λ page e lt. stays_then g.memory h.memory (settled h).memory page (none page.0) (f.old page e lt) (stays page);
    new = λ page e le. by_new page (f.new page e le) (stays page);
    gone = λ n lt e. none n (f.gone n lt e);
  }
    where
      stays : (page : ℕ × ℕ) → Stays h.memory (settled h).memory page
      stays page = ⊎_elim (λ e. inl (ap (part page.1) e)) (λ e. inr e) (left_or_gone (λ k. is_kept h.frame.files h.frame.procs k) page.0 h.memory)

      none : (n : ℕ) → bytes_in h.memory n ≡ [] → bytes_in (settled h).memory n ≡ []
      none n is = ⊎_elim (λ e. e ∙ is) (λ e. e) (left_or_gone (λ k. is_kept h.frame.files h.frame.procs k) n h.memory)

      by_new : (page : ℕ × ℕ) → IsZeroOrCopy g so_far h.memory page → Stays h.memory (settled h).memory page → IsZeroOrCopy g so_far (settled h).memory page
      by_new page n (inr gone) = inl (zero_page (settled h).memory page gone)
      by_new page (inl none) (inl e) = inl (ap (λ (bs : List ℕ). list_all (λ b. b == 0) bs) e ∙ none)
      by_new page (inr (k, is, untouched)) (inl e) = inr (k, e ∙ is, untouched)

  one_more_follows : (pages : ℕ) → Follows g so_far [] (next + 1) (g.memory ++ (next, zeros (4096 * pages)) ∷ [])
  one_more_follows pages = record {
    rises = omega arith;
    old = λ page e lt. inl (ap (part page.1) (old_bytes g 1 more from s page.0 lt));
    new = λ page e le. inl (ap (λ (bs : List ℕ). list_all (λ b. b == 0) (part page.1 bs)) (only_more g.memory more page.0 (none_there next g.memory page.0 s.numbers le)) ∙ by_test page (next == page.0));
    gone = λ n lt e. old_bytes g 1 more from s n lt ∙ e;
  }
    where
      more : List (ℕ × List ℕ)
      more = (next, zeros (4096 * pages)) ∷ []

      from : All (λ o. (next ≤ o.0) × (o.0 < next + 1)) more
      from = All-cons (λ o. (next ≤ o.0) × (o.0 < next + 1)) (next, zeros (4096 * pages)) [] (omega arith, omega arith) (All-nil (λ o. (next ≤ o.0) × (o.0 < next + 1)))

      by_test : (page : ℕ × ℕ) (b : Bool) → list_all (λ b. b == 0) (part page.1 (elim (if◌then◌else◌ {A = Option (ℕ × List ℕ)} b (Some (next, zeros (4096 * pages))) None) as (λ z. List ℕ) [ None ↦ [] | Some x ↦ x.1 ])) ≡ true
      by_test page true = zeros_page (4096 * pages) page.1
      by_test page false = ap (λ (bs : List ℕ). list_all (λ b. b == 0) bs) (none_left (4096 * page.1))

  -- other bytes of a file
  content_follows : (object : ℕ) (bytes : List ℕ) (touched : List (ℕ × ℕ)) → is_of_file g.frame.files object ≡ true → ((k : ℕ) → is_among touched (object, k) ≡ false → part k bytes ≡ part k (bytes_in g.memory object))
      → Follows g so_far touched next (on_first {A = ℕ × List ℕ} (λ o. o.0 == object) (λ o. (o.0, bytes)) g.memory)
  content_follows object bytes touched file each = record {
    rises = omega arith;
    old = λ page e lt. inl (by_test page e (object == page.0) refl);
    new = λ page e le. inl (zero_page memory page (replaced_other g.memory object bytes page.0 (above page.0 le) ∙ absent next g.memory page.0 s.numbers le));
    gone = λ n lt e. by_gone n e (object == n) refl;
  }
    where
      memory : List (ℕ × List ℕ)
      memory = on_first {A = ℕ × List ℕ} (λ o. o.0 == object) (λ o. (o.0, bytes)) g.memory

      above : (n : ℕ) → next ≤ n → (object == n) ≡ false
      above n le = by_number (object == n) refl
        where
          by_number : (b : Bool) → (object == n) ≡ b → b ≡ false
          by_number false e = refl
          by_number true e = let same = eqb-true object n e in let less = s.below object file in absurd (omega (arith, same, less, le))

      by_gone : (n : ℕ) → bytes_in g.memory n ≡ [] → (b : Bool) → (object == n) ≡ b → bytes_in memory n ≡ []
      by_gone n e false other = replaced_other g.memory object bytes n other ∙ e
      by_gone n e true hit =
          let size = (s.contents object file).0 in
          let none : length (bytes_in g.memory object) ≡ 0 = ap (λ k. length (bytes_in g.memory k)) (eqb-true object n hit) ∙ ap length e in
          absurd (omega (arith, size, none))

      by_test : (page : ℕ × ℕ) → is_among touched page ≡ false → (b : Bool) → (object == page.0) ≡ b → page_bytes memory page ≡ page_bytes g.memory page
      by_test page e false other = ap (part page.1) (replaced_other g.memory object bytes page.0 other)
      by_test page e true hit =
          let here : object ≡ page.0 = eqb-true object page.0 hit in
          let P : ℕ → Type 0 = λ n. part page.1 (bytes_in memory n) ≡ part page.1 (bytes_in g.memory n) in
          let Q : ℕ → Type 0 = λ n. is_among touched (n, page.1) ≡ false in
          subst P here (ap (part page.1) (replaced_same g.memory object bytes (let size = (s.contents object file).0 in omega (arith, size))) ∙ each page.1 (subst Q (sym here) e))

  -- What the calls leave that name no pages.
  abbrev Plainly : Group → Type 0
  Plainly h = StepLeaves g so_far [] h

  old_files : OldFiles g g
  old_files n lt e = e

  with_caller : (h : Group) (f : Proc → Proc) → ((q : Proc) → (f q).maps ≡ q.maps) → StandsIn h → StandsIn (on_caller h p f)
  with_caller h f same t = changed_stands h (is_runner p.pid) f (λ q old. subst (OfMemory h.frame.next.object h.frame.files) (sym (same q)) old) t

  two_ends : (a b : OpenKind) → IsAtFile g.frame.files a → IsAtFile g.frame.files b → All (λ o. IsAtFile g.frame.files o.kind) (new_ends g a b).frame.opens
  two_ends a b is_a is_b =
      let n = g.frame.next.descr in
      All-push (λ (o : Open). IsAtFile g.frame.files o.kind) (g.frame.opens ++ record { number = n; kind = a; offset = 0; flags = 0 } ∷ []) (record { number = n + 1; kind = b; offset = 0; flags = 0 })
      (All-push (λ (o : Open). IsAtFile g.frame.files o.kind) g.frame.opens (record { number = n; kind = a; offset = 0; flags = 0 }) s.described is_a) is_b

  plain_follow : Plain g p Plainly
  unfolding settled
  plain_follow =
      let fds : (list : List (ℕ × ℕ)) (h : Group) → StandsIn h → StandsIn (with_fds h p list) = λ list h t. with_caller h (λ q. record q { fds = list }) (λ q. refl) t in
      let maps : (start pages : ℕ) → StandsIn (with_maps g p (cut p.maps start pages)) = λ start pages. changed_stands g (is_runner p.pid) (λ q. record q { maps = cut p.maps start pages }) (λ q old. cut_of next g.frame.files p.maps start pages mine) s in
      let break : (brk : ℕ) (h : Group) → StandsIn h → StandsIn (with_break h p brk) = λ brk h t. with_caller h (λ q. record q { brk = brk }) (λ q. refl) t in
      record {
        same = (s, same_follow, old_files);
        fds = λ list. (fds list g s, same_follow, old_files);
        closed = λ list. (settled_stands (with_fds g p list) (fds list g s), settled_follow [] (with_fds g p list) same_follow, old_files);
        offsets = λ number offset. (opens_stand g (with_offset g.frame.opens number offset) (on_first_all (λ (o : Open). o.number == number) (λ o. record o { offset = offset }) (λ o. IsAtFile g.frame.files o.kind) g.frame.opens (λ o found old. old) s.described) s, same_follow, old_files);
        pipes = λ pipes. (s, same_follow, old_files);
        pairs = λ pairs. (s, same_follow, old_files);
        dropped = λ pairs. (settled_stands (with_pairs g pairs) s, settled_follow [] (with_pairs g pairs) same_follow, old_files);
        received = λ pairs list. (fds list g s, same_follow, old_files);
        new_pipe = λ list. (fds list (new_ends (with_new_pipe g) (kinds.PipeRead g.frame.next.pipe) (kinds.PipeWrite g.frame.next.pipe)) (opens_stand g (new_ends g (kinds.PipeRead g.frame.next.pipe) (kinds.PipeWrite g.frame.next.pipe)).frame.opens (two_ends (kinds.PipeRead g.frame.next.pipe) (kinds.PipeWrite g.frame.next.pipe) tt tt) s), same_follow, old_files);
        new_pair = λ list. (fds list (new_ends (with_new_pair g) (kinds.PairEnd g.frame.next.pair 0) (kinds.PairEnd g.frame.next.pair 1)) (opens_stand g (new_ends g (kinds.PairEnd g.frame.next.pair 0) (kinds.PairEnd g.frame.next.pair 1)).frame.opens (two_ends (kinds.PairEnd g.frame.next.pair 0) (kinds.PairEnd g.frame.next.pair 1) tt tt) s), same_follow, old_files);
        break = λ brk. (break brk g s, same_follow, old_files);
        grown = λ start pages brk. (break brk (mapped g p p.maps (new_mapping g start pages 3 false)) (mapped_stands g p p.maps (new_mapping g start pages 3 false) refl mine s), one_more_follows pages, old_files);
        shrunk = λ start pages brk. (settled_stands (with_break (with_maps g p (cut p.maps start pages)) p brk) (break brk (with_maps g p (cut p.maps start pages)) (maps start pages)), settled_follow [] (with_break (with_maps g p (cut p.maps start pages)) p brk) same_follow, old_files);
        unmapped = λ start pages. (settled_stands (with_maps g p (cut p.maps start pages)) (maps start pages), settled_follow [] (with_maps g p (cut p.maps start pages)) same_follow, old_files);
        one_more = λ start pages prot shared. (mapped_stands g p p.maps (new_mapping g start pages prot shared) refl mine s, one_more_follows pages, old_files);
        instead = λ start pages prot shared. (settled_stands (mapped g p (cut p.maps start pages) (new_mapping g start pages prot shared)) (mapped_stands g p (cut p.maps start pages) (new_mapping g start pages prot shared) refl (cut_of next g.frame.files p.maps start pages mine) s), settled_follow [] (mapped g p (cut p.maps start pages) (new_mapping g start pages prot shared)) (one_more_follows pages), old_files);
        reaped = λ wanted q e. (procs_stand g (without_proc g q.pid).frame.procs (All-filter _ (λ (x : Proc). OfMemory next g.frame.files x.maps) g.frame.procs s.unmapped) s, same_follow, old_files);
      }

  -- openat empties a file's pages that have a byte
  abbrev emptied_pages : Group → List (ℕ × ℕ)
  emptied_pages h = flat_map (pages_emptied h.frame.files) g.frame.files

  abbrev Openly : Group → Type 0
  Openly h = StepLeaves g so_far (emptied_pages h) h

  its_file : (f : FileRec) → Any (λ x. x ≡ f) g.frame.files → is_of_file g.frame.files f.object ≡ true
  unfolding is_of_file
  its_file f there = true_any (λ x. x.object == f.object) g.frame.files (any_weaker (λ x. x ≡ f) (λ x. (x.object == f.object) ≡ true) g.frame.files (λ x same. eq-eqb x.object f.object (ap (λ (y : FileRec). y.object) same)) there)

  open_stands : (h : Group) (kind : OpenKind) (flags : ℕ) (list : List (ℕ × ℕ)) → IsAtFile h.frame.files kind → StandsIn h → StandsIn (with_fds (with_open h kind flags) p list)
  open_stands h kind flags list is t =
      with_caller (with_open h kind flags) (λ q. record q { fds = list }) (λ q. refl)
      (opens_stand h (with_open h kind flags).frame.opens (All-push (λ (o : Open). IsAtFile h.frame.files o.kind) h.frame.opens (record { number = h.frame.next.descr; kind = kind; offset = 0; flags = flags }) t.described is) t)

  -- a page that isn't touched lies past the file's length
  past_length : (files : List FileRec) (object k : ℕ) → length_of (with_length g.frame.files object 0) object ≡ 0 → is_among (flat_map (pages_emptied (with_length g.frame.files object 0)) files) (object, k) ≡ false → length_of files object ≤ 4096 * k
  past_length [] object k none e = omega arith
  past_length (f ∷ fs) object k none e = by_test (f.object == object) refl (past_length fs object k none (apart (pages_emptied after f) (flat_map (pages_emptied after) fs) (object, k) e).1)
    where
      after : List FileRec
      after = with_length g.frame.files object 0

      untouched : is_among (pages_emptied after f) (object, k) ≡ false
      untouched = (apart (pages_emptied after f) (flat_map (pages_emptied after) fs) (object, k) e).0

      within : (len : ℕ) (b : Bool) → nat_lt 0 len ≡ b → is_among (if b then pages_between object 0 len else []) (object, k) ≡ false → len ≤ 4096 * k
      within len false none e = let low = ltb-false 0 len none in omega (arith, low)
      within len true some e = by_side (not_between object k (0 / 4096) ((len - 1) / 4096 + 1 - 0 / 4096) (ap (λ (b : Bool). is_among (if b then map (λ page. (object, page)) (range_with_len (0 / 4096) ((len - 1) / 4096 + 1 - 0 / 4096)) else []) (object, k)) (sym some) ∙ e))
        where
          by_side : (k < 0 / 4096) ⊎ (0 / 4096 + ((len - 1) / 4096 + 1 - 0 / 4096) ≤ k) → len ≤ 4096 * k
          by_side (inl below) = absurd (omega (arith, below))
          by_side (inr above) = let lt = ltb-true 0 len some in omega (arith, above, lt)

      by_test : (b : Bool) → (f.object == object) ≡ b → length_of fs object ≤ 4096 * k → length_of (f ∷ fs) object ≤ 4096 * k
      by_test true hit rest =
          let here : f.object ≡ object = eqb-true f.object object hit in
          let P : ℕ → Type 0 = λ n. is_among (if nat_lt (length_of after n) f.length then pages_between n 0 f.length else []) (object, k) ≡ false in
          let Q : ℕ → Type 0 = λ n. is_among (if nat_lt n f.length then pages_between object 0 f.length else []) (object, k) ≡ false in
          let size : length_of (f ∷ fs) object ≡ f.length = rw (length_of, hit) refl in
          let past = within f.length (nat_lt 0 f.length) refl (subst Q none (subst P here untouched)) in
          omega (arith, size, past)
      by_test false miss rest = let same : length_of (f ∷ fs) object ≡ length_of fs object = rw (length_of, miss) refl in omega (arith, same, rest)

  zeros_are_content : IsContent 0 (zeros 1048576)
  zeros_are_content = (zeros_length 1048576, zeros_are_zero 1048576)

  opened_follow : Opened g p Openly
  opened_follow = record {
    old = λ f flags list there. (open_stands g (kinds.File f.object) flags list (its_file f there) s, all_follow g so_far (emptied_pages (with_fds (with_open g (kinds.File f.object) flags) p list)) next g.memory same_follow, old_files);
    cleared = λ f flags list there.
        let file = its_file f there in
        let content = s.contents f.object file in (
          open_stands (emptied g f.object) (kinds.File f.object) flags list (same_files g f.object 0 (zeros 1048576) file zeros_are_content s f.object ∙ file) (content_stands g f.object 0 (zeros 1048576) file zeros_are_content s),
          content_follows f.object (zeros 1048576) (flat_map (pages_emptied (with_length g.frame.files f.object 0)) g.frame.files) file
              (λ k e. zero_page_same (bytes_in g.memory f.object) (zeros 1048576) (length_of g.frame.files f.object) k (content.0 ∙ sym (zeros_length 1048576)) (past_length g.frame.files f.object k (its_length g f.object 0 (zeros 1048576) file zeros_are_content s) e) content.1 (zeros_are_zero 1048576)),
          λ n lt is. sym (same_files g f.object 0 (zeros 1048576) file zeros_are_content s n) ∙ is,
        );
    made = λ name flags list. (open_stands (with_new_file g name) (kinds.File next) flags list (its_new_file g name s) (new_file_stands g name s), all_follow g so_far (emptied_pages (with_fds (with_open (with_new_file g name) (kinds.File next) flags) p list)) (next + 1) (g.memory ++ (next, zeros (4096 * 256)) ∷ []) (one_more_follows 256), new_file_old g name s);
  }

  -- write to a file touches the pages that its bytes come to lie in
  put_follows : (o : Open) → open_at p.fds g.frame.opens (fd_of (regs_of p)) ≡ Some o → (object : ℕ) → o.kind ≡ kinds.File object → (bytes : List ℕ) → write_place g o object + length bytes ≤ 1048576
      → StepLeaves g so_far (pages_written_to g (length bytes) (open_at p.fds g.frame.opens (fd_of (regs_of p)))) (with_put g o object (write_place g o object) bytes)
  put_follows o at object is bytes within =
      let place = write_place g o object in
      let old = bytes_in g.memory object in
      let file : is_of_file g.frame.files object ≡ true = subst (IsAtFile g.frame.files) is (open_has (λ x. IsAtFile g.frame.files x.kind) p.fds g.frame.opens (fd_of (regs_of p)) o s.described at) in
      let content = s.contents object file in
      let size = content.0 in
      let fits : place + length bytes ≤ length old = omega (arith, within, size) in
      let len = max (length_of g.frame.files object) (place + length bytes) in
      let new : IsContent len (put old place bytes) = (length-put old place bytes fits ∙ size, zeros_behind old (length_of g.frame.files object) place bytes fits content.1) in
      let t = content_stands g object len (put old place bytes) file new s in (
        opens_stand (with_content g object place bytes) (with_offset g.frame.opens o.number (place + length bytes)) (on_first_all (λ (x : Open). x.number == o.number) (λ x. record x { offset = place + length bytes }) (λ x. IsAtFile (with_length g.frame.files object len) x.kind) g.frame.opens (λ x found old. old) t.described) t,
        content_follows object (put old place bytes) (pages_written_to g (length bytes) (open_at p.fds g.frame.opens (fd_of (regs_of p)))) file
            (λ k e.
            let Of : Option Open → Type 0 = λ x. is_among (pages_written_to g (length bytes) x) (object, k) ≡ false in
            let Kind : OpenKind → Type 0 = λ x. is_among (pages_of_file_write g o (length bytes) x) (object, k) ≡ false in
            put_kept old place bytes fits object k (subst Kind is (subst Of at e))),
        λ n lt is. sym (same_files g object len (put old place bytes) file new s n) ∙ is,
      )

  -- a fork hands on what its parent touched
  untouched_copy : (c : Copy) (n k : ℕ) (pages : List (ℕ × ℕ)) → (c.fresh == n) ≡ true → is_among (flat_map (copied_page c) pages) (n, k) ≡ false → is_among pages (c.old.number, k) ≡ false
  untouched_copy c n k [] hit e = refl
  untouched_copy c n k (x ∷ xs) hit e =
      let parts = apart (copied_page c x) (flat_map (copied_page c) xs) (n, k) e in
      ap (λ b. b || is_among xs (c.old.number, k)) (by_test (c.old.number == x.0) refl (x.1 == k) refl parts.0) ∙ untouched_copy c n k xs hit parts.1
    where
      by_test : (b : Bool) → (c.old.number == x.0) ≡ b → (d : Bool) → (x.1 == k) ≡ d → is_among (if b then (c.fresh, x.1) ∷ [] else []) (n, k) ≡ false → ((x.0 == c.old.number) && (x.1 == k)) ≡ false
      by_test true here true there e = let over : ((c.fresh == n) && (x.1 == k)) || false ≡ true = rw (hit, there) refl in absurd (cc)
      by_test true here false there e = both_false (x.0 == c.old.number) (x.1 == k) (inr there)
      by_test false here d there e = both_false (x.0 == c.old.number) (x.1 == k) (inl (other (x.0 == c.old.number) refl))
        where
          other : (b : Bool) → (x.0 == c.old.number) ≡ b → b ≡ false
          other false e = refl
          other true e = let same : (c.old.number == x.0) ≡ true = eq-eqb c.old.number x.0 (sym (eqb-true x.0 c.old.number e)) in absurd (cc)

  found_copy : (n k : ℕ) (copies : List Copy) → is_among (flat_map (λ c. flat_map (copied_page c) so_far) copies) (n, k) ≡ false
      → (bytes_in (copied g.memory copies) n ≡ []) ⊎ ((j : ℕ) × (bytes_in (copied g.memory copies) n ≡ bytes_in g.memory j) × (is_among so_far (j, k) ≡ false))
  found_copy n k [] e = inl refl
  found_copy n k (c ∷ cs) e =
      let parts = apart (flat_map (copied_page c) so_far) (flat_map (λ c. flat_map (copied_page c) so_far) cs) (n, k) e in
      by_test (c.fresh == n) refl parts.0 (found_copy n k cs parts.1)
    where
      by_test : (b : Bool) → (c.fresh == n) ≡ b → is_among (flat_map (copied_page c) so_far) (n, k) ≡ false → (bytes_in (copied g.memory cs) n ≡ []) ⊎ ((j : ℕ) × (bytes_in (copied g.memory cs) n ≡ bytes_in g.memory j) × (is_among so_far (j, k) ≡ false))
          → (bytes_in (copied g.memory (c ∷ cs)) n ≡ []) ⊎ ((j : ℕ) × (bytes_in (copied g.memory (c ∷ cs)) n ≡ bytes_in g.memory j) × (is_among so_far (j, k) ≡ false))
      by_test true hit e rest = inr (c.old.number, rw (bytes_in, hit) refl, untouched_copy c n k so_far hit e)
      by_test false miss e (inl none) = inl (rw (bytes_in, miss) none)
      by_test false miss e (inr (j, is, untouched)) = inr (j, rw (bytes_in, miss) is, untouched)

  forked_follows : StepLeaves g so_far (handed_on g p so_far) (forked g p (copies_from next (to_copy g.frame p)))
  unfolding forked
  forked_follows =
      let copies = copies_from next (to_copy g.frame p) in
      let from = copies_from_next next (to_copy g.frame p) in
      let from' = copied_from g copies from s in (
        forked_stands g copies from s p mine,
        record {
          rises = omega arith;
          old = λ page e lt. inl (ap (part page.1) (old_bytes g (length copies) (copied g.memory copies) from' s page.0 lt));
          new = λ page e le. by_copy page copies (only_more g.memory (copied g.memory copies) page.0 (none_there next g.memory page.0 s.numbers le)) (found_copy page.0 page.1 copies e);
          gone = λ n lt e. old_bytes g (length copies) (copied g.memory copies) from' s n lt ∙ e;
        },
        old_files,
      )
    where
      by_copy : (page : ℕ × ℕ) (copies : List Copy) → bytes_in (g.memory ++ copied g.memory copies) page.0 ≡ bytes_in (copied g.memory copies) page.0
          → (bytes_in (copied g.memory copies) page.0 ≡ []) ⊎ ((j : ℕ) × (bytes_in (copied g.memory copies) page.0 ≡ bytes_in g.memory j) × (is_among so_far (j, page.1) ≡ false)) → IsZeroOrCopy g so_far (g.memory ++ copied g.memory copies) page
      by_copy page copies same (inl none) = inl (zero_page (g.memory ++ copied g.memory copies) page (same ∙ none))
      by_copy page copies same (inr (j, is, untouched)) = inr (j, ap (part page.1) (same ∙ is), untouched)

  -- What a reply leaves, by the call's number.
  unfoldable ReplyLeaves : ℕ → Reply Group → Type 0
  ReplyLeaves number waits = Unit {0}
  ReplyLeaves number (refuses errno) = Unit {0}
  ReplyLeaves number (answers value h writes) = StepLeaves g so_far (touched_beside g p so_far number value h) h
  ReplyLeaves number (ends status) = Unit {0}

  plain_reply : (number : ℕ) (r : Reply Group) → Leaves Plainly r → ReplyLeaves number r
  unfolding ReplyLeaves
  plain_reply number waits l = tt
  plain_reply number (refuses errno) l = tt
  plain_reply number (answers value h writes) l = (l.0, all_follow g so_far (touched_beside g p so_far number value h) h.frame.next.object h.memory l.1, l.2)
  plain_reply number (ends status) l = tt

  openat_reply : (r : Reply Group) → Leaves Openly r → ReplyLeaves 56 r
  unfolding ReplyLeaves touched_beside
  openat_reply waits l = tt
  openat_reply (refuses errno) l = tt
  openat_reply (answers value h writes) l = l
  openat_reply (ends status) l = tt

  clone_reply : (r : Reply Group) → Leaves (StepLeaves g so_far (handed_on g p so_far)) r → ReplyLeaves 220 r
  unfolding ReplyLeaves touched_beside
  clone_reply waits l = tt
  clone_reply (refuses errno) l = tt
  clone_reply (answers value h writes) l = l
  clone_reply (ends status) l = tt

  write_leaves : ReplyLeaves 64 (write g p (sight g p) (regs_of p))
  unfolding ReplyLeaves touched_beside
  write_leaves =
      let as_was : (touched : List (ℕ × ℕ)) → Follows g so_far touched next g.memory = λ touched. all_follow g so_far touched next g.memory same_follow in
      write_reply (ReplyLeaves 64) g (sight g p) tt (λ errno. tt) (s, as_was _, old_files) (λ bytes few. (s, as_was _, old_files)) (λ value pipes. (s, as_was _, old_files)) (λ value pairs. (s, as_was _, old_files)) p (regs_of p) put_follows

  call_leaves : (durable : Bool) (number : ℕ) → ReplyLeaves number (call_in durable g p number)
  call_leaves durable =
      call_holds durable g p Plainly plain_follow ReplyLeaves plain_reply (openat_reply (openat g p (sight g p) (regs_of p)) (openat_leaves g p Openly opened_follow (sight g p) (regs_of p))) write_leaves
      (clone_reply (clone g p (regs_of p)) (clone_leaves g p (StepLeaves g so_far (handed_on g p so_far)) (λ can. forked_follows) (regs_of p)))

  -- stores touch the pages that they lie in
  written_follow : (beside : List (ℕ × ℕ)) (n : ℕ) (memory : List (ℕ × List ℕ)) (writes : List Write) → Follows g so_far beside n memory → Follows g so_far (pages_of_writes p.maps writes ++ beside) n (with_writes memory p.maps writes)
  written_follow beside n memory writes f = record {
    rises = f.rises;
    old = λ page e lt. let parts = apart (pages_of_writes p.maps writes) beside page e in ⊎_elim (λ same. inl (writes_kept memory p.maps writes page parts.0 ∙ same)) (λ gone. inr (writes_gone memory p.maps page.0 writes gone)) (f.old page parts.1 lt);
    new = λ page e le. let parts = apart (pages_of_writes p.maps writes) beside page e in by_new page (writes_kept memory p.maps writes page parts.0) (f.new page parts.1 le);
    gone = λ n lt e. writes_gone memory p.maps n writes (f.gone n lt e);
  }
    where
      by_new : (page : ℕ × ℕ) → page_bytes (with_writes memory p.maps writes) page ≡ page_bytes memory page → IsZeroOrCopy g so_far memory page → IsZeroOrCopy g so_far (with_writes memory p.maps writes) page
      by_new page same (inl none) = inl (ap (λ (bs : List ℕ). list_all (λ b. b == 0) bs) same ∙ none)
      by_new page same (inr (k, is, untouched)) = inr (k, same ∙ is, untouched)

  continued_stands : (h : Group) (r : Regs) → StandsIn h → StandsIn (on_caller h p (with_regs r))
  continued_stands h r t = with_caller h (with_regs r) (λ q. refl) t

  over : (status : ℕ) → StepLeaves g so_far [] (ended g p status)
  unfolding ended settled
  over status = (ended_stands g p status s, settled_follow [] (with_procs g (filter_map (after_end p status) g.frame.procs)) same_follow, old_files)

  -- A step, by its reply and by its effect.
  by_reply : (number : ℕ) (r : Reply Group) → ReplyLeaves number r → StepLeaves g so_far (touched_by_reply g p so_far number r) (after_reply g p r)
  unfolding ReplyLeaves
  by_reply number waits l = (s, same_follow, old_files)
  by_reply number (refuses errno) l = (continued_stands g (answered (regs_of p) (2 ^ 64 - errno)) s, same_follow, old_files)
  by_reply number (answers value h writes) l = (
    continued_stands (written h p writes) (answered (regs_of p) value) (stored_stands h p.maps writes (of_before next h.frame.next.object g.frame.files h.frame.files p.maps l.1.rises l.2 mine) l.0),
    written_follow (touched_beside g p so_far number value h) h.frame.next.object h.memory writes l.1,
    l.2,
  )
  by_reply number (ends status) l = over status

  pub call_step : (durable : Bool) (number : ℕ) → StepLeaves g so_far (touched_by_reply g p so_far number (call_in durable g p number)) (after_reply g p (call_in durable g p number))
  call_step durable number = by_reply number (call_in durable g p number) (call_leaves durable number)

  reply_leaves : (durable : Bool) (number : ℕ) → ReplyLeaves number (reply_in durable g p number)
  unfolding reply_in ReplyLeaves
  reply_leaves durable number = by_test (list_any (λ n. n == number) served)
    where
      by_test : (b : Bool) → ReplyLeaves number (if b then call_in durable g p number else refuses ENOSYS)
      by_test true = call_leaves durable number
      by_test false = tt

  pub by_effect : (durable : Bool) (e : Effect) → StepLeaves g so_far (touched_by_effect durable g p so_far e) (after_effect durable g p e)
  by_effect durable (steps r stored) = (
    continued_stands (written g p (list_of stored)) r (stored_stands g p.maps (list_of stored) mine s),
    subst (λ touched. Follows g so_far touched next (with_writes g.memory p.maps (list_of stored))) (append-nil (pages_of_writes p.maps (list_of stored))) (written_follow [] next g.memory (list_of stored) same_follow),
    old_files,
  )
  by_effect durable calls = by_reply (call_number (regs_of p)) (reply_in durable g p (call_number (regs_of p))) (reply_leaves durable (call_number (regs_of p)))
  by_effect durable (traps status) = over status
