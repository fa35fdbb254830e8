-- What is settled is valid: the rules on what is there stay, and everything that is left is held.
use Rattle.std.proofs.Common.{◌≡◌, ◌⊎◌, inl, inr, ℕ, ◌+◌, ◌<◌, ◌≤◌, Bool, true, false, not, ◌||◌, ◌&&◌, ◌==◌, List, [], length, drop, get_or, refl, ap, sym, ◌∙◌, arith}
use Rattle.std.specs.Prelude.{filter, All, Any, if◌then◌else◌}
use Rattle.std.specs.List.{list_any}
use Rattle.std.proofs.lemmas.Bool.{and_parts, both_ways, cases_Bool, cases_eq, cases_order, eqb-true}
use Rattle.std.proofs.lemmas.List.{get_or_default, length-map}
use Rattle.std.proofs.lemmas.List.Elements.{All-map, All-filter, All-weaker, filter_passes}
use Rattle.std.proofs.lemmas.List.Kept.{AllPairs-filter}
use Rattle.descriptors.specs.declared.opens.Open.{Open}
use Rattle.descriptors.specs.declared.opens.OpenKind.{OpenKind}
use Rattle.descriptors.specs.declared.opens.OpenKind.TheVariants as kinds
use Rattle.group_defs.specs.Descriptions.{CanBeCarried, CarriedValid, DescriptorsValid, IsOpen, PositionValid, is_end}
use Rattle.group_defs.specs.Group.{Group}
use Rattle.group_defs.specs.Held.{settled, is_held, is_kept, is_end_held, has_held_end, has_reader, has_writer, is_at, carries, pair_carries, without_lost, without_unread, held_pairs, held_opens, held_pipes}
use Rattle.group_defs.specs.Mappings.{IsInside}
use Rattle.group_defs.specs.Numbers.{MessagesAreBytes}
use Rattle.lists.specs.Bytes.{AreBytes}
use Rattle.group_defs.specs.Objects.{HasFileObject, IsMemoryObject, is_of_file, maps_object, memory_objects_in}
use Rattle.pipes_socks.specs.Pairs.{PairFits, QueueFits}
use Rattle.group_defs.specs.Streams.{PairEndsOnce, PipeEndsOnce, is_pair_end, pair_ends, readers, reads_pipe, writers, writes_pipe}
use Rattle.group_defs.specs.Valid.{EndsInZeros, FilesSound, GroupIsSound, GroupIsValid, IsObject, MapsSound, MemorySound, NamesSound, ObjectsSound, OpensSound, PairHeld, PairsSound, PipeHeld, PipesSound, TargetIsThere}
use Rattle.group_defs.specs.declared.frame.ObjectRec.{ObjectRec}
use Rattle.group_defs.specs.declared.frame.Proc.{Proc}
use Rattle.group_files.specs.declared.named_files.FileRec.{FileRec}
use Rattle.pipes_socks.specs.declared.streams.Message.{Message}
use Rattle.pipes_socks.specs.declared.streams.Pair.{Pair}
use Rattle.pipes_socks.specs.declared.streams.Pipe.{Pipe}
use Rattle.tables.specs.Rising.{Rise}
use Rattle.group_laws.proofs.Lists.{any_all, any_at, any_filter, any_map, any_true, any_weaker, count_filter, filter_filter, length_filter, rise_map, sum_filter, true_any, zip_filter}

pub rise_filter : {X : Type 0} (n : X → ℕ) (t : X → Bool) (xs : List X) → Rise n xs → Rise n (filter t xs)
unfolding Rise
rise_filter n t xs rise = AllPairs-filter (λ x y. n x < n y) t xs rise

pub or_left : (a b : Bool) → a ≡ true → (a || b) ≡ true
or_left a b e = rw e refl

pub or_right : (a b : Bool) → b ≡ true → (a || b) ≡ true
or_right true b e = refl
or_right false b e = e

pub or_split : (a b : Bool) → (a || b) ≡ true → (a ≡ true) ⊎ (b ≡ true)
or_split true b e = inl refl
or_split false b e = inr e

pub equal : (a b : ℕ) → a ≡ b → (a == b) ≡ true
equal a b e = grind (arith, e)

-- A memory object that is mapped, and a file's, are kept.
file_is_kept : (files : List FileRec) (procs : List Proc) (number : ℕ) → Any (λ f. f.object ≡ number) files → is_kept files procs number ≡ true
unfolding is_kept is_of_file
file_is_kept files procs number any =
    or_left (is_of_file files number) (list_any (maps_object number) procs) (true_any (λ f. f.object == number) files (any_weaker (λ f. f.object ≡ number) (λ f. (f.object == number) ≡ true) files (λ f e. equal f.object number e) any))

mapped_is_kept : (files : List FileRec) (procs : List Proc) (number : ℕ) → Any (λ p. Any (λ m. m.object ≡ number) p.maps) procs → is_kept files procs number ≡ true
unfolding is_kept maps_object
mapped_is_kept files procs number any =
    or_right (is_of_file files number) (list_any (maps_object number) procs) (true_any (maps_object number) procs (any_weaker (λ p. Any (λ m. m.object ≡ number) p.maps) (λ p. maps_object number p ≡ true) procs
    (λ p mapped. true_any (λ m. m.object == number) p.maps (any_weaker (λ m. m.object ≡ number) (λ m. (m.object == number) ≡ true) p.maps (λ m e. equal m.object number e) mapped)) any))

module _ (next : ℕ) (procs : List Proc) (objects : List ObjectRec) (files : List FileRec) (memory : List (ℕ × List ℕ)) where
  abbrev kept : ObjectRec → Bool
  kept o = is_kept files procs o.number

  abbrev kept_bytes : ℕ × List ℕ → Bool
  kept_bytes o = is_kept files procs o.0

  objects_settled : ObjectsSound next objects files → ObjectsSound next (filter kept objects) files
  objects_settled s =
      let swapped : memory_objects_in files (filter kept objects) ≡ filter kept (memory_objects_in files objects) = filter_filter (λ o. not (is_of_file files o.number)) kept objects in
      record {
        count = rw swapped (let less = length_filter kept (memory_objects_in files objects) in let old = s.count in omega (arith, less, old));
        pages = rw swapped (let less = sum_filter (λ o. o.pages) kept (memory_objects_in files objects) in let old = s.pages in omega (arith, less, old));
        sizes = All-filter kept (λ o. o.pages ≤ 16384) objects s.sizes;
        rise = rise_filter (λ o. o.number) kept objects s.rise;
        below = All-filter kept (λ o. o.number < next) objects s.below;
      }

  ends_in_zeros : (file : FileRec) → EndsInZeros memory file → EndsInZeros (filter kept_bytes memory) file
  ends_in_zeros file zeros = All-filter kept_bytes (λ o. o.0 ≡ file.object → All (λ (b : ℕ). b ≡ 0) (drop file.length o.1)) memory zeros

  files_settled : FilesSound objects files → FilesSound (filter kept objects) files
  unfolding HasFileObject
  files_settled s = record {
    count = s.count;
    fits = s.fits;
    rise = s.rise;
    there = λ k d lt. any_filter (λ o. (o.number ≡ (get_or files k d).object) × (o.pages ≡ 256)) kept (λ o is. file_is_kept files procs o.number (any_at (λ f. f.object ≡ o.number) files k d lt (sym is.0))) objects (s.there k d lt);
    alone = s.alone;
  }

  memory_settled : MemorySound objects files memory → MemorySound (filter kept objects) files (filter kept_bytes memory)
  memory_settled s = record {
    bytes = zip_filter IsObject kept kept_bytes (λ o b is. ap (is_kept files procs) (sym is.0)) objects memory s.bytes;
    zeros = All-weaker (EndsInZeros memory) (EndsInZeros (filter kept_bytes memory)) ends_in_zeros files s.zeros;
  }

  inside_settled : All (λ p. All (IsInside objects) p.maps) procs → All (λ p. All (IsInside (filter kept objects)) p.maps) procs
  unfolding IsInside
  inside_settled inside k d lt i e lt' =
      any_filter (λ o. (o.number ≡ (get_or (get_or procs k d).maps i e).object) × ((get_or (get_or procs k d).maps i e).first + (get_or (get_or procs k d).maps i e).pages ≤ o.pages)) kept
      (λ o is. mapped_is_kept files procs o.number (any_at (λ p. Any (λ m. m.object ≡ o.number) p.maps) procs k d lt (any_at (λ m. m.object ≡ o.number) (get_or procs k d).maps i e lt' (sym is.0)))) objects (inside k d lt i e lt')

  maps_settled : MapsSound procs objects files → MapsSound procs (filter kept objects) files
  maps_settled s = record {
    inside = inside_settled s.inside;
    agree = All-filter kept (λ o. (is_of_file files o.number ≡ true) ⊎ IsMemoryObject procs o) objects s.agree;
    unmapped = s.unmapped;
  }

-- Pairs. What waits at an end that nobody holds goes.
module _ (procs : List Proc) (opens : List Open) where
  abbrev left : Pair → Pair
  left p = without_lost procs opens p

  -- what holds of a pair's messages holds of those that are left
  queue : (P : List Message → Type 0) → P [] → (b : Bool) (messages : List Message) → P messages → P (if b then messages else [])
  queue P none true messages held = held
  queue P none false messages held = none

  queues : (P : List Message → Type 0) → P [] → (p : Pair) → P p.to0 × P p.to1 → P (left p).to0 × P (left p).to1
  queues P none p both = (queue P none (is_end_held procs opens p.number 0) p.to0 both.0, queue P none (is_end_held procs opens p.number 1) p.to1 both.1)

  -- ... and so of each pair that is left
  pairs_left : (P Q : Pair → Type 0) → ((p : Pair) → P p → Q (left p)) → (pairs : List Pair) → All P pairs → All Q (held_pairs procs opens pairs)
  pairs_left P Q kept pairs all =
      All-map Q left (filter (has_held_end procs opens) pairs) (All-weaker P (λ p. Q (left p)) kept (filter (has_held_end procs opens) pairs) (All-filter (has_held_end procs opens) P pairs all))

  fits_left : (p : Pair) → PairFits p → PairFits (left p)
  unfolding PairFits QueueFits
  fits_left p fits = queues QueueFits (omega arith, λ k d lt. absurd (omega (arith, lt))) p fits

  bytes_left : (p : Pair) → MessagesAreBytes p → MessagesAreBytes (left p)
  unfolding MessagesAreBytes
  bytes_left p bytes = queues (All (λ m. AreBytes m.bytes)) (λ k d lt. absurd (omega (arith, lt))) p bytes

  carried_left : (named : List Open) (p : Pair) → CarriedValid named p → CarriedValid named (left p)
  unfolding CarriedValid
  carried_left named p valid = queues (All (λ m. All (CanBeCarried named) m.opens)) (λ k d lt. absurd (omega (arith, lt))) p valid

-- fewer descriptions have fewer ends
ends_settled : (t : Open → Bool) (opens : List Open) (p : Pair) → PairEndsOnce opens p → PairEndsOnce (filter t opens) p
unfolding PairEndsOnce pair_ends
ends_settled t opens p valid =
    let zero_less = count_filter (λ o. is_pair_end p.number 0 o.kind) t opens in
    let one_less = count_filter (λ o. is_pair_end p.number 1 o.kind) t opens in
    let old0 = valid.0 in let old1 = valid.1 in
    (omega (arith, zero_less, old0), omega (arith, one_less, old1))

pipe_ends_settled : (t : Open → Bool) (opens : List Open) (p : Pipe) → PipeEndsOnce opens p → PipeEndsOnce (filter t opens) p
unfolding PipeEndsOnce readers writers
pipe_ends_settled t opens p valid =
    let zero_less = count_filter (λ o. reads_pipe p.number o.kind) t opens in
    let one_less = count_filter (λ o. writes_pipe p.number o.kind) t opens in
    let old0 = valid.0 in let old1 = valid.1 in
    (omega (arith, zero_less, old0), omega (arith, one_less, old1))

same_ends : (opens : List Open) (p q : Pair) → q.number ≡ p.number → PairEndsOnce opens p → PairEndsOnce opens q
unfolding PairEndsOnce
same_ends opens p q same valid = rw same valid

pairs_settled : (next : ℕ) (procs : List Proc) (opens : List Open) (t : Open → Bool) (pairs : List Pair) → PairsSound next opens pairs → PairsSound next (filter t opens) (held_pairs procs opens pairs)
pairs_settled next procs opens t pairs s =
    let keeps : Pair → Bool = has_held_end procs opens in
    record {
      count = let less = length_filter keeps pairs in let old = s.count in omega (arith, less, old, length-map (filter keeps pairs) (without_lost procs opens));
      rise = rise_map (without_lost procs opens) (λ p. p.number) (λ p. p.number) (λ p. refl) (filter keeps pairs) (rise_filter (λ p. p.number) keeps pairs s.rise);
      below = pairs_left procs opens (λ p. p.number < next) (λ p. p.number < next) (λ p less. less) pairs s.below;
      ends = pairs_left procs opens (PairEndsOnce opens) (PairEndsOnce (filter t opens)) (λ p valid. ends_settled t opens (without_lost procs opens p) (same_ends opens p (without_lost procs opens p) refl valid)) pairs s.ends;
      sizes = pairs_left procs opens PairFits PairFits (fits_left procs opens) pairs s.sizes;
      bytes = pairs_left procs opens MessagesAreBytes MessagesAreBytes (bytes_left procs opens) pairs s.bytes;
    }

-- Pipes. Without a read end the bytes go.
module _ (opens : List Open) where
  pipes_left : (P Q : Pipe → Type 0) → ((p : Pipe) → P p → Q (without_unread opens p)) → (pipes : List Pipe) → All P pipes → All Q (held_pipes opens pipes)
  pipes_left P Q kept pipes all =
      let keeps : Pipe → Bool = λ p. has_reader opens p.number || has_writer opens p.number in
      All-map Q (without_unread opens) (filter keeps pipes) (All-weaker P (λ p. Q (without_unread opens p)) kept (filter keeps pipes) (All-filter keeps P pipes all))

  bytes_kept : (P : List ℕ → Type 0) → P [] → (p : Pipe) → P p.bytes → P (without_unread opens p).bytes
  bytes_kept P none p held = by_test (has_reader opens p.number)
    where
      by_test : (b : Bool) → P (if b then p.bytes else [])
      by_test true = held
      by_test false = none

same_pipe_ends : (opens : List Open) (p q : Pipe) → q.number ≡ p.number → PipeEndsOnce opens p → PipeEndsOnce opens q
unfolding PipeEndsOnce
same_pipe_ends opens p q same valid = rw same valid

no_bytes : AreBytes []
unfolding AreBytes
no_bytes = λ k d lt. absurd (omega (arith, lt))

pipes_settled : (next : ℕ) (opens : List Open) (t : Open → Bool) (pipes : List Pipe) → PipesSound next opens pipes → PipesSound next (filter t opens) (held_pipes (filter t opens) pipes)
pipes_settled next opens t pipes s =
    let left : List Open = filter t opens in
    let keeps : Pipe → Bool = λ p. has_reader left p.number || has_writer left p.number in
    record {
      count = let less = length_filter keeps pipes in let old = s.count in omega (arith, less, old, length-map (filter keeps pipes) (without_unread left));
      rise = rise_map (without_unread left) (λ p. p.number) (λ p. p.number) (λ p. refl) (filter keeps pipes) (rise_filter (λ p. p.number) keeps pipes s.rise);
      below = pipes_left left (λ p. p.number < next) (λ p. p.number < next) (λ p less. less) pipes s.below;
      ends = pipes_left left (PipeEndsOnce opens) (PipeEndsOnce left) (λ p valid. pipe_ends_settled t opens (without_unread left p) (same_pipe_ends opens p (without_unread left p) refl valid)) pipes s.ends;
      sizes = pipes_left left (λ p. length p.bytes ≤ 65536) (λ p. length p.bytes ≤ 65536) (bytes_kept left (λ bytes. length bytes ≤ 65536) (omega arith)) pipes s.sizes;
      bytes = pipes_left left (λ p. AreBytes p.bytes) (λ p. AreBytes p.bytes) (bytes_kept left AreBytes no_bytes) pipes s.bytes;
    }

-- Descriptions. What a descriptor is at and what a message carries is held.
module _ (procs : List Proc) (pairs : List Pair) where
  at_is_held : (number : ℕ) → Any (λ p. Any (λ d. d.1 ≡ number) p.fds) procs → list_any (is_at number) procs ≡ true
  at_is_held number any =
      true_any (is_at number) procs (any_weaker (λ p. Any (λ d. d.1 ≡ number) p.fds) (λ p. is_at number p ≡ true) procs
      (λ p at. true_any (λ d. d.1 == number) p.fds (any_weaker (λ d. d.1 ≡ number) (λ d. (d.1 == number) ≡ true) p.fds (λ d e. equal d.1 number e) at)) any)

  pub held_by_fd : (number : ℕ) → list_any (is_at number) procs ≡ true → is_held procs pairs number ≡ true
  unfolding is_held
  held_by_fd number at = or_left (list_any (is_at number) procs) (list_any (pair_carries number) pairs) at

  held_by_message : (number : ℕ) → Any (λ p. pair_carries number p ≡ true) pairs → is_held procs pairs number ≡ true
  unfolding is_held
  held_by_message number carried = or_right (list_any (is_at number) procs) (list_any (pair_carries number) pairs) (true_any (pair_carries number) pairs carried)

  -- a number in a queue of messages is carried
  in_queue : (messages : List Message) (j i : ℕ) (m : Message) (n number : ℕ) → j < length messages → i < length (get_or messages j m).opens → get_or (get_or messages j m).opens i n ≡ number → list_any (carries number) messages ≡ true
  in_queue messages j i m n number lt lt' is =
      true_any (carries number) messages (any_at (λ x. carries number x ≡ true) messages j m lt
      (true_any (λ x. x == number) (get_or messages j m).opens (any_at (λ x. (x == number) ≡ true) (get_or messages j m).opens i n lt' (equal (get_or (get_or messages j m).opens i n) number is))))

  fds_settled : (opens : List Open) → All (DescriptorsValid opens) procs → All (DescriptorsValid (held_opens procs pairs opens)) procs
  unfolding DescriptorsValid IsOpen
  fds_settled opens valid k d lt i e lt' =
      any_filter (λ o. o.number ≡ (get_or (get_or procs k d).fds i e).1) (λ o. is_held procs pairs o.number)
      (λ o is. held_by_fd o.number (at_is_held o.number (any_at (λ p. Any (λ x. x.1 ≡ o.number) p.fds) procs k d lt (any_at (λ x. x.1 ≡ o.number) (get_or procs k d).fds i e lt' (sym is)))))
      opens (valid k d lt i e lt')

  queue_settled : (opens : List Open) (messages : List Message) → ((number : ℕ) → list_any (carries number) messages ≡ true → is_held procs pairs number ≡ true) → All (λ m. All (CanBeCarried opens) m.opens) messages → All (λ m. All (CanBeCarried (held_opens procs pairs opens)) m.opens) messages
  unfolding CanBeCarried
  queue_settled opens messages held valid j m lt i n lt' =
      any_filter (λ o. (o.number ≡ get_or (get_or messages j m).opens i n) × (is_end o.kind ≡ false)) (λ o. is_held procs pairs o.number)
      (λ o is. held o.number (in_queue messages j i m n o.number lt lt' (sym is.0))) opens (valid j m lt i n lt')

  carried_settled : (opens : List Open) → All (CarriedValid opens) pairs → All (CarriedValid (held_opens procs pairs opens)) pairs
  unfolding CarriedValid
  carried_settled opens valid k d lt =
      let p : Pair = get_or pairs k d in
      let held : (number : ℕ) → pair_carries number p ≡ true → is_held procs pairs number ≡ true = λ number carried. held_by_message number (any_at (λ q. pair_carries number q ≡ true) pairs k d lt carried) in (
        queue_settled opens p.to0 (λ number yes'. held number (or_left (list_any (carries number) p.to0) (list_any (carries number) p.to1) yes')) (valid k d lt).0,
        queue_settled opens p.to1 (λ number yes'. held number (or_right (list_any (carries number) p.to0) (list_any (carries number) p.to1) yes')) (valid k d lt).1,
      )

-- an end that is held stays, and stays held
end_stays : (procs : List Proc) (opens : List Open) (pairs : List Pair) (number side : ℕ) → is_end_held procs opens number side ≡ true → is_end_held procs (held_opens procs pairs opens) number side ≡ true
unfolding is_end_held
end_stays procs opens pairs number side e =
    let t : Open → Bool = λ o. is_pair_end number side o.kind && list_any (is_at o.number) procs in
    true_any t (held_opens procs pairs opens) (any_filter (λ o. t o ≡ true) (λ o. is_held procs pairs o.number) (λ o is. held_by_fd procs pairs o.number (and_parts (is_pair_end number side o.kind) (list_any (is_at o.number) procs) is).1) opens (any_true t opens e))

-- Everything that is left is held.
module _ (procs : List Proc) (opens : List Open) (pairs : List Pair) where
  pair_is_held : (kept : List Pair) (p : Pair) → has_held_end procs opens p ≡ true → PairHeld procs (held_opens procs kept opens) (without_lost procs opens p)
  unfolding PairHeld
  pair_is_held kept p held = (ends (or_split (is_end_held procs opens p.number 0) (is_end_held procs opens p.number 1) held), empty 0 p.to0, empty 1 p.to1)
    where
      ends : (is_end_held procs opens p.number 0 ≡ true) ⊎ (is_end_held procs opens p.number 1 ≡ true) → (is_end_held procs (held_opens procs kept opens) p.number 0 || is_end_held procs (held_opens procs kept opens) p.number 1) ≡ true
      ends (inl zero_held) = or_left (is_end_held procs (held_opens procs kept opens) p.number 0) (is_end_held procs (held_opens procs kept opens) p.number 1) (end_stays procs opens kept p.number 0 zero_held)
      ends (inr one_held) = or_right (is_end_held procs (held_opens procs kept opens) p.number 0) (is_end_held procs (held_opens procs kept opens) p.number 1) (end_stays procs opens kept p.number 1 one_held)

      empty : (side : ℕ) (messages : List Message) → is_end_held procs (held_opens procs kept opens) p.number side ≡ false → (if is_end_held procs opens p.number side then messages else []) ≡ []
      empty side messages gone = by_test (cases_Bool (is_end_held procs opens p.number side))
        where
          by_test : (is_end_held procs opens p.number side ≡ true) ⊎ (is_end_held procs opens p.number side ≡ false) → (if is_end_held procs opens p.number side then messages else []) ≡ []
          by_test (inl hit) = let stays = end_stays procs opens kept p.number side hit in absurd (cc)
          by_test (inr miss) = rw miss refl

  pairs_held : (kept : List Pair) → All (PairHeld procs (held_opens procs kept opens)) (held_pairs procs opens pairs)
  pairs_held kept =
      All-map (PairHeld procs (held_opens procs kept opens)) (without_lost procs opens) (filter (has_held_end procs opens) pairs)
      (All-weaker (λ p. has_held_end procs opens p ≡ true) (λ p. PairHeld procs (held_opens procs kept opens) (without_lost procs opens p)) (pair_is_held kept) (filter (has_held_end procs opens) pairs) (filter_passes (has_held_end procs opens) pairs))

pipe_is_held : (opens : List Open) (p : Pipe) → (has_reader opens p.number || has_writer opens p.number) ≡ true → PipeHeld opens (without_unread opens p)
unfolding PipeHeld
pipe_is_held opens p held = (held, λ gone. rw gone refl)

pipes_held : (opens : List Open) (pipes : List Pipe) → All (PipeHeld opens) (held_pipes opens pipes)
pipes_held opens pipes =
    let keeps : Pipe → Bool = λ p. has_reader opens p.number || has_writer opens p.number in
    All-map (PipeHeld opens) (without_unread opens) (filter keeps pipes) (All-weaker (λ p. keeps p ≡ true) (λ p. PipeHeld opens (without_unread opens p)) (pipe_is_held opens) (filter keeps pipes) (filter_passes keeps pipes))

-- entries of a list that rises are the same where their numbers are
pub rise_unique : {X : Type 0} (n : X → ℕ) (xs : List X) (a b : X) → Rise n xs → Any (λ x. x ≡ a) xs → Any (λ x. x ≡ b) xs → n a ≡ n b → a ≡ b
unfolding Rise
rise_unique n xs a b rise (i, x, lt, is, x_is) (j, y, lt', is', y_is) same = by_order (cases_order i j)
  where
    at_i : get_or xs i a ≡ a
    at_i = get_or_default xs i a x lt ∙ is ∙ x_is

    at_j : get_or xs j a ≡ b
    at_j = get_or_default xs j a y lt' ∙ is' ∙ y_is

    by_order : (i ≡ j) ⊎ ((i < j) ⊎ (j < i)) → a ≡ b
    by_order (inl e) = sym at_i ∙ ap (λ k. get_or xs k a) e ∙ at_j
    by_order (inr (inl less)) = let up = rise i j a less lt' in absurd (omega (arith, up, ap n at_i, ap n at_j, same))
    by_order (inr (inr less)) = let up = rise j i a less lt in absurd (omega (arith, up, ap n at_i, ap n at_j, same))

-- what a queue carries is a description that is no end of a pair
carried_is_no_end : (opens : List Open) (messages : List Message) (number : ℕ) → All (λ m. All (CanBeCarried opens) m.opens) messages → list_any (carries number) messages ≡ true → Any (λ o. (o.number ≡ number) × (is_end o.kind ≡ false)) opens
unfolding CanBeCarried
carried_is_no_end opens messages number valid carried = of_message (any_all (λ m. carries number m ≡ true) (λ m. All (CanBeCarried opens) m.opens) messages (any_true (carries number) messages carried) valid)
  where
    of_number : (m : Message) → Any (λ n. ((n == number) ≡ true) × CanBeCarried opens n) m.opens → Any (λ o. (o.number ≡ number) × (is_end o.kind ≡ false)) opens
    of_number m (k, n, lt, is, both) = let same : n ≡ number = eqb-true n number both.0 in any_weaker (λ o. (o.number ≡ n) × (is_end o.kind ≡ false)) (λ o. (o.number ≡ number) × (is_end o.kind ≡ false)) opens (λ o c. (c.0 ∙ same, c.1)) both.1

    of_message : Any (λ m. (carries number m ≡ true) × All (CanBeCarried opens) m.opens) messages → Any (λ o. (o.number ≡ number) × (is_end o.kind ≡ false)) opens
    of_message (k, m, lt, is, both) = of_number m (any_all (λ n. (n == number) ≡ true) (CanBeCarried opens) m.opens (any_true (λ n. n == number) m.opens both.0) both.1)

carried_in_pair : (opens : List Open) (p : Pair) (number : ℕ) → CarriedValid opens p → pair_carries number p ≡ true → Any (λ o. (o.number ≡ number) × (is_end o.kind ≡ false)) opens
unfolding CarriedValid
carried_in_pair opens p number valid carried = by_side (or_split (list_any (carries number) p.to0) (list_any (carries number) p.to1) carried)
  where
    by_side : (list_any (carries number) p.to0 ≡ true) ⊎ (list_any (carries number) p.to1 ≡ true) → Any (λ o. (o.number ≡ number) × (is_end o.kind ≡ false)) opens
    by_side (inl first) = carried_is_no_end opens p.to0 number valid.0 first
    by_side (inr second) = carried_is_no_end opens p.to1 number valid.1 second

-- an end of a pair is held by a descriptor, since no message carries it
pub end_by_fd : (procs : List Proc) (opens : List Open) (pairs : List Pair) (o : Open) → Rise (λ x. x.number) opens → All (CarriedValid opens) pairs → Any (λ x. x ≡ o) opens → is_end o.kind ≡ true → is_held procs pairs o.number ≡ true → list_any (is_at o.number) procs ≡ true
unfolding is_held
end_by_fd procs opens pairs o rise carried there end held = by_holder (or_split (list_any (is_at o.number) procs) (list_any (pair_carries o.number) pairs) held)
  where
    other : Any (λ x. (x.number ≡ o.number) × (is_end x.kind ≡ false)) opens → ⊥
    other (k, x, lt, is, both) = let same : x ≡ o = rise_unique (λ y. y.number) opens x o rise (k, x, lt, is, refl) there both.0 in
        let no_end : is_end o.kind ≡ false = sym (ap (λ y. is_end y.kind) same) ∙ both.1 in both_ways (is_end o.kind) no_end end

    no_message : Any (λ p. (pair_carries o.number p ≡ true) × CarriedValid opens p) pairs → ⊥
    no_message (k, p, lt, is, both) = other (carried_in_pair opens p o.number both.1 both.0)

    by_holder : (list_any (is_at o.number) procs ≡ true) ⊎ (list_any (pair_carries o.number) pairs ≡ true) → list_any (is_at o.number) procs ≡ true
    by_holder (inl at) = at
    by_holder (inr in_message) = absurd (no_message (any_all (λ p. pair_carries o.number p ≡ true) (CarriedValid opens) pairs (any_true (pair_carries o.number) pairs in_message) carried))

-- The targets of descriptions.
module _ (files : List FileRec) (pipes : List Pipe) (opens : List Open) where
  -- a pipe of which an end is there stays
  pipe_stays : (pipe : ℕ) → ((p : Pipe) → p.number ≡ pipe → (has_reader opens p.number || has_writer opens p.number) ≡ true) → Any (λ p. p.number ≡ pipe) pipes → Any (λ p. p.number ≡ pipe) (held_pipes opens pipes)
  pipe_stays pipe keeps there =
      any_map (λ p. p.number ≡ pipe) (λ p. p.number ≡ pipe) (without_unread opens) (λ p is. is) (filter (λ p. has_reader opens p.number || has_writer opens p.number) pipes)
      (any_filter (λ p. p.number ≡ pipe) (λ p. has_reader opens p.number || has_writer opens p.number) keeps pipes there)

  pub reader_there : (o : Open) (pipe : ℕ) → Any (λ x. x ≡ o) opens → o.kind ≡ kinds.PipeRead pipe → has_reader opens pipe ≡ true
  unfolding has_reader
  reader_there o pipe there is = true_any (λ x. reads_pipe pipe x.kind) opens (any_weaker (λ x. x ≡ o) (λ x. reads_pipe pipe x.kind ≡ true) opens (λ x e. ap (λ y. reads_pipe pipe y.kind) e ∙ ap (reads_pipe pipe) is ∙ equal pipe pipe refl) there)

  pub writer_there : (o : Open) (pipe : ℕ) → Any (λ x. x ≡ o) opens → o.kind ≡ kinds.PipeWrite pipe → has_writer opens pipe ≡ true
  unfolding has_writer
  writer_there o pipe there is = true_any (λ x. writes_pipe pipe x.kind) opens (any_weaker (λ x. x ≡ o) (λ x. writes_pipe pipe x.kind ≡ true) opens (λ x e. ap (λ y. writes_pipe pipe y.kind) e ∙ ap (writes_pipe pipe) is ∙ equal pipe pipe refl) there)

module _ (procs : List Proc) (opens : List Open) (pairs : List Pair) where
  pub end_held : (o : Open) (pair side : ℕ) → Any (λ x. x ≡ o) opens → o.kind ≡ kinds.PairEnd pair side → list_any (is_at o.number) procs ≡ true → is_end_held procs opens pair side ≡ true
  unfolding is_end_held
  end_held o pair side there is at =
      let t : Open → Bool = λ x. is_pair_end pair side x.kind && list_any (is_at x.number) procs in
      let here : t o ≡ true = rw (ap (is_pair_end pair side) is, equal pair pair refl, equal side side refl) at in
      true_any t opens (any_weaker (λ x. x ≡ o) (λ x. t x ≡ true) opens (λ x e. ap t e ∙ here) there)

  has_end : (pair side : ℕ) → side < 2 → is_end_held procs opens pair side ≡ true → (p : Pair) → p.number ≡ pair → has_held_end procs opens p ≡ true
  has_end pair side lt held p is = by_side (cases_eq side 0)
    where
      at_number : (n : ℕ) → side ≡ n → is_end_held procs opens p.number n ≡ true
      at_number n e = ap (λ q. is_end_held procs opens q n) is ∙ ap (is_end_held procs opens pair) (sym e) ∙ held

      by_side : (side ≡ 0) ⊎ (side ≡ 0 → ⊥) → has_held_end procs opens p ≡ true
      by_side (inl e) = or_left (is_end_held procs opens p.number 0) (is_end_held procs opens p.number 1) (at_number 0 e)
      by_side (inr e) = or_right (is_end_held procs opens p.number 0) (is_end_held procs opens p.number 1) (at_number 1 (omega (arith, lt, e)))

  pair_stays : (pair side : ℕ) → side < 2 → is_end_held procs opens pair side ≡ true → Any (λ p. p.number ≡ pair) pairs → Any (λ p. p.number ≡ pair) (held_pairs procs opens pairs)
  pair_stays pair side lt held there =
      any_map (λ p. p.number ≡ pair) (λ p. p.number ≡ pair) (without_lost procs opens) (λ p is. is) (filter (has_held_end procs opens) pairs)
      (any_filter (λ p. p.number ≡ pair) (has_held_end procs opens) (has_end pair side lt held) pairs there)

module _ (procs : List Proc) (opens : List Open) (files : List FileRec) (pipes : List Pipe) (pairs : List Pair) where
  abbrev left_pairs : List Pair
  left_pairs = held_pairs procs opens pairs

  abbrev left_opens : List Open
  left_opens = held_opens procs left_pairs opens

  target_stays : (o : Open) → Any (λ x. x ≡ o) left_opens → Any (λ x. x ≡ o) opens → (is_end o.kind ≡ true → list_any (is_at o.number) procs ≡ true) → (kind : OpenKind) → o.kind ≡ kind → TargetIsThere files pipes pairs kind → TargetIsThere files (held_pipes left_opens pipes) left_pairs kind
  target_stays o left there end kinds.Nothing is target = tt
  target_stays o left there end kinds.Outside is target = tt
  target_stays o left there end (kinds.File object) is target = target
  target_stays o left there end (kinds.PipeRead pipe) is target =
      pipe_stays files pipes left_opens pipe (λ p e. or_left (has_reader left_opens p.number) (has_writer left_opens p.number) (ap (has_reader left_opens) e ∙ reader_there files pipes left_opens o pipe left is)) target
  target_stays o left there end (kinds.PipeWrite pipe) is target =
      pipe_stays files pipes left_opens pipe (λ p e. or_right (has_reader left_opens p.number) (has_writer left_opens p.number) (ap (has_writer left_opens) e ∙ writer_there files pipes left_opens o pipe left is)) target
  target_stays o left there end (kinds.PairEnd pair side) is target =
      (pair_stays procs opens pairs pair side target.1 (end_held procs opens pairs o pair side there is (end (ap is_end is))) target.0, target.1)

  carried_left_all : All (CarriedValid opens) pairs → All (CarriedValid opens) left_pairs
  carried_left_all carried = pairs_left procs opens (CarriedValid opens) (CarriedValid opens) (carried_left procs opens opens) pairs carried

  names_settled : NamesSound procs pairs opens → NamesSound procs left_pairs left_opens
  names_settled s = record { fds = fds_settled procs left_pairs opens s.fds; carried = carried_settled procs left_pairs opens (carried_left_all s.carried) }

  opens_settled : (next : ℕ) → NamesSound procs pairs opens → OpensSound next opens files pipes pairs → OpensSound next left_opens files (held_pipes left_opens pipes) left_pairs
  opens_settled next names s =
      let t : Open → Bool = λ o. is_held procs left_pairs o.number in
      record {
        count = let less = length_filter t opens in let old = s.count in omega (arith, less, old);
        rise = rise_filter (λ o. o.number) t opens s.rise;
        below = All-filter t (λ o. o.number < next) opens s.below;
        positions = All-filter t (λ o. PositionValid o.kind o.offset o.flags) opens s.positions;
        targets = λ k d lt.
            let o : Open = get_or left_opens k d in
            let there : Any (λ x. x ≡ o) opens = All-filter t (λ y. Any (λ x. x ≡ y) opens) opens (λ i e lt'. any_at (λ x. x ≡ get_or opens i e) opens i e lt' refl) k d lt in
            let held : is_held procs left_pairs o.number ≡ true = filter_passes t opens k d lt in
            target_stays o (any_at (λ x. x ≡ o) left_opens k d lt refl) there (λ end. end_by_fd procs opens left_pairs o s.rise (carried_left_all names.carried) there end held) o.kind refl
            (All-filter t (λ y. TargetIsThere files pipes pairs y.kind) opens s.targets k d lt);
      }

-- the whole
pub settled_valid : (g : Group) → GroupIsSound g → GroupIsValid (settled g)
unfolding settled
settled_valid g s =
    let f = g.frame in
    let pairs : List Pair = held_pairs f.procs f.opens f.pairs in
    let t : Open → Bool = λ o. is_held f.procs pairs o.number in
    record {
      sound = record {
        frame = record {
          procs = s.frame.procs;
          maps = maps_settled f.next.object f.procs f.objects f.files g.memory s.frame.maps;
          names = names_settled f.procs f.opens f.files f.pipes f.pairs s.frame.names;
          opens = opens_settled f.procs f.opens f.files f.pipes f.pairs f.next.descr s.frame.names s.frame.opens;
          pipes = pipes_settled f.next.pipe f.opens t f.pipes s.frame.pipes;
          pairs = pairs_settled f.next.pair f.procs f.opens t f.pairs s.frame.pairs;
          objects = objects_settled f.next.object f.procs f.objects f.files g.memory s.frame.objects;
          files = files_settled f.next.object f.procs f.objects f.files g.memory s.frame.files;
          out = s.frame.out;
          next = s.frame.next;
        };
        memory = memory_settled f.next.object f.procs f.objects f.files g.memory s.memory;
      };
      held = record {
        opens = filter_passes t f.opens;
        objects = filter_passes (λ o. is_kept f.files f.procs o.number) f.objects;
        pipes = pipes_held (held_opens f.procs pairs f.opens) f.pipes;
        pairs = pairs_held f.procs f.opens f.pairs pairs;
      };
    }
