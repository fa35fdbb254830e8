-- A new description at a new descriptor; pipe2.
use Rattle.std.proofs.Common.{◌≡◌, ◌⊎◌, inl, inr, ℕ, ◌+◌, ◌^◌, ◌<◌, ◌≤◌, Bool, true, false, ◌||◌, ◌&&◌, ◌==◌, List, [], ◌∷◌, ◌++◌, length, get_or, refl, ap, sym, ◌∙◌, subst, arith}
use Rattle.std.specs.Prelude.{All, Any, count_by, filter, IsTrue}
use Rattle.std.specs.List.{list_any}
use Rattle.std.proofs.lemmas.Bool.{cases_Bool, cases_eq, ne_eqb}
use Rattle.std.proofs.lemmas.List.{append-nil, length-append, length_push}
use Rattle.std.proofs.lemmas.List.Elements.{All-push, All-weaker, filter-append}
use Rattle.std.proofs.lemmas.List.Folds.{list_any-append}
use Rattle.std.proofs.lemmas.List.Sums.{length-filter}
use Rattle.descriptors.specs.declared.opens.Open.{Open}
use Rattle.descriptors.specs.declared.opens.OpenKind.{OpenKind}
use Rattle.descriptors.specs.declared.opens.OpenKind.TheVariants as kinds
use Rattle.group_defs.specs.Changes.{with_open}
use Rattle.group_defs.specs.Descriptions.{CanBeCarried, CarriedValid, DescriptorsValid, IsOpen, PositionValid, is_end}
use Rattle.group_defs.specs.Group.{Group}
use Rattle.group_defs.specs.Held.{has_reader, has_writer, is_at, is_end_held, is_held}
use Rattle.group_defs.specs.Numbers.{NextFits}
use Rattle.lists.specs.Bytes.{AreBytes}
use Rattle.group_defs.specs.PipeCalls.{with_new_pipe}
use Rattle.group_defs.specs.Streams.{PairEndsOnce, PipeEndsOnce, is_pair_end, pair_ends, readers, reads_pipe, writers, writes_pipe}
use Rattle.group_defs.specs.Valid.{AllHeld, GroupIsSound, PairHeld, PipeHeld, TargetIsThere}
use Rattle.group_defs.specs.declared.frame.Proc.{Proc}
use Rattle.pipes_socks.specs.declared.streams.Message.{Message}
use Rattle.pipes_socks.specs.declared.streams.Pair.{Pair}
use Rattle.pipes_socks.specs.declared.streams.Pipe.{Pipe}
use Rattle.group_laws.proofs.Lists.{any_all, any_append_left, filter_none, rise_push}
use Rattle.group_laws.proofs.SettledLaws.{or_left, or_right}

-- a test passes once more where the new one passes, and only there
pub one_more : {X : Type 0} (q : X → Bool) (xs : List X) (x : X) → q x ≡ false → count_by q (xs ++ x ∷ []) ≡ count_by q xs
one_more q xs x fail = sym (length-filter q (xs ++ x ∷ [])) ∙ ap length (filter-append q xs (x ∷ []) ∙ nothing) ∙ length-filter q xs
  where
    nothing : filter q xs ++ filter q (x ∷ []) ≡ filter q xs
    nothing = rw fail (append-nil (filter q xs))

pub first_one : {X : Type 0} (q : X → Bool) (xs : List X) (x : X) → count_by q xs ≡ 0 → count_by q (xs ++ x ∷ []) ≤ 1
first_one q xs x none = by_test (cases_Bool (q x))
  where
    size : length (filter q (xs ++ x ∷ [])) ≡ length (filter q xs) + length (filter q (x ∷ []))
    size = ap length (filter-append q xs (x ∷ [])) ∙ length-append (filter q xs) (filter q (x ∷ []))

    by_test : (q x ≡ true) ⊎ (q x ≡ false) → count_by q (xs ++ x ∷ []) ≤ 1
    by_test (inl hit) = let one : length (filter q (x ∷ [])) ≡ 1 = rw hit refl in omega (arith, size, one, none, length-filter q xs, length-filter q (xs ++ x ∷ []))
    by_test (inr miss) = let zero : length (filter q (x ∷ [])) ≡ 0 = rw miss refl in omega (arith, size, zero, none, length-filter q xs, length-filter q (xs ++ x ∷ []))

-- no description is this end yet
abbrev pub EndIsFree : List Open → OpenKind → Type 0
EndIsFree opens (kinds.PipeRead pipe) = readers opens pipe ≡ 0
EndIsFree opens (kinds.PipeWrite pipe) = writers opens pipe ≡ 0
EndIsFree opens (kinds.PairEnd pair end) = pair_ends opens pair end ≡ 0
EndIsFree opens kind = Unit {0}

module _ (opens : List Open) (o : Open) (free : EndIsFree opens o.kind) where
  abbrev more : List Open
  more = opens ++ o ∷ []

  pipe_ends : (k : OpenKind) → o.kind ≡ k → EndIsFree opens k → (p : Pipe) → PipeEndsOnce opens p → PipeEndsOnce more p
  unfolding PipeEndsOnce readers writers
  pipe_ends k is free p valid = (count k is free (λ j. reads_pipe p.number j) read_or valid.0, count k is free (λ j. writes_pipe p.number j) write_or valid.1)
    where
      count : (k : OpenKind) → o.kind ≡ k → EndIsFree opens k → (q : OpenKind → Bool) → ((k : OpenKind) → EndIsFree opens k → (q k ≡ false) ⊎ (count_by (λ x. q x.kind) opens ≡ 0)) → count_by (λ x. q x.kind) opens ≤ 1 → count_by (λ x. q x.kind) more ≤ 1
      count k is free q or le = by_either (or k free)
        where
          by_either : (q k ≡ false) ⊎ (count_by (λ x. q x.kind) opens ≡ 0) → count_by (λ x. q x.kind) more ≤ 1
          by_either (inl fail) = let same = one_more (λ x. q x.kind) opens o (ap q is ∙ fail) in omega (arith, same, le)
          by_either (inr none) = first_one (λ x. q x.kind) opens o none

      read_or : (k : OpenKind) → EndIsFree opens k → (reads_pipe p.number k ≡ false) ⊎ (count_by (λ x. reads_pipe p.number x.kind) opens ≡ 0)
      read_or kinds.Nothing f = inl refl
      read_or kinds.Outside f = inl refl
      read_or (kinds.File object) f = inl refl
      read_or (kinds.PipeWrite pipe) f = inl refl
      read_or (kinds.PairEnd pair end) f = inl refl
      read_or (kinds.PipeRead pipe) f = by_number (cases_eq pipe p.number)
        where
          by_number : (pipe ≡ p.number) ⊎ (pipe ≡ p.number → ⊥) → (reads_pipe p.number (kinds.PipeRead pipe) ≡ false) ⊎ (count_by (λ x. reads_pipe p.number x.kind) opens ≡ 0)
          by_number (inl same) = inr (subst (λ n. count_by (λ (x : Open). reads_pipe n x.kind) opens ≡ 0) same f)
          by_number (inr other) = inl (ne_eqb pipe p.number other)

      write_or : (k : OpenKind) → EndIsFree opens k → (writes_pipe p.number k ≡ false) ⊎ (count_by (λ x. writes_pipe p.number x.kind) opens ≡ 0)
      write_or kinds.Nothing f = inl refl
      write_or kinds.Outside f = inl refl
      write_or (kinds.File object) f = inl refl
      write_or (kinds.PipeRead pipe) f = inl refl
      write_or (kinds.PairEnd pair end) f = inl refl
      write_or (kinds.PipeWrite pipe) f = by_number (cases_eq pipe p.number)
        where
          by_number : (pipe ≡ p.number) ⊎ (pipe ≡ p.number → ⊥) → (writes_pipe p.number (kinds.PipeWrite pipe) ≡ false) ⊎ (count_by (λ x. writes_pipe p.number x.kind) opens ≡ 0)
          by_number (inl same) = inr (subst (λ n. count_by (λ (x : Open). writes_pipe n x.kind) opens ≡ 0) same f)
          by_number (inr other) = inl (ne_eqb pipe p.number other)

  pair_ends_more : (k : OpenKind) → o.kind ≡ k → EndIsFree opens k → (p : Pair) → PairEndsOnce opens p → PairEndsOnce more p
  unfolding PairEndsOnce pair_ends
  pair_ends_more k is free p valid = (side 0 valid.0, side 1 valid.1)
    where
      and_false : (a b : Bool) → b ≡ false → (a && b) ≡ false
      and_false true b e = e
      and_false false b e = refl

      end_or : (s : ℕ) (k : OpenKind) → EndIsFree opens k → (is_pair_end p.number s k ≡ false) ⊎ (count_by (λ x. is_pair_end p.number s x.kind) opens ≡ 0)
      end_or s kinds.Nothing f = inl refl
      end_or s kinds.Outside f = inl refl
      end_or s (kinds.File object) f = inl refl
      end_or s (kinds.PipeRead pipe) f = inl refl
      end_or s (kinds.PipeWrite pipe) f = inl refl
      end_or s (kinds.PairEnd pair end) f = by_number (cases_eq pair p.number) (cases_eq end s)
        where
          by_number : (pair ≡ p.number) ⊎ (pair ≡ p.number → ⊥) → (end ≡ s) ⊎ (end ≡ s → ⊥) → (is_pair_end p.number s (kinds.PairEnd pair end) ≡ false) ⊎ (count_by (λ x. is_pair_end p.number s x.kind) opens ≡ 0)
          by_number (inl same) (inl also) = inr (subst (λ n. count_by (λ (x : Open). is_pair_end n s x.kind) opens ≡ 0) same (subst (λ e. count_by (λ (x : Open). is_pair_end pair e x.kind) opens ≡ 0) also f))
          by_number (inr other) either = inl (rw (ne_eqb pair p.number other) refl)
          by_number (inl same) (inr other) = inl (and_false (pair == p.number) (end == s) (ne_eqb end s other))

      side : (s : ℕ) → count_by (λ x. is_pair_end p.number s x.kind) opens ≤ 1 → count_by (λ x. is_pair_end p.number s x.kind) more ≤ 1
      side s le = by_either (end_or s k free)
        where
          by_either : (is_pair_end p.number s k ≡ false) ⊎ (count_by (λ x. is_pair_end p.number s x.kind) opens ≡ 0) → count_by (λ x. is_pair_end p.number s x.kind) more ≤ 1
          by_either (inl fail) = let same = one_more (λ x. is_pair_end p.number s x.kind) opens o (ap (is_pair_end p.number s) is ∙ fail) in omega (arith, same, le)
          by_either (inr none) = first_one (λ x. is_pair_end p.number s x.kind) opens o none

-- one more description is sound
pub open_sound : (g : Group) (kind : OpenKind) (flags : ℕ) → length g.frame.opens < 1024 → g.frame.next.descr + 1 < 2 ^ 64 → EndIsFree g.frame.opens kind → PositionValid kind 0 flags → TargetIsThere g.frame.files g.frame.pipes g.frame.pairs kind → GroupIsSound g → GroupIsSound (with_open g kind flags)
unfolding DescriptorsValid IsOpen CarriedValid CanBeCarried NextFits
open_sound g kind flags room next free position target s =
    let f = g.frame in
    let o : Open = record { number = f.next.descr; kind = kind; offset = 0; flags = flags } in
    record {
      frame = record {
        procs = s.frame.procs;
        maps = s.frame.maps;
        names = record {
          fds = λ k d lt i e lt'. any_append_left (λ x. x.number ≡ (get_or (get_or f.procs k d).fds i e).1) f.opens (o ∷ []) (s.frame.names.fds k d lt i e lt');
          carried = λ k d lt. (queue (get_or f.pairs k d).to0 (s.frame.names.carried k d lt).0, queue (get_or f.pairs k d).to1 (s.frame.names.carried k d lt).1);
        };
        opens = record {
          count = let size = length_push f.opens o in omega (arith, size, room);
          rise = rise_push (λ x. x.number) f.opens o s.frame.opens.rise s.frame.opens.below;
          below = All-push (λ x. x.number < f.next.descr + 1) f.opens o (All-weaker (λ x. x.number < f.next.descr) (λ x. x.number < f.next.descr + 1) (λ x lt. omega (arith, lt)) f.opens s.frame.opens.below) (omega arith);
          positions = All-push (λ x. PositionValid x.kind x.offset x.flags) f.opens o s.frame.opens.positions position;
          targets = All-push (λ x. TargetIsThere f.files f.pipes f.pairs x.kind) f.opens o s.frame.opens.targets target;
        };
        pipes = record { count = s.frame.pipes.count; rise = s.frame.pipes.rise; below = s.frame.pipes.below; ends = All-weaker (PipeEndsOnce f.opens) (PipeEndsOnce (f.opens ++ o ∷ [])) (pipe_ends f.opens o free kind refl free) f.pipes s.frame.pipes.ends; sizes = s.frame.pipes.sizes; bytes = s.frame.pipes.bytes };
        pairs = record { count = s.frame.pairs.count; rise = s.frame.pairs.rise; below = s.frame.pairs.below; ends = All-weaker (PairEndsOnce f.opens) (PairEndsOnce (f.opens ++ o ∷ [])) (pair_ends_more f.opens o free kind refl free) f.pairs s.frame.pairs.ends; sizes = s.frame.pairs.sizes; bytes = s.frame.pairs.bytes };
        objects = s.frame.objects;
        files = s.frame.files;
        out = s.frame.out;
        next = (let n = s.frame.next.0 in (n.0, next, n.2, n.3), s.frame.next.1, s.frame.next.2);
      };
      memory = s.memory;
    }
  where
    queue : (messages : List Message) → All (λ m. All (λ n. Any (λ o. (o.number ≡ n) × (is_end o.kind ≡ false)) g.frame.opens) m.opens) messages → All (λ m. All (λ n. Any (λ o. (o.number ≡ n) × (is_end o.kind ≡ false)) (g.frame.opens ++ record { number = g.frame.next.descr; kind = kind; offset = 0; flags = flags } ∷ [])) m.opens) messages
    queue messages all j m lt i n lt' = any_append_left (λ o. (o.number ≡ get_or (get_or messages j m).opens i n) × (is_end o.kind ≡ false)) g.frame.opens (record { number = g.frame.next.descr; kind = kind; offset = 0; flags = flags } ∷ []) (all j m lt i n lt')

-- What is held stays held beside one more description.
module _ (procs : List Proc) (opens : List Open) (o : Open) where
  reader_more : (n : ℕ) → has_reader opens n ≡ true → has_reader (opens ++ o ∷ []) n ≡ true
  unfolding has_reader
  reader_more n e = list_any-append (λ x. reads_pipe n x.kind) opens (o ∷ []) ∙ or_left (list_any (λ x. reads_pipe n x.kind) opens) (list_any (λ x. reads_pipe n x.kind) (o ∷ [])) e

  writer_more : (n : ℕ) → has_writer opens n ≡ true → has_writer (opens ++ o ∷ []) n ≡ true
  unfolding has_writer
  writer_more n e = list_any-append (λ x. writes_pipe n x.kind) opens (o ∷ []) ∙ or_left (list_any (λ x. writes_pipe n x.kind) opens) (list_any (λ x. writes_pipe n x.kind) (o ∷ [])) e

  end_more : (n side : ℕ) → is_end_held procs opens n side ≡ true → is_end_held procs (opens ++ o ∷ []) n side ≡ true
  unfolding is_end_held
  end_more n side e = list_any-append (λ x. is_pair_end n side x.kind && list_any (is_at x.number) procs) opens (o ∷ []) ∙ or_left (list_any (λ x. is_pair_end n side x.kind && list_any (is_at x.number) procs) opens) (list_any (λ x. is_pair_end n side x.kind && list_any (is_at x.number) procs) (o ∷ [])) e

  -- a test that is false now was false before
  was_false : (a b : Bool) → (a ≡ true → b ≡ true) → b ≡ false → a ≡ false
  was_false true b more gone = absurd (let now = more refl in cc)
  was_false false b more gone = refl

  either_more : (a b c d : Bool) → (a ≡ true → c ≡ true) → (b ≡ true → d ≡ true) → (a || b) ≡ true → (c || d) ≡ true
  either_more true b c d first second e = rw (first refl) refl
  either_more false b c d first second e = or_right c d (second e)

  pipe_more : (p : Pipe) → PipeHeld opens p → PipeHeld (opens ++ o ∷ []) p
  unfolding PipeHeld
  pipe_more p held = (either_more (has_reader opens p.number) (has_writer opens p.number) (has_reader (opens ++ o ∷ []) p.number) (has_writer (opens ++ o ∷ []) p.number) (reader_more p.number) (writer_more p.number) held.0, λ gone. held.1 (was_false (has_reader opens p.number) (has_reader (opens ++ o ∷ []) p.number) (reader_more p.number) gone))

  pair_more : (p : Pair) → PairHeld procs opens p → PairHeld procs (opens ++ o ∷ []) p
  unfolding PairHeld
  pair_more p held = (
    either_more (is_end_held procs opens p.number 0) (is_end_held procs opens p.number 1) (is_end_held procs (opens ++ o ∷ []) p.number 0) (is_end_held procs (opens ++ o ∷ []) p.number 1) (end_more p.number 0) (end_more p.number 1) held.0,
    λ gone. held.1 (was_false (is_end_held procs opens p.number 0) (is_end_held procs (opens ++ o ∷ []) p.number 0) (end_more p.number 0) gone),
    λ gone. held.2 (was_false (is_end_held procs opens p.number 1) (is_end_held procs (opens ++ o ∷ []) p.number 1) (end_more p.number 1) gone),
  )

pub open_held : (g : Group) (o : Open) → is_held g.frame.procs g.frame.pairs o.number ≡ true → AllHeld g.frame → AllHeld (record g.frame { opens = g.frame.opens ++ o ∷ [] })
open_held g o held h =
    let f = g.frame in
    record {
      opens = All-push (λ x. IsTrue (is_held f.procs f.pairs x.number)) f.opens o h.opens held;
      objects = h.objects;
      pipes = All-weaker (PipeHeld f.opens) (PipeHeld (f.opens ++ o ∷ [])) (pipe_more f.procs f.opens o) f.pipes h.pipes;
      pairs = All-weaker (PairHeld f.procs f.opens) (PairHeld f.procs (f.opens ++ o ∷ [])) (pair_more f.procs f.opens o) f.pairs h.pairs;
    }

-- no description is an end of the next pipe
pub no_ends : (g : Group) → GroupIsSound g → (readers g.frame.opens g.frame.next.pipe ≡ 0) × (writers g.frame.opens g.frame.next.pipe ≡ 0)
unfolding readers writers
no_ends g s = (count (λ k. reads_pipe g.frame.next.pipe k) reads, count (λ k. writes_pipe g.frame.next.pipe k) writes)
  where
    there : (pipe : ℕ) → Any (λ p. p.number ≡ pipe) g.frame.pipes → pipe < g.frame.next.pipe
    there pipe any = of_any (any_all (λ p. p.number ≡ pipe) (λ p. p.number < g.frame.next.pipe) g.frame.pipes any s.frame.pipes.below)
      where
        of_any : Any (λ p. (p.number ≡ pipe) × (p.number < g.frame.next.pipe)) g.frame.pipes → pipe < g.frame.next.pipe
        of_any (k, p, lt, is, both) = let same = both.0 in let less = both.1 in omega (arith, same, less)

    reads : (k : OpenKind) → TargetIsThere g.frame.files g.frame.pipes g.frame.pairs k → reads_pipe g.frame.next.pipe k ≡ false
    reads (kinds.PipeRead pipe) t = let lt = there pipe t in ne_eqb pipe g.frame.next.pipe (λ same. omega (arith, lt, same))
    reads kinds.Nothing t = refl
    reads kinds.Outside t = refl
    reads (kinds.File object) t = refl
    reads (kinds.PipeWrite pipe) t = refl
    reads (kinds.PairEnd pair end) t = refl

    writes : (k : OpenKind) → TargetIsThere g.frame.files g.frame.pipes g.frame.pairs k → writes_pipe g.frame.next.pipe k ≡ false
    writes (kinds.PipeWrite pipe) t = let lt = there pipe t in ne_eqb pipe g.frame.next.pipe (λ same. omega (arith, lt, same))
    writes kinds.Nothing t = refl
    writes kinds.Outside t = refl
    writes (kinds.File object) t = refl
    writes (kinds.PipeRead pipe) t = refl
    writes (kinds.PairEnd pair end) t = refl

    count : (q : OpenKind → Bool) → ((k : OpenKind) → TargetIsThere g.frame.files g.frame.pipes g.frame.pairs k → q k ≡ false) → count_by (λ o. q o.kind) g.frame.opens ≡ 0
    count q none = sym (length-filter (λ o. q o.kind) g.frame.opens) ∙ ap length (filter_none (λ o. q o.kind) g.frame.opens (λ k d lt. none (get_or g.frame.opens k d).kind (s.frame.opens.targets k d lt)))

-- a pipe without ends is sound
pub new_pipe_sound : (g : Group) → length g.frame.pipes < 256 → g.frame.next.pipe + 1 < 2 ^ 64 → GroupIsSound g → GroupIsSound (with_new_pipe g)
unfolding NextFits PipeEndsOnce readers writers AreBytes
new_pipe_sound g room next s =
    let f = g.frame in
    let p : Pipe = record { number = f.next.pipe; bytes = [] } in
    let none = no_ends g s in
    record {
      frame = record {
        procs = s.frame.procs;
        maps = s.frame.maps;
        names = s.frame.names;
        opens = record { count = s.frame.opens.count; rise = s.frame.opens.rise; below = s.frame.opens.below; positions = s.frame.opens.positions; targets = λ k d lt. target (get_or f.opens k d).kind (s.frame.opens.targets k d lt) };
        pipes = record {
          count = let size = length_push f.pipes p in omega (arith, size, room);
          rise = rise_push (λ x. x.number) f.pipes p s.frame.pipes.rise s.frame.pipes.below;
          below = All-push (λ x. x.number < f.next.pipe + 1) f.pipes p (All-weaker (λ x. x.number < f.next.pipe) (λ x. x.number < f.next.pipe + 1) (λ x lt. omega (arith, lt)) f.pipes s.frame.pipes.below) (omega arith);
          ends = All-push (PipeEndsOnce f.opens) f.pipes p s.frame.pipes.ends (let r = none.0 in let w = none.1 in (omega (arith, r), omega (arith, w)));
          sizes = All-push (λ x. length x.bytes ≤ 65536) f.pipes p s.frame.pipes.sizes (omega arith);
          bytes = All-push (λ x. AreBytes x.bytes) f.pipes p s.frame.pipes.bytes (λ k d lt. absurd (omega (arith, lt)));
        };
        pairs = s.frame.pairs;
        objects = s.frame.objects;
        files = s.frame.files;
        out = s.frame.out;
        next = (let n = s.frame.next.0 in (n.0, n.1, next, n.3), s.frame.next.1, s.frame.next.2);
      };
      memory = s.memory;
    }
  where
    target : (k : OpenKind) → TargetIsThere g.frame.files g.frame.pipes g.frame.pairs k → TargetIsThere g.frame.files (with_new_pipe g).frame.pipes g.frame.pairs k
    target kinds.Nothing t = t
    target kinds.Outside t = t
    target (kinds.File object) t = t
    target (kinds.PipeRead pipe) t = any_append_left (λ x. x.number ≡ pipe) g.frame.pipes (record { number = g.frame.next.pipe; bytes = [] } ∷ []) t
    target (kinds.PipeWrite pipe) t = any_append_left (λ x. x.number ≡ pipe) g.frame.pipes (record { number = g.frame.next.pipe; bytes = [] } ∷ []) t
    target (kinds.PairEnd pair end) t = t
