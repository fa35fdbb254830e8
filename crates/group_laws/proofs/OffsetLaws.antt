-- A description with another offset, and the call lseek.
use Rattle.std.proofs.Common.{◌≡◌, ℕ, ◌+◌, ◌-◌, ◌^◌, ◌<◌, Bool, true, false, ◌&&◌, ◌==◌, List, get_or, Option, Some, None, refl, ap, sym, ◌∙◌, subst, arith}
use Rattle.std.specs.Prelude.{All, Any, find, if◌then◌else◌, IsTrue, nat_lt}
use Rattle.std.specs.List.{list_any}
use Rattle.std.proofs.lemmas.Bool.{ltb-true}
use Rattle.std.proofs.lemmas.List.Elements.{All-weaker}
use Rattle.descriptors.specs.Descriptors.{number_at}
use Rattle.descriptors.specs.declared.opens.Open.{Open}
use Rattle.descriptors.specs.declared.opens.OpenKind.{OpenKind}
use Rattle.descriptors.specs.declared.opens.OpenKind.TheVariants as kinds
use Rattle.descriptors.specs.EntryLaws.{entry_has}
use Rattle.group_defs.specs.Calls.{fd_of}
use Rattle.group_defs.specs.Changes.{open_at, with_offset, with_opens}
use Rattle.group_defs.specs.DescriptorCalls.{lseek, lseek_kind, lseek_open, lseek_to, moved_by, when_small}
use Rattle.group_defs.specs.Descriptions.{CanBeCarried, CarriedValid, DescriptorsValid, IsOpen, PositionValid, is_end}
use Rattle.group_defs.specs.Group.{Group, is_runner}
use Rattle.group_defs.specs.Held.{has_reader, has_writer, is_at, is_end_held, is_held}
use Rattle.group_defs.specs.Streams.{PairEndsOnce, PipeEndsOnce, is_pair_end, pair_ends, readers, reads_pipe, writers, writes_pipe}
use Rattle.group_defs.specs.Valid.{GroupIsValid, NamesSound, PairHeld, PipeHeld, TargetIsThere}
use Rattle.group_defs.specs.declared.frame.Proc.{Proc}
use Rattle.pipes_socks.specs.declared.streams.Message.{Message}
use Rattle.pipes_socks.specs.declared.streams.Pair.{Pair}
use Rattle.pipes_socks.specs.declared.streams.Pipe.{Pipe}
use Rattle.rv64_isa.specs.Registers.{a1, a2}
use Rattle.rv64_isa.specs.declared.regs.Regs.{Regs}
use Rattle.tables.specs.Rising.{entry_of}
use Rattle.group_laws.proofs.DescriptorCallLaws.{if_keeps, nothing_stored}
use Rattle.group_laws.proofs.Lists.{on_first_all, on_first_any, on_first_count, on_first_length, on_first_list_any, on_first_rise}
use Rattle.group_laws.proofs.ReplyLaws.{ReplyKeeps, maps_no_file}

-- the entry that a descriptor is at
pub open_found : (fds : List (ℕ × ℕ)) (opens : List Open) (fd : ℕ) (o : Open) → open_at fds opens fd ≡ Some o → entry_of (λ x. x.number) opens o.number ≡ Some o
open_found fds opens fd o e = by_number (number_at fds fd) e
  where
    by_number : (n : Option ℕ) → elim n [ None ↦ None | Some number ↦ entry_of (λ x. x.number) opens number ] ≡ Some o → entry_of (λ x. x.number) opens o.number ≡ Some o
    by_number None e = absurd (cc)
    by_number (Some n) e = ap (entry_of (λ x. x.number) opens) (entry_has (λ x. x.number) opens n o e) ∙ e

module _ (opens : List Open) (number offset : ℕ) where
  abbrev t : Open → Bool
  t o = o.number == number

  abbrev f : Open → Open
  f o = record o { offset = offset }

  abbrev after : List Open
  after = with_offset opens number offset

  same_any : (q : Open → Bool) → ((o : Open) → q (f o) ≡ q o) → list_any q after ≡ list_any q opens
  same_any q same = on_first_list_any t f q same opens

  names_moved : (procs : List Proc) (pairs : List Pair) → NamesSound procs pairs opens → NamesSound procs pairs after
  unfolding DescriptorsValid IsOpen CarriedValid CanBeCarried
  names_moved procs pairs s = record {
    fds = λ k d lt i e lt'. on_first_any t f (λ o. o.number ≡ (get_or (get_or procs k d).fds i e).1) opens (λ o found is. is) (s.fds k d lt i e lt');
    carried = λ k d lt. (queue (get_or pairs k d).to0 (s.carried k d lt).0, queue (get_or pairs k d).to1 (s.carried k d lt).1);
  }
    where
      queue : (messages : List Message) → All (λ m. All (λ n. Any (λ o. (o.number ≡ n) × (is_end o.kind ≡ false)) opens) m.opens) messages → All (λ m. All (λ n. Any (λ o. (o.number ≡ n) × (is_end o.kind ≡ false)) after) m.opens) messages
      queue messages all j m lt i n lt' = on_first_any t f (λ o. (o.number ≡ get_or (get_or messages j m).opens i n) × (is_end o.kind ≡ false)) opens (λ o found is. is) (all j m lt i n lt')

  pipe_moved : (p : Pipe) → PipeEndsOnce opens p → PipeEndsOnce after p
  unfolding PipeEndsOnce readers writers
  pipe_moved p valid =
      let r = on_first_count t f (λ o. reads_pipe p.number o.kind) (λ o. refl) opens in
      let w = on_first_count t f (λ o. writes_pipe p.number o.kind) (λ o. refl) opens in
      let v0 = valid.0 in let v1 = valid.1 in (omega (arith, r, v0), omega (arith, w, v1))

  pair_moved : (p : Pair) → PairEndsOnce opens p → PairEndsOnce after p
  unfolding PairEndsOnce pair_ends
  pair_moved p valid =
      let r = on_first_count t f (λ o. is_pair_end p.number 0 o.kind) (λ o. refl) opens in
      let w = on_first_count t f (λ o. is_pair_end p.number 1 o.kind) (λ o. refl) opens in
      let v0 = valid.0 in let v1 = valid.1 in (omega (arith, r, v0), omega (arith, w, v1))

  pipe_held : (p : Pipe) → PipeHeld opens p → PipeHeld after p
  unfolding PipeHeld has_reader has_writer
  pipe_held p held =
      let r = same_any (λ o. reads_pipe p.number o.kind) (λ o. refl) in
      let w = same_any (λ o. writes_pipe p.number o.kind) (λ o. refl) in
      (rw r (rw w held.0), λ gone. held.1 (sym r ∙ gone))

  pair_held : (procs : List Proc) (p : Pair) → PairHeld procs opens p → PairHeld procs after p
  unfolding PairHeld is_end_held
  pair_held procs p held =
      let zero_same = same_any (λ o. is_pair_end p.number 0 o.kind && list_any (is_at o.number) procs) (λ o. refl) in
      let one_same = same_any (λ o. is_pair_end p.number 1 o.kind && list_any (is_at o.number) procs) (λ o. refl) in
      (rw zero_same (rw one_same held.0), λ gone. held.1 (sym zero_same ∙ gone), λ gone. held.2 (sym one_same ∙ gone))

-- a file's description at another offset
pub moved_valid : (g : Group) (o : Open) (object offset : ℕ) → entry_of (λ x. x.number) g.frame.opens o.number ≡ Some o → o.kind ≡ kinds.File object → offset < 2 ^ 63 → GroupIsValid g → GroupIsValid (with_opens g (with_offset g.frame.opens o.number offset))
moved_valid g o object offset found is lt v =
    let s = v.sound in
    let f = g.frame in
    let n : ℕ = o.number in
    record {
      sound = record {
        frame = record {
          procs = s.frame.procs;
          maps = s.frame.maps;
          names = names_moved f.opens n offset f.procs f.pairs s.frame.names;
          opens = record {
            count = let old = s.frame.opens.count in omega (arith, old, on_first_length (λ x. x.number == n) (λ x. record x { offset = offset }) f.opens);
            rise = on_first_rise (λ x. x.number == n) (λ x. record x { offset = offset }) (λ x. x.number) f.opens (λ x. refl) s.frame.opens.rise;
            below = on_first_all (λ x. x.number == n) (λ x. record x { offset = offset }) (λ x. x.number < f.next.descr) f.opens (λ x e old. old) s.frame.opens.below;
            positions = on_first_all (λ x. x.number == n) (λ x. record x { offset = offset }) (λ x. PositionValid x.kind x.offset x.flags) f.opens position s.frame.opens.positions;
            targets = on_first_all (λ x. x.number == n) (λ x. record x { offset = offset }) (λ x. TargetIsThere f.files f.pipes f.pairs x.kind) f.opens (λ x e old. old) s.frame.opens.targets;
          };
          pipes = record { count = s.frame.pipes.count; rise = s.frame.pipes.rise; below = s.frame.pipes.below; ends = All-weaker (PipeEndsOnce f.opens) (PipeEndsOnce (with_offset f.opens n offset)) (pipe_moved f.opens n offset) f.pipes s.frame.pipes.ends; sizes = s.frame.pipes.sizes; bytes = s.frame.pipes.bytes };
          pairs = record { count = s.frame.pairs.count; rise = s.frame.pairs.rise; below = s.frame.pairs.below; ends = All-weaker (PairEndsOnce f.opens) (PairEndsOnce (with_offset f.opens n offset)) (pair_moved f.opens n offset) f.pairs s.frame.pairs.ends; sizes = s.frame.pairs.sizes; bytes = s.frame.pairs.bytes };
          objects = s.frame.objects;
          files = s.frame.files;
          out = s.frame.out;
          next = s.frame.next;
        };
        memory = s.memory;
      };
      held = record {
        opens = on_first_all (λ x. x.number == n) (λ x. record x { offset = offset }) (λ x. IsTrue (is_held f.procs f.pairs x.number)) f.opens (λ x e old. old) v.held.opens;
        objects = v.held.objects;
        pipes = All-weaker (PipeHeld f.opens) (PipeHeld (with_offset f.opens n offset)) (pipe_held f.opens n offset) f.pipes v.held.pipes;
        pairs = All-weaker (PairHeld f.procs f.opens) (PairHeld f.procs (with_offset f.opens n offset)) (pair_held f.opens n offset f.procs) f.pairs v.held.pairs;
      };
    }
  where
    position : (x : Open) → find (λ y. y.number == o.number) g.frame.opens ≡ Some x → PositionValid x.kind x.offset x.flags → PositionValid x.kind offset x.flags
    position x e old =
        let both : Some o ≡ Some x = sym found ∙ e in
        let same : o ≡ x = cc in
        let kind : x.kind ≡ kinds.File object = ap (λ y. y.kind) (sym same) ∙ is in
        subst (λ k. PositionValid k offset x.flags) (sym kind) (lt, (subst (λ k. PositionValid k x.offset x.flags) kind old).1)

module _ (g : Group) (p : Proc) (found : find (is_runner p.pid) g.frame.procs ≡ Some p) (v : GroupIsValid g) where
  lseek_to_keeps : (o : Open) (object : ℕ) → entry_of (λ x. x.number) g.frame.opens o.number ≡ Some o → o.kind ≡ kinds.File object → (place : Option ℕ) → ((n : ℕ) → place ≡ Some n → n < 2 ^ 63) → ReplyKeeps p (lseek_to g o.number place)
  lseek_to_keeps o object at is None fits = (omega arith, omega arith)
  lseek_to_keeps o object at is (Some n) fits = let lt = fits n refl in record {
    value_fits = omega (arith, lt);
    valid = moved_valid g o object n at is lt v;
    caller = p;
    runs = found;
    bytes = nothing_stored;
    no_file = maps_no_file g p found v;
  }

  small : (n m : ℕ) → when_small n ≡ Some m → m < 2 ^ 63
  small n m e = by_test (nat_lt n (2 ^ 63)) refl e
    where
      by_test : (b : Bool) → nat_lt n (2 ^ 63) ≡ b → (if b then Some n else None) ≡ Some m → m < 2 ^ 63
      by_test true is e = let same : n ≡ m = cc in let lt = ltb-true n (2 ^ 63) is in omega (arith, lt, same)
      by_test false is e = absurd (cc)

  moved_small : (base off m : ℕ) → moved_by base off ≡ Some m → m < 2 ^ 63
  moved_small base off m e = by_tests (nat_lt off (2 ^ 63)) (nat_lt (base + off) (2 ^ 64)) e
    where
      by_tests : (a b : Bool) → (if a then when_small (base + off) else if b then None else when_small (base + off - 2 ^ 64)) ≡ Some m → m < 2 ^ 63
      by_tests true b e = small (base + off) m e
      by_tests false true e = absurd (cc)
      by_tests false false e = small (base + off - 2 ^ 64) m e

  kind_keeps : (r : Regs) (o : Open) → entry_of (λ x. x.number) g.frame.opens o.number ≡ Some o → (k : OpenKind) → o.kind ≡ k → ReplyKeeps p (lseek_kind g r o k)
  kind_keeps r o at kinds.Nothing is = (omega arith, omega arith)
  kind_keeps r o at kinds.Outside is = (omega arith, omega arith)
  kind_keeps r o at (kinds.PipeRead pipe) is = (omega arith, omega arith)
  kind_keeps r o at (kinds.PipeWrite pipe) is = (omega arith, omega arith)
  kind_keeps r o at (kinds.PairEnd pair end) is = (omega arith, omega arith)
  kind_keeps r o at (kinds.File object) is =
      if_keeps p (a2 r == 0) _ _ (λ e. lseek_to_keeps o object at is _ (λ m e. moved_small 0 (a1 r) m e)) (λ e.
      if_keeps p (a2 r == 1) _ _ (λ e. lseek_to_keeps o object at is _ (λ m e. moved_small o.offset (a1 r) m e)) (λ e.
      if_keeps p (a2 r == 2) _ _ (λ e. lseek_to_keeps o object at is _ (λ m e. moved_small _ (a1 r) m e)) (λ e. (omega arith, omega arith))))

  pub lseek_keeps : (r : Regs) → ReplyKeeps p (lseek g p r)
  lseek_keeps r = by_open (open_at p.fds g.frame.opens (fd_of r)) refl
    where
      by_open : (o : Option Open) → open_at p.fds g.frame.opens (fd_of r) ≡ o → ReplyKeeps p (lseek_open g r o)
      by_open None e = (omega arith, omega arith)
      by_open (Some o) e = kind_keeps r o (open_found p.fds g.frame.opens (fd_of r) o e) o.kind refl
