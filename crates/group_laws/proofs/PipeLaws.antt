-- Reading and writing a pipe, and writing to the outside, keep a group valid.
use Rattle.std.proofs.Common.{◌≡◌, ℕ, ◌^◌, ◌<◌, ◌≤◌, Bool, true, ◌==◌, not, min, List, [], ◌++◌, length, take, drop, get_or, Option, Some, None, refl, ap, ◌∙◌, arith}
use Rattle.std.specs.Prelude.{All, Any, find}
use Rattle.std.proofs.lemmas.Bool.{both_ways, not-false}
use Rattle.std.proofs.lemmas.List.{length-append, length-drop}
use Rattle.descriptors.specs.EntryLaws.{entry_has}
use Rattle.descriptors.specs.declared.opens.OpenKind.{OpenKind}
use Rattle.descriptors.specs.declared.opens.OpenKind.TheVariants as kinds
use Rattle.group_defs.specs.Calls.{stores}
use Rattle.group_defs.specs.Cells.{sight}
use Rattle.group_defs.specs.Changes.{with_pipes}
use Rattle.group_defs.specs.Group.{Group, is_runner}
use Rattle.group_defs.specs.Held.{has_reader, has_writer}
use Rattle.lists.specs.Bytes.{AreBytes}
use Rattle.group_defs.specs.Output.{last_position, room, with_output}
use Rattle.group_defs.specs.PipeCalls.{pipe_room, push, read_pipe, write_pipe}
use Rattle.group_defs.specs.ReadWrite.{put_outside, write_outside}
use Rattle.group_defs.specs.Streams.{PipeEndsOnce}
use Rattle.group_defs.specs.Valid.{GroupIsValid, OutValid, PipeHeld, TargetIsThere}
use Rattle.group_defs.specs.declared.frame.Proc.{Proc}
use Rattle.pipes_socks.specs.Pipes.{pipe_bytes, pipe_of, waits_for_room, with_pipe_bytes}
use Rattle.pipes_socks.specs.declared.streams.Pipe.{Pipe}
use Rattle.rv64_isa.specs.Memory.{Write, can_write, readable}
use Rattle.group_laws.proofs.ByteLaws.{append_fit, drop_fit, one_store, read_fits, take_fit}
use Rattle.group_laws.proofs.DescriptorCallLaws.{if_keeps, nothing_stored}
use Rattle.group_laws.proofs.Lists.{found_all, on_first_all, on_first_any, on_first_length, on_first_rise}
use Rattle.group_laws.proofs.PartLaws.{out_valid}
use Rattle.group_laws.proofs.ReplyLaws.{Keeps, ReplyKeeps, maps_no_file, same_keeps}

-- the target of a description stays where its pipe does
target_kept : (g : Group) (pipes : List Pipe) → ((n : ℕ) → Any (λ p. p.number ≡ n) g.frame.pipes → Any (λ p. p.number ≡ n) pipes) → (k : OpenKind) → TargetIsThere g.frame.files g.frame.pipes g.frame.pairs k → TargetIsThere g.frame.files pipes g.frame.pairs k
target_kept g pipes more kinds.Nothing t = t
target_kept g pipes more kinds.Outside t = t
target_kept g pipes more (kinds.File object) t = t
target_kept g pipes more (kinds.PipeRead pipe) t = more pipe t
target_kept g pipes more (kinds.PipeWrite pipe) t = more pipe t
target_kept g pipes more (kinds.PairEnd pair end) t = t

-- a pipe that can be read holds other bytes
pub pipe_bytes_valid : (g : Group) (pipe : ℕ) (bytes : List ℕ) → has_reader g.frame.opens pipe ≡ true → length bytes ≤ 65536 → AreBytes bytes → GroupIsValid g → GroupIsValid (with_pipes g (with_pipe_bytes g.frame.pipes pipe bytes))
unfolding PipeEndsOnce PipeHeld
pipe_bytes_valid g pipe bytes reader most fit v =
    let s = v.sound in
    let f = g.frame in
    let t : Pipe → Bool = λ p. p.number == pipe in
    let change : Pipe → Pipe = λ p. record { number = p.number; bytes = bytes } in
    record {
      sound = record {
        frame = record {
          procs = s.frame.procs;
          maps = s.frame.maps;
          names = s.frame.names;
          opens = record { count = s.frame.opens.count; rise = s.frame.opens.rise; below = s.frame.opens.below; positions = s.frame.opens.positions; targets = λ k d lt. target_kept g (with_pipe_bytes f.pipes pipe bytes) (λ n any. on_first_any t change (λ p. p.number ≡ n) f.pipes (λ p e is. is) any) (get_or f.opens k d).kind (s.frame.opens.targets k d lt) };
          pipes = record {
            count = let old = s.frame.pipes.count in omega (arith, old, on_first_length t change f.pipes);
            rise = on_first_rise t change (λ p. p.number) f.pipes (λ p. refl) s.frame.pipes.rise;
            below = on_first_all t change (λ p. p.number < f.next.pipe) f.pipes (λ p e old. old) s.frame.pipes.below;
            ends = on_first_all t change (PipeEndsOnce f.opens) f.pipes (λ p e old. old) s.frame.pipes.ends;
            sizes = on_first_all t change (λ p. length p.bytes ≤ 65536) f.pipes (λ p e old. most) s.frame.pipes.sizes;
            bytes = on_first_all t change (λ p. AreBytes p.bytes) f.pipes (λ p e old. fit) s.frame.pipes.bytes;
          };
          pairs = s.frame.pairs;
          objects = s.frame.objects;
          files = s.frame.files;
          out = s.frame.out;
          next = s.frame.next;
        };
        memory = s.memory;
      };
      held = record {
        opens = v.held.opens;
        objects = v.held.objects;
        pipes = on_first_all t change (PipeHeld f.opens) f.pipes (λ p e old. (old.0, λ gone. absurd (both_ways (has_reader f.opens p.number) gone (ap (has_reader f.opens) (entry_has (λ q. q.number) f.pipes pipe p e) ∙ reader)))) v.held.pipes;
        pairs = v.held.pairs;
      };
    }

-- what a pipe holds
pub record Holds (bytes : List ℕ) : Type 0 where
  pub most : length bytes ≤ 65536
  pub fit : AreBytes bytes

pub pipe_holds : (g : Group) (pipe : ℕ) → GroupIsValid g → Holds (pipe_bytes g.frame.pipes pipe)
unfolding AreBytes
pipe_holds g pipe v = by_entry (pipe_of g.frame.pipes pipe) refl
  where
    by_entry : (o : Option Pipe) → find (λ p. p.number == pipe) g.frame.pipes ≡ o → Holds (elim o [ None ↦ [] | Some p ↦ p.bytes ])
    by_entry None e = record { most = omega arith; fit = λ k d lt. absurd (omega (arith, lt)) }
    by_entry (Some p) e = record { most = found_all (λ p. p.number == pipe) (λ p. length p.bytes ≤ 65536) g.frame.pipes p e v.sound.frame.pipes.sizes; fit = found_all (λ p. p.number == pipe) (λ p. AreBytes p.bytes) g.frame.pipes p e v.sound.frame.pipes.bytes }

module _ (g : Group) (p : Proc) (found : find (is_runner p.pid) g.frame.procs ≡ Some p) (v : GroupIsValid g) where
  pipe_keeps : (value pipe : ℕ) (bytes : List ℕ) (writes : List Write) → value < 2 ^ 64 → has_reader g.frame.opens pipe ≡ true → length bytes ≤ 65536 → AreBytes bytes → All (λ w. AreBytes w.bytes) writes → Keeps p value (with_pipes g (with_pipe_bytes g.frame.pipes pipe bytes)) writes
  pipe_keeps value pipe bytes writes lt reader most fit stored = record { value_fits = lt; valid = pipe_bytes_valid g pipe bytes reader most fit v; caller = p; runs = found; bytes = stored; no_file = maps_no_file g p found v }

  pub read_pipe_keeps : (pipe buf n : ℕ) → has_reader g.frame.opens pipe ≡ true → ReplyKeeps p (read_pipe g (sight g p) pipe buf n)
  read_pipe_keeps pipe buf n reader =
      let held : List ℕ = pipe_bytes g.frame.pipes pipe in
      let holds = pipe_holds g pipe v in
      if_keeps p (n == 0) _ _ (λ e. same_keeps g p 0 [] found v (omega arith) nothing_stored) (λ e.
      if_keeps p (length held == 0) _ _ (λ e. if_keeps p (has_writer g.frame.opens pipe) _ _ (λ w. tt) (λ w. same_keeps g p 0 [] found v (omega arith) nothing_stored)) (λ e.
      if_keeps p (not (can_write (sight g p) buf (min n (length held)))) _ _ (λ e. (omega arith, omega arith)) (λ e.
      let most = holds.most in
      pipe_keeps (min n (length held)) pipe (drop (min n (length held)) held) (stores buf (take (min n (length held)) held)) (omega (arith, most)) reader (omega (arith, most, length-drop (min n (length held)) held)) (drop_fit (min n (length held)) held holds.fit) (one_store buf (take (min n (length held)) held) (take_fit (min n (length held)) held holds.fit)))))

  pub write_pipe_keeps : (pipe buf n : ℕ) → ReplyKeeps p (write_pipe g (sight g p) pipe buf n)
  write_pipe_keeps pipe buf n =
      let held : List ℕ = pipe_bytes g.frame.pipes pipe in
      if_keeps p (n == 0) _ _ (λ e. same_keeps g p 0 [] found v (omega arith) nothing_stored) (λ e.
      if_keeps p (not (has_reader g.frame.opens pipe)) _ _ (λ e. (omega arith, omega arith)) (λ reader.
      if_keeps p (waits_for_room n (pipe_room g pipe)) _ _ (λ e. tt) (λ e.
      by_bytes (not-false (has_reader g.frame.opens pipe) reader) (readable (sight g p) buf (min n (pipe_room g pipe))) refl)))
    where
      by_bytes : has_reader g.frame.opens pipe ≡ true → (o : Option (List ℕ)) → readable (sight g p) buf (min n (pipe_room g pipe)) ≡ o → ReplyKeeps p (push g pipe o)
      by_bytes reader None e = (omega arith, omega arith)
      by_bytes reader (Some bytes) e =
          let held : List ℕ = pipe_bytes g.frame.pipes pipe in
          let holds = pipe_holds g pipe v in
          let is = read_fits g p.maps 1 buf (min n (pipe_room g pipe)) bytes v e in
          let count = is.count in let most = holds.most in
          pipe_keeps (length bytes) pipe (held ++ bytes) [] (omega (arith, count)) reader (omega (arith, count, most, length-append held bytes)) (append_fit held bytes holds.fit is.fit) nothing_stored

  -- to the outside: the last position must be far from its type's end
  pub write_outside_keeps : last_position g.frame.out ≤ 2 ^ 63 → (buf n : ℕ) → ReplyKeeps p (write_outside g (sight g p) buf n)
  unfolding OutValid
  write_outside_keeps low buf n =
      if_keeps p (n == 0) _ _ (λ e. same_keeps g p 0 [] found v (omega arith) nothing_stored) (λ e.
      if_keeps p (room g.frame.out == 0) _ _ (λ e. tt) (λ e. by_bytes (readable (sight g p) buf (min n (room g.frame.out))) refl))
    where
      by_bytes : (o : Option (List ℕ)) → readable (sight g p) buf (min n (room g.frame.out)) ≡ o → ReplyKeeps p (put_outside g o)
      by_bytes None e = (omega arith, omega arith)
      by_bytes (Some bytes) e =
          let s = v.sound in
          let is = read_fits g p.maps 1 buf (min n (room g.frame.out)) bytes v e in
          let count = is.count in
          let at = s.frame.out.positions in let first = at.0 in let second = at.1 in let kept = at.3 in let new = at.4 in
          let size = length-append g.frame.out.bytes bytes in
          record {
            value_fits = omega (arith, count, new);
            valid =
                out_valid g (with_output g.frame.out bytes)
                (record { positions = (first, omega (arith, second, size), omega (arith, low, size, count, new), kept, omega (arith, size, count, new)); bytes = append_fit g.frame.out.bytes bytes s.frame.out.bytes is.fit }) v;
            caller = p;
            runs = found;
            bytes = nothing_stored;
            no_file = maps_no_file g p found v;
          }
