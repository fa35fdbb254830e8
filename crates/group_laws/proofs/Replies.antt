-- What each call can answer, case by case: what holds of each of these answers holds of every reply.
use Rattle.std.proofs.Common.{Bool, List, None, Option, Some, [], ap, arith, false, length, min, not, refl, subst, suc, sym, true, zero, ℕ, ◌%◌, ◌&&◌, ◌*◌, ◌+◌, ◌-◌, ◌/◌, ◌<◌, ◌==◌, ◌^◌, ◌||◌, ◌∷◌, ◌≡◌, ◌≤◌}
use Rattle.std.proofs.lemmas.Bool.{eqb-true, leb-false}
use Rattle.std.specs.List.{list_all, list_any}
use Rattle.std.specs.Prelude.{Any, find, if◌then◌else◌, is_none, is_some, nat_le, nat_lt, slice_index}
use Rattle.address_maps.specs.Cut.{cut}
use Rattle.address_maps.specs.Gaps.{first_gap}
use Rattle.descriptors.specs.Descriptors.{Installed, installed, number_at}
use Rattle.descriptors.specs.declared.opens.Open.{Open}
use Rattle.descriptors.specs.declared.opens.OpenKind.{OpenKind}
use Rattle.group_defs.specs.Calls.{Reply, answers, ends, fd_of, is_cloexec_or_none, refuses, waits}
use Rattle.group_defs.specs.Cells.{sight}
use Rattle.group_defs.specs.Changes.{open_at, with_break, with_fds, with_maps, with_offset, with_open, with_opens, with_out, with_pairs, with_pipes}
use Rattle.group_defs.specs.DescriptorCalls.{close, dup, dup3, dup3_of, dup_as, dup_of, fsync, lseek, lseek_kind, lseek_open, lseek_to, moved_by}
use Rattle.group_defs.specs.Family.{is_child, is_good_for_wait, wait4, wait_for, without_proc}
use Rattle.group_defs.specs.FileCalls.{Name, access_of, emptied, empties, faults, is_good_for_open, is_in_text, kept_flags, name_at, named, open_named, open_with, openat, opens_at, put_file, too_long, with_content, with_new_file, write_file, write_place}
use Rattle.group_defs.specs.Fork.{can_copy, clone, copies_from, forked, to_copy}
use Rattle.group_defs.specs.Group.{Group, is_running, regs_of}
use Rattle.group_defs.specs.Held.{has_reader, has_writer, settled}
use Rattle.group_defs.specs.MapCalls.{brk, can_grow, has_room_for, is_good_for_map, is_user_range, map_gap, mapped, mmap, munmap, new_mapping, page_end, pages_for}
use Rattle.group_defs.specs.MessageCalls.{Buffer, Header, all_at, buffer_of, field, header_of, is_block, is_end_at, is_receive_flags, numbers_in, receive_with, recvmsg, send_block, send_numbers, send_with, sendmsg, take_carried, take_first, then_buffer, then_header}
use Rattle.group_defs.specs.Output.{room, with_output}
use Rattle.group_defs.specs.PairCalls.{at_open, at_pair, has_peer, is_send_flags, is_seqpacket, on_pair, post, posted, receive, send, socketpair, take_message, with_new_pair}
use Rattle.group_defs.specs.PipeCalls.{both_as, both_ends, new_ends, pipe2, pipe_room, push, with_new_pipe, write_pipe}
use Rattle.group_defs.specs.ReadWrite.{put_outside, read, read_kind, read_open, write, write_kind, write_open, write_outside}
use Rattle.group_defs.specs.Step.{call_in, reply_in, served}
use Rattle.group_defs.specs.declared.calls.TheConstants.{EBADF, EFAULT, EFBIG, EINVAL, EMSGSIZE, ENOMEM, ENOSYS, EPIPE}
use Rattle.group_defs.specs.declared.frame.Proc.{Proc}
use Rattle.group_files.specs.Files.{file_named, length_of}
use Rattle.group_files.specs.Names.{is_same_name}
use Rattle.group_files.specs.declared.named_files.FileRec.{FileRec}
use Rattle.group_laws.proofs.Lists.{any_weaker, found_is}
use Rattle.pipes_socks.specs.Pairs.{waiting_at}
use Rattle.pipes_socks.specs.Pipes.{pipe_bytes, waits_for_room}
use Rattle.pipes_socks.specs.declared.streams.Message.{Message}
use Rattle.pipes_socks.specs.declared.streams.Pair.{Pair}
use Rattle.pipes_socks.specs.declared.streams.Pipe.{Pipe}
use Rattle.rv64_isa.specs.Memory.{Cells, both, byte_with, bytes_with, can_write, readable}
use Rattle.rv64_isa.specs.Numbers.{has_bit, low_word, wrapped}
use Rattle.rv64_isa.specs.Registers.{a0, a1, a2, a3, a4}
use Rattle.rv64_isa.specs.declared.regs.Regs.{Regs}
use Rattle.descriptors.specs.declared.opens.OpenKind.TheVariants as kinds

-- An answer's group has it.
abbrev pub Leaves : (Group → Type 0) → Reply Group → Type 0
Leaves P waits = Unit {0}
Leaves P (refuses errno) = Unit {0}
Leaves P (answers value h writes) = P h
Leaves P (ends status) = Unit {0}

either : (P : Group → Type 0) (b : Bool) (x y : Reply Group) → Leaves P x → Leaves P y → Leaves P (if b then x else y)
either P true x y s t = s
either P false x y s t = t

-- What the calls leave, but for those that name pages of their own: openat, write and clone.
pub record Plain (g : Group) (p : Proc) (P : Group → Type 0) : Type 0 where
  pub same : P g
  pub fds : (fds : List (ℕ × ℕ)) → P (with_fds g p fds)
  pub closed : (fds : List (ℕ × ℕ)) → P (settled (with_fds g p fds))
  pub offsets : (number offset : ℕ) → P (with_opens g (with_offset g.frame.opens number offset))
  pub pipes : (pipes : List Pipe) → P (with_pipes g pipes)
  pub pairs : (pairs : List Pair) → P (with_pairs g pairs)
  pub dropped : (pairs : List Pair) → P (settled (with_pairs g pairs))
  pub received : (pairs : List Pair) (fds : List (ℕ × ℕ)) → P (with_fds (with_pairs g pairs) p fds)
  pub new_pipe : (fds : List (ℕ × ℕ)) → P (with_fds (new_ends (with_new_pipe g) (kinds.PipeRead g.frame.next.pipe) (kinds.PipeWrite g.frame.next.pipe)) p fds)
  pub new_pair : (fds : List (ℕ × ℕ)) → P (with_fds (new_ends (with_new_pair g) (kinds.PairEnd g.frame.next.pair 0) (kinds.PairEnd g.frame.next.pair 1)) p fds)
  pub break : (brk : ℕ) → P (with_break g p brk)
  pub grown : (start pages brk : ℕ) → P (with_break (mapped g p p.maps (new_mapping g start pages 3 false)) p brk)
  pub shrunk : (start pages brk : ℕ) → P (settled (with_break (with_maps g p (cut p.maps start pages)) p brk))
  pub unmapped : (start pages : ℕ) → P (settled (with_maps g p (cut p.maps start pages)))
  pub one_more : (start pages prot : ℕ) (shared : Bool) → P (mapped g p p.maps (new_mapping g start pages prot shared))
  pub instead : (start pages prot : ℕ) (shared : Bool) → P (settled (mapped g p (cut p.maps start pages) (new_mapping g start pages prot shared)))
  pub reaped : (wanted : ℕ) (q : Proc) → find (λ x. is_child p.pid wanted x && not (is_running x)) g.frame.procs ≡ Some q → P (without_proc g q.pid)

module _ (g : Group) (p : Proc) (P : Group → Type 0) (c : Plain g p P) (cells : Cells) (r : Regs) where
  -- Descriptors.
  dup_leaves : Leaves P (dup g p r)
  dup_leaves = by_number (number_at p.fds (fd_of r))
    where
      by_installed : (i : Option Installed) → Leaves P (dup_as g p i)
      by_installed None = tt
      by_installed (Some i) = c.fds i.fds

      by_number : (o : Option ℕ) → Leaves P (dup_of g p o)
      by_number None = tt
      by_number (Some n) = by_installed (installed p.fds (n ∷ []))

  dup3_leaves : Leaves P (dup3 g p r)
  dup3_leaves = either P (not (is_cloexec_or_none (low_word (a2 r)))) _ _ tt (either P (fd_of r == low_word (a1 r)) _ _ tt (by_number (number_at p.fds (fd_of r))))
    where
      by_number : (o : Option ℕ) → Leaves P (dup3_of g p (low_word (a1 r)) o)
      by_number None = tt
      by_number (Some n) = either P (nat_lt (low_word (a1 r)) 64) _ _ (c.closed _) tt

  close_leaves : Leaves P (close g p r)
  close_leaves = either P (is_some (number_at p.fds (fd_of r))) _ _ (c.closed _) tt

  fsync_leaves : (durable : Bool) → Leaves P (fsync durable g p r)
  fsync_leaves durable = either P (is_some (number_at p.fds (fd_of r))) _ _ (either P durable _ _ c.same tt) tt

  lseek_leaves : Leaves P (lseek g p r)
  lseek_leaves = by_open (open_at p.fds g.frame.opens (fd_of r))
    where
      by_place : (number : ℕ) (o : Option ℕ) → Leaves P (lseek_to g number o)
      by_place number None = tt
      by_place number (Some place) = c.offsets number place

      by_kind : (o : Open) (k : OpenKind) → Leaves P (lseek_kind g r o k)
      by_kind o (kinds.File object) = either P (a2 r == 0) _ _ (by_place o.number (moved_by 0 (a1 r))) (either P (a2 r == 1) _ _ (by_place o.number (moved_by o.offset (a1 r))) (either P (a2 r == 2) _ _ (by_place o.number (moved_by (length_of g.frame.files object) (a1 r))) tt))
      by_kind o kinds.Nothing = tt
      by_kind o kinds.Outside = tt
      by_kind o (kinds.PipeRead pipe) = tt
      by_kind o (kinds.PipeWrite pipe) = tt
      by_kind o (kinds.PairEnd pair end) = tt

      by_open : (o : Option Open) → Leaves P (lseek_open g r o)
      by_open None = tt
      by_open (Some o) = by_kind o o.kind

  -- Pipes and pairs.
  ends_leave : (made : Group) → ((fds : List (ℕ × ℕ)) → P (with_fds made p fds)) → (to : ℕ) (full : Bool) → Leaves P (both_ends g p cells to full made)
  ends_leave made each to full = by_installed (installed p.fds (g.frame.next.descr ∷ (g.frame.next.descr + 1) ∷ []))
    where
      by_installed : (o : Option Installed) → Leaves P (both_as g p cells to full made o)
      by_installed None = tt
      by_installed (Some i) = either P (nat_lt 1022 (length g.frame.opens)) _ _ tt (either P full _ _ tt (either P (not (can_write cells to 8)) _ _ tt (each i.fds)))

  pipe2_leaves : Leaves P (pipe2 g p cells r)
  pipe2_leaves = either P (not (is_cloexec_or_none (low_word (a1 r)))) _ _ tt (ends_leave (new_ends (with_new_pipe g) (kinds.PipeRead g.frame.next.pipe) (kinds.PipeWrite g.frame.next.pipe)) c.new_pipe (a0 r) (nat_le 256 (length g.frame.pipes)))

  socketpair_leaves : Leaves P (socketpair g p cells r)
  socketpair_leaves = either P (not (is_seqpacket r)) _ _ tt (ends_leave (new_ends (with_new_pair g) (kinds.PairEnd g.frame.next.pair 0) (kinds.PairEnd g.frame.next.pair 1)) c.new_pair (a3 r) (nat_le 256 (length g.frame.pairs)))

  on_pair_leaves : (call : ℕ → ℕ → Reply Group) → ((pair end : ℕ) → Leaves P (call pair end)) → Leaves P (on_pair g p r call)
  on_pair_leaves call each = by_open (open_at p.fds g.frame.opens (fd_of r))
    where
      by_kind : (k : OpenKind) → Leaves P (at_pair call k)
      by_kind (kinds.PairEnd pair end) = each pair end
      by_kind kinds.Nothing = tt
      by_kind kinds.Outside = tt
      by_kind (kinds.File object) = tt
      by_kind (kinds.PipeRead pipe) = tt
      by_kind (kinds.PipeWrite pipe) = tt

      by_open : (o : Option Open) → Leaves P (at_open call o)
      by_open None = tt
      by_open (Some o) = by_kind o.kind

  post_leaves : (pair end buf n : ℕ) (carried : List ℕ) → Leaves P (post g cells pair end buf n carried)
  post_leaves pair end buf n carried =
      either P (n == 0) _ _ (either P (length carried == 0) _ _ c.same tt) (either P (nat_lt 4096 n) _ _ tt (either P (not (has_peer g pair end)) _ _ tt (either P (nat_le 16 (length (waiting_at g.frame.pairs pair (1 - end)))) _ _ tt (by_bytes (readable cells buf n)))))
    where
      by_bytes : (o : Option (List ℕ)) → Leaves P (posted g pair (1 - end) carried o)
      by_bytes None = tt
      by_bytes (Some bytes) = c.pairs _

  send_leaves : (pair end buf n flags addr : ℕ) → Leaves P (send g cells pair end buf n flags addr)
  send_leaves pair end buf n flags addr = either P (not (is_send_flags flags) || not (addr == 0)) _ _ tt (post_leaves pair end buf n [])

  receive_leaves : (pair end buf n flags addr : ℕ) → Leaves P (receive g cells pair end buf n flags addr)
  receive_leaves pair end buf n flags addr = either P (not (flags == 0) || not (addr == 0)) _ _ tt (either P (n == 0) _ _ c.same (by_queue (waiting_at g.frame.pairs pair end)))
    where
      by_queue : (messages : List Message) → Leaves P (take_message g cells pair end buf n messages)
      by_queue [] = either P (has_peer g pair end) _ _ tt c.same
      by_queue (m ∷ ms) = either P (not (can_write cells buf (min n (length m.bytes)))) _ _ tt (c.dropped _)

  header_leaves : (call : Header → Buffer → Reply Group) → ((h : Header) (b : Buffer) → Leaves P (call h b)) → (o : Option (List ℕ)) → Leaves P (then_header cells call o)
  header_leaves call each None = tt
  header_leaves call each (Some bytes) = either P (not (field bytes 0 8 == 0) || not (field bytes 24 8 == 1)) _ _ tt (by_buffer (readable cells (field bytes 16 8) 16))
    where
      by_buffer : (o : Option (List ℕ)) → Leaves P (then_buffer cells (call (header_of bytes)) o)
      by_buffer None = tt
      by_buffer (Some more) = each (header_of bytes) (buffer_of more)

  sendmsg_leaves : Leaves P (sendmsg g p cells r)
  sendmsg_leaves =
      on_pair_leaves (λ pair end. if not (is_send_flags (low_word (a2 r))) then refuses EINVAL else then_header cells (send_with g p cells pair end) (readable cells (a1 r) 56))
      (λ pair end. either P (not (is_send_flags (low_word (a2 r)))) _ _ tt (header_leaves (send_with g p cells pair end) (by_header pair end) (readable cells (a1 r) 56)))
    where
      by_numbers : (pair end : ℕ) (b : Buffer) (k : ℕ) (o : Option (List ℕ)) → Leaves P (send_numbers g p cells pair end b k o)
      by_numbers pair end b k None = tt
      by_numbers pair end b k (Some bytes) = either P (nat_lt (length (all_at p.fds (numbers_in k bytes))) (length (numbers_in k bytes))) _ _ tt (either P (list_any (is_end_at g.frame.opens) (all_at p.fds (numbers_in k bytes))) _ _ tt (post_leaves pair end b.base b.count (all_at p.fds (numbers_in k bytes))))

      by_block : (pair end : ℕ) (h : Header) (b : Buffer) (o : Option (List ℕ)) → Leaves P (send_block g p cells pair end h b o)
      by_block pair end h b None = tt
      by_block pair end h b (Some bytes) = either P (not (is_block h.size bytes)) _ _ tt (by_numbers pair end b ((field bytes 0 8 - 16) / 4) (readable cells (h.control + 16) (field bytes 0 8 - 16)))

      by_header : (pair end : ℕ) (h : Header) (b : Buffer) → Leaves P (send_with g p cells pair end h b)
      by_header pair end h b = either P (h.size == 0) _ _ (post_leaves pair end b.base b.count []) (either P (nat_lt h.size 16) _ _ tt (by_block pair end h b (readable cells h.control 16)))

  recvmsg_leaves : Leaves P (recvmsg g p cells r)
  recvmsg_leaves =
      on_pair_leaves (λ pair end. if not (is_receive_flags (low_word (a2 r))) then refuses EINVAL else if not (can_write cells (a1 r) 56) then refuses EFAULT else then_header cells (receive_with g p cells (a1 r) pair end) (readable cells (a1 r) 56))
      (λ pair end. either P (not (is_receive_flags (low_word (a2 r)))) _ _ tt (either P (not (can_write cells (a1 r) 56)) _ _ tt (header_leaves (receive_with g p cells (a1 r) pair end) (by_header pair end) (readable cells (a1 r) 56))))
    where
      by_installed : (pair end : ℕ) (h : Header) (b : Buffer) (m : Message) (ms : List Message) (o : Option Installed) → Leaves P (take_carried g p cells (a1 r) pair end h b m ms o)
      by_installed pair end h b m ms None = tt
      by_installed pair end h b m ms (Some i) = either P (not (can_write cells b.base (min b.count (length m.bytes))) || not (can_write cells h.control (16 + 4 * length m.opens))) _ _ tt (c.received _ i.fds)

      by_queue : (pair end : ℕ) (h : Header) (b : Buffer) (messages : List Message) → Leaves P (take_first g p cells (a1 r) pair end h b messages)
      by_queue pair end h b [] = either P (has_peer g pair end) _ _ tt c.same
      by_queue pair end h b (m ∷ ms) = either P (not (length m.opens == 0) && nat_le (16 + 4 * length m.opens) h.size) _ _ (by_installed pair end h b m ms (installed p.fds m.opens)) (either P (not (can_write cells b.base (min b.count (length m.bytes)))) _ _ tt (c.dropped _))

      by_header : (pair end : ℕ) (h : Header) (b : Buffer) → Leaves P (receive_with g p cells (a1 r) pair end h b)
      by_header pair end h b = either P (b.count == 0) _ _ c.same (by_queue pair end h b (waiting_at g.frame.pairs pair end))

  -- Reading.
  read_leaves : Leaves P (read g p cells r)
  read_leaves = by_open (open_at p.fds g.frame.opens (fd_of r))
    where
      by_kind : (o : Open) (k : OpenKind) → Leaves P (read_kind g cells o (a1 r) (a2 r) k)
      by_kind o kinds.Nothing = c.same
      by_kind o kinds.Outside = tt
      by_kind o (kinds.File object) = either P (access_of o.flags == 1) _ _ tt (either P (a2 r == 0) _ _ c.same (either P (not (can_write cells (a1 r) (min (a2 r) (length_of g.frame.files object - o.offset)))) _ _ tt (c.offsets _ _)))
      by_kind o (kinds.PipeRead pipe) = either P (a2 r == 0) _ _ c.same (either P (length (pipe_bytes g.frame.pipes pipe) == 0) _ _ (either P (has_writer g.frame.opens pipe) _ _ tt c.same) (either P (not (can_write cells (a1 r) (min (a2 r) (length (pipe_bytes g.frame.pipes pipe))))) _ _ tt (c.pipes _)))
      by_kind o (kinds.PipeWrite pipe) = tt
      by_kind o (kinds.PairEnd pair end) = receive_leaves pair end (a1 r) (a2 r) 0 0

      by_open : (o : Option Open) → Leaves P (read_open g cells r o)
      by_open None = tt
      by_open (Some o) = by_kind o o.kind

  -- Mappings.
  brk_leaves : Leaves P (brk g p r)
  brk_leaves = either P (nat_lt (a0 r) p.brk_base || nat_lt (2 ^ 37) (a0 r)) _ _ c.same
      (either P (nat_lt (pages_for p.brk) (pages_for (a0 r))) _ _ (either P (can_grow g p (page_end p.brk) (pages_for (a0 r) - pages_for p.brk)) _ _ (c.grown (page_end p.brk) (pages_for (a0 r) - pages_for p.brk) (a0 r)) c.same)
      (either P (nat_lt (pages_for (a0 r)) (pages_for p.brk)) _ _ (either P (nat_lt 1024 (length (cut p.maps (page_end (a0 r)) (pages_for p.brk - pages_for (a0 r))))) _ _ c.same (c.shrunk (page_end (a0 r)) (pages_for p.brk - pages_for (a0 r)) (a0 r))) (c.break (a0 r))))

  munmap_leaves : Leaves P (munmap g p r)
  munmap_leaves = either P (not (a0 r % 4096 == 0) || (a1 r == 0) || nat_lt (2 ^ 38) (a0 r + a1 r)) _ _ tt (either P (nat_lt 1024 (length (cut p.maps (a0 r) (pages_for (a1 r))))) _ _ tt (c.unmapped (a0 r) (pages_for (a1 r))))

  mmap_leaves : Leaves P (mmap g p r)
  mmap_leaves = either P ((a1 r == 0) || not (is_good_for_map (low_word (a2 r)) (low_word (a3 r)))) _ _ tt (either P (nat_lt 16384 (pages_for (a1 r))) _ _ tt
      (either P (has_bit (low_word (a3 r)) 16) _ _ (either P (not (a0 r % 4096 == 0) || not (is_user_range (a0 r) (a0 r + 4096 * pages_for (a1 r)))) _ _ tt (either P (not (has_room_for g.frame (pages_for (a1 r)))) _ _ tt (either P (nat_le 1024 (length (cut p.maps (a0 r) (pages_for (a1 r))))) _ _ tt (c.instead (a0 r) (pages_for (a1 r)) (low_word (a2 r)) (has_bit (low_word (a3 r)) 1)))))
      (either P (not (has_room_for g.frame (pages_for (a1 r)))) _ _ tt (by_gap (first_gap p.maps (pages_for (a1 r)))))))
    where
      by_gap : (o : Option ℕ) → Leaves P (map_gap g p (pages_for (a1 r)) (low_word (a2 r)) (low_word (a3 r)) o)
      by_gap None = tt
      by_gap (Some start) = either P (nat_le 1024 (length p.maps)) _ _ tt (c.one_more start (pages_for (a1 r)) (low_word (a2 r)) (has_bit (low_word (a3 r)) 1))

  -- Waiting for a child.
  wait4_leaves : Leaves P (wait4 g p cells r)
  wait4_leaves = either P (not (is_good_for_wait (low_word (a0 r)) (low_word (a2 r)) (a3 r))) _ _ tt (either P (not (list_any (is_child p.pid (low_word (a0 r))) g.frame.procs)) _ _ tt (by_child (find (λ q. is_child p.pid (low_word (a0 r)) q && not (is_running q)) g.frame.procs) refl))
    where
      by_child : (o : Option Proc) → find (λ q. is_child p.pid (low_word (a0 r)) q && not (is_running q)) g.frame.procs ≡ o → Leaves P (wait_for g cells (a1 r) (low_word (a2 r)) o)
      by_child None e = either P (low_word (a2 r) == 1) _ _ c.same tt
      by_child (Some q) e = either P (a1 r == 0) _ _ (c.reaped (low_word (a0 r)) q e) (either P (not (can_write cells (a1 r) 4)) _ _ tt (c.reaped (low_word (a0 r)) q e))

-- openat opens a file as it is, or empties it, or makes it.
pub record Opened (g : Group) (p : Proc) (P : Group → Type 0) : Type 0 where
  pub old : (f : FileRec) (flags : ℕ) (fds : List (ℕ × ℕ)) → Any (λ x. x ≡ f) g.frame.files → P (with_fds (with_open g (kinds.File f.object) flags) p fds)
  pub cleared : (f : FileRec) (flags : ℕ) (fds : List (ℕ × ℕ)) → Any (λ x. x ≡ f) g.frame.files → P (with_fds (with_open (emptied g f.object) (kinds.File f.object) flags) p fds)
  pub made : (name : List ℕ) (flags : ℕ) (fds : List (ℕ × ℕ)) → P (with_fds (with_open (with_new_file g name) (kinds.File g.frame.next.object) flags) p fds)

pub openat_leaves : (g : Group) (p : Proc) (P : Group → Type 0) → Opened g p P → (cells : Cells) (r : Regs) → Leaves P (openat g p cells r)
openat_leaves g p P c cells r = either P (not (is_good_for_open flags)) _ _ tt (by_name (name_at cells (a1 r) 65))
  where
    flags : ℕ
    flags = low_word (a2 r)

    by_empties : (f : FileRec) → Any (λ x. x ≡ f) g.frame.files → (i : Installed) (b : Bool) → Leaves P (opens_at (if b then emptied g f.object else g) p flags f.object i)
    by_empties f there i true = c.cleared f (kept_flags flags) i.fds there
    by_empties f there i false = c.old f (kept_flags flags) i.fds there

    by_file : (name : List ℕ) (file : Option FileRec) → file_named g.frame.files name ≡ file → (i : Option Installed) → Leaves P (open_with g p name flags file i)
    by_file name file e None = tt
    by_file name None e (Some i) = either P (nat_le 1024 (length g.frame.opens)) _ _ tt (either P (nat_le 64 (length g.frame.files)) _ _ tt (c.made name (kept_flags flags) i.fds))
    by_file name (Some f) e (Some i) = either P (nat_le 1024 (length g.frame.opens)) _ _ tt (by_empties f (any_weaker (λ x. (x ≡ f) × (is_same_name x.name name ≡ true)) (λ x. x ≡ f) g.frame.files (λ x both. both.0) (found_is (λ x. is_same_name x.name name) g.frame.files f e)) i (empties flags))

    by_name : (name : Name) → Leaves P (open_named g p (low_word (a0 r)) flags name)
    by_name faults = tt
    by_name too_long = tt
    by_name (named name) = either P (length name == 0) _ _ tt (either P (not (list_all is_in_text name)) _ _ tt (either P (not (slice_index name 0 == 47) && not (low_word (a0 r) == 2 ^ 32 - 100)) _ _ tt (either P (is_some (file_named g.frame.files name) && has_bit flags 64 && has_bit flags 128) _ _ tt (either P (is_none (file_named g.frame.files name) && not (has_bit flags 64)) _ _ tt (by_file name (file_named g.frame.files name) refl (installed p.fds (g.frame.next.descr ∷ [])))))))

pub clone_leaves : (g : Group) (p : Proc) (P : Group → Type 0) → (can_copy g.frame (to_copy g.frame p) ≡ true → P (forked g p (copies_from g.frame.next.object (to_copy g.frame p)))) → (r : Regs) → Leaves P (clone g p r)
clone_leaves g p P c r = either P (not (low_word (a0 r) == 17) || not (a1 r == 0)) _ _ tt (either P (nat_le 64 (length g.frame.procs) || nat_le 32768 g.frame.next.pid) _ _ tt (by_room (can_copy g.frame (to_copy g.frame p)) refl))
  where
    by_room : (b : Bool) → can_copy g.frame (to_copy g.frame p) ≡ b → Leaves P (if not b then refuses ENOMEM else answers g.frame.next.pid (forked g p (copies_from g.frame.next.object (to_copy g.frame p))) [])
    by_room true e = c e
    by_room false e = tt

-- what is read is as many bytes as were asked for
pub read_count : (right : ℕ) (cells : Cells) (address n : ℕ) (bytes : List ℕ) → bytes_with right cells address n ≡ Some bytes → length bytes ≡ n
unfolding bytes_with
read_count right cells address zero bytes e = let is : [] ≡ bytes = cc in ap length (sym is)
read_count right cells address (suc n) bytes e = by_parts (byte_with right cells (wrapped address)) (bytes_with right cells (address + 1) n) (read_count right cells (address + 1) n) e
  where
    by_parts : (b : Option ℕ) (rest : Option (List ℕ)) → ((bs : List ℕ) → rest ≡ Some bs → length bs ≡ n) → both b rest ≡ Some bytes → length bytes ≡ suc n
    by_parts None rest each e = absurd (cc)
    by_parts (Some b) None each e = absurd (cc)
    by_parts (Some b) (Some bs) each e = let is : b ∷ bs ≡ bytes = cc in let size = each bs refl in let all = ap length (sym is) in omega (arith, size, all)

-- a file with these bytes at a place, and its description behind them
abbrev pub with_put : Group → Open → ℕ → ℕ → List ℕ → Group
with_put g o object place bytes = with_opens (with_content g object place bytes) (with_offset g.frame.opens o.number (place + length bytes))

-- What holds of each of these holds of every reply of write, given what holds of a write to the outside.
module _ (P : Reply Group → Type 0) (g : Group) (cells : Cells) (waiting : P waits) (refused : (errno : ℕ) → P (refuses errno)) (same : P (answers 0 g []))
    (pipes : (value : ℕ) (list : List Pipe) → P (answers value (with_pipes g list) []))
    (pairs : (value : ℕ) (list : List Pair) → P (answers value (with_pairs g list) [])) where
  if_either : (b : Bool) (x y : Reply Group) → P x → P y → P (if b then x else y)
  if_either true x y p q = p
  if_either false x y p q = q

  to_pipe : (pipe buf n : ℕ) → P (write_pipe g cells pipe buf n)
  to_pipe pipe buf n = if_either (n == 0) _ _ same (if_either (not (has_reader g.frame.opens pipe)) _ _ (refused EPIPE) (if_either (waits_for_room n (pipe_room g pipe)) _ _ waiting (by_bytes (readable cells buf (min n (pipe_room g pipe))))))
    where
      by_bytes : (x : Option (List ℕ)) → P (push g pipe x)
      by_bytes None = refused EFAULT
      by_bytes (Some bytes) = pipes _ _

  to_pair : (pair end buf n : ℕ) → P (post g cells pair end buf n [])
  to_pair pair end buf n =
      if_either (n == 0) _ _ same (if_either (nat_lt 4096 n) _ _ (refused EMSGSIZE) (if_either (not (has_peer g pair end)) _ _ (refused EPIPE) (if_either (nat_le 16 (length (waiting_at g.frame.pairs pair (1 - end)))) _ _ waiting (by_bytes (readable cells buf n)))))
    where
      by_bytes : (x : Option (List ℕ)) → P (posted g pair (1 - end) [] x)
      by_bytes None = refused EFAULT
      by_bytes (Some bytes) = pairs _ _

  module _ (o : Open) (object : ℕ) (file : (bytes : List ℕ) → write_place g o object + length bytes ≤ 1048576 → P (answers (length bytes) (with_put g o object (write_place g o object) bytes) [])) where
    to_file : (buf n : ℕ) → P (write_file g cells o object buf n)
    to_file buf n = if_either (access_of o.flags == 0) _ _ (refused EBADF) (if_either (n == 0) _ _ same (by_place (nat_le 1048576 place) refl))
      where
        place : ℕ
        place = write_place g o object

        by_bytes : place < 1048576 → (x : Option (List ℕ)) → readable cells buf (min n (1048576 - place)) ≡ x → P (put_file g o object place x)
        by_bytes within None e = refused EFAULT
        by_bytes within (Some bytes) e = let count = read_count 1 cells buf (min n (1048576 - place)) bytes e in file bytes (omega (arith, within, count))

        by_place : (b : Bool) → nat_le 1048576 place ≡ b → P (if b then refuses EFBIG else put_file g o object place (readable cells buf (min n (1048576 - place))))
        by_place true e = refused EFBIG
        by_place false e = by_bytes (leb-false 1048576 place e) (readable cells buf (min n (1048576 - place))) refl

  by_kind : (o : Open) (buf n : ℕ) (kind : OpenKind) → (kind ≡ kinds.Outside → P (write_outside g cells buf n)) → ((object : ℕ) → kind ≡ kinds.File object → (bytes : List ℕ) → write_place g o object + length bytes ≤ 1048576 → P (answers (length bytes) (with_put g o object (write_place g o object) bytes) [])) → P (write_kind g cells o buf n kind)
  by_kind o buf n kinds.Nothing outside file = refused EBADF
  by_kind o buf n kinds.Outside outside file = outside refl
  by_kind o buf n (kinds.File object) outside file = to_file o object (file object refl) buf n
  by_kind o buf n (kinds.PipeRead pipe) outside file = refused EBADF
  by_kind o buf n (kinds.PipeWrite pipe) outside file = to_pipe pipe buf n
  by_kind o buf n (kinds.PairEnd pair end) outside file = to_pair pair end buf n

  pub written_reply : (r : Regs) (x : Option Open) → ((o : Open) → x ≡ Some o → o.kind ≡ kinds.Outside → P (write_outside g cells (a1 r) (a2 r)))
      → ((o : Open) → x ≡ Some o → (object : ℕ) → o.kind ≡ kinds.File object → (bytes : List ℕ) → write_place g o object + length bytes ≤ 1048576 → P (answers (length bytes) (with_put g o object (write_place g o object) bytes) [])) → P (write_open g cells r x)
  written_reply r None outside file = refused EBADF
  written_reply r (Some o) outside file = by_kind o (a1 r) (a2 r) o.kind (outside o refl) (file o refl)

-- The same, given what holds of bytes put outside.
module _ (P : Reply Group → Type 0) (g : Group) (cells : Cells) (waiting : P waits) (refused : (errno : ℕ) → P (refuses errno)) (same : P (answers 0 g []))
    (out : (bytes : List ℕ) → length bytes ≤ room g.frame.out → P (answers (length bytes) (with_out g (with_output g.frame.out bytes)) []))
    (pipes : (value : ℕ) (list : List Pipe) → P (answers value (with_pipes g list) []))
    (pairs : (value : ℕ) (list : List Pair) → P (answers value (with_pairs g list) [])) where
  to_outside : (buf n : ℕ) → P (write_outside g cells buf n)
  to_outside buf n = by_count (n == 0)
    where
      by_bytes : (x : Option (List ℕ)) → readable cells buf (min n (room g.frame.out)) ≡ x → P (put_outside g x)
      by_bytes None e = refused EFAULT
      by_bytes (Some bytes) e = let count = read_count 1 cells buf (min n (room g.frame.out)) bytes e in out bytes (omega (arith, count))

      by_room : (b : Bool) → P (if b then waits else put_outside g (readable cells buf (min n (room g.frame.out))))
      by_room true = waiting
      by_room false = by_bytes (readable cells buf (min n (room g.frame.out))) refl

      by_count : (b : Bool) → P (if b then answers 0 g [] else if room g.frame.out == 0 then waits else put_outside g (readable cells buf (min n (room g.frame.out))))
      by_count true = same
      by_count false = by_room (room g.frame.out == 0)

  pub opened_reply : (r : Regs) (x : Option Open) → ((o : Open) → x ≡ Some o → (object : ℕ) → o.kind ≡ kinds.File object → (bytes : List ℕ) → write_place g o object + length bytes ≤ 1048576 → P (answers (length bytes) (with_put g o object (write_place g o object) bytes) [])) → P (write_open g cells r x)
  opened_reply r x file = written_reply P g cells waiting refused same pipes pairs r x (λ o at is. to_outside (a1 r) (a2 r)) file

  pub write_reply : (p : Proc) (r : Regs) → ((o : Open) → open_at p.fds g.frame.opens (fd_of r) ≡ Some o → (object : ℕ) → o.kind ≡ kinds.File object → (bytes : List ℕ) → write_place g o object + length bytes ≤ 1048576 → P (answers (length bytes) (with_put g o object (write_place g o object) bytes) [])) → P (write g p cells r)
  write_reply p r file = opened_reply r (open_at p.fds g.frame.opens (fd_of r)) file

-- What the program replies is the call's reply, or a refusal where it doesn't have the call.
pub served_or_refused : (durable : Bool) (g : Group) (p : Proc) (Holds : Reply Group → Type 0) (number : ℕ) → Holds (call_in durable g p number) → Holds (refuses ENOSYS) → Holds (reply_in durable g p number)
unfolding reply_in
served_or_refused durable g p Holds number of_call of_refusal = by_test (list_any (λ n. n == number) served)
  where
    by_test : (b : Bool) → Holds (if b then call_in durable g p number else refuses ENOSYS)
    by_test true = of_call
    by_test false = of_refusal

-- What holds of what the calls leave, and of openat, write and clone by themselves, holds of every reply.
module _ (durable : Bool) (g : Group) (p : Proc) (P : Group → Type 0) (c : Plain g p P) (Holds : ℕ → Reply Group → Type 0) (plain : (n : ℕ) (r : Reply Group) → Leaves P r → Holds n r)
    (of_openat : Holds 56 (openat g p (sight g p) (regs_of p))) (of_write : Holds 64 (write g p (sight g p) (regs_of p))) (of_clone : Holds 220 (clone g p (regs_of p))) where
  its : (k number : ℕ) (x y : Reply Group) → Holds k x → Holds number y → Holds number (if number == k then x else y)
  its k number x y s t = by_test (number == k) refl
    where
      by_test : (b : Bool) → number == k ≡ b → Holds number (if b then x else y)
      by_test true e = subst (λ n. Holds n x) (sym (eqb-true number k e)) s
      by_test false e = t

  any : (b : Bool) (number : ℕ) (x y : Reply Group) → Leaves P x → Holds number y → Holds number (if b then x else y)
  any true number x y s t = plain number x s
  any false number x y s t = t

  pub call_holds : (number : ℕ) → Holds number (call_in durable g p number)
  unfolding call_in
  call_holds number =
      let s : Cells = sight g p in
      let r : Regs = regs_of p in
      any (number == 23) number _ _ (dup_leaves g p P c s r)
      (any (number == 24) number _ _ (dup3_leaves g p P c s r)
      (its 56 number _ _ of_openat
      (any (number == 57) number _ _ (close_leaves g p P c s r)
      (any (number == 59) number _ _ (pipe2_leaves g p P c s r)
      (any (number == 62) number _ _ (lseek_leaves g p P c s r)
      (any (number == 63) number _ _ (read_leaves g p P c s r)
      (its 64 number _ _ of_write
      (any (number == 82) number _ _ (fsync_leaves g p P c s r durable)
      (any ((number == 93) || (number == 94)) number _ _ tt
      (any (number == 124) number _ _ c.same
      (any (number == 172) number _ _ c.same
      (any (number == 173) number _ _ c.same
      (any (number == 199) number _ _ (socketpair_leaves g p P c s r)
      (any (number == 206) number _ _ (on_pair_leaves g p P c s r (λ pair end. send g s pair end (a1 r) (a2 r) (low_word (a3 r)) (a4 r)) (λ pair end. send_leaves g p P c s r pair end (a1 r) (a2 r) (low_word (a3 r)) (a4 r)))
      (any (number == 207) number _ _ (on_pair_leaves g p P c s r (λ pair end. receive g s pair end (a1 r) (a2 r) (low_word (a3 r)) (a4 r)) (λ pair end. receive_leaves g p P c s r pair end (a1 r) (a2 r) (low_word (a3 r)) (a4 r)))
      (any (number == 211) number _ _ (sendmsg_leaves g p P c s r)
      (any (number == 212) number _ _ (recvmsg_leaves g p P c s r)
      (any (number == 214) number _ _ (brk_leaves g p P c s r)
      (any (number == 215) number _ _ (munmap_leaves g p P c s r)
      (its 220 number _ _ of_clone
      (any (number == 222) number _ _ (mmap_leaves g p P c s r)
      (any (number == 260) number _ _ (wait4_leaves g p P c s r) (plain number (refuses 38) tt)))))))))))))))))))))))

  pub reply_holds : (number : ℕ) → Holds number (reply_in durable g p number)
  reply_holds number = served_or_refused durable g p (Holds number) number (call_holds number) (plain number (refuses ENOSYS) tt)
