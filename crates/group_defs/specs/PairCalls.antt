-- The calls socketpair, sendto and recvfrom.
use Rattle.std.specs.Prelude.{ℕ, ◌+◌, ◌-◌, Bool, not, ◌&&◌, ◌||◌, ◌==◌, nat_lt, nat_le, min, if◌then◌else◌, List, [], ◌∷◌, ◌++◌, length, take, Option, Some, None}
use Rattle.descriptors.specs.declared.opens.Open.{Open}
use Rattle.descriptors.specs.declared.opens.OpenKind.{OpenKind}
use Rattle.descriptors.specs.declared.opens.OpenKind.TheVariants as kinds
use Rattle.group_defs.specs.Calls.{Reply, waits, refuses, answers, stores, fd_of}
use Rattle.group_defs.specs.declared.calls.TheConstants.{EBADF, EFAULT, EINVAL, EMSGSIZE, ENOTSOCK, EPIPE}
use Rattle.group_defs.specs.Changes.{open_at, with_pairs}
use Rattle.group_defs.specs.Group.{Group}
use Rattle.group_defs.specs.Held.{has_end, settled}
use Rattle.group_defs.specs.PipeCalls.{both_ends, new_ends}
use Rattle.group_defs.specs.declared.frame.Proc.{Proc}
use Rattle.pipes_socks.specs.Pairs.{waiting_at, with_waiting}
use Rattle.pipes_socks.specs.declared.streams.Message.{Message}
use Rattle.rv64_isa.specs.Memory.{Cells, can_write, readable}
use Rattle.rv64_isa.specs.Numbers.{low_word}
use Rattle.rv64_isa.specs.Registers.{a0, a1, a2, a3, a4}
use Rattle.rv64_isa.specs.declared.regs.Regs.{Regs}

abbrev pub with_new_pair : Group → Group
with_new_pair g = record g {
  frame = record g.frame {
    pairs = g.frame.pairs ++ record { number = g.frame.next.pair; to0 = []; to1 = [] } ∷ [];
    next = record g.frame.next { pair = g.frame.next.pair + 1 };
  };
}

abbrev pub is_seqpacket : Regs → Bool
is_seqpacket r = (a0 r == 1) && ((a1 r == 5) || (a1 r == 524293)) && (a2 r == 0)

abbrev pub socketpair : Group → Proc → Cells → Regs → Reply Group
socketpair g p cells r =
    if not (is_seqpacket r) then refuses EINVAL
    else both_ends g p cells (a3 r) (nat_le 256 (length g.frame.pairs)) (new_ends (with_new_pair g) (kinds.PairEnd g.frame.next.pair 0) (kinds.PairEnd g.frame.next.pair 1))

-- A message goes to the other end, with the descriptions that it carries.
abbrev pub has_peer : Group → ℕ → ℕ → Bool
has_peer g pair end = has_end g.frame.opens pair (1 - end)

abbrev pub with_message : Group → ℕ → ℕ → Message → Group
with_message g pair end message = with_pairs g (with_waiting g.frame.pairs pair end (waiting_at g.frame.pairs pair end ++ message ∷ []))

abbrev pub posted : Group → ℕ → ℕ → List ℕ → Option (List ℕ) → Reply Group
posted g pair other carried None = refuses EFAULT
posted g pair other carried (Some bytes) = answers (length bytes) (with_message g pair other (record { bytes = bytes; opens = carried })) []

abbrev pub post : Group → Cells → ℕ → ℕ → ℕ → ℕ → List ℕ → Reply Group
post g cells pair end buf n carried =
    if n == 0 then (if length carried == 0 then answers 0 g [] else refuses EINVAL)
    else if nat_lt 4096 n then refuses EMSGSIZE
    else if not (has_peer g pair end) then refuses EPIPE
    else if nat_le 16 (length (waiting_at g.frame.pairs pair (1 - end))) then waits
    else posted g pair (1 - end) carried (readable cells buf n)

abbrev pub is_send_flags : ℕ → Bool
is_send_flags flags = (flags == 0) || (flags == 16384)

abbrev pub send : Group → Cells → ℕ → ℕ → ℕ → ℕ → ℕ → ℕ → Reply Group
send g cells pair end buf n flags addr =
    if not (is_send_flags flags) || not (addr == 0) then refuses EINVAL else post g cells pair end buf n []

-- A message is taken whole: what doesn't fit is lost, and what it carries is dropped.
abbrev pub take_message : Group → Cells → ℕ → ℕ → ℕ → ℕ → List Message → Reply Group
take_message g cells pair end buf n [] = if has_peer g pair end then waits else answers 0 g []
take_message g cells pair end buf n (message ∷ more) =
    if not (can_write cells buf (min n (length message.bytes))) then refuses EFAULT
    else answers (min n (length message.bytes)) (settled (with_pairs g (with_waiting g.frame.pairs pair end more))) (stores buf (take n message.bytes))

abbrev pub receive : Group → Cells → ℕ → ℕ → ℕ → ℕ → ℕ → ℕ → Reply Group
receive g cells pair end buf n flags addr =
    if not (flags == 0) || not (addr == 0) then refuses EINVAL
    else if n == 0 then answers 0 g []
    else take_message g cells pair end buf n (waiting_at g.frame.pairs pair end)

-- The call at the end of a pair that a descriptor is at.
abbrev pub at_pair : (ℕ → ℕ → Reply Group) → OpenKind → Reply Group
at_pair call (kinds.PairEnd pair end) = call pair end
at_pair call kind = refuses ENOTSOCK

abbrev pub at_open : (ℕ → ℕ → Reply Group) → Option Open → Reply Group
at_open call None = refuses EBADF
at_open call (Some o) = at_pair call o.kind

abbrev pub on_pair : Group → Proc → Regs → (ℕ → ℕ → Reply Group) → Reply Group
on_pair g p r call = at_open call (open_at p.fds g.frame.opens (fd_of r))

abbrev pub sendto : Group → Proc → Cells → Regs → Reply Group
sendto g p cells r = on_pair g p r (λ pair end. send g cells pair end (a1 r) (a2 r) (low_word (a3 r)) (a4 r))

abbrev pub recvfrom : Group → Proc → Cells → Regs → Reply Group
recvfrom g p cells r = on_pair g p r (λ pair end. receive g cells pair end (a1 r) (a2 r) (low_word (a3 r)) (a4 r))
