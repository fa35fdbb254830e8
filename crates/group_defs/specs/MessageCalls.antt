-- The calls sendmsg and recvmsg: messages that carry descriptions.
use Rattle.std.specs.Prelude.{ℕ, ◌+◌, ◌-◌, ◌*◌, ◌/◌, ◌%◌, Bool, not, ◌&&◌, ◌||◌, ◌==◌, nat_lt, nat_le, min, if◌then◌else◌, List, [], ◌∷◌, ◌++◌, length, take, drop, map, Option, Some, None}
use Rattle.std.specs.Int.{div_ceil}
use Rattle.std.specs.List.{filter_map, flat_map, list_any, range_with_len}
use Rattle.descriptors.specs.Descriptors.{Installed, installed, number_at}
use Rattle.descriptors.specs.declared.opens.Open.{Open}
use Rattle.group_defs.specs.Calls.{Reply, waits, refuses, answers, stores}
use Rattle.group_defs.specs.declared.calls.TheConstants.{EBADF, EFAULT, EINVAL, EMFILE}
use Rattle.group_defs.specs.Changes.{with_fds, with_pairs}
use Rattle.group_defs.specs.Descriptions.{is_end}
use Rattle.group_defs.specs.Group.{Group}
use Rattle.group_defs.specs.Held.{settled}
use Rattle.group_defs.specs.PairCalls.{has_peer, is_send_flags, on_pair, post}
use Rattle.group_defs.specs.declared.frame.Proc.{Proc}
use Rattle.pipes_socks.specs.Pairs.{waiting_at, with_waiting}
use Rattle.pipes_socks.specs.declared.streams.Message.{Message}
use Rattle.rv64_isa.specs.Memory.{Cells, Write, can_write, readable}
use Rattle.rv64_isa.specs.Numbers.{bytes_of, low_word, number_of}
use Rattle.rv64_isa.specs.Registers.{a1, a2}
use Rattle.rv64_isa.specs.declared.regs.Regs.{Regs}

-- the number in so many bytes from a place on, low first
abbrev pub field : List ℕ → ℕ → ℕ → ℕ
field bytes place count = number_of (take count (drop place bytes))

-- The 56 bytes of a message's header, and the 16 of its one buffer.
pub record Header : Type 0 where
  pub name : ℕ
  pub buffers : ℕ
  pub count : ℕ
  pub control : ℕ
  pub size : ℕ

abbrev pub header_of : List ℕ → Header
header_of bytes = record { name = field bytes 0 8; buffers = field bytes 16 8; count = field bytes 24 8; control = field bytes 32 8; size = field bytes 40 8 }

pub record Buffer : Type 0 where
  pub base : ℕ
  pub count : ℕ

abbrev pub buffer_of : List ℕ → Buffer
buffer_of bytes = record { base = field bytes 0 8; count = field bytes 8 8 }

-- what is done with both, once they are read
abbrev pub then_buffer : Cells → (Buffer → Reply Group) → Option (List ℕ) → Reply Group
then_buffer cells call None = refuses EFAULT
then_buffer cells call (Some bytes) = call (buffer_of bytes)

abbrev pub then_header : Cells → (Header → Buffer → Reply Group) → Option (List ℕ) → Reply Group
then_header cells call None = refuses EFAULT
then_header cells call (Some bytes) =
    if not (field bytes 0 8 == 0) || not (field bytes 24 8 == 1) then refuses EINVAL
    else then_buffer cells (call (header_of bytes)) (readable cells (field bytes 16 8) 16)

-- A control block: its length, 16 and 4 for each number, then 1, 1 and the numbers.
abbrev pub is_block_length : ℕ → ℕ → Bool
is_block_length size n = nat_le 20 n && nat_le n 48 && (n % 4 == 0) && nat_le n size && nat_le size (8 * div_ceil n 8)

abbrev pub is_block : ℕ → List ℕ → Bool
is_block size bytes = is_block_length size (field bytes 0 8) && (field bytes 8 4 == 1) && (field bytes 12 4 == 1)

abbrev pub numbers_in : ℕ → List ℕ → List ℕ
numbers_in k bytes = map (λ i. field bytes (4 * i) 4) (range_with_len 0 k)

-- The descriptions at these descriptors; an end of a pair can't be carried.
abbrev pub all_at : List (ℕ × ℕ) → List ℕ → List ℕ
all_at fds numbers = filter_map (number_at fds) numbers

abbrev pub is_end_at : List Open → ℕ → Bool
is_end_at opens number = list_any (λ o. (o.number == number) && is_end o.kind) opens

abbrev pub send_carried : Group → Proc → Cells → ℕ → ℕ → Buffer → List ℕ → Reply Group
send_carried g p cells pair end b fds =
    if nat_lt (length (all_at p.fds fds)) (length fds) then refuses EBADF
    else if list_any (is_end_at g.frame.opens) (all_at p.fds fds) then refuses EINVAL
    else post g cells pair end b.base b.count (all_at p.fds fds)

abbrev pub send_numbers : Group → Proc → Cells → ℕ → ℕ → Buffer → ℕ → Option (List ℕ) → Reply Group
send_numbers g p cells pair end b k None = refuses EFAULT
send_numbers g p cells pair end b k (Some bytes) = send_carried g p cells pair end b (numbers_in k bytes)

abbrev pub send_block : Group → Proc → Cells → ℕ → ℕ → Header → Buffer → Option (List ℕ) → Reply Group
send_block g p cells pair end h b None = refuses EFAULT
send_block g p cells pair end h b (Some bytes) =
    if not (is_block h.size bytes) then refuses EINVAL
    else send_numbers g p cells pair end b ((field bytes 0 8 - 16) / 4) (readable cells (h.control + 16) (field bytes 0 8 - 16))

abbrev pub send_with : Group → Proc → Cells → ℕ → ℕ → Header → Buffer → Reply Group
send_with g p cells pair end h b =
    if h.size == 0 then post g cells pair end b.base b.count []
    else if nat_lt h.size 16 then refuses EINVAL
    else send_block g p cells pair end h b (readable cells h.control 16)

abbrev pub sendmsg : Group → Proc → Cells → Regs → Reply Group
sendmsg g p cells r =
    on_pair g p r (λ pair end. if not (is_send_flags (low_word (a2 r))) then refuses EINVAL
    else then_header cells (send_with g p cells pair end) (readable cells (a1 r) 56))

-- Receiving. The control length and the flags are stored in the header.
abbrev pub tells : ℕ → ℕ → ℕ → List Write
tells msg size flags = record { address = msg + 40; bytes = bytes_of 8 size } ∷ record { address = msg + 48; bytes = bytes_of 4 flags } ∷ []

abbrev pub without_first : Group → ℕ → ℕ → List Message → Group
without_first g pair end more = with_pairs g (with_waiting g.frame.pairs pair end more)

abbrev pub cut_flag : ℕ → Message → ℕ
cut_flag n m = if nat_lt n (length m.bytes) then 32 else 0

-- what a message carries is dropped
abbrev pub take_bare : Group → Cells → ℕ → ℕ → ℕ → Buffer → Message → List Message → Reply Group
take_bare g cells msg pair end b m more =
    if not (can_write cells b.base (min b.count (length m.bytes))) then refuses EFAULT
    else answers (min b.count (length m.bytes)) (settled (without_first g pair end more))
    (stores b.base (take b.count m.bytes) ++ tells msg 0 (cut_flag b.count m + (if length m.opens == 0 then 0 else 8)))

-- it is installed, at the lowest numbers in order
abbrev pub block_of : List ℕ → List ℕ
block_of numbers = bytes_of 8 (16 + 4 * length numbers) ++ (bytes_of 4 1 ++ (bytes_of 4 1 ++ flat_map (bytes_of 4) numbers))

abbrev pub take_carried : Group → Proc → Cells → ℕ → ℕ → ℕ → Header → Buffer → Message → List Message → Option Installed → Reply Group
take_carried g p cells msg pair end h b m more None = refuses EMFILE
take_carried g p cells msg pair end h b m more (Some i) =
    if not (can_write cells b.base (min b.count (length m.bytes))) || not (can_write cells h.control (16 + 4 * length m.opens)) then refuses EFAULT
    else answers (min b.count (length m.bytes)) (with_fds (without_first g pair end more) p i.fds)
    (stores b.base (take b.count m.bytes) ++ (stores h.control (block_of i.numbers) ++ tells msg (16 + 4 * length m.opens) (cut_flag b.count m)))

abbrev pub take_first : Group → Proc → Cells → ℕ → ℕ → ℕ → Header → Buffer → List Message → Reply Group
take_first g p cells msg pair end h b [] = if has_peer g pair end then waits else answers 0 g (tells msg 0 0)
take_first g p cells msg pair end h b (m ∷ more) =
    if not (length m.opens == 0) && nat_le (16 + 4 * length m.opens) h.size then take_carried g p cells msg pair end h b m more (installed p.fds m.opens)
    else take_bare g cells msg pair end b m more

abbrev pub receive_with : Group → Proc → Cells → ℕ → ℕ → ℕ → Header → Buffer → Reply Group
receive_with g p cells msg pair end h b = if b.count == 0 then answers 0 g [] else take_first g p cells msg pair end h b (waiting_at g.frame.pairs pair end)

abbrev pub is_receive_flags : ℕ → Bool
is_receive_flags flags = (flags == 0) || (flags == 1073741824)

abbrev pub recvmsg : Group → Proc → Cells → Regs → Reply Group
recvmsg g p cells r =
    on_pair g p r (λ pair end. if not (is_receive_flags (low_word (a2 r))) then refuses EINVAL
    else if not (can_write cells (a1 r) 56) then refuses EFAULT
    else then_header cells (receive_with g p cells (a1 r) pair end) (readable cells (a1 r) 56))
