-- The call pipe2, what it shares with socketpair, and reading and writing a pipe.
use Rattle.std.specs.Prelude.{ℕ, ◌+◌, ◌-◌, Bool, not, ◌==◌, nat_lt, nat_le, min, if◌then◌else◌, List, [], ◌∷◌, ◌++◌, length, take, drop, Option, Some, None}
use Rattle.std.specs.List.{flat_map}
use Rattle.descriptors.specs.Descriptors.{Installed, installed}
use Rattle.descriptors.specs.declared.opens.OpenKind.{OpenKind}
use Rattle.descriptors.specs.declared.opens.OpenKind.TheVariants as kinds
use Rattle.group_defs.specs.Calls.{Reply, waits, refuses, answers, stores, is_cloexec_or_none}
use Rattle.group_defs.specs.declared.calls.TheConstants.{EFAULT, EINVAL, EMFILE, ENFILE, EPIPE}
use Rattle.group_defs.specs.Changes.{with_fds, with_open, with_pipes}
use Rattle.group_defs.specs.Group.{Group}
use Rattle.group_defs.specs.Held.{has_reader, has_writer}
use Rattle.group_defs.specs.declared.frame.Proc.{Proc}
use Rattle.pipes_socks.specs.Pipes.{pipe_bytes, waits_for_room, with_pipe_bytes}
use Rattle.rv64_isa.specs.Memory.{Cells, can_write, readable}
use Rattle.rv64_isa.specs.Numbers.{bytes_of, low_word}
use Rattle.rv64_isa.specs.Registers.{a0, a1}
use Rattle.rv64_isa.specs.declared.regs.Regs.{Regs}

-- Two new descriptions, a descriptor at each, and both numbers stored as 4 bytes. Full says that there is no room for what the ends belong to.
abbrev pub new_ends : Group → OpenKind → OpenKind → Group
new_ends g first second = with_open (with_open g first 0) second 0

abbrev pub both_as : Group → Proc → Cells → ℕ → Bool → Group → Option Installed → Reply Group
both_as g p cells to full made None = refuses EMFILE
both_as g p cells to full made (Some i) =
    if nat_lt 1022 (length g.frame.opens) then refuses ENFILE
    else if full then refuses ENFILE
    else if not (can_write cells to 8) then refuses EFAULT
    else answers 0 (with_fds made p i.fds) (stores to (flat_map (bytes_of 4) i.numbers))

abbrev pub both_ends : Group → Proc → Cells → ℕ → Bool → Group → Reply Group
both_ends g p cells to full made = both_as g p cells to full made (installed p.fds (g.frame.next.descr ∷ (g.frame.next.descr + 1) ∷ []))

abbrev pub with_new_pipe : Group → Group
with_new_pipe g = record g {
  frame = record g.frame {
    pipes = g.frame.pipes ++ record { number = g.frame.next.pipe; bytes = [] } ∷ [];
    next = record g.frame.next { pipe = g.frame.next.pipe + 1 };
  };
}

abbrev pub pipe2 : Group → Proc → Cells → Regs → Reply Group
pipe2 g p cells r =
    if not (is_cloexec_or_none (low_word (a1 r))) then refuses EINVAL
    else both_ends g p cells (a0 r) (nat_le 256 (length g.frame.pipes)) (new_ends (with_new_pipe g) (kinds.PipeRead g.frame.next.pipe) (kinds.PipeWrite g.frame.next.pipe))

-- An empty pipe gives 0 without a writer, else the reader waits.
abbrev pub pull : Group → Cells → ℕ → ℕ → List ℕ → ℕ → Reply Group
pull g cells pipe buf held m =
    if not (can_write cells buf m) then refuses EFAULT
    else answers m (with_pipes g (with_pipe_bytes g.frame.pipes pipe (drop m held))) (stores buf (take m held))

abbrev pub read_pipe : Group → Cells → ℕ → ℕ → ℕ → Reply Group
read_pipe g cells pipe buf n =
    if n == 0 then answers 0 g []
    else if length (pipe_bytes g.frame.pipes pipe) == 0 then (if has_writer g.frame.opens pipe then waits else answers 0 g [])
    else pull g cells pipe buf (pipe_bytes g.frame.pipes pipe) (min n (length (pipe_bytes g.frame.pipes pipe)))

abbrev pub push : Group → ℕ → Option (List ℕ) → Reply Group
push g pipe None = refuses EFAULT
push g pipe (Some bytes) = answers (length bytes) (with_pipes g (with_pipe_bytes g.frame.pipes pipe (pipe_bytes g.frame.pipes pipe ++ bytes))) []

abbrev pub pipe_room : Group → ℕ → ℕ
pipe_room g pipe = 65536 - length (pipe_bytes g.frame.pipes pipe)

abbrev pub write_pipe : Group → Cells → ℕ → ℕ → ℕ → Reply Group
write_pipe g cells pipe buf n =
    if n == 0 then answers 0 g []
    else if not (has_reader g.frame.opens pipe) then refuses EPIPE
    else if waits_for_room n (pipe_room g pipe) then waits
    else push g pipe (readable cells buf (min n (pipe_room g pipe)))
