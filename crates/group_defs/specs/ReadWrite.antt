-- The calls read and write, by what the description is of.
use Rattle.std.specs.Prelude.{ℕ, ◌==◌, min, if◌then◌else◌, List, [], length, Option, Some, None}
use Rattle.descriptors.specs.declared.opens.Open.{Open}
use Rattle.descriptors.specs.declared.opens.OpenKind.{OpenKind}
use Rattle.descriptors.specs.declared.opens.OpenKind.TheVariants as kinds
use Rattle.group_defs.specs.Calls.{Reply, waits, refuses, answers, fd_of}
use Rattle.group_defs.specs.declared.calls.TheConstants.{EBADF, EFAULT}
use Rattle.group_defs.specs.Changes.{open_at, with_out}
use Rattle.group_defs.specs.FileCalls.{read_file, write_file}
use Rattle.group_defs.specs.Group.{Group}
use Rattle.group_defs.specs.Output.{room, with_output}
use Rattle.group_defs.specs.PairCalls.{receive, send}
use Rattle.group_defs.specs.PipeCalls.{read_pipe, write_pipe}
use Rattle.group_defs.specs.declared.frame.Proc.{Proc}
use Rattle.rv64_isa.specs.Memory.{Cells, readable}
use Rattle.rv64_isa.specs.Registers.{a1, a2}
use Rattle.rv64_isa.specs.declared.regs.Regs.{Regs}

abbrev pub read_kind : Group → Cells → Open → ℕ → ℕ → OpenKind → Reply Group
read_kind g cells o buf n kinds.Nothing = answers 0 g []
read_kind g cells o buf n kinds.Outside = refuses EBADF
read_kind g cells o buf n (kinds.File object) = read_file g cells o object buf n
read_kind g cells o buf n (kinds.PipeRead pipe) = read_pipe g cells pipe buf n
read_kind g cells o buf n (kinds.PipeWrite pipe) = refuses EBADF
read_kind g cells o buf n (kinds.PairEnd pair end) = receive g cells pair end buf n 0 0

abbrev pub read_open : Group → Cells → Regs → Option Open → Reply Group
read_open g cells r None = refuses EBADF
read_open g cells r (Some o) = read_kind g cells o (a1 r) (a2 r) o.kind

abbrev pub read : Group → Proc → Cells → Regs → Reply Group
read g p cells r = read_open g cells r (open_at p.fds g.frame.opens (fd_of r))

abbrev pub put_outside : Group → Option (List ℕ) → Reply Group
put_outside g None = refuses EFAULT
put_outside g (Some bytes) = answers (length bytes) (with_out g (with_output g.frame.out bytes)) []

-- n bytes at buf, or as many as there is room for
abbrev pub write_outside : Group → Cells → ℕ → ℕ → Reply Group
write_outside g cells buf n =
    if n == 0 then answers 0 g []
    else if room g.frame.out == 0 then waits
    else put_outside g (readable cells buf (min n (room g.frame.out)))

abbrev pub write_kind : Group → Cells → Open → ℕ → ℕ → OpenKind → Reply Group
write_kind g cells o buf n kinds.Nothing = refuses EBADF
write_kind g cells o buf n kinds.Outside = write_outside g cells buf n
write_kind g cells o buf n (kinds.File object) = write_file g cells o object buf n
write_kind g cells o buf n (kinds.PipeRead pipe) = refuses EBADF
write_kind g cells o buf n (kinds.PipeWrite pipe) = write_pipe g cells pipe buf n
write_kind g cells o buf n (kinds.PairEnd pair end) = send g cells pair end buf n 0 0

abbrev pub write_open : Group → Cells → Regs → Option Open → Reply Group
write_open g cells r None = refuses EBADF
write_open g cells r (Some o) = write_kind g cells o (a1 r) (a2 r) o.kind

abbrev pub write : Group → Proc → Cells → Regs → Reply Group
write g p cells r = write_open g cells r (open_at p.fds g.frame.opens (fd_of r))
