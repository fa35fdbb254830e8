-- The calls dup, dup3, close, lseek and fsync.
use Rattle.std.specs.Prelude.{ℕ, ◌+◌, ◌-◌, ◌^◌, Bool, not, ◌==◌, nat_lt, if◌then◌else◌, [], ◌∷◌, Option, Some, None, is_some, slice_index}
use Rattle.descriptors.specs.Descriptors.{Installed, installed, number_at, with_fd, without_fd}
use Rattle.descriptors.specs.declared.opens.Open.{Open}
use Rattle.descriptors.specs.declared.opens.OpenKind.{OpenKind}
use Rattle.descriptors.specs.declared.opens.OpenKind.TheVariants as kinds
use Rattle.group_defs.specs.Calls.{Reply, waits, refuses, answers, fd_of, is_cloexec_or_none}
use Rattle.group_defs.specs.declared.calls.TheConstants.{EBADF, EINVAL, EMFILE, ESPIPE}
use Rattle.group_defs.specs.Changes.{with_fds, with_opens, with_offset, open_at}
use Rattle.group_defs.specs.Group.{Group}
use Rattle.group_defs.specs.Held.{settled}
use Rattle.group_defs.specs.declared.frame.Proc.{Proc}
use Rattle.group_files.specs.Files.{length_of}
use Rattle.rv64_isa.specs.Numbers.{low_word}
use Rattle.rv64_isa.specs.Registers.{a1, a2}
use Rattle.rv64_isa.specs.declared.regs.Regs.{Regs}

abbrev pub dup_as : Group → Proc → Option Installed → Reply Group
dup_as g p None = refuses EMFILE
dup_as g p (Some i) = answers (slice_index i.numbers 0) (with_fds g p i.fds) []

abbrev pub dup_of : Group → Proc → Option ℕ → Reply Group
dup_of g p None = refuses EBADF
dup_of g p (Some number) = dup_as g p (installed p.fds (number ∷ []))

abbrev pub dup : Group → Proc → Regs → Reply Group
dup g p r = dup_of g p (number_at p.fds (fd_of r))

-- what was open at the new number closes
abbrev pub dup3_of : Group → Proc → ℕ → Option ℕ → Reply Group
dup3_of g p new None = refuses EBADF
dup3_of g p new (Some number) = if nat_lt new 64 then answers new (settled (with_fds g p (with_fd p.fds new number))) [] else refuses EBADF

abbrev pub dup3 : Group → Proc → Regs → Reply Group
dup3 g p r =
    if not (is_cloexec_or_none (low_word (a2 r))) then refuses EINVAL
    else if fd_of r == low_word (a1 r) then refuses EINVAL
    else dup3_of g p (low_word (a1 r)) (number_at p.fds (fd_of r))

abbrev pub close : Group → Proc → Regs → Reply Group
close g p r = if is_some (number_at p.fds (fd_of r)) then answers 0 (settled (with_fds g p (without_fd p.fds (fd_of r)))) [] else refuses EBADF

-- it waits until the caller's last step is in an acknowledged barrier
abbrev pub fsync : Bool → Group → Proc → Regs → Reply Group
fsync durable g p r = if is_some (number_at p.fds (fd_of r)) then (if durable then answers 0 g [] else waits) else refuses EBADF

-- base plus a signed 64-bit number, where that is from 0 to 2^63 - 1
abbrev pub when_small : ℕ → Option ℕ
when_small n = if nat_lt n (2 ^ 63) then Some n else None

abbrev pub moved_by : ℕ → ℕ → Option ℕ
moved_by base off =
    if nat_lt off (2 ^ 63) then when_small (base + off)
    else if nat_lt (base + off) (2 ^ 64) then None
    else when_small (base + off - 2 ^ 64)

abbrev pub lseek_to : Group → ℕ → Option ℕ → Reply Group
lseek_to g number None = refuses EINVAL
lseek_to g number (Some place) = answers place (with_opens g (with_offset g.frame.opens number place)) []

abbrev pub lseek_file : Group → Regs → Open → ℕ → Reply Group
lseek_file g r o object =
    if a2 r == 0 then lseek_to g o.number (moved_by 0 (a1 r))
    else if a2 r == 1 then lseek_to g o.number (moved_by o.offset (a1 r))
    else if a2 r == 2 then lseek_to g o.number (moved_by (length_of g.frame.files object) (a1 r))
    else refuses EINVAL

abbrev pub lseek_kind : Group → Regs → Open → OpenKind → Reply Group
lseek_kind g r o (kinds.File object) = lseek_file g r o object
lseek_kind g r o kind = refuses ESPIPE

abbrev pub lseek_open : Group → Regs → Option Open → Reply Group
lseek_open g r None = refuses EBADF
lseek_open g r (Some o) = lseek_kind g r o o.kind

abbrev pub lseek : Group → Proc → Regs → Reply Group
lseek g p r = lseek_open g r (open_at p.fds g.frame.opens (fd_of r))
