-- The calls exit, wait4, getpid, getppid and sched_yield, and what becomes of a group when a process ends.
use Rattle.std.specs.Prelude.{ℕ, ◌-◌, ◌*◌, ◌%◌, ◌^◌, Bool, not, ◌&&◌, ◌||◌, ◌==◌, nat_lt, if◌then◌else◌, [], Option, Some, None, replicate}
use Rattle.std.specs.List.{find, filter, filter_map, list_any}
use Rattle.group_defs.specs.Calls.{Reply, waits, refuses, answers, ends, stores}
use Rattle.group_defs.specs.declared.calls.TheConstants.{ECHILD, EFAULT, EINVAL}
use Rattle.group_defs.specs.Changes.{with_procs}
use Rattle.group_defs.specs.Group.{Group, is_running, is_runner}
use Rattle.group_defs.specs.Held.{settled}
use Rattle.group_defs.specs.declared.frame.Proc.{Proc}
use Rattle.group_defs.specs.declared.frame.ProcState.TheVariants.{Running, Ended}
use Rattle.rv64_isa.specs.Memory.{Cells, can_write}
use Rattle.rv64_isa.specs.Numbers.{bytes_of, low_word}
use Rattle.rv64_isa.specs.Registers.{a0, a1, a2, a3}
use Rattle.rv64_isa.specs.declared.regs.Regs.{Regs}

-- the status is 256 times the low 8 bits of the code
abbrev pub exit : Regs → Reply Group
exit r = ends (256 * (a0 r % 256))

-- what stays of an ended process that has a parent: its pid, its parent and its status
abbrev pub ended_process : Proc → ℕ → Proc
ended_process p status = record { pid = p.pid; parent = p.parent; state = Ended status; pc = 0; regs = replicate 31 0; brk_base = 0; brk = 0; maps = []; fds = [] }

-- What becomes of the process q when p ends. p stays as ended where it has a parent.
-- Of its children the ended ones are removed, and the running ones have no parent any more.
abbrev pub after_end : Proc → ℕ → Proc → Option Proc
after_end p status q =
    if is_runner p.pid q then (if p.parent == 0 then None else Some (ended_process p status))
    else if q.parent == p.pid then (if is_running q then Some (record q { parent = 0 }) else None)
    else Some q

-- the group after the process p ended with this status: its descriptors close and its mappings go
unfoldable pub ended : Group → Proc → ℕ → Group
ended g p status = settled (with_procs g (filter_map (after_end p status) g.frame.procs))

-- wait4. -1 names any child.
abbrev pub status_of : Proc → ℕ
status_of q = elim q.state [ Running ↦ 0 | Ended status ↦ status ]

abbrev pub is_child : ℕ → ℕ → Proc → Bool
is_child caller wanted q = (q.parent == caller) && ((wanted == 2 ^ 32 - 1) || (wanted == q.pid))

abbrev pub without_proc : Group → ℕ → Group
without_proc g pid = with_procs g (filter (λ q. not (q.pid == pid)) g.frame.procs)

-- an ended child is removed
abbrev pub reaped : Group → Cells → ℕ → Proc → Reply Group
reaped g cells to q =
    if to == 0 then answers q.pid (without_proc g q.pid) []
    else if not (can_write cells to 4) then refuses EFAULT
    else answers q.pid (without_proc g q.pid) (stores to (bytes_of 4 (status_of q)))

-- the ended one with the least pid
abbrev pub wait_for : Group → Cells → ℕ → ℕ → Option Proc → Reply Group
wait_for g cells to options None = if options == 1 then answers 0 g [] else waits
wait_for g cells to options (Some q) = reaped g cells to q

abbrev pub is_good_for_wait : ℕ → ℕ → ℕ → Bool
is_good_for_wait pid options usage = ((options == 0) || (options == 1)) && (usage == 0) && not (pid == 0) && (nat_lt pid (2 ^ 31) || (pid == 2 ^ 32 - 1))

abbrev pub wait_child : Group → Proc → Cells → ℕ → ℕ → ℕ → ℕ → Reply Group
wait_child g p cells pid to options usage =
    if not (is_good_for_wait pid options usage) then refuses EINVAL
    else if not (list_any (is_child p.pid pid) g.frame.procs) then refuses ECHILD
    else wait_for g cells to options (find (λ q. is_child p.pid pid q && not (is_running q)) g.frame.procs)

abbrev pub wait4 : Group → Proc → Cells → Regs → Reply Group
wait4 g p cells r = wait_child g p cells (low_word (a0 r)) (a1 r) (low_word (a2 r)) (a3 r)

abbrev pub getpid : Group → Proc → Reply Group
getpid g p = answers p.pid g []

abbrev pub getppid : Group → Proc → Reply Group
getppid g p = answers p.parent g []

abbrev pub sched_yield : Group → Reply Group
sched_yield g = answers 0 g []
