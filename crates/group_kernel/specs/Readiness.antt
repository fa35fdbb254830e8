-- Which rows' processes are here and don't wait, and which of them is taken next.
use Rattle.std.specs.Prelude.{ℕ, ◌+◌, ◌&&◌, not, nat_lt, Bool, true, false, if◌then◌else◌, List, [], ◌∷◌, Option, Some, None}
use Rattle.descriptors.specs.Opens.{descriptions}
use Rattle.group_kernel.specs.Held.{TablesView}
use Rattle.syscalls_io.specs.Outside.{waits_for_room}
use Rattle.proc_lease.specs.Sight.{cells_between}
use Rattle.group_kernel.specs.declared.row.Row.{Row}
use Rattle.proc_lease.specs.declared.process.Process.{Process}
use Rattle.rv64_isa.specs.Instruction.{Effect, steps, calls, traps, instruction}

abbrev pub is_call : Effect → Bool
is_call (steps r stored) = false
is_call calls = true
is_call (traps status) = false

-- It stands at a call that must wait.
abbrev pub waits_here : TablesView → Row → Process → Bool
waits_here t row p = is_call (instruction (cells_between p t.shared) p.regs) && waits_for_room row.fds.entries (descriptions t.io.opens.entries) t.io.out p.regs

abbrev pub is_ready_with : TablesView → Row → Option Process → Bool
is_ready_with t row None = false
is_ready_with t row (Some p) = not (waits_here t row p)

abbrev pub is_ready_row : TablesView → Row → Bool
is_ready_row t row = is_ready_with t row row.process

-- the first, or the second where there is none
abbrev pub or_else : Option ℕ → ℕ → Option ℕ
or_else None n = Some n
or_else (Some m) n = Some m

-- Of rows from a place on the first that passes with a pid above the last one taken, else the first that passes.
unfoldable pub next_in : (Row → Bool) → ℕ → List Row → ℕ → Option ℕ → Option ℕ
next_in test taken [] place least = least
next_in test taken (row ∷ rows) place least =
    if test row then (if nat_lt taken row.pid then Some place else next_in test taken rows (place + 1) (or_else least place)) else next_in test taken rows (place + 1) least
