-- What stands beside a group: what of its processes' steps a checkpoint on the disk covers.
use Rattle.std.specs.Prelude.{ℕ, ◌+◌, ◌||◌, ◌==◌, nat_le, Bool, if◌then◌else◌, List, map, Some, None}
use Rattle.std.specs.List.{find}
use Rattle.group_defs.specs.Changes.{with_out}
use Rattle.group_defs.specs.Group.{Group}
use Rattle.group_defs.specs.Output.{out_after_barrier}
use Rattle.group_defs.specs.declared.frame.Proc.{Proc}

-- The last barrier's epoch, the last acknowledged one, and for each process the first epoch whose barrier covers all its steps.
pub record Standing : Type 0 where
  pub last : ℕ
  pub acked : ℕ
  pub since : List (ℕ × ℕ)

pub record State : Type 0 where
  pub group : Group
  pub standing : Standing

-- at an origin everything is covered
abbrev pub standing_at : ℕ → Group → Standing
standing_at epoch g = record { last = epoch; acked = epoch; since = map (λ p. (p.pid, 0)) g.frame.procs }

abbrev pub state_at : ℕ → Group → State
state_at epoch g = record { group = g; standing = standing_at epoch g }

abbrev pub since_of : Standing → ℕ → ℕ
since_of s pid = elim (find (λ e. e.0 == pid) s.since) [ None ↦ 0 | Some e ↦ e.1 ]

-- every step of the process is in an acknowledged barrier
unfoldable pub is_durable : Standing → ℕ → Bool
is_durable s pid = nat_le (since_of s pid) s.acked

-- Of the group a barrier changes the output alone.
abbrev pub group_barrier : Group → Group
group_barrier g = with_out g (out_after_barrier g.frame.out)

-- It covers all steps so far.
abbrev pub barrier : State → ℕ → State
barrier s epoch = record { group = group_barrier s.group; standing = record s.standing { last = epoch } }

abbrev pub acknowledged : State → ℕ → State
acknowledged s epoch = record s { standing = record s.standing { acked = epoch } }

-- After a step of a process: it, and a child that the step made (under next), are covered by the next barrier first.
abbrev pub since_after : Standing → ℕ → ℕ → Proc → ℕ × ℕ
since_after s pid next q = (q.pid, if (q.pid == pid) || (q.pid == next) then s.last + 1 else since_of s q.pid)

unfoldable pub stepped : Standing → ℕ → ℕ → List Proc → Standing
stepped s pid next procs = record s { since = map (since_after s pid next) procs }
