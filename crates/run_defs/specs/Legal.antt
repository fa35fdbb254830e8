-- Which traces are legal: what must stand before each mark.
use Rattle.std.specs.Prelude.{◌≡◌, ◌⊎◌, ℕ, ◌+◌, ◌<◌, ◌≤◌, max, ◌&&◌, ◌||◌, ◌==◌, not, nat_lt, Bool, List, [], map, length, Option, Some, None, IsTrue, slice_get, All}
use Rattle.std.specs.List.{find, filter, list_any}
use Rattle.group_defs.specs.Group.{Group, is_running}
use Rattle.group_defs.specs.Standing.{State}
use Rattle.group_defs.specs.Step.{is_waiting}
use Rattle.run_defs.specs.Progress.{EachMark, Lease, Progress, is_lease, progress_at}
use Rattle.run_defs.specs.Turns.{IsTurn, does_something}
use Rattle.run_defs.specs.declared.run.Limits.{Limits}
use Rattle.run_defs.specs.declared.run.Mark.{Mark}
use Rattle.run_defs.specs.declared.run.Mark.TheVariants.{Take, Turn, Barrier, Fetch, Ack}

-- the pids that run and don't wait; they rise, as the processes of a valid group do
unfoldable pub ready : State → List ℕ
ready s = map (λ p. p.pid) (filter (λ p. is_running p && not (is_waiting s p.pid)) s.group.frame.procs)

-- the least one above the last one taken, else the least
abbrev pub next_pid : ℕ → List ℕ → Option ℕ
next_pid last pids = elim (find (nat_lt last) pids) [ Some pid ↦ Some pid | None ↦ slice_get pids 0 ]

abbrev pub is_unleased : List Lease → ℕ → Bool
is_unleased leases pid = not (list_any (λ l. l.pid == pid) leases)

abbrev pub is_idle : List Lease → ℕ → Bool
is_idle leases worker = not (list_any (λ l. l.worker == worker) leases)

-- 0 workers are one thread, which is worker 0; the process runs, doesn't wait and has no lease
pub record TakeAllowed (limits : Limits) (r : Progress) (worker pid : ℕ) : Type 0 where
  pub worker_is : worker < max 1 limits.workers
  pub idle : IsTrue (is_idle r.leases worker)
  pub next : next_pid r.taken (filter (is_unleased r.leases) (ready r.state)) ≡ Some pid
  pub interval : r.turns_since + length r.leases < limits.every
  pub turns : r.turns + length r.leases < limits.turns

-- a Turn that did something stands since the Take of this lease
abbrev pub has_moved : List Lease → ℕ → ℕ → Bool
has_moved leases worker pid = list_any (λ l. is_lease worker pid l && l.moved) leases

pub record TurnAllowed (limits : Limits) (r : Progress) (worker pid n : ℕ) : Type 0 where
  pub leased : IsTrue (list_any (is_lease worker pid) r.leases)
  pub turn : IsTurn limits.quantum r.state pid n
  pub moves : IsTrue (does_something r.state pid n || has_moved r.leases worker pid)

-- no lease is out, and the last Barrier has its Ack
pub record IsAtRest (r : Progress) : Type 0 where
  pub no_lease : r.leases ≡ []
  pub acked : r.state.standing.acked ≡ r.state.standing.last

-- a Turn stands since the last Barrier, and the interval is full, all turns are made, or no process is ready
pub record HasBarrierCause (limits : Limits) (r : Progress) : Type 0 where
  pub turn : 0 < r.turns_since
  pub cause : (r.turns_since ≡ limits.every) ⊎ ((r.turns ≡ limits.turns) ⊎ (ready r.state ≡ []))

pub record BarrierAllowed (limits : Limits) (r : Progress) (epoch : ℕ) : Type 0 where
  pub rises : epoch ≡ r.state.standing.last + 1
  pub rests : IsAtRest r
  pub cause : HasBarrierCause limits r

-- made, and not fetched yet
pub record FetchAllowed (r : Progress) (epoch : ℕ) : Type 0 where
  pub made : epoch ≤ r.state.standing.last
  pub first : r.fetched < epoch

-- fetched, and not acknowledged yet
pub record AckAllowed (r : Progress) (epoch : ℕ) : Type 0 where
  pub fetched : epoch ≤ r.fetched
  pub first : r.state.standing.acked < epoch

abbrev pub Allowed : Limits → Progress → Mark → Type 0
Allowed limits r (Take worker pid) = TakeAllowed limits r worker pid
Allowed limits r (Turn worker pid n) = TurnAllowed limits r worker pid n
Allowed limits r (Barrier epoch) = BarrierAllowed limits r epoch
Allowed limits r (Fetch epoch) = FetchAllowed r epoch
Allowed limits r (Ack epoch) = AckAllowed r epoch

-- each mark is allowed after those before it, in a run from this group and epoch
abbrev pub Legal : Group → ℕ → Limits → List Mark → Type 0
Legal start origin_epoch limits marks = EachMark (Allowed limits) limits.quantum (progress_at origin_epoch start) marks
