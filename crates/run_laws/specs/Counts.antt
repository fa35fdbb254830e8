-- What stands after the marks of a trace, by counting and searching them.
use Rattle.std.specs.Prelude.{◌≡◌, ℕ, ◌+◌, ◌&&◌, ◌==◌, nat_lt, nat_le, map, not, Bool, false, List, [], ◌∷◌, ◌++◌}
use Rattle.std.specs.List.{filter, list_any, fold}
use Rattle.run_defs.specs.Marks.{all_acked, barriers_in, is_ack_of, is_barrier_of, is_fetch_of, since_barrier, turns_in}
use Rattle.run_defs.specs.Progress.{Progress}
use Rattle.run_defs.specs.Turns.{does_something}
use Rattle.run_defs.specs.declared.run.Mark.{Mark}
use Rattle.run_defs.specs.declared.run.Mark.TheVariants.{Take, Turn}

-- The leases that are out, each a worker and a pid: from its Take to its Turn.
abbrev pub leases_after : List (ℕ × ℕ) → Mark → List (ℕ × ℕ)
leases_after held (Take worker pid) = held ++ (worker, pid) ∷ []
leases_after held (Turn worker pid n) = filter (λ l. not ((l.0 == worker) && (l.1 == pid))) held
leases_after held m = held

abbrev pub leases_in : List Mark → List (ℕ × ℕ)
leases_in marks = fold leases_after [] marks

-- the pid of the last Take, or 0
abbrev pub taken_after : ℕ → Mark → ℕ
taken_after last (Take worker pid) = pid
taken_after last m = last

abbrev pub last_taken : List Mark → ℕ
last_taken marks = fold taken_after 0 marks

-- a Turn that does something
abbrev pub did_something : Progress → Mark → Bool
did_something r (Turn worker pid n) = does_something r.state pid n
did_something r m = false

-- an epoch past the first and up to the last
abbrev pub is_between : ℕ → ℕ → ℕ → Bool
is_between first last epoch = nat_lt first epoch && nat_le epoch last

-- What stands after a legal trace from an origin's epoch, by these words.
pub record IsCounted (origin_epoch : ℕ) (marks : List Mark) (r : Progress) : Type 0 where
  pub turns : r.turns ≡ turns_in marks
  pub turns_since : r.turns_since ≡ turns_in (since_barrier marks)
  pub leases : map (λ l. (l.worker, l.pid)) r.leases ≡ leases_in marks
  pub taken : r.taken ≡ last_taken marks
  pub barriers : r.state.standing.last ≡ origin_epoch + barriers_in marks
  pub made : (epoch : ℕ) → list_any (is_barrier_of epoch) marks ≡ is_between origin_epoch r.state.standing.last epoch
  pub fetched : (epoch : ℕ) → list_any (is_fetch_of epoch) marks ≡ is_between origin_epoch r.fetched epoch
  pub acked : (epoch : ℕ) → list_any (is_ack_of epoch) marks ≡ is_between origin_epoch r.state.standing.acked epoch
  pub all_acked : all_acked marks ≡ (r.state.standing.acked == r.state.standing.last)
