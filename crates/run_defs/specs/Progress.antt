-- How far a run is: what stands after some of its marks, and what each mark does to it.
use Rattle.std.specs.Prelude.{◌≡◌, ℕ, ◌+◌, ◌-◌, ◌&&◌, ◌||◌, ◌==◌, not, Bool, true, false, List, [], ◌∷◌, ◌++◌, length, map, drop, take, Option, Some}
use Rattle.std.specs.List.{filter, find, fold}
use Rattle.std.specs.Option.{option_map}
use Rattle.group_defs.specs.Group.{Group}
use Rattle.group_defs.specs.Pages.{all_pages, is_among}
use Rattle.group_defs.specs.Standing.{State, acknowledged, barrier, state_at}
use Rattle.run_defs.specs.Touched.{touched_at_start, touched_with_turn}
use Rattle.run_defs.specs.Turns.{does_something, turned}
use Rattle.run_defs.specs.declared.run.Mark.{Mark}
use Rattle.run_defs.specs.declared.run.Mark.TheVariants.{Take, Turn, Barrier, Fetch, Ack}

-- A lease, from its Take to its Turn; and whether a Turn since the Take did something.
pub record Lease : Type 0 where
  pub worker : ℕ
  pub pid : ℕ
  pub moved : Bool

-- The group right after the Barrier of an epoch, and those of its pages that the interval before it touched.
pub record Checkpoint : Type 0 where
  pub epoch : ℕ
  pub group : Group
  pub touched : List (ℕ × ℕ)

-- The standing has the epochs of the last Barrier and of the last Ack.
pub record Progress : Type 0 where
  pub state : State
  -- the epoch of the last Fetch
  pub fetched : ℕ
  -- those that are out, in the order of their Takes
  pub leases : List Lease
  -- the pid of the last Take, or 0
  pub taken : ℕ
  -- the Turns in all, and those since the last Barrier
  pub turns : ℕ
  pub turns_since : ℕ
  -- the bytes at the positions from the first group's `from` on
  pub output : List ℕ
  -- the pages that the interval touched so far
  pub touched : List (ℕ × ℕ)
  -- the first group under the run's own epoch, and one for each Barrier, in their order
  pub checkpoints : List Checkpoint

-- at the origin, which counts as fetched and acknowledged
abbrev pub progress_at : ℕ → Group → Progress
progress_at epoch g = record {
  state = state_at epoch g;
  fetched = epoch;
  leases = [];
  taken = 0;
  turns = 0;
  turns_since = 0;
  output = g.frame.out.bytes;
  touched = touched_at_start epoch g;
  checkpoints = record { epoch = epoch; group = g; touched = [] } ∷ [];
}

abbrev pub is_lease : ℕ → ℕ → Lease → Bool
is_lease worker pid l = (l.worker == worker) && (l.pid == pid)

-- the leases after a Turn, which did something or not
abbrev pub leases_after_turn : ℕ → ℕ → Bool → List Lease → List Lease
leases_after_turn worker pid did leases = map {A = Lease} (λ l. record l { moved = did || l.moved }) (filter (λ l. not (is_lease worker pid l)) leases)

-- what a group's output has behind an earlier one's, which a turn only adds to
abbrev pub appended : Group → Group → List ℕ
appended g h = drop (length g.frame.out.bytes) h.frame.out.bytes

abbrev pub after_turn : ℕ → Progress → ℕ → ℕ → ℕ → Progress
after_turn quantum r worker pid n = record r {
  state = turned quantum r.state pid n;
  leases = leases_after_turn worker pid (does_something r.state pid n) r.leases;
  turns = r.turns + 1;
  turns_since = r.turns_since + 1;
  output = r.output ++ appended r.state.group (turned quantum r.state pid n).group;
  touched = touched_with_turn quantum r.state pid n r.touched;
}

-- A barrier ends an interval.
abbrev pub checkpoint : Progress → ℕ → Checkpoint
checkpoint r epoch = record { epoch = epoch; group = (barrier r.state epoch).group; touched = filter (is_among r.touched) (all_pages r.state.group.frame) }

abbrev pub after_barrier : Progress → ℕ → Progress
after_barrier r epoch = record r { state = barrier r.state epoch; turns_since = 0; touched = []; checkpoints = r.checkpoints ++ checkpoint r epoch ∷ [] }

abbrev pub after_mark : ℕ → Progress → Mark → Progress
after_mark quantum r (Take worker pid) = record r { leases = r.leases ++ record { worker = worker; pid = pid; moved = false } ∷ []; taken = pid }
after_mark quantum r (Turn worker pid n) = after_turn quantum r worker pid n
after_mark quantum r (Barrier epoch) = after_barrier r epoch
after_mark quantum r (Fetch epoch) = record r { fetched = epoch }
after_mark quantum r (Ack epoch) = record r { state = acknowledged r.state epoch }

-- after these marks
abbrev pub progress_after : ℕ → Progress → List Mark → Progress
progress_after quantum r marks = fold (after_mark quantum) r marks

-- each mark meets a condition on what stands before it
unfoldable pub EachMark : (Progress → Mark → Type 0) → ℕ → Progress → List Mark → Type 0
EachMark Meets quantum r [] = Unit {0}
EachMark Meets quantum r (m ∷ ms) = Meets r m × EachMark Meets quantum (after_mark quantum r m) ms

-- The checkpoint of an epoch: its group, the position up to which the output stands in it, and the pages that the interval touched.
abbrev pub checkpoint_of : Progress → ℕ → Option Checkpoint
checkpoint_of r epoch = find (λ c. c.epoch == epoch) r.checkpoints

abbrev pub group_of_epoch : Progress → ℕ → Option Group
group_of_epoch r epoch = option_map (λ c. c.group) (checkpoint_of r epoch)

abbrev pub IsGroupOf : Progress → ℕ → Group → Type 0
IsGroupOf r epoch h = group_of_epoch r epoch ≡ Some h

abbrev pub mark_of : Progress → ℕ → Option ℕ
mark_of r epoch = option_map (λ h. h.frame.out.mark) (group_of_epoch r epoch)

abbrev pub touched_pages : Progress → ℕ → Option (List (ℕ × ℕ))
touched_pages r epoch = option_map (λ c. c.touched) (checkpoint_of r epoch)

-- the output's bytes from one position up to another, in a run from this group
abbrev pub output_between : Group → Progress → ℕ → ℕ → List ℕ
output_between start r from to = drop (from - start.frame.out.from) (take (to - start.frame.out.from) r.output)
