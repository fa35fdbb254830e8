-- How near the numbers that only rise are to their types' ends, and how far a step takes them.
use Rattle.std.specs.Prelude.{ℕ, ◌+◌, ◌^◌, ◌≤◌}
use Rattle.group_defs.specs.Group.{Group}
use Rattle.group_defs.specs.Output.{last_position}

-- the next numbers and the last position are far from their types' ends
pub record IsFresh (g : Group) : Type 0 where
  pub object : g.frame.next.object ≤ 2 ^ 63
  pub descr : g.frame.next.descr ≤ 2 ^ 63
  pub pipe : g.frame.next.pipe ≤ 2 ^ 63
  pub pair : g.frame.next.pair ≤ 2 ^ 63
  pub position : last_position g.frame.out ≤ 2 ^ 63

-- A fork copies at most 4,096 objects; pipe2 and socketpair make two descriptions; a write to the outside appends at most 1,048,576 bytes.
pub record Rises (g h : Group) : Type 0 where
  pub object : h.frame.next.object ≤ g.frame.next.object + 4096
  pub descr : h.frame.next.descr ≤ g.frame.next.descr + 2
  pub pipe : h.frame.next.pipe ≤ g.frame.next.pipe + 1
  pub pair : h.frame.next.pair ≤ g.frame.next.pair + 1
  pub position : last_position h.frame.out ≤ last_position g.frame.out + 1048576
