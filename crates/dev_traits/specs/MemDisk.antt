-- A disk in memory as contracts see it.
use Rattle.std.specs.Prelude.{◌≡◌, ℕ, ◌*◌, ◌/◌, ◌≤◌, Bool, List, [], length, take}
use Rattle.dev_traits.specs.Disk.{DiskView}
use Rattle.dev_traits.specs.Record.{Event, told_view, is_refused}
use Rattle.dev_traits.specs.Lost.{lost_ranges}
use Rattle.dev_traits.specs.declared.mem.disk.MemDisk.{MemDisk}

abbrev pub disk_view : MemDisk → DiskView
disk_view d = told_view d.blocks d.faults d.writes d.start.items d.bytes.items (lost_ranges d.lost) d.calls.events

-- the calls in its record, the newest first
abbrev pub disk_calls : MemDisk → List Event
disk_calls d = d.calls.events

-- how many calls there may be
abbrev pub room_of : MemDisk → ℕ
room_of d = d.calls.room

-- the numbers of the calls that fail
abbrev pub disk_failing : MemDisk → List ℕ
disk_failing d = d.failing.items

-- what it held before the first call
abbrev pub start_of : MemDisk → List ℕ
start_of d = d.start.items

-- the next call fails
abbrev pub is_refused_next : MemDisk → Bool
is_refused_next d = is_refused d.calls.room d.failing.items (length d.calls.events)

-- a disk with these bytes, and no call yet
pub record IsNewDisk (d : MemDisk) (given : List ℕ) (many : ℕ) : Type 0 where
  pub holds : d.bytes.items ≡ take (4096 * (length given / 4096)) given
  pub start : d.start.items ≡ d.bytes.items
  pub blocks : d.blocks ≡ length given / 4096
  pub none_yet : d.calls.events ≡ []
  pub nothing_lost : lost_ranges d.lost ≡ []
  pub room : d.calls.room ≡ many
  pub failing : d.failing.items ≡ []
  pub faults : d.faults ≡ 0
  pub writes : d.writes ≡ 0

-- all but the numbers of the calls that fail
pub record IsSameDisk (d e : MemDisk) : Type 0 where
  pub blocks : e.blocks ≡ d.blocks
  pub start : e.start.items ≡ d.start.items
  pub bytes : e.bytes.items ≡ d.bytes.items
  pub calls : e.calls ≡ d.calls
  pub lost : e.lost ≡ d.lost
  pub faults : e.faults ≡ d.faults
  pub writes : e.writes ≡ d.writes

-- what no call of a disk changes, and that a full record stays
pub record KeepsRecord (d e : MemDisk) : Type 0 where
  pub start : e.start.items ≡ d.start.items
  pub room : e.calls.room ≡ d.calls.room
  pub failing : e.failing.items ≡ d.failing.items
  pub full : d.calls.room ≤ length d.calls.events → e.calls.events ≡ d.calls.events
