-- A disk in memory that tells its commits, for tests.
use Rattle.std.specs.Prelude.{true, false, List, [], ◌∷◌, Some}
use Rattle.dev_traits.specs.Commits.{Commits, wrote, synced, nothing_written}
use Rattle.dev_traits.specs.Disk.{DiskView}
use Rattle.dev_traits.specs.MemDisk.{disk_view, disk_calls}
use Rattle.dev_traits.specs.Record.{Event, read_call, write_call, sync_call}
use Rattle.dev_traits.specs.declared.mem.disk.MemDisk.{MemDisk}

-- the commits of these calls, the newest first
abbrev pub commits_of : List Event → Commits
commits_of [] = record { ended = []; now = Some nothing_written }
commits_of (read_call ∷ older) = commits_of older
commits_of (write_call place bytes true ∷ older) = wrote place bytes (commits_of older)
commits_of (write_call place bytes false ∷ older) = commits_of older
commits_of (sync_call true ∷ older) = synced (commits_of older)
commits_of (sync_call false ∷ older) = commits_of older

abbrev pub telling_view : MemDisk → DiskView
telling_view d = record (disk_view d) { commits = commits_of (disk_calls d) }
