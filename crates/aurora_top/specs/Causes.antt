-- Why a part of a command's start was refused: its disk's slots, its manifest and its image.
use Rattle.std.specs.Option.{ForSome}
use Rattle.dev_traits.specs.Counts.{Rose}
use Rattle.dev_traits.specs.Disk.{DiskView}
use Rattle.restore_group.specs.Outcome.{IsOpenAt}
use Rattle.restore_group.specs.declared.restoring.Refused.{Refused}
use Rattle.restore_group.specs.declared.restoring.Refused.TheVariants as restored
use Rattle.command_words.specs.declared.end.End.{End}
use Rattle.command_words.specs.declared.end.End.TheVariants as ends
use Rattle.group_boot.specs.declared.manifest.LoadRefused.{LoadRefused}
use Rattle.group_boot.specs.declared.manifest.LoadRefused.TheVariants as loads
use Rattle.aurora_top.specs.declared.opening.OpenRefused.{OpenRefused}
use Rattle.aurora_top.specs.declared.opening.OpenRefused.TheVariants as opens

abbrev pub RefusedByDisk : DiskView → DiskView → OpenRefused → Type 0
RefusedByDisk before after (opens.Occupied epoch) = ForSome before.reading (λ r. IsOpenAt r epoch)
RefusedByDisk before after opens.DiskFault = Rose before.faults after.faults

-- the end of a command whose part was refused so
abbrev pub end_opening : OpenRefused → End
end_opening (opens.Occupied epoch) = ends.Occupied epoch
end_opening opens.DiskFault = ends.DiskFault

abbrev pub end_loading : LoadRefused → End
end_loading loads.NotBuilt = ends.NotBuilt
end_loading loads.FilesFault = ends.FilesFault
end_loading loads.NoMemory = ends.NoMemory

abbrev pub end_restoring : Refused → End
end_restoring restored.NoCheckpoint = ends.NoCheckpoint
end_restoring (restored.Damaged epoch) = ends.Damaged epoch
end_restoring restored.DiskFault = ends.DiskFault
end_restoring restored.NoMemory = ends.NoMemory
