-- When a command must come to an end of its own.
use Rattle.std.specs.Prelude.{◌≡◌, ℕ, ⊤, List, None}
use Rattle.std.specs.Option.{MatchOption}
use Rattle.dev_traits.specs.Counts.{Rose}
use Rattle.dev_traits.specs.Disk.{DiskView}
use Rattle.dev_traits.specs.Outside.{FilesView, SinkView}
use Rattle.group_defs.specs.Group.{Group}
use Rattle.ckpt_chain.specs.Slot.{newest}
use Rattle.ckpt_records.specs.Holds.{Holds}
use Rattle.ckpt_records.specs.Origin.{IsUnworn, IsWithin}
use Rattle.aurora_top.specs.Beginnings.{Asks}
use Rattle.group_boot.specs.Manifest.{NamesImage}
use Rattle.command_words.specs.declared.words.Command.{Command}
use Rattle.command_words.specs.declared.words.Beginning.{Beginning}
use Rattle.command_words.specs.declared.words.Beginning.TheVariants.{Manifest, Checkpoint}
use Rattle.command_words.specs.declared.end.End.{End}
use Rattle.command_words.specs.declared.end.End.TheVariants.{Done, Stuck, Spent, DiskFull, NoMemory}

-- The image holds a group that isn't worn, and the output's count is within its bounds.
pub record CanBeRestored (image : List ℕ) (out : SinkView) : Type 0 where
  pub epoch : ℕ
  pub start : Group
  pub held : Holds image epoch start
  pub unworn : IsUnworn epoch start.frame
  pub within : IsWithin out start.frame.out

-- What a command needs is told: for a manifest no open slot, its image and an empty output; else a group that can be restored.
abbrev pub IsGiven : Beginning (List ℕ) → DiskView → FilesView → SinkView → Type 0
IsGiven (Manifest manifest) disk files out =
    MatchOption disk.reading ⊥ (λ r. newest r ≡ None) × MatchOption files.contents ⊥ (λ contents. (image : List ℕ) × NamesImage contents manifest image) × (out.count ≡ 0)
IsGiven Checkpoint disk files out = MatchOption disk.reading ⊥ (λ r. CanBeRestored r out)

-- ... and no device's count of faults rose
pub record IsUnhindered (words : List (List ℕ)) (disk disk' : DiskView) (files files' : FilesView) (out out' : SinkView) : Type 0 where
  pub command : Command (List ℕ)
  pub asks : Asks words disk.blocks command
  pub given : IsGiven command.beginning disk files out
  pub disk_works : Rose disk.faults disk'.faults → ⊥
  pub files_work : Rose files.faults files'.faults → ⊥
  pub sink_works : Rose out.faults out'.faults → ⊥

-- the run ended by itself, or for want of blocks or memory
abbrev pub IsOfRun : End → Type 0
IsOfRun (Done epoch turns output) = ⊤
IsOfRun (Stuck epoch turns output) = ⊤
IsOfRun (Spent epoch turns output) = ⊤
IsOfRun (DiskFull need free) = ⊤
IsOfRun NoMemory = ⊤
IsOfRun end = ⊥
