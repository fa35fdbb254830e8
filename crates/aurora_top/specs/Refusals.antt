-- Why a command is refused before its run.
use Rattle.std.specs.Prelude.{◌≡◌, ℕ, IsTrue, List, None}
use Rattle.std.specs.Option.{ForSome, is_some}
use Rattle.dev_traits.specs.Counts.{Rose}
use Rattle.dev_traits.specs.Disk.{DiskView}
use Rattle.dev_traits.specs.Outside.{FilesView, SinkView}
use Rattle.group_defs.specs.Group.{Group}
use Rattle.group_defs.specs.Output.{last_position}
use Rattle.ckpt_chain.specs.Slot.{newest}
use Rattle.restore_group.specs.Outcome.{HoldsNothing, IsOpenAt}
use Rattle.ckpt_records.specs.Origin.{HasSize, IsUnworn, IsWithin}
use Rattle.aurora_top.specs.Beginnings.{Asks, AsksRestore, AsksRun, BeginsWith, CanBegin, SuitsDisk}
use Rattle.group_boot.specs.Manifest.{NamesImage}
use Rattle.command_words.specs.Words.{command_of_words}
use Rattle.command_words.specs.declared.words.Command.{Command}
use Rattle.command_words.specs.declared.words.Beginning.TheVariants.{Manifest, Checkpoint}
use Rattle.command_words.specs.declared.end.End.{End}
use Rattle.command_words.specs.declared.end.End.TheVariants.{Usage, NotBuilt, NoCheckpoint, Occupied, Damaged, DiskFault, FilesFault, NoMemory, DiskShape, SinkStrange, Worn}

-- the output's count isn't between the first and the last position of the output that the run begins with
pub record IsStrange (start : Group) (out : SinkView) (count from last : ℕ) : Type 0 where
  pub count_is : count ≡ out.count
  pub from_is : from ≡ start.frame.out.from
  pub last_is : last ≡ last_position start.frame.out
  pub outside : IsWithin out start.frame.out → ⊥

-- Each reason says that no test before its own found anything: the words, the disk's size, the opening, the slots, what is
-- held or named, and the output, in this order. The devices are those before and after.
abbrev pub Refused : List (List ℕ) → DiskView → DiskView → FilesView → FilesView → SinkView → End → Type 0
Refused words disk disk' files files' out Usage = command_of_words words ≡ None
Refused words disk disk' files files' out (DiskShape blocks) = IsTrue (is_some (command_of_words words)) × (blocks ≡ disk.blocks) × (HasSize disk.blocks → ⊥)
Refused words disk disk' files files' out DiskFault = (command : Command (List ℕ)) × Asks words disk.blocks command × Rose disk.faults disk'.faults
Refused words disk disk' files files' out (Occupied epoch) = (manifest : List ℕ) × AsksRun words disk.blocks manifest × ForSome disk.reading (λ r. IsOpenAt r epoch)
Refused words disk disk' files files' out NoCheckpoint = AsksRestore words disk.blocks × ForSome disk.reading (λ r. newest r ≡ None)
Refused words disk disk' files files' out (Damaged epoch) = AsksRestore words disk.blocks × ForSome disk.reading (λ r. IsOpenAt r epoch × HoldsNothing r)
Refused words disk disk' files files' out (Worn epoch) =
    AsksRestore words disk.blocks × (start : Group) × BeginsWith Checkpoint disk files start epoch × (IsUnworn epoch start.frame → ⊥)
Refused words disk disk' files files' out FilesFault =
    (manifest : List ℕ) × AsksRun words disk.blocks manifest × SuitsDisk (Manifest manifest) disk × Rose files.faults files'.faults
Refused words disk disk' files files' out NotBuilt =
    (manifest : List ℕ) × AsksRun words disk.blocks manifest × SuitsDisk (Manifest manifest) disk
    × ForSome files.contents (λ contents. (image : List ℕ) → NamesImage contents manifest image → ⊥)
Refused words disk disk' files files' out (SinkStrange count from last) =
    (command : Command (List ℕ)) × (start : Group) × (epoch : ℕ) × CanBegin words disk files command start epoch × IsStrange start out count from last
Refused words disk disk' files files' out NoMemory = (command : Command (List ℕ)) × Asks words disk.blocks command × SuitsDisk command.beginning disk
Refused words disk disk' files files' out end = ⊥
