-- Where the run of a command begins.
use Rattle.std.specs.Prelude.{◌≡◌, ◌≤◌, ℕ, List, Some, None}
use Rattle.std.specs.Option.{ForSome}
use Rattle.dev_traits.specs.Disk.{DiskView}
use Rattle.dev_traits.specs.Outside.{FilesView}
use Rattle.group_defs.specs.Group.{Group}
use Rattle.ckpt_chain.specs.Slot.{newest}
use Rattle.ckpt_records.specs.Holds.{Holds, IsCheckpointed}
use Rattle.ckpt_records.specs.Origin.{HasSize, IsUnworn}
use Rattle.group_boot.specs.Flat.{flat_group}
use Rattle.group_boot.specs.Manifest.{IsNamed}
use Rattle.command_words.specs.Words.{command_of_words}
use Rattle.command_words.specs.declared.words.Command.{Command}
use Rattle.command_words.specs.declared.words.Beginning.{Beginning}
use Rattle.command_words.specs.declared.words.Beginning.TheVariants.{Manifest, Checkpoint}

-- The words spell this command, and the disk has a size that it may have.
pub record Asks (words : List (List ℕ)) (blocks : ℕ) (command : Command (List ℕ)) : Type 0 where
  pub spelled : command_of_words words ≡ Some command
  pub size : HasSize blocks

-- ... one that begins with a manifest, or with the disk's newest checkpoint
abbrev pub AsksRun : List (List ℕ) → ℕ → List ℕ → Type 0
AsksRun words blocks manifest = (command : Command (List ℕ)) × Asks words blocks command × (command.beginning ≡ Manifest manifest)

abbrev pub AsksRestore : List (List ℕ) → ℕ → Type 0
AsksRestore words blocks = (command : Command (List ℕ)) × Asks words blocks command × (command.beginning ≡ Checkpoint)

-- A manifest's first group wants a disk without an open slot, and restoring wants one with an open slot.
abbrev pub SuitsDisk : Beginning (List ℕ) → DiskView → Type 0
SuitsDisk (Manifest manifest) disk = ForSome disk.reading (λ r. newest r ≡ None)
SuitsDisk Checkpoint disk = ForSome disk.reading (λ r. newest r ≡ None → ⊥)

-- The group and the epoch that a run begins with: the first group of the manifest's image under epoch 0, or what the disk
-- holds.
abbrev pub BeginsWith : Beginning (List ℕ) → DiskView → FilesView → Group → ℕ → Type 0
BeginsWith (Manifest manifest) disk files start epoch = (image : List ℕ) × IsNamed files manifest image × (start ≡ flat_group image) × (epoch ≡ 0)
BeginsWith Checkpoint disk files start epoch = ForSome disk.reading (λ r. Holds r epoch start) × IsCheckpointed start × (1 ≤ epoch)

-- The tests of a command find nothing, but for that of the output's count.
pub record CanBegin (words : List (List ℕ)) (disk : DiskView) (files : FilesView) (command : Command (List ℕ)) (start : Group) (epoch : ℕ) : Type 0 where
  pub asks : Asks words disk.blocks command
  pub suits : SuitsDisk command.beginning disk
  pub begins : BeginsWith command.beginning disk files start epoch
  pub unworn : IsUnworn epoch start.frame
