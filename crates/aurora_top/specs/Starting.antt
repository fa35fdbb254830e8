-- A disk that is opened or isn't, and the origin of a run that can begin.
use Rattle.std.specs.Prelude.{◌≡◌, ◌≤◌, ℕ, List}
use Rattle.std.specs.Option.{ForSome}
use Rattle.dev_traits.specs.Disk.{DiskView, OnlyReading, Passes}
use Rattle.dev_traits.specs.Outside.{FilesView, SinkView}
use Rattle.ckpt_records.specs.declared.origin.Origin.{Origin}
use Rattle.ckpt_records.specs.Parts.{group_of}
use Rattle.ckpt_records.specs.Origin.{IsOrigin, IsOriginOf, IsUnworn}
use Rattle.sls_core.specs.Safe.{IsUnwritten}
use Rattle.aurora_top.specs.Beginnings.{BeginsWith, SuitsDisk}
use Rattle.aurora_top.specs.Opening.{IsOpening}
use Rattle.aurora_top.specs.Refusals.{Refused}
use Rattle.command_words.specs.declared.words.Beginning.{Beginning}
use Rattle.command_words.specs.declared.end.End.{End}

-- Its opening sync answered Ok at this moment.
pub record IsOpened (at : ℕ) (before after : DiskView) : Type 0 where
  pub at_is : at ≡ after.moment
  pub unwritten : IsUnwritten before after
  pub time : Passes before after
  pub only : OnlyReading after

-- The command was refused before that.
pub record IsUnopened (words : List (List ℕ)) (before after : DiskView) (e : End) : Type 0 where
  pub why : (files files' : FilesView) (out : SinkView) → Refused words before after files files' out e
  pub opening : IsOpening e after.moment before after
  pub unwritten : IsUnwritten before after
  pub later : before.moment ≤ after.moment

-- The origin is the one of this beginning, and the disk's.
pub record IsBegun (beginning : Beginning (List ℕ)) (disk : DiskView) (files : FilesView) (o : Origin) : Type 0 where
  pub suits : SuitsDisk beginning disk
  pub begins : BeginsWith beginning disk files (group_of o.parts) o.epoch
  pub unworn : IsUnworn o.epoch o.parts.frame
  pub origin : IsOrigin disk.blocks o
  pub held : ForSome disk.reading (λ r. IsOriginOf r o)
