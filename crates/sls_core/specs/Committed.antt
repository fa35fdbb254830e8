-- What whole commits make of a disk: its write calls, the bytes that a read gives, and the commits that it tells.
use Rattle.std.specs.Prelude.{◌≡◌, ◌≢◌, ◌⊎◌, ◌↔◌, ◌≤◌, ◌<◌, ◌+◌, ℕ, Bool, ⊤, List, [], ◌∷◌, ◌++◌, map, length, slice_index, IsTrue, Option, Some, None}
use Rattle.std.specs.List.{fold, sum_by, AllByRecursion, AllPairs}
use Rattle.std.specs.Option.{ForSome, option_map}
use Rattle.dev_traits.specs.Commits.{Commit, nothing_written}
use Rattle.dev_traits.specs.Disk.{DiskView, OnlyReading}
use Rattle.group_defs.specs.Group.{Group}
use Rattle.group_defs.specs.Pages.{nonzero_pages}
use Rattle.run_defs.specs.Progress.{IsGroupOf}
use Rattle.run_defs.specs.declared.run.AckMark.{AckMark}
use Rattle.ckpt_chain.specs.Chain.{Has, first_of, metas_for}
use Rattle.ckpt_chain.specs.Slot.{body_bytes, gate_place}
use Rattle.ckpt_chain.specs.declared.slot.Slot.{Slot}
use Rattle.ckpt_chain.specs.declared.slot.SlotBody.{SlotBody}
use Rattle.ckpt_records.specs.Cost.{cost_of}
use Rattle.ckpt_records.specs.Holds.{HoldsAt, block_numbers, listed_page}
use Rattle.ckpt_records.specs.Newest.{HasNewest, NewestCheckpoint, epoch_after, target_after, used_by}
use Rattle.ckpt_records.specs.Spelling.{record_bytes}
use Rattle.ckpt_records.specs.declared.meta.PagePlace.{PagePlace}
use Rattle.commit_gate.specs.Whole.{IsDataBlock, Reads, calls_more, finished, last_bytes, numbers, write_calls}
use Rattle.commit_gate.specs.declared.whole.Block.{Block}
use Rattle.sls_core.specs.Safe.{HasNoneBegun, RunSoFar, last_acked}

-- A commit that was made: whether it closed the old gate first, its slot, the blocks that it wrote, and its body.
pub record WholeCommit : Type 0 where
  pub closes : Bool
  pub target : Slot
  pub blocks : List Block
  pub body : SlotBody

-- how many write calls they took
abbrev pub calls_of : List WholeCommit → ℕ
calls_of commits = sum_by (λ c. write_calls c.closes c.blocks) commits

-- the image after one of them, and after all, one after another
abbrev pub image_after : List ℕ → WholeCommit → List ℕ
image_after image c = finished c.target c.blocks c.body image

abbrev pub images_after : List WholeCommit → List ℕ → List ℕ
images_after commits image = fold image_after image commits

-- as a disk tells it: its blocks by rising number, each with its last bytes, and its body
abbrev pub told_commit : WholeCommit → Commit
told_commit c = record { blocks = last_bytes c.blocks []; body = Some (body_bytes c.body) }

-- These bytes keep nothing, or a checkpoint of the epoch before, and the commit goes into the slot and into blocks that this doesn't use.
pub record IsBesideKept (image : List ℕ) (epoch : ℕ) (c : WholeCommit) : Type 0 where
  pub kept : NewestCheckpoint
  pub keeps : HasNewest image kept
  pub next : epoch_after kept ≡ epoch
  pub into : target_after kept ≡ c.target
  pub unused : (b : ℕ) → Has b (numbers c.blocks) → Has b (used_by kept) → ⊥

-- It is of the group of this epoch, made on a disk of so many blocks with these bytes. It wrote just the blocks of the group's pages
-- that aren't all zero and those of its record, each once, and closed the gate of its slot exactly where that read 1; the bytes that
-- it gives hold the group in these blocks.
pub record IsCommitOf (run : RunSoFar) (count : ℕ) (reading : Option (List ℕ)) (epoch : ℕ) (c : WholeCommit) : Type 0 where
  pub group : Group
  pub group_is : IsGroupOf run.now epoch group
  -- where the pages lie, and the record's blocks
  pub pages : List PagePlace
  pub metas : List ℕ
  pub listed : map listed_page pages ≡ nonzero_pages group
  pub metas_are : length metas ≡ metas_for (length (record_bytes 2 group.frame pages))
  pub uses : (b : ℕ) → Has b (numbers c.blocks) ↔ Has b (metas ++ block_numbers pages)
  pub one_each : length c.blocks ≡ length metas + length pages
  pub once : AllPairs (λ m n. m ≢ n) (numbers c.blocks)
  pub placed : AllByRecursion (IsDataBlock count) c.blocks
  pub few : length c.blocks ≤ cost_of group
  pub format : c.body.format ≡ 2
  pub epoch_is : c.body.epoch ≡ epoch
  pub first_is : c.body.first ≡ first_of metas
  pub length_is : c.body.length ≡ length (record_bytes 2 group.frame pages)
  pub beside : ForSome reading (λ r. IsBesideKept r epoch c)
  pub closed : ForSome reading (λ r. IsTrue c.closes ↔ (slice_index r (gate_place c.target) ≡ 1))
  pub held : ForSome reading (λ r. HoldsAt (image_after r c) epoch group pages metas c.target)

-- one for each acknowledgement, in their order, the first of them made on these bytes
abbrev pub AreCommitsOf : RunSoFar → ℕ → Option (List ℕ) → List AckMark → List WholeCommit → Type 0
AreCommitsOf run count reading [] [] = ⊤
AreCommitsOf run count reading [] (c ∷ commits) = ⊥
AreCommitsOf run count reading (a ∷ acks) [] = ⊥
AreCommitsOf run count reading (a ∷ acks) (c ∷ commits) =
    IsCommitOf run count reading a.epoch c × AreCommitsOf run count (option_map (λ r. image_after r c) reading) acks commits

-- at most one, of an epoch that was fetched and isn't acknowledged
abbrev pub AreUnacknowledged : RunSoFar → ℕ → Option (List ℕ) → List WholeCommit → Type 0
AreUnacknowledged run count reading [] = ⊤
AreUnacknowledged run count reading (c ∷ []) = (epoch : ℕ) × (last_acked run < epoch) × (epoch ≤ run.now.fetched) × IsCommitOf run count reading epoch c
AreUnacknowledged run count reading (c ∷ d ∷ commits) = ⊥

-- Just these commits have ended more, as the disk tells them; where it tells no more which, the first of them.
abbrev pub TellsFirst : List WholeCommit → DiskView → DiskView → Type 0
TellsFirst commits before after =
    (first : List WholeCommit) × (others : List WholeCommit) × (commits ≡ first ++ others) × (after.commits.ended ≡ before.commits.ended ++ map told_commit first)
    × ((after.commits.now ≡ None) ⊎ (others ≡ []))

-- ... where it told its commits and none had begun; where it told none, the list stays.
pub record TellsMore (commits : List WholeCommit) (before after : DiskView) : Type 0 where
  pub told : before.commits.now ≡ Some nothing_written → TellsFirst commits before after
  pub untold : before.commits.now ≡ None → after.commits ≡ before.commits

-- The disk is what whole commits made of it, one for each acknowledgement, and nothing else was written: a read gives their
-- bytes, a stop leaves nothing else, and none is under way.
pub record IsOnlyCommitted (run : RunSoFar) (acks : List AckMark) (before after : DiskView) : Type 0 where
  pub commits : List WholeCommit
  pub each : AreCommitsOf run before.blocks before.reading acks commits
  pub writes : after.writes ≡ calls_more (calls_of commits) before.writes
  pub reads : Reads (images_after commits) before after
  pub only : OnlyReading after
  pub told : TellsMore commits before after
  pub none_under_way : HasNoneBegun before → HasNoneBegun after

-- The commits that ended, as the disk tells them, whatever failed since: one for each acknowledgement, in their order, and behind
-- them these, at most one. Where there is one, none is under way.
pub record TellsAcknowledged (run : RunSoFar) (acks : List AckMark) (behind : List WholeCommit) (before after : DiskView) : Type 0 where
  pub commits : List WholeCommit
  pub each : AreCommitsOf run before.blocks before.reading acks commits
  pub behind_is : AreUnacknowledged run before.blocks (option_map (images_after commits) before.reading) behind
  pub told : TellsMore (commits ++ behind) before after
  pub one : (behind ≡ []) ⊎ (HasNoneBegun before → HasNoneBegun after)
