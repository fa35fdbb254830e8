-- Why commands are refused: from the reasons of their parts, and over the opening of the disk.
use Rattle.std.proofs.Common.{◌≡◌, inl, inr, ℕ, ◌≤◌, List, Some, None, refl, sym, ◌∙◌, subst, arith}
use Rattle.std.specs.Prelude.{◌<◌, Result, Ok, Err, IfOk}
use Rattle.std.specs.List.{AllByRecursion}
use Rattle.std.specs.Option.{ForSome}
use Rattle.dev_traits.specs.Disk.{DiskView}
use Rattle.dev_traits.specs.Outside.{FilesView, SinkView}
use Rattle.group_defs.specs.Group.{Group}
use Rattle.group_defs.specs.Output.{last_position}
use Rattle.ckpt_chain.specs.Chain.{InDisk}
use Rattle.ckpt_records.specs.Holds.{Holds}
use Rattle.ckpt_records.specs.declared.origin.Origin.{Origin}
use Rattle.restore_group.specs.Outcome.{FaultIsCause, IsOutcome, IsSound}
use Rattle.ckpt_records.specs.Origin.{IsRestored}
use Rattle.ckpt_records.specs.Parts.{group_of}
use Rattle.restore_group.specs.declared.restoring.Refused.{Refused as RestoreRefused}
use Rattle.restore_group.specs.declared.restoring.Refused.TheVariants as restored
use Rattle.ckpt_records.specs.Origin.{HasSize, IsOld, IsOrigin, IsUnworn, IsWithin}
use Rattle.aurora_top.specs.Beginnings.{Asks, AsksRestore, AsksRun, BeginsWith, CanBegin, SuitsDisk}
use Rattle.aurora_top.specs.Causes.{RefusedByDisk, end_loading, end_opening, end_restoring}
use Rattle.group_boot.specs.Causes.{RefusedByFiles}
use Rattle.aurora_top.specs.Opening.{IsOpenedAt, IsOpening}
use Rattle.aurora_top.specs.Refusals.{Refused}
use Rattle.sls_core.specs.Safe.{IsUnwritten}
use Rattle.aurora_top.specs.Starting.{IsBegun}
use Rattle.command_words.specs.declared.words.Command.{Command}
use Rattle.command_words.specs.declared.words.Beginning.{Beginning}
use Rattle.command_words.specs.declared.words.Beginning.TheVariants.{Manifest, Checkpoint}
use Rattle.command_words.specs.declared.end.End.{End}
use Rattle.command_words.specs.declared.end.End.TheVariants.{Done, Stuck, Spent, Usage, NotBuilt, NoCheckpoint, Occupied, Damaged, DiskFault, SinkFault, FilesFault, DiskFull, NoMemory, DiskShape, SinkStrange, Worn}
use Rattle.group_boot.specs.declared.manifest.LoadRefused.{LoadRefused}
use Rattle.group_boot.specs.declared.manifest.LoadRefused.TheVariants as loads
use Rattle.aurora_top.specs.declared.opening.OpenRefused.{OpenRefused}
use Rattle.aurora_top.specs.declared.opening.OpenRefused.TheVariants as opens

-- ---- a new run

pub by_opening : (words : List (List ℕ)) (disk disk' : DiskView) (files files' : FilesView) (sink : SinkView) (manifest : List ℕ) (e : OpenRefused) → RefusedByDisk disk disk' e → AsksRun words disk.blocks manifest
    → Refused words disk disk' files files' sink (end_opening e)
by_opening words disk disk' files files' sink manifest (opens.Occupied epoch) why asks = (manifest, asks, why)
by_opening words disk disk' files files' sink manifest opens.DiskFault why asks = (asks.0, asks.1, why)

pub by_loading : (words : List (List ℕ)) (disk disk' : DiskView) (files files' : FilesView) (sink : SinkView) (manifest : List ℕ) (e : LoadRefused) → SuitsDisk (Manifest manifest) disk → RefusedByFiles manifest files files' e
    → AsksRun words disk.blocks manifest → Refused words disk disk' files files' sink (end_loading e)
by_loading words disk disk' files files' sink manifest loads.NotBuilt unused why asks = (manifest, asks, unused, why)
by_loading words disk disk' files files' sink manifest loads.FilesFault unused why asks = (manifest, asks, unused, why)
by_loading words disk disk' files files' sink manifest loads.NoMemory unused why asks = (asks.0, asks.1, subst (λ (b : Beginning (List ℕ)). SuitsDisk b disk) (sym asks.2) unused)

-- ---- a restored run

abbrev OutcomeOf : DiskView → Result Origin RestoreRefused → Type 0
OutcomeOf disk result = ForSome disk.reading (λ r. IsOutcome r result)

pub by_restoring : (words : List (List ℕ)) (disk disk' : DiskView) (files files' : FilesView) (sink : SinkView) (e : RestoreRefused) → OutcomeOf disk (Err e) → FaultIsCause disk.faults disk'.faults (Err e) → AsksRestore words disk.blocks
    → Refused words disk disk' files files' sink (end_restoring e)
by_restoring words disk disk' files files' sink restored.NoCheckpoint outcome cause asks = (asks, outcome)
by_restoring words disk disk' files files' sink (restored.Damaged epoch) outcome cause asks = (asks, outcome)
by_restoring words disk disk' files files' sink restored.DiskFault outcome cause asks = (asks.0, asks.1, cause)
by_restoring words disk disk' files files' sink restored.NoMemory outcome cause asks = (asks.0, asks.1, subst (λ (b : Beginning (List ℕ)). SuitsDisk b disk) (sym asks.2) outcome)

holds : (r : List ℕ) (o : Origin) → IsRestored r o → Holds r o.epoch (group_of o.parts)
holds r o is = record { pages = o.placement.pages; metas = o.placement.metas; slot = o.placement.slot; at = is.held }

pub by_wear : (words : List (List ℕ)) (disk disk' : DiskView) (files files' : FilesView) (sink : SinkView) (o : Origin) → IsSound disk.blocks o → OutcomeOf disk (Ok o) → (IsUnworn o.epoch o.parts.frame → ⊥) → AsksRestore words disk.blocks
    → Refused words disk disk' files files' sink (Worn o.epoch)
by_wear words disk disk' files files' sink o sound outcome worn asks = (asks, group_of o.parts, ((λ r told. holds r o (outcome r told)), sound.group, sound.epoch), worn)

metas_within : (count : ℕ) (metas : List ℕ) → InDisk count metas → AllByRecursion (λ b. (2 ≤ b) × (b < count)) metas
unfolding InDisk
metas_within count metas all = all

is_old : (count : ℕ) (o : Origin) → IsSound count o → IsOld count o
is_old count o sound = record {
  epoch = sound.epoch;
  layers = sound.parts.layers;
  group = sound.group;
  listed = sound.listed;
  rising = sound.rising;
  placed = sound.placed;
  some_meta = sound.some_meta;
  metas = metas_within count o.placement.metas sound.metas;
}

pub begun_held : (disk : DiskView) (files : FilesView) (o : Origin) → IsSound disk.blocks o → OutcomeOf disk (Ok o) → IsUnworn o.epoch o.parts.frame → IsBegun Checkpoint disk files o
begun_held disk files o sound outcome unworn = record {
  suits = λ r told none. absurd (let both : Some (o.placement.slot, (outcome r told).held.body) ≡ None = sym (outcome r told).held.newest_is ∙ none in cc);
  begins = ((λ r told. holds r o (outcome r told)), sound.group, sound.epoch);
  unworn = unworn;
  origin = inr (is_old disk.blocks o sound);
  held = λ r told. inl (sound.epoch, outcome r told);
}

-- ---- for files that a checkpoint doesn't ask for

pub for_all_files : {T E : Type 0} (r : Result T E) (P : FilesView → T → Type 0) (files : FilesView) → IfOk r (λ x. (f : FilesView) → P f x) → IfOk r (P files)
for_all_files (Ok x) P files all = all files
for_all_files (Err e) P files all = tt

-- ---- over the opening: a disk with the same blocks and reading, and no fewer faults

module _ (before opened : DiskView) (blocks : opened.blocks ≡ before.blocks) (reading : opened.reading ≡ before.reading) (faults : before.faults ≤ opened.faults) where
  asks_before : (words : List (List ℕ)) (command : Command (List ℕ)) → Asks words opened.blocks command → Asks words before.blocks command
  asks_before words command asks = subst (λ n. Asks words n command) blocks asks

  runs_before : (words : List (List ℕ)) (manifest : List ℕ) → AsksRun words opened.blocks manifest → AsksRun words before.blocks manifest
  runs_before words manifest asks = (asks.0, asks_before words asks.0 asks.1, asks.2)

  restores_before : (words : List (List ℕ)) → AsksRestore words opened.blocks → AsksRestore words before.blocks
  restores_before words asks = (asks.0, asks_before words asks.0 asks.1, asks.2)

  suits_before : (beginning : Beginning (List ℕ)) → SuitsDisk beginning opened → SuitsDisk beginning before
  suits_before (Manifest manifest) suits = λ r told. suits r (reading ∙ told)
  suits_before Checkpoint suits = λ r told. suits r (reading ∙ told)

  begins_before : (beginning : Beginning (List ℕ)) (files : FilesView) (start : Group) (epoch : ℕ) → BeginsWith beginning opened files start epoch → BeginsWith beginning before files start epoch
  begins_before (Manifest manifest) files start epoch begins = begins
  begins_before Checkpoint files start epoch begins = ((λ r told. begins.0 r (reading ∙ told)), begins.1, begins.2)

  can_begin_before : (words : List (List ℕ)) (files : FilesView) (command : Command (List ℕ)) (start : Group) (epoch : ℕ) → CanBegin words opened files command start epoch → CanBegin words before files command start epoch
  can_begin_before words files command start epoch can = record {
    asks = asks_before words command can.asks;
    suits = suits_before command.beginning can.suits;
    begins = begins_before command.beginning files start epoch can.begins;
    unworn = can.unworn;
  }

  pub refused_before : (words : List (List ℕ)) (after : DiskView) (files files' : FilesView) (sink : SinkView) (e : End) → Refused words opened after files files' sink e → Refused words before after files files' sink e
  refused_before words after files files' sink Usage why = why
  refused_before words after files files' sink (DiskShape n) why = (why.0, why.1 ∙ blocks, (λ size. why.2 (subst HasSize (sym blocks) size)))
  refused_before words after files files' sink DiskFault why = (why.0, asks_before words why.0 why.1, omega (arith, faults, why.2))
  refused_before words after files files' sink (Occupied epoch) why = (why.0, runs_before words why.0 why.1, (λ r told. why.2 r (reading ∙ told)))
  refused_before words after files files' sink NoCheckpoint why = (restores_before words why.0, (λ r told. why.1 r (reading ∙ told)))
  refused_before words after files files' sink (Damaged epoch) why = (restores_before words why.0, (λ r told. why.1 r (reading ∙ told)))
  refused_before words after files files' sink (Worn epoch) why = (restores_before words why.0, why.1, begins_before Checkpoint files why.1 epoch why.2, why.3)
  refused_before words after files files' sink FilesFault why = (why.0, runs_before words why.0 why.1, (λ r told. why.2 r (reading ∙ told)), why.3)
  refused_before words after files files' sink NotBuilt why = (why.0, runs_before words why.0 why.1, (λ r told. why.2 r (reading ∙ told)), why.3)
  refused_before words after files files' sink (SinkStrange count from last) why = (why.0, why.1, why.2, can_begin_before words files why.0 why.1 why.2 why.3, why.4)
  refused_before words after files files' sink NoMemory why = (why.0, asks_before words why.0 why.1, suits_before why.0.beginning why.2)
  refused_before words after files files' sink SinkFault why = absurd why
  refused_before words after files files' sink (Done epoch turns output) why = absurd why
  refused_before words after files files' sink (Stuck epoch turns output) why = absurd why
  refused_before words after files files' sink (Spent epoch turns output) why = absurd why
  refused_before words after files files' sink (DiskFull need free) why = absurd why

  pub begun_before : (beginning : Beginning (List ℕ)) (files : FilesView) (o : Origin) → IsBegun beginning opened files o → IsBegun beginning before files o
  begun_before beginning files o begun = record {
    suits = suits_before beginning begun.suits;
    begins = begins_before beginning files (group_of o.parts) o.epoch begun.begins;
    unworn = begun.unworn;
    origin = subst (λ n. IsOrigin n o) blocks begun.origin;
    held = λ r told. begun.held r (reading ∙ told);
  }

-- ---- the last test

pub can_begin : (words : List (List ℕ)) (disk : DiskView) (files : FilesView) (command : Command (List ℕ)) (o : Origin) → Asks words disk.blocks command → IsBegun command.beginning disk files o → CanBegin words disk files command (group_of o.parts) o.epoch
can_begin words disk files command o asks begun = record { asks = asks; suits = begun.suits; begins = begun.begins; unworn = begun.unworn }

pub all_marked : (count : ℕ) (o : Origin) → IsOrigin count o → o.parts.frame.out.mark ≡ last_position o.parts.frame.out
all_marked count o (inl fresh) = fresh.group.all_marked
all_marked count o (inr old) = old.group.all_marked

pub by_count : (words : List (List ℕ)) (disk disk' : DiskView) (files files' : FilesView) (out : SinkView) (command : Command (List ℕ)) (o : Origin) (count : ℕ) → Asks words disk.blocks command → IsBegun command.beginning disk files o → count ≡ out.count
    → (IsWithin out o.parts.frame.out → ⊥) → Refused words disk disk' files files' out (SinkStrange count o.parts.frame.out.from o.parts.frame.out.mark)
by_count words disk disk' files files' out command o count asks begun is outside = (
  command,
  group_of o.parts,
  o.epoch,
  can_begin words disk files command o asks begun,
  record { count_is = is; from_is = refl; last_is = all_marked disk.blocks o begun.origin; outside = outside },
)

-- ---- the moment told

-- after the opening sync a command's words and the disk's size are right
pub told_opening : (words : List (List ℕ)) (before after : DiskView) (files files' : FilesView) (out : SinkView) (command : Command (List ℕ)) (at : ℕ) (e : End) → Asks words before.blocks command → Refused words before after files files' out e → IsOpenedAt at before after
    → IsOpening e at before after
told_opening words before after files files' out command at Usage asks why opened = absurd (let both : Some command ≡ None = sym asks.spelled ∙ why in cc)
told_opening words before after files files' out command at (DiskShape n) asks why opened = absurd (why.2 asks.size)
told_opening words before after files files' out command at DiskFault asks why opened = inr opened
told_opening words before after files files' out command at (Occupied epoch) asks why opened = opened
told_opening words before after files files' out command at NoCheckpoint asks why opened = opened
told_opening words before after files files' out command at (Damaged epoch) asks why opened = opened
told_opening words before after files files' out command at (Worn epoch) asks why opened = opened
told_opening words before after files files' out command at FilesFault asks why opened = opened
told_opening words before after files files' out command at NotBuilt asks why opened = opened
told_opening words before after files files' out command at (SinkStrange count from last) asks why opened = opened
told_opening words before after files files' out command at NoMemory asks why opened = opened
told_opening words before after files files' out command at SinkFault asks why opened = opened
told_opening words before after files files' out command at (Done epoch turns output) asks why opened = opened
told_opening words before after files files' out command at (Stuck epoch turns output) asks why opened = opened
told_opening words before after files files' out command at (Spent epoch turns output) asks why opened = opened
told_opening words before after files files' out command at (DiskFull need free) asks why opened = opened

-- ---- all tests

module _ (words : List (List ℕ)) (before opened after : DiskView) (files : FilesView) (command : Command (List ℕ)) (asks : Asks words before.blocks command) (unwritten : IsUnwritten before opened) where
  pub refused_at_origin : (files' : FilesView) (out : SinkView) (e : End) → ((words' : List (List ℕ)) (command' : Command (List ℕ)) → Asks words' opened.blocks command' → command'.beginning ≡ command.beginning → Refused words' opened after files files' out e)
      → Refused words before after files files' out e
  refused_at_origin files' out e why =
      refused_before before opened unwritten.blocks unwritten.reading unwritten.later words after files files' out e
      (why words command (subst (λ n. Asks words n command) (sym unwritten.blocks) asks) refl)

  pub starts : (o : Origin) → IsBegun command.beginning opened files o → CanBegin words before files command (group_of o.parts) o.epoch
  starts o begun = can_begin words before files command o asks (begun_before before opened unwritten.blocks unwritten.reading unwritten.later command.beginning files o begun)
