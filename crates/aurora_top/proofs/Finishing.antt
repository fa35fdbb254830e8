-- Which ends a command can have: Usage where its words spell none, and its own where nothing hinders it.
use Rattle.std.proofs.Common.{◌≡◌, ◌⊎◌, inl, inr, ℕ, List, Option, Some, None, refl, sym, ap, ◌∙◌, subst, arith}
use Rattle.std.specs.Prelude.{◌↔◌, IsTrue}
use Rattle.std.specs.Option.{MatchOption, is_some}
use Rattle.dev_traits.specs.Disk.{DiskView}
use Rattle.dev_traits.specs.Outside.{FilesView, SinkView}
use Rattle.run_defs.specs.declared.run.AckMark.{AckMark}
use Rattle.run_defs.specs.declared.run.Mark.{Mark}
use Rattle.group_defs.specs.Group.{Group}
use Rattle.ckpt_chain.specs.Slot.{newest}
use Rattle.ckpt_chain.specs.declared.slot.Slot.{Slot}
use Rattle.ckpt_records.specs.declared.meta.PagePlace.{PagePlace}
use Rattle.ckpt_records.specs.Holds.{Holds, HoldsAt}
use Rattle.restore_group.specs.Outcome.{IsOpenAt}
use Rattle.ckpt_records.specs.Origin.{IsUnworn, IsWithin}
use Rattle.sls_core.specs.Safe.{RunSoFar}
use Rattle.sls_core.specs.Answers.{EndsFor}
use Rattle.sls_core.specs.declared.run.RunAnswer.{RunAnswer}
use Rattle.sls_core.specs.declared.run.RunAnswer.TheVariants as answers
use Rattle.aurora_top.specs.Ending.{end_for}
use Rattle.aurora_top.specs.Answers.{IsRefusal, IsRunEnding}
use Rattle.aurora_top.specs.Beginnings.{AsksRestore, AsksRun, BeginsWith}
use Rattle.aurora_top.specs.Complete.{IsGiven, IsOfRun, CanBeRestored, IsUnhindered}
use Rattle.group_boot.specs.Manifest.{NamesImage}
use Rattle.aurora_top.specs.Refusals.{Refused}
use Rattle.command_words.specs.Words.{command_of_words}
use Rattle.command_words.specs.declared.words.Command.{Command}
use Rattle.command_words.specs.declared.words.Beginning.{Beginning}
use Rattle.command_words.specs.declared.words.Beginning.TheVariants.{Manifest, Checkpoint}
use Rattle.command_words.specs.declared.end.End.{End}
use Rattle.command_words.specs.declared.end.End.TheVariants.{Done, Stuck, Spent, Usage, NotBuilt, NoCheckpoint, Occupied, Damaged, DiskFault, SinkFault, FilesFault, DiskFull, NoMemory, DiskShape, SinkStrange, Worn}

-- ---- Usage

spells_none : (words : List (List ℕ)) (command : Command (List ℕ)) → command_of_words words ≡ Some command → command_of_words words ≡ None → ⊥
spells_none words command some none = absurd (let both : Some command ≡ None = sym some ∙ none in cc)

none_told : (o : Option (Command (List ℕ))) → IsTrue (is_some o) → o ≡ None → ⊥
none_told None some none = absurd cc
none_told (Some command) some none = absurd cc

told_none : (words : List (List ℕ)) → IsTrue (is_some (command_of_words words)) → command_of_words words ≡ None → ⊥
told_none words some none = none_told (command_of_words words) some none

refused_none : (words : List (List ℕ)) (disk disk' : DiskView) (files files' : FilesView) (out : SinkView) (e : End) → Refused words disk disk' files files' out e → command_of_words words ≡ None → e ≡ Usage
refused_none words disk disk' files files' out Usage why none = refl
refused_none words disk disk' files files' out (DiskShape n) why none = absurd (told_none words why.0 none)
refused_none words disk disk' files files' out DiskFault why none = absurd (spells_none words why.0 why.1.spelled none)
refused_none words disk disk' files files' out (Occupied epoch) why none = absurd (spells_none words why.1.0 why.1.1.spelled none)
refused_none words disk disk' files files' out NoCheckpoint why none = absurd (spells_none words why.0.0 why.0.1.spelled none)
refused_none words disk disk' files files' out (Damaged epoch) why none = absurd (spells_none words why.0.0 why.0.1.spelled none)
refused_none words disk disk' files files' out (Worn epoch) why none = absurd (spells_none words why.0.0 why.0.1.spelled none)
refused_none words disk disk' files files' out FilesFault why none = absurd (spells_none words why.1.0 why.1.1.spelled none)
refused_none words disk disk' files files' out NotBuilt why none = absurd (spells_none words why.1.0 why.1.1.spelled none)
refused_none words disk disk' files files' out (SinkStrange count from last) why none = absurd (spells_none words why.0 why.3.asks.spelled none)
refused_none words disk disk' files files' out NoMemory why none = absurd (spells_none words why.0 why.1.spelled none)
refused_none words disk disk' files files' out SinkFault why none = absurd why
refused_none words disk disk' files files' out (Done epoch turns output) why none = absurd why
refused_none words disk disk' files files' out (Stuck epoch turns output) why none = absurd why
refused_none words disk disk' files files' out (Spent epoch turns output) why none = absurd why
refused_none words disk disk' files files' out (DiskFull need free) why none = absurd why

no_usage : (answer : RunAnswer) (epoch turns last : ℕ) → Usage ≡ end_for answer epoch turns last → ⊥
no_usage answers.Done epoch turns last is = cc
no_usage answers.Stuck epoch turns last is = cc
no_usage answers.Spent epoch turns last is = cc
no_usage answers.DiskFault epoch turns last is = cc
no_usage answers.SinkFault epoch turns last is = cc
no_usage (answers.DiskFull need free) epoch turns last is = cc
no_usage answers.NoMemory epoch turns last is = cc

module _ (words : List (List ℕ)) (disk disk' : DiskView) (files files' : FilesView) (out out' : SinkView) (at epoch : ℕ) (trace : List Mark) (acks : List AckMark) where
  abbrev HasAnswered : End → Type 0
  HasAnswered e = IsRefusal words disk disk' files files' out out' at epoch trace acks e ⊎ IsRunEnding words disk disk' files out out' at epoch trace acks e

  usage_spelled : HasAnswered Usage → command_of_words words ≡ None
  usage_spelled (inl refused) = refused.why
  usage_spelled (inr run) = absurd (no_usage run.answer _ _ _ run.end_is)

  none_usage : (e : End) → HasAnswered e → command_of_words words ≡ None → e ≡ Usage
  none_usage e (inl refused) none = refused_none words disk disk' files files' out e refused.why none
  none_usage e (inr run) none = absurd (spells_none words run.command run.begins.asks.spelled none)

  pub usage_law : (e : End) → HasAnswered e → (e ≡ Usage) ↔ (command_of_words words ≡ None)
  usage_law e answered = ((λ is. usage_spelled (subst HasAnswered is answered)), none_usage e answered)

-- ---- where nothing hinders a command

told : {A : Type 0} (o : Option A) (P : A → Type 0) → MatchOption o ⊥ P → (x : A) × (o ≡ Some x) × P x
told None P m = absurd m
told (Some x) P m = (x, refl, m)

never_open : (r : List ℕ) (epoch : ℕ) → newest r ≡ None → IsOpenAt r epoch → ⊥
never_open r epoch none is = absurd (let both : Some (is.slot, is.body) ≡ None = sym is.newest_is ∙ none in cc)

held_open : (r : List ℕ) (epoch : ℕ) (g : Group) → Holds r epoch g → newest r ≡ None → ⊥
held_open r epoch g holds none = absurd (let both : Some (holds.slot, holds.at.body) ≡ None = sym holds.at.newest_is ∙ none in cc)

-- an image holds one group, in one place
abbrev pub HoldOne : Type 0
HoldOne = (image : List ℕ) (e f : ℕ) (g h : Group) (ps qs : List PagePlace) (ms ns : List ℕ) (s t : Slot) → HoldsAt image e g ps ms s → HoldsAt image f h qs ns t
    → (e ≡ f) × (g ≡ h) × (ps ≡ qs) × (ms ≡ ns) × (s ≡ t)

same_held : HoldOne → (r : List ℕ) (e f : ℕ) (g h : Group) → Holds r e g → Holds r f h → (e ≡ f) × (g ≡ h)
same_held one r e f g h a b = let same = one r e f g h a.pages b.pages a.metas b.metas a.slot b.slot a.at b.at in (same.0, same.1)

-- the group of a ready disk is the one that begins
ready_unworn : HoldOne → (r : List ℕ) (out : SinkView) (epoch : ℕ) (g : Group) → CanBeRestored r out → Holds r epoch g → IsUnworn epoch g.frame
ready_unworn one r out epoch g ready holds =
    let same = same_held one r ready.epoch epoch ready.start g ready.held holds in
    subst (λ (n : ℕ). IsUnworn n g.frame) same.0 (subst (λ (h : Group). IsUnworn ready.epoch h.frame) same.1 ready.unworn)

ready_within : HoldOne → (r : List ℕ) (out : SinkView) (epoch : ℕ) (g : Group) → CanBeRestored r out → Holds r epoch g → IsWithin out g.frame.out
ready_within one r out epoch g ready holds =
    let same = same_held one r ready.epoch epoch ready.start g ready.held holds in
    subst (λ (h : Group). IsWithin out h.frame.out) same.1 ready.within

given_within : HoldOne → (beginning : Beginning (List ℕ)) (disk : DiskView) (files : FilesView) (out : SinkView) (start : Group) (epoch : ℕ) → IsGiven beginning disk files out → BeginsWith beginning disk files start epoch → IsWithin out start.frame.out
given_within one (Manifest manifest) disk files out start epoch given begins =
    subst (λ (g : Group). IsWithin out g.frame.out) (sym begins.2) (omega (arith, given.2), omega (arith, given.2))
given_within one Checkpoint disk files out start epoch given begins =
    let is = told disk.reading (λ r. CanBeRestored r out) given in
    ready_within one is.0 out epoch start is.2 (begins.0 is.0 is.1)

module _ (words : List (List ℕ)) (disk disk' : DiskView) (files files' : FilesView) (out out' : SinkView) (one : HoldOne) (u : IsUnhindered words disk disk' files files' out out') where
  same_command : (command : Command (List ℕ)) → command_of_words words ≡ Some command → u.command ≡ command
  same_command command spelled = let both : Some u.command ≡ Some command = sym u.asks.spelled ∙ spelled in cc

  given_for : (command : Command (List ℕ)) (beginning : Beginning (List ℕ)) → command_of_words words ≡ Some command → command.beginning ≡ beginning → IsGiven beginning disk files out
  given_for command beginning spelled is = subst (λ (b : Beginning (List ℕ)). IsGiven b disk files out) (ap (λ (a : Command (List ℕ)). a.beginning) (same_command command spelled) ∙ is) u.given

  given_new : (manifest : List ℕ) → AsksRun words disk.blocks manifest → IsGiven (Manifest manifest) disk files out
  given_new manifest asks = given_for asks.0 (Manifest manifest) asks.1.spelled asks.2

  ready : AsksRestore words disk.blocks → (r : List ℕ) × (disk.reading ≡ Some r) × CanBeRestored r out
  ready asks = told disk.reading (λ r. CanBeRestored r out) (given_for asks.0 Checkpoint asks.1.spelled asks.2)

  refused_of_run : (e : End) → Refused words disk disk' files files' out e → IsOfRun e
  refused_of_run Usage why = absurd (spells_none words u.command u.asks.spelled why)
  refused_of_run (DiskShape n) why = absurd (why.2 u.asks.size)
  refused_of_run DiskFault why = absurd (u.disk_works why.2)
  refused_of_run (Occupied epoch) why =
      let is = told disk.reading (λ r. newest r ≡ None) (given_new why.0 why.1).0 in
      absurd (never_open is.0 epoch is.2 (why.2 is.0 is.1))
  refused_of_run NoCheckpoint why = let is = ready why.0 in absurd (held_open is.0 is.2.epoch is.2.start is.2.held (why.1 is.0 is.1))
  refused_of_run (Damaged epoch) why = let is = ready why.0 in absurd ((why.1 is.0 is.1).1 is.2.epoch is.2.start is.2.held)
  refused_of_run (Worn epoch) why = let is = ready why.0 in absurd (why.3 (ready_unworn one is.0 out epoch why.1 is.2 (why.2.0 is.0 is.1)))
  refused_of_run FilesFault why = absurd (u.files_work why.3)
  refused_of_run NotBuilt why =
      let is = told files.contents (λ found. (image : List ℕ) × NamesImage found why.0 image) (given_new why.0 why.1).1 in
      absurd (why.3 is.0 is.1 is.2.0 is.2.1)
  refused_of_run (SinkStrange count from last) why =
      let given = given_for why.0 why.0.beginning why.3.asks.spelled refl in
      absurd (why.4.outside (given_within one why.0.beginning disk files out why.1 why.2 given why.3.begins))
  refused_of_run NoMemory why = tt
  refused_of_run SinkFault why = absurd why
  refused_of_run (Done epoch turns output) why = tt
  refused_of_run (Stuck epoch turns output) why = tt
  refused_of_run (Spent epoch turns output) why = tt
  refused_of_run (DiskFull need free) why = tt

  ended_of_run : (run : RunSoFar) (answer : RunAnswer) (epoch turns last : ℕ) → EndsFor run disk disk' out out' answer → IsOfRun (end_for answer epoch turns last)
  ended_of_run run answers.Done epoch turns last ends = tt
  ended_of_run run answers.Stuck epoch turns last ends = tt
  ended_of_run run answers.Spent epoch turns last ends = tt
  ended_of_run run answers.DiskFault epoch turns last ends = absurd (u.disk_works ends)
  ended_of_run run answers.SinkFault epoch turns last ends = absurd (u.sink_works ends)
  ended_of_run run (answers.DiskFull need free) epoch turns last ends = tt
  ended_of_run run answers.NoMemory epoch turns last ends = tt

  pub complete_law : (at epoch : ℕ) (trace : List Mark) (acks : List AckMark) (e : End) → IsRefusal words disk disk' files files' out out' at epoch trace acks e ⊎ IsRunEnding words disk disk' files out out' at epoch trace acks e → IsOfRun e
  complete_law at epoch trace acks e (inl refused) = refused_of_run e refused.why
  complete_law at epoch trace acks e (inr run) = subst IsOfRun (sym run.end_is) (ended_of_run _ run.answer _ _ _ run.run.safe.ends)
