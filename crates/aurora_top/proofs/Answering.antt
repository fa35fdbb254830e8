-- A command's run, from the run that began after its opening.
use Rattle.std.proofs.Common.{◌≡◌, inl, inr, ⊎_elim, ℕ, ◌≤◌, List, [], ◌∷◌, ◌++◌, map, Option, Some, refl, sym, ap, ◌∙◌, subst, arith, append-nil}
use Rattle.std.specs.List.{fold}
use Rattle.std.specs.Option.{ForSome, option_map}
use Rattle.dev_traits.specs.Commits.{Commits}
use Rattle.dev_traits.specs.Disk.{DiskView}
use Rattle.dev_traits.specs.Outside.{FilesView, SinkView}
use Rattle.group_defs.specs.Group.{Group}
use Rattle.group_defs.specs.Output.{last_position}
use Rattle.run_defs.specs.Legal.{Legal}
use Rattle.run_defs.specs.Marks.{acked_epochs, turns_in}
use Rattle.run_defs.specs.Progress.{Progress, after_mark, progress_after, progress_at}
use Rattle.run_defs.specs.declared.run.AckMark.{AckMark}
use Rattle.run_defs.specs.declared.run.Limits.{Limits}
use Rattle.run_defs.specs.declared.run.Mark.{Mark}
use Rattle.run_defs.specs.declared.run.Mark.TheVariants.{Take, Turn, Barrier, Fetch, Ack}
use Rattle.run_laws.proofs.CountLaws.{turns_counted}
use Rattle.run_laws.proofs.Epochs.{epochs_have_groups}
use Rattle.run_laws.proofs.LegalLaws.{in_order}
use Rattle.run_laws.proofs.TurnLaws.{turn_epochs}
use Rattle.ckpt_records.specs.Origin.{IsWithin}
use Rattle.commit_gate.specs.Whole.{calls_more}
use Rattle.sls_core.specs.Answers.{EndsFor, IsSoloRun}
use Rattle.sls_core.specs.Committed.{AreCommitsOf, AreUnacknowledged, IsOnlyCommitted, TellsAcknowledged, TellsMore, WholeCommit, calls_of, images_after, told_commit}
use Rattle.sls_core.specs.Safe.{HasNoneBegun, HoldsOne, IsUnwritten, NeverFall, RunSoFar, Safe, last_acked, last_group, run_of}
use Rattle.sls_core.specs.declared.run.RunAnswer.{RunAnswer}
use Rattle.sls_core.specs.declared.run.RunAnswer.TheVariants as answers
use Rattle.aurora_top.specs.Answers.{IsRunEnding}
use Rattle.aurora_top.specs.Beginnings.{BeginsWith, CanBegin, SuitsDisk}
use Rattle.aurora_top.specs.Ending.{end_for, last_epoch}
use Rattle.aurora_top.specs.Opening.{IsOpenedAt}
use Rattle.aurora_top.proofs.OpeningLaws.{none_after, unchanged_then}
use Rattle.command_words.specs.declared.words.Command.{Command}
use Rattle.command_words.specs.declared.words.Beginning.{Beginning}
use Rattle.command_words.specs.declared.words.Beginning.TheVariants.{Manifest, Checkpoint}

-- moments that never fall from a later one on don't fall from an earlier one on
never_fall : (from later : ℕ) (acks : List AckMark) (to : ℕ) → from ≤ later → NeverFall later acks to → NeverFall from acks to
never_fall from later [] to le fall = omega (arith, le, fall)
never_fall from later (a ∷ acks) to le fall = (omega (arith, le, fall.0), fall.1)

rise_to : (from : ℕ) (acks : List AckMark) (to : ℕ) → NeverFall from acks to → from ≤ to
rise_to from [] to fall = fall
rise_to from (a ∷ acks) to fall = let rest = rise_to a.at acks to fall.1 in omega (arith, fall.0, rest)

-- why the run ended, over the opening too
ends_as : (run : RunSoFar) (before opened disk : DiskView) (out out' : SinkView) (answer : RunAnswer) → before.faults ≤ opened.faults → EndsFor run opened disk out out' answer → EndsFor run before disk out out' answer
ends_as run before opened disk out out' answers.Done later e = e
ends_as run before opened disk out out' answers.Stuck later e = e
ends_as run before opened disk out out' answers.Spent later e = e
ends_as run before opened disk out out' answers.DiskFault later e = omega (arith, later, e)
ends_as run before opened disk out out' answers.SinkFault later e = e
ends_as run before opened disk out out' (answers.DiskFull need free) later e = e
ends_as run before opened disk out out' answers.NoMemory later e = tt

-- the output's count is the last position where that is told
told_position : (run : RunSoFar) (opened disk : DiskView) (out out' : SinkView) (answer : RunAnswer) (epoch turns : ℕ) → EndsFor run opened disk out out' answer
    → end_for answer epoch turns out'.count ≡ end_for answer epoch turns (last_position (last_group run).frame.out)
told_position run opened disk out out' answers.Done epoch turns e = ap (λ (n : ℕ). end_for answers.Done epoch turns n) e.0.all_out
told_position run opened disk out out' answers.Stuck epoch turns e = ap (λ (n : ℕ). end_for answers.Stuck epoch turns n) e.0.all_out
told_position run opened disk out out' answers.Spent epoch turns e = ap (λ (n : ℕ). end_for answers.Spent epoch turns n) e.0.all_out
told_position run opened disk out out' answers.DiskFault epoch turns e = refl
told_position run opened disk out out' answers.SinkFault epoch turns e = refl
told_position run opened disk out out' (answers.DiskFull need free) epoch turns e = refl
told_position run opened disk out out' answers.NoMemory epoch turns e = refl

-- the disk before the run is among what it may hold
holds_first : (beginning : Beginning (List ℕ)) (disk : DiskView) (files : FilesView) (limits : Limits) (start : Group) (epoch : ℕ) (trace : List Mark) → Legal start epoch limits trace → SuitsDisk beginning disk → BeginsWith beginning disk files start epoch
    → ForSome disk.reading (HoldsOne (run_of limits start epoch trace))
holds_first (Manifest manifest) disk files limits start epoch trace legal suits begins = λ r told. inr (begins.3, suits r told)
holds_first Checkpoint disk files limits start epoch trace legal suits begins = λ r told.
    let o = in_order start epoch limits trace legal in
    inl (epoch, record { fetched = omega (arith, o.begins, o.fetched); group = start; group_is = (epochs_have_groups start epoch limits).first trace; held = begins.0 r told })

-- the commits of a run, over the opening too
tells_from : (commits : List WholeCommit) (before opened disk : DiskView) → IsUnwritten before opened → TellsMore commits opened disk → TellsMore commits before disk
tells_from commits before opened disk un t = record {
  told = λ now. elim (un.commits (inr now)) [
    | inl same ↦
        let is = t.told (ap (λ c. c.now) same ∙ now) in
        (is.0, is.1, is.2, is.3 ∙ ap (λ (c : Commits). c.ended ++ map told_commit is.0) same, is.4)
    | inr less ↦
        let is = t.untold (ap (λ c. c.now) less) in
        ([], commits, refl, ap (λ c. c.ended) (is ∙ less) ∙ sym (append-nil before.commits.ended), inl (ap (λ c. c.now) (is ∙ less)))
  ];
  untold = λ none. elim (un.commits (inl none)) [
    | inl same ↦ t.untold (ap (λ c. c.now) same ∙ none) ∙ same
    | inr less ↦ t.untold (ap (λ c. c.now) less) ∙ less ∙ ap (λ now. record { ended = before.commits.ended; now = now }) (sym none)
  ];
}

each_from : (run : RunSoFar) (acks : List AckMark) (commits : List WholeCommit) (before opened : DiskView) → IsUnwritten before opened → AreCommitsOf run opened.blocks opened.reading acks commits → AreCommitsOf run before.blocks before.reading acks commits
each_from run acks commits before opened un are =
    subst (λ (n : ℕ). AreCommitsOf run n before.reading acks commits) un.blocks (subst (λ (r : Option (List ℕ)). AreCommitsOf run opened.blocks r acks commits) un.reading are)

-- where none had begun before the opening, none had after it
none_since : (before opened disk : DiskView) → IsUnwritten before opened → (HasNoneBegun opened → HasNoneBegun disk) → HasNoneBegun before → HasNoneBegun disk
none_since before opened disk un quiet none = quiet (none_after before opened none (un.commits none))

committed_from : (run : RunSoFar) (acks : List AckMark) (before opened disk : DiskView) → IsUnwritten before opened → IsOnlyCommitted run acks opened disk → IsOnlyCommitted run acks before disk
committed_from run acks before opened disk un o = record {
  commits = o.commits;
  each = each_from run acks o.commits before opened un o.each;
  writes = o.writes ∙ ap (calls_more (calls_of o.commits)) un.writes;
  reads = o.reads ∙ ap (option_map (images_after o.commits)) un.reading;
  only = o.only;
  told = tells_from o.commits before opened disk un o.told;
  none_under_way = none_since before opened disk un o.none_under_way;
}

told_from : (run : RunSoFar) (acks : List AckMark) (behind : List WholeCommit) (before opened disk : DiskView) → IsUnwritten before opened → TellsAcknowledged run acks behind opened disk → TellsAcknowledged run acks behind before disk
told_from run acks behind before opened disk un t = record {
  commits = t.commits;
  each = each_from run acks t.commits before opened un t.each;
  behind_is = subst (λ (n : ℕ). AreUnacknowledged run n (option_map (images_after t.commits) before.reading) behind) un.blocks
      (subst (λ (r : Option (List ℕ)). AreUnacknowledged run opened.blocks (option_map (images_after t.commits) r) behind) un.reading t.behind_is);
  told = tells_from (t.commits ++ behind) before opened disk un t.told;
  one = elim t.one [ inl none ↦ inl none | inr quiet ↦ inr (none_since before opened disk un quiet) ];
}

-- ---- the numbers of an end

abbrev last_of : ℕ → List ℕ → ℕ
last_of epoch epochs = fold (λ so_far e. e) epoch epochs

acked_is : (quantum : ℕ) (r : Progress) (marks : List Mark) → (progress_after quantum r marks).state.standing.acked ≡ last_of r.state.standing.acked (acked_epochs marks)
acked_is quantum r [] = refl
acked_is quantum r (Take worker pid ∷ ms) = acked_is quantum (after_mark quantum r (Take worker pid)) ms
acked_is quantum r (Turn worker pid n ∷ ms) = acked_is quantum (after_mark quantum r (Turn worker pid n)) ms ∙ ap (λ (e : ℕ). last_of e (acked_epochs ms)) (turn_epochs quantum r.state pid n).1
acked_is quantum r (Barrier epoch ∷ ms) = acked_is quantum (after_mark quantum r (Barrier epoch)) ms
acked_is quantum r (Fetch epoch ∷ ms) = acked_is quantum (after_mark quantum r (Fetch epoch)) ms
acked_is quantum r (Ack epoch ∷ ms) = acked_is quantum (after_mark quantum r (Ack epoch)) ms

last_is : (epoch : ℕ) (acks : List AckMark) → last_epoch epoch acks ≡ last_of epoch (map (λ a. a.epoch) acks)
last_is epoch [] = refl
last_is epoch (a ∷ acks) = last_is a.epoch acks

-- the epoch and the turns that the call counts are the run's
told_numbers : (limits : Limits) (start : Group) (epoch : ℕ) (trace : List Mark) (acks : List AckMark) (answer : RunAnswer) (output : ℕ) → map (λ a. a.epoch) acks ≡ acked_epochs trace
    → end_for answer (last_epoch epoch acks) (turns_in trace) output ≡ end_for answer (last_acked (run_of limits start epoch trace)) (run_of limits start epoch trace).now.turns output
told_numbers limits start epoch trace acks answer output are =
    ap (λ (e : ℕ). end_for answer e (turns_in trace) output) (last_is epoch acks ∙ ap (last_of epoch) are ∙ sym (acked_is limits.quantum (progress_at epoch start) trace))
    ∙ ap (λ (n : ℕ). end_for answer (last_acked (run_of limits start epoch trace)) n output) (sym (turns_counted limits.quantum epoch start trace))

-- The run of a disk that was opened before it, from before the opening on.
module _ (run : RunSoFar) (before opened disk : DiskView) (out out' : SinkView) (at : ℕ) (acks : List AckMark) (answer : RunAnswer)
    (first : ForSome before.reading (HoldsOne run)) (opening : IsOpenedAt at before opened) (unwritten : IsUnwritten before opened)
    (ran : IsSoloRun run opened.moment acks opened disk out out' answer) where
  told : (r : List ℕ) → before.reading ≡ Some r → opened.reading ≡ Some r
  told r is = unwritten.reading ∙ is

  first_one : (r left : List ℕ) → before.reading ≡ Some r → left ≡ r → HoldsOne run left
  first_one r left is same = subst (HoldsOne run) (sym same) (first r is)

  earlier : (t : ℕ) → t ≤ before.moment → t ≤ opened.moment
  earlier t le = omega (arith, le, opening.not_before, opening.not_after)

  safe : (r : List ℕ) → before.reading ≡ Some r → Safe run at acks before disk
  safe r is = record {
    acknowledged = (ran.safe.stands.safe r (told r is)).acknowledged;
    opened = λ left since.
        ⊎_elim (λ old. first_one r left is (opening.opened r is left old)) (λ one. one)
        ((ran.safe.stands.safe r (told r is)).entered at left opening.not_after since);
    entered = λ t left le since.
        ⊎_elim
        (λ old. ⊎_elim (λ was. inl was) (λ same. inr (first_one r left is same)) (opening.entered r is t left le old))
        (λ one. inr one)
        ((ran.safe.stands.safe r (told r is)).entered t left (earlier t le) since);
  }

  unfetched : run.now.fetched ≡ run.origin_epoch → IsUnwritten before disk
  unfetched none =
      let still = ran.safe.stands.unfetched none in
      record {
        blocks = still.blocks ∙ unwritten.blocks;
        reading = still.reading ∙ unwritten.reading;
        writes = still.writes ∙ unwritten.writes;
        later = omega (arith, unwritten.later, still.later);
        left = λ t left le since. unwritten.left t left le (still.left t left (earlier t le) since);
        commits = λ none.
            let opening_told = unwritten.commits none in
            unchanged_then before opened disk opening_told (still.commits (none_after before opened none opening_told));
      }

  since_opening : IsSoloRun run at acks before disk out out' answer
  since_opening = record {
    safe = record {
      now_is = ran.safe.now_is;
      legal = ran.safe.legal;
      stands = record {
        blocks = ran.safe.stands.blocks ∙ unwritten.blocks;
        writes = omega (arith, ran.safe.stands.writes, unwritten.writes);
        safe = safe;
        told = (ran.safe.stands.told.0, told_from run acks ran.safe.stands.told.0 before opened disk unwritten ran.safe.stands.told.1);
        acked = record {
          epochs = ran.safe.stands.acked.epochs;
          opening = opening.not_before;
          moments = never_fall at opened.moment acks disk.moment opening.not_after ran.safe.stands.acked.moments;
        };
        released = ran.safe.stands.released;
        unfetched = unfetched;
      };
      ends = ends_as run before opened disk out out' answer unwritten.later ran.safe.ends;
    };
    current = λ no_fault r told. ran.current no_fault r (unwritten.reading ∙ told);
    none_given_up = λ no_fault. committed_from run acks before opened disk unwritten (ran.none_given_up no_fault);
    told = told_from run acks [] before opened disk unwritten ran.told;
    order = ran.order;
    whole = ran.whole;
  }

-- the run of a command that began after its opening
pub was_run : (words : List (List ℕ)) (before opened disk : DiskView) (files : FilesView) (out out' : SinkView) (at : ℕ) (command : Command (List ℕ)) (start : Group) (epoch : ℕ) (trace : List Mark) (acks : List AckMark) (answer : RunAnswer)
    → CanBegin words before files command start epoch → IsWithin out start.frame.out → IsOpenedAt at before opened → IsUnwritten before opened
    → IsSoloRun (run_of command.limits start epoch trace) opened.moment acks opened disk out out' answer
    → IsRunEnding words before disk files out out' at epoch trace acks (end_for answer (last_epoch epoch acks) (turns_in trace) out'.count)
was_run words before opened disk files out out' at command start epoch trace acks answer begins within opening unwritten ran =
    let run : RunSoFar = run_of command.limits start epoch trace in
    record {
      command = command;
      start = start;
      begins = begins;
      within = within;
      answer = answer;
      run = since_opening run before opened disk out out' at acks answer
          (holds_first command.beginning before files command.limits start epoch trace ran.safe.legal begins.suits begins.begins) opening unwritten ran;
      end_is = told_position run opened disk out out' answer (last_epoch epoch acks) (turns_in trace) ran.safe.ends
          ∙ told_numbers command.limits start epoch trace acks answer (last_position (last_group run).frame.out) ran.safe.stands.acked.epochs;
    }

-- the moment of its opening lies between the call's and the answer's
pub opened_between : (run : RunSoFar) (before opened disk : DiskView) (out out' : SinkView) (at : ℕ) (acks : List AckMark) (answer : RunAnswer) → IsOpenedAt at before opened
    → IsSoloRun run opened.moment acks opened disk out out' answer → (before.moment ≤ at) × (at ≤ disk.moment)
opened_between run before opened disk out out' at acks answer opening ran =
    let later = rise_to opened.moment acks disk.moment ran.safe.stands.acked.moments in
    (opening.not_before, omega (arith, opening.not_after, later))
