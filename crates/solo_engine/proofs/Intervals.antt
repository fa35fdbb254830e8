-- A run between two of its intervals, and what each part of the next one makes of it.
use Rattle.std.proofs.Common.{◌≡◌, ◌⊎◌, inl, inr, ℕ, ◌+◌, ◌-◌, ◌*◌, ◌^◌, ◌≤◌, List, [], ◌∷◌, ◌++◌, length, take, drop, Option, Some, None, refl, sym, ap, subst, ◌∙◌, arith, append_assoc}
use Rattle.std.specs.List.{AllByRecursion, filter_map}
use Rattle.std.specs.Option.{ForSome, option_map}
use Rattle.std.proofs.lemmas.List.{take_all}
use Rattle.dev_traits.specs.Counts.{Rose}
use Rattle.dev_traits.specs.Disk.{DiskView, LeftNow}
use Rattle.dev_traits.specs.Outside.{SinkView, Takes, TakesPart}
use Rattle.group_defs.specs.Group.{Group}
use Rattle.group_defs.specs.Output.{last_position}
use Rattle.group_defs.specs.Standing.{group_barrier}
use Rattle.run_defs.specs.Ends.{IsDone, IsSettled, IsSpent, IsStuck}
use Rattle.run_defs.specs.Legal.{HasBarrierCause, ready}
use Rattle.run_defs.specs.Marks.{acked_epoch}
use Rattle.run_defs.specs.Progress.{IsGroupOf, Progress, checkpoint, mark_of, output_between}
use Rattle.run_defs.specs.Solo.{IsSoloSoFar, IsSoloTrace}
use Rattle.run_defs.specs.declared.run.AckMark.{AckMark}
use Rattle.run_defs.specs.declared.run.Limits.{Limits}
use Rattle.run_defs.specs.declared.run.Mark.{Mark}
use Rattle.run_defs.specs.declared.run.Mark.TheVariants.{Barrier, Fetch, Ack}
use Rattle.run_laws.specs.Rests.{IsTraceAtRest, with_ack}
use Rattle.ckpt_records.specs.Cost.{calls_for, free_blocks}
use Rattle.ckpt_records.specs.Holds.{Holds, HoldsAt, IsCheckpointed}
use Rattle.ckpt_records.specs.Newest.{NewestCheckpoint, checkpoint as kept_checkpoint, HasNewest, epoch_after, used_by}
use Rattle.ckpt_chain.specs.Chain.{Has}
use Rattle.commit_gate.specs.Whole.{IsDataBlock, finished}
use Rattle.page_flusher.specs.CommitPlan.{IsPlan}
use Rattle.page_flusher.specs.KeptBlocks.{Describes, DescribesGates}
use Rattle.page_flusher.specs.declared.kept.KeptBlocks.{KeptBlocks}
use Rattle.sls_core.specs.Answers.{EndsByItself, EndsFor, IsSafeSoFar, IsSoloRun, writes_allowed}
use Rattle.sls_core.specs.Committed.{IsOnlyCommitted, TellsAcknowledged, WholeCommit, images_after}
use Rattle.sls_core.specs.Safe.{AreAcks, HoldsLastAcknowledged, IsReleasedInTime, IsWhole, Released, RunSoFar, Safe, last_acked, run_of}
use Rattle.sls_core.specs.declared.run.RunAnswer.{RunAnswer}
use Rattle.sls_core.specs.declared.run.RunAnswer.TheVariants.{Done, Stuck, Spent, DiskFault, SinkFault, DiskFull, NoMemory}
use Rattle.solo_engine.specs.Interval.{EndsIn, HasProgress, IsCommitted, IsFetched, IsNoneReady, IsOfTurn, IsPlanned, IsStart, IsUncommitted, IsUnplanned, LeavesNewestOrNext, ReleasesPart, ReleasesRest, StopsTurning, rest_of}
use Rattle.solo_engine.specs.declared.interval.PlannedCommit.{PlannedCommit}
use Rattle.solo_engine.proofs.Committing.{before_commit}
use Rattle.solo_engine.proofs.ReleasedInTime.{Covered, covered_more, in_time_fetched, in_time_on}
use Rattle.solo_engine.proofs.SafeSoFar.{IsCommitting, IsNewestOfRun, IsNow, Reached, acks_below, acks_later, acks_longer, acks_more, kept_acked, kept_last, kept_longer, longer, longer_twice, now_longer, reached_longer, reached_more, released, run_longer, safe_acked, safe_during, safe_longer}
use Rattle.solo_engine.proofs.Turning.{KeepsEpochs, at_group, turns_keep, turns_unacked}
use Rattle.solo_engine.proofs.WriteLaws.{allowed_fetched, allowed_longer, committed_calls, committed_longer, committed_more, tells_alone, tells_failed}

-- A run with its acknowledgements, and its disk and output as they were at its start and are now.
pub record RunHere : Type 1 where
  pub run : RunSoFar
  pub acks : List AckMark
  pub disk0 : DiskView
  pub disk : DiskView
  pub out0 : SinkView
  pub out : SinkView

abbrev pub here : Limits → Group → ℕ → List Mark → List AckMark → DiskView → DiskView → SinkView → SinkView → RunHere
here limits start origin trace acks disk0 disk out0 out = record { run = run_of limits start origin trace; acks = acks; disk0 = disk0; disk = disk; out0 = out0; out = out }

-- the same run with this trace
abbrev pub logged : RunHere → List Mark → RunHere
logged x trace = record x { run = run_of x.run.limits x.run.start x.run.origin_epoch trace }

abbrev pub StartOf : RunHere → Type 0
StartOf x = IsStart x.run.limits x.run.start x.run.origin_epoch

abbrev pub HasRun : RunHere → RunAnswer → Type 0
HasRun x answer = IsSoloRun x.run x.disk0.moment x.acks x.disk0 x.disk x.out0 x.out answer

abbrev pub IsSafeHere : RunHere → Type 0
IsSafeHere x = IsSafeSoFar x.run x.disk0.moment x.acks x.disk0 x.disk x.out0 x.out

abbrev LeavesLast : RunHere → Type 0
LeavesLast x = ForSome x.disk0.reading (λ r. (image : List ℕ) → LeftNow x.disk image → HoldsLastAcknowledged x.run image)

-- what stands of it between two commits, also where turns or a barrier stand behind the last one
pub record IsQuiet (x : RunHere) : Type 0 where
  pub safe : IsSafeHere x
  pub current : LeavesLast x
  pub none_given_up : IsOnlyCommitted x.run x.acks x.disk0 x.disk

-- between two intervals, with this group and what is known of the disk, after so many turns
pub record IsRunAtRest (x : RunHere) (g : Group) (k : KeptBlocks) (made : ℕ) : Type 0 where
  pub has : HasProgress g made 0 x.run.now
  pub stands : IsTraceAtRest x.run.start x.run.origin_epoch x.run.limits x.run.trace x.run.now
  pub last_is : x.run.now.state.standing.last ≡ k.epoch
  pub fetched_is : x.run.now.fetched ≡ k.epoch
  pub begins : x.run.origin_epoch ≤ k.epoch
  pub checkpointed : IsCheckpointed g
  pub position : last_position g.frame.out ≤ 2 ^ 62 + 1048576 * made
  pub epochs : k.epoch ≤ 2 ^ 62 + made
  pub within : made ≤ x.run.limits.turns
  pub safe : IsSafeHere x
  pub none_given_up : IsOnlyCommitted x.run x.acks x.disk0 x.disk
  pub disk_faults : x.disk0.faults ≤ x.disk.faults
  pub out_faults : x.out0.faults ≤ x.out.faults
  pub gates : ForSome x.disk.reading (λ r. DescribesGates k r)
  pub kept : NewestCheckpoint
  pub knows : Describes k kept
  pub keeps : ForSome x.disk.reading (λ r. HasNewest r kept)
  pub kept_is : IsNewestOfRun x.run x.acks kept
  -- no turn was made since the last barrier, which was acknowledged
  pub group_is : IsGroupOf x.run.now k.epoch g
  pub reached : Reached x.run x.out0 x.out g.frame.out.mark
  pub out_at : x.out.count ≡ g.frame.out.mark
  -- what each barrier up to the last covers is out
  pub covered : Covered x.run g.frame.out.mark

rose_later : (a b c : ℕ) → a ≤ b → Rose b c → Rose a c
rose_later a b c le rose = omega (arith, le, rose)

pub answered : (x : RunHere) → StartOf x → (answer : RunAnswer) → IsNow x.run → IsSoloSoFar x.run.start x.run.origin_epoch x.run.limits x.run.trace → IsSafeHere x → TellsAcknowledged x.run x.acks [] x.disk0 x.disk → ((answer ≡ DiskFault → ⊥) → IsQuiet x)
    → EndsFor x.run x.disk0 x.disk x.out0 x.out answer → (EndsByItself answer → IsSoloTrace x.run.start x.run.origin_epoch x.run.limits x.run.trace) → HasRun x answer
answered x s answer now so_far safe told quiet ends whole = record {
  safe = record { now_is = now; legal = s.legal x.run.trace so_far; stands = safe; ends = ends };
  current = λ other. (quiet other).current;
  none_given_up = λ other. (quiet other).none_given_up;
  told = told;
  order = s.prefix x.run.trace so_far;
  whole = whole;
}

-- ... between two commits
pub answered_quiet : (x : RunHere) → StartOf x → (answer : RunAnswer) → IsNow x.run → IsSoloSoFar x.run.start x.run.origin_epoch x.run.limits x.run.trace → IsQuiet x
    → EndsFor x.run x.disk0 x.disk x.out0 x.out answer → (EndsByItself answer → IsSoloTrace x.run.start x.run.origin_epoch x.run.limits x.run.trace) → HasRun x answer
answered_quiet x s answer now so_far q ends whole = answered x s answer now so_far q.safe (tells_alone x.run x.acks x.disk0 x.disk q.none_given_up) (λ other. q) ends whole

-- ---- the trace grows, and neither the disk nor the output changes

abbrev pub here_longer : RunHere → List Mark → RunHere
here_longer x more = record x { run = longer x.run more }

module _ (x : RunHere) (s : StartOf x) (more : List Mark) (unacked : filter_map acked_epoch more ≡ []) (same : last_acked (longer x.run more) ≡ last_acked x.run)
    (begins : x.run.origin_epoch ≤ x.run.now.fetched) (later : x.run.now.fetched ≤ (longer x.run more).now.fetched) where
  quiet_longer : IsQuiet x → (g : Group) → IsGroupOf x.run.now (last_acked x.run) g → Reached x.run x.out0 x.out g.frame.out.mark → IsReleasedInTime (longer x.run more) g.frame.out.mark → IsQuiet (here_longer x more)
  quiet_longer q g group_is reached prompt = record {
    safe = record {
      told = ([], tells_alone (longer x.run more) x.acks x.disk0 x.disk only);
      blocks = q.safe.blocks;
      writes = omega (arith, q.safe.writes, allowed_longer x.run s.epochs more);
      safe = λ r told. safe_longer x.run s.epochs more later x.disk0.moment x.acks x.disk0 x.disk (q.safe.safe r told);
      acked = acks_longer x.run more x.disk0.moment x.acks x.disk0 x.disk unacked q.safe.acked;
      released = released (longer x.run more) x.out0 x.out g.frame.out.mark g.frame.out.mark (reached_longer x.run s.parts more x.out0 x.out g.frame.out.mark reached)
          (ap (mark_of (longer x.run more).now) same ∙ ap (option_map (λ (h : Group). h.frame.out.mark)) (s.epochs.later x.run.now more (last_acked x.run) g group_is)) (omega arith) prompt;
      unfetched = λ none. q.safe.unfetched (omega (arith, none, begins, later));
    };
    current = λ r told image left. last_on (q.current r told image left);
    none_given_up = only;
  }
    where
      only : IsOnlyCommitted (longer x.run more) x.acks x.disk0 x.disk
      only = committed_longer x.run s.epochs more x.acks x.disk0 x.disk q.none_given_up

      last_on : {image : List ℕ} → HoldsLastAcknowledged x.run image → HoldsLastAcknowledged (longer x.run more) image
      last_on {image} (inl (h, is, held)) = inl (h, subst (λ (e : ℕ). IsGroupOf (longer x.run more).now e h) (sym same) (s.epochs.later x.run.now more (last_acked x.run) h is), subst (λ (e : ℕ). Holds image e h) (sym same) held)
      last_on (inr (zero, none)) = inr (same ∙ zero, none)

module _ (x : RunHere) (s : StartOf x) (g : Group) (k : KeptBlocks) (made : ℕ) (rest : IsRunAtRest x g k made) where
  last_is_kept : last_acked x.run ≡ k.epoch
  last_is_kept = rest.stands.rests.acked ∙ rest.last_is

  now_here : IsNow x.run
  now_here = sym rest.stands.stands

  run_now : run_of x.run.limits x.run.start x.run.origin_epoch x.run.trace ≡ x.run
  run_now = ap (λ (r : Progress). record x.run { now = r }) rest.stands.stands

  run_more : (more trace' : List Mark) → trace' ≡ x.run.trace ++ more → run_of x.run.limits x.run.start x.run.origin_epoch trace' ≡ longer x.run more
  run_more more trace' is = run_longer x.run.limits x.run.start x.run.origin_epoch x.run.trace more trace' is ∙ ap (λ (r : RunSoFar). longer r more) run_now

  told_now : (r : List ℕ) → x.disk0.reading ≡ Some r → (now : List ℕ) × (x.disk.reading ≡ Some now)
  told_now r told = (images_after rest.none_given_up.commits r, rest.none_given_up.reads ∙ ap (option_map (images_after rest.none_given_up.commits)) told)

  quiet : IsQuiet x
  quiet = record {
    safe = rest.safe;
    current = λ r told image left.
        let now = told_now r told in
        kept_last x.run x.acks rest.kept image rest.kept_is (subst (λ (i : List ℕ). HasNewest i rest.kept) (sym (rest.none_given_up.only now.0 now.1 image left)) (rest.keeps now.0 now.1));
    none_given_up = rest.none_given_up;
  }

  -- ---- turns

  module _ (more : List Mark) (turns : AllByRecursion IsOfTurn more) where
    keeps : KeepsEpochs x.run.now (longer x.run more).now
    keeps = turns_keep x.run.limits.quantum x.run.now more turns

    quiet_turned : IsQuiet (here_longer x more)
    quiet_turned =
        quiet_longer x s more (turns_unacked more turns) keeps.acked (omega (arith, rest.begins, rest.fetched_is)) (omega (arith, keeps.fetched)) quiet g
        (subst (λ (e : ℕ). IsGroupOf x.run.now e g) (sym last_is_kept) rest.group_is) rest.reached (in_time_on x.run g.frame.out.mark rest.covered more keeps.checkpoints)

  -- memory ran out during them
  pub stopped : (trace' : List Mark) → StopsTurning x.run.limits x.run.trace trace' g made → HasRun (logged x trace') NoMemory
  stopped trace' stop =
      let q = quiet_turned stop.more stop.turns in
      subst (λ (r : RunSoFar). HasRun (record x { run = r }) NoMemory) (sym (run_more stop.more trace' stop.trace_is)) (answered_quiet (here_longer x stop.more) s NoMemory (now_longer x.run stop.more now_here)
      (subst (IsSoloSoFar x.run.start x.run.origin_epoch x.run.limits) stop.trace_is (stop.so_far x.run.start x.run.origin_epoch x.run.now rest.stands rest.has)) q tt (λ e. absurd e))

  -- ---- a barrier that is fetched

  module _ (g' : Group) (made' : ℕ) (trace' : List Mark) (f : IsFetched x.run.limits k.epoch x.run.trace trace' g g' made made') where
    abbrev more : List Mark
    more = f.comes.turned.more

    abbrev commit_marks : List Mark
    commit_marks = Barrier (k.epoch + 1) ∷ Fetch (k.epoch + 1) ∷ []

    abbrev x1 : RunHere
    x1 = here_longer x more

    abbrev x2 : RunHere
    x2 = here_longer x1 commit_marks

    abbrev both : List Mark
    both = more ++ commit_marks

    now2 : IsNow x2.run
    now2 = now_longer x1.run commit_marks (now_longer x.run more now_here)

    same2 : longer x.run both ≡ x2.run
    same2 = sym (longer_twice x.run more commit_marks)

    on : IsTraceAtRest x.run.start x.run.origin_epoch x.run.limits f.marks x1.run.now × HasProgress f.before (made + f.comes.since) f.comes.since x1.run.now
    on = f.comes.turned.goes_on x.run.start x.run.origin_epoch x.run.now rest.stands rest.has

    due : HasBarrierCause x.run.limits x1.run.now
    due = f.comes.due x1.run.now on.1

    kept1 : KeepsEpochs x.run.now x1.run.now
    kept1 = keeps more f.comes.turned.turns

    next : k.epoch + 1 ≡ x1.run.now.state.standing.last + 1
    next = omega (arith, kept1.last, rest.last_is)

    trace_is : trace' ≡ x2.run.trace
    trace_is = f.trace_is ∙ append_assoc f.marks (Barrier (k.epoch + 1) ∷ []) (Fetch (k.epoch + 1) ∷ []) ∙ ap (λ (l : List Mark). l ++ commit_marks) f.comes.turned.trace_is

    run_fetched : run_of x.run.limits x.run.start x.run.origin_epoch trace' ≡ x2.run
    run_fetched = run_more both trace' (trace_is ∙ append_assoc x.run.trace more commit_marks) ∙ same2

    so_far : IsSoloSoFar x.run.start x.run.origin_epoch x.run.limits x2.run.trace
    so_far = subst (IsSoloSoFar x.run.start x.run.origin_epoch x.run.limits) (sym f.trace_is ∙ trace_is) (s.rests.fetch f.marks x1.run.now (k.epoch + 1) on.0 due next)

    group_at : IsGroupOf x2.run.now (k.epoch + 1) g'
    group_at =
        ap (option_map (λ c. c.group)) (s.epochs.made f.marks x1.run.now (k.epoch + 1) on.0 next)
        ∙ ap (λ (h : Group). Some (group_barrier h)) on.1.group ∙ ap (λ (h : Group). Some h) (sym f.group_is)

    committing : IsCommitting x2.run (k.epoch + 1) g'
    committing = record { fetched = omega arith; group_is = group_at }

    last1 : last_acked x1.run ≡ k.epoch
    last1 = kept1.acked ∙ last_is_kept

    group1 : IsGroupOf x1.run.now (last_acked x1.run) g
    group1 = subst (λ (e : ℕ). IsGroupOf x1.run.now e g) (sym last1) (s.epochs.later x.run.now more k.epoch g rest.group_is)

    adds : x2.run.now.checkpoints ≡ x.run.now.checkpoints ++ checkpoint x1.run.now (k.epoch + 1) ∷ []
    adds = ap (λ cs. cs ++ checkpoint x1.run.now (k.epoch + 1) ∷ []) kept1.checkpoints

    in_time : (to : ℕ) → g.frame.out.mark ≤ to → IsReleasedInTime x2.run to
    in_time to up =
        subst (λ (r : RunSoFar). IsReleasedInTime r to) same2
        (in_time_fetched x.run g.frame.out.mark rest.covered both (checkpoint x1.run.now (k.epoch + 1)) (ap (λ (r : RunSoFar). r.now.checkpoints) same2 ∙ adds) (ap (λ (r : RunSoFar). r.now.fetched) same2) to up)

    quiet_fetched : IsQuiet x2
    quiet_fetched =
        quiet_longer x1 s commit_marks refl refl (omega (arith, rest.begins, rest.fetched_is, kept1.fetched)) (omega (arith, rest.fetched_is, kept1.fetched)) (quiet_turned more f.comes.turned.turns) g group1
        (reached_longer x.run s.parts more x.out0 x.out g.frame.out.mark rest.reached) (in_time g.frame.out.mark (omega arith))

    -- the fetch allows the writes of its commit
    allowed : writes_allowed x.run + calls_for g' ≤ writes_allowed x2.run
    allowed = omega (arith, allowed_longer x.run s.epochs more, allowed_fetched x1.run s.epochs (k.epoch + 1) g' group_at)

    -- there was no plan
    pub unplanned : (answer : RunAnswer) (count : ℕ) → count ≡ x.disk.blocks → IsUnplanned count g' k answer → HasRun (logged x trace') answer
    unplanned answer count same u = subst (λ (r : RunSoFar). HasRun (record x { run = r }) answer) (sym run_fetched) (by_answer answer u)
      where
        by_answer : (answer : RunAnswer) → IsUnplanned count g' k answer → HasRun x2 answer
        by_answer (DiskFull need free) u = answered_quiet x2 s (DiskFull need free) now2 so_far quiet_fetched (record {
          unacked = omega (arith, last1);
          group = g';
          group_is = group_at;
          need_is = u.need_is;
          free_is = λ r told. record {
            kept = rest.kept;
            keeps = rest.keeps r told;
            next = rest.knows.epoch;
            free_is = u.free_is (used_by rest.kept) rest.knows.used ∙ ap (λ (n : ℕ). free_blocks n (used_by rest.kept)) same;
          };
          too_few = u.too_few;
        }) (λ e. absurd e)
        by_answer NoMemory u = answered_quiet x2 s NoMemory now2 so_far quiet_fetched tt (λ e. absurd e)
        by_answer Done u = absurd u
        by_answer Stuck u = absurd u
        by_answer Spent u = absurd u
        by_answer DiskFault u = absurd u
        by_answer SinkFault u = absurd u

    kept_on : IsNewestOfRun x2.run x.acks rest.kept
    kept_on = kept_longer x1.run s.epochs commit_marks (omega (arith, rest.fetched_is, kept1.fetched)) x.acks rest.kept refl (kept_longer x.run s.epochs more (omega (arith, kept1.fetched)) x.acks rest.kept kept1.acked rest.kept_is)

    committing_kept : IsCommitting x2.run (epoch_after rest.kept) g'
    committing_kept = subst (λ (e : ℕ). IsCommitting x2.run e g') (sym rest.knows.epoch) committing

    safe_written : (disk' : DiskView) → LeavesNewestOrNext k g' x.disk disk' → ForSome x.disk0.reading (λ r. Safe x2.run x.disk0.moment x.acks x.disk0 disk')
    safe_written disk' leaves r told =
        let now = told_now r told in
        safe_during x2.run x.acks x.disk0 x.disk disk' x.disk0.moment (quiet_fetched.safe.safe r told) quiet_fetched.safe.acked rest.kept kept_on g' committing_kept (leaves now.0 now.1 rest.kept rest.knows (rest.keeps now.0 now.1))

    acked_written : (disk' : DiskView) → x.disk.moment ≤ disk'.moment → AreAcks x2.run x.disk0.moment x.acks x.disk0 disk'
    acked_written disk' later = acks_later x2.run x.disk0.moment x.acks x.disk0 x.disk disk' later quiet_fetched.safe.acked

    -- the commit failed
    pub uncommitted : (disk' : DiskView) → IsUncommitted k g' x.disk disk' → HasRun (record (logged x trace') { disk = disk' }) DiskFault
    uncommitted disk' u =
        subst (λ (r : RunSoFar). HasRun (record x { run = r; disk = disk' }) DiskFault) (sym run_fetched)
        (answered (record x2 { disk = disk' }) s DiskFault now2 so_far stands tells (λ other. absurd (other refl)) (rose_later x.disk0.faults x.disk.faults disk'.faults rest.disk_faults u.rose) (λ e. absurd e))
      where
        tells : TellsAcknowledged x2.run x.acks [] x.disk0 disk'
        tells = tells_failed x2.run x.acks x.disk0 x.disk disk' quiet_fetched.none_given_up u.none_ended

        stands : IsSafeHere (record x2 { disk = disk' })
        stands = record {
          blocks = u.blocks ∙ rest.safe.blocks;
          writes = omega (arith, u.writes, rest.safe.writes, allowed);
          safe = safe_written disk' u.leaves;
          told = ([], tells);
          acked = acked_written disk' u.later;
          released = quiet_fetched.safe.released;
          unfetched = λ none. absurd (omega (arith, none, rest.begins));
        }

    -- ---- it was acknowledged

    module _ (ready : PlannedCommit) (count : ℕ) (same : count ≡ x.disk.blocks) (is_ready : IsPlanned count g' k ready) (disk' : DiskView) (trace'' : List Mark) (acks' : List AckMark)
        (size : (r : List ℕ) → x.disk.reading ≡ Some r → length r ≡ 4096 * x.disk.blocks) (done : IsCommitted k g' ready.plan.blocks ready.plan.body x.disk disk' trace' trace'' x.acks acks') where
      abbrev ack_marks : List Mark
      ack_marks = Ack (k.epoch + 1) ∷ []

      abbrev acked : AckMark
      acked = record { epoch = k.epoch + 1; at = disk'.moment }

      abbrev x3 : SinkView → RunHere
      x3 out' = record x2 { run = longer x2.run ack_marks; acks = x.acks ++ acked ∷ []; disk = disk'; out = out' }

      run3 : RunSoFar
      run3 = longer x2.run ack_marks

      plan : IsPlan count k.used (k.epoch + 1) g' ready.plan.blocks ready.plan.body
      plan = is_ready.plan

      kept' : NewestCheckpoint
      kept' = kept_checkpoint (k.epoch + 1) g' plan.pages plan.metas k.target

      after : List ℕ → List ℕ
      after r = finished k.target ready.plan.blocks ready.plan.body r

      holds_after : (r : List ℕ) → x.disk.reading ≡ Some r → HoldsAt (after r) (k.epoch + 1) g' plan.pages plan.metas k.target
      unfolding after
      holds_after r told = (plan.replaces rest.kept k.target r (before_commit count k rest.kept r rest.knows (size r told ∙ ap (λ (n : ℕ). 4096 * n) (sym same)) (rest.keeps r told))).after

      told_before : (now : List ℕ) → disk'.reading ≡ Some now → (r : List ℕ) × (x.disk.reading ≡ Some r) × (now ≡ after r)
      unfolding after
      told_before now told = from_map x.disk.reading refl
        where
          from_map : (o : Option (List ℕ)) → x.disk.reading ≡ o → (r : List ℕ) × (x.disk.reading ≡ Some r) × (now ≡ after r)
          from_map None is = let none : disk'.reading ≡ None = done.reads ∙ ap (option_map after) is in absurd (cc)
          from_map (Some r) is = let there : disk'.reading ≡ Some (after r) = done.reads ∙ ap (option_map after) is in (r, is, cc)

      keeps' : ForSome disk'.reading (λ r. HasNewest r kept')
      unfolding kept'
      keeps' now told =
          let was = told_before now told in
          subst (λ (i : List ℕ). HoldsAt i (k.epoch + 1) g' plan.pages plan.metas k.target) (sym was.2) (holds_after was.0 was.1)

      held_now : (r : List ℕ) → x.disk0.reading ≡ Some r → (image : List ℕ) → LeftNow disk' image → Holds image (k.epoch + 1) g'
      unfolding after
      held_now r told image left =
          let now = told_now r told in
          let is : image ≡ after now.0 = done.only (after now.0) (done.reads ∙ ap (option_map after) now.1) image left in
          subst (λ (i : List ℕ). Holds i (k.epoch + 1) g') (sym is) (record { pages = plan.pages; metas = plan.metas; slot = k.target; at = holds_after now.0 now.1 })

      knows' : Describes ready.next kept'
      unfolding kept'
      knows' = record {
        epoch = ap (λ (n : ℕ). n + 1) (sym is_ready.next.epoch);
        used = λ b. (
          (λ has. (plan.uses b).0 (subst (λ (l : List ℕ). Has b l) is_ready.next.used has)),
          (λ has. subst (λ (l : List ℕ). Has b l) (sym is_ready.next.used) ((plan.uses b).1 has)),
        );
        target = sym is_ready.next.target;
      }

      -- the commit as it was made
      made_commit : WholeCommit
      made_commit = record { closes = done.closes; target = k.target; blocks = ready.plan.blocks; body = ready.plan.body }

      committed : IsOnlyCommitted run3 (x.acks ++ acked ∷ []) x.disk0 disk'
      unfolding run3 made_commit after
      committed =
          committed_more run3 acked made_commit x.acks x.disk0 x.disk disk' (committed_longer x2.run s.epochs ack_marks x.acks x.disk0 x.disk quiet_fetched.none_given_up)
          (record {
            group = g';
            group_is = group_at;
            pages = plan.pages;
            metas = plan.metas;
            listed = plan.listed;
            metas_are = plan.metas_are;
            uses = plan.uses;
            one_each = plan.one_each;
            once = plan.once;
            placed = subst (λ (n : ℕ). AllByRecursion (IsDataBlock n) ready.plan.blocks) (same ∙ rest.safe.blocks) plan.placed;
            few = plan.size;
            format = plan.format;
            epoch_is = plan.epoch_is;
            first_is = plan.first_is;
            length_is = plan.length_is;
            beside = λ r told. record {
              kept = rest.kept;
              keeps = rest.keeps r told;
              next = rest.knows.epoch;
              into = rest.knows.target;
              unused = λ b has in_use. plan.unused b has ((rest.knows.used b).1 in_use);
            };
            closed = done.closed;
            held = holds_after;
          }) done.writes done.reads done.only done.commits

      quiet_acked : (out' : SinkView) → Released run3 x.out0 out' → IsQuiet (x3 out')
      unfolding run3
      quiet_acked out' r =
          let calls = committed_calls g' done.closes ready.plan.blocks x.disk.writes disk'.writes plan.size done.writes in
          record {
            safe = record {
              blocks = done.blocks ∙ rest.safe.blocks;
              writes = omega (arith, calls, rest.safe.writes, allowed, allowed_longer x2.run s.epochs ack_marks);
              safe = λ b told. safe_acked x2.run s.epochs ack_marks (omega arith) (k.epoch + 1) x.disk0.moment x.acks x.disk0 disk' g' (safe_written disk' done.leaves b told) committing (held_now b told);
              told = ([], tells_alone run3 (x.acks ++ acked ∷ []) x.disk0 disk' committed);
              acked = acks_more x2.run (k.epoch + 1) x.disk0.moment x.acks x.disk0 disk' (acked_written disk' done.later);
              released = r;
              unfetched = λ none. absurd (omega (arith, none, rest.begins));
            };
            current = λ r told image left. inl (g', group_at, held_now r told image left);
            none_given_up = committed;
          }

      stands' : IsTraceAtRest x.run.start x.run.origin_epoch x.run.limits run3.trace run3.now
      unfolding run3
      stands' =
          let is : with_ack f.marks (k.epoch + 1) ≡ x2.run.trace ++ ack_marks = ap (λ (l : List Mark). l ++ ack_marks) (sym f.trace_is ∙ trace_is) in
          subst (λ (l : List Mark). IsTraceAtRest x.run.start x.run.origin_epoch x.run.limits l run3.now) is (s.rests.commit f.marks x1.run.now (k.epoch + 1) on.0 due next)

      has' : HasProgress g' made' 0 run3.now
      unfolding run3
      has' = record { group = ap group_barrier on.1.group ∙ sym f.group_is; made_is = on.1.made_is ∙ sym f.comes.made_is; since_is = refl }

      -- ---- the release

      before_mark : f.before.frame.out.mark ≡ g.frame.out.mark
      before_mark = f.comes.turned.mark_is

      last_same : last_position g'.frame.out ≡ last_position f.before.frame.out
      last_same =
          ap (λ (h : Group). last_position h.frame.out) f.group_is
          ∙ subst (λ (h : Group). last_position (group_barrier h).frame.out ≡ last_position h.frame.out) on.1.group (s.lets_out.stays f.marks x1.run.now (k.epoch + 1) on.0)

      reaches_all : last_position g'.frame.out ≡ x.run.start.frame.out.from + length run3.now.output
      reaches_all = ap (λ (h : Group). last_position h.frame.out) (sym has'.group) ∙ s.lets_out.reaches run3.trace run3.now stands'

      -- what the barrier left is the output from the old mark on
      piece_is : output_between x.run.start run3.now g.frame.out.mark (last_position g'.frame.out) ≡ g'.frame.out.bytes
      unfolding run3
      piece_is =
          ap (λ (n : ℕ). output_between x.run.start run3.now g.frame.out.mark n) last_same
          ∙ ap (λ (n : ℕ). output_between x.run.start run3.now n (last_position f.before.frame.out)) (sym before_mark)
          ∙ subst (λ (h : Group). output_between x.run.start run3.now h.frame.out.mark (last_position h.frame.out) ≡ (group_barrier h).frame.out.bytes) on.1.group
          (s.lets_out.lets_out f.marks (commit_marks ++ ack_marks) x1.run.now (k.epoch + 1) on.0)
          ∙ ap (λ (h : Group). h.frame.out.bytes) (sym f.group_is)

      rest_is : rest_of g'.frame.out x.out ≡ g'.frame.out.bytes
      rest_is = let none : x.out.count - g'.frame.out.from ≡ 0 = omega (arith, rest.out_at, f.from_is) in ap (λ (n : ℕ). drop n g'.frame.out.bytes) none

      mark_far : g'.frame.out.mark ≡ g.frame.out.mark + length g'.frame.out.bytes
      mark_far = omega (arith, f.checkpointed.all_marked, f.from_is)

      reached_on : (out' : SinkView) (m : ℕ) → m ≤ length g'.frame.out.bytes → Takes (take m g'.frame.out.bytes) x.out out' → Reached run3 x.out0 out' (g.frame.out.mark + m)
      unfolding run3
      reached_on out' m le taken =
          let r1 = reached_longer x.run s.parts more x.out0 x.out g.frame.out.mark rest.reached in
          let r3 = reached_longer x2.run s.parts ack_marks x.out0 x.out g.frame.out.mark (reached_longer x1.run s.parts commit_marks x.out0 x.out g.frame.out.mark r1) in
          reached_more run3 s.parts x.out0 x.out out' g.frame.out.mark (last_position g'.frame.out) m g'.frame.out.bytes r3 (omega (arith, mark_far, f.checkpointed.all_marked)) (omega (arith, reaches_all)) piece_is le taken

      released_on : (out' : SinkView) (m : ℕ) → m ≤ length g'.frame.out.bytes → Takes (take m g'.frame.out.bytes) x.out out' → Released run3 x.out0 out'
      unfolding run3
      released_on out' m le taken =
          let prompt = in_time (g.frame.out.mark + m) (omega arith) in
          released run3 x.out0 out' (g.frame.out.mark + m) g'.frame.out.mark (reached_on out' m le taken) (ap (option_map (λ (h : Group). h.frame.out.mark)) group_at) (omega (arith, mark_far, le))
          (record { begun = inr (omega (arith, rest.covered.begun)); fetched = prompt.fetched })

      -- the log has it
      as_logged : (P : RunSoFar → List AckMark → Type 0) → P run3 (x.acks ++ acked ∷ []) → P (run_of x.run.limits x.run.start x.run.origin_epoch trace'') acks'
      unfolding run3
      as_logged P p =
          let is = run_longer x.run.limits x.run.start x.run.origin_epoch trace' ack_marks trace'' done.trace_is ∙ ap (λ (r : RunSoFar). longer r ack_marks) run_fetched in
          subst (λ (a : List AckMark). P (run_of x.run.limits x.run.start x.run.origin_epoch trace'') a) (sym done.acks_is) (subst (λ (r : RunSoFar). P r (x.acks ++ acked ∷ [])) (sym is) p)

      -- the output failed
      pub unreleased : (out' : SinkView) → ReleasesPart g'.frame.out x.out out' → HasRun (record (logged x trace'') { acks = acks'; disk = disk'; out = out' }) SinkFault
      unfolding run3
      unreleased out' r =
          let part : TakesPart g'.frame.out.bytes x.out out' = subst (λ (l : List ℕ). TakesPart l x.out out') rest_is r.part in
          let q = quiet_acked out' (released_on out' part.0 (omega (arith, part.1)) part.2) in
          as_logged (λ r a. HasRun (record x { run = r; acks = a; disk = disk'; out = out' }) SinkFault) (answered_quiet (x3 out') s SinkFault (sym stands'.stands) stands'.so_far q (rose_later x.out0.faults x.out.faults out'.faults rest.out_faults r.rose) (λ e. absurd e))

      rests_then : (out' : SinkView) → 16 ≤ x.disk.blocks → ReleasesRest g'.frame.out x.out out' → IsRunAtRest (x3 out') g' ready.next made'
      unfolding kept' run3 after
      rests_then out' least r =
          let all : Takes (take (length g'.frame.out.bytes) g'.frame.out.bytes) x.out out' = subst (λ (l : List ℕ). Takes l x.out out') (rest_is ∙ sym (take_all (length g'.frame.out.bytes) g'.frame.out.bytes (omega arith))) r.taken in
          let count : out'.count ≡ x.out.count + length g'.frame.out.bytes = r.taken.count ∙ ap (λ (l : List ℕ). x.out.count + length l) rest_is in
          let q = quiet_acked out' (released_on out' (length g'.frame.out.bytes) (omega arith) all) in
          record {
            has = has';
            stands = stands';
            last_is = sym is_ready.next.epoch;
            fetched_is = sym is_ready.next.epoch;
            begins = omega (arith, rest.begins, is_ready.next.epoch);
            checkpointed = f.checkpointed;
            position = omega (arith, rest.position, f.comes.turned.grown, f.comes.made_is, last_same);
            epochs = omega (arith, is_ready.next.epoch, rest.epochs, f.comes.made_is, f.comes.some);
            within = omega (arith, f.comes.turned.within, f.comes.made_is);
            safe = q.safe;
            none_given_up = q.none_given_up;
            disk_faults = omega (arith, rest.disk_faults, done.faults);
            out_faults = omega (arith, rest.out_faults, r.faults);
            gates = λ now told.
                let was = told_before now told in
                subst (λ (i : List ℕ). DescribesGates ready.next i) (sym was.2)
                (is_ready.next.gates x.disk.blocks ready.plan.body was.0 least (size was.0 was.1) (subst (λ (n : ℕ). AllByRecursion (IsDataBlock n) ready.plan.blocks) same plan.placed) (rest.gates was.0 was.1));
            kept = kept';
            knows = knows';
            keeps = keeps';
            kept_is = kept_acked x2.run s.epochs (k.epoch + 1) disk'.moment x.acks g' committing (subst (λ (e : ℕ). AllByRecursion (λ (a : AckMark). a.epoch ≤ e) x.acks) rest.knows.epoch (acks_below x.run x.acks rest.kept rest.kept_is));
            group_is = subst (λ (e : ℕ). IsGroupOf run3.now e g') (sym is_ready.next.epoch) group_at;
            reached = subst (λ (n : ℕ). Reached run3 x.out0 out' n) (sym mark_far) (reached_on out' (length g'.frame.out.bytes) (omega arith) all);
            out_at = omega (arith, count, rest.out_at, mark_far);
            covered = covered_now;
          }
        where
          covered_now : Covered run3 g'.frame.out.mark
          covered_now =
              let two = subst (λ (r : RunSoFar). Covered r g'.frame.out.mark) same2
              (covered_more x.run g.frame.out.mark rest.covered both (checkpoint x1.run.now (k.epoch + 1)) (ap (λ (r : RunSoFar). r.now.checkpoints) same2 ∙ adds) g'.frame.out.mark (omega (arith, mark_far)) (omega (arith, ap (λ (h : Group). h.frame.out.mark) has'.group))) in
              record { begun = two.begun; marks = two.marks }

      -- an interval more
      pub rests_again : (out' : SinkView) → 16 ≤ x.disk.blocks → ReleasesRest g'.frame.out x.out out' → IsRunAtRest (record (logged x trace'') { acks = acks'; disk = disk'; out = out' }) g' ready.next made'
      unfolding run3
      rests_again out' least r = as_logged (λ r a. IsRunAtRest (record x { run = r; acks = a; disk = disk'; out = out' }) g' ready.next made') (rests_then out' least r)

  -- ---- the end

  pub ended : (answer : RunAnswer) → IsNoneReady g ⊎ (x.run.limits.turns ≤ made) → EndsIn g answer → HasRun x answer
  ended answer over ends = answered_quiet x s answer now_here rest.stands.so_far quiet (by_answer answer ends) (by_itself answer ends)
    where
      settled : IsSettled x.run.now
      settled = record { rests = rest.stands.rests; no_turn = rest.has.since_is }

      whole : IsWhole x.run x.out
      whole = record { settled = settled; all_out = rest.out_at ∙ rest.checkpointed.all_marked ∙ ap (λ (h : Group). last_position h.frame.out) (sym rest.has.group) }

      done : IsDone g → IsDone x.run.now.state.group
      done is = subst IsDone (sym rest.has.group) is

      stuck : EndsIn g Stuck → IsStuck x.run.now.state
      stuck is = at_group IsStuck g x.run.now rest.has.group is

      all_made : IsNoneReady g ⊎ (x.run.limits.turns ≤ made) → (ready (record { group = g; standing = x.run.now.state.standing }) ≡ [] → ⊥) → made ≡ x.run.limits.turns
      all_made (inl none) some = absurd (some (none x.run.now.state.standing))
      all_made (inr all) some = omega (arith, all, rest.within)

      spent : EndsIn g Spent → IsSpent x.run.limits x.run.now
      spent e = record {
        turns = rest.has.made_is ∙ all_made over (e.1 x.run.now.state.standing).1;
        not_done = λ is. e.0 (subst IsDone rest.has.group is);
        not_stuck = λ is. at_group (λ s. IsStuck s → ⊥) g x.run.now rest.has.group (λ standing. (e.1 standing).0) is;
      }

      solo : IsDone x.run.now.state.group ⊎ (IsStuck x.run.now.state ⊎ IsSpent x.run.limits x.run.now) → IsSoloTrace x.run.start x.run.origin_epoch x.run.limits x.run.trace
      solo end = record { so_far = rest.stands.so_far; ended = subst (λ (r : Progress). IsSettled r × (IsDone r.state.group ⊎ (IsStuck r.state ⊎ IsSpent x.run.limits r))) (sym rest.stands.stands) (settled, end) }

      by_itself : (answer : RunAnswer) → EndsIn g answer → EndsByItself answer → IsSoloTrace x.run.start x.run.origin_epoch x.run.limits x.run.trace
      by_itself Done e itself = solo (inl (done e))
      by_itself Stuck e itself = solo (inr (inl (stuck e)))
      by_itself Spent e itself = solo (inr (inr (spent e)))
      by_itself DiskFault e itself = absurd e
      by_itself SinkFault e itself = absurd e
      by_itself (DiskFull need free) e itself = absurd e
      by_itself NoMemory e itself = absurd e

      by_answer : (answer : RunAnswer) → EndsIn g answer → EndsFor x.run x.disk0 x.disk x.out0 x.out answer
      by_answer Done e = (whole, done e)
      by_answer Stuck e = (whole, stuck e)
      by_answer Spent e = (whole, spent e)
      by_answer DiskFault e = absurd e
      by_answer SinkFault e = absurd e
      by_answer (DiskFull need free) e = absurd e
      by_answer NoMemory e = absurd e
