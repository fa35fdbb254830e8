use Rattle.std.proofs.Common.{◌∙◌, ℕ, List, subst, sym, arith}
use Rattle.run_defs.specs.declared.run.AckMark.{AckMark}
use Rattle.run_defs.specs.declared.run.Mark.{Mark}
use Rattle.sls_core.specs.Answers.{IsSoloRun}
use Rattle.sls_core.specs.Safe.{run_of}
use Rattle.sls_core.specs.declared.run.RunAnswer.TheVariants.{DiskFault, NoMemory, SinkFault}
use Rattle.flat_kernel.specs.Engine.{group_in}
use Rattle.page_flusher.specs.declared.kept.KeptBlocks.{KeptBlocks}
use Rattle.solo_engine.specs.Interval.{IsCommitted, IsFetched, IsPlanned, IsStart, ReleasesPart, ReleasesRest, StopsTurning}
use Rattle.solo_engine.proofs.Beginning.{at_none, begins, rests_first, unreleased_first}
use Rattle.solo_engine.proofs.Exits.{err_of, ok_of}
use Rattle.solo_engine.proofs.Intervals.{HasRun, IsRunAtRest, RunHere, ended, here, logged, rests_again, stopped, uncommitted, unplanned, unreleased}
use Rattle.solo_engine.proofs.solo.run_to_end.Given.{Over}
use Rattle.solo_engine.proofs.solo.run_to_end.Goals.{After-persist, After-planned_commit, In-Ok-persist}
use Rattle.solo_engine.proofs.solo.run_to_end.Goals as goal

pub returns-then-is_err : goal.returns-then-is_err
returns-then-is_err g c =
    let start = group_in c.args.engine.group in
    let disk = g.D.Disk.view c.args.disk in
    let out = g.O.Sink.view c.args.out.now in
    let out' = g.O.Sink.view c.release_rest.new.out in
    let s = c.start_laws.ensures start c.args.engine.kept.epoch c.requires.checkpointed c.requires.epoch c.requires.position in
    let part = err_of c.release_rest.result (ReleasesPart start.frame.out out out') c.release_rest.ensures.err (sym c.is_err.ensures.value ∙ c.if-is_err.true) in
    at_none (λ t a. IsSoloRun (run_of c.args.limits start c.args.engine.kept.epoch t) disk.moment a disk disk out out' SinkFault) c.args.log.now.trace.items c.args.log.now.acks.items c.requires.unlogged
    (unreleased_first c.args.limits start c.args.engine.kept.epoch disk out (begins c.args.limits start c.args.engine.kept disk out s c.requires.only c.requires.kept c.requires.least c.requires.most) out' part)

pub loop-alloc-init : goal.loop-alloc-init
loop-alloc-init g c =
    let k = c.args.engine.kept in
    let start = group_in c.args.engine.group in
    let disk = g.D.Disk.view c.args.disk in
    let out = g.O.Sink.view c.args.out.now in
    let out' = g.O.Sink.view c.release_rest.new.out in
    let s = c.start_laws.ensures start k.epoch c.requires.checkpointed c.requires.epoch c.requires.position in
    let rest = ok_of c.release_rest.result (ReleasesRest start.frame.out out out') c.release_rest.ensures.ok (sym c.is_err.ensures.value ∙ c.if-is_err.false) in
    subst (λ (n : ℕ). IsRunAtRest (here c.args.limits start k.epoch c.args.log.now.trace.items c.args.log.now.acks.items disk disk out out') start k n) (sym c.requires.first)
    (at_none (λ t a. IsRunAtRest (here c.args.limits start k.epoch t a disk disk out out') start k 0) c.args.log.now.trace.items c.args.log.now.acks.items c.requires.unlogged
    (rests_first c.args.limits start k disk out (begins c.args.limits start k disk out s c.requires.only c.requires.kept c.requires.least c.requires.most) c.requires.kept.1 c.requires.gates out' rest))

pub returns-then-is_err-2 : goal.returns-then-is_err-2
returns-then-is_err-2 g c =
    let start = group_in c.args.engine.group in
    let s = c.start_laws.ensures start c.args.engine.kept.epoch c.requires.checkpointed c.requires.epoch c.requires.position in
    let old = c.loop-alloc.engine in
    let trace = c.loop-alloc.log.trace.items in
    let trace' = c.turn_to_fetch.new.log.trace.items in
    let disk0 = g.D.Disk.view c.args.disk in
    let disk = g.D.Disk.view c.loop-alloc.disk in
    let out0 = g.O.Sink.view c.args.out.now in
    let out = g.O.Sink.view c.loop-alloc.out in
    let stop = err_of c.turn_to_fetch.result (StopsTurning c.args.limits trace trace' (group_in old.group) old.made) c.turn_to_fetch.ensures.err (sym c.is_err-in-loop-alloc.ensures.value ∙ c.if-is_err-2.true) in
    subst (λ (a : List AckMark). IsSoloRun (run_of c.args.limits start c.args.engine.kept.epoch trace') disk0.moment a disk0 disk out0 out NoMemory) (sym c.turn_to_fetch.ensures.acks)
    (stopped (here c.args.limits start c.args.engine.kept.epoch trace c.loop-alloc.log.acks.items disk0 disk out0 out) s (group_in old.group) old.kept old.made c.loop-alloc.invariant trace' stop)

pub planned_commit-requires-clause-checkpointed : goal.planned_commit-requires-clause-checkpointed
planned_commit-requires-clause-checkpointed g c =
    let old = c.loop-alloc.engine in
    let new = c.turn_to_fetch.new.engine in
    let P = IsFetched c.args.limits old.kept.epoch c.loop-alloc.log.trace.items c.turn_to_fetch.new.log.trace.items (group_in old.group) (group_in new.group) old.made new.made in
    (ok_of c.turn_to_fetch.result P c.turn_to_fetch.ensures.fetched (sym c.is_err-in-loop-alloc.ensures.value ∙ c.if-is_err-2.false)).checkpointed

-- ---- once the plan is asked for

-- the run as it stood before the turns
abbrev before : (g : Over) → After-planned_commit g → RunHere
before g c = here c.args.limits (group_in c.args.engine.group) c.args.engine.kept.epoch c.loop-alloc.log.trace.items c.loop-alloc.log.acks.items (g.D.Disk.view c.args.disk) (g.D.Disk.view c.loop-alloc.disk) (g.O.Sink.view c.args.out.now) (g.O.Sink.view c.loop-alloc.out)

starts : (g : Over) (c : After-planned_commit g) → IsStart c.args.limits (group_in c.args.engine.group) c.args.engine.kept.epoch
starts g c = c.start_laws.ensures (group_in c.args.engine.group) c.args.engine.kept.epoch c.requires.checkpointed c.requires.epoch c.requires.position

-- with what is known of the disk after the turns
at_rest : (g : Over) (c : After-planned_commit g) → IsRunAtRest (before g c) (group_in c.loop-alloc.engine.group) c.turn_to_fetch.new.engine.kept c.loop-alloc.engine.made
at_rest g c = subst (λ (k : KeptBlocks). IsRunAtRest (before g c) (group_in c.loop-alloc.engine.group) k c.loop-alloc.engine.made) (sym c.turn_to_fetch.ensures.kept) c.loop-alloc.invariant

-- the barrier and its fetch
fetched : (g : Over) (c : After-planned_commit g)
    → IsFetched c.args.limits c.turn_to_fetch.new.engine.kept.epoch c.loop-alloc.log.trace.items c.turn_to_fetch.new.log.trace.items (group_in c.loop-alloc.engine.group) (group_in c.turn_to_fetch.new.engine.group) c.loop-alloc.engine.made c.turn_to_fetch.new.engine.made
fetched g c =
    let old = c.loop-alloc.engine in
    let new = c.turn_to_fetch.new.engine in
    let P : KeptBlocks → Type 0 = λ k. IsFetched c.args.limits k.epoch c.loop-alloc.log.trace.items c.turn_to_fetch.new.log.trace.items (group_in old.group) (group_in new.group) old.made new.made in
    subst P (sym c.turn_to_fetch.ensures.kept) (ok_of c.turn_to_fetch.result (P old.kept) c.turn_to_fetch.ensures.fetched (sym c.is_err-in-loop-alloc.ensures.value ∙ c.if-is_err-2.false))

pub loop-alloc-smaller : goal.loop-alloc-smaller
loop-alloc-smaller g c =
    let f = fetched g (goal.at.loop-alloc-smaller g c).After-planned_commit in
    omega (arith, f.comes.made_is, f.comes.turned.within, f.comes.some)

-- the plan of the commit
planned : (g : Over) (c : After-persist g) → IsPlanned (g.D.Disk.view c.loop-alloc.disk).blocks (group_in c.turn_to_fetch.new.engine.group) c.turn_to_fetch.new.engine.kept c.in-Ok.ready
planned g c = subst (λ (n : ℕ). IsPlanned n (group_in c.turn_to_fetch.new.engine.group) c.turn_to_fetch.new.engine.kept c.in-Ok.ready) c.blocks-in-loop-alloc.ensures c.in-Ok.ensures.ready

-- the commit, acknowledged
committed : (g : Over) (c : In-Ok-persist g) → IsPlanned (g.D.Disk.view c.loop-alloc.disk).blocks (group_in c.turn_to_fetch.new.engine.group) c.turn_to_fetch.new.engine.kept c.in-Ok.ready
    → IsCommitted c.turn_to_fetch.new.engine.kept (group_in c.turn_to_fetch.new.engine.group) c.in-Ok.ready.plan.blocks c.in-Ok.ready.plan.body (g.D.Disk.view c.loop-alloc.disk) (g.D.Disk.view c.in-Ok-persist.disk) c.turn_to_fetch.new.log.trace.items
    c.persist.new.log.trace.items c.loop-alloc.log.acks.items c.persist.new.log.acks.items
committed g c ready =
    let new = c.turn_to_fetch.new.engine in
    let plan = c.in-Ok.ready.plan in
    subst (λ (a : List AckMark). IsCommitted new.kept (group_in new.group) plan.blocks plan.body (g.D.Disk.view c.loop-alloc.disk) (g.D.Disk.view c.in-Ok-persist.disk) c.turn_to_fetch.new.log.trace.items c.persist.new.log.trace.items a c.persist.new.log.acks.items)
    c.turn_to_fetch.ensures.acks (c.in-Ok-persist.ensures.committed (group_in new.group) ready)

pub returns-in-Err : goal.returns-in-Err
returns-in-Err g c =
    let at = (goal.at.returns-in-Err g c).After-planned_commit in
    let new = c.turn_to_fetch.new.engine in
    let trace' = c.turn_to_fetch.new.log.trace.items in
    subst (λ (a : List AckMark). HasRun (record (logged (before g at) trace') { acks = a }) c.in-Err.answer) (sym c.turn_to_fetch.ensures.acks)
    (unplanned (before g at) (starts g at) (group_in c.loop-alloc.engine.group) new.kept c.loop-alloc.engine.made (at_rest g at) (group_in new.group) new.made trace' (fetched g at) c.in-Err.answer c.blocks-in-loop-alloc.result c.blocks-in-loop-alloc.ensures
    c.in-Err.ensures.refused)

pub returns-in-Err-persist : goal.returns-in-Err-persist
returns-in-Err-persist g c =
    let way = goal.at.returns-in-Err-persist g c in
    let at = way.After-planned_commit in
    let new = c.turn_to_fetch.new.engine in
    let trace' = c.turn_to_fetch.new.log.trace.items in
    let disk' = g.D.Disk.view c.in-Err-persist.field-0.disk in
    let P : List Mark → List AckMark → Type 0 = λ t a. HasRun (record (logged (before g at) t) { acks = a; disk = disk' }) DiskFault in
    let made : P trace' c.loop-alloc.log.acks.items =
    uncommitted (before g at) (starts g at) (group_in c.loop-alloc.engine.group) new.kept c.loop-alloc.engine.made (at_rest g at) (group_in new.group) new.made trace' (fetched g at) disk' (c.in-Err-persist.ensures.uncommitted (group_in new.group) (planned g way.After-persist)) in
    subst (λ (t : List Mark). P t c.persist.new.log.acks.items) (sym c.in-Err-persist.ensures.unlogged.0) (subst (λ (a : List AckMark). P trace' a) (sym (c.in-Err-persist.ensures.unlogged.1 ∙ c.turn_to_fetch.ensures.acks)) made)

pub returns-then-is_err-3 : goal.returns-then-is_err-3
returns-then-is_err-3 g c =
    let way = goal.at.returns-then-is_err-3 g c in
    let at = way.After-planned_commit in
    let new = c.turn_to_fetch.new.engine in
    let out = g.O.Sink.view c.loop-alloc.out in
    let out' = g.O.Sink.view c.release_rest-in-loop-alloc.new.out in
    let part = err_of c.release_rest-in-loop-alloc.result (ReleasesPart (group_in new.group).frame.out out out') c.release_rest-in-loop-alloc.ensures.err (sym c.is_err-in-loop-alloc-2.ensures.value ∙ c.if-is_err-3.true) in
    unreleased (before g at) (starts g at) (group_in c.loop-alloc.engine.group) new.kept c.loop-alloc.engine.made (at_rest g at) (group_in new.group) new.made c.turn_to_fetch.new.log.trace.items (fetched g at) c.in-Ok.ready c.blocks-in-loop-alloc.result
    c.blocks-in-loop-alloc.ensures c.in-Ok.ensures.ready (g.D.Disk.view c.in-Ok-persist.disk) c.persist.new.log.trace.items c.persist.new.log.acks.items (λ r told. g.met.D.Disk.image_size c.loop-alloc.disk _ r (g.met.D.Disk.reading_left c.loop-alloc.disk r told))
    (committed g way.In-Ok-persist (planned g way.After-persist)) out' part

pub loop-alloc-preserved : goal.loop-alloc-preserved
loop-alloc-preserved g c =
    let way = goal.at.loop-alloc-preserved g c in
    let at = way.After-planned_commit in
    let new = c.turn_to_fetch.new.engine in
    let out = g.O.Sink.view c.loop-alloc.out in
    let out' = g.O.Sink.view c.release_rest-in-loop-alloc.new.out in
    let rest = ok_of c.release_rest-in-loop-alloc.result (ReleasesRest (group_in new.group).frame.out out out') c.release_rest-in-loop-alloc.ensures.ok (sym c.is_err-in-loop-alloc-2.ensures.value ∙ c.if-is_err-3.false) in
    rests_again (before g at) (starts g at) (group_in c.loop-alloc.engine.group) new.kept c.loop-alloc.engine.made (at_rest g at) (group_in new.group) new.made c.turn_to_fetch.new.log.trace.items (fetched g at) c.in-Ok.ready c.blocks-in-loop-alloc.result
    c.blocks-in-loop-alloc.ensures c.in-Ok.ensures.ready (g.D.Disk.view c.in-Ok-persist.disk) c.persist.new.log.trace.items c.persist.new.log.acks.items (λ r told. g.met.D.Disk.image_size c.loop-alloc.disk _ r (g.met.D.Disk.reading_left c.loop-alloc.disk r told))
    (committed g way.In-Ok-persist (planned g way.After-persist)) out' (omega (arith, c.requires.sized.0, c.loop-alloc.invariant.safe.blocks)) rest

pub returns : goal.returns
returns g c =
    let start = group_in c.args.engine.group in
    let s = c.start_laws.ensures start c.args.engine.kept.epoch c.requires.checkpointed c.requires.epoch c.requires.position in
    ended (here c.args.limits start c.args.engine.kept.epoch c.loop-alloc.log.trace.items c.loop-alloc.log.acks.items (g.D.Disk.view c.args.disk) (g.D.Disk.view c.loop-alloc.disk) (g.O.Sink.view c.args.out.now) (g.O.Sink.view c.loop-alloc.out)) s
    (group_in c.loop-alloc.engine.group) c.loop-alloc.engine.kept c.loop-alloc.engine.made c.loop-alloc.invariant c.end_of.result (c.is_over.ensures.over c.loop-alloc-test.false) c.end_of.ensures
