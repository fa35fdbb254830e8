use Rattle.std.proofs.Common.{◌≡◌, ◌+◌, ap, ◌∙◌, subst, List, ◌∷◌, ◌++◌, []}
use Rattle.dev_traits.specs.Since.{LeavesOnly}
use Rattle.run_defs.specs.declared.run.Mark.TheVariants.{Ack}
use Rattle.commit_gate.specs.Whole.{AddsCommit, IsDuring, Reads, UpTo, calls_more, finished, write_calls}
use Rattle.commit_gate.specs.declared.whole.Block.{Block}
use Rattle.solo_engine.proofs.Committing.{gate_read, leaves_kept}
use Rattle.solo_engine.proofs.WriteLaws.{failed_calls}
use Rattle.solo_engine.proofs.persisting.persist.Goals as goal

pub returns-in-Ok-clause-committed : goal.returns-in-Ok-clause-committed
returns-in-Ok-clause-committed g c =
    let k = c.args.kept.now in
    let r = c.args.ready.now in
    let before = g.D.Disk.view c.args.disk in
    let after = g.D.Disk.view c.in-Ok.disk in
    λ group ready. record {
      blocks = c.in-Ok.ensures.blocks;
      closes = c.closes.result;
      closed = gate_read k before c.requires.gates c.closes.ensures;
      writes = subst (λ (l : List Block). after.writes ≡ calls_more (write_calls c.closes.result l) before.writes) c.as_slice-blocks.ensures c.in-Ok.ensures.writes;
      later = c.in-Ok.ensures.images.later;
      faults = c.in-Ok.ensures.later;
      leaves = leaves_kept before.blocks group k r c.closes.result before after ready c.requires.sized.0 (λ bytes told. g.met.D.Disk.image_size c.args.disk _ bytes (g.met.D.Disk.reading_left c.args.disk bytes told))
          (gate_read k before c.requires.gates c.closes.ensures)
          (subst (λ (l : List Block). LeavesOnly before after (IsDuring k.target c.closes.result l r.plan.body before.reading)) c.as_slice-blocks.ensures c.in-Ok.ensures.images);
      only = c.in-Ok.ensures.only;
      reads = subst (λ (l : List Block). Reads (finished k.target l r.plan.body) before after) c.as_slice-blocks.ensures c.in-Ok.ensures.done;
      commits = subst (λ (l : List Block). AddsCommit l r.plan.body before after) c.as_slice-blocks.ensures c.in-Ok.ensures.commits;
      trace_is = c.acknowledge.ensures.trace ∙ ap (λ e. c.args.log.now.trace.items ++ Ack e ∷ []) ready.next.epoch;
      acks_is = c.acknowledge.ensures.acks ∙ ap (λ e. c.args.log.now.acks.items ++ record { epoch = e; at = c.moment.result } ∷ []) ready.next.epoch
          ∙ ap (λ at. c.args.log.now.acks.items ++ record { epoch = k.epoch + 1; at = at } ∷ []) c.moment.ensures;
    }

pub returns-in-Err-clause-uncommitted : goal.returns-in-Err-clause-uncommitted
returns-in-Err-clause-uncommitted g c =
    let k = c.args.kept.now in
    let r = c.args.ready.now in
    let before = g.D.Disk.view c.args.disk in
    let after = g.D.Disk.view c.in-Err.bad.disk in
    λ group ready. record {
      blocks = c.in-Err.ensures.blocks_err;
      writes = failed_calls group c.closes.result r.plan.blocks before.writes after.writes ready.plan.size (subst (λ (l : List Block). UpTo (write_calls c.closes.result l) before.writes after.writes) c.as_slice-blocks.ensures c.in-Err.ensures.writes_err);
      later = c.in-Err.ensures.images_err.later;
      leaves = leaves_kept before.blocks group k r c.closes.result before after ready c.requires.sized.0 (λ bytes told. g.met.D.Disk.image_size c.args.disk _ bytes (g.met.D.Disk.reading_left c.args.disk bytes told))
          (gate_read k before c.requires.gates c.closes.ensures)
          (subst (λ (l : List Block). LeavesOnly before after (IsDuring k.target c.closes.result l r.plan.body before.reading)) c.as_slice-blocks.ensures c.in-Err.ensures.images_err);
      rose = c.in-Err.ensures.cause;
      none_ended = c.in-Err.ensures.commits_err;
    }
