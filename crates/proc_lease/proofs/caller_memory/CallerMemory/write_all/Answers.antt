use Rattle.std.proofs.Common.{◌+◌, ◌-◌, ◌^◌, ◌%◌, ◌∙◌, length, take, drop, ap, arith}
use Rattle.proc_lease.specs.Sight.{CanStoreAt, SeenObjects, none_stored, seen_by, with_stored_in}
use Rattle.std.proofs.Common.{sym}
use Rattle.proc_lease.proofs.Pieces.{piece_size, stored_on}
use Rattle.proc_lease.proofs.Ready.{each_part}
use Rattle.proc_lease.proofs.caller_memory.CallerMemory.write_all.Goals as goal

pub loop-done-init : goal.loop-done-init
loop-done-init c = record { within = omega arith; stored = sym (none_stored (seen_by c.args.self.now.process c.args.self.now.shared) c.args.to); kept = λ at ready. ready }

pub write_page-requires-clause-ready : goal.write_page-requires-clause-ready
write_page-requires-clause-ready c =
    let now = c.loop-done.self in
    let size = piece_size c.args.bytes.now c.loop-done.done c.in_page.result (omega arith) in
    each_part (CanStoreAt now.process now.shared) c.args.to (length c.args.bytes.now) c.loop-done.done (length (take (c.loop-done.done + c.in_page.result - c.loop-done.done) (drop c.loop-done.done c.args.bytes.now)))
    (λ k lt. c.loop-done.invariant.kept _ (c.requires k lt)) (omega (arith, size))

pub loop-done-preserved : goal.loop-done-preserved
loop-done-preserved c =
    let done = c.loop-done.done in
    let n = c.in_page.result in
    let t = seen_by c.args.self.now.process c.args.self.now.shared in
    record {
      within = omega arith;
      stored = c.write_page.ensures.stored
          ∙ ap (λ (u : SeenObjects). with_stored_in u ((c.args.to + done) % 2 ^ 64) (take (done + n - done) (drop done c.args.bytes.now))) c.loop-done.invariant.stored
          ∙ stored_on t c.args.to done n c.args.bytes.now (omega arith);
      kept = λ at ready. c.write_page.ensures.kept at (c.loop-done.invariant.kept at ready);
    }
