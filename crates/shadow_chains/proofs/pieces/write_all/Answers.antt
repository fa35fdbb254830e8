use Rattle.std.proofs.Common.{◌≡◌, ◌+◌, ◌*◌, ◌<◌, ◌-◌, arith, refl, take, drop}
use Rattle.shadow_chains.proofs.Ready.{stays_itself, stays_then}
use Rattle.shadow_chains.proofs.Writes.{wrote_none, wrote_step, ready_here, length_piece}
use Rattle.shadow_chains.proofs.pieces.write_all.Goals as goal

pub loop-done-init : goal.loop-done-init
loop-done-init c = record { in_range = omega arith; in_page = omega arith; here = λ lt. omega arith; ready = stays_itself c.args.top.now; wrote = wrote_none _ _ _ }

pub write_ready-requires-clause-ready : goal.write_ready-requires-clause-ready
write_ready-requires-clause-ready c = ready_here c.args.top.now _ c.args.place _ _ c.loop-done.at c.loop-done.done c.requires c.loop-done.invariant.ready c.loop-done.invariant.in_page c.loop-done-test.true (c.loop-done.invariant.here c.loop-done-test.true)

pub loop-done-preserved : goal.loop-done-preserved
loop-done-preserved c =
    let place : 4096 * c.loop-done.page + c.loop-done.at ≡ c.args.place + c.loop-done.done = c.loop-done.invariant.here c.loop-done-test.true in
    let some : 0 < c.piece-n.result = c.piece-n.ensures.some (omega arith) in
    record {
      in_range = omega arith;
      in_page = omega arith;
      here = λ lt. let full : c.loop-done.at + c.piece-n.result ≡ 4096 = c.piece-n.ensures.full (omega arith) in omega arith;
      ready = stays_then _ _ _ c.loop-done.invariant.ready c.write_ready.ensures.ready;
      wrote = wrote_step c.args.layers.now c.args.top.now.pages c.loop-done.top.pages c.write_ready.new.top.pages c.args.place c.loop-done.page c.loop-done.at c.loop-done.done c.piece-n.result c.args.bytes.now
          (take (c.loop-done.done + c.piece-n.result - c.loop-done.done) (drop c.loop-done.done c.args.bytes.now)) c.loop-done.invariant.wrote c.write_ready.ensures.brings refl
          (length_piece c.args.bytes.now c.loop-done.done c.piece-n.result (omega arith)) some c.piece-n.ensures.fits (omega arith) place;
    }
