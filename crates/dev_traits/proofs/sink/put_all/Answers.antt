use Rattle.std.proofs.Common.{◌-◌, List, ℕ, subst, sym, take, drop, length, length-take, length-drop, arith}
use Rattle.std.proofs.Math.Seq.{take-add}
use Rattle.std.proofs.lemmas.List.{take_rest}
use Rattle.dev_traits.specs.Outside.{Takes}
use Rattle.dev_traits.specs.SinkLaws.{takes_both, takes_none}
use Rattle.dev_traits.proofs.sink.put_all.Goals as goal

pub loop-done-preserved : goal.loop-done-preserved
loop-done-preserved g c =
    let inv = c.loop-done.invariant in
    let bytes = c.args.bytes.now in
    let done = c.loop-done.done in
    let n = c.in-Ok.n in
    let u = g.S.Sink.view c.args.sink.now in
    let v = g.S.Sink.view c.loop-done.sink in
    let w = g.S.Sink.view c.put.new.self in
    let piece = subst (λ (l : List ℕ). Takes (take n l) v w) (take_rest bytes done) c.in-Ok.ensures.ok in
    record {
      within = omega (arith, c.in-Ok.ensures.some.1, length-take (length bytes - done) (drop done bytes), length-drop done bytes, c.loop-done-test.true);
      taken = subst (λ (l : List ℕ). Takes l u w) (sym (take-add done n bytes)) (takes_both (take done bytes) (take n (drop done bytes)) u v w inv.taken piece);
      faults = omega (arith, inv.faults, c.put.ensures.faults.later);
    }

pub loop-done-init : goal.loop-done-init
loop-done-init g c = record {
  within = omega arith;
  taken = takes_none (g.S.Sink.view c.args.sink.now);
  faults = omega arith;
}
