use Rattle.std.proofs.Common.{◌+◌, ◌%◌, ◌^◌, ◌∙◌, List, ap, arith}
use Rattle.address_maps.specs.declared.maps.Mapping.{Mapping}
use Rattle.proc_lease.specs.Sight.{CanStoreAt, SeenObjects, is_able}
use Rattle.proc_lease.proofs.Ready.{each_more, each_part}
use Rattle.proc_lease.proofs.Rights.{able_part}
use Rattle.proc_lease.proofs.caller_memory.CallerMemory.reserve_all.Goals as goal

pub reserve_page-requires-clause-able : goal.reserve_page-requires-clause-able
reserve_page-requires-clause-able c =
    let same = ap (λ (t : SeenObjects). t.maps) c.loop-done.invariant.same in
    ap (λ (l : List Mapping). is_able l 2 ((c.args.to + c.loop-done.done) % 2 ^ 64) c.in_page-size.result) same
    ∙ able_part c.args.self.now.process.map.entries 2 c.args.to c.args.n c.loop-done.done c.in_page-size.result c.requires (omega arith)

pub returns-in_err-reserve_page-clause-succeeds : goal.returns-in_err-reserve_page-clause-succeeds
returns-in_err-reserve_page-clause-succeeds c all =
    let now = c.loop-done.self in
    let bad = c.in_err-reserve_page.ensures.succeeds (each_part (CanStoreAt now.process now.shared) c.args.to c.args.n c.loop-done.done c.in_page-size.result (λ k lt. c.loop-done.invariant.kept _ (all k lt)) (omega arith)) in
    absurd (cc)

pub loop-done-preserved : goal.loop-done-preserved
loop-done-preserved c =
    let now = c.loop-done.self in
    let new = c.reserve_page.new.self in
    record {
      within = omega arith;
      same = c.in_ok-reserve_page.ensures.same ∙ c.loop-done.invariant.same;
      kept = λ at ready. c.in_ok-reserve_page.ensures.kept at (c.loop-done.invariant.kept at ready);
      ready = each_more (CanStoreAt new.process new.shared) c.args.to c.loop-done.done c.in_page-size.result (λ k lt. c.in_ok-reserve_page.ensures.kept _ (c.loop-done.invariant.ready k lt)) c.in_ok-reserve_page.ensures.ok;
    }
