use Rattle.std.proofs.Common.{ap, sym, take_all}
use Rattle.group_parts.specs.Parts.{shared_mappings}
use Rattle.group_kernel.proofs.DescriptorsMade.{private_next, shared_next}
use Rattle.group_kernel.proofs.starting.shared_of.Goals as goal
use Rattle.group_kernel.proofs.starting.shared_of.Goals.{then-mapping+in_ok-push, else-mapping}

pub loop-mapping-preserved : goal.loop-mapping-preserved
loop-mapping-preserved c = elim c.if-mapping.branch [
  | then-mapping+in_ok-push w ↦ rw (w.shared-is, w.in_ok-push.ensures.ok, c.loop-mapping.invariant)
      (sym (shared_next c.args.maps.now c.loop-mapping.mapping-index _ c.loop-mapping-test.true w.if-mapping.true))
  | else-mapping w ↦ rw (w.shared-is, c.loop-mapping.invariant)
      (sym (private_next c.args.maps.now c.loop-mapping.mapping-index _ c.loop-mapping-test.true w.if-mapping.false))
]

pub returns : goal.returns
returns c = rw c.loop-mapping.invariant (ap shared_mappings (take_all c.loop-mapping.mapping-index c.args.maps.now c.loop-mapping-test.false))
