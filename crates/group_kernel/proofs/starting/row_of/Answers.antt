use Rattle.descriptors.specs.Opens.{descriptions}
use Rattle.group_kernel.proofs.RowsMade.{opens_there}
use Rattle.group_kernel.proofs.starting.row_of.Goals as goal

pub descriptors_of-requires-clause-open : goal.descriptors_of-requires-clause-open
descriptors_of-requires-clause-open c = opens_there (descriptions c.args.opens.now.entries) c.args.proc.now c.as_slice-2.result.now c.requires.tables c.as_slice-2.ensures
