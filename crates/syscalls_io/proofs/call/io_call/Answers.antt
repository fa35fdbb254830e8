use Rattle.std.proofs.lemmas.Result.{IfOk-weaker}
use Rattle.descriptors.specs.Opens.{descriptions}
use Rattle.syscalls_io.proofs.WaitingCalls.{waits_exactly}
use Rattle.syscalls_io.proofs.call.io_call.Goals as goal

pub returns-clause-waits : goal.returns-clause-waits
returns-clause-waits g c =
    IfOk-weaker c.write.result _ _
    (λ answer is. waits_exactly c.args.descs.now.entries (descriptions c.args.io.now.opens.entries) (g.M.UserMem.cells c.args.memory.now) c.args.regs.now c.args.io.now.out answer c.write.new.io.out c.requires.number is)
    c.write.ensures.ok
