use Rattle.std.proofs.Common.{◌≤◌, ◌∙◌, arith}
use Rattle.flat_kernel.specs.Memory.{memory_in}
use Rattle.flat_kernel.proofs.MemoryReads.{some_room}
use Rattle.flat_kernel.proofs.MemoryStores.{one_byte}
use Rattle.flat_kernel.proofs.process_memory.ProcessMemory.land_one.Goals as goal

pub land-requires-clause-inside : goal.land-requires-clause-inside
land-requires-clause-inside c = λ o.
    let some : 1 ≤ c.in-Some.mapped.room = some_room (memory_in c.args.self.now.objects.items) c.args.self.now.maps c.args.address c.in-Some.mapped c.in-Some.ensures.some c.args.self.now.fits in
    omega (arith, some, c.in-Some.ensures.some.inside o)

pub returns-in-Some-clause-stored : goal.returns-in-Some-clause-stored
returns-in-Some-clause-stored c =
    let some : 1 ≤ c.in-Some.mapped.room = some_room (memory_in c.args.self.now.objects.items) c.args.self.now.maps c.args.address c.in-Some.mapped c.in-Some.ensures.some c.args.self.now.fits in
    c.land.ensures.stored c.args.address c.in-Some.ensures.some some ∙ one_byte (memory_in c.args.self.now.objects.items) c.args.self.now.maps c.args.address c.args.byte (omega arith)
