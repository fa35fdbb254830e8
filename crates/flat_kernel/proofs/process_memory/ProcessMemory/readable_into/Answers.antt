use Rattle.std.proofs.Common.{◌∙◌, sym, arith}
use Rattle.group_defs.specs.Cells.{cells_of}
use Rattle.flat_kernel.specs.Memory.{memory_in}
use Rattle.flat_kernel.proofs.MemoryAppends.{read_none, read_more, read_on, read_all}
use Rattle.flat_kernel.proofs.MemoryReads.{none_first}
use Rattle.flat_kernel.proofs.process_memory.ProcessMemory.readable_into.Goals as goal

pub loop-left-init : goal.loop-left-init
loop-left-init c = read_none (cells_of (memory_in c.args.self.now.objects.items) c.args.self.now.maps) c.args.address c.args.n c.args.out.now (sym c.can_read.ensures ∙ c.if-not-can_read.false)

pub loop-left-preserved : goal.loop-left-preserved
loop-left-preserved c =
    read_more (cells_of (memory_in c.args.self.now.objects.items) c.args.self.now.maps) c.args.address c.args.n c.args.out.now c.loop-left.out c.append.new.self c.loop-left.at c.loop-left.left c.in-Some.bytes.now c.loop-left.invariant c.in-Some.ensures.size.1 c.in-Some.ensures.some c.in_ok-append-in-Some.ensures.ok

pub unreachable-requires : goal.unreachable-requires
unreachable-requires c =
    let cells = cells_of (memory_in c.args.self.now.objects.items) c.args.self.now.maps in
    read_on cells c.args.address c.args.n c.args.out.now c.loop-left.out c.loop-left.at c.loop-left.left c.loop-left.invariant (none_first 1 cells c.loop-left.at c.loop-left.left (omega (arith, c.loop-left.auto.at-fits)) (omega arith) c.in-None.ensures.none)

pub returns-clause-bytes : goal.returns-clause-bytes
returns-clause-bytes c =
    read_all (cells_of (memory_in c.args.self.now.objects.items) c.args.self.now.maps) c.args.address c.args.n c.args.out.now c.loop-left.out c.loop-left.at c.loop-left.left c.loop-left.invariant (omega arith)
