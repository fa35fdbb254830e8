use Rattle.std.proofs.Common.{ℕ, ◌≡◌, ◌∙◌, ◌-◌, ◌+◌, ◌++◌, sym, ap, is_some, length, arith}
use Rattle.rv64_isa.specs.Memory.{bytes_with, readable}
use Rattle.group_defs.specs.Cells.{cells_of}
use Rattle.flat_kernel.specs.Memory.{memory_in}
use Rattle.flat_kernel.proofs.MemoryReads.{none_first, run_on, some_back}
use Rattle.flat_kernel.proofs.process_memory.ProcessMemory.can_read.Goals as goal

pub loop-left-preserved : goal.loop-left-preserved
loop-left-preserved c =
    let cells = cells_of (memory_in c.args.self.now.objects.items) c.args.self.now.maps in
    let bytes = c.in-Some.bytes.now in
    c.loop-left.invariant
    ∙ ap is_some (run_on 1 cells c.loop-left.at c.loop-left.left bytes c.in-Some.ensures.size.1 c.in-Some.ensures.some)
    ∙ some_back (λ back. bytes ++ back) (readable cells (c.loop-left.at + length bytes) (c.loop-left.left - length bytes))

pub returns-in-None : goal.returns-in-None
returns-in-None c =
    let cells = cells_of (memory_in c.args.self.now.objects.items) c.args.self.now.maps in
    sym (c.loop-left.invariant ∙ ap is_some (none_first 1 cells c.loop-left.at c.loop-left.left (omega (arith, c.loop-left.auto.at-fits)) (omega arith) c.in-None.ensures.none))

pub returns : goal.returns
unfolding bytes_with
returns c =
    let cells = cells_of (memory_in c.args.self.now.objects.items) c.args.self.now.maps in
    let none : c.loop-left.left ≡ 0 = omega arith in
    sym (c.loop-left.invariant ∙ ap (λ (n : ℕ). is_some (readable cells c.loop-left.at n)) none)
