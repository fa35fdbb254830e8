use Rattle.std.proofs.Common.{◌+◌, ◌^◌, ◌<◌, ◌≤◌, sym, ◌∙◌, arith}
use Rattle.flat_kernel.specs.Memory.{memory_in}
use Rattle.flat_kernel.proofs.MemoryReads.{none_mapped, part_none, mapped_end, some_room}
use Rattle.flat_kernel.proofs.MemoryParts.{if_none, part_fits, part_size, part_with, part_within}
use Rattle.flat_kernel.proofs.process_memory.ProcessMemory.part.Goals as goal

pub returns-in_err-mapped-clause-none : goal.returns-in_err-mapped-clause-none
returns-in_err-mapped-clause-none c =
    if_none _ _ (none_mapped (memory_in c.args.self.now.objects.items) c.args.self.now.maps c.args.address c.args.right c.in_err-mapped.ensures.none)

pub returns-then-not-allows-clause-none : goal.returns-then-not-allows-clause-none
returns-then-not-allows-clause-none c =
    part_none (memory_in c.args.self.now.objects.items) c.args.self.now.maps c.args.address c.in_ok-mapped.mapped c.in_ok-mapped.ensures.some c.args.self.now.fits c.args.right (sym c.allows.ensures ∙ c.if-not-allows.true)

pub overflow_add-result : goal.overflow_add-result
overflow_add-result c =
    let m = c.args.self.now in
    let le : c.min-size.result ≤ c.in_ok-mapped.mapped.room = omega arith in
    let fits : c.in_ok-mapped.mapped.place + c.min-size.result < 2 ^ 64 = part_fits m.objects.items m.maps c.args.address c.args.right c.min-size.result c.in_ok-mapped.mapped c.in_ok-mapped.ensures.some m.fits c.index.result.now c.deref.result.now c.index.ensures c.deref.ensures.value le in
    omega (arith, fits)

pub slice_bounds-result-end : goal.slice_bounds-result-end
slice_bounds-result-end c =
    let m = c.args.self.now in
    let le : c.min-size.result ≤ c.in_ok-mapped.mapped.room = omega arith in
    part_within m.objects.items m.maps c.args.address c.args.right c.min-size.result c.in_ok-mapped.mapped c.in_ok-mapped.ensures.some m.fits c.index.result.now c.deref.result.now c.index.ensures c.deref.ensures.value le

pub returns-clause-some : goal.returns-clause-some
returns-clause-some c =
    let m = c.args.self.now in
    let le : c.min-size.result ≤ c.in_ok-mapped.mapped.room = omega arith in
    part_with m.objects.items m.maps c.args.address c.args.right c.min-size.result c.in_ok-mapped.mapped c.in_ok-mapped.ensures.some m.fits c.index.result.now c.deref.result.now c.index.ensures c.deref.ensures.value le (sym c.allows.ensures ∙ c.if-not-allows.false)

pub returns-clause-size : goal.returns-clause-size
returns-clause-size c =
    let m = c.args.self.now in
    let le : c.min-size.result ≤ c.in_ok-mapped.mapped.room = omega arith in
    let size = part_size m.objects.items m.maps c.args.address c.args.right c.min-size.result c.in_ok-mapped.mapped c.in_ok-mapped.ensures.some m.fits c.index.result.now c.deref.result.now c.index.ensures c.deref.ensures.value le in
    let some : 1 ≤ c.in_ok-mapped.mapped.room = some_room (memory_in m.objects.items) m.maps c.args.address c.in_ok-mapped.mapped c.in_ok-mapped.ensures.some m.fits in
    (omega (arith, size, some), omega (arith, size))

pub returns-clause-end : goal.returns-clause-end
returns-clause-end c =
    let m = c.args.self.now in
    let le : c.min-size.result ≤ c.in_ok-mapped.mapped.room = omega arith in
    let size = part_size m.objects.items m.maps c.args.address c.args.right c.min-size.result c.in_ok-mapped.mapped c.in_ok-mapped.ensures.some m.fits c.index.result.now c.deref.result.now c.index.ensures c.deref.ensures.value le in
    let end : c.args.address + c.in_ok-mapped.mapped.room ≤ 2 ^ 38 = mapped_end (memory_in m.objects.items) m.maps c.args.address c.in_ok-mapped.mapped c.in_ok-mapped.ensures.some m.fits in
    omega (arith, size, end, le)
