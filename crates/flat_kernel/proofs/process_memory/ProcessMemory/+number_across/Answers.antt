use Rattle.std.proofs.Common.{◌≡◌, suc, ◌+◌, ◌-◌, ◌*◌, ◌^◌, ◌<◌, sym, ◌∙◌, ap, arith, Some}
use Rattle.group_defs.specs.Cells.{cells_of}
use Rattle.rv64_core.specs.ByteLaws.{number_zero, number_none, number_high, number_more, room, bounded}
use Rattle.flat_kernel.specs.Memory.{memory_in}
use Rattle.flat_kernel.proofs.MemoryReads.{single}
use Rattle.flat_kernel.proofs.process_memory.ProcessMemory.+number_across.Goals as goal

pub returns-then-n-eq0-clause-value : goal.returns-then-n-eq0-clause-value
returns-then-n-eq0-clause-value t c = sym (number_zero _ _ _ _ c.if-n-eq0.true)

pub returns-in_err-part-clause-value : goal.returns-in_err-part-clause-value
returns-in_err-part-clause-value t c =
    c.from_residual.ensures ∙ sym (number_none c.args.right (cells_of (memory_in c.args.self.now.objects.items) c.args.self.now.maps) c.args.address c.args.n (c.args.n - 1) (omega arith) (omega arith) c.in_err-part.ensures.none)

pub returns-in_err-high-clause-value : goal.returns-in_err-high-clause-value
returns-in_err-high-clause-value t c =
    let cells = cells_of (memory_in c.args.self.now.objects.items) c.args.self.now.maps in
    let byte = single c.args.right cells c.args.address c.in_ok-low.field-0.now c.in_ok-part.field-0.now (omega arith) c.in_ok-part.ensures.size.0 c.in_ok-part.ensures.size.1 c.in_ok-part.ensures.some c.in_ok-low.ensures.value in
    c.from_residual-in_err-high.ensures ∙ sym (number_high c.args.right cells c.args.address c.args.n (c.args.n - 1) c.in_ok-low.field-0.now (omega arith) (omega arith) byte (sym c.in_err-high.ensures.value))

pub overflow_mul-result : goal.overflow_mul-result
overflow_mul-result t c =
    let e : c.args.n ≡ suc (c.args.n - 1) = omega arith in
    let b : 0 + c.in_ok-high.high * 256 < 2 ^ 64 = bounded c.args.n (c.args.n - 1) 0 c.in_ok-high.high e (omega arith) (omega arith) c.in_ok-high.ensures.range in
    omega arith

pub overflow_add-result : goal.overflow_add-result
overflow_add-result t c =
    let e : c.args.n ≡ suc (c.args.n - 1) = omega arith in
    let b : c.from.result + c.in_ok-high.high * 256 < 2 ^ 64 = bounded c.args.n (c.args.n - 1) c.from.result c.in_ok-high.high e (omega arith) (omega arith) c.in_ok-high.ensures.range in
    omega arith

pub returns-clause-value : goal.returns-clause-value
returns-clause-value t c =
    let cells = cells_of (memory_in c.args.self.now.objects.items) c.args.self.now.maps in
    let byte = single c.args.right cells c.args.address c.in_ok-low.field-0.now c.in_ok-part.field-0.now (omega arith) c.in_ok-part.ensures.size.0 c.in_ok-part.ensures.size.1 c.in_ok-part.ensures.some c.in_ok-low.ensures.value in
    ap (λ low. Some (low + c.in_ok-high.high * 256)) c.from.ensures ∙ sym (number_more c.args.right cells c.args.address c.args.n (c.args.n - 1) c.in_ok-low.field-0.now c.in_ok-high.high (omega arith) (omega arith) byte (sym c.in_ok-high.ensures.value))

pub returns-clause-range : goal.returns-clause-range
returns-clause-range t c = room c.args.n (c.args.n - 1) c.from.result c.in_ok-high.high (omega arith) (omega arith) c.in_ok-high.ensures.range
