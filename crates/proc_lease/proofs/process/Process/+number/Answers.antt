use Rattle.std.proofs.Common.{◌≡◌, suc, ◌+◌, ◌-◌, ◌*◌, ◌^◌, ◌<◌, sym, ◌∙◌, arith}
use Rattle.rv64_core.specs.ByteLaws.{number_zero, number_none, number_high, number_more, room, bounded}
use Rattle.proc_lease.specs.Private.{private_in, views_of}
use Rattle.proc_lease.proofs.Across.{one_byte}
use Rattle.proc_lease.proofs.process.Process.+number.Goals as goal

pub returns-then-n-eq0-clause-value : goal.returns-then-n-eq0-clause-value
returns-then-n-eq0-clause-value t c = sym (number_zero _ _ _ _ c.if-n-eq0.true)

pub overflow_mul-result : goal.overflow_mul-result
overflow_mul-result t c =
    let e : c.args.n ≡ suc (c.args.n - 1) = omega arith in
    let b : 0 + c.in-Some-number.high * 256 < 2 ^ 64 = bounded c.args.n (c.args.n - 1) 0 c.in-Some-number.high e (omega arith) (omega arith) c.in-Some-number.ensures.range in
    omega arith

pub overflow_add-result : goal.overflow_add-result
overflow_add-result t c =
    let e : c.args.n ≡ suc (c.args.n - 1) = omega arith in
    let small : c.in-Some.low < 256 = omega (arith, c.in-Some.ensures.range) in
    let b : c.in-Some.low + c.in-Some-number.high * 256 < 2 ^ 64 = bounded c.args.n (c.args.n - 1) c.in-Some.low c.in-Some-number.high e (omega arith) small c.in-Some-number.ensures.range in
    omega arith

pub returns-in-None-clause-value : goal.returns-in-None-clause-value
returns-in-None-clause-value t c =
    let cells = private_in (views_of c.args.self.now.faces.entries) c.args.self.now.map.entries in
    sym (number_none c.args.right cells c.args.address c.args.n (c.args.n - 1) (omega arith) (omega arith) (sym (c.in-None.ensures.value ∙ one_byte c.args.right cells c.args.address (omega arith))))

pub returns-in-None-number-clause-value : goal.returns-in-None-number-clause-value
returns-in-None-number-clause-value t c =
    let cells = private_in (views_of c.args.self.now.faces.entries) c.args.self.now.map.entries in
    sym (number_high c.args.right cells c.args.address c.args.n (c.args.n - 1) c.in-Some.low (omega arith) (omega arith) (sym (c.in-Some.ensures.value ∙ one_byte c.args.right cells c.args.address (omega arith))) (sym c.in-None-number.ensures.value))

pub returns-in-Some-number-clause-value : goal.returns-in-Some-number-clause-value
returns-in-Some-number-clause-value t c =
    let cells = private_in (views_of c.args.self.now.faces.entries) c.args.self.now.map.entries in
    sym (number_more c.args.right cells c.args.address c.args.n (c.args.n - 1) c.in-Some.low c.in-Some-number.high (omega arith) (omega arith) (sym (c.in-Some.ensures.value ∙ one_byte c.args.right cells c.args.address (omega arith))) (sym c.in-Some-number.ensures.value))

pub returns-in-Some-number-clause-range : goal.returns-in-Some-number-clause-range
returns-in-Some-number-clause-range t c = let small : c.in-Some.low < 256 = omega (arith, c.in-Some.ensures.range) in room c.args.n (c.args.n - 1) c.in-Some.low c.in-Some-number.high (omega arith) small c.in-Some-number.ensures.range
