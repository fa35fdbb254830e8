use Rattle.std.proofs.Common.{◌-◌, vec_len, arith}
use Rattle.flat_tests.proofs.MemorySample.{filled, none_filled}
use Rattle.flat_tests.proofs.tests.memory.two_pages.Goals as goal

pub returns-clause-bytes : goal.returns-clause-bytes
returns-clause-bytes c =
    filled c.resize.new.self.items c.resize-2.new.self.items 8192 (8192 - vec_len c.resize.new.self) c.args.high (omega arith)
    (filled c.new-bytes.result.items c.resize.new.self.items 4096 (4096 - vec_len c.new-bytes.result) c.args.low (omega arith) (none_filled c.new-bytes.result.items c.new-bytes.ensures.items) c.in_ok-resize.ensures.items) c.in_ok-resize-2.ensures.items
