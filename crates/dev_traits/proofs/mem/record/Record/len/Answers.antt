use Rattle.std.proofs.Common.{length, arith, [], ap}
use Rattle.dev_traits.specs.Record.{RecordView}
use Rattle.dev_traits.proofs.RecordLemmas.{length-onto}
use Rattle.dev_traits.proofs.mem.record.Record.len.Goals as goal

pub returns : goal.returns
returns c = omega (arith, c.len.ensures, c.self.inside.calls.ok.0, length-onto c.self.inside.written.items [] c.self.inside.calls.items, ap (λ (v : RecordView). length v.events) c.self.view_is)
