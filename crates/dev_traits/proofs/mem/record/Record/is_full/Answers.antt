use Rattle.std.proofs.Common.{◌≡◌, arith, ap}
use Rattle.std.proofs.lemmas.Bool.Decides.{nat_tests}
use Rattle.dev_traits.specs.Record.{RecordView}
use Rattle.dev_traits.proofs.mem.record.Record.is_full.Goals as goal

pub returns : goal.returns
returns c = let e : c.self.inside.room ≡ c.args.self.now.room = ap (λ (v : RecordView). v.room) c.self.view_is in grind (arith, nat_tests)
