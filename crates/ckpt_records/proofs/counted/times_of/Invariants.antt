use Rattle.std.proofs.Common.{◌≡◌, ◌-◌}
use Rattle.ckpt_records.specs.Codec.{times_at}
use Rattle.ckpt_records.proofs.Loop.{with_front}
use Rattle.ckpt_records.proofs.counted.times_of.Given as goal

abbrev pub invariant-loop : goal.invariant-loop
invariant-loop g l = with_front l.items.items (times_at (g.T.Field.reads l.format) (l.count - l.counter) l.rest) ≡ times_at (g.T.Field.reads l.format) l.count l.bytes
