use Rattle.std.proofs.Common.{◌∷◌, inr, refl, ap, length}
use Rattle.dev_traits.specs.Lost.{lost_ranges}
use Rattle.dev_traits.specs.declared.mem.lost.Lost.{Lost}
use Rattle.dev_traits.proofs.mem.disk_calls.note_write.Goals as goal

pub returns-then-is_full : goal.returns-then-is_full
returns-then-is_full c = inr (c.is_full.ensures.0 c.if-is_full.true, refl, ap (λ (l : Lost). (c.args.place, length c.args.bytes.now) ∷ lost_ranges l) c.of-before.ensures)
