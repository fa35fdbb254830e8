use Rattle.ckpt_records.proofs.Held.{held_kept}
use Rattle.ckpt_records.proofs.laws.kept_is_held.Goals as goal

pub returns : goal.returns
returns c = held_kept c.kept_is_read.ensures
