use Rattle.ckpt_records.proofs.Held.{written_held}
use Rattle.ckpt_records.proofs.laws.written_is_held.Goals as goal

pub returns : goal.returns
returns c = written_held c.laid_is_read.ensures
