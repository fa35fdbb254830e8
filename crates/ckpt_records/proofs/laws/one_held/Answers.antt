use Rattle.ckpt_records.proofs.Unique.{held_once}
use Rattle.ckpt_records.proofs.laws.one_held.Goals as goal

pub returns : goal.returns
returns c = held_once
