use Rattle.ckpt_records.proofs.SpellLaws.{spells_once}
use Rattle.ckpt_records.proofs.laws.one_spelled.Goals as goal

pub returns : goal.returns
returns c = spells_once
