use Rattle.std.proofs.Common.{◌≡◌, arith}
use Rattle.ckpt_records.proofs.SpellLaws.{written_record}
use Rattle.ckpt_records.proofs.record.write_meta.Goals as goal

pub returns-in-Ok-clause-spelled : goal.returns-in-Ok-clause-spelled
returns-in-Ok-clause-spelled c = λ blocks orderly. written_record c.in-Ok.out.items c.args.frame.now c.args.pages.now c.in-Ok.ensures.bytes c.in-Ok.ensures.range c.requires blocks orderly
