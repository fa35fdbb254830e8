use Rattle.std.proofs.Common.{Bool, false, set, ap, sym, ◌∙◌}
use Rattle.std.proofs.lemmas.List.{set-set, set-get_or}
use Rattle.block_alloc.proofs.blocks.Blocks.free.Goals as goal

pub returns-clause-back : goal.returns-clause-back
returns-clause-back c before free was = rw (c.self.view_is ∙ was, set-set) (ap (λ (t : Bool). set before c.args.block t) (sym free) ∙ set-get_or before c.args.block false)
