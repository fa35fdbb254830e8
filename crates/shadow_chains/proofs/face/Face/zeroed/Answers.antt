use Rattle.std.proofs.Common.{sym, refl, []}
use Rattle.shadow_chains.proofs.Flat.{flat_zeros, set_none}
use Rattle.shadow_chains.proofs.Faces.{empty_flat, empty_set}
use Rattle.shadow_chains.proofs.face.Face.zeroed.Goals as goal

pub returns-clause-bytes : goal.returns-clause-bytes
returns-clause-bytes c = rw (c.new.ensures, empty_flat [] _ c.args.pages c.new-2.ensures.pages) (sym (flat_zeros [] c.args.pages (λ p. refl)))

pub returns-clause-base_bytes : goal.returns-clause-base_bytes
returns-clause-base_bytes c = sym (flat_zeros [] c.args.pages (λ p. refl))

pub returns-clause-touched : goal.returns-clause-touched
returns-clause-touched c = rw (c.new.ensures, empty_set [] _ c.args.pages c.new-2.ensures.pages) (sym (set_none [] c.args.pages (λ p. refl)))
