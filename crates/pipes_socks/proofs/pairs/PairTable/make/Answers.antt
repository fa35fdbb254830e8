use Rattle.std.proofs.Common.{◌<◌, length, arith, ap, ◌∙◌}
use Rattle.pipes_socks.specs.Pairs.{pair_of}
use Rattle.pipes_socks.proofs.Held.{pairs_added}
use Rattle.pipes_socks.proofs.pairs.PairTable.make.Goals as goal

pub invariant_of-self-2 : goal.invariant_of-self-2
invariant_of-self-2 c =
    let few : length c.self.inside.pairs.items < 256 = omega (arith, c.len.ensures, c.if-len-ge256.false) in
    rw (c.in_ok-insert_in.ensures.ok, c.new.ensures) (pairs_added c.self.inside.pairs.items c.args.number c.self.invariant (ap (λ r. pair_of r.entries c.args.number) c.self.view_is ∙ c.requires) few)
