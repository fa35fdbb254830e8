use Rattle.shadow_chains.proofs.Faces.{ok_map}
use Rattle.shadow_chains.proofs.Writes.{all_in_range, all_ready, stays_subset}
use Rattle.shadow_chains.proofs.face.Face.reserve.Goals as goal

pub returns-clause-ok : goal.returns-clause-ok
returns-clause-ok c =
    let fits = rw (← c.self.view_is) at c.requires in
    ok_map c.hold_range.result _ _ (all_in_range c.hold_range.new.top c.self.inside.pages c.args.place c.args.n fits) c.hold_range.ensures.ok

pub returns-clause-ready : goal.returns-clause-ready
returns-clause-ready c = rw (← c.self.view_is) (stays_subset c.self.inside.top c.hold_range.new.top c.self.inside.pages c.hold_range.ensures.ready)

pub returns-clause-succeeds : goal.returns-clause-succeeds
returns-clause-succeeds c marked =
    let fits = rw (← c.self.view_is) at c.requires in
    c.hold_range.ensures.succeeds (all_ready c.self.inside.top c.self.inside.pages c.args.place c.args.n fits (rw (← c.self.view_is) at marked))
