use Rattle.shadow_chains.proofs.Faces.{ok_map}
use Rattle.shadow_chains.proofs.Writes.{all_ready, stays_subset}
use Rattle.shadow_chains.proofs.face.Face.write.Goals as goal

pub returns-clause-ok : goal.returns-clause-ok
returns-clause-ok c =
    let fits = rw (← c.self.view_is) at c.requires in
    rw (← c.self.view_is) (ok_map c.write_over.result _ _ (λ wrote. wrote.seen c.self.inside.pages fits) c.write_over.ensures.ok)

pub returns-clause-touched : goal.returns-clause-touched
returns-clause-touched c =
    let fits = rw (← c.self.view_is) at c.requires in
    rw (← c.self.view_is) (ok_map c.write_over.result _ _ (λ wrote. wrote.marked c.self.inside.since c.self.inside.pages fits) c.write_over.ensures.ok)

pub returns-clause-succeeds : goal.returns-clause-succeeds
returns-clause-succeeds c marked =
    let fits = rw (← c.self.view_is) at c.requires in
    c.write_over.ensures.succeeds (all_ready c.self.inside.top c.self.inside.pages c.args.place _ fits (rw (← c.self.view_is) at marked))

pub returns-clause-ready : goal.returns-clause-ready
returns-clause-ready c = rw (← c.self.view_is) (stays_subset c.self.inside.top c.write_over.new.top c.self.inside.pages c.write_over.ensures.ready)
