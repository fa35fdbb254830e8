use Rattle.shadow_chains.proofs.Faces.{ok_map, brings_written, brings_below, in_room}
use Rattle.shadow_chains.proofs.pieces.write_piece.Goals as goal

pub returns-then-write-clause-ok : goal.returns-then-write-clause-ok
returns-then-write-clause-ok c = brings_written c.args.layers.now c.args.top.now.pages c.write.new.self.pages c.args.page c.args.at c.args.bytes.now c.if-write.ensures.there

pub returns-clause-ok : goal.returns-clause-ok
returns-clause-ok c =
    ok_map c.bring.result _ _ (brings_below c.args.layers.now c.args.top.now.pages c.bring.new.self.pages c.args.page c.args.at c.args.bytes.now _ c.if-write.ensures.absent c.find.ensures)
    (rw (c.if-write.ensures.same) at c.bring.ensures.ok)

pub returns-clause-succeeds : goal.returns-clause-succeeds
returns-clause-succeeds c ready = c.bring.ensures.succeeds (rw c.if-write.ensures.same (in_room c.args.top.now c.args.page c.if-write.ensures.absent ready))
