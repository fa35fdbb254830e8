use Rattle.std.proofs.Common.{◌≡◌, ◌<◌, ◌/◌, ◌%◌, arith, length}
use Rattle.std.proofs.lemmas.Bool.Decides.{nat_tests}
use Rattle.shadow_chains.proofs.Ready.{stays_itself}
use Rattle.shadow_chains.proofs.Writes.{wrote_empty, wrote_one, ready_here}
use Rattle.shadow_chains.proofs.Faces.{ok_map}
use Rattle.shadow_chains.proofs.pieces.write_over.Goals as goal

pub returns-then-is_empty-clause-ok : goal.returns-then-is_empty-clause-ok
returns-then-is_empty-clause-ok c =
    let e : length c.args.bytes.now ≡ 0 = grind (arith, nat_tests) in wrote_empty _ _ c.args.place _ e

pub returns-then-is_empty-clause-ready : goal.returns-then-is_empty-clause-ready
returns-then-is_empty-clause-ready c = stays_itself c.args.top.now

pub returns-then-bytes-at-clause-ok : goal.returns-then-bytes-at-clause-ok
returns-then-bytes-at-clause-ok c =
    let some : 0 < length c.args.bytes.now = grind (arith, nat_tests) in
    ok_map c.write_piece.result _ _ (λ brings. wrote_one c.args.layers.now c.args.top.now.pages c.write_piece.new.top.pages c.args.place (c.args.place / 4096) (c.args.place % 4096) c.args.bytes.now brings some (omega arith) (omega arith)) c.write_piece.ensures.ok

pub returns-then-bytes-at-clause-succeeds : goal.returns-then-bytes-at-clause-succeeds
returns-then-bytes-at-clause-succeeds c ready =
    let some : 0 < length c.args.bytes.now = grind (arith, nat_tests) in
    c.write_piece.ensures.succeeds (ready_here c.args.top.now c.args.top.now c.args.place (length c.args.bytes.now) (c.args.place / 4096) (c.args.place % 4096) 0 ready (stays_itself c.args.top.now) (omega arith) some (omega arith))
