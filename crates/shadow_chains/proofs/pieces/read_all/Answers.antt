use Rattle.std.proofs.Common.{◌≡◌, ◌∙◌, ◌+◌, ◌-◌, ◌*◌, ◌++◌, ◌∷◌, [], arith, ℕ, length, take, drop}
use Rattle.shadow_chains.specs.Chain.{byte_at}
use Rattle.shadow_chains.proofs.Shown.{read_step, piece_at}
use Rattle.shadow_chains.proofs.Writes.{length_piece}
use Rattle.shadow_chains.proofs.pieces.read_all.Goals as goal

pub loop-done-preserved : goal.loop-done-preserved
loop-done-preserved c =
    let place : 4096 * c.loop-done.page + c.loop-done.at ≡ c.args.place + c.loop-done.done = c.loop-done.invariant.here (omega arith) in
    let size : length (take (c.loop-done.done + c.piece-n.result - c.loop-done.done) (drop c.loop-done.done c.loop-done.into)) ≡ c.piece-n.result = length_piece c.loop-done.into c.loop-done.done c.piece-n.result (omega arith) in
    record {
      in_range = omega arith;
      in_page = omega arith;
      here = λ lt. let full : c.loop-done.at + c.piece-n.result ≡ 4096 = c.piece-n.ensures.full (omega arith) in omega arith;
      each = read_step (λ (i : ℕ). byte_at (c.args.layers.now ++ c.args.top.now.pages ∷ []) (c.args.place + i)) c.loop-done.into c.read_piece.new.into c.loop-done.done _ c.piece-n.result (omega arith) (omega arith) c.loop-done.invariant.each
          (λ i lt. c.read_piece.ensures i (omega arith) ∙ piece_at (c.args.layers.now ++ c.args.top.now.pages ∷ []) c.args.place c.loop-done.page c.loop-done.at c.loop-done.done i (omega arith) place);
    }
