use Rattle.std.proofs.Common.{◌≡◌, ◌++◌, ◌∷◌, [], List, ap, ◌∙◌, append_assoc, arith, sym, map}
use Rattle.std.specs.List.{range_with_len}
use Rattle.std.proofs.lemmas.List.FromFn.{map-range_with_len_more}
use Rattle.ckpt_records.specs.declared.meta.PagePlace.{PagePlace}
use Rattle.ckpt_records.specs.Runs.{page_at}
use Rattle.ckpt_records.proofs.runs.put_pages.Goals as goal

pub loop-i-preserved : goal.loop-i-preserved
loop-i-preserved c =
    let r = c.args.run.now in
    let before : List PagePlace = map (page_at r) (range_with_len 0 c.loop-i.i) in
    let more = map-range_with_len_more (page_at r) 0 c.loop-i.i c.loop-i.i (omega arith) in
    c.in_ok-push.ensures.items ∙ ap (λ (ps : List PagePlace). ps ++ page_at r c.loop-i.i ∷ []) c.loop-i.invariant ∙ append_assoc c.args.pages.now.items before (page_at r c.loop-i.i ∷ [])
    ∙ ap (λ (ps : List PagePlace). c.args.pages.now.items ++ ps) (sym more)
