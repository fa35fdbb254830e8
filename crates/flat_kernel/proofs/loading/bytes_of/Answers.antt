use Rattle.std.proofs.Common.{sym, ap, ◌∙◌, List, ◌++◌, ℕ}
use Rattle.ckpt_records.specs.Parts.{page_in}
use Rattle.flat_kernel.proofs.PartsLaws.{object_more, object_none}
use Rattle.flat_kernel.proofs.loading.bytes_of.Goals as goal

pub loop-page-init : goal.loop-page-init
loop-page-init c = c.in_ok-bytes.ensures.items ∙ sym (object_none c.args.layer.now)

pub loop-page-preserved : goal.loop-page-preserved
loop-page-preserved c =
    c.in_ok-add_page.ensures ∙ ap (λ (bytes : List ℕ). bytes ++ page_in c.args.layer.now c.loop-page.page) c.loop-page.invariant ∙ sym (object_more c.loop-page.page c.args.layer.now)
