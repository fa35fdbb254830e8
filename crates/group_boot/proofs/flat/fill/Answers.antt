use Rattle.std.proofs.Common.{List, ℕ, ◌-◌, ◌*◌, take, drop, ap, ◌∙◌}
use Rattle.lists.specs.Bytes.{put}
use Rattle.group_boot.proofs.ImagePages.{page_is}
use Rattle.group_boot.proofs.flat.fill.Goals as goal

pub returns : goal.returns
returns c =
    c.write.ensures.bytes
    ∙ ap (λ (page : List ℕ). put page 0 (take (c.min-to.result - 4096 * c.args.number) (drop (4096 * c.args.number) c.args.image.now))) c.clear.ensures
    ∙ page_is c.args.image.now c.args.number c.min-to.result c.min-to.ensures
