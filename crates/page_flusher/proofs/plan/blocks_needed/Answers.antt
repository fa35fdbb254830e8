use Rattle.std.proofs.Common.{length, map, ap, arith}
use Rattle.std.proofs.lemmas.List.{length-map}
use Rattle.ckpt_records.specs.Pages.{written_page}
use Rattle.page_flusher.proofs.Laying.{lone_size}
use Rattle.page_flusher.proofs.plan.blocks_needed.Goals as goal

pub returns : goal.returns
returns c =
    let pages = map written_page c.args.pages.now in
    omega (arith, lone_size c.args.frame.now pages, length-map c.args.pages.now written_page, ap length c.in_ok-record.ensures.bytes, c.len.ensures, c.in-Some.ensures.1, c.in-Some-checked_add.ensures.1, c.div_ceil.ensures)
