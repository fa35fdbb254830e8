use Rattle.std.proofs.Common.{◌≡◌, ◌+◌, ◌-◌, ◌*◌, ◌/◌, ◌∷◌, [], ◌++◌, true, false, List, length, take, drop, sym, ap, ◌∙◌, append-nil, arith}
use Rattle.flat_kernel.specs.Placing.{is_zero, pages_up_to}
use Rattle.ckpt_records.specs.declared.meta.Page.{Page}
use Rattle.flat_kernel.proofs.PlaceLaws.{no_pages, part_is, page_added, page_passed}
use Rattle.flat_kernel.proofs.freezing.add_object.Goals as goal
use Rattle.flat_kernel.proofs.freezing.add_object.Goals.{then-not-is_zero+in_ok-frozen_page+in_ok-push, else-not-is_zero}

pub loop-page-init : goal.loop-page-init
loop-page-init c = sym (ap (λ (l : List Page). c.args.pages.now.items ++ l) (no_pages c.args.object c.args.bytes.now) ∙ append-nil c.args.pages.now.items)

pub loop-page-preserved : goal.loop-page-preserved
loop-page-preserved c =
    let bytes = c.args.bytes.now in
    let n = c.loop-page.page in
    let part = take (4096 * n + 4096 - 4096 * n) (drop (4096 * n) bytes) in
    elim c.if-not-is_zero.branch [
      | then-not-is_zero+in_ok-frozen_page+in_ok-push w ↦
          let some : is_zero part ≡ false = cc (w.if-not-is_zero.ensures) in
          ap (λ s. s.items) w.pages-is
          ∙ page_added c.args.object bytes part n c.args.pages.now.items c.loop-page.pages.items w.push.new.self.items (part_is bytes n) some c.loop-page.invariant (w.in_ok-push.ensures.items ∙ ap (λ p. c.loop-page.pages.items ++ p ∷ []) w.in_ok-frozen_page.ensures)
      | else-not-is_zero w ↦
          let none : is_zero part ≡ true = cc (w.if-not-is_zero.ensures) in
          ap (λ s. s.items) w.pages-is ∙ page_passed c.args.object bytes part n c.args.pages.now.items c.loop-page.pages.items (part_is bytes n) none c.loop-page.invariant
    ]

pub returns : goal.returns
returns c =
    let end : c.loop-page.page ≡ length c.args.bytes.now / 4096 = omega arith in
    c.loop-page.invariant ∙ ap (λ n. c.args.pages.now.items ++ pages_up_to c.args.object c.args.bytes.now n) end
