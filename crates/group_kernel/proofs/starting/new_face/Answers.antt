use Rattle.std.proofs.Common.{◌≡◌, ◌∙◌, ◌+◌, ◌*◌, ◌<◌, ℕ, false, List, ap, sym, subst, take, take_all, length, get_or, arith}
use Rattle.std.proofs.lemmas.Bool.{false≢true}
use Rattle.lists.specs.Bytes.{put}
use Rattle.mem_objects.specs.Pages.{Pages}
use Rattle.shadow_chains.specs.Chain.{with_range}
use Rattle.shadow_chains.specs.Faces.{touched}
use Rattle.group_kernel.proofs.NewFaces.{IsFaceUpTo, first_of_zeros, is_kept, kept_by, none_written, page_skipped, page_written, skipped_by_number, skipped_by_zeros}
use Rattle.group_kernel.proofs.starting.new_face.Goals as goal
use Rattle.group_kernel.proofs.starting.new_face.Goals.{then-page-pages+then-not-is_zero+in_ok-write, else-page-pages, else-page-pages-via-then-page-pages+else-not-is_zero, else-page-pages-via-else-page-pages}

pub loop-page-init : goal.loop-page-init
loop-page-init c =
    let made = c.in_ok-face.ensures in
    none_written c.args.pages c.in_ok-face.face made.pages made.bytes made.base made.base_bytes made.touched

pub write-requires : goal.write-requires
write-requires c =
    omega (arith, c.as_array.ensures.len, ap (λ (l : List ℕ). length l) c.as_array.ensures.bytes, c.if-page-pages.true, c.loop-page.invariant.pages_are)

pub loop-page-preserved : goal.loop-page-preserved
loop-page-preserved c =
    let all = c.as_slice-page-items.ensures.all in
    let page = c.page-item.result in
    let here : page ≡ get_or c.args.layer.now c.loop-page.page-index page = c.page-item.is ∙ ap (λ (l : Pages). get_or l c.loop-page.page-index page) all in
    let lt : c.loop-page.page-index < length c.args.layer.now = subst (λ (l : Pages). c.loop-page.page-index < length l) all c.loop-page-test.true in
    elim c.if-page-pages.branch [
      | then-page-pages+then-not-is_zero+in_ok-write w ↦
          let made = w.in_ok-write.ensures in
          let bytes = w.as_array.ensures.bytes in
          let kept = kept_by c.args.pages page w.if-page-pages.true (λ zeros. false≢true (sym w.if-not-is_zero.true ∙ w.is_zero.ensures.1 zeros)) in
          subst (IsFaceUpTo c.args.pages (take (c.loop-page.page-index + 1) c.args.layer.now)) (sym w.face-is)
          (page_written c.args.pages c.args.layer.now c.loop-page.page-index page c.loop-page.face lt here c.loop-page.invariant w.write.new.self c.as_slice-page-items.ensures.rise kept w.if-page-pages.true w.as_array.ensures.len
          (made.ok ∙ ap (λ (l : List ℕ). put c.loop-page.face.bytes (4096 * page.0) l) bytes) (made.touched ∙ ap (λ (l : List ℕ). with_range (touched c.loop-page.face) (4096 * page.0) (length l)) bytes) made.base)
      | else-page-pages w ↦
          let skipped : is_kept c.args.pages page ≡ false = elim w.else-page-pages.branch [
            | else-page-pages-via-then-page-pages+else-not-is_zero w' ↦ skipped_by_zeros c.args.pages page (w'.is_zero.ensures.0 w'.if-not-is_zero.false)
            | else-page-pages-via-else-page-pages w' ↦ skipped_by_number c.args.pages page w'.if-page-pages.false
          ] in
          subst (IsFaceUpTo c.args.pages (take (c.loop-page.page-index + 1) c.args.layer.now)) (sym w.face-is) (page_skipped c.args.pages c.args.layer.now c.loop-page.page-index page c.loop-page.face lt here c.loop-page.invariant skipped)
    ]

pub returns : goal.returns
returns c =
    let all = c.as_slice-page-items.ensures.all in
    let whole : take c.loop-page.page-index c.args.layer.now ≡ c.args.layer.now = take_all c.loop-page.page-index c.args.layer.now (omega (arith, c.loop-page-test.false, ap (λ (l : Pages). length l) all)) in
    first_of_zeros c.args.pages c.args.layer.now c.as_slice-page-items.ensures.rise c.requires.whole c.loop-page.face (subst (λ (l : Pages). IsFaceUpTo c.args.pages l c.loop-page.face) whole c.loop-page.invariant)
