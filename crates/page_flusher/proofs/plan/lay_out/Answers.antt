use Rattle.std.proofs.Common.{◌≡◌, ◌∙◌, List, ℕ, length, ap, arith, subst, ◌≤◌, ◌+◌, ◌++◌}
use Rattle.std.proofs.lemmas.List.{length-map}
use Rattle.ckpt_records.specs.Spelling.{record_bytes}
use Rattle.ckpt_chain.specs.Chain.{metas_for}
use Rattle.ckpt_records.specs.Pages.{written_page}
use Rattle.page_flusher.specs.Plans.{placed}
use Rattle.page_flusher.specs.Taking.{AreTaken, IsSpelledBy}
use Rattle.page_flusher.proofs.FreeLaws.{taken_both}
use Rattle.page_flusher.proofs.Laying.{metas_within}
use Rattle.page_flusher.proofs.plan.lay_out.Goals as goal

pub take_blocks-requires-2 : goal.take_blocks-requires-2
take_blocks-requires-2 c =
    let pages = c.args.pages.now in
    let places = c.in_ok-places.places.items in
    let is : c.in_ok-bytes.bytes.items ≡ record_bytes 2 c.args.frame.now (placed pages places) = c.in_ok-bytes.ensures.bytes ∙ ap (λ (l : List ℕ). record_bytes 2 c.args.frame.now (placed pages l)) c.deref.ensures.value in
    let metas = metas_within c.metas_suffice.ensures c.args.frame.now pages places c.in_ok-places.ensures.size in
    omega (arith, c.requires.fits, c.in_ok-places.ensures.fewer, metas, ap length is, length-map pages written_page, c.len.ensures, c.div_ceil.ensures)

pub returns : goal.returns
returns c =
    let old = c.args.free.now in
    let mid = c.take_blocks.new.blocks in
    let new = c.take_blocks-2.new.blocks in
    let pages = c.args.pages.now in
    let places = c.in_ok-places.places in
    let metas = c.in_ok-metas.metas in
    let bytes = c.in_ok-bytes.bytes.items in
    let one : AreTaken old (length pages) places.items mid = c.in_ok-places.ensures in
    let two : AreTaken mid c.div_ceil.result metas.items new = c.in_ok-metas.ensures in
    let many : c.div_ceil.result ≡ metas_for (length bytes) = omega (arith, c.div_ceil.ensures, c.len.ensures) in
    let is : bytes ≡ record_bytes 2 c.args.frame.now (placed pages places.items) = c.in_ok-bytes.ensures.bytes ∙ ap (λ (l : List ℕ). record_bytes 2 c.args.frame.now (placed pages l)) c.deref.ensures.value in
    record {
      laid = record {
        enough = one.size;
        record_is = is;
        metas_enough = two.size ∙ many;
        taken = subst (λ (n : ℕ). AreTaken old (length pages + n) (places.items ++ metas.items) new) many (taken_both old mid new (length pages) c.div_ceil.result places.items metas.items one two);
      };
      spelled = subst (λ (l : List ℕ). IsSpelledBy bytes c.args.frame.now (placed pages l)) c.deref.ensures.value c.in_ok-bytes.ensures.spelled;
    }
