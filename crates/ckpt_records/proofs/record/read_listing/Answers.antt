use Rattle.std.proofs.Common.{◌≡◌, arith}
use Rattle.ckpt_records.proofs.SpellLaws.{unspelled, same_pages, found_record, not_listed, ends_fit}
use Rattle.ckpt_records.proofs.record.read_listing.Goals as goal

pub returns-in-Err-Nothing-clause-only : goal.returns-in-Err-Nothing-clause-only
returns-in-Err-Nothing-clause-only c = λ f pages s. unspelled c.args.format c.args.bytes.now c.args.blocks f pages (rw c.in-Err-Nothing.field-0-is at c.in-Err-Nothing.ensures) s

pub returns-then-not-is_orderly-clause-only : goal.returns-then-not-is_orderly-clause-only
returns-then-not-is_orderly-clause-only c = λ f pages s.
    not_listed c.args.format c.args.bytes.now c.args.blocks c.in-Ok.listing.frame f c.in-Ok.listing.runs pages c.in-Ok.ensures
    (λ lists listed. let yes = c.is_orderly.ensures.1 (lists, listed) in let no = c.if-not-is_orderly.true in cc) s

pub returns-else-not-is_orderly-clause-found : goal.returns-else-not-is_orderly-clause-found
returns-else-not-is_orderly-clause-found c =
    let orderly = c.is_orderly.ensures.0 c.if-not-is_orderly.false in
    found_record c.args.format c.args.bytes.now c.args.blocks c.in-Ok.listing.frame c.in-Ok.listing.runs (c.is_format.ensures.0 c.if-not-is_format.false) (λ i. omega (arith, c.type_inv.bytes i)) c.in-Ok.ensures orderly.0 orderly.1

pub returns-else-not-is_orderly-clause-only : goal.returns-else-not-is_orderly-clause-only
returns-else-not-is_orderly-clause-only c = λ f pages s. same_pages c.args.format c.args.bytes.now c.args.blocks c.in-Ok.listing.frame f c.in-Ok.listing.runs pages c.in-Ok.ensures s

pub returns-else-not-is_orderly-clause-ends : goal.returns-else-not-is_orderly-clause-ends
returns-else-not-is_orderly-clause-ends c =
    let orderly = c.is_orderly.ensures.0 c.if-not-is_orderly.false in
    ends_fit c.args.format c.args.bytes.now c.args.blocks c.in-Ok.listing.frame c.in-Ok.listing.runs (c.is_format.ensures.0 c.if-not-is_format.false) (λ i. omega (arith, c.type_inv.bytes i)) c.in-Ok.ensures (omega arith) orderly.1
