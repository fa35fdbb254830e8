use Rattle.std.proofs.Common.{sym, ◌∙◌, ap}
use Rattle.command_words.specs.Words.{pieces_of}
use Rattle.command_words.proofs.SaidLaws.{front, read_further, unsaid}
use Rattle.command_words.proofs.said.said_by.Goals as goal

pub returns-in_err-said : goal.returns-in_err-said
returns-in_err-said c =
    let begins = front c.loop-rest.rest.now c.word-item.result c.in-len1-up.len_at_least c.word-item.is in
    let none = unsaid c.args.words.now c.loop-rest.rest.now c.in_ok-part.behind.now c.loop-rest.said c.in_ok-part.part c.loop-rest.invariant (ap pieces_of begins ∙ c.in_ok-part.ensures.reads) (sym c.with_part.ensures ∙ c.in_err-said.was) in
    rw c.from_residual-in_err-said.ensures none

pub loop-rest-preserved : goal.loop-rest-preserved
loop-rest-preserved c =
    let begins = front c.loop-rest.rest.now c.word-item.result c.in-len1-up.len_at_least c.word-item.is in
    read_further c.args.words.now c.loop-rest.rest.now c.in_ok-part.behind.now c.loop-rest.said c.in_ok-said.said c.in_ok-part.part c.loop-rest.invariant (ap pieces_of begins ∙ c.in_ok-part.ensures.reads) (sym c.with_part.ensures ∙ c.in_ok-said.was)
