use Rattle.std.proofs.Common.{subst, sym}
use Rattle.std.specs.Prelude.{IfOk}
use Rattle.aurora_top.specs.Starting.{IsBegun}
use Rattle.command_words.specs.Words.{named_beginning}
use Rattle.command_words.specs.declared.words.Beginning.TheVariants.{Checkpoint}
use Rattle.aurora_top.proofs.Reasons.{for_all_files}
use Rattle.aurora_top.proofs.starting.first_origin.Goals as goal

pub returns-in-Checkpoint-clause-ok : goal.returns-in-Checkpoint-clause-ok
returns-in-Checkpoint-clause-ok g c =
    let disk = g.D.Disk.view c.args.disk.now in
    let files = g.F.Files.view c.args.files.now in
    subst (λ beginning. IfOk c.held_origin.result (λ o. IsBegun (named_beginning beginning) disk files o)) (sym c.in-Checkpoint.is) (for_all_files c.held_origin.result (λ f o. IsBegun Checkpoint disk f o) files c.held_origin.ensures.ok)
