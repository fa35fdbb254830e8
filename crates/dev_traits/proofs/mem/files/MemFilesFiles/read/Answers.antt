use Rattle.std.proofs.Common.{◌∙◌, sym}
use Rattle.std.proofs.lemmas.Bool.{false≢true}
use Rattle.dev_traits.proofs.mem.files.MemFilesFiles.read.Goals as goal

pub returns-clause-refused : goal.returns-clause-refused
returns-clause-refused c = (
  λ failed. absurd (c.copy_of.ensures.memory failed),
  λ listed. absurd (false≢true (sym c.if-refused.false ∙ c.refuses-refused.ensures ∙ listed)),
)
