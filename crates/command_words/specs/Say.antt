-- What a sink gets of a line.
use Rattle.std.specs.Prelude.{◌≡◌, ◌⊎◌, ◌≤◌, ℕ}
use Rattle.dev_traits.specs.Counts.{Rose}
use Rattle.dev_traits.specs.Outside.{SinkView, Takes, TakesPart}
use Rattle.command_words.specs.End.{line_of, status_of}
use Rattle.command_words.specs.declared.end.End.{End}

-- The line of an end was said, and the status is the end's number; or it was cut, and the status is 16.
pub record HasSaid (end : End) (status : ℕ) (before after : SinkView) : Type 0 where
  pub later : before.faults ≤ after.faults
  pub said : (status ≡ status_of end) × Takes (line_of end) before after
      ⊎ (status ≡ 16) × TakesPart (line_of end) before after × Rose before.faults after.faults
