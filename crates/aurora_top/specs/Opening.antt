-- The opening of a disk, and the moment at which a run begins.
use Rattle.std.specs.Prelude.{◌≡◌, ◌⊎◌, ◌≤◌, ℕ, List}
use Rattle.std.specs.Option.{ForSome}
use Rattle.dev_traits.specs.Disk.{DiskView}
use Rattle.command_words.specs.declared.end.End.{End}
use Rattle.command_words.specs.declared.end.End.TheVariants.{Usage, DiskFault, DiskShape}

-- A moment of the opening, once its sync has answered Ok: since then a stop leaves what a read gives, and since the call or a
-- moment before it that or what it could leave before.
pub record IsOpenedAt (at : ℕ) (before after : DiskView) : Type 0 where
  pub not_before : before.moment ≤ at
  pub not_after : at ≤ after.moment
  pub opened : ForSome before.reading (λ r. (image : List ℕ) → after.left at image → image ≡ r)
  pub entered : ForSome before.reading (λ r. (t : ℕ) (image : List ℕ) → t ≤ before.moment → after.left t image
      → before.left t image ⊎ (image ≡ r))

-- The moment told by a command that was refused: that of the opening sync, where it answered Ok, else the one at the end.
abbrev pub IsOpening : End → ℕ → DiskView → DiskView → Type 0
IsOpening Usage at before after = at ≡ after.moment
IsOpening (DiskShape blocks) at before after = at ≡ after.moment
IsOpening DiskFault at before after = (at ≡ after.moment) ⊎ IsOpenedAt at before after
IsOpening end at before after = IsOpenedAt at before after
