-- What a lent face leaves in the table.
use Rattle.std.specs.Prelude.{ℕ, Option}
use Rattle.std.specs.Borrow.{LendsIf, MutBor, Fml}
use Rattle.tables.specs.Rows.{Rows}
use Rattle.tables.specs.Rising.{replaced}
use Rattle.shadow_chains.specs.declared.entry.Entry.{Entry}
use Rattle.shadow_chains.specs.Faces.{FaceView}
use Rattle.shadow_chains.specs.Entries.{number_of, entry_with}
use Rattle.shadow_chains.specs.contracts.table.FaceTable.{the_row}
use Rattle.shadow_chains.specs.contracts.face.Face as face

-- the table with this face in the place of the one that has its number
abbrev pub with_lent : Rows Entry → ℕ → FaceView → Rows Entry
with_lent t number w = record t { entries = replaced number_of t.entries (entry_with number w) }

abbrev pub LendsFace : MutBor (Rows Entry) → ℕ → Option (MutBor FaceView) → Fml
LendsFace t number r = LendsIf the_row face.the_row t r (with_lent t.now number) t.now
