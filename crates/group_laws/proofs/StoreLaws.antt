-- Bytes that a process stores keep a group valid.
use Rattle.std.proofs.Common.{◌≡◌, ℕ, suc, ◌+◌, ◌<◌, Bool, true, false, ◌==◌, List, [], ◌∷◌, drop, get_or, Option, Some, None, refl, sym, ◌∙◌, length-set, arith}
use Rattle.std.specs.Prelude.{All, slice_set, if◌then◌else◌}
use Rattle.std.specs.List.{AllZip}
use Rattle.std.proofs.lemmas.Bool.{eqb-true}
use Rattle.std.proofs.lemmas.List.Elements.{All-set}
use Rattle.address_maps.specs.Mappings.{has, mapping_at}
use Rattle.address_maps.specs.declared.maps.Mapping.{Mapping}
use Rattle.group_defs.specs.Cells.{object_place, with_byte, with_byte_at, with_stored, with_writes}
use Rattle.group_defs.specs.Group.{Group}
use Rattle.lists.specs.Bytes.{AreBytes}
use Rattle.group_defs.specs.Valid.{EndsInZeros, GroupIsValid, IsObject, MemorySound}
use Rattle.group_defs.specs.declared.frame.ObjectRec.{ObjectRec}
use Rattle.group_files.specs.declared.named_files.FileRec.{FileRec}
use Rattle.rv64_isa.specs.Memory.{Write}
use Rattle.rv64_isa.specs.Numbers.{wrapped}
use Rattle.tables.specs.Lists.{on_first}
use Rattle.group_laws.proofs.Lists.{found_all, on_first_all}

byte_by : (o : ObjectRec) (os : List ObjectRec) (e : ℕ × List ℕ) (es : List (ℕ × List ℕ)) (object place byte : ℕ) (t : Bool) → (e.0 == object) ≡ t → byte < 256 → IsObject o e → AllZip IsObject os es
    → AllZip IsObject os (with_byte es object place byte) → AllZip IsObject (o ∷ os) (if t then (object, slice_set e.1 place byte) ∷ es else e ∷ with_byte es object place byte)
unfolding AreBytes
byte_by o os e es object place byte true is fits entry rest stored =
    let same : e.0 ≡ object = eqb-true e.0 object is in
    ((sym same ∙ entry.0, length-set e.1 place byte ∙ entry.1, All-set (λ b. b < 256) e.1 place byte fits entry.2), rest)
byte_by o os e es object place byte false is fits entry rest stored = (entry, stored)

byte_kept : (objects : List ObjectRec) (memory : List (ℕ × List ℕ)) (object place byte : ℕ) → byte < 256 → AllZip IsObject objects memory → AllZip IsObject objects (with_byte memory object place byte)
unfolding on_first
byte_kept [] [] object place byte fits zip = tt
byte_kept [] (e ∷ es) object place byte fits zip = absurd zip
byte_kept (o ∷ os) [] object place byte fits zip = absurd zip
byte_kept (o ∷ os) (e ∷ es) object place byte fits zip = byte_by o os e es object place byte (e.0 == object) refl fits zip.0 zip.1 (byte_kept os es object place byte fits zip.1)

-- no mapping shows a file's object
abbrev pub NoFile : List FileRec → List Mapping → Type 0
NoFile files maps = All (λ m. All (λ file. (m.object ≡ file.object) → ⊥) files) maps

module _ (objects : List ObjectRec) (files : List FileRec) (maps : List Mapping) (none : NoFile files maps) where
  zeros_kept : (memory : List (ℕ × List ℕ)) (object place byte : ℕ) → (file : FileRec) → (object ≡ file.object → ⊥) → EndsInZeros memory file → EndsInZeros (with_byte memory object place byte) file
  zeros_kept memory object place byte file other zeros =
      on_first_all (λ o. o.0 == object) (λ o. (object, slice_set o.1 place byte)) (λ o. o.0 ≡ file.object → All (λ (b : ℕ). b ≡ 0) (drop file.length o.1)) memory (λ o found old same. absurd (other same)) zeros

  byte_at : (memory : List (ℕ × List ℕ)) (o : Option Mapping) (address byte : ℕ) → ((m : Mapping) → o ≡ Some m → All (λ file. (m.object ≡ file.object) → ⊥) files) → byte < 256 → MemorySound objects files memory → MemorySound objects files (with_byte_at memory o address byte)
  byte_at memory None address byte shown fits s = s
  byte_at memory (Some m) address byte shown fits s = record {
    bytes = byte_kept objects memory m.object (object_place m address) byte fits s.bytes;
    zeros = λ k d lt. zeros_kept memory m.object (object_place m address) byte (get_or files k d) (shown m refl k d lt) (s.zeros k d lt);
  }

  bytes_kept : (bytes : List ℕ) (memory : List (ℕ × List ℕ)) (address : ℕ) → AreBytes bytes → MemorySound objects files memory → MemorySound objects files (with_stored memory maps address bytes)
  unfolding with_stored AreBytes
  bytes_kept [] memory address fit s = s
  bytes_kept (b ∷ bs) memory address fit s =
      bytes_kept bs (with_byte_at memory (mapping_at maps (wrapped address)) (wrapped address) b) (address + 1) (λ i d lt. fit (suc i) d (omega (arith, lt)))
      (byte_at memory (mapping_at maps (wrapped address)) (wrapped address) b (λ m found. found_all (has (wrapped address)) (λ n. All (λ file. (n.object ≡ file.object) → ⊥) files) maps m found none) (fit 0 b (omega arith)) s)

  writes_kept : (writes : List Write) (memory : List (ℕ × List ℕ)) → All (λ w. AreBytes w.bytes) writes → MemorySound objects files memory → MemorySound objects files (with_writes memory maps writes)
  unfolding with_writes
  writes_kept [] memory fit s = s
  writes_kept (w ∷ ws) memory fit s = writes_kept ws (with_stored memory maps w.address w.bytes) (λ i d lt. fit (suc i) d (omega (arith, lt))) (bytes_kept w.bytes memory w.address (fit 0 w (omega arith)) s)

pub written_valid : (g : Group) (maps : List Mapping) (writes : List Write) → NoFile g.frame.files maps → All (λ w. AreBytes w.bytes) writes → GroupIsValid g → GroupIsValid (record g { memory = with_writes g.memory maps writes })
written_valid g maps writes none fit v =
    record { sound = record { frame = v.sound.frame; memory = writes_kept g.frame.objects g.frame.files maps none writes g.memory fit v.sound.memory }; held = v.held }
