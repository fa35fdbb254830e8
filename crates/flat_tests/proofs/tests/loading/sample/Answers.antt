use Rattle.std.proofs.Common.{◌≡◌, ℕ, ◌<◌, List, [], ◌∷◌, ◌++◌, length, replicate, refl, sym, ap, ◌∙◌, subst, arith, length-append, append-nil}
use Rattle.std.specs.List.{AllZip}
use Rattle.std.proofs.lemmas.List.{length-replicate}
use Rattle.std.proofs.lemmas.List.Elements.{All-append, All-replicate}
use Rattle.group_defs.specs.declared.frame.ObjectRec.{ObjectRec}
use Rattle.lists.specs.Bytes.{AreBytes}
use Rattle.group_defs.specs.Valid.{IsObject}
use Rattle.mem_objects.specs.Pages.{Pages, PageNumbersRise}
use Rattle.ckpt_records.specs.Parts.{memory_of, object_bytes}
use Rattle.flat_tests.proofs.tests.loading.sample.Goals as goal

only : {X : Type 0} (old new : List X) (x : X) → old ≡ [] → new ≡ old ++ x ∷ [] → new ≡ x ∷ []
only old new x none pushed = pushed ∙ ap (λ ys. ys ++ x ∷ []) none

one_rises : (slots : Pages) (x : ℕ × List ℕ) → slots ≡ x ∷ [] → PageNumbersRise slots
unfolding PageNumbersRise
one_rises slots x one i j less end = absurd (omega (arith, less, end, ap (λ (s : Pages). length s) one))

zeros : AreBytes (replicate 4096 0)
unfolding AreBytes
zeros = All-replicate (λ (b : ℕ). b < 256) 4096 0 (omega arith)

all_bytes : (page : List ℕ) → AreBytes page → AreBytes (replicate 4096 0 ++ page)
unfolding AreBytes
all_bytes page small = All-append (λ (b : ℕ). b < 256) (replicate 4096 0) page zeros small

size : (page : List ℕ) → length page ≡ 4096 → length (replicate 4096 0 ++ page) ≡ 8192
size page whole = omega (arith, length-append (replicate 4096 0) page, length-replicate {A = ℕ} 4096 0, whole)

abbrev object : ObjectRec
object = record { number = 5; pages = 2 }

bytes_are : (page : List ℕ) → object_bytes 2 ((1, page) ∷ []) ≡ replicate 4096 0 ++ page
unfolding object_bytes
bytes_are page = ap (λ (ys : List ℕ). replicate 4096 0 ++ ys) (append-nil page)

object_is : (page : List ℕ) → length page ≡ 4096 → AreBytes page → IsObject object (5, object_bytes 2 ((1, page) ∷ []))
object_is page whole small = (refl, ap (λ (ys : List ℕ). length ys) (bytes_are page) ∙ size page whole, subst AreBytes (sym (bytes_are page)) (all_bytes page small))

objects_are : (objects : List ObjectRec) (layers : List (ℕ × Pages)) (slots : Pages) (page : List ℕ) → objects ≡ object ∷ [] → layers ≡ (5, slots) ∷ [] → slots ≡ (1, page) ∷ []
    → length page ≡ 4096 → AreBytes page → AllZip IsObject objects (memory_of objects layers)
unfolding memory_of
objects_are objects layers slots page one under there whole small =
    let both : layers ≡ (5, (1, page) ∷ []) ∷ [] = under ∙ ap (λ (s : Pages). (5, s) ∷ []) there in
    subst (λ (os : List ObjectRec). AllZip IsObject os (memory_of os layers)) (sym one)
    (subst (λ (ls : List (ℕ × Pages)). AllZip IsObject (object ∷ []) (memory_of (object ∷ []) ls)) (sym both) (object_is page whole small, tt))

pub of-requires : goal.of-requires
of-requires c = one_rises c.push.new.self.items _ (only c.new-slots.result.items c.push.new.self.items _ c.new-slots.ensures.items c.in_ok-push.ensures.items)

pub returns-clause-memory : goal.returns-clause-memory
returns-clause-memory c =
    objects_are c.in_ok-frame.field-0.objects c.push-2.new.self c.of.result c.in_ok-sevens.field-0 c.in_ok-frame.ensures.objects
    (only c.new-layers.result c.push-2.new.self _ c.new-layers.ensures c.in_ok-push-2.ensures.ok) (c.of.ensures ∙ only c.new-slots.result.items c.push.new.self.items _ c.new-slots.ensures.items c.in_ok-push.ensures.items)
    c.in_ok-sevens.ensures.0 c.in_ok-sevens.ensures.1
