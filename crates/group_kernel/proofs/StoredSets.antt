-- What is stored enters the sets: objects that stand over the last barrier stand over it with the pages stored to.
use Rattle.std.proofs.Common.{◌≡◌, ◌≢◌, ℕ, zero, suc, ◌+◌, ◌*◌, ◌/◌, ◌<◌, ◌==◌, ◌&&◌, ◌||◌, Bool, true, false, List, [], ◌∷◌, ◌++◌, length, map, Option, Some, None, refl, sym, ap, ◌∙◌, arith, subst, append_assoc, append-nil}
use Rattle.std.proofs.lemmas.Bool.{eqb-true, false≢true}
use Rattle.std.proofs.lemmas.Bool.Decides.{nat_tests}
use Rattle.std.proofs.lemmas.List.Folds.{list_any-append}
use Rattle.std.specs.Prelude.{if◌then◌else◌, slice_index_or, slice_set}
use Rattle.std.specs.List.{AllByRecursion, flat_map}
use Rattle.rv64_isa.specs.Memory.{Write}
use Rattle.rv64_isa.specs.Numbers.{wrapped}
use Rattle.address_maps.specs.declared.maps.Mapping.{Mapping}
use Rattle.address_maps.specs.Mappings.{mapping_at}
use Rattle.tables.specs.Lists.{on_first}
use Rattle.tables.proofs.Ordered.{IsOrdered, each_weaker, each_both, each_of_map}
use Rattle.shadow_chains.specs.Chain.{covers, with_range}
use Rattle.group_defs.specs.Cells.{object_place}
use Rattle.group_defs.specs.Pages.{is_among, page_at, pages_at}
use Rattle.proc_lease.specs.Private.{ObjectView, byte_into, byte_into_at, stored_into}
use Rattle.proc_lease.proofs.GroupObjects.{bases_kept}
use Rattle.proc_lease.proofs.Runs.{in_range, length-with_range, or_false}
use Rattle.group_kernel.specs.Faces.{StandsOver}

-- their numbers rise
abbrev pub NumbersRise : List ObjectView → Type 0
NumbersRise objects = IsOrdered (λ m n. m < n) (map (λ o. o.number) objects)

pub among_more : (touched more : List (ℕ × ℕ)) (page : ℕ × ℕ) → is_among (touched ++ more) page ≡ (is_among touched page || is_among more page)
among_more touched more page = list_any-append (λ (p : ℕ × ℕ). (p.0 == page.0) && (p.1 == page.1)) touched more

-- pages of other objects make no difference
pub stands_beside : (memory : List (ℕ × List ℕ)) (touched more : List (ℕ × ℕ)) (o : ObjectView)
    → ((page : ℕ) → page < o.pages → is_among more (o.number, page) ≡ false) → StandsOver memory touched o → StandsOver memory (touched ++ more) o
stands_beside memory touched more o none stands = record {
  below = stands.below;
  count = stands.count;
  set = λ page lt. stands.set page lt ∙ sym (among_more touched more (o.number, page) ∙ ap (λ (b : Bool). is_among touched (o.number, page) || b) (none page lt) ∙ or_false (is_among touched (o.number, page)));
}

-- an object with one more byte
abbrev put_in : ObjectView → ℕ → ℕ → ObjectView
put_in o place byte = record o { bytes = slice_set o.bytes place byte; touched = with_range o.touched place 1 }

covers_one : (place q : ℕ) → covers place 1 q ≡ (place / 4096 == q)
unfolding covers
covers_one place q = grind (arith, nat_tests)

same_number : (m n : ℕ) (b : Bool) → m ≡ n → ((m == n) && b) ≡ b
same_number m n b e = grind (arith, nat_tests, e)

other_number : (m n : ℕ) (b : Bool) → (m == n) ≡ false → ((m == n) && b) ≡ false
other_number m n b e = ap (λ (t : Bool). t && b) e

put_stands : (memory : List (ℕ × List ℕ)) (touched : List (ℕ × ℕ)) (o : ObjectView) (object place byte : ℕ) → object ≡ o.number → StandsOver memory touched o
    → StandsOver memory (touched ++ (object, place / 4096) ∷ []) (put_in o place byte)
put_stands memory touched o object place byte e stands = record {
  below = stands.below;
  count = length-with_range o.touched place 1 ∙ stands.count;
  set = λ page lt.
      in_range o.touched place 1 page (omega (arith, lt, stands.count))
      ∙ ap (λ (b : Bool). slice_index_or o.touched page false || b) (covers_one place page)
      ∙ ap (λ (b : Bool). b || (place / 4096 == page)) (stands.set page lt)
      ∙ ap (λ (b : Bool). is_among touched (o.number, page) || b) (sym (or_false ((object == o.number) && (place / 4096 == page)) ∙ same_number object o.number (place / 4096 == page) e))
      ∙ sym (among_more touched ((object, place / 4096) ∷ []) (o.number, page));
}

not_this : (memory : List (ℕ × List ℕ)) (touched : List (ℕ × ℕ)) (o : ObjectView) (object q : ℕ) → (object == o.number) ≡ false → StandsOver memory touched o → StandsOver memory (touched ++ (object, q) ∷ []) o
not_this memory touched o object q e stands = stands_beside memory touched ((object, q) ∷ []) o (λ page lt. or_false ((object == o.number) && (q == page)) ∙ other_number object o.number (q == page) e) stands

above_stand : (memory : List (ℕ × List ℕ)) (touched : List (ℕ × ℕ)) (o : ObjectView) (object q : ℕ) → (o.number == object) ≡ true → (x : ObjectView) → o.number < x.number → StandsOver memory touched x → StandsOver memory (touched ++ (object, q) ∷ []) x
above_stand memory touched o object q e x lt stands = let differ : (object == x.number) ≡ false = grind (arith, nat_tests, e, lt) in not_this memory touched x object q differ stands

one_of : (memory : List (ℕ × List ℕ)) (touched : List (ℕ × ℕ)) (o : ObjectView) (os : List ObjectView) (object place byte : ℕ) → NumbersRise (o ∷ os) → AllByRecursion (StandsOver memory touched) (o ∷ os)
    → AllByRecursion (StandsOver memory (touched ++ (object, place / 4096) ∷ [])) (byte_into os object place byte) → (t : Bool) → (o.number == object) ≡ t
    → AllByRecursion (StandsOver memory (touched ++ (object, place / 4096) ∷ [])) (if t then put_in o place byte ∷ os else o ∷ byte_into os object place byte)
one_of memory touched o os object place byte rise each rest true e = (
  (let same : object ≡ o.number = grind (arith, nat_tests, e) in put_stands memory touched o object place byte same each.0),
  each_both (λ x. o.number < x.number) (StandsOver memory touched) (StandsOver memory (touched ++ (object, place / 4096) ∷ [])) os (above_stand memory touched o object (place / 4096) e) (each_of_map (λ n. o.number < n) (λ (x : ObjectView). x.number) os rise.0) each.1,
)
one_of memory touched o os object place byte rise each rest false e = (
  (let differ : (object == o.number) ≡ false = grind (arith, nat_tests, e) in not_this memory touched o object (place / 4096) differ each.0),
  rest,
)

byte_stands : (memory : List (ℕ × List ℕ)) (touched : List (ℕ × ℕ)) (objects : List ObjectView) (object place byte : ℕ) → NumbersRise objects
    → AllByRecursion (StandsOver memory touched) objects → AllByRecursion (StandsOver memory (touched ++ (object, place / 4096) ∷ [])) (byte_into objects object place byte)
unfolding on_first
byte_stands memory touched [] object place byte rise each = tt
byte_stands memory touched (o ∷ os) object place byte rise each =
    one_of memory touched o os object place byte rise each (byte_stands memory touched os object place byte rise.1 each.1) (o.number == object) refl

rise_stays : (objects : List ObjectView) (maps : List Mapping) (a b : ℕ) → NumbersRise objects → NumbersRise (stored_into objects maps a (b ∷ []))
rise_stays objects maps a b rise = let kept = bases_kept objects maps a (b ∷ []) in subst (IsOrdered (λ m n. m < n)) (sym kept.numbers) rise

at_stands : (memory : List (ℕ × List ℕ)) (touched : List (ℕ × ℕ)) (objects : List ObjectView) (m : Option Mapping) (a byte : ℕ) → NumbersRise objects
    → AllByRecursion (StandsOver memory touched) objects → AllByRecursion (StandsOver memory (touched ++ elim m [ None ↦ [] | Some x ↦ (x.object, object_place x a / 4096) ∷ [] ])) (byte_into_at objects m a byte)
at_stands memory touched objects None a byte rise each = subst (λ (t : List (ℕ × ℕ)). AllByRecursion (StandsOver memory t) objects) (sym (append-nil touched)) each
at_stands memory touched objects (Some m) a byte rise each = byte_stands memory touched objects m.object (object_place m a) byte rise each

pub stored_stands : (memory : List (ℕ × List ℕ)) (touched : List (ℕ × ℕ)) (objects : List ObjectView) (maps : List Mapping) (a : ℕ) (bytes : List ℕ) → NumbersRise objects
    → AllByRecursion (StandsOver memory touched) objects → AllByRecursion (StandsOver memory (touched ++ pages_at maps a bytes)) (stored_into objects maps a bytes)
unfolding stored_into pages_at
stored_stands memory touched objects maps a [] rise each = subst (λ (t : List (ℕ × ℕ)). AllByRecursion (StandsOver memory t) objects) (sym (append-nil touched)) each
stored_stands memory touched objects maps a (b ∷ bs) rise each =
    let here : List (ℕ × ℕ) = page_at maps (wrapped a) in
    let next : List ObjectView = byte_into_at objects (mapping_at maps (wrapped a)) (wrapped a) b in
    subst (λ (t : List (ℕ × ℕ)). AllByRecursion (StandsOver memory t) (stored_into next maps (a + 1) bs)) (append_assoc touched here (pages_at maps (a + 1) bs))
    (stored_stands memory (touched ++ here) next maps (a + 1) bs (rise_stays objects maps a b rise) (at_stands memory touched objects (mapping_at maps (wrapped a)) (wrapped a) b rise each))
