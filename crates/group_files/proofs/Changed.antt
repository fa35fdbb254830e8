-- A group's files after each change.
use Rattle.std.proofs.Common.{◌≡◌, ◌≢◌, ℕ, ◌<◌, ◌≤◌, ◌==◌, List, [], ◌∷◌, length, take, drop, get_or, set, Some, None, refl, sym, subst, arith}
use Rattle.std.proofs.lemmas.Bool.{eqb-false, eq-eqb, ne_eqb}
use Rattle.std.proofs.lemmas.List.{get_or_default, length-set}
use Rattle.std.proofs.lemmas.List.Edits.{length-insert}
use Rattle.std.proofs.lemmas.List.Elements.{All-cons, All-append, All-take, All-drop, All-set}
use Rattle.std.proofs.lemmas.List.Sums.{prefix_len-le-length}
use Rattle.tables.proofs.Only.{none_from_find}
use Rattle.tables.proofs.Places.{insert_between, set_keeps}
use Rattle.group_files.specs.declared.named_files.FileRec.{FileRec}
use Rattle.group_files.specs.Names.{IsName, is_before}
use Rattle.group_files.specs.Files.{FileFits, NamesRise, AreFiles, IsPlaceWith, file_named, file_with, place_of_name, with_file, empty_file, with_length}
use Rattle.tables.proofs.First.{find_first, on_first_at}
use Rattle.group_files.specs.NameLaws.{Before, rise_insert}

-- read where a list has no more
abbrev pub no_file : FileRec
no_file = record { name = []; object = 0; length = 0 }

pub files_none : AreFiles []
unfolding NamesRise
files_none = record {
  each = λ k d lt. absurd (omega (arith, lt));
  rise = λ i j d less end. absurd (omega (arith, end));
  objects = λ i j d less end. absurd (omega (arith, end));
  count = omega arith;
}

module _ (files : List FileRec) (valid : AreFiles files) where
  pub files_inserted : (name : List ℕ) (object : ℕ) → IsName name → file_with files object ≡ None → file_named files name ≡ None → length files < 64 → AreFiles (with_file files (empty_file name object))
  unfolding FileFits
  files_inserted name object good new none room = record {
    each = All-append FileFits (take place files) (f ∷ drop place files) (All-take FileFits place files valid.each) (All-cons FileFits f (drop place files) (good, omega arith) (All-drop FileFits place files valid.each));
    rise = rise_insert files valid.rise name f refl none;
    objects = insert_between (λ a b. a.object ≢ b.object) files place f valid.objects within (λ j d lt. differs j d (omega (arith, lt, within))) (λ j d le lt same. differs j d lt (sym same));
    count = omega (arith, length-insert files place f within, room);
  }
    where
      f : FileRec
      f = empty_file name object

      place : ℕ
      place = place_of_name files name

      within : place_of_name files name ≤ length files
      within = prefix_len-le-length (λ g. is_before g.name name) files

      differs : (j : ℕ) (d : FileRec) → j < length files → (get_or files j d).object ≢ object
      differs j d lt = eqb-false (get_or files j d).object object (none_from_find (λ g. g.object == object) files new j d lt)

  module _ (object k : ℕ) (here : IsPlaceWith files object k) where
    pub with_at : (d : FileRec) → file_with files object ≡ Some (get_or files k d)
    with_at d = find_first (λ f. f.object == object) files k d here.within (eq-eqb (get_or files k d).object object (here.has d)) (λ j less. ne_eqb (get_or files j d).object object (here.before j d less))

    pub length_at : (n : ℕ) (d : FileRec) → set files k (record (get_or files k d) { length = n }) ≡ with_length files object n
    length_at n d = sym (on_first_at (λ f. f.object == object) (λ f. record f { length = n }) files k d here.within (eq-eqb (get_or files k d).object object (here.has d)) (λ j less. ne_eqb (get_or files j d).object object (here.before j d less)))

    pub files_set : (n : ℕ) (d : FileRec) → n ≤ 1048576 → AreFiles (set files k (record (get_or files k d) { length = n }))
    unfolding FileFits NamesRise
    files_set n d few = record {
      each = All-set FileFits files k (record (get_or files k d) { length = n }) ((valid.each k d here.within).0, few) valid.each;
      rise = set_keeps Before files k (record (get_or files k d) { length = n }) valid.rise here.within
          (λ j e lt. subst (λ (f : FileRec). Before (get_or files j e) f) (same e) (valid.rise j k e lt here.within)) (λ j e lt end. subst (λ (f : FileRec). Before f (get_or files j e)) (same e) (valid.rise k j e lt end));
      objects = set_keeps (λ a b. a.object ≢ b.object) files k (record (get_or files k d) { length = n }) valid.objects here.within
          (λ j e lt. subst (λ (f : FileRec). (get_or files j e).object ≢ f.object) (same e) (valid.objects j k e lt here.within)) (λ j e lt end. subst (λ (f : FileRec). f.object ≢ (get_or files j e).object) (same e) (valid.objects k j e lt end));
      count = omega (arith, length-set files k (record (get_or files k d) { length = n }), valid.count);
    }
      where
        same : (e : FileRec) → get_or files k e ≡ get_or files k d
        same e = get_or_default files k e d here.within
