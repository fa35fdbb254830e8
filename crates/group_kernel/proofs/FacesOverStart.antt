-- The first faces stand over the group that a run begins with.
use Rattle.std.proofs.Common.{◌≡◌, ℕ, ◌*◌, ◌<◌, ◌==◌, Bool, true, false, not, List, [], ◌∷◌, length, map, replicate, Option, Some, None, refl, sym, ap, ◌∙◌, arith, subst}
use Rattle.std.proofs.lemmas.Bool.{eq-eqb}
use Rattle.std.proofs.lemmas.List.{get_or-replicate, length-replicate}
use Rattle.std.proofs.lemmas.List.FromFn.{get_or-map-range_with_len, length-map-range_with_len}
use Rattle.std.specs.Prelude.{if◌then◌else◌, slice_index_or}
use Rattle.std.specs.List.{AllByRecursion, AllZip, range_with_len}
use Rattle.group_defs.specs.Cells.{bytes_in}
use Rattle.group_defs.specs.Group.{Group}
use Rattle.group_defs.specs.Pages.{all_pages, is_among, is_zero_page, nonzero_pages}
use Rattle.group_defs.specs.Valid.{GroupIsValid, IsObject}
use Rattle.group_defs.specs.declared.frame.ObjectRec.{ObjectRec}
use Rattle.proc_lease.specs.Private.{view_of}
use Rattle.run_defs.specs.Progress.{progress_at}
use Rattle.shadow_chains.specs.Faces.{touched}
use Rattle.shadow_chains.specs.declared.entry.Entry.{Entry}
use Rattle.group_kernel.specs.Faces.{StandsOver, base_memory, bytes_below}
use Rattle.group_kernel.specs.Starting.{IsFirstFace, is_nonzero_in}
use Rattle.group_kernel.proofs.FacesOfMemory.{bytes_found}
use Rattle.group_kernel.proofs.PublicMemory.{Memory}
use Rattle.group_kernel.proofs.TouchedPages.{AreAmong, among_passing, each_among}

-- the objects over which the run begins: none on a new disk, else its group's
pub start_memory : (epoch : ℕ) (g : Group) → base_memory (progress_at epoch g) ≡ (if epoch == 0 then [] else g.memory)
start_memory epoch g = rw (eq-eqb epoch epoch refl) refl

module _ (epoch : ℕ) (g : Group) where
  abbrev pub base : Bool → Memory
  base new = if new then [] else g.memory

  abbrev pub begun_with : Bool → List (ℕ × ℕ)
  begun_with new = if new then nonzero_pages g else []

  -- a page is among those with which a run on a new disk begins where it isn't all zero
  begins_with : (n : ℕ) (bytes : List ℕ) (page : ℕ) → is_among (all_pages g.frame) (n, page) ≡ true → bytes_in g.memory n ≡ bytes → is_among (nonzero_pages g) (n, page) ≡ is_nonzero_in bytes page
  unfolding nonzero_pages
  begins_with n bytes page there is =
      among_passing (λ (p : ℕ × ℕ). not (is_zero_page g.memory p)) (all_pages g.frame) (n, page) there
      ∙ ap (λ (b : List ℕ). is_nonzero_in b page) is

  module _ (o : ObjectRec) (n : ℕ) (bytes : List ℕ) (e : Entry) (object : IsObject o (n, bytes)) (first : IsFirstFace epoch (n, bytes) e) (among : AreAmong (all_pages g.frame) o) (found : bytes_in g.memory n ≡ bytes) where
    pages_are : o.pages ≡ e.face.pages
    pages_are = let a = object.1 in let b = first.size in omega (arith, a, b)

    page_there : (page : ℕ) → page < e.face.pages → is_among (all_pages g.frame) (n, page) ≡ true
    page_there page lt =
        let less : page < o.pages = let same = pages_are in omega (arith, same, lt) in
        ap (λ (k : ℕ). is_among (all_pages g.frame) (k, page)) object.0 ∙ among page less

    on_new : (epoch == 0) ≡ true → StandsOver [] (nonzero_pages g) (view_of e)
    on_new is = record {
      below = λ i lt. ap (λ (l : List ℕ). slice_index_or l i 0) base_bytes ∙ get_or-replicate (4096 * e.face.pages) i 0 0 lt ∙ sym (ap (λ (b : Option ℕ). slice_index_or (bytes_below [] b) i 0) no_base);
      count = ap (λ (l : List Bool). length l) set ∙ length-map-range_with_len (is_nonzero_in bytes) 0 e.face.pages;
      set = λ page lt. ap (λ (l : List Bool). slice_index_or l page false) set ∙ get_or-map-range_with_len (is_nonzero_in bytes) 0 e.face.pages page page false lt (omega arith)
          ∙ sym (begins_with n bytes page (page_there page lt) found) ∙ ap (λ (k : ℕ). is_among (nonzero_pages g) (k, page)) (sym first.number);
    }
      where
        no_base : e.face.base ≡ None
        no_base = first.base ∙ ap (λ (t : Bool). if t then None else Some n) is

        base_bytes : e.face.base_bytes ≡ replicate (4096 * e.face.pages) 0
        base_bytes = first.base_bytes ∙ ap (λ (t : Bool). if t then replicate (4096 * e.face.pages) 0 else bytes) is

        set : touched e.face ≡ map (is_nonzero_in bytes) (range_with_len 0 e.face.pages)
        set = first.set ∙ ap (λ (t : Bool). if t then map (is_nonzero_in bytes) (range_with_len 0 e.face.pages) else replicate e.face.pages false) is

    on_old : (epoch == 0) ≡ false → StandsOver g.memory [] (view_of e)
    on_old is = record {
      below = λ i lt. ap (λ (l : List ℕ). slice_index_or l i 0) (base_bytes ∙ sym found) ∙ sym (ap (λ (b : Option ℕ). slice_index_or (bytes_below g.memory b) i 0) own_base);
      count = ap (λ (l : List Bool). length l) set ∙ length-replicate e.face.pages false;
      set = λ page lt. ap (λ (l : List Bool). slice_index_or l page false) set ∙ get_or-replicate e.face.pages page false false lt;
    }
      where
        own_base : e.face.base ≡ Some n
        own_base = first.base ∙ ap (λ (t : Bool). if t then None else Some n) is

        base_bytes : e.face.base_bytes ≡ bytes
        base_bytes = first.base_bytes ∙ ap (λ (t : Bool). if t then replicate (4096 * e.face.pages) 0 else bytes) is

        set : touched e.face ≡ replicate e.face.pages false
        set = first.set ∙ ap (λ (t : Bool). if t then map (is_nonzero_in bytes) (range_with_len 0 e.face.pages) else replicate e.face.pages false) is

    one_stands : (new : Bool) → (epoch == 0) ≡ new → StandsOver (base new) (begun_with new) (view_of e)
    one_stands true is = on_new is
    one_stands false is = on_old is

  all_stand : (new : Bool) → (epoch == 0) ≡ new → (objects : List ObjectRec) (memory : Memory) (all : List Entry) → AllZip IsObject objects memory → AllZip (IsFirstFace epoch) memory all
      → AllByRecursion (AreAmong (all_pages g.frame)) objects → AllByRecursion (λ o. bytes_in g.memory o.0 ≡ o.1) memory → AllByRecursion (λ e. StandsOver (base new) (begun_with new) (view_of e)) all
  all_stand new is [] [] [] objects firsts among found = tt
  all_stand new is [] [] (e ∷ es) objects firsts among found = absurd firsts
  all_stand new is [] (m ∷ ms) all objects firsts among found = absurd objects
  all_stand new is (o ∷ os) [] all objects firsts among found = absurd objects
  all_stand new is (o ∷ os) (m ∷ ms) [] objects firsts among found = tt
  all_stand new is (o ∷ os) ((n, bytes) ∷ ms) (e ∷ es) objects firsts among found =
      (one_stands o n bytes e objects.0 firsts.0 among.0 found.0 new is, all_stand new is os ms es objects.1 firsts.1 among.1 found.1)

  abbrev pub StandsAtStart : Entry → Type 0
  StandsAtStart e = StandsOver (base_memory (progress_at epoch g)) (progress_at epoch g).touched (view_of e)

  pub each_stands : (all : List Entry) → GroupIsValid g → AllZip (IsFirstFace epoch) g.memory all → AllByRecursion StandsAtStart all
  unfolding all_pages
  each_stands all valid firsts =
      subst (λ (m : Memory). AllByRecursion (λ e. StandsOver m (progress_at epoch g).touched (view_of e)) all) (sym (start_memory epoch g))
      (all_stand (epoch == 0) refl g.frame.objects g.memory all valid.sound.memory.bytes firsts (each_among [] g.frame.objects) (bytes_found g.frame.objects g.memory valid.sound.memory.bytes valid.sound.frame.objects.rise))
