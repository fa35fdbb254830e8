-- A new object of zeros.
use Rattle.std.proofs.Common.{◌≡◌, ◌⊎◌, inl, inr, ℕ, ◌+◌, ◌*◌, ◌^◌, ◌<◌, ◌≤◌, Bool, true, false, ◌==◌, not, List, [], ◌∷◌, ◌++◌, length, drop, get_or, refl, ap, sym, ◌∙◌, arith}
use Rattle.std.specs.Prelude.{All, Any, if◌then◌else◌, sum_by}
use Rattle.std.specs.List.{AllZip, list_any}
use Rattle.std.proofs.lemmas.Bool.{cases_Bool, eqb-true}
use Rattle.std.proofs.lemmas.List.{length-append, length-replicate}
use Rattle.std.proofs.lemmas.List.Elements.{All-push, All-replicate, All-weaker, filter-append}
use Rattle.std.proofs.lemmas.List.Sums.{sum_by-append}
use Rattle.group_defs.specs.Changes.{with_object, zeros}
use Rattle.group_defs.specs.Group.{Group}
use Rattle.group_defs.specs.Mappings.{IsInside}
use Rattle.group_defs.specs.Numbers.{NextFits}
use Rattle.lists.specs.Bytes.{AreBytes}
use Rattle.group_defs.specs.Objects.{HasFileObject, IsMappedAs, IsMemoryObject, IsSharedObject, is_of_file, memory_objects, memory_objects_in}
use Rattle.group_defs.specs.Valid.{GroupIsSound, IsObject}
use Rattle.group_defs.specs.declared.frame.ObjectRec.{ObjectRec}
use Rattle.group_laws.proofs.Lists.{any_all, any_append_left, any_true, rise_push}

pub zip_push : {X Y : Type 0} (R : X → Y → Type 0) (xs : List X) (ys : List Y) (x : X) (y : Y) → AllZip R xs ys → R x y → AllZip R (xs ++ x ∷ []) (ys ++ y ∷ [])
zip_push R [] [] x y zip r = (r, tt)
zip_push R [] (b ∷ bs) x y zip r = absurd zip
zip_push R (a ∷ as') [] x y zip r = absurd zip
zip_push R (a ∷ as') (b ∷ bs) x y zip r = (zip.0, zip_push R as' bs x y zip.1 r)

module _ (g : Group) (pages : ℕ) (s : GroupIsSound g) (some : 1 ≤ pages) (most : pages ≤ 16384) (low : g.frame.next.object + 1 < 2 ^ 64)
    (unused : All (λ q. All (λ m. (m.object ≡ g.frame.next.object) → ⊥) q.maps) g.frame.procs) (no_file : All (λ file. (file.object ≡ g.frame.next.object) → ⊥) g.frame.files)
    (few : length (memory_objects g.frame) + 1 ≤ 4096) (room : sum_by (λ o. o.pages) (memory_objects g.frame) + pages ≤ 65536) where
  abbrev new : ObjectRec
  new = record { number = g.frame.next.object; pages = pages }

  not_a_file : is_of_file g.frame.files new.number ≡ false
  unfolding is_of_file
  not_a_file = by_test (cases_Bool (list_any (λ file. file.object == new.number) g.frame.files))
    where
      by_test : (list_any (λ file. file.object == new.number) g.frame.files ≡ true) ⊎ (list_any (λ file. file.object == new.number) g.frame.files ≡ false) → list_any (λ file. file.object == new.number) g.frame.files ≡ false
      by_test (inr miss) = miss
      by_test (inl hit) = of_any (any_all (λ file. (file.object == new.number) ≡ true) (λ file. (file.object ≡ new.number) → ⊥) g.frame.files (any_true (λ file. file.object == new.number) g.frame.files hit) no_file)
        where
          of_any : Any (λ file. ((file.object == new.number) ≡ true) × ((file.object ≡ new.number) → ⊥)) g.frame.files → list_any (λ file. file.object == new.number) g.frame.files ≡ false
          of_any (k, file, lt, is, both) = absurd (both.1 (eqb-true file.object new.number both.0))

  memory_more : memory_objects_in g.frame.files (g.frame.objects ++ new ∷ []) ≡ memory_objects g.frame ++ new ∷ []
  memory_more = filter-append (λ o. not (is_of_file g.frame.files o.number)) g.frame.objects (new ∷ []) ∙ ap (λ (b : Bool). memory_objects g.frame ++ (if not b then new ∷ [] else [])) not_a_file

  unmapped_yet : IsMemoryObject g.frame.procs new
  unfolding IsMemoryObject IsSharedObject IsMappedAs
  unmapped_yet = (some, inl (λ k d lt i e lt' is. absurd (unused k d lt i e lt' is)))

  new_bytes : IsObject new (new.number, zeros (4096 * pages))
  unfolding zeros AreBytes
  new_bytes = (refl, length-replicate (4096 * pages) 0, All-replicate (λ b. b < 256) (4096 * pages) 0 (omega arith))

  pub object_sound : GroupIsSound (with_object g pages)
  unfolding NextFits IsInside HasFileObject
  object_sound =
      let f = g.frame in
      record {
        frame = record {
          procs = s.frame.procs;
          maps = record {
            inside = λ k d lt i e lt'. any_append_left (λ o. (o.number ≡ (get_or (get_or f.procs k d).maps i e).object) × ((get_or (get_or f.procs k d).maps i e).first + (get_or (get_or f.procs k d).maps i e).pages ≤ o.pages)) f.objects (new ∷ []) (s.frame.maps.inside k d lt i e lt');
            agree = All-push (λ o. (is_of_file f.files o.number ≡ true) ⊎ IsMemoryObject f.procs o) f.objects new s.frame.maps.agree (inr unmapped_yet);
            unmapped = s.frame.maps.unmapped;
          };
          names = s.frame.names;
          opens = s.frame.opens;
          pipes = s.frame.pipes;
          pairs = s.frame.pairs;
          objects = record {
            count = let size = ap length memory_more ∙ length-append (memory_objects f) (new ∷ []) in omega (arith, size, few);
            pages = let size = ap (sum_by (λ (o : ObjectRec). o.pages)) memory_more ∙ sum_by-append (λ o. o.pages) (memory_objects f) (new ∷ []) in omega (arith, size, room);
            sizes = All-push (λ o. o.pages ≤ 16384) f.objects new s.frame.objects.sizes most;
            rise = rise_push (λ o. o.number) f.objects new s.frame.objects.rise s.frame.objects.below;
            below = All-push (λ o. o.number < f.next.object + 1) f.objects new (All-weaker (λ o. o.number < f.next.object) (λ o. o.number < f.next.object + 1) (λ o lt. omega (arith, lt)) f.objects s.frame.objects.below) (omega arith);
          };
          files = record {
            count = s.frame.files.count;
            fits = s.frame.files.fits;
            rise = s.frame.files.rise;
            there = λ k d lt. any_append_left (λ o. (o.number ≡ (get_or f.files k d).object) × (o.pages ≡ 256)) f.objects (new ∷ []) (s.frame.files.there k d lt);
            alone = s.frame.files.alone;
          };
          out = s.frame.out;
          next = (let n = s.frame.next.0 in (low, n.1, n.2, n.3), s.frame.next.1, s.frame.next.2);
        };
        memory = record { bytes = zip_push IsObject f.objects g.memory new (new.number, zeros (4096 * pages)) s.memory.bytes new_bytes; zeros = λ k d lt. All-push (λ o. o.0 ≡ (get_or f.files k d).object → All (λ (b : ℕ). b ≡ 0) (drop (get_or f.files k d).length o.1)) g.memory (new.number, zeros (4096 * pages)) (s.memory.zeros k d lt) (λ same. absurd (no_file k d lt (sym same))) };
      }
