-- What was frozen of each object is what the group has of it over the last barrier.
use Rattle.std.proofs.Common.{◌≡◌, ◌∙◌, ℕ, ◌<◌, ◌*◌, ◌/◌, ◌%◌, ◌∷◌, [], suc, Bool, false, List, length, get_or, Option, sym, ap, arith}
use Rattle.std.proofs.lemmas.List.{ext_get_or, get_or-replicate, length-replicate}
use Rattle.std.specs.List.{AllZip}
use Rattle.group_defs.specs.Cells.{bytes_in}
use Rattle.group_defs.specs.Group.{Group}
use Rattle.group_defs.specs.declared.frame.ObjectRec.{ObjectRec}
use Rattle.group_kernel.specs.Deltas.{HasJust, IsDeltaOf}
use Rattle.group_kernel.specs.Faces.{StandsOver, bytes_below}
use Rattle.group_kernel.specs.FirstFaces.{IsFreezeOf}
use Rattle.proc_lease.specs.Private.{view_of}
use Rattle.shadow_chains.proofs.Flat.{get_or-overlaid, get_or-page_set, length-overlaid}
use Rattle.shadow_chains.specs.Chain.{byte_over, overlaid, top_page}
use Rattle.shadow_chains.specs.Entries.{entry_with}
use Rattle.shadow_chains.specs.Faces.{FaceView}
use Rattle.shadow_chains.specs.declared.face.Frozen.{Frozen}

pub zip_each : {A B : Type 0} (R : A → B → Type 0) (xs : List A) (ys : List B) → length ys ≡ length xs → ((k : ℕ) (a : A) (b : B) → k < length xs → R (get_or xs k a) (get_or ys k b)) → AllZip R xs ys
zip_each R [] [] size each = tt
zip_each R [] (y ∷ ys) size each = absurd (omega (arith, size))
zip_each R (x ∷ xs) [] size each = absurd (omega (arith, size))
zip_each R (x ∷ xs) (y ∷ ys) size each = (each 0 x y (omega arith), zip_each R xs ys (omega (arith, size)) (λ k a b lt. each (suc k) a b (omega (arith, lt))))

-- One object, whose face stood over the last barrier and shows the group's bytes.
module _ (memory : List (ℕ × List ℕ)) (touched_pages : List (ℕ × ℕ)) (g : Group) (o : ObjectRec) (old now : FaceView) (frozen : Frozen) (stands : StandsOver memory touched_pages (view_of (entry_with o.number old))) (bytes : old.bytes ≡ bytes_in g.memory o.number)
    (size : length (bytes_in g.memory o.number) ≡ 4096 * o.pages) (freezes : IsFreezeOf o.number old now frozen) where
  pages_same : old.pages ≡ o.pages
  pages_same = omega (arith, length-overlaid frozen.layers old.base_bytes old.pages, ap length freezes.over, ap length bytes, size)

  over_below : overlaid frozen.layers (bytes_below memory old.base) old.pages ≡ overlaid frozen.layers old.base_bytes old.pages
  over_below =
      let n = old.pages in
      let long : length (overlaid frozen.layers (bytes_below memory old.base) n) ≡ 4096 * n = length-overlaid frozen.layers (bytes_below memory old.base) n in
      ext_get_or 0 (overlaid frozen.layers (bytes_below memory old.base) n) (overlaid frozen.layers old.base_bytes n) (long ∙ sym (length-overlaid frozen.layers old.base_bytes n)) (λ i lt.
      let within : i < 4096 * n = omega (arith, lt, long) in
      get_or-overlaid frozen.layers (bytes_below memory old.base) n i within
      ∙ ap (byte_over (top_page frozen.layers (i / 4096)) (i % 4096)) (sym (stands.below i within))
      ∙ sym (get_or-overlaid frozen.layers old.base_bytes n i within))

  pub delta : IsDeltaOf memory g o frozen
  delta = record {
    number = freezes.number_is;
    bytes = ap (λ (n : ℕ). overlaid frozen.layers (bytes_below memory frozen.base) n) (sym pages_same) ∙ ap (λ (b : Option ℕ). overlaid frozen.layers (bytes_below memory b) old.pages) freezes.base ∙ over_below ∙ freezes.over ∙ bytes;
  }

  pub just : HasJust touched_pages o frozen
  just page lt =
      let within : page < old.pages = omega (arith, lt, pages_same) in
      sym (get_or-page_set frozen.layers old.pages page within) ∙ ap (λ (l : List Bool). get_or l page false) freezes.standing ∙ stands.set page within

  pub stands_after : StandsOver g.memory [] (view_of (entry_with o.number now))
  stands_after = record {
    below = λ i lt. ap (λ (l : List ℕ). get_or l i 0) (freezes.base_bytes ∙ bytes ∙ sym (ap (bytes_below g.memory) freezes.new_base));
    count = ap length freezes.set ∙ length-replicate old.pages false ∙ sym freezes.pages;
    set = λ page lt. ap (λ (l : List Bool). get_or l page false) freezes.set ∙ get_or-replicate old.pages page false false (omega (arith, lt, freezes.pages));
  }
