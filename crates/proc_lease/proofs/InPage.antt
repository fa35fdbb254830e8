-- Bytes stored into one page.
use Rattle.std.proofs.Common.{◌≡◌, ℕ, ◌+◌, ◌*◌, ◌%◌, ◌≤◌, List, length, Some, refl, sym, ap, ◌∙◌, subst, arith}
use Rattle.address_maps.specs.declared.maps.Mapping.{Mapping}
use Rattle.address_maps.specs.declared.maps.Place.{Place}
use Rattle.group_defs.specs.Cells.{bytes_in, object_place}
use Rattle.shadow_chains.specs.declared.entry.Entry.{Entry}
use Rattle.proc_lease.specs.Private.{ObjectView, bytes_into, memory_of, stored_into, PrivateFits, IsPrivatePlace, IsPageReady, IsReadyFor}
use Rattle.proc_lease.proofs.Mapped.{address_end, each_mapped, object_is, place_inside, place_is, starts_by}
use Rattle.proc_lease.proofs.Runs.{run_is}

module _ (objects : List ObjectView) (maps : List Mapping) (right a : ℕ) (p : Place) (is : IsPrivatePlace maps right a p) (fits : PrivateFits objects maps) where
  pub stored_in_page : (bytes : List ℕ) → a % 4096 + length bytes ≤ 4096 → bytes_into objects p.object (4096 * p.page + p.offset) bytes ≡ stored_into objects maps a bytes
  stored_in_page bytes one =
      let m : Mapping = is.mapping in
      let inside : object_place m a + length bytes ≤ length (bytes_in (memory_of objects) m.object) =
      subst (λ (o : ℕ). object_place m a + length bytes ≤ length (bytes_in (memory_of objects) o)) (object_is objects maps right a p is fits)
      (subst (λ (i : ℕ). i + length bytes ≤ length (bytes_in (memory_of objects) p.object)) (place_is objects maps right a p is fits) (place_inside objects maps right a p is fits (length bytes) one)) in
      ap (λ (o : ℕ). bytes_into objects o (4096 * p.page + p.offset) bytes) (object_is objects maps right a p is fits)
      ∙ ap (λ (i : ℕ). bytes_into objects m.object i bytes) (place_is objects maps right a p is fits)
      ∙ sym (run_is objects maps a (object_place m a) m bytes (each_mapped objects maps right a p is fits (length bytes) one) (starts_by objects maps right a p is fits) refl (omega (arith, address_end objects maps right a p is fits (length bytes) one)) inside)

  -- where the page is ready, so is the place
  pub place_ready : (entries : List Entry) (n : ℕ) → IsPageReady entries maps a n → IsReadyFor entries p.object (4096 * p.page + p.offset) n
  place_ready entries n ready =
      subst (λ (o : ℕ). IsReadyFor entries o (4096 * p.page + p.offset) n) (sym (object_is objects maps right a p is fits))
      (subst (λ (i : ℕ). IsReadyFor entries is.mapping.object i n) (sym (place_is objects maps right a p is fits)) (ready is.mapping is.is))

  -- ... and the other way round
  pub page_ready : (entries : List Entry) (n : ℕ) → IsReadyFor entries p.object (4096 * p.page + p.offset) n → IsPageReady entries maps a n
  page_ready entries n ready m found =
      let same : is.mapping ≡ m = same_some (sym is.is ∙ found) in
      subst (λ (x : Mapping). IsReadyFor entries x.object (object_place x a) n) same
      (subst (λ (i : ℕ). IsReadyFor entries is.mapping.object i n) (place_is objects maps right a p is fits)
      (subst (λ (o : ℕ). IsReadyFor entries o (4096 * p.page + p.offset) n) (object_is objects maps right a p is fits) ready))
    where
      same_some : {x y : Mapping} → Some x ≡ Some y → x ≡ y
      same_some e = cc
