-- munmap, and brk where it shrinks or stays in its page, keep a group valid.
use Rattle.std.proofs.Common.{◌≡◌, ◌⊎◌, inl, ℕ, ◌+◌, ◌*◌, ◌%◌, ◌^◌, ◌<◌, ◌≤◌, Bool, true, false, ◌||◌, ◌==◌, not, List, [], length, get_or, Some, refl, ap, sym, ◌∙◌, subst, arith}
use Rattle.std.specs.Prelude.{All, Any, find, nat_lt}
use Rattle.std.proofs.lemmas.Bool.{eqb-true, ltb-false}
use Rattle.std.proofs.lemmas.List.Elements.{All-weaker}
use Rattle.address_maps.specs.Cut.{cut}
use Rattle.address_maps.specs.Mappings.{AreMappings, IsMapping}
use Rattle.address_maps.specs.declared.maps.Mapping.{Mapping}
use Rattle.address_maps.specs.CutLaws.{cut_mappings}
use Rattle.group_defs.specs.Changes.{with_maps}
use Rattle.group_defs.specs.Group.{Group, is_runner}
use Rattle.group_defs.specs.Held.{settled}
use Rattle.group_defs.specs.MapCalls.{munmap, pages_for}
use Rattle.group_defs.specs.Mappings.{IsInside, IsUserMapping}
use Rattle.group_defs.specs.Sizes.{ProcFits}
use Rattle.group_defs.specs.Objects.{HasFileObject}
use Rattle.group_defs.specs.Valid.{GroupIsSound, GroupIsValid}
use Rattle.group_defs.specs.declared.frame.Proc.{Proc}
use Rattle.rv64_isa.specs.Registers.{a0, a1}
use Rattle.rv64_isa.specs.declared.regs.Regs.{Regs}
use Rattle.group_laws.proofs.CallerLaws.{CallerFits, caller_fits}
use Rattle.group_laws.proofs.DescriptorCallLaws.{if_keeps, nothing_stored}
use Rattle.group_laws.proofs.Lists.{any_all, any_weaker, found_all}
use Rattle.group_laws.proofs.MapLaws.{IsNewOf, IsPiece, IsPieceOf, cut_pieces, maps_sound}
use Rattle.group_laws.proofs.ReplyLaws.{Keeps, ReplyKeeps, changed_runs, maps_no_file, settled_files, settled_procs}
use Rattle.group_laws.proofs.SettledLaws.{settled_valid}
use Rattle.group_laws.proofs.StoreLaws.{NoFile}

module _ (g : Group) (p : Proc) (found : find (is_runner p.pid) g.frame.procs ≡ Some p) (v : GroupIsValid g) where
  -- each object that is mapped is below the next number, and has at most 16,384 pages
  pub inside_known : (q : Proc) → All (IsInside g.frame.objects) q.maps → All (λ m. (m.object < g.frame.next.object) × (m.first + m.pages ≤ 16384)) q.maps
  unfolding IsInside
  inside_known q inside k d lt = of_any (any_all (λ o. (o.number ≡ (get_or q.maps k d).object) × ((get_or q.maps k d).first + (get_or q.maps k d).pages ≤ o.pages)) (λ o. (o.number < g.frame.next.object) × (o.pages ≤ 16384)) g.frame.objects (inside k d lt) (λ i e lt'. (v.sound.frame.objects.below i e lt', v.sound.frame.objects.sizes i e lt')))
    where
      of_any : Any (λ o. ((o.number ≡ (get_or q.maps k d).object) × ((get_or q.maps k d).first + (get_or q.maps k d).pages ≤ o.pages)) × ((o.number < g.frame.next.object) × (o.pages ≤ 16384))) g.frame.objects → ((get_or q.maps k d).object < g.frame.next.object) × ((get_or q.maps k d).first + (get_or q.maps k d).pages ≤ 16384)
      of_any (i, o, lt', is, both) = let same = both.0.0 in let last = both.0.1 in let below = both.1.0 in let size = both.1.1 in (omega (arith, same, below), omega (arith, last, size))

  pub next_unused : All (λ q. All (λ m. (m.object ≡ g.frame.next.object) → ⊥) q.maps) g.frame.procs
  next_unused k d lt i e lt' same = let known = inside_known (get_or g.frame.procs k d) (v.sound.frame.maps.inside k d lt) i e lt' in let below = known.0 in omega (arith, below, same)

  pub next_no_file : All (λ file. (file.object ≡ g.frame.next.object) → ⊥) g.frame.files
  unfolding HasFileObject
  next_no_file k d lt same = of_any (any_all (λ o. (o.number ≡ (get_or g.frame.files k d).object) × (o.pages ≡ 256)) (λ o. o.number < g.frame.next.object) g.frame.objects (v.sound.frame.files.there k d lt) v.sound.frame.objects.below)
    where
      of_any : Any (λ o. ((o.number ≡ (get_or g.frame.files k d).object) × (o.pages ≡ 256)) × (o.number < g.frame.next.object)) g.frame.objects → ⊥
      of_any (i, o, lt', is, both) = let number = both.0.0 in let below = both.1 in omega (arith, number, below, same)

  abbrev pub own : CallerFits p
  own = caller_fits g.frame.next.pid p.pid g.frame.procs p refl found v.sound.frame.procs

  pub own_inside : All (IsInside g.frame.objects) p.maps
  own_inside = found_all (is_runner p.pid) (λ q. All (IsInside g.frame.objects) q.maps) g.frame.procs p found v.sound.frame.maps.inside

  pub own_mappings : AreMappings p.maps
  unfolding IsUserMapping IsMapping ProcFits
  own_mappings = record {
    each = λ k d lt. let m = own.placed k d lt in let known = inside_known p own_inside k d lt in let last = known.1 in (m.0, m.1, m.2, m.3, last);
    apart = own.apart;
    count = own.fits.1;
  }

  pub own_rights : All (λ m. m.prot ≤ 7) p.maps
  unfolding IsUserMapping
  own_rights k d lt = (own.placed k d lt).4

  -- what holds of the pieces
  pub pieces_inside : (ms : List Mapping) → All (IsPieceOf p.maps) ms → All (IsInside g.frame.objects) ms
  unfolding IsInside
  pieces_inside ms pieces k d lt = of_any (any_all (λ x. IsPiece x (get_or ms k d)) (IsInside g.frame.objects) p.maps (pieces k d lt) own_inside)
    where
      of_any : Any (λ x. IsPiece x (get_or ms k d) × IsInside g.frame.objects x) p.maps → IsInside g.frame.objects (get_or ms k d)
      of_any (i, x, lt', is, both) =
          let of = both.0 in let same = of.object in let last = of.last in
          any_weaker (λ o. (o.number ≡ x.object) × (x.first + x.pages ≤ o.pages)) (λ o. (o.number ≡ (get_or ms k d).object) × ((get_or ms k d).first + (get_or ms k d).pages ≤ o.pages)) g.frame.objects (λ o in'. let fit = in'.1 in (in'.0 ∙ sym same, omega (arith, fit, last))) both.1

  pub pieces_rights : (ms : List Mapping) → All (IsPieceOf p.maps) ms → All (λ m. m.prot ≤ 7) ms
  pieces_rights ms pieces k d lt = of_any (any_all (λ x. IsPiece x (get_or ms k d)) (λ x. x.prot ≤ 7) p.maps (pieces k d lt) own_rights)
    where
      of_any : Any (λ x. IsPiece x (get_or ms k d) × (x.prot ≤ 7)) p.maps → (get_or ms k d).prot ≤ 7
      of_any (i, x, lt', is, both) = let of = both.0 in let same = of.prot in let le = both.1 in omega (arith, same, le)

  -- a range is cut
  pub cut_sound : (start pages : ℕ) → start % 4096 ≡ 0 → start + 4096 * pages ≤ 2 ^ 38 → length (cut p.maps start pages) ≤ 1024 → GroupIsSound (with_maps g p (cut p.maps start pages))
  cut_sound start pages at_page within few =
      let ms : List Mapping = cut p.maps start pages in
      let of : All (IsPieceOf p.maps) ms = cut_pieces p.maps start pages in
      maps_sound g p found g.frame.next.object false ms (All-weaker (IsPieceOf p.maps) (λ m. IsPieceOf p.maps m ⊎ IsNewOf g.frame.next.object false m) (λ m piece. inl piece) ms of) next_unused (cut_mappings p.maps start pages own_mappings at_page within few) (pieces_rights ms of) (pieces_inside ms of) next_no_file v.sound

  pub cut_keeps : (value start pages : ℕ) → value < 2 ^ 64 → start % 4096 ≡ 0 → start + 4096 * pages ≤ 2 ^ 38 → length (cut p.maps start pages) ≤ 1024 → Keeps p value (settled (with_maps g p (cut p.maps start pages))) []
  cut_keeps value start pages lt at_page within few =
      let ms : List Mapping = cut p.maps start pages in
      record {
        value_fits = lt;
        valid = settled_valid (with_maps g p ms) (cut_sound start pages at_page within few);
        caller = record p { maps = ms };
        runs = ap (find (is_runner p.pid)) (settled_procs (with_maps g p ms)) ∙ changed_runs g p (λ q. record q { maps = ms }) (λ q e. e) found;
        bytes = nothing_stored;
        no_file = subst (λ files. NoFile files p.maps) (sym (settled_files (with_maps g p ms))) (maps_no_file g p found v);
      }

  pub munmap_keeps : (r : Regs) → ReplyKeeps p (munmap g p r)
  munmap_keeps r =
      if_keeps p (not (a0 r % 4096 == 0) || (a1 r == 0) || nat_lt (2 ^ 38) (a0 r + a1 r)) _ _ (λ e. (omega arith, omega arith)) (λ good.
      if_keeps p (nat_lt 1024 (length (cut p.maps (a0 r) (pages_for (a1 r))))) _ _ (λ e. (omega arith, omega arith)) (λ few.
      cut_keeps 0 (a0 r) (pages_for (a1 r)) (omega arith) (at_page (a0 r % 4096 == 0) (a1 r == 0) (nat_lt (2 ^ 38) (a0 r + a1 r)) refl refl refl good) (within (a0 r % 4096 == 0) (a1 r == 0) (nat_lt (2 ^ 38) (a0 r + a1 r)) refl refl refl good) (ltb-false 1024 (length (cut p.maps (a0 r) (pages_for (a1 r)))) few)))
    where
      at_page : (a b c : Bool) → (a0 r % 4096 == 0) ≡ a → (a1 r == 0) ≡ b → nat_lt (2 ^ 38) (a0 r + a1 r) ≡ c → (not a || b || c) ≡ false → a0 r % 4096 ≡ 0
      at_page true b c ea eb ec e = eqb-true (a0 r % 4096) 0 ea
      at_page false b c ea eb ec e = absurd (cc)

      within : (a b c : Bool) → (a0 r % 4096 == 0) ≡ a → (a1 r == 0) ≡ b → nat_lt (2 ^ 38) (a0 r + a1 r) ≡ c → (not a || b || c) ≡ false → a0 r + 4096 * pages_for (a1 r) ≤ 2 ^ 38
      within true false false ea eb ec e = let le = ltb-false (2 ^ 38) (a0 r + a1 r) ec in let page = eqb-true (a0 r % 4096) 0 ea in omega (arith, le, page)
      within true true c ea eb ec e = absurd (cc)
      within true false true ea eb ec e = absurd (cc)
      within false b c ea eb ec e = absurd (cc)
