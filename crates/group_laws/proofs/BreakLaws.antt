-- brk keeps a group valid.
use Rattle.std.proofs.Common.{◌≡◌, ℕ, ◌+◌, ◌-◌, ◌*◌, ◌^◌, ◌<◌, ◌≤◌, Bool, true, false, ◌&&◌, ◌||◌, not, List, [], length, Some, refl, ap, sym, ◌∙◌, subst, arith}
use Rattle.std.specs.Prelude.{find, nat_le, nat_lt}
use Rattle.std.specs.List.{list_any}
use Rattle.std.proofs.lemmas.Bool.{and_parts, leb-true, ltb-false, ltb-true}
use Rattle.address_maps.specs.Cut.{cut, touches}
use Rattle.address_maps.specs.declared.maps.Mapping.{Mapping}
use Rattle.group_defs.specs.Calls.{answers}
use Rattle.group_defs.specs.Changes.{with_break, with_maps}
use Rattle.group_defs.specs.Descriptions.{DescriptorsValid}
use Rattle.group_defs.specs.Group.{Group, is_runner}
use Rattle.group_defs.specs.Held.{is_at}
use Rattle.group_defs.specs.MapCalls.{brk, can_grow, grown, has_room_for, is_user_range, mapped, new_mapping, page_end, pages_for, shrunk}
use Rattle.group_defs.specs.Numbers.{RegsFit}
use Rattle.group_defs.specs.Objects.{maps_object}
use Rattle.group_defs.specs.Order.{OwnListsRise}
use Rattle.group_defs.specs.Processes.{BreakValid}
use Rattle.group_defs.specs.Sizes.{ProcFits}
use Rattle.group_defs.specs.Valid.{AllHeld, GroupIsSound, GroupIsValid}
use Rattle.group_defs.specs.declared.frame.Proc.{Proc}
use Rattle.rv64_isa.specs.Registers.{a0}
use Rattle.rv64_isa.specs.declared.regs.Regs.{Regs}
use Rattle.tables.specs.Lists.{on_first}
use Rattle.group_laws.proofs.CallerLaws.{CallerFits, KeepsName, caller_fits, caller_maps, caller_names, caller_procs, held_grows}
use Rattle.group_laws.proofs.DescriptorCallLaws.{if_keeps, nothing_stored}
use Rattle.group_laws.proofs.Lists.{on_first_list_any}
use Rattle.group_laws.proofs.MmapLaws.{mapped_keeps, mapping_is, own_pieces, room_is, untouched}
use Rattle.group_laws.proofs.PartLaws.{procs_sound}
use Rattle.group_laws.proofs.ReplyLaws.{Keeps, ReplyKeeps, changed_runs, maps_no_file, same_keeps, settled_files, settled_procs}
use Rattle.group_laws.proofs.SettledLaws.{settled_valid}
use Rattle.group_laws.proofs.StoreLaws.{NoFile}
use Rattle.group_laws.proofs.UnmapLaws.{cut_sound, own_mappings}

-- the caller has another break
module _ (h : Group) (q : Proc) (found : find (is_runner q.pid) h.frame.procs ≡ Some q) (addr : ℕ) (low : q.brk_base ≤ addr) (high : addr ≤ 2 ^ 37) where
  abbrev f : Proc → Proc
  f x = record x { brk = addr }

  pub break_sound : GroupIsSound h → GroupIsSound (with_break h q addr)
  unfolding RegsFit ProcFits OwnListsRise BreakValid DescriptorsValid
  break_sound s =
      let names : KeepsName f = record { pid = λ x. refl; parent = λ x. refl; state = λ x. refl } in
      let old : CallerFits q = caller_fits h.frame.next.pid q.pid h.frame.procs q refl found s.frame.procs in
      let new : CallerFits (f q) = record { fits = old.fits; own = old.own; regs = old.regs; placed = old.placed; apart = old.apart; pc = old.pc; break = (old.break.0, low, high) } in
      procs_sound h (on_first (is_runner q.pid) f h.frame.procs) (caller_procs q.pid f names h.frame.procs h.frame.next.pid q refl found new s.frame.procs)
      (caller_maps q.pid f names h.frame.procs (λ x. refl) h.frame.objects h.frame.files s.frame.maps) (caller_names q.pid f names h.frame.procs h.frame.pairs h.frame.opens (λ x e old. old) s.frame.names) s

  pub break_held : AllHeld h.frame → AllHeld (with_break h q addr).frame
  unfolding maps_object
  break_held held = held_grows h (on_first (is_runner q.pid) f h.frame.procs)
      (λ n e. on_first_list_any (is_runner q.pid) f (is_at n) (λ x. refl) h.frame.procs ∙ e)
      (λ n e. on_first_list_any (is_runner q.pid) f (maps_object n) (λ x. refl) h.frame.procs ∙ e) held

module _ (g : Group) (p : Proc) (found : find (is_runner p.pid) g.frame.procs ≡ Some p) (v : GroupIsValid g) (low : g.frame.next.object ≤ 2 ^ 63) where
  abbrev own : CallerFits p
  own = caller_fits g.frame.next.pid p.pid g.frame.procs p refl found v.sound.frame.procs

  break_is : p.brk ≤ 2 ^ 37
  unfolding BreakValid
  break_is = own.break.2

  stays : ReplyKeeps p (answers p.brk g [])
  stays = let le = break_is in same_keeps g p p.brk [] found v (omega (arith, le)) nothing_stored

  grown_keeps : (addr pages : ℕ) → 1 ≤ pages → p.brk_base ≤ addr → addr ≤ 2 ^ 37 → ReplyKeeps p (grown g p addr pages)
  grown_keeps addr pages some base most =
      if_keeps p (can_grow g p (page_end p.brk) pages) _ _ (λ can.
      let start : ℕ = page_end p.brk in
      let parts = four (list_any (touches start (start + 4096 * pages)) p.maps) (is_user_range start (start + 4096 * pages)) (has_room_for g.frame pages) (nat_lt (length p.maps) 1024) can in
      let range = and_parts (nat_le 4096 start) (nat_le (start + 4096 * pages) (2 ^ 38)) parts.1 in
      let r = room_is g pages parts.2 in
      let good = mapping_is g p found v low start pages 3 false (omega arith) some (leb-true 4096 start range.0) (leb-true (start + 4096 * pages) (2 ^ 38) range.1) r.most in
      let k = mapped_keeps g p found v low p.maps (own_mappings g p found v) (own_pieces g p found v low) start pages 3 false good (omega arith) (untouched p.maps (new_mapping g start pages 3 false) some parts.0) (ltb-true (length p.maps) 1024 parts.3) r (λ n any. any) in
      with_new_break k) (λ cannot. stays)
    where
      four : (a b c d : Bool) → (not a && b && c && d) ≡ true → (a ≡ false) × (b ≡ true) × (c ≡ true) × (d ≡ true)
      four false true true true e = (refl, refl, refl, refl)
      four false true true false e = absurd (cc)
      four false true false d e = absurd (cc)
      four false false c d e = absurd (cc)
      four true b c d e = absurd (cc)

      with_new_break : Keeps p (page_end p.brk) (mapped g p p.maps (new_mapping g (page_end p.brk) pages 3 false)) [] → Keeps p addr (with_break (mapped g p p.maps (new_mapping g (page_end p.brk) pages 3 false)) p addr) []
      with_new_break k =
          let h : Group = mapped g p p.maps (new_mapping g (page_end p.brk) pages 3 false) in
          let runs = changed_runs g p (λ x. record x { maps = _ }) (λ x e. e) found in
          record {
            value_fits = omega (arith, most);
            valid = record { sound = break_sound h (record p { maps = _ }) runs addr base most k.valid.sound; held = break_held h (record p { maps = _ }) runs addr base most k.valid.held };
            caller = record p { maps = _; brk = addr };
            runs = changed_runs h (record p { maps = _ }) (λ x. record x { brk = addr }) (λ x e. e) runs;
            bytes = nothing_stored;
            no_file = k.no_file;
          }

  shrunk_keeps : (addr : ℕ) → pages_for addr < pages_for p.brk → p.brk_base ≤ addr → addr ≤ 2 ^ 37 → ReplyKeeps p (shrunk g p addr (pages_for p.brk - pages_for addr))
  shrunk_keeps addr less base most =
      if_keeps p (nat_lt 1024 (length (cut p.maps (page_end addr) (pages_for p.brk - pages_for addr)))) _ _ (λ many. stays) (λ few.
      let le = break_is in
      let ms : List Mapping = cut p.maps (page_end addr) (pages_for p.brk - pages_for addr) in
      let one = cut_sound g p found v (page_end addr) (pages_for p.brk - pages_for addr) (omega arith) (omega (arith, less, le)) (ltb-false 1024 (length ms) few) in
      let runs = changed_runs g p (λ x. record x { maps = ms }) (λ x e. e) found in
      let h : Group = with_break (with_maps g p ms) p addr in
      record {
        value_fits = omega (arith, most);
        valid = settled_valid h (break_sound (with_maps g p ms) (record p { maps = ms }) runs addr base most one);
        caller = record p { maps = ms; brk = addr };
        runs = ap (find (is_runner p.pid)) (settled_procs h) ∙ changed_runs (with_maps g p ms) (record p { maps = ms }) (λ x. record x { brk = addr }) (λ x e. e) runs;
        bytes = nothing_stored;
        no_file = subst (λ files. NoFile files p.maps) (sym (settled_files h)) (maps_no_file g p found v);
      })

  same_page : (addr : ℕ) → p.brk_base ≤ addr → addr ≤ 2 ^ 37 → ReplyKeeps p (answers addr (with_break g p addr) [])
  same_page addr base most = record {
    value_fits = omega (arith, most);
    valid = record { sound = break_sound g p found addr base most v.sound; held = break_held g p found addr base most v.held };
    caller = record p { brk = addr };
    runs = changed_runs g p (λ x. record x { brk = addr }) (λ x e. e) found;
    bytes = nothing_stored;
    no_file = maps_no_file g p found v;
  }

  pub brk_keeps : (r : Regs) → ReplyKeeps p (brk g p r)
  brk_keeps r =
      if_keeps p (nat_lt (a0 r) p.brk_base || nat_lt (2 ^ 37) (a0 r)) _ _ (λ e. stays) (λ within.
      let both = nor (nat_lt (a0 r) p.brk_base) (nat_lt (2 ^ 37) (a0 r)) within in
      let base = ltb-false (a0 r) p.brk_base both.0 in
      let most = ltb-false (2 ^ 37) (a0 r) both.1 in
      if_keeps p (nat_lt (pages_for p.brk) (pages_for (a0 r))) _ _ (λ more. let less = ltb-true (pages_for p.brk) (pages_for (a0 r)) more in grown_keeps (a0 r) (pages_for (a0 r) - pages_for p.brk) (omega (arith, less)) base most) (λ e.
      if_keeps p (nat_lt (pages_for (a0 r)) (pages_for p.brk)) _ _ (λ fewer. shrunk_keeps (a0 r) (ltb-true (pages_for (a0 r)) (pages_for p.brk) fewer) base most) (λ e. same_page (a0 r) base most)))
    where
      nor : (a b : Bool) → (a || b) ≡ false → (a ≡ false) × (b ≡ false)
      nor false b e = (refl, e)
      nor true b e = absurd (cc)
