-- openat keeps a group valid.
use Rattle.std.proofs.Common.{◌≡◌, ◌⊎◌, inl, inr, ℕ, zero, suc, ◌+◌, ◌-◌, ◌^◌, ◌<◌, ◌≤◌, Bool, true, false, ◌&&◌, ◌==◌, not, List, [], ◌∷◌, ◌++◌, length, Option, Some, None, refl, ap, sym, ◌∙◌, subst, arith}
use Rattle.std.specs.Prelude.{All, Any, find, if◌then◌else◌, is_none, is_some, nat_le, slice_index}
use Rattle.std.specs.List.{list_all}
use Rattle.std.proofs.lemmas.Bool.{and_parts, eqb-false, leb-false, leb-true, not-false}
use Rattle.std.proofs.lemmas.List.Elements.{All-cons, All-nil, All-weaker}
use Rattle.std.proofs.lemmas.List.Quantifiers.{Any-push}
use Rattle.descriptors.specs.Descriptors.{Installed, installed}
use Rattle.descriptors.specs.declared.opens.Open.{Open}
use Rattle.descriptors.specs.declared.opens.OpenKind.TheVariants as kinds
use Rattle.group_defs.specs.Cells.{sight}
use Rattle.group_defs.specs.Changes.{with_fds, with_open, zeros}
use Rattle.group_defs.specs.Descriptions.{IsFileFlags, IsOpen}
use Rattle.group_defs.specs.FileCalls.{Name, access_of, emptied, empties, faults, is_good_for_open, is_in_text, kept_flags, name_at, named, open_file, open_named, open_new, open_with, openat, opens_at, then_name, too_long, with_new_file}
use Rattle.group_defs.specs.Group.{Group, is_runner}
use Rattle.group_defs.specs.Objects.{HasFileObject}
use Rattle.group_defs.specs.Valid.{AllHeld, GroupIsValid, IsObject}
use Rattle.group_defs.specs.declared.frame.ObjectRec.{ObjectRec}
use Rattle.group_defs.specs.declared.frame.Proc.{Proc}
use Rattle.group_files.specs.Files.{file_named}
use Rattle.group_files.specs.Names.{IsName}
use Rattle.group_files.specs.declared.named_files.FileRec.{FileRec}
use Rattle.rv64_isa.specs.Memory.{Cells, byte_with}
use Rattle.group_defs.specs.Calls.{has_only}
use Rattle.rv64_isa.specs.Numbers.{has_bit, low_word, wrapped}
use Rattle.rv64_isa.specs.Registers.{a0, a1, a2}
use Rattle.rv64_isa.specs.declared.regs.Regs.{Regs}
use Rattle.group_laws.proofs.CallerLaws.{fds_held, fds_sound}
use Rattle.group_laws.proofs.ContentLaws.{content_valid}
use Rattle.group_laws.proofs.DescriptorCallLaws.{if_keeps, nothing_stored, open_fds, own_fds}
use Rattle.group_laws.proofs.EndsLaws.{caller_holds}
use Rattle.group_laws.proofs.FdLaws.{EachAt, first_small, installed_all, installed_are}
use Rattle.group_laws.proofs.Lists.{any_all, any_append_left, any_weaker, found_is, on_first_any}
use Rattle.group_laws.proofs.NewFileLaws.{new_file_there, new_file_valid, zeros_are_bytes, zeros_are_zero, zeros_length}
use Rattle.group_laws.proofs.OpenLaws.{open_held, open_sound}
use Rattle.group_laws.proofs.ReplyLaws.{ReplyKeeps, changed_runs, maps_no_file}
use Rattle.group_laws.proofs.SettledLaws.{rise_unique}
use Rattle.group_laws.proofs.WriteFileLaws.{zip_found}

-- A description of a file that is there, in a group where the caller is found.
module _ (g : Group) (p : Proc) (found : find (is_runner p.pid) g.frame.procs ≡ Some p) (v : GroupIsValid g) (low : g.frame.next.descr ≤ 2 ^ 63) where
  abbrev d : ℕ
  d = g.frame.next.descr

  pub opened_keeps : (flags object : ℕ) (i : Installed) → installed p.fds (d ∷ []) ≡ Some i → length g.frame.opens < 1024 → Any (λ f. f.object ≡ object) g.frame.files → IsFileFlags (kept_flags flags) → ReplyKeeps p (opens_at g p flags object i)
  unfolding IsOpen
  opened_keeps flags object i e room there fit =
      let o : Open = record { number = d; kind = kinds.File object; offset = 0; flags = kept_flags flags } in
      let a = installed_are (d ∷ []) p.fds i e (own_fds g p found v) in
      let opens : List Open = g.frame.opens ++ o ∷ [] in
      let first : IsOpen opens d = Any-push (λ x. x.number ≡ d) g.frame.opens o refl in
      let old : EachAt (IsOpen opens) p.fds = All-weaker (λ x. IsOpen g.frame.opens x.1) (λ x. IsOpen opens x.1) (λ x is. any_append_left (λ y. y.number ≡ x.1) g.frame.opens (o ∷ []) is) p.fds (open_fds g p found v) in
      let each = installed_all (IsOpen opens) (d ∷ []) p.fds i e old (All-cons (IsOpen opens) d [] first (All-nil (IsOpen opens))) in
      let one : AllHeld (record (with_fds g p i.fds).frame { opens = opens }) = open_held (with_fds g p i.fds) o (caller_holds g p i.fds d found (a.new 0 d (omega arith))) (fds_held g p i.fds found a.old v.held) in
      record {
        value_fits = first_small i.numbers a.small;
        valid = record {
          sound = fds_sound (with_open g (kinds.File object) (kept_flags flags)) p i.fds found a.are each (open_sound g (kinds.File object) (kept_flags flags) room (omega (arith, low)) tt (omega arith, fit) there v.sound);
          held = record { opens = one.opens; objects = one.objects; pipes = one.pipes; pairs = one.pairs };
        };
        caller = record p { fds = i.fds };
        runs = changed_runs (with_open g (kinds.File object) (kept_flags flags)) p (λ q. record q { fds = i.fds }) (λ q e. e) found;
        bytes = nothing_stored;
        no_file = maps_no_file g p found v;
      }

-- access and append
flags_fit : (flags : ℕ) → (access_of flags ≡ 3 → ⊥) → IsFileFlags (kept_flags flags)
unfolding IsFileFlags
flags_fit flags other = by_append (has_bit flags 1024)
  where
    by_append : (b : Bool) → (access_of flags + (if b then 1024 else 0) ≤ 2) ⊎ ((1024 ≤ access_of flags + (if b then 1024 else 0)) × (access_of flags + (if b then 1024 else 0) ≤ 1026))
    by_append true = inr (omega arith, omega arith)
    by_append false = inl (omega arith)

-- A file that is emptied.
module _ (g : Group) (v : GroupIsValid g) (f : FileRec) (there : Any (λ x. x ≡ f) g.frame.files) where
  record_there : Any (λ r. (r.number ≡ f.object) × (r.pages ≡ 256)) g.frame.objects
  unfolding HasFileObject
  record_there = of_any (any_all (λ x. x ≡ f) (λ x. Any (λ r. (r.number ≡ x.object) × (r.pages ≡ 256)) g.frame.objects) g.frame.files there v.sound.frame.files.there)
    where
      of_any : Any (λ x. (x ≡ f) × Any (λ r. (r.number ≡ x.object) × (r.pages ≡ 256)) g.frame.objects) g.frame.files → Any (λ r. (r.number ≡ f.object) × (r.pages ≡ 256)) g.frame.objects
      of_any (k, x, lt, e, both) = subst (λ (y : FileRec). Any (λ r. (r.number ≡ y.object) × (r.pages ≡ 256)) g.frame.objects) both.0 both.1

  same_size : (m : ℕ × List ℕ) → find (λ x. x.0 == f.object) g.memory ≡ Some m → length (zeros 1048576) ≡ length m.1
  same_size m e = same_pages record_there (zip_found g.frame.objects g.memory f.object m v.sound.memory.bytes e)
    where
      same_pages : Any (λ r. (r.number ≡ f.object) × (r.pages ≡ 256)) g.frame.objects → Any (λ r. IsObject r m × (m.0 ≡ f.object)) g.frame.objects → length (zeros 1048576) ≡ length m.1
      same_pages (i, a, lt, a_is, a_has) (j, b, lt', b_is, b_has) =
          let same : a ≡ b = rise_unique (λ x. x.number) g.frame.objects a b v.sound.frame.objects.rise (i, a, lt, a_is, refl) (j, b, lt', b_is, refl) (a_has.0 ∙ sym b_has.1 ∙ b_has.0.0) in
          let size = b_has.0.1 in let pages = ap (λ (x : ObjectRec). x.pages) same in let all = a_has.1 in let long = zeros_length 1048576 in
          omega (arith, size, pages, all, long)

  pub emptied_valid : GroupIsValid (emptied g f.object)
  emptied_valid = content_valid g f.object 0 (zeros 1048576) v (omega arith) (zeros_are_bytes 1048576) same_size (zeros_are_zero 1048576)

-- A name that is found has at most 64 bytes.
name_short : (cells : Cells) (n address : ℕ) (name : List ℕ) → name_at cells address n ≡ named name → length name < n
unfolding name_at
name_short cells zero address name e = absurd (cc)
name_short cells (suc n) address name e = by_byte (byte_with 1 cells (wrapped address)) e (name_short cells n (address + 1))
  where
    by_rest : (b : ℕ) (r : Name) → then_name b r ≡ named name → ((more : List ℕ) → r ≡ named more → length more < n) → length name < suc n
    by_rest b faults e more = absurd (cc)
    by_rest b too_long e more = absurd (cc)
    by_rest b (named bytes) e more = let is : b ∷ bytes ≡ name = cc in let lt = more bytes refl in let size = ap length is in omega (arith, lt, size)

    by_zero : (b : ℕ) (t : Bool) → (if t then named [] else then_name b (name_at cells (address + 1) n)) ≡ named name → ((more : List ℕ) → name_at cells (address + 1) n ≡ named more → length more < n) → length name < suc n
    by_zero b true e more = let is : [] ≡ name = cc in let size = ap length is in omega (arith, size)
    by_zero b false e more = by_rest b (name_at cells (address + 1) n) e more

    by_byte : (o : Option ℕ) → elim o [ None ↦ faults | Some b ↦ if b == 0 then named [] else then_name b (name_at cells (address + 1) n) ] ≡ named name → ((more : List ℕ) → name_at cells (address + 1) n ≡ named more → length more < n) → length name < suc n
    by_byte None e more = absurd (cc)
    by_byte (Some b) e more = by_zero b (b == 0) e more

in_text : (name : List ℕ) → list_all is_in_text name ≡ true → All (λ b. (33 ≤ b) × (b ≤ 126)) name
in_text [] e = All-nil (λ b. (33 ≤ b) × (b ≤ 126))
in_text (b ∷ bs) e =
    let both = and_parts (is_in_text b) (list_all is_in_text bs) e in
    let one = and_parts (nat_le 33 b) (nat_le b 126) both.0 in
    All-cons (λ b. (33 ≤ b) × (b ≤ 126)) b bs (leb-true 33 b one.0, leb-true b 126 one.1) (in_text bs both.1)

name_fits : (name : List ℕ) → (length name ≡ 0 → ⊥) → length name < 65 → list_all is_in_text name ≡ true → IsName name
unfolding IsName
name_fits name some short text = (omega (arith, some), omega (arith, short), in_text name text)

module _ (g : Group) (p : Proc) (found : find (is_runner p.pid) g.frame.procs ≡ Some p) (v : GroupIsValid g) (low : g.frame.next.descr ≤ 2 ^ 63) (low_object : g.frame.next.object ≤ 2 ^ 63) where
  open_old_keeps : (flags : ℕ) (f : FileRec) (i : Installed) → installed p.fds (g.frame.next.descr ∷ []) ≡ Some i → length g.frame.opens < 1024 → IsFileFlags (kept_flags flags) → Any (λ x. x ≡ f) g.frame.files
      → (b : Bool) → ReplyKeeps p (opens_at (if b then emptied g f.object else g) p flags f.object i)
  open_old_keeps flags f i e room fit there true =
      let at : Any (λ x. x.object ≡ f.object) g.frame.files = any_weaker (λ x. x ≡ f) (λ x. x.object ≡ f.object) g.frame.files (λ x is. ap (λ (y : FileRec). y.object) is) there in
      opened_keeps (emptied g f.object) p found (emptied_valid g v f there) low flags f.object i e room (on_first_any (λ x. x.object == f.object) (λ x. record x { length = 0 }) (λ x. x.object ≡ f.object) g.frame.files (λ x e is. is) at) fit
  open_old_keeps flags f i e room fit there false = opened_keeps g p found v low flags f.object i e room (any_weaker (λ x. x ≡ f) (λ x. x.object ≡ f.object) g.frame.files (λ x is. ap (λ (y : FileRec). y.object) is) there) fit

  open_new_keeps : (name : List ℕ) (flags : ℕ) (i : Installed) → IsName name → file_named g.frame.files name ≡ None → installed p.fds (g.frame.next.descr ∷ []) ≡ Some i → length g.frame.opens < 1024 → IsFileFlags (kept_flags flags) → ReplyKeeps p (open_new g p name flags i)
  open_new_keeps name flags i good none e room fit =
      if_keeps p (nat_le 64 (length g.frame.files)) _ _ (λ full. (omega arith, omega arith)) (λ space.
      opened_keeps (with_new_file g name) p found (new_file_valid g p found v low_object name good none (leb-false 64 (length g.frame.files) space)) low flags g.frame.next.object i e room (new_file_there g p found v low_object name good none (leb-false 64 (length g.frame.files) space)) fit)

  open_with_keeps : (name : List ℕ) (flags : ℕ) → IsName name → IsFileFlags (kept_flags flags) → (file : Option FileRec) → file_named g.frame.files name ≡ file → (i : Option Installed) → installed p.fds (g.frame.next.descr ∷ []) ≡ i → ReplyKeeps p (open_with g p name flags file i)
  open_with_keeps name flags good fit file is None e = (omega arith, omega arith)
  open_with_keeps name flags good fit None is (Some i) e = if_keeps p (nat_le 1024 (length g.frame.opens)) _ _ (λ full. (omega arith, omega arith)) (λ room. open_new_keeps name flags i good is e (leb-false 1024 (length g.frame.opens) room) fit)
  open_with_keeps name flags good fit (Some f) is (Some i) e =
      if_keeps p (nat_le 1024 (length g.frame.opens)) _ _ (λ full. (omega arith, omega arith)) (λ room.
      open_old_keeps flags f i e (leb-false 1024 (length g.frame.opens) room) fit (any_weaker (λ x. (x ≡ f) × _) (λ x. x ≡ f) g.frame.files (λ x both. both.0) (found_is _ g.frame.files f is)) (empties flags))

  open_file_keeps : (name : List ℕ) (flags : ℕ) → IsName name → IsFileFlags (kept_flags flags) → (file : Option FileRec) → file_named g.frame.files name ≡ file → ReplyKeeps p (open_file g p name flags file)
  open_file_keeps name flags good fit file is =
      if_keeps p (is_some file && has_bit flags 64 && has_bit flags 128) _ _ (λ e. (omega arith, omega arith)) (λ e.
      if_keeps p (is_none file && not (has_bit flags 64)) _ _ (λ e. (omega arith, omega arith)) (λ e. open_with_keeps name flags good fit file is (installed p.fds (g.frame.next.descr ∷ [])) refl))

  named_keeps : (directory flags : ℕ) (cells : Cells) (address : ℕ) → IsFileFlags (kept_flags flags) → (name : Name) → name_at cells address 65 ≡ name → ReplyKeeps p (open_named g p directory flags name)
  named_keeps directory flags cells address fit faults is = (omega arith, omega arith)
  named_keeps directory flags cells address fit too_long is = (omega arith, omega arith)
  named_keeps directory flags cells address fit (named name) is =
      if_keeps p (length name == 0) _ _ (λ e. (omega arith, omega arith)) (λ some.
      if_keeps p (not (list_all is_in_text name)) _ _ (λ e. (omega arith, omega arith)) (λ text.
      if_keeps p (not (slice_index name 0 == 47) && not (directory == 2 ^ 32 - 100)) _ _ (λ e. (omega arith, omega arith)) (λ e.
      open_file_keeps name flags (name_fits name (eqb-false (length name) 0 some) (name_short cells 65 address name is) (not-false (list_all is_in_text name) text)) fit (file_named g.frame.files name) refl)))

  pub openat_keeps : (r : Regs) → ReplyKeeps p (openat g p (sight g p) r)
  openat_keeps r =
      let flags : ℕ = low_word (a2 r) in
      if_keeps p (not (is_good_for_open flags)) _ _ (λ e. (omega arith, omega arith)) (λ good.
      named_keeps (low_word (a0 r)) flags (sight g p) (a1 r) (flags_fit flags (access flags (not-false (is_good_for_open flags) good))) (name_at (sight g p) (a1 r) 65) refl)
    where
      access : (flags : ℕ) → is_good_for_open flags ≡ true → access_of flags ≡ 3 → ⊥
      access flags e = let both = and_parts (not (access_of flags == 3)) (has_only flags (3 + 64 + 128 + 512 + 1024 + 32768 + 524288)) e in eqb-false (access_of flags) 3 (was (access_of flags == 3) both.0)
        where
          was : (b : Bool) → not b ≡ true → b ≡ false
          was true e = absurd (cc)
          was false e = refl
