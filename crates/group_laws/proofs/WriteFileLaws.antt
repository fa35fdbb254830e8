-- Writing a file keeps a group valid.
use Rattle.std.proofs.Common.{◌≡◌, ◌⊎◌, inl, inr, ℕ, ◌+◌, ◌-◌, ◌<◌, ◌≤◌, true, false, ◌==◌, min, max, List, [], ◌∷◌, ◌++◌, length, take, drop, get_or, Option, Some, None, refl, ap, sym, ◌∙◌, subst, arith}
use Rattle.std.specs.Prelude.{All, Any, find, if◌then◌else◌, nat_le}
use Rattle.std.specs.List.{AllZip}
use Rattle.std.proofs.lemmas.Bool.{cases_Bool, eqb-false, eqb-true, leb-false}
use Rattle.std.proofs.lemmas.List.{append_assoc, drop_at, drop-drop, length-append, length-drop, length-take}
use Rattle.std.proofs.lemmas.List.Elements.{All-drop}
use Rattle.descriptors.specs.declared.opens.Open.{Open}
use Rattle.descriptors.specs.declared.opens.OpenKind.TheVariants as kinds
use Rattle.group_defs.specs.Cells.{bytes_in, sight}
use Rattle.lists.specs.Bytes.{length-put, put}
use Rattle.group_defs.specs.FileCalls.{access_of, put_file, store_file, with_content, write_file}
use Rattle.group_defs.specs.Group.{Group, is_runner}
use Rattle.lists.specs.Bytes.{AreBytes}
use Rattle.group_defs.specs.Objects.{HasFileObject}
use Rattle.group_defs.specs.Valid.{EndsInZeros, GroupIsValid, IsObject, TargetIsThere}
use Rattle.group_defs.specs.declared.frame.ObjectRec.{ObjectRec}
use Rattle.group_defs.specs.declared.frame.Proc.{Proc}
use Rattle.group_files.specs.Files.{file_with, length_of}
use Rattle.group_files.specs.declared.named_files.FileRec.{FileRec}
use Rattle.rv64_isa.specs.Memory.{readable}
use Rattle.rv64_isa.specs.Numbers.{has_bit}
use Rattle.tables.specs.Rising.{entry_of}
use Rattle.group_laws.proofs.ByteLaws.{append_fit, bytes_in_fit, drop_fit, read_fits, take_fit}
use Rattle.group_laws.proofs.ContentLaws.{content_valid}
use Rattle.group_laws.proofs.DescriptorCallLaws.{if_keeps, nothing_stored}
use Rattle.group_laws.proofs.Lists.{any_all, any_here, any_split, any_there, any_weaker, found_all, on_first_all}
use Rattle.group_laws.proofs.SettledLaws.{rise_unique}
use Rattle.descriptors.specs.EntryLaws.{entry_has}
use Rattle.tables.proofs.Only.{none_from_find}
use Rattle.group_laws.proofs.OffsetLaws.{moved_valid}
use Rattle.group_laws.proofs.ReadLaws.{length_small}
use Rattle.group_laws.proofs.ReplyLaws.{ReplyKeeps, maps_no_file, same_keeps}

-- the record of an object whose bytes are found, and that they are found
pub zip_found : (objects : List ObjectRec) (memory : List (ℕ × List ℕ)) (n : ℕ) (m : ℕ × List ℕ) → AllZip IsObject objects memory → find (λ x. x.0 == n) memory ≡ Some m → Any (λ r. IsObject r m × (m.0 ≡ n)) objects
zip_found [] [] n m zip e = absurd (cc)
zip_found [] (y ∷ ys) n m zip e = absurd zip
zip_found (r ∷ rs) [] n m zip e = absurd zip
zip_found (r ∷ rs) (y ∷ ys) n m zip e = by_test (cases_Bool (y.0 == n)) e (zip_found rs ys n m zip.1)
  where
    by_test : ((y.0 == n) ≡ true) ⊎ ((y.0 == n) ≡ false) → find (λ x. x.0 == n) (y ∷ ys) ≡ Some m → (find (λ x. x.0 == n) ys ≡ Some m → Any (λ r. IsObject r m × (m.0 ≡ n)) rs) → Any (λ r. IsObject r m × (m.0 ≡ n)) (r ∷ rs)
    by_test (inl hit) e more = let here : Some y ≡ Some m = rw hit at e in let same : y ≡ m = cc in any_here (λ x. IsObject x m × (m.0 ≡ n)) r rs (subst (λ z. IsObject r z × (z.0 ≡ n)) same (zip.0, eqb-true y.0 n hit))
    by_test (inr miss) e more = any_there (λ x. IsObject x m × (m.0 ≡ n)) r rs (more (rw miss at e))

pub zip_there : (objects : List ObjectRec) (memory : List (ℕ × List ℕ)) (n : ℕ) → AllZip IsObject objects memory → Any (λ r. r.number ≡ n) objects → find (λ x. x.0 == n) memory ≡ None → ⊥
zip_there [] memory n zip (k, r, lt, is, same) e = omega (arith, lt)
zip_there (r ∷ rs) [] n zip any e = zip
zip_there (r ∷ rs) (y ∷ ys) n zip any e = by_test (cases_Bool (y.0 == n)) (any_split (λ x. x.number ≡ n) r rs any) e (zip_there rs ys n zip.1)
  where
    by_test : ((y.0 == n) ≡ true) ⊎ ((y.0 == n) ≡ false) → (r.number ≡ n) ⊎ Any (λ x. x.number ≡ n) rs → find (λ x. x.0 == n) (y ∷ ys) ≡ None → (Any (λ x. x.number ≡ n) rs → find (λ x. x.0 == n) ys ≡ None → ⊥) → ⊥
    by_test (inl hit) either e more = let here : Some y ≡ None = rw hit at e in absurd (cc)
    by_test (inr miss) (inl same) e more = eqb-false y.0 n miss (zip.0.0 ∙ same)
    by_test (inr miss) (inr rest) e more = more rest (rw miss at e)

-- bytes put into a list leave zeros behind them and behind its end
pub zeros_behind : (old : List ℕ) (len place : ℕ) (bytes : List ℕ) → place + length bytes ≤ length old → All (λ (b : ℕ). b ≡ 0) (drop len old) → All (λ (b : ℕ). b ≡ 0) (drop (max len (place + length bytes)) (put old place bytes))
unfolding put
zeros_behind old len place bytes within old_zeros =
    let end : ℕ = place + length bytes in
    let more : ℕ = max len end - end in
    let front : List ℕ = take place old ++ bytes in
    let rest : List ℕ = drop end old in
    let size : length front ≡ end = (let a = length-append (take place old) bytes in let b = length-take place old in omega (arith, a, b, within)) in
    let whole : put old place bytes ≡ front ++ rest = sym (append_assoc (take place old) bytes rest) in
    let sum : max len end ≡ end + more = omega arith in
    let behind : drop (max len end) (put old place bytes) ≡ drop (max len end) old = ap (λ k. drop k (put old place bytes)) sum ∙ sym (drop-drop more end (put old place bytes)) ∙ ap (drop more) (ap (drop end) whole ∙ drop_at front rest end size) ∙ drop-drop more end old ∙ ap (λ k. drop k old) (sym sum) in
    let back : ℕ = max len end - len in
    let sum' : max len end ≡ len + back = omega arith in
    let tail : drop (max len end) old ≡ drop back (drop len old) = ap (λ k. drop k old) sum' ∙ sym (drop-drop back len old) in
    subst (All (λ (b : ℕ). b ≡ 0)) (sym (behind ∙ tail)) (All-drop (λ (b : ℕ). b ≡ 0) back (drop len old) old_zeros)

module _ (g : Group) (p : Proc) (found : find (is_runner p.pid) g.frame.procs ≡ Some p) (v : GroupIsValid g) (o : Open) (object : ℕ) (at : entry_of (λ x. x.number) g.frame.opens o.number ≡ Some o) (is : o.kind ≡ kinds.File object) where
  -- the object of a file has 1,048,576 bytes, with zeros behind the file's end
  abbrev old : List ℕ
  old = bytes_in g.memory object

  abbrev len : ℕ
  len = length_of g.frame.files object

  target : Any (λ f. f.object ≡ object) g.frame.files
  target = subst (TargetIsThere g.frame.files g.frame.pipes g.frame.pairs) is (found_all (λ x. x.number == o.number) (λ x. TargetIsThere g.frame.files g.frame.pipes g.frame.pairs x.kind) g.frame.opens o at v.sound.frame.opens.targets)

  record_there : Any (λ r. (r.number ≡ object) × (r.pages ≡ 256)) g.frame.objects
  unfolding HasFileObject
  record_there = of_any (any_all (λ f. f.object ≡ object) (λ f. Any (λ r. (r.number ≡ f.object) × (r.pages ≡ 256)) g.frame.objects) g.frame.files target v.sound.frame.files.there)
    where
      of_any : Any (λ f. (f.object ≡ object) × Any (λ r. (r.number ≡ f.object) × (r.pages ≡ 256)) g.frame.objects) g.frame.files → Any (λ r. (r.number ≡ object) × (r.pages ≡ 256)) g.frame.objects
      of_any (k, f, lt, e, both) = any_weaker (λ r. (r.number ≡ f.object) × (r.pages ≡ 256)) (λ r. (r.number ≡ object) × (r.pages ≡ 256)) g.frame.objects (λ r w. (w.0 ∙ both.0, w.1)) both.1

  old_size : length old ≡ 1048576
  old_size = by_entry (find (λ x. x.0 == object) g.memory) refl
    where
      same_pages : (m : ℕ × List ℕ) → Any (λ r. (r.number ≡ object) × (r.pages ≡ 256)) g.frame.objects → Any (λ r. IsObject r m × (m.0 ≡ object)) g.frame.objects → length m.1 ≡ 1048576
      same_pages m (i, a, lt, a_is, a_has) (j, b, lt', b_is, b_has) =
          let same : a ≡ b = rise_unique (λ x. x.number) g.frame.objects a b v.sound.frame.objects.rise (i, a, lt, a_is, refl) (j, b, lt', b_is, refl) (a_has.0 ∙ sym b_has.1 ∙ b_has.0.0) in
          let size = b_has.0.1 in let pages = ap (λ (x : ObjectRec). x.pages) same in let all = a_has.1 in
          omega (arith, size, pages, all)

      by_entry : (x : Option (ℕ × List ℕ)) → find (λ y. y.0 == object) g.memory ≡ x → length {A = ℕ} (elim x as (λ z. List ℕ) [ None ↦ [] | Some y ↦ y.1 ]) ≡ 1048576
      by_entry None e = absurd (zip_there g.frame.objects g.memory object v.sound.memory.bytes (any_weaker (λ r. (r.number ≡ object) × (r.pages ≡ 256)) (λ r. r.number ≡ object) g.frame.objects (λ r w. w.0) record_there) e)
      by_entry (Some m) e = same_pages m record_there (zip_found g.frame.objects g.memory object m v.sound.memory.bytes e)

  old_zeros : All (λ (b : ℕ). b ≡ 0) (drop len old)
  old_zeros = by_both (file_with g.frame.files object) (find (λ x. x.0 == object) g.memory) refl refl
    where
      by_both : (f : Option FileRec) (x : Option (ℕ × List ℕ)) → file_with g.frame.files object ≡ f → find (λ y. y.0 == object) g.memory ≡ x → All (λ (b : ℕ). b ≡ 0) (drop (elim f as (λ z. ℕ) [ None ↦ 0 | Some y ↦ y.length ]) (elim x as (λ z. List ℕ) [ None ↦ [] | Some y ↦ y.1 ]))
      by_both None x e e' = absurd (no_file target e)
        where
          no_file : Any (λ f. f.object ≡ object) g.frame.files → find (λ f. f.object == object) g.frame.files ≡ None → ⊥
          no_file (k, f, lt, at', same) none = let all = none_from_find (λ f. f.object == object) g.frame.files none in let miss = all k f lt in eqb-false (get_or g.frame.files k f).object object miss (ap (λ x. x.object) at' ∙ same)
      by_both (Some f) None e e' = absurd (zip_there g.frame.objects g.memory object v.sound.memory.bytes (any_weaker (λ r. (r.number ≡ object) × (r.pages ≡ 256)) (λ r. r.number ≡ object) g.frame.objects (λ r w. w.0) record_there) e')
      by_both (Some f) (Some m) e e' =
          let ends : EndsInZeros g.memory f = found_all (λ x. x.object == object) (EndsInZeros g.memory) g.frame.files f e v.sound.memory.zeros in
          found_all (λ y. y.0 == object) (λ y. y.0 ≡ f.object → All (λ (b : ℕ). b ≡ 0) (drop f.length y.1)) g.memory m e' ends (passes (λ y. y.0) g.memory m e' ∙ sym (passes (λ y. y.object) g.frame.files f e))
        where
          passes : {X : Type 0} (key : X → ℕ) (xs : List X) (x : X) → find (λ y. key y == object) xs ≡ Some x → key x ≡ object
          passes key xs x e = entry_has key xs object x e

  put_keeps : (place : ℕ) (bytes : List ℕ) → place + length bytes ≤ 1048576 → AreBytes bytes → ReplyKeeps p (put_file g o object place (Some bytes))
  unfolding put
  put_keeps place bytes within fit =
      let size = old_size in
      let small = length_small g object v in
      let new = content_valid g object (max len (place + length bytes)) (put old place bytes) v (omega (arith, small, within))
      (append_fit (take place old) (bytes ++ drop (place + length bytes) old) (take_fit place old (bytes_in_fit g object v)) (append_fit bytes (drop (place + length bytes) old) fit (drop_fit (place + length bytes) old (bytes_in_fit g object v))))
      (λ m e. length-put old place bytes (omega (arith, size, within)) ∙ ap (λ (x : Option (ℕ × List ℕ)). length {A = ℕ} (elim x as (λ z. List ℕ) [ None ↦ [] | Some y ↦ y.1 ])) e)
      (zeros_behind old len place bytes (omega (arith, size, within)) old_zeros) in
      record {
        value_fits = omega (arith, within);
        valid = moved_valid (with_content g object place bytes) o object (place + length bytes) at is (omega (arith, within)) new;
        caller = p;
        runs = found;
        bytes = nothing_stored;
        no_file = λ k d lt. on_first_all (λ x. x.object == object) (λ x. record x { length = max len (place + length bytes) }) (λ file. ((get_or p.maps k d).object ≡ file.object) → ⊥) g.frame.files (λ x e old. old) (maps_no_file g p found v k d lt);
      }

  pub write_file_keeps : (buf n : ℕ) → ReplyKeeps p (write_file g (sight g p) o object buf n)
  write_file_keeps buf n =
      if_keeps p (access_of o.flags == 0) _ _ (λ e. (omega arith, omega arith)) (λ e.
      if_keeps p (n == 0) _ _ (λ e. same_keeps g p 0 [] found v (omega arith) nothing_stored) (λ e. store (if has_bit o.flags 1024 then len else o.offset)))
    where
      store : (place : ℕ) → ReplyKeeps p (store_file g (sight g p) o object buf n place)
      store place = if_keeps p (nat_le 1048576 place) _ _ (λ e. (omega arith, omega arith)) (λ room. by_bytes (leb-false 1048576 place room) (readable (sight g p) buf (min n (1048576 - place))) refl)
        where
          by_bytes : place < 1048576 → (r : Option (List ℕ)) → readable (sight g p) buf (min n (1048576 - place)) ≡ r → ReplyKeeps p (put_file g o object place r)
          by_bytes room None e = (omega arith, omega arith)
          by_bytes room (Some bytes) e = let read = read_fits g p.maps 1 buf (min n (1048576 - place)) bytes v e in let count = read.count in put_keeps place bytes (omega (arith, count, room)) read.fit
