-- A face that is put in the place of the first one of its number.
use Rattle.std.proofs.Common.{◌≡◌, ◌∙◌, ℕ, zero, suc, ◌<◌, ◌==◌, ◌+◌, ◌*◌, ◌≤◌, Bool, true, false, List, [], ◌∷◌, map, length, get_or, set, take, Option, Some, None, IsSome, OnOk, Result, is_some, refl, subst, sym, ap, arith}
use Rattle.std.proofs.Math.Seq.{map-set_same}
use Rattle.std.proofs.lemmas.Bool.{eq-eqb}
use Rattle.std.proofs.lemmas.Simd.{map-map}
use Rattle.std.proofs.lemmas.Result.{on_ok_weaker}
use Rattle.std.specs.Option.{option_map}
use Rattle.std.specs.Prelude.{All, IfSome, IsSomeAnd, if◌then◌else◌}
use Rattle.address_maps.specs.declared.maps.Mapping.{Mapping}
use Rattle.group_defs.specs.Cells.{bytes_in}
use Rattle.group_kernel.specs.FirstFaces.{FreezesFirst, FreezesIn, IsFreezeOf, IsOwner, OthersStay, PreparesFirst, PreparesIn, ProcessBy, TablesBy, bytes_of, else_face, face_in_process, first_face, private_face, process_by, row_by, tables_by}
use Rattle.group_kernel.specs.Held.{TablesView}
use Rattle.group_kernel.specs.declared.objects.Owner.{Owner}
use Rattle.group_kernel.specs.declared.objects.Owner.TheVariants as owners
use Rattle.group_kernel.specs.declared.row.Row.{Row}
use Rattle.proc_lease.specs.Private.{ObjectView, PrivateFits, memory_of, view_of, views_of}
use Rattle.proc_lease.specs.declared.process.Process.{Process}
use Rattle.shadow_chains.specs.Entries.{entry_with, face_of, number_of}
use Rattle.shadow_chains.specs.Faces.{FaceView}
use Rattle.shadow_chains.specs.declared.entry.Entry.{Entry}
use Rattle.shadow_chains.specs.declared.face.Frozen.{Frozen}
use Rattle.tables.specs.Lists.{on_first}
use Rattle.tables.specs.Rising.{replaced}
use Rattle.tables.specs.Rows.{Rows}

pub some_of : {X : Type 0} (o : Option X) → IsSome o → (x : X) × (o ≡ Some x)
some_of None is = absurd cc
some_of (Some x) is = (x, refl)

-- ---- one table

found_first : (e : Entry) (es : List Entry) (number : ℕ) (f : FaceView) → (e.number == number) ≡ true → face_of (e ∷ es) number ≡ Some f → e.face ≡ f
found_first e es number f is found =
    let here : Some e.face ≡ Some f = rw is at found in
    cc

found_later : (e : Entry) (es : List Entry) (number : ℕ) (f : FaceView) → (e.number == number) ≡ false → face_of (e ∷ es) number ≡ Some f → face_of es number ≡ Some f
found_later e es number f is found = rw is at found

-- what can't be told of the two faces can't be told of the two tables
pub told_same : {V : Type 0} (v : Entry → V) (entries : List Entry) (number : ℕ) (f w : FaceView) → face_of entries number ≡ Some f → v (entry_with number w) ≡ v (entry_with number f) → map v (replaced number_of entries (entry_with number w)) ≡ map v entries
unfolding on_first
told_same v [] number f w found is = refl
told_same {V} v (e ∷ es) number f w found is = by_test (told_same v es number f w) (e.number == number) refl
  where
    by_test : (face_of es number ≡ Some f → v (entry_with number w) ≡ v (entry_with number f) → map v (replaced number_of es (entry_with number w)) ≡ map v es) → (t : Bool) → (e.number == number) ≡ t
        → map v (if t then entry_with number w ∷ es else e ∷ replaced number_of es (entry_with number w)) ≡ v e ∷ map v es
    by_test rest true here =
        let same : number ≡ e.number = grind (arith, here) in
        let face : f ≡ e.face = sym (found_first e es number f here found) in
        let told : v (entry_with number f) ≡ v e = ap (λ (n : ℕ). v (entry_with n f)) same ∙ ap (λ (x : FaceView). v (entry_with e.number x)) face in
        ap (λ (o : V). o ∷ map v es) (is ∙ told)
    by_test rest false here = ap (λ (l : List V). v e ∷ l) (rest (found_later e es number f here found) is)

-- the face of its number, and those of others
pub face_after : (entries : List Entry) (number k : ℕ) (f w : FaceView) (t : Bool) → face_of entries number ≡ Some f → (number == k) ≡ t → face_of (replaced number_of entries (entry_with number w)) k ≡ (if t then Some w else face_of entries k)
unfolding on_first
face_after [] number k f w t found is = absurd (cc)
face_after (e ∷ es) number k f w t found is = by_test (face_after es number k f w t) (e.number == number) (e.number == k) t refl refl is
  where
    by_test : (face_of es number ≡ Some f → (number == k) ≡ t → face_of (replaced number_of es (entry_with number w)) k ≡ (if t then Some w else face_of es k)) → (here there t' : Bool) → (e.number == number) ≡ here → (e.number == k) ≡ there → (number == k) ≡ t'
        → face_of (if here then entry_with number w ∷ es else e ∷ replaced number_of es (entry_with number w)) k ≡ (if t' then Some w else face_of (e ∷ es) k)
    by_test rest true there true a b c = rw c refl
    by_test rest true true false a b c = absurd (grind (arith, a, b, c))
    by_test rest true false false a b c = rw c (rw b refl)
    by_test rest false true true a b c = absurd (grind (arith, a, b, c))
    by_test rest false false true a b c =
        let e' : t ≡ true = sym is ∙ c in
        rw b (rest (found_later e es number f a found) is ∙ ap (λ u. if u then Some w else face_of es k) e')
    by_test rest false true false a b c = rw b refl
    by_test rest false false false a b c =
        let e' : t ≡ false = sym is ∙ c in
        rw b (rest (found_later e es number f a found) is ∙ ap (λ u. if u then Some w else face_of es k) e')

-- ---- rows

-- no row up to a place has one
pub none_further : (rows : List Row) (k number : ℕ) (d : Row) → k < length rows → private_face (take k rows) number ≡ None → face_in_process (get_or rows k d).process number ≡ None → private_face (take (k + 1) rows) number ≡ None
none_further [] k number d lt before here = absurd (omega (arith, lt))
none_further (r ∷ rs) zero number d lt before here = rw here refl
none_further (r ∷ rs) (suc k) number d lt before here =
    let e : suc k + 1 ≡ suc (k + 1) = omega arith in
    rw e (by_face (λ b. none_further rs k number d (omega (arith, lt)) b here) (face_in_process r.process number) refl)
  where
    by_face : (private_face (take k rs) number ≡ None → private_face (take (k + 1) rs) number ≡ None) → (o : Option FaceView) → face_in_process r.process number ≡ o → else_face o (private_face (take (k + 1) rs) number) ≡ None
    by_face rest None e = rest (rw e at before)
    by_face rest (Some f) e = absurd (let never = rw e at before in cc)

pub none_past : (rows : List Row) (k number : ℕ) → length rows ≡ k → private_face (take k rows) number ≡ None → private_face rows number ≡ None
none_past [] k number e none = refl
none_past (r ∷ rs) zero number e none = absurd (omega (arith, e))
none_past (r ∷ rs) (suc k) number e none = by_face (none_past rs k number (omega (arith, e))) (face_in_process r.process number) refl
  where
    by_face : (private_face (take k rs) number ≡ None → private_face rs number ≡ None) → (o : Option FaceView) → face_in_process r.process number ≡ o → else_face o (private_face rs number) ≡ None
    by_face rest None is = rest (rw is at none)
    by_face rest (Some f) is = absurd (let never = rw is at none in cc)

-- the first one that has it
pub first_at : (rows : List Row) (k number : ℕ) (d : Row) (f : FaceView) → k < length rows → private_face (take k rows) number ≡ None → face_in_process (get_or rows k d).process number ≡ Some f → private_face rows number ≡ Some f
first_at [] k number d f lt before here = absurd (omega (arith, lt))
first_at (r ∷ rs) zero number d f lt before here = rw here refl
first_at (r ∷ rs) (suc k) number d f lt before here = by_face (λ b. first_at rs k number d f (omega (arith, lt)) b here) (face_in_process r.process number) refl
  where
    by_face : (private_face (take k rs) number ≡ None → private_face rs number ≡ Some f) → (o : Option FaceView) → face_in_process r.process number ≡ o → else_face o (private_face rs number) ≡ Some f
    by_face rest None e = rest (rw e at before)
    by_face rest (Some g) e = absurd (let never = rw e at before in cc)

pub first_set : (rows : List Row) (k number : ℕ) (x : Row) (w : FaceView) → k < length rows → private_face (take k rows) number ≡ None → face_in_process x.process number ≡ Some w → private_face (set rows k x) number ≡ Some w
first_set [] k number x w lt before here = absurd (omega (arith, lt))
first_set (r ∷ rs) zero number x w lt before here = rw here refl
first_set (r ∷ rs) (suc k) number x w lt before here = by_face (λ b. first_set rs k number x w (omega (arith, lt)) b here) (face_in_process r.process number) refl
  where
    by_face : (private_face (take k rs) number ≡ None → private_face (set rs k x) number ≡ Some w) → (o : Option FaceView) → face_in_process r.process number ≡ o → else_face o (private_face (set rs k x) number) ≡ Some w
    by_face rest None e = rest (rw e at before)
    by_face rest (Some g) e = absurd (let never = rw e at before in cc)

pub others_set : (rows : List Row) (k other : ℕ) (x d : Row) → face_in_process x.process other ≡ face_in_process (get_or rows k d).process other → private_face (set rows k x) other ≡ private_face rows other
others_set [] k other x d same = refl
others_set (r ∷ rs) zero other x d same = ap (λ (o : Option FaceView). else_face o (private_face rs other)) same
others_set (r ∷ rs) (suc k) other x d same = ap (else_face (face_in_process r.process other)) (others_set rs k other x d same)

-- ---- who owns it
pub none_of : {X : Type 0} (o : Option X) (b : Bool) → b ≡ is_some o → b ≡ false → o ≡ None
none_of None b e is = refl
none_of (Some x) b e is = absurd cc

pub owned_by_none : (t : TablesView) (number k : ℕ) → face_of t.shared.entries number ≡ None → face_of t.io.file_faces.entries number ≡ None → length t.rows ≡ k → private_face (take k t.rows) number ≡ None → first_face t number ≡ None
unfolding first_face
owned_by_none t number k shared files past none =
    ap (λ (o : Option FaceView). else_face o (else_face (face_of t.io.file_faces.entries number) (private_face t.rows number))) shared
    ∙ ap (λ (o : Option FaceView). else_face o (private_face t.rows number)) files ∙ none_past t.rows k number past none

-- ---- what a face in the place of the first one leaves
pub record PutsFirst (t new : TablesView) (number : ℕ) (f w : FaceView) : Type 0 where
  pub old : first_face t number ≡ Some f
  pub now : first_face new number ≡ Some w
  pub others : OthersStay t new number

same_number : (number : ℕ) → (number == number) ≡ true
same_number number = eq-eqb number number refl

module _ (t : TablesView) (number : ℕ) (f w : FaceView) where
  pub puts_shared : (s : Rows Entry) → face_of t.shared.entries number ≡ Some f → s.entries ≡ replaced number_of t.shared.entries (entry_with number w) → PutsFirst t (record t { shared = s }) number f w
  unfolding first_face
  puts_shared s found is =
      let rest = λ (k : ℕ). else_face (face_of t.io.file_faces.entries k) (private_face t.rows k) in
      record {
        old = ap (λ (o : Option FaceView). else_face o (rest number)) found;
        now = ap (λ (o : Option FaceView). else_face o (rest number)) (ap (λ (l : List Entry). face_of l number) is ∙ face_after t.shared.entries number number f w true found (same_number number));
        others = λ k apart. ap (λ (o : Option FaceView). else_face o (rest k)) (ap (λ (l : List Entry). face_of l k) is ∙ face_after t.shared.entries number k f w false found apart);
      }

  pub told_shared : {V : Type 0} (v : Entry → V) (s : Rows Entry) → face_of t.shared.entries number ≡ Some f → s.entries ≡ replaced number_of t.shared.entries (entry_with number w) → v (entry_with number w) ≡ v (entry_with number f) → tables_by v (record t { shared = s }) ≡ tables_by v t
  unfolding tables_by
  told_shared {V} v s found is same = ap (λ (l : List V). record (tables_by v t) { shared = l }) (ap (map v) is ∙ told_same v t.shared.entries number f w found same)

  abbrev pub with_files : Rows Entry → TablesView
  with_files s = record t { io = record t.io { file_faces = s } }

  pub puts_files : (s : Rows Entry) → face_of t.shared.entries number ≡ None → face_of t.io.file_faces.entries number ≡ Some f → s.entries ≡ replaced number_of t.io.file_faces.entries (entry_with number w) → PutsFirst t (with_files s) number f w
  unfolding first_face
  puts_files s shared found is =
      let front = λ (k : ℕ). else_face (face_of t.shared.entries k) in
      let private = λ (k : ℕ) (o : Option FaceView). else_face o (private_face t.rows k) in
      let past = λ (x : Option FaceView). ap (λ (o : Option FaceView). else_face o x) shared in
      record {
        old = past _ ∙ ap (private number) found;
        now = past _ ∙ ap (private number) (ap (λ (l : List Entry). face_of l number) is ∙ face_after t.io.file_faces.entries number number f w true found (same_number number));
        others = λ k apart. ap (λ (o : Option FaceView). front k (private k o)) (ap (λ (l : List Entry). face_of l k) is ∙ face_after t.io.file_faces.entries number k f w false found apart);
      }

  pub told_files : {V : Type 0} (v : Entry → V) (s : Rows Entry) → face_of t.io.file_faces.entries number ≡ Some f → s.entries ≡ replaced number_of t.io.file_faces.entries (entry_with number w) → v (entry_with number w) ≡ v (entry_with number f) → tables_by v (with_files s) ≡ tables_by v t
  unfolding tables_by
  told_files {V} v s found is same = ap (λ (l : List V). record (tables_by v t) { files = l }) (ap (map v) is ∙ told_same v t.io.file_faces.entries number f w found same)

  -- a private one, in the row at a place
  module _ (place : ℕ) (row x : Row) (p q : Process) (lt : place < length t.rows) (there : row ≡ get_or t.rows place row) (has : row.process ≡ Some p) (x_is : x ≡ record row { process = Some q })
      (found : face_of p.faces.entries number ≡ Some f) (is : q.faces.entries ≡ replaced number_of p.faces.entries (entry_with number w)) where
    abbrev pub with_row : TablesView
    with_row = record t { rows = set t.rows place x }

    in_row : (k : ℕ) → face_in_process (get_or t.rows place row).process k ≡ face_of p.faces.entries k
    in_row k = ap (λ (r : Row). face_in_process r.process k) (sym there) ∙ ap (λ (o : Option Process). face_in_process o k) has

    in_new : (k : ℕ) → face_in_process x.process k ≡ face_of (replaced number_of p.faces.entries (entry_with number w)) k
    in_new k = ap (λ (r : Row). face_in_process r.process k) x_is ∙ ap (λ (l : List Entry). face_of l k) is

    pub puts_private : face_of t.shared.entries number ≡ None → face_of t.io.file_faces.entries number ≡ None → private_face (take place t.rows) number ≡ None → PutsFirst t with_row number f w
    unfolding first_face
    puts_private shared files before =
        let front = λ (k : ℕ) (o : Option FaceView). else_face (face_of t.shared.entries k) (else_face (face_of t.io.file_faces.entries k) o) in
        let past = λ (o : Option FaceView). ap (λ (y : Option FaceView). else_face y (else_face (face_of t.io.file_faces.entries number) o)) shared ∙ ap (λ (y : Option FaceView). else_face y o) files in
        record {
          old = past _ ∙ first_at t.rows place number row f lt before (in_row number ∙ found);
          now = past _ ∙ first_set t.rows place number x w lt before (in_new number ∙ face_after p.faces.entries number number f w true found (same_number number));
          others = λ k apart. ap (front k) (others_set t.rows place k x row (in_new k ∙ face_after p.faces.entries number k f w false found apart ∙ sym (in_row k)));
        }

    pub told_private : {V : Type 0} (v : Entry → V) → q.regs ≡ p.regs → q.map.entries ≡ p.map.entries → v (entry_with number w) ≡ v (entry_with number f) → tables_by v with_row ≡ tables_by v t
    unfolding tables_by
    told_private {V} v regs maps same =
        let faces : map v q.faces.entries ≡ map v p.faces.entries = ap (map v) is ∙ told_same v p.faces.entries number f w found same in
        let parts : process_by v q ≡ process_by v p = cc in
        let told : row_by v x ≡ row_by v row = ap (row_by v) x_is ∙ ap (λ (y : ProcessBy V). (record row { process = None }, Some y)) parts ∙ ap (λ (o : Option Process). (record row { process = None }, option_map (process_by v) o)) (sym has) in
        ap (λ (l : List (Row × Option (ProcessBy V))). record (tables_by v t) { rows = l }) (map-set_same (row_by v) t.rows place x row (told ∙ ap (row_by v) there))

-- ---- preparing one
module _ {T E : Type 0} (t : TablesView) (number : ℕ) (r : Result T E) where
  same_of : (entries : List Entry) (f face : FaceView) → face_of entries number ≡ Some f → IfSome (face_of entries number) (λ g. view_of (entry_with number face) ≡ view_of (entry_with number g)) → view_of (entry_with number face) ≡ view_of (entry_with number f)
  same_of entries f face found same = subst (λ (o : Option FaceView). IfSome o (λ g. view_of (entry_with number face) ≡ view_of (entry_with number g))) found same

  prepared : (new : TablesView) (f face : FaceView) → PutsFirst t new number f face → tables_by view_of new ≡ tables_by view_of t → OnOk r (face.prepared ≡ true) → PreparesFirst t new number r
  prepared new f face puts same ok = record { same = same; others = puts.others; ok = on_ok_weaker r (λ h. subst (λ (o : Option FaceView). IfSome o (λ g. g.prepared ≡ true)) (sym puts.now) h) ok }

  pub prepares_shared : (s : Rows Entry) → IsSome (face_of t.shared.entries number) → PreparesIn t.shared.entries s.entries number r → PreparesFirst t (record t { shared = s }) number r
  prepares_shared s there p =
      let (f, found) = some_of (face_of t.shared.entries number) there in
      prepared (record t { shared = s }) f p.face (puts_shared t number f p.face s found p.is) (told_shared t number f p.face view_of s found p.is (same_of t.shared.entries f p.face found p.same)) p.ok

  pub prepares_files : (s : Rows Entry) → face_of t.shared.entries number ≡ None → IsSome (face_of t.io.file_faces.entries number) → PreparesIn t.io.file_faces.entries s.entries number r → PreparesFirst t (record t { io = record t.io { file_faces = s } }) number r
  prepares_files s shared there p =
      let (f, found) = some_of (face_of t.io.file_faces.entries number) there in
      prepared (record t { io = record t.io { file_faces = s } }) f p.face (puts_files t number f p.face s shared found p.is) (told_files t number f p.face view_of s found p.is (same_of t.io.file_faces.entries f p.face found p.same)) p.ok

  pub prepares_private : (place : ℕ) (row x : Row) (p q : Process) → place < length t.rows → row ≡ get_or t.rows place row → row.process ≡ Some p → x ≡ record row { process = Some q } → q.regs ≡ p.regs → q.map.entries ≡ p.map.entries
      → face_of t.shared.entries number ≡ None → face_of t.io.file_faces.entries number ≡ None → private_face (take place t.rows) number ≡ None → IsSome (face_of p.faces.entries number) → PreparesIn p.faces.entries q.faces.entries number r
      → PreparesFirst t (record t { rows = set t.rows place x }) number r
  prepares_private place row x p q lt there_row has x_is regs maps shared files before there w =
      let (f, found) = some_of (face_of p.faces.entries number) there in
      prepared (record t { rows = set t.rows place x }) f w.face (puts_private t number f w.face place row x p q lt there_row has x_is found w.is shared files before)
      (told_private t number f w.face place row x p q lt there_row has x_is found w.is view_of regs maps (same_of p.faces.entries f w.face found w.same)) w.ok

-- ---- freezing one
module _ (t : TablesView) (number : ℕ) (frozen : Frozen) where
  freeze_of : (entries : List Entry) (f face : FaceView) → face_of entries number ≡ Some f → IfSome (face_of entries number) (λ g. IsFreezeOf number g face frozen) → IsFreezeOf number f face frozen
  freeze_of entries f face found freezes = subst (λ (o : Option FaceView). IfSome o (λ g. IsFreezeOf number g face frozen)) found freezes

  bytes_told : (f face : FaceView) → IsFreezeOf number f face frozen → bytes_of (entry_with number face) ≡ bytes_of (entry_with number f)
  bytes_told f face freezes = ap (λ (bytes : List ℕ). (number, bytes)) freezes.bytes

  was_frozen : (new : TablesView) (f face : FaceView) → PutsFirst t new number f face → tables_by bytes_of new ≡ tables_by bytes_of t → IsFreezeOf number f face frozen → FreezesFirst t new number (Some frozen)
  was_frozen new f face puts same freezes = record { same = same; others = puts.others; frozen = record { old = f; old_is = puts.old; now = face; now_is = puts.now; freezes = freezes } }

  pub freezes_shared : (s : Rows Entry) → IsSome (face_of t.shared.entries number) → FreezesIn t.shared.entries s.entries number frozen → FreezesFirst t (record t { shared = s }) number (Some frozen)
  freezes_shared s there p =
      let (f, found) = some_of (face_of t.shared.entries number) there in
      let freezes = freeze_of t.shared.entries f p.face found p.freezes in
      was_frozen (record t { shared = s }) f p.face (puts_shared t number f p.face s found p.is) (told_shared t number f p.face bytes_of s found p.is (bytes_told f p.face freezes)) freezes

  pub freezes_files : (s : Rows Entry) → face_of t.shared.entries number ≡ None → IsSome (face_of t.io.file_faces.entries number) → FreezesIn t.io.file_faces.entries s.entries number frozen → FreezesFirst t (record t { io = record t.io { file_faces = s } }) number (Some frozen)
  freezes_files s shared there p =
      let (f, found) = some_of (face_of t.io.file_faces.entries number) there in
      let freezes = freeze_of t.io.file_faces.entries f p.face found p.freezes in
      was_frozen (record t { io = record t.io { file_faces = s } }) f p.face (puts_files t number f p.face s shared found p.is) (told_files t number f p.face bytes_of s found p.is (bytes_told f p.face freezes)) freezes

  pub freezes_private : (place : ℕ) (row x : Row) (p q : Process) → place < length t.rows → row ≡ get_or t.rows place row → row.process ≡ Some p → x ≡ record row { process = Some q } → q.regs ≡ p.regs → q.map.entries ≡ p.map.entries
      → face_of t.shared.entries number ≡ None → face_of t.io.file_faces.entries number ≡ None → private_face (take place t.rows) number ≡ None → IsSome (face_of p.faces.entries number) → FreezesIn p.faces.entries q.faces.entries number frozen
      → FreezesFirst t (record t { rows = set t.rows place x }) number (Some frozen)
  freezes_private place row x p q lt there_row has x_is regs maps shared files before there w =
      let (f, found) = some_of (face_of p.faces.entries number) there in
      let freezes = freeze_of p.faces.entries f w.face found w.freezes in
      was_frozen (record t { rows = set t.rows place x }) f w.face (puts_private t number f w.face place row x p q lt there_row has x_is found w.is shared files before)
      (told_private t number f w.face place row x p q lt there_row has x_is found w.is bytes_of regs maps (bytes_told f w.face freezes)) freezes

-- ---- what its owner has of an object
abbrev Ready : FaceView → Type 0
Ready f = f.prepared ≡ true

module _ (t : TablesView) (number : ℕ) where
  is_ready : (o : Option FaceView) (f : FaceView) → first_face t number ≡ Some f → o ≡ Some f → IfSome (first_face t number) Ready → IsSomeAnd o Ready
  is_ready o f first is ready = subst (λ (x : Option FaceView). IsSomeAnd x Ready) (sym is) (subst (λ (x : Option FaceView). IfSome x Ready) first ready)

  pub owned_shared : (o : Option Owner) (x : Owner) → IsOwner t number o → o ≡ Some x → x ≡ owners.Shared → IsSome (face_of t.shared.entries number)
  owned_shared o x owner is shared = subst (IsOwner t number) (is ∙ ap Some shared) owner

  pub owned_file : (o : Option Owner) (x : Owner) → IsOwner t number o → o ≡ Some x → x ≡ owners.File → (face_of t.shared.entries number ≡ None) × IsSome (face_of t.io.file_faces.entries number)
  owned_file o x owner is file = subst (IsOwner t number) (is ∙ ap Some file) owner

  pub owned_privately : (o : Option Owner) (x : Owner) (place : ℕ) → IsOwner t number o → o ≡ Some x → x ≡ owners.Process place → IsOwner t number (Some (owners.Process place))
  owned_privately o x place owner is process = subst (IsOwner t number) (is ∙ ap Some process) owner

  pub has_face : (place : ℕ) (row : Row) (p : Process) → IsOwner t number (Some (owners.Process place)) → row ≡ get_or t.rows place row → row.process ≡ Some p → IsSome (face_of p.faces.entries number)
  has_face place row p owner there has = subst (λ (o : Option Process). IsSome (face_in_process o number)) (ap (λ (r : Row). r.process) (sym there) ∙ has) (owner.4 row)

  pub ready_shared : IsSome (face_of t.shared.entries number) → IfSome (first_face t number) Ready → IsSomeAnd (face_of t.shared.entries number) Ready
  unfolding first_face
  ready_shared there ready =
      let (f, found) = some_of (face_of t.shared.entries number) there in
      is_ready (face_of t.shared.entries number) f (ap (λ (o : Option FaceView). else_face o (else_face (face_of t.io.file_faces.entries number) (private_face t.rows number))) found) found ready

  pub ready_file : face_of t.shared.entries number ≡ None → IsSome (face_of t.io.file_faces.entries number) → IfSome (first_face t number) Ready → IsSomeAnd (face_of t.io.file_faces.entries number) Ready
  unfolding first_face
  ready_file shared there ready =
      let (f, found) = some_of (face_of t.io.file_faces.entries number) there in
      is_ready (face_of t.io.file_faces.entries number) f (ap (λ (o : Option FaceView). else_face o (else_face (face_of t.io.file_faces.entries number) (private_face t.rows number))) shared ∙ ap (λ (o : Option FaceView). else_face o (private_face t.rows number)) found) found ready

  pub ready_privately : (place : ℕ) (row : Row) (p : Process) → IsOwner t number (Some (owners.Process place)) → row ≡ get_or t.rows place row → row.process ≡ Some p → IfSome (first_face t number) Ready → IsSomeAnd (face_of p.faces.entries number) Ready
  unfolding first_face
  ready_privately place row p owner there has ready =
      let (f, found) = some_of (face_of p.faces.entries number) (has_face place row p owner there has) in
      let here : face_in_process (get_or t.rows place row).process number ≡ Some f = ap (λ (o : Option Process). face_in_process o number) (ap (λ (r : Row). r.process) (sym there) ∙ has) ∙ found in
      is_ready (face_of p.faces.entries number) f
      (ap (λ (o : Option FaceView). else_face o (else_face (face_of t.io.file_faces.entries number) (private_face t.rows number))) owner.0 ∙ ap (λ (o : Option FaceView). else_face o (private_face t.rows number)) owner.1
      ∙ first_at t.rows place number row f owner.2 owner.3 here) found ready

-- a process still fits with faces that show the same bytes
module _ (entries new : List Entry) (maps : List Mapping) where
  pub fits_by_bytes : map bytes_of new ≡ map bytes_of entries → PrivateFits (views_of entries) maps → PrivateFits (views_of new) maps
  fits_by_bytes same fits =
      let memory : memory_of (views_of entries) ≡ memory_of (views_of new) = map-map (λ (o : ObjectView). (o.number, o.bytes)) view_of entries ∙ sym same ∙ sym (map-map (λ (o : ObjectView). (o.number, o.bytes)) view_of new) in
      record { each = fits.each; apart = fits.apart; inside = subst (λ (m : List (ℕ × List ℕ)). All (λ x. x.shared ≡ false → 4096 * (x.first + x.pages) ≤ length (bytes_in m x.object)) maps) memory fits.inside }

  pub fits_prepared : {T E : Type 0} (number : ℕ) (r : Result T E) → IsSome (face_of entries number) → PreparesIn entries new number r → PrivateFits (views_of entries) maps → PrivateFits (views_of new) maps
  fits_prepared number r there p fits =
      let (f, found) = some_of (face_of entries number) there in
      let same : view_of (entry_with number p.face) ≡ view_of (entry_with number f) = subst (λ (o : Option FaceView). IfSome o (λ g. view_of (entry_with number p.face) ≡ view_of (entry_with number g))) found p.same in
      fits_by_bytes (ap (map bytes_of) p.is ∙ told_same bytes_of entries number f p.face found (ap (λ (o : ObjectView). (o.number, o.bytes)) same)) fits

  pub fits_frozen : (number : ℕ) (frozen : Frozen) → IsSome (face_of entries number) → FreezesIn entries new number frozen → PrivateFits (views_of entries) maps → PrivateFits (views_of new) maps
  fits_frozen number frozen there p fits =
      let (f, found) = some_of (face_of entries number) there in
      let freezes : IsFreezeOf number f p.face frozen = subst (λ (o : Option FaceView). IfSome o (λ g. IsFreezeOf number g p.face frozen)) found p.freezes in
      fits_by_bytes (ap (map bytes_of) p.is ∙ told_same bytes_of entries number f p.face found (ap (λ (bytes : List ℕ). (number, bytes)) freezes.bytes)) fits
