-- A face in a table of faces, and the objects that the table shows.
use Rattle.std.proofs.Common.{◌≡◌, ℕ, ◌<◌, ◌==◌, Bool, true, false, List, [], ◌∷◌, length, Option, Some, None, refl, sym, ap, ◌∙◌, subst, arith, rules}
use Rattle.std.specs.Prelude.{if◌then◌else◌}
use Rattle.lists.specs.Bytes.{put}
use Rattle.tables.specs.Lists.{on_first}
use Rattle.tables.specs.Rising.{replaced}
use Rattle.address_maps.specs.declared.maps.Mapping.{Mapping}
use Rattle.address_maps.specs.Mappings.{mapping_at}
use Rattle.group_defs.specs.Cells.{bytes_in, object_place}
use Rattle.shadow_chains.specs.declared.entry.Entry.{Entry}
use Rattle.shadow_chains.specs.Chain.{with_range, HasRange, IsSubset}
use Rattle.shadow_chains.specs.Entries.{number_of, face_of, entry_with}
use Rattle.shadow_chains.specs.Faces.{FaceView, touched, SameBase}
use Rattle.proc_lease.specs.Private.{ObjectView, view_of, views_of, memory_of, with_bytes, ready_of, StaysReady, IsReadyFor, IsPageReady}

-- ---- what is found

abbrev bytes_of_face : Option FaceView → List ℕ
bytes_of_face None = []
bytes_of_face (Some f) = f.bytes

-- the bytes of an object are its face's
pub bytes_are_face's : (entries : List Entry) (number : ℕ) → bytes_in (memory_of (views_of entries)) number ≡ bytes_of_face (face_of entries number)
bytes_are_face's [] number = refl
bytes_are_face's (e ∷ es) number = by_test (bytes_are_face's es number) (e.number == number) refl
  where
    by_test : bytes_in (memory_of (views_of es)) number ≡ bytes_of_face (face_of es number) → (t : Bool) → (e.number == number) ≡ t → bytes_in (memory_of (views_of (e ∷ es))) number ≡ bytes_of_face (face_of (e ∷ es) number)
    by_test rest true is = rw (bytes_in, is) refl
    by_test rest false is = rw (bytes_in, is) rest

pub face_bytes : (entries : List Entry) (number : ℕ) (f : FaceView) → face_of entries number ≡ Some f → bytes_in (memory_of (views_of entries)) number ≡ f.bytes
face_bytes entries number f found = bytes_are_face's entries number ∙ ap bytes_of_face found

-- an object with bytes has a face
pub face_there : (entries : List Entry) (number : ℕ) → 0 < length (bytes_in (memory_of (views_of entries)) number) → face_of entries number ≡ None → ⊥
face_there entries number some none =
    let size : length (bytes_in (memory_of (views_of entries)) number) ≡ 0 = ap length (bytes_are_face's entries number ∙ ap bytes_of_face none) in
    omega (arith, size, some)

-- ---- a face in the place of another

found_first : (e : Entry) (es : List Entry) (number : ℕ) (f : FaceView) → (e.number == number) ≡ true → face_of (e ∷ es) number ≡ Some f → e.face ≡ f
found_first e es number f is found =
    let here : Some e.face ≡ Some f = rw is at found in
    cc

found_later : (e : Entry) (es : List Entry) (number : ℕ) (f : FaceView) → (e.number == number) ≡ false → face_of (e ∷ es) number ≡ Some f → face_of es number ≡ Some f
found_later e es number f is found = rw is at found

-- the objects shown, one changed
pub replaced_views : (entries : List Entry) (number : ℕ) (f w : FaceView) (g : ObjectView → ObjectView) → face_of entries number ≡ Some f → view_of (entry_with number w) ≡ g (view_of (entry_with number f)) → views_of (replaced number_of entries (entry_with number w)) ≡ on_first (λ o. o.number == number) g (views_of entries)
unfolding on_first
replaced_views [] number f w g found is = refl
replaced_views (e ∷ es) number f w g found is = by_test (replaced_views es number f w g) (e.number == number) refl
  where
    by_test : (face_of es number ≡ Some f → view_of (entry_with number w) ≡ g (view_of (entry_with number f)) → views_of (replaced number_of es (entry_with number w)) ≡ on_first (λ o. o.number == number) g (views_of es)) → (t : Bool) → (e.number == number) ≡ t
        → views_of (if t then entry_with number w ∷ es else e ∷ replaced number_of es (entry_with number w)) ≡ (if t then g (view_of e) ∷ views_of es else view_of e ∷ on_first (λ o. o.number == number) g (views_of es))
    by_test rest true here =
        let same : number ≡ e.number = grind (arith, here) in
        let face : f ≡ e.face = sym (found_first e es number f here found) in
        let view : view_of (entry_with number f) ≡ view_of e = ap (λ (n : ℕ). view_of (entry_with n f)) same ∙ ap (λ (x : FaceView). view_of (entry_with e.number x)) face in
        ap (λ (o : ObjectView). o ∷ views_of es) (is ∙ ap g view)
    by_test rest false here = ap (λ (l : List ObjectView). view_of e ∷ l) (rest (found_later e es number f here found) is)

-- the same view of the object leaves the objects
on_first_same : (objects : List ObjectView) (number : ℕ) → on_first (λ o. o.number == number) (λ o. o) objects ≡ objects
unfolding on_first
on_first_same [] number = refl
on_first_same (o ∷ os) number = by_test (on_first_same os number) (o.number == number)
  where
    by_test : on_first (λ o. o.number == number) (λ o. o) os ≡ os → (t : Bool) → (if t then o ∷ os else o ∷ on_first (λ o. o.number == number) (λ o. o) os) ≡ o ∷ os
    by_test rest true = refl
    by_test rest false = ap (λ (l : List ObjectView). o ∷ l) rest

pub same_views : (entries : List Entry) (number : ℕ) (f w : FaceView) → face_of entries number ≡ Some f → view_of (entry_with number w) ≡ view_of (entry_with number f) → views_of (replaced number_of entries (entry_with number w)) ≡ views_of entries
same_views entries number f w found is = replaced_views entries number f w (λ o. o) found is ∙ on_first_same (views_of entries) number

-- what is found then
face_after : (entries : List Entry) (number k : ℕ) (f w : FaceView) (t : Bool) → face_of entries number ≡ Some f → (number == k) ≡ t → face_of (replaced number_of entries (entry_with number w)) k ≡ (if t then Some w else face_of entries k)
unfolding on_first
face_after [] number k f w t found is = absurd (cc)
face_after (e ∷ es) number k f w t found is = by_test (face_after es number k f w t) (e.number == number) (e.number == k) t refl refl is
  where
    by_test : (face_of es number ≡ Some f → (number == k) ≡ t → face_of (replaced number_of es (entry_with number w)) k ≡ (if t then Some w else face_of es k)) → (here there t' : Bool) → (e.number == number) ≡ here → (e.number == k) ≡ there → (number == k) ≡ t'
        → face_of (if here then entry_with number w ∷ es else e ∷ replaced number_of es (entry_with number w)) k ≡ (if t' then Some w else face_of (e ∷ es) k)
    by_test rest true there true a b c = rw c refl
    by_test rest true true false a b c = absurd (grind (arith, a, b, c))
    by_test rest true false false a b c = rw c (rw b refl)
    by_test rest false true true a b c = absurd (grind (arith, a, b, c))
    by_test rest false false true a b c =
        let e' : t ≡ true = sym is ∙ c in
        rw b (rest (found_later e es number f a found) is ∙ ap (λ u. if u then Some w else face_of es k) e')
    by_test rest false true false a b c = rw b refl
    by_test rest false false false a b c =
        let e' : t ≡ false = sym is ∙ c in
        rw b (rest (found_later e es number f a found) is ∙ ap (λ u. if u then Some w else face_of es k) e')

abbrev ready_in : Option FaceView → List Bool
ready_in None = []
ready_in (Some f) = f.ready

ready_is : (entries : List Entry) (k : ℕ) → ready_of entries k ≡ ready_in (face_of entries k)
ready_is entries k = by_face (face_of entries k)
  where
    by_face : (o : Option FaceView) → elim o [ None ↦ [] | Some f ↦ f.ready ] ≡ ready_in o
    by_face None = refl
    by_face (Some f) = refl

pub found_ready : (entries : List Entry) (number : ℕ) (f : FaceView) → face_of entries number ≡ Some f → ready_of entries number ≡ f.ready
found_ready entries number f found = ready_is entries number ∙ ap ready_in found

pub replaced_ready : (entries : List Entry) (number : ℕ) (f w : FaceView) → face_of entries number ≡ Some f → ready_of (replaced number_of entries (entry_with number w)) number ≡ w.ready
replaced_ready entries number f w found =
    let same : (number == number) ≡ true = search rules in
    found_ready (replaced number_of entries (entry_with number w)) number w (face_after entries number number f w true found same)

itself_ready : (set : List Bool) → IsSubset set set
unfolding IsSubset
itself_ready set p in_it = in_it

pub nothing_unready : (entries : List Entry) → StaysReady entries entries
unfolding StaysReady
nothing_unready entries k = itself_ready (ready_of entries k)

pub stays_ready : (entries : List Entry) (number : ℕ) (f w : FaceView) → face_of entries number ≡ Some f → IsSubset f.ready w.ready → StaysReady entries (replaced number_of entries (entry_with number w))
unfolding StaysReady
stays_ready entries number f w found more k = by_number (number == k) refl
  where
    after : List Entry
    after = replaced number_of entries (entry_with number w)

    by_number : (t : Bool) → (number == k) ≡ t → IsSubset (ready_of entries k) (ready_of after k)
    by_number true is =
        let same : number ≡ k = grind (arith, is) in
        let old : f.ready ≡ ready_of entries k = sym (found_ready entries number f found) ∙ ap (ready_of entries) same in
        let new : w.ready ≡ ready_of after k = sym (ready_is after k ∙ ap ready_in (face_after entries number k f w true found is)) in
        subst (λ (s : List Bool). IsSubset (ready_of entries k) s) new (subst (λ (s : List Bool). IsSubset s w.ready) old more)
    by_number false is =
        let same : ready_of entries k ≡ ready_of after k = ready_is entries k ∙ sym (ready_is after k ∙ ap ready_in (face_after entries number k f w false found is)) in
        subst (λ (s : List Bool). IsSubset (ready_of entries k) s) same (itself_ready (ready_of entries k))

-- what was ready for a write is
pub still_ready : (old new : List Entry) (number place n : ℕ) → StaysReady old new → IsReadyFor old number place n → IsReadyFor new number place n
unfolding StaysReady IsSubset HasRange
still_ready old new number place n stays ready p covered = stays number p (ready p covered)

pub page_still : (old new : List Entry) (maps maps' : List Mapping) (a n : ℕ) → StaysReady old new → maps' ≡ maps → IsPageReady old maps a n → IsPageReady new maps' a n
page_still old new maps maps' a n stays same ready m found =
    still_ready old new m.object (object_place m a) n stays (ready m (subst (λ (l : List Mapping). mapping_at l a ≡ Some m) same found))

-- a face with bytes written to it, and one that shows the same
pub view_with : (f w : FaceView) (place : ℕ) (bytes : List ℕ) (number : ℕ) → SameBase f w → w.bytes ≡ put f.bytes place bytes → touched w ≡ with_range (touched f) place (length bytes) → view_of (entry_with number w) ≡ with_bytes place bytes (view_of (entry_with number f))
view_with f w place bytes number base put_there set = cc

pub view_same : (f w : FaceView) (number : ℕ) → SameBase f w → w.bytes ≡ f.bytes → touched w ≡ touched f → view_of (entry_with number w) ≡ view_of (entry_with number f)
view_same f w number base bytes set = cc
