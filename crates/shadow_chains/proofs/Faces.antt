-- What sealing, freezing and writing do to what is seen.
use Rattle.std.proofs.Common.{◌≡◌, ◌∙◌, inl, inr, ℕ, ◌≤◌, List, [], ◌∷◌, ◌++◌, length, take, drop, Some, None, Option, Result, Ok, Err, OnOk, IsOk, is_some, IsSome, IfSome, replicate, true, false, refl, sym, ap, subst, arith, append_assoc}
use Rattle.std.proofs.lemmas.List.{drop-append-le, take-append-drop, take_all, drop_all, length-drop}
use Rattle.mem_objects.specs.Pages.{Pages, page_of, WritesIn}
use Rattle.shadow_chains.specs.Chain.{top_page, first_of_two, flat, page_set, overlaid}
use Rattle.shadow_chains.specs.Own.{Brings, Seals, Own, IsReady}
use Rattle.shadow_chains.proofs.Tops.{top_append, top_push}
use Rattle.shadow_chains.proofs.Flat.{flat_same, set_same, overlaid_flat, set_none}

pub ok_map : {T E : Type 0} (r : Result T E) (P Q : Type 0) → (P → Q) → OnOk r P → OnOk r Q
ok_map (Ok x) P Q f p = f p
ok_map (Err e) P Q f p = p

pub ok_from : {T E : Type 0} (r : Result T E) (P : Type 0) → OnOk r P → IsOk r → P
ok_from (Ok x) P p ok = p
ok_from (Err e) P p ok = absurd (cc)

module _ (old : List Pages) (own : Pages) (new : List Pages) (seals : Seals old own new) where
  seal_top : (p : ℕ) → top_page (new ++ [] ∷ []) p ≡ top_page (old ++ own ∷ []) p
  seal_top p =
      top_push new [] p ∙ ap (λ l. top_page l p) seals.longer ∙ top_append old seals.extra p
      ∙ ap (λ o. first_of_two o (top_page old p)) (seals.same p) ∙ sym (top_push old own p)

  pub seal_flat : (now : Pages) → now ≡ [] → (n : ℕ) → flat (new ++ now ∷ []) n ≡ flat (old ++ own ∷ []) n
  seal_flat now empty n = rw empty (flat_same (new ++ [] ∷ []) (old ++ own ∷ []) n (λ p lt. seal_top p))

  pub seal_drop : (s : ℕ) → s ≤ length old → Seals (drop s old) own (drop s new)
  seal_drop s le = record { extra = seals.extra; longer = ap (drop s) seals.longer ∙ drop-append-le s old seals.extra le; same = seals.same; one = omega (arith, seals.one, length-drop s old, length-drop s new) }

pub seal_set : (old : List Pages) (own : Pages) (new : List Pages) (now : Pages) (s n : ℕ) → Seals old own new → s ≤ length old → now ≡ [] → page_set (drop s new ++ now ∷ []) n ≡ page_set (drop s old ++ own ∷ []) n
seal_set old own new now s n seals le empty =
    rw empty (set_same (drop s new ++ [] ∷ []) (drop s old ++ own ∷ []) n (λ p lt. ap (λ (o : Option (List ℕ)). is_some o) (seal_top (drop s old) own (drop s new) (seal_drop old own new seals s le) p)))

-- a copy of the whole chain, with an empty own layer
pub copy_flat : (old : List Pages) (own : Pages) (new copy : List Pages) (now : Pages) (n : ℕ) → Seals old own new → copy ≡ drop 0 new → now ≡ [] → flat (copy ++ now ∷ []) n ≡ flat (old ++ own ∷ []) n
copy_flat old own new copy now n seals is empty = rw is (seal_flat old own new seals now empty n)

pub copy_set : (old : List Pages) (own : Pages) (new copy : List Pages) (now : Pages) (s n : ℕ) → Seals old own new → copy ≡ drop 0 new → now ≡ [] → s ≤ length old → page_set (drop s copy ++ now ∷ []) n ≡ page_set (drop s old ++ own ∷ []) n
copy_set old own new copy now s n seals is empty le = rw is (seal_set old own new now s n seals le empty)

-- an empty own layer shows nothing
pub empty_flat : (ls : List Pages) (own : Pages) (n : ℕ) → own ≡ [] → flat (ls ++ own ∷ []) n ≡ flat ls n
empty_flat ls own n empty = rw empty (flat_same (ls ++ [] ∷ []) ls n (λ p lt. top_push ls [] p))

pub empty_set : (ls : List Pages) (own : Pages) (n : ℕ) → own ≡ [] → page_set (ls ++ own ∷ []) n ≡ page_set ls n
empty_set ls own n empty = rw empty (set_same (ls ++ [] ∷ []) ls n (λ p lt. ap (λ (o : Option (List ℕ)). is_some o) (top_push ls [] p)))

-- the layers since the freeze over the base show what the face shows
pub freeze_over : (ls : List Pages) (own : Pages) (s n : ℕ) → own ≡ [] → overlaid (drop s ls) (flat (take s ls) n) n ≡ flat (ls ++ own ∷ []) n
freeze_over ls own s n empty = overlaid_flat (take s ls) (drop s ls) n ∙ ap (λ l. flat l n) (take-append-drop s ls) ∙ sym (empty_flat ls own n empty)

module _ (ls : List Pages) (old new : Pages) (page at : ℕ) (bytes : List ℕ) where
  -- a write into the own layer
  pub brings_written : WritesIn old new page at bytes → Brings old new page (top_page (ls ++ old ∷ []) page) at bytes
  brings_written writes =
      let e : Some writes.was ≡ top_page (ls ++ old ∷ []) page = sym (top_push ls old page ∙ ap (λ o. first_of_two o (top_page ls page)) writes.found) in
      subst (λ (o : Option (List ℕ)). Brings old new page o at bytes) e (record { whole = writes.whole; puts = writes.puts })

  -- a page brought up
  pub brings_below : (o : Option (List ℕ)) → page_of old page ≡ None → o ≡ top_page ls page → Brings old new page o at bytes → Brings old new page (top_page (ls ++ old ∷ []) page) at bytes
  brings_below o absent is brings =
      let e : o ≡ top_page (ls ++ old ∷ []) page = is ∙ sym (top_push ls old page ∙ ap (λ x. first_of_two x (top_page ls page)) absent) in
      subst (λ (x : Option (List ℕ)). Brings old new page x at bytes) e brings

-- a page that is ready and not there is in the room
pub in_room : (own : Own) (page : ℕ) → page_of own.pages page ≡ None → IsReady own page → IsSome (page_of own.room page)
unfolding IsReady
in_room own page absent (inl there) = absurd (cc)
in_room own page absent (inr held) = held

-- What a freeze does, where a spare list of the layers since the last one stands over an empty own layer.
module _ (ls : List Pages) (own : Pages) (s n : ℕ) (spare : Option (List Pages)) (given : List Pages) (e : spare ≡ Some given) (is : IfSome spare (λ l. l ≡ drop s ls)) (none : is_some spare ≡ true → own ≡ []) where
  given_is : given ≡ drop s ls
  given_is = subst (λ (o : Option (List Pages)). IfSome o (λ l. l ≡ drop s ls)) e is

  own_empty : own ≡ []
  own_empty = none (ap (λ (o : Option (List Pages)). is_some o) e)

  pub frozen_all : drop s ls ++ own ∷ [] ≡ given ++ [] ∷ []
  frozen_all = rw (given_is, own_empty) refl

  pub frozen_over : overlaid given (flat (take s ls) n) n ≡ flat (ls ++ own ∷ []) n
  frozen_over = rw given_is (freeze_over ls own s n own_empty)

  pub frozen_set : page_set given n ≡ page_set (drop s ls ++ own ∷ []) n
  frozen_set = rw given_is (sym (empty_set (drop s ls) own n own_empty))

  pub frozen_below : (len : ℕ) → len ≡ length ls → flat (take len ls) n ≡ flat (ls ++ own ∷ []) n
  frozen_below len at = ap (λ (l : List Pages). flat l n) (take_all len ls (omega arith)) ∙ sym (empty_flat ls own n own_empty)

  pub frozen_touched : (len : ℕ) → len ≡ length ls → page_set (drop len ls ++ own ∷ []) n ≡ replicate n false
  frozen_touched len at =
      ap (λ (l : List Pages). page_set (l ++ own ∷ []) n) (drop_all len ls (omega arith)) ∙ empty_set [] own n own_empty ∙ sym (set_none [] n (λ p. refl))

-- the layers since the freeze, with the own one, over the base
pub over_base : (ls : List Pages) (own : Pages) (s n : ℕ) → overlaid (drop s ls ++ own ∷ []) (flat (take s ls) n) n ≡ flat (ls ++ own ∷ []) n
over_base ls own s n =
    overlaid_flat (take s ls) (drop s ls ++ own ∷ []) n
    ∙ ap (λ (l : List Pages). flat l n) (sym (append_assoc (take s ls) (drop s ls) (own ∷ [])) ∙ ap (λ (l : List Pages). l ++ own ∷ []) (take-append-drop s ls))
