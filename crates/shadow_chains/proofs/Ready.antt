-- Which writes take no memory.
use Rattle.std.proofs.Common.{◌≡◌, ◌≢◌, ◌⊎◌, inl, inr, ℕ, List, IsSome, refl, Result, Ok, Err, OnOk}
use Rattle.std.proofs.lemmas.Bool.{cases_eq}
use Rattle.mem_objects.specs.Pages.{page_of, PutsPage, Keeps}
use Rattle.shadow_chains.specs.Own.{SameBut}
use Rattle.mem_objects.proofs.Places.{keeps_puts, puts_there}
use Rattle.shadow_chains.specs.Own.{Own, IsReady, StaysReady}

pub stays_itself : (own : Own) → StaysReady own own
unfolding StaysReady
stays_itself own q ready = ready

pub stays_then : (a b c : Own) → StaysReady a b → StaysReady b c → StaysReady a c
unfolding StaysReady
stays_then a b c first second q ready = second q (first q ready)

pub stays_keeps : (old new : Own) → Keeps old.pages new.pages → Keeps old.room new.room → StaysReady old new
unfolding StaysReady IsReady Keeps
stays_keeps old new pages room q (inl there) = inl (pages q there)
stays_keeps old new pages room q (inr held) = inr (room q held)

cases_nat : (k q : ℕ) → (q ≡ k) ⊎ (q ≢ k)
cases_nat k q = elim (cases_eq q k) [ inl same ↦ inl same | inr apart ↦ inr apart ]

-- a page that was brought stays ready, though its room is gone
pub stays_brought : (old new : Own) (page : ℕ) (v : List ℕ) → PutsPage old.pages new.pages page v → SameBut page old.room new.room → StaysReady old new
unfolding StaysReady IsReady SameBut
stays_brought old new page v puts same q (inl there) = inl (let k = keeps_puts _ _ _ _ puts in unfold Keeps in k q there)
stays_brought old new page v puts same q (inr held) = elim (cases_nat page q) [ inl here ↦ inl (rw (here, puts_there _ _ _ _ puts) refl) | inr apart ↦ inr (rw (same q apart) held) ]

pub ready_there : (own : Own) (page : ℕ) → IsSome (page_of own.pages page) → IsReady own page
unfolding IsReady
ready_there own page there = inl there

pub ready_held : (own : Own) (page : ℕ) → IsSome (page_of own.room page) → IsReady own page
unfolding IsReady
ready_held own page held = inr held

pub held_ok : {E : Type 0} (r : Result (Unit {0}) E) (own : Own) (page : ℕ) → OnOk r (IsSome (page_of own.room page)) → OnOk r (IsReady own page)
held_ok (Ok x) own page held = ready_held own page held
held_ok (Err e) own page held = held
