use Rattle.std.proofs.Common.{◌≡◌, ◌+◌, ◌∷◌, [], ◌++◌, ◌<◌, ◌∙◌, List, ℕ, ap, subst, append_assoc, append-nil, arith, length, refl, length-append, map, sym, take, get_or}
use Rattle.std.proofs.lemmas.List.{map-append, take_all}
use Rattle.std.specs.Vec.Iter.{into_iter_items}
use Rattle.page_flusher.specs.Taking.{Carry}
use Rattle.commit_gate.specs.declared.whole.Block.{Block}
use Rattle.ckpt_records.specs.declared.meta.Page.{Page}
use Rattle.page_flusher.proofs.Laying.{carry_none, carry_more}
use Rattle.page_flusher.proofs.plan.page_blocks.Goals as goal

nothing_left : {X : Type 0} (l : List X) → length l ≡ 0 → l ≡ []
nothing_left [] none = refl
nothing_left (x ∷ xs) none = absurd (omega (arith, none))

-- a page that comes after some of them has a number
still_due : (ns : List ℕ) (all gone rest later : List Page) (page : Page) → length ns ≡ length all → gone ++ rest ≡ all → rest ≡ page ∷ later → length gone < length ns
still_due ns all gone rest later page size is steps = omega (arith, size, ap length is, length-append gone rest, ap length steps)

pub loop-page-init : goal.loop-page-init
loop-page-init c = record {
  all = refl;
  left = c.into_iter-page-iterator.ensures.into_iter_gives.1 ∙ c.args.pages.ok.0 ∙ ap length (sym c.into_iter-page-iterator.ensures.into_iter_gives.0);
  count = ap length c.new-blocks.ensures.items;
  blocks = subst (λ (l : List Block). Carry [] [] l) (sym c.new-blocks.ensures.items) carry_none;
}

pub bounds-numbers-len : goal.bounds-numbers-len
bounds-numbers-len c =
    let at = c.loop-page in
    let due = still_due c.args.numbers.now c.args.pages.items at.yielded (into_iter_items at.page-iterator) (into_iter_items c.next.new.self) c.in-Some.page c.requires (at.invariant.all ∙ c.into_iter-page-iterator.ensures.into_iter_gives.0) c.in-Some.ensures.steps.0 in
    omega (arith, due, at.invariant.count, c.len.ensures)

pub loop-page-preserved : goal.loop-page-preserved
loop-page-preserved c =
    let at = c.loop-page in
    let page = c.in-Some.page in
    let steps : into_iter_items at.page-iterator ≡ page ∷ into_iter_items c.next.new.self = c.in-Some.ensures.steps.0 in
    let due = still_due c.args.numbers.now c.args.pages.items at.yielded (into_iter_items at.page-iterator) (into_iter_items c.next.new.self) page c.requires (at.invariant.all ∙ c.into_iter-page-iterator.ensures.into_iter_gives.0) steps in
    let place : c.len.result ≡ length at.yielded = omega (arith, c.len.ensures, at.invariant.count) in
    let long : length (at.yielded ++ page ∷ []) ≡ length at.yielded + 1 = length-append at.yielded (page ∷ []) in
    record {
      all = append_assoc at.yielded (page ∷ []) (into_iter_items c.next.new.self) ∙ ap (λ (l : List Page). at.yielded ++ l) (sym steps) ∙ at.invariant.all;
      left = omega (arith, ap length steps, at.invariant.left, c.in-Some.ensures.steps.1);
      count = omega (arith, ap length c.in_ok-push.ensures.items, length-append at.blocks.items (record { number = get_or c.args.numbers.now c.len.result 0; bytes = page.bytes } ∷ []), long, at.invariant.count);
      blocks = subst (λ (n : ℕ). Carry (take n c.args.numbers.now) (map (λ (p : Page). p.bytes) (at.yielded ++ page ∷ [])) c.push.new.self.items) (sym long)
          (carry_more c.args.numbers.now (length at.yielded) (map (λ (p : Page). p.bytes) at.yielded) (map (λ (p : Page). p.bytes) (at.yielded ++ page ∷ [])) page.bytes at.blocks.items c.push.new.self.items due at.invariant.blocks
          (c.in_ok-push.ensures.items ∙ ap (λ (n : ℕ). at.blocks.items ++ record { number = get_or c.args.numbers.now n 0; bytes = page.bytes } ∷ []) place) (sym (map-append (λ (p : Page). p.bytes) at.yielded (page ∷ []))));
    }

pub returns : goal.returns
returns c =
    let at = c.loop-page in
    let none : length (into_iter_items at.page-iterator) ≡ 0 = sym at.invariant.left ∙ c.in-None.ensures.steps.0 in
    let empty : into_iter_items at.page-iterator ≡ [] = nothing_left (into_iter_items at.page-iterator) none in
    let all : at.yielded ≡ c.args.pages.items = sym (append-nil at.yielded) ∙ ap (λ (l : List Page). at.yielded ++ l) (sym empty) ∙ at.invariant.all ∙ c.into_iter-page-iterator.ensures.into_iter_gives.0 in
    let front : take (length at.yielded) c.args.numbers.now ≡ c.args.numbers.now = take_all (length at.yielded) c.args.numbers.now (omega (arith, ap length all, c.requires)) in
    record { numbers_are = at.invariant.blocks.numbers_are ∙ front; bytes_are = at.invariant.blocks.bytes_are ∙ ap (map (λ (p : Page). p.bytes)) all }
