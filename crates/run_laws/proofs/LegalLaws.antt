-- What holds after each legal trace.
use Rattle.std.proofs.Common.{◌≡◌, ℕ, ◌<◌, ◌≤◌, Bool, true, false, ◌||◌, not, List, [], ◌∷◌, length, ap, arith, sym, subst, length-append}
use Rattle.std.proofs.lemmas.List.{length-map}
use Rattle.std.proofs.lemmas.List.Elements.{All-cons, All-nil, All-push, All-weaker}
use Rattle.std.specs.Prelude.{All, if◌then◌else◌, filter}
use Rattle.std.specs.List.{list_any}
use Rattle.group_defs.specs.Group.{Group}
use Rattle.run_laws.proofs.MachineLaws.{each_keeps}
use Rattle.run_laws.proofs.TurnLaws.{turn_epochs}
use Rattle.run_defs.specs.Legal.{Allowed, Legal}
use Rattle.run_defs.specs.Progress.{Lease, Progress, after_mark, checkpoint, is_lease, progress_after, progress_at}
use Rattle.run_defs.specs.Turns.{does_something}
use Rattle.run_laws.specs.Order.{IsInOrder}
use Rattle.run_defs.specs.declared.run.Limits.{Limits}
use Rattle.run_defs.specs.declared.run.Mark.{Mark}
use Rattle.run_defs.specs.declared.run.Mark.TheVariants.{Take, Turn, Barrier, Fetch, Ack}

kept_less : (t : Lease → Bool) (xs : List Lease) → length (filter (λ x. not (t x)) xs) ≤ length xs
kept_less t [] = omega arith
kept_less t (x ∷ xs) = by_test (t x) (kept_less t xs)
  where
    by_test : (b : Bool) → length (filter (λ y. not (t y)) xs) ≤ length xs → length (if not b then x ∷ filter (λ y. not (t y)) xs else filter (λ y. not (t y)) xs) ≤ length (x ∷ xs)
    by_test true le = omega (arith, le)
    by_test false le = omega (arith, le)

one_gone : (t : Lease → Bool) (xs : List Lease) → list_any t xs ≡ true → length (filter (λ x. not (t x)) xs) < length xs
one_gone t [] e = absurd (cc)
one_gone t (x ∷ xs) e = by_test (t x) (one_gone t xs) e
  where
    by_test : (b : Bool) → (list_any t xs ≡ true → length (filter (λ y. not (t y)) xs) < length xs) → (b || list_any t xs) ≡ true → length (if not b then x ∷ filter (λ y. not (t y)) xs else filter (λ y. not (t y)) xs) < length (x ∷ xs)
    by_test true more e = let le = kept_less t xs in omega (arith, le)
    by_test false more e = let lt = more e in omega (arith, lt)

pub order_kept : (limits : Limits) (origin : ℕ) (r : Progress) (m : Mark) → Allowed limits r m → IsInOrder limits origin r → IsInOrder limits origin (after_mark limits.quantum r m)
order_kept limits origin r (Take worker pid) a o =
    let few = a.turns in let short = a.interval in let lease : Lease = record { worker = worker; pid = pid; moved = false } in let size = length-append r.leases (lease ∷ []) in
    record { begins = o.begins; fetched = o.fetched; made = o.made; one_open = o.one_open; turns = omega (arith, few, size); interval = omega (arith, short, size); epochs = o.epochs }
order_kept limits origin r (Turn worker pid n) a o =
    let same = turn_epochs limits.quantum r.state pid n in let last = same.0 in let acked = same.1 in
    let one = o.begins in let two = o.fetched in let three = o.made in let four = o.one_open in let fit = o.turns in let short = o.interval in
    let less = one_gone (is_lease worker pid) r.leases a.leased in
    let size = length-map (filter (λ l. not (is_lease worker pid l)) r.leases) (λ l. record l { moved = does_something r.state pid n || l.moved }) in
    record {
      begins = omega (arith, acked, one);
      fetched = omega (arith, acked, two);
      made = omega (arith, last, three);
      one_open = omega (arith, acked, last, four);
      turns = omega (arith, fit, less, size);
      interval = omega (arith, short, less, size);
      epochs = subst (λ n. All (λ c. c.epoch ≤ n) r.checkpoints) (sym last) o.epochs;
    }
order_kept limits origin r (Barrier e) a o =
    let up = a.rises in let acked = a.rests.acked in let three = o.made in let fit = o.turns in
    record {
      begins = o.begins;
      fetched = o.fetched;
      made = omega (arith, up, three);
      one_open = omega (arith, up, acked);
      turns = o.turns;
      interval = omega (arith, ap length a.rests.no_lease);
      epochs = All-push (λ c. c.epoch ≤ e) r.checkpoints (checkpoint r e) (All-weaker (λ c. c.epoch ≤ r.state.standing.last) (λ c. c.epoch ≤ e) (λ c le. omega (arith, up, le)) r.checkpoints o.epochs) (omega arith);
    }
order_kept limits origin r (Fetch e) a o =
    let made = a.made in let first = a.first in let two = o.fetched in
    record { begins = o.begins; fetched = omega (arith, first, two); made = made; one_open = o.one_open; turns = o.turns; interval = o.interval; epochs = o.epochs }
order_kept limits origin r (Ack e) a o =
    let fetched = a.fetched in let first = a.first in let one = o.begins in let four = o.one_open in
    record { begins = omega (arith, one, first); fetched = fetched; made = o.made; one_open = omega (arith, first, four); turns = o.turns; interval = o.interval; epochs = o.epochs }

pub begins_in_order : (limits : Limits) (origin : ℕ) (start : Group) → IsInOrder limits origin (progress_at origin start)
begins_in_order limits origin start = record {
  begins = omega arith;
  fetched = omega arith;
  made = omega arith;
  one_open = omega arith;
  turns = omega arith;
  interval = omega arith;
  epochs = All-cons (λ c. c.epoch ≤ origin) _ [] (omega arith) (All-nil (λ c. c.epoch ≤ origin));
}

pub in_order : (start : Group) (origin : ℕ) (limits : Limits) (marks : List Mark) → Legal start origin limits marks → IsInOrder limits origin (progress_after limits.quantum (progress_at origin start) marks)
in_order start origin limits marks l = each_keeps (Allowed limits) limits.quantum (IsInOrder limits origin) (order_kept limits origin) (progress_at origin start) marks l (begins_in_order limits origin start)
