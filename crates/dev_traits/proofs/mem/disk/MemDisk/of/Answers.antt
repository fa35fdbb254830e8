use Rattle.std.proofs.Common.{◌≡◌, ◌∙◌, ◌*◌, ◌/◌, List, ℕ, [], length, take, subst, sym, ap, arith, refl, length-take}
use Rattle.lists.specs.Bytes.{SameOutside, same_itself, AreBytes}
use Rattle.dev_traits.specs.Record.{Event, reading_of, settled_of, pending_of, ranges_of}
use Rattle.dev_traits.proofs.mem.disk.MemDisk.of.Goals as goal

pub invariant_of-result : goal.invariant_of-result
invariant_of-result c =
    let bytes = c.truncate.new.self.items in
    let start = c.in_ok-start.start.items in
    let events = c.in_ok-calls.calls.events in
    let same : start ≡ bytes = c.in_ok-start.ensures.same ∙ c.deref.ensures.value in
    let none : events ≡ [] = c.in_ok-calls.ensures.2 in
    let whole : length bytes ≡ 4096 * (c.len-blocks.result / 4096) = omega (arith, ap length c.truncate.ensures.items, length-take (4096 * (c.len-blocks.result / 4096)) c.args.bytes.items, c.len-blocks.ensures, c.args.bytes.ok.0) in
    let fit : AreBytes bytes = subst AreBytes c.deref.ensures.value c.in_ok-start.ensures.bytes in
    record {
      size = omega (arith, c.in_ok-calls.ensures.0, c.len.ensures, whole, c.truncate.new.self.ok.0);
      start_whole = ap length same ∙ whole;
      whole = whole;
      fits = fit;
      settled_fits = subst (λ (l : List Event). AreBytes (settled_of start l)) (sym none) (subst AreBytes (sym same) fit);
      reads = sym same ∙ sym (ap (reading_of start) none);
      apart = subst (λ (l : List Event). SameOutside (ranges_of (pending_of l)) (settled_of start l) bytes) (sym none) (subst (λ (l : List ℕ). SameOutside [] l bytes) (sym same) (same_itself [] bytes));
      unlost = λ lt. refl;
    }

pub returns : goal.returns
returns c = let n : c.len-blocks.result ≡ length c.args.bytes.items = omega (arith, c.len-blocks.ensures, c.args.bytes.ok.0) in record {
  holds = c.truncate.ensures.items ∙ ap (λ (k : ℕ). take (4096 * (k / 4096)) c.args.bytes.items) n;
  start = c.in_ok-start.ensures.same ∙ c.deref.ensures.value;
  blocks = ap (λ (k : ℕ). k / 4096) n;
  none_yet = c.in_ok-calls.ensures.2;
  nothing_lost = refl;
  room = c.in_ok-calls.ensures.1;
  failing = c.new.ensures.items;
  faults = refl;
  writes = refl;
}
