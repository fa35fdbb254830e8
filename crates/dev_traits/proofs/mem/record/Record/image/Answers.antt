use Rattle.std.proofs.Common.{◌≡◌, ◌++◌, ◌-◌, ◌≤◌, ℕ, List, [], length, take, drop, sym, ap, subst, ◌∙◌, arith}
use Rattle.std.proofs.lemmas.List.{take_at, length-take-le}
use Rattle.dev_traits.specs.Record.{RecordView, Event, events_onto, image_in, within_call, IsStopOf}
use Rattle.lists.specs.Bytes.{AreBytes}
use Rattle.dev_traits.specs.declared.mem.record.Call.{Call}
use Rattle.dev_traits.specs.declared.mem.record.Fill.{Fill}
use Rattle.dev_traits.proofs.RecordLemmas.{onto_first, length-onto}
use Rattle.dev_traits.proofs.Images.{AllFit, onto_fits, drop_fits, image_same, image_size}
use Rattle.dev_traits.proofs.mem.record.Record.image.Goals as goal

pub slice_bounds-make_image-end : goal.slice_bounds-make_image-end
slice_bounds-make_image-end c =
    let n : length (events_onto c.self.inside.written.items [] c.self.inside.calls.items) ≡ length c.args.self.now.events = ap (λ (v : RecordView). length v.events) c.self.view_is in
    sym (length-take-le c.args.call c.deref.result.now (omega (arith, ap length c.deref.ensures.value, n, length-onto c.self.inside.written.items [] c.self.inside.calls.items, c.requires.there.1)))

whole : (fill : Fill) (start written written' : List ℕ) (calls calls' : List Call) (events : List Event) (call : ℕ) (new rest start' : List ℕ) (len : ℕ)
    → written' ≡ written → calls' ≡ calls → events_onto written [] calls ≡ events → call ≤ length calls → start' ≡ start → new ≡ image_in fill start' (events_onto written' [] (take call calls')) → length new ≡ len
    → take len (new ++ rest) ≡ image_in fill start (drop (length events - call) events)
whole fill start written written' calls calls' events call new rest start' len same_written same_calls shown le same_start is size =
    take_at new rest len size
    ∙ is
    ∙ ap (λ (s : List ℕ). image_in fill s (events_onto written' [] (take call calls'))) same_start
    ∙ ap (λ (w : List ℕ). image_in fill start (events_onto w [] (take call calls'))) same_written
    ∙ ap (λ (l : List Call). image_in fill start (events_onto written [] (take call l))) same_calls
    ∙ ap (image_in fill start) (sym (onto_first written calls call le))
    ∙ ap (λ (l : List Event). image_in fill start (drop (length l - call) l)) shown

pub returns : goal.returns
returns c =
    let n : length (events_onto c.self.inside.written.items [] c.self.inside.calls.items) ≡ length c.args.self.now.events = ap (λ (v : RecordView). length v.events) c.self.view_is in
    let shown : events_onto c.self.inside.written.items [] c.self.inside.calls.items ≡ c.args.self.now.events = ap (λ (v : RecordView). v.events) c.self.view_is in
    let is = whole c.args.fill c.args.start.now c.self.inside.written.items c.deref-2.result.now c.self.inside.calls.items c.deref.result.now c.args.self.now.events c.args.call c.make_image.new.image
    (drop (length c.make_image.new.image) c.in_ok-image.image.items) c.deref_mut.result.now c.in_ok-image.image.len
    c.deref-2.ensures.value c.deref.ensures.value shown (omega (arith, n, length-onto c.self.inside.written.items [] c.self.inside.calls.items, c.requires.there.1))
    (c.deref_mut.ensures.value ∙ c.in_ok-image.ensures.same) c.make_image.ensures.image (omega (arith, c.make_image.auto.image, c.deref_mut.ensures.len)) in
    let same_size : c.self.inside.size ≡ length c.args.start.now = ap (λ (v : RecordView). v.size) c.self.view_is ∙ sym c.requires.whole in
    let all = onto_fits c.self.inside.size c.self.inside.written.items [] c.self.inside.calls.items tt c.self.invariant.within in
    let fit : AllFit (length c.args.start.now) c.args.self.now.events = subst (λ (l : List Event). AllFit (length c.args.start.now) l) shown (subst (λ (k : ℕ). AllFit k (events_onto c.self.inside.written.items [] c.self.inside.calls.items)) same_size all) in
    let latest = drop (length c.args.self.now.events - c.args.call) c.args.self.now.events in
    let fits = drop_fits (length c.args.start.now) (length c.args.self.now.events - c.args.call) c.args.self.now.events fit in
    record {
      image = is;
      bytes = subst AreBytes (sym (take_at c.make_image.new.image (drop (length c.make_image.new.image) c.in_ok-image.image.items) c.in_ok-image.image.len (omega (arith, c.make_image.auto.image, c.deref_mut.ensures.len)))) c.make_image.ensures.bytes;
      size = ap length is ∙ image_size c.args.fill c.args.start.now latest fits ∙ c.requires.whole;
      stop = subst (λ (l : List ℕ). IsStopOf c.args.start.now [] (within_call latest) l) (sym is) (image_same c.args.fill c.args.start.now latest fits);
    }
