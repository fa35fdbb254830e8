use Rattle.std.proofs.Common.{◌≡◌, ◌+◌, ◌-◌, ◌<◌, ℕ, Bool, List, [], ◌∷◌, length, take, get_or, ap, ◌∙◌, sym, arith, subst, refl}
use Rattle.std.proofs.lemmas.List.{take_all}
use Rattle.dev_traits.specs.declared.mem.record.Call.{Call}
use Rattle.dev_traits.specs.declared.mem.record.Call.TheVariants.{Read, Write, Sync}
use Rattle.dev_traits.specs.Record.{Event, event_of, events_onto, within_call}
use Rattle.dev_traits.proofs.RecordLemmas.{onto_take}
use Rattle.dev_traits.proofs.mem.record.stop_point.Goals as goal

-- the calls up to the last one, and it
one_more : (written : List ℕ) (calls : List Call) (d : Call) → 0 < length calls → events_onto written [] calls ≡ event_of written (get_or calls (length calls - 1) d) ∷ events_onto written [] (take (length calls - 1) calls)
one_more written calls d some =
    let at : length calls - 1 + 1 ≡ length calls = omega arith in
    ap (events_onto written []) (sym (ap (λ (k : ℕ). take k calls) at ∙ take_all (length calls) calls (omega arith))) ∙ onto_take written calls (length calls - 1) d (omega arith)

writes : (written : List ℕ) (events : List Event) (place from size : ℕ) (done : Bool) (call : Call) → call ≡ Write place from size done → within_call (event_of written call ∷ events) ≡ event_of written call ∷ events
writes written events place from size done call is = subst (λ (c : Call). within_call (event_of written c ∷ events) ≡ event_of written c ∷ events) (sym is) refl

others : (written : List ℕ) (events : List Event) (call : Call) → ((place from size : ℕ) (done : Bool) → call ≡ Write place from size done → ⊥) → within_call (event_of written call ∷ events) ≡ events
others written events Read not = refl
others written events (Write place from size done) not = absurd (not place from size done refl)
others written events (Sync done) not = refl

pub returns-in-Write : goal.returns-in-Write
returns-in-Write c = record {
  bound = omega arith;
  calls = λ written.
      let e = one_more written c.args.calls.now Read c.requires in
      ap within_call e
      ∙ writes written (events_onto written [] (take (length c.args.calls.now - 1) c.args.calls.now)) c.in-Write.place c.in-Write.from c.in-Write.size c.in-Write.done (get_or c.args.calls.now (length c.args.calls.now - 1) Read) c.in-Write.is
      ∙ sym e
      ∙ ap (events_onto written []) (sym (take_all (length c.args.calls.now) c.args.calls.now (omega arith)));
}

pub returns-in_default : goal.returns-in_default
returns-in_default c = record {
  bound = omega arith;
  calls = λ written.
      ap within_call (one_more written c.args.calls.now Read c.requires)
      ∙ others written (events_onto written [] (take (length c.args.calls.now - 1) c.args.calls.now)) (get_or c.args.calls.now (length c.args.calls.now - 1) Read) c.in_default.not-Write;
}
