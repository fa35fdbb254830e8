-- A kernel after a Fetch and after an Ack, and one that takes memory for its next barrier: what the tables stand for stays.
use Rattle.std.proofs.Common.{◌≡◌, ◌∙◌, ℕ, ◌+◌, ◌<◌, ◌≤◌, ◌++◌, Bool, List, [], ◌∷◌, Option, Some, None, refl, sym, ap, arith, subst}
use Rattle.std.specs.Prelude.{IfSome, ◌^◌}
use Rattle.group_defs.specs.Group.{Group}
use Rattle.group_defs.specs.Standing.{group_barrier}
use Rattle.group_defs.specs.Valid.{GroupIsValid}
use Rattle.group_parts.specs.Kept.{StandsFor, KeptParts}
use Rattle.group_kernel.specs.Faces.{base_memory}
use Rattle.group_kernel.specs.Held.{FacesStandOver, TablesView, kept_in}
use Rattle.group_kernel.specs.Standing.{HasRoom, IsCountOf, IsPrepared, IsUnfetched, OwnersCounted, Stands}
use Rattle.group_kernel.specs.View.{KernelView, logged, progress_of}
use Rattle.group_kernel.specs.declared.ckpt.Ckpt.{Ckpt}
use Rattle.group_kernel.specs.declared.ckpt.Prepared.{Prepared}
use Rattle.group_kernel.specs.declared.log.Log.{Log}
use Rattle.run_defs.specs.Legal.{AckAllowed, Allowed, FetchAllowed}
use Rattle.run_defs.specs.Progress.{Progress, after_mark, progress_at}
use Rattle.run_defs.specs.declared.run.Mark.{Mark}
use Rattle.run_defs.specs.declared.run.Mark.TheVariants.{Fetch, Ack}
use Rattle.run_laws.proofs.LegalLaws.{in_order}
use Rattle.run_laws.proofs.RunLaws.{run_valid}
use Rattle.run_laws.specs.Order.{IsInOrder}
use Rattle.group_kernel.proofs.Standings.{StandsAt, stands_logged, unfetched_stays}

-- What a preparation is for stays where the log has the room still.
pub prepared_stays : (r r' : Progress) (t : TablesView) (log log' : Log) (prepared : Option Prepared) → r'.leases ≡ r.leases → r'.state.group ≡ r.state.group → ((n : ℕ) → HasRoom log n → HasRoom log' n)
    → IfSome prepared (IsPrepared r t log) → IfSome prepared (IsPrepared r' t log')
prepared_stays r r' t log log' None leases group left is = tt
prepared_stays r r' t log log' (Some p) leases group left is = record {
  room = left 3 is.room;
  frame = λ none. is.frame (sym leases ∙ none) ∙ ap (λ (g : Group). (group_barrier g).frame) (sym group);
  places = is.places;
  ready = is.ready;
}

module _ (v : KernelView) (t : TablesView) (log : Log) (prepared : Option Prepared) (frozen : Option Ckpt) (s : Stands v t log prepared frozen) where
  abbrev pub here : Progress
  here = progress_of v

  pub order : IsInOrder v.limits v.origin_epoch here
  order = in_order v.start v.origin_epoch v.limits v.marks s.legal

  pub valid : GroupIsValid here.state.group
  valid = (run_valid v.limits v.origin_epoch s.limits v.start s.start_valid s.unworn.numbers v.marks s.legal).0

  -- ---- the Fetch
  module _ (c : Ckpt) (is : frozen ≡ Some c) where
    unfetched : IsUnfetched here c
    unfetched = subst (λ (o : Option Ckpt). IfSome o (IsUnfetched here)) is s.frozen_is

    pub fetch_open : log.fetched + 1 ≡ log.last
    fetch_open =
        let before = unfetched.unfetched in let a = order.fetched in let b = order.one_open in let e = s.counts.fetched in let f = s.counts.last in
        omega (arith, before, a, b, e, f)

    pub fetch_allowed : FetchAllowed here log.last
    fetch_allowed = let before = unfetched.unfetched in let f = s.counts.last in record { made = omega (arith, f); first = omega (arith, before, f) }

    pub fetch_leaves : (log' : Log) (is_prepared : Bool) (marks : List Mark) (frozen' : Option Ckpt) → frozen' ≡ None → marks ≡ v.marks ++ Fetch log.last ∷ [] → log' ≡ record log { marks = log'.marks; fetched = log.last } → ((n : ℕ) → HasRoom log n → HasRoom log' n)
        → Stands (record v { marks = marks; prepared = is_prepared }) t log' prepared frozen'
    fetch_leaves log' is_prepared marks frozen' gone same e left = subst (λ (o : Option Ckpt). Stands (record v { marks = marks; prepared = is_prepared }) t log' prepared o) (sym gone) (subst (λ (l : List Mark). Stands (record v { marks = l; prepared = is_prepared }) t log' prepared None) (sym same) (stands_logged v (Fetch log.last) is_prepared t t log log' prepared prepared frozen None s fetch_allowed (record {
      stands = s.stands;
      faces = s.faces;
      owners = s.owners;
      served = s.served;
      counts = record {
        turns = ap (λ (l : Log). l.turns) e ∙ s.counts.turns;
        turns_since = ap (λ (l : Log). l.turns_since) e ∙ s.counts.turns_since;
        leases = ap (λ (l : Log). l.leases) e ∙ s.counts.leases;
        taken = ap (λ (l : Log). l.taken) e ∙ s.counts.taken;
        last = ap (λ (l : Log). l.last) e ∙ s.counts.last;
        fetched = ap (λ (l : Log). l.fetched) e;
        acked = ap (λ (l : Log). l.acked) e ∙ s.counts.acked;
      };
      room = left 0 s.room;
      prepared_is = prepared_stays here (after_mark v.limits.quantum here (Fetch log.last)) t log log' prepared refl refl left s.prepared_is;
      frozen_is = tt;
      fetched = λ none. ap (λ (l : Log). l.fetched) e ∙ sym (ap (λ (l : Log). l.last) e);
    })))

  -- ---- the Ack
  module _ (epoch : ℕ) (allowed : AckAllowed here epoch) where
    pub ack_last : epoch ≡ log.last
    ack_last =
        let a = allowed.fetched in let b = allowed.first in let c = order.made in let d = order.one_open in let f = s.counts.last in
        omega (arith, a, b, c, d, f)

    pub ack_open : log.acked + 1 ≡ epoch
    ack_open =
        let a = allowed.fetched in let b = allowed.first in let c = order.made in let d = order.one_open in let f = s.counts.acked in
        omega (arith, a, b, c, d, f)

    pub ack_leaves : (log' : Log) (is_prepared : Bool) (marks : List Mark) → marks ≡ v.marks ++ Ack epoch ∷ [] → log' ≡ record log { marks = log'.marks; acked = epoch } → ((n : ℕ) → HasRoom log n → HasRoom log' n)
        → Stands (record v { marks = marks; prepared = is_prepared }) t log' prepared frozen
    ack_leaves log' is_prepared marks same e left = subst (λ (l : List Mark). Stands (record v { marks = l; prepared = is_prepared }) t log' prepared frozen) (sym same) (stands_logged v (Ack epoch) is_prepared t t log log' prepared prepared frozen frozen s allowed (record {
      stands = s.stands;
      faces = s.faces;
      owners = s.owners;
      served = s.served;
      counts = record {
        turns = ap (λ (l : Log). l.turns) e ∙ s.counts.turns;
        turns_since = ap (λ (l : Log). l.turns_since) e ∙ s.counts.turns_since;
        leases = ap (λ (l : Log). l.leases) e ∙ s.counts.leases;
        taken = ap (λ (l : Log). l.taken) e ∙ s.counts.taken;
        last = ap (λ (l : Log). l.last) e ∙ s.counts.last;
        fetched = ap (λ (l : Log). l.fetched) e ∙ s.counts.fetched;
        acked = ap (λ (l : Log). l.acked) e;
      };
      room = left 0 s.room;
      prepared_is = prepared_stays here (after_mark v.limits.quantum here (Ack epoch)) t log log' prepared refl refl left s.prepared_is;
      frozen_is = unfetched_stays here (after_mark v.limits.quantum here (Ack epoch)) frozen refl refl refl s.frozen_is;
      fetched = λ none. ap (λ (l : Log). l.fetched) e ∙ s.fetched none ∙ sym (ap (λ (l : Log). l.last) e);
    }))

  -- ---- memory taken, and perhaps a preparation
  pub same_stands : (t' : TablesView) (log' : Log) (prepared' : Option Prepared) (is_prepared : Bool) (marks : List Mark) → marks ≡ v.marks → kept_in t' ≡ kept_in t
      → (FacesStandOver (base_memory here) here.touched t → FacesStandOver (base_memory here) here.touched t') → (OwnersCounted t → OwnersCounted t')
      → log' ≡ record log { marks = log'.marks } → HasRoom log' 0 → IfSome prepared' (IsPrepared here t' log') → Stands (record v { marks = marks; prepared = is_prepared }) t' log' prepared' frozen
  same_stands t' log' prepared' is_prepared marks same kept faces owners e room is = subst (λ (l : List Mark). Stands (record v { marks = l; prepared = is_prepared }) t' log' prepared' frozen) (sym same) (record {
    start_valid = s.start_valid;
    unworn = s.unworn;
    limits = s.limits;
    legal = s.legal;
    stands = subst (λ (k : KeptParts). StandsFor here.leases k here.state.group) (sym kept) s.stands;
    faces = faces s.faces;
    owners = owners s.owners;
    served = s.served;
    counts = record {
      turns = ap (λ (l : Log). l.turns) e ∙ s.counts.turns;
      turns_since = ap (λ (l : Log). l.turns_since) e ∙ s.counts.turns_since;
      leases = ap (λ (l : Log). l.leases) e ∙ s.counts.leases;
      taken = ap (λ (l : Log). l.taken) e ∙ s.counts.taken;
      last = ap (λ (l : Log). l.last) e ∙ s.counts.last;
      fetched = ap (λ (l : Log). l.fetched) e ∙ s.counts.fetched;
      acked = ap (λ (l : Log). l.acked) e ∙ s.counts.acked;
    };
    room = room;
    prepared_is = is;
    frozen_is = s.frozen_is;
    fetched = λ none. ap (λ (l : Log). l.fetched) e ∙ s.fetched none ∙ sym (ap (λ (l : Log). l.last) e);
  })
