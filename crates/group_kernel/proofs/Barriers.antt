-- A kernel after a Barrier: the checkpoint that was frozen is the one of the new epoch, over the bytes of the one before, and all faces stand over the group's bytes.
use Rattle.std.proofs.Common.{◌≡◌, ◌∙◌, ℕ, zero, suc, ◌+◌, ◌-◌, ◌<◌, ◌≤◌, ◌==◌, ◌++◌, Bool, true, false, List, [], ◌∷◌, length, Option, Some, None, refl, sym, ap, arith, subst}
use Rattle.std.proofs.lemmas.Bool.{ne_eqb}
use Rattle.std.proofs.lemmas.Bool.Decides.{nat_tests}
use Rattle.std.proofs.lemmas.List.{take-append-le, take_all}
use Rattle.std.proofs.lemmas.Slice.Zip.{AllZip-long}
use Rattle.std.specs.Prelude.{IfSome, if◌then◌else◌, ◌^◌, drop, take}
use Rattle.std.specs.List.{AllZip}
use Rattle.std.specs.Option.{option_map}
use Rattle.group_defs.specs.Group.{Group}
use Rattle.group_defs.specs.Output.{out_after_barrier}
use Rattle.group_defs.specs.Standing.{group_barrier}
use Rattle.group_defs.specs.Valid.{GroupIsValid}
use Rattle.group_defs.specs.declared.frame.ObjectRec.{ObjectRec}
use Rattle.group_defs.specs.declared.frame.Out.{Out}
use Rattle.group_parts.specs.Kept.{KeptParts, StandsFor}
use Rattle.group_parts.proofs.KeptLaws.{barrier_stands}
use Rattle.group_parts.specs.Parts.{public_part}
use Rattle.tables.specs.Rising.{Rise}
use Rattle.run_defs.specs.Legal.{Allowed, BarrierAllowed}
use Rattle.run_defs.specs.Progress.{Checkpoint, Lease, Progress, after_mark, checkpoint, checkpoint_of, progress_after, progress_at}
use Rattle.run_defs.specs.declared.run.Limits.{Limits}
use Rattle.run_defs.specs.declared.run.Mark.{Mark}
use Rattle.run_defs.specs.declared.run.Mark.TheVariants.{Take, Turn, Barrier, Fetch, Ack}
use Rattle.run_laws.proofs.Epochs.{barrier_makes, others_make_none}
use Rattle.run_laws.proofs.MachineLaws.{each_keeps, each_more}
use Rattle.run_laws.proofs.TurnLaws.{turn_epochs}
use Rattle.shadow_chains.specs.declared.face.Frozen.{Frozen}
use Rattle.group_kernel.specs.Deltas.{HasJust, IsCheckpointIn, IsDelta, IsDeltaOf}
use Rattle.group_kernel.specs.Faces.{base_memory, memory_of_epoch}
use Rattle.group_kernel.specs.Held.{FacesStandOver, TablesView, kept_in}
use Rattle.group_kernel.specs.Standing.{HasRoom, IsPrepared, IsUnfetched, OwnersCounted, Stands}
use Rattle.group_kernel.specs.Steps.{FreezesAll}
use Rattle.group_kernel.specs.View.{KernelView, logged, progress_of}
use Rattle.group_kernel.specs.declared.ckpt.Ckpt.{Ckpt}
use Rattle.group_kernel.specs.declared.ckpt.Prepared.{Prepared}
use Rattle.group_kernel.specs.declared.log.Log.{Log}
use Rattle.group_kernel.proofs.CommitMarks.{order, valid}
use Rattle.group_kernel.proofs.Standings.{one_more, stands_logged}
use Rattle.group_kernel.proofs.TouchedPages.{just_touched}

-- ---- a Turn stands before each Barrier, so epochs are few

abbrev HasFew : ℕ → Progress → Type 0
HasFew origin r = r.state.standing.last + r.turns_since ≤ origin + r.turns

few_kept : (limits : Limits) (origin : ℕ) (r : Progress) (m : Mark) → Allowed limits r m → HasFew origin r → HasFew origin (after_mark limits.quantum r m)
few_kept limits origin r (Take worker pid) a few = few
few_kept limits origin r (Turn worker pid n) a few = let same = (turn_epochs limits.quantum r.state pid n).0 in omega (arith, few, same)
few_kept limits origin r (Barrier epoch) a few = let up = a.rises in let some = a.cause.turn in omega (arith, few, up, some)
few_kept limits origin r (Fetch epoch) a few = few
few_kept limits origin r (Ack epoch) a few = few

same_objects : (t : TablesView) (leases : List Lease) (g : Group) → StandsFor leases (kept_in t) g → t.objects ≡ g.frame.objects
unfolding public_part
same_objects t leases g stands = ap (λ (x : Group). x.frame.objects) stands.public

pub objects_rise : (t : TablesView) (leases : List Lease) (g : Group) → StandsFor leases (kept_in t) g → GroupIsValid g → Rise (λ (o : ObjectRec). o.number) t.objects
objects_rise t leases g stands valid = subst (λ (l : List ObjectRec). Rise (λ (o : ObjectRec). o.number) l) (sym (same_objects t leases g stands)) valid.sound.frame.objects.rise

-- places that were filled, each of them, put back into their vector
pub filled_whole : (old new : List Frozen) (n : ℕ) → n ≡ length old → length new ≡ length old → take n (new ++ drop (length new) old) ≡ new
filled_whole old new n count same = take-append-le n new (drop (length new) old) (omega (arith, count, same)) ∙ take_all n new (omega (arith, count, same))

-- a barrier leaves the bytes
deltas_after : (memory : List (ℕ × List ℕ)) (g : Group) (objects : List ObjectRec) (frozen : List Frozen) → AllZip (IsDeltaOf memory g) objects frozen → AllZip (IsDeltaOf memory (group_barrier g)) objects frozen
deltas_after memory g [] [] all = all
deltas_after memory g [] (f ∷ fs) all = all
deltas_after memory g (o ∷ os) [] all = all
deltas_after memory g (o ∷ os) (f ∷ fs) all = (record { number = all.0.number; bytes = all.0.bytes }, deltas_after memory g os fs all.1)

abbrev pub with_mark : TablesView → Out → TablesView
with_mark t out = record t { io = record t.io { out = out } }

faces_with_mark : (memory : List (ℕ × List ℕ)) (touched : List (ℕ × ℕ)) (t : TablesView) (out : Out) → FacesStandOver memory touched t → FacesStandOver memory touched (with_mark t out)
faces_with_mark memory touched t out faces = record { files = faces.files; shared = faces.shared; public = faces.public; private = faces.private }

module _ (v : KernelView) (t : TablesView) (log : Log) (prepared : Option Prepared) (frozen : Option Ckpt) (s : Stands v t log prepared frozen) where
  abbrev here : Progress
  here = progress_of v

  few : HasFew v.origin_epoch here
  few = each_keeps (Allowed v.limits) v.limits.quantum (HasFew v.origin_epoch) (few_kept v.limits v.origin_epoch) (progress_at v.origin_epoch v.start) v.marks s.legal (omega arith)

  pub last_small : log.last ≤ 2 ^ 63
  last_small =
      let a = few in let b = (order v t log prepared frozen s).turns in let c = s.limits.turns.1 in let d = s.unworn.epoch_is in let e = s.counts.last in
      omega (arith, a, b, c, d, e)

  module _ (e : ℕ) (due : BarrierAllowed v.limits here e) where
    abbrev after : Progress
    after = after_mark v.limits.quantum here (Barrier e)

    pub all_acked : log.acked ≡ log.last
    all_acked = s.counts.acked ∙ due.rests.acked ∙ sym s.counts.last

    pub all_fetched : log.fetched ≡ log.last
    all_fetched =
        let o = order v t log prepared frozen s in let a = o.fetched in let b = o.made in let c = due.rests.acked in let x = s.counts.last in let y = s.counts.fetched in
        omega (arith, a, b, c, x, y)

    made_is : checkpoint_of after e ≡ Some (checkpoint here e)
    made_is =
        ap (λ (r : Progress). checkpoint_of r e) (sym (one_more v (Barrier e) false))
        ∙ barrier_makes v.start v.origin_epoch v.limits v.marks e [] (each_more (Allowed v.limits) v.limits.quantum (progress_at v.origin_epoch v.start) v.marks (Barrier e) s.legal due)

    -- those of the epoch before stay
    memory_before : memory_of_epoch after (e - 1) ≡ base_memory here
    memory_before =
        let last : e - 1 ≡ here.state.standing.last = let up = due.rises in omega (arith, up) in
        let other : (e == here.state.standing.last) ≡ false = ne_eqb e here.state.standing.last (λ same. let up = due.rises in omega (arith, up, same)) in
        ap (memory_of_epoch after) last
        ∙ ap (λ (o : Option Checkpoint). if here.state.standing.last == 0 then [] else elim (option_map (λ (c : Checkpoint). c.group) o) [ None ↦ [] | Some g ↦ g.memory ])
        (others_make_none v.limits.quantum here (Barrier e ∷ []) here.state.standing.last (rw other refl))

    memory_after : base_memory after ≡ here.state.group.memory
    memory_after =
        let up = due.rises in
        let some : (e == 0) ≡ false = ne_eqb e 0 (λ same. omega (arith, up, same)) in
        ap (λ (b : Bool). if b then [] else elim (option_map (λ (c : Checkpoint). c.group) (checkpoint_of after e)) [ None ↦ [] | Some g ↦ g.memory ]) some
        ∙ ap (λ (o : Option Checkpoint). elim (option_map (λ (c : Checkpoint). c.group) o) [ None ↦ [] | Some g ↦ g.memory ]) made_is

    module _ (mid : TablesView) (frozen' : List Frozen) (p : Prepared) (is : prepared ≡ Some p) (freezes : FreezesAll t mid frozen') where
      free : StandsFor [] (kept_in t) here.state.group
      free = subst (λ (l : List Lease). StandsFor l (kept_in t) here.state.group) due.rests.no_lease s.stands

      was_prepared : IsPrepared here t log p
      was_prepared = subst (λ (o : Option Prepared). IfSome o (IsPrepared here t log)) is s.prepared_is

      abbrev frozen_as : Ckpt
      frozen_as = record { epoch = e; frame = p.frame; frozen = frozen' }

      is_checkpoint : IsCheckpointIn after frozen_as
      is_checkpoint =
          let both = freezes.deltas here.state.group (base_memory here) here.touched free (valid v t log prepared frozen s) s.faces in
          record {
            made = checkpoint here e;
            made_is = made_is;
            delta = subst (λ (memory : List (ℕ × List ℕ)). IsDelta memory frozen_as (group_barrier here.state.group)) (sym memory_before)
                (record { frame = was_prepared.frame due.rests.no_lease; objects = deltas_after (base_memory here) here.state.group here.state.group.frame.objects frozen' both.0 });
            just = just_touched here.touched here.state.group.frame frozen' both.1;
          }

      marked : (leases : List Lease) (out : Out) → out ≡ out_after_barrier mid.io.out → StandsFor leases (kept_in mid) here.state.group → StandsFor leases (kept_in (with_mark mid out)) (group_barrier here.state.group)
      marked leases out same stands = subst (λ (o : Out). StandsFor leases (kept_in (with_mark mid o)) (group_barrier here.state.group)) (sym same) (barrier_stands leases (kept_in mid) here.state.group stands)

      as_many : length frozen' ≡ length p.frozen.items
      as_many =
          let both = freezes.deltas here.state.group (base_memory here) here.touched free (valid v t log prepared frozen s) s.faces in
          AllZip-long (HasJust here.touched) here.state.group.frame.objects frozen' both.1 ∙ sym (ap (λ (l : List ObjectRec). length l) (same_objects t here.leases here.state.group s.stands)) ∙ sym was_prepared.places

      pub barrier_leaves : (out : Out) (log' : Log) (prepared' : Option Prepared) (is_prepared : Bool) (marks : List Mark) (frozen'' : List Frozen) → out ≡ out_after_barrier mid.io.out → OwnersCounted mid → prepared' ≡ None
          → (length frozen' ≡ length p.frozen.items → frozen'' ≡ frozen')
          → log' ≡ record log { marks = log'.marks; turns_since = 0; last = log.last + 1 } → marks ≡ v.marks ++ Barrier (log.last + 1) ∷ [] → HasRoom log' 0
          → Stands (record v { marks = marks; prepared = is_prepared }) (with_mark mid out) log' prepared' (Some (record { epoch = log'.last; frame = p.frame; frozen = frozen'' }))
      barrier_leaves out log' prepared' is_prepared marks frozen'' same owners none list numbers logged_is room =
          let up : log.last + 1 ≡ e = ap (λ (n : ℕ). n + 1) s.counts.last ∙ sym due.rises in
          let last : log'.last ≡ e = ap (λ (l : Log). l.last) numbers ∙ up in
          subst (λ (l : List Mark). Stands (record v { marks = l; prepared = is_prepared }) (with_mark mid out) log' prepared' (Some (record { epoch = log'.last; frame = p.frame; frozen = frozen'' }))) (sym (logged_is ∙ ap (λ (n : ℕ). v.marks ++ Barrier n ∷ []) up))
          (subst (λ (n : ℕ). Stands (logged v (Barrier e) is_prepared) (with_mark mid out) log' prepared' (Some (record { epoch = n; frame = p.frame; frozen = frozen'' }))) (sym last)
          (subst (λ (l : List Frozen). Stands (logged v (Barrier e) is_prepared) (with_mark mid out) log' prepared' (Some (record { epoch = e; frame = p.frame; frozen = l }))) (sym (list as_many))
          (subst (λ (o : Option Prepared). Stands (logged v (Barrier e) is_prepared) (with_mark mid out) log' o (Some frozen_as)) (sym none)
          (stands_logged v (Barrier e) is_prepared t (with_mark mid out) log log' prepared None frozen (Some frozen_as) s due (record {
            stands = marked here.leases out same (subst (λ (k : KeptParts). StandsFor here.leases k here.state.group) (sym freezes.kept) s.stands);
            faces = subst (λ (memory : List (ℕ × List ℕ)). FacesStandOver memory [] (with_mark mid out)) (sym memory_after)
                (faces_with_mark here.state.group.memory [] mid out (freezes.faces here.state.group (base_memory here) here.touched free (valid v t log prepared frozen s) s.faces));
            owners = owners;
            served = record { files = s.served.files; pipes = s.served.pipes; pairs = s.served.pairs; opens = s.served.opens };
            counts = record {
              turns = ap (λ (l : Log). l.turns) numbers ∙ s.counts.turns;
              turns_since = ap (λ (l : Log). l.turns_since) numbers;
              leases = ap (λ (l : Log). l.leases) numbers ∙ s.counts.leases;
              taken = ap (λ (l : Log). l.taken) numbers ∙ s.counts.taken;
              last = last;
              fetched = ap (λ (l : Log). l.fetched) numbers ∙ s.counts.fetched;
              acked = ap (λ (l : Log). l.acked) numbers ∙ s.counts.acked;
            };
            room = room;
            prepared_is = tt;
            frozen_is = record { epoch = refl; unfetched = (let made = (order v t log prepared frozen s).made in let up = due.rises in omega (arith, made, up)); checkpoint = is_checkpoint };
            fetched = λ x. absurd (cc);
          })))))
