-- The step behind a lease's local ones, by what comes of it: a shared instruction, a call that waits, is refused or answers.
use Rattle.std.proofs.Common.{Bool, List, None, Option, Some, [], ap, false, map, not, refl, subst, sym, true, ℕ, ◌-◌, ◌==◌, ◌^◌, ◌∙◌, ◌≡◌}
use Rattle.std.proofs.Math.Path.{fun_ext}
use Rattle.std.proofs.lemmas.Bool.{eq-eqb, eqb-true}
use Rattle.std.specs.Option.{option_map}
use Rattle.std.specs.Prelude.{find, if◌then◌else◌}
use Rattle.descriptors.specs.EntryLaws.{found_after}
use Rattle.group_defs.specs.Calls.{answers, refuses, waits}
use Rattle.group_defs.specs.Cells.{with_writes}
use Rattle.group_defs.specs.Fork.{maps_privately}
use Rattle.group_defs.specs.Group.{Group, is_runner, regs_of, runner, with_regs}
use Rattle.group_defs.specs.Step.{after_effect, after_reply, continued, effect_in, group_step, reply_to, written}
use Rattle.group_defs.specs.Valid.{GroupIsValid}
use Rattle.group_defs.specs.declared.calls.TheConstants.{CLONE}
use Rattle.group_defs.specs.declared.frame.Proc.{Proc}
use Rattle.group_laws.proofs.OthersStay.{step_is}
use Rattle.group_laws.proofs.ReplyLaws.{found_pid}
use Rattle.group_parts.proofs.LocalSteps.{same_private, same_processes}
use Rattle.group_parts.proofs.Memory.{Memory, kept_in, kept_writes}
use Rattle.group_parts.proofs.NoneStarts.{by_caller, others_by, steps_leave_others}
use Rattle.group_parts.proofs.OthersParts.{parts}
use Rattle.group_parts.specs.Kept.{KeptParts, PutsPart, StandsFor, kept_part}
use Rattle.group_parts.specs.Parts.{PrivatePart, is_public, part_in, part_of, public_part, public_process}
use Rattle.group_parts.specs.Served.{answered_part, effect_clones, step_clones, stored_in}
use Rattle.run_defs.specs.Legal.{is_unleased}
use Rattle.run_defs.specs.Progress.{Lease}
use Rattle.rv64_isa.specs.Instruction.{calls, list_of, steps}
use Rattle.rv64_isa.specs.Memory.{Write}
use Rattle.rv64_isa.specs.Registers.{answered, call_number}
use Rattle.rv64_isa.specs.declared.regs.Regs.{Regs}
use Rattle.tables.specs.Lists.{on_first}

-- What is kept stands for a group again where it has the public part and this process's, and all others stayed.
pub stands_on : (leases : List Lease) (k new : KeptParts) (g h : Group) (pid : ℕ) → StandsFor leases k g → is_unleased leases pid ≡ true → ((q : ℕ) → (pid == q) ≡ false → part_of h q ≡ part_of g q)
    → new.public ≡ public_part h → kept_part new.here pid ≡ part_of h pid → ((q : ℕ) → (pid == q) ≡ false → kept_part new.here q ≡ kept_part k.here q) → StandsFor leases new h
stands_on leases k new g h pid stands free same public mine others = record { public = public; here = λ q. by_pid q (pid == q) refl }
  where
    by_pid : (q : ℕ) (t : Bool) → (pid == q) ≡ t → kept_part new.here q ≡ (if is_unleased leases q then part_of h q else None)
    by_pid q true e =
        let P : ℕ → Type 0 = λ n. kept_part new.here n ≡ (if is_unleased leases n then part_of h n else None) in
        subst P (eqb-true pid q e) (mine ∙ sym (ap (λ (t : Bool). if t then part_of h pid else None) free))
    by_pid q false e = others q e ∙ stands.here q ∙ sym (ap (λ (o : Option PrivatePart). if is_unleased leases q then o else None) (same q e))

-- The caller goes on in a group h, in which it is x.
module _ (pid : ℕ) (p x : Proc) (mine : p.pid ≡ pid) (h : Group) (there : runner h pid ≡ Some x) (r : Regs) (writes : List Write) where
  abbrev after : Group
  after = continued (written h p writes) p r

  self : runner after pid ≡ Some (with_regs r x)
  unfolding runner
  self =
      ap (λ (n : ℕ). find (is_runner pid) (on_first (is_runner n) (with_regs r) h.frame.procs)) mine
      ∙ found_after (is_runner pid) (with_regs r) (λ q hit. hit) h.frame.procs ∙ ap (option_map (with_regs r)) there

  pub part_continued : part_of after pid ≡ Some (answered_part (part_in h x) r p.maps writes)
  unfolding part_of
  part_continued = ap (option_map (part_in after)) self ∙ ap (λ (m : Memory). Some (parts (with_regs r x) m)) (kept_writes (maps_privately x.maps) h.memory p.maps writes)

  pub public_continued : public_part after ≡ stored_in (public_part h) p.maps writes
  unfolding public_part
  public_continued =
      ap (λ (l : List Proc). made l (kept_in (is_public after.frame.procs) after.memory)) (same_processes p.pid r h.frame.procs)
      ∙ ap (λ (keep : ℕ → Bool). made (map public_process h.frame.procs) (kept_in keep after.memory)) keep_same
      ∙ ap (λ (m : Memory). made (map public_process h.frame.procs) m) (kept_writes (is_public h.frame.procs) h.memory p.maps writes)
    where
      made : List Proc → Memory → Group
      made procs memory = record { frame = record h.frame { procs = procs }; memory = memory }

      keep_same : is_public after.frame.procs ≡ is_public h.frame.procs
      keep_same = fun_ext (λ n. ap not (same_private (is_runner p.pid) r h.frame.procs n))

module _ (durable : Bool) (leases : List Lease) (k : KeptParts) (g : Group) (pid : ℕ) (p : Proc) (stands : StandsFor leases k g) (valid : GroupIsValid g) (is : runner g pid ≡ Some p) (free : is_unleased leases pid ≡ true) where
  mine : p.pid ≡ pid
  unfolding runner
  mine = found_pid g.frame.procs pid p is

  goes_on : (h : Group) (x : Proc) (r : Regs) (writes : List Write) (public : Group) (here : List (ℕ × PrivatePart)) → runner h pid ≡ Some x → group_step durable g pid ≡ continued (written h p writes) p r → ((q : ℕ) → (pid == q) ≡ false → part_of (group_step durable g pid) q ≡ part_of g q)
      → public ≡ public_part h → PutsPart k.here here pid (answered_part (part_in h x) r p.maps writes) → StandsFor leases (record { public = stored_in public p.maps writes; here = here }) (group_step durable g pid)
  goes_on h x r writes public here there step others same puts =
      stands_on leases k (record { public = stored_in public p.maps writes; here = here }) g (group_step durable g pid) pid stands free others
      (ap (λ (y : Group). stored_in y p.maps writes) same ∙ sym (public_continued pid p x mine h there r writes) ∙ ap public_part (sym step))
      (puts pid ∙ ap (λ (t : Bool). if t then Some (answered_part (part_in h x) r p.maps writes) else kept_part k.here pid) (eq-eqb pid pid refl) ∙ sym (ap (λ (y : Group). part_of y pid) step ∙ part_continued pid p x mine h there r writes))
      (λ q differ. puts q ∙ ap (λ (t : Bool). if t then Some (answered_part (part_in h x) r p.maps writes) else kept_part k.here q) differ)

  step_of : group_step durable g pid ≡ after_effect durable g p (effect_in g p)
  step_of = (step_is durable g pid).1 p is

  -- only registers change
  others_rest : (r : Regs) (writes : List Write) → group_step durable g pid ≡ continued (written g p writes) p r → (q : ℕ) → (pid == q) ≡ false → part_of (group_step durable g pid) q ≡ part_of g q
  unfolding runner
  others_rest r writes step q differ = others_by durable g pid q valid differ (λ none. ap (λ (h : Group). find (is_runner q) h.frame.procs) step ∙ by_caller durable g p q (ap (λ k. k == q) mine ∙ differ) none (with_regs r) (λ y. refl) g none)

  pub instruction_served : (r : Regs) (stored : Option Write) (here : List (ℕ × PrivatePart)) → effect_in g p ≡ steps r stored → PutsPart k.here here pid (answered_part (part_in g p) r p.maps (list_of stored))
      → StandsFor leases (record { public = stored_in k.public p.maps (list_of stored); here = here }) (group_step durable g pid)
  instruction_served r stored here e puts =
      let step = step_of ∙ ap (after_effect durable g p) e in
      goes_on g p r (list_of stored) k.public here is step (others_rest r (list_of stored) step) stands.public puts

  pub wait_served : effect_in g p ≡ calls → reply_to durable g p ≡ waits → StandsFor leases k (group_step durable g pid)
  wait_served e reply = subst (StandsFor leases k) (sym (step_of ∙ ap (after_effect durable g p) e ∙ ap (after_reply g p) reply)) stands

  pub refusal_served : (errno : ℕ) (here : List (ℕ × PrivatePart)) → effect_in g p ≡ calls → reply_to durable g p ≡ refuses errno → PutsPart k.here here pid (record (part_in g p) { regs = answered (regs_of p) (2 ^ 64 - errno) })
      → StandsFor leases (record k { here = here }) (group_step durable g pid)
  unfolding with_writes
  refusal_served errno here e reply puts =
      let r = answered (regs_of p) (2 ^ 64 - errno) in
      let step : group_step durable g pid ≡ continued (written g p []) p r = step_of ∙ ap (after_effect durable g p) e ∙ ap (after_reply g p) reply in
      goes_on g p r [] k.public here is step (others_rest r [] step) stands.public puts

  pub answer_served : (value : ℕ) (h : Group) (writes : List Write) (x : Proc) (public : Group) (here : List (ℕ × PrivatePart)) → effect_in g p ≡ calls → (call_number (regs_of p) == CLONE) ≡ false → reply_to durable g p ≡ answers value h writes → runner h pid ≡ Some x
      → public ≡ public_part h → PutsPart k.here here pid (answered_part (part_in h x) (answered (regs_of p) value) p.maps writes) → StandsFor leases (record { public = stored_in public p.maps writes; here = here }) (group_step durable g pid)
  unfolding step_clones
  answer_served value h writes x public here e other reply there same puts =
      let clones_not : step_clones g pid ≡ false = ap (λ (o : Option Proc). elim o [ None ↦ false | Some y ↦ effect_clones y (effect_in g y) ]) is ∙ ap (effect_clones p) e ∙ other in
      goes_on h x (answered (regs_of p) value) writes public here there (step_of ∙ ap (after_effect durable g p) e ∙ ap (after_reply g p) reply) (λ q differ. steps_leave_others durable g pid q valid differ clones_not) same puts
