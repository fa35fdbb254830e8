-- A call that lets a child run, under the next pid: its part is one more that is here.
use Rattle.std.proofs.Common.{Bool, List, None, Option, Some, [], ap, arith, false, refl, subst, sym, true, ℕ, ◌<◌, ◌==◌, ◌∙◌, ◌≡◌}
use Rattle.std.proofs.lemmas.Bool.{eq-eqb, eqb-true}
use Rattle.std.specs.Option.{option_map}
use Rattle.std.specs.Prelude.{find, if◌then◌else◌}
use Rattle.group_defs.specs.Calls.{answers}
use Rattle.group_defs.specs.Cells.{with_writes}
use Rattle.group_defs.specs.Group.{Group, is_runner, regs_of, runner, with_regs}
use Rattle.group_defs.specs.Step.{after_effect, after_reply, continued, effect_in, group_step, reply_to, written}
use Rattle.group_defs.specs.Valid.{GroupIsValid}
use Rattle.group_defs.specs.declared.frame.Proc.{Proc}
use Rattle.group_laws.proofs.Lists.{found_all}
use Rattle.group_laws.proofs.OthersStay.{found_other, not_both, step_is}
use Rattle.group_laws.proofs.ReplyLaws.{found_pid}
use Rattle.group_parts.proofs.NoneStarts.{steps_leave_all}
use Rattle.group_parts.proofs.Served.{part_continued, public_continued}
use Rattle.group_parts.specs.Kept.{KeptParts, StandsFor, kept_part}
use Rattle.group_parts.specs.Parts.{PrivatePart, part_in, part_of, public_part}
use Rattle.run_defs.specs.Legal.{is_unleased}
use Rattle.run_defs.specs.Progress.{Lease}
use Rattle.rv64_isa.specs.Instruction.{calls}
use Rattle.rv64_isa.specs.Registers.{answered}
use Rattle.tables.specs.Lists.{on_first}

pub clone_served : (durable : Bool) (leases : List Lease) (k : KeptParts) (g : Group) (pid : ℕ) (p : Proc) → StandsFor leases k g → GroupIsValid g → runner g pid ≡ Some p → is_unleased leases pid ≡ true → (value : ℕ) (h : Group) (x child : Proc) (public : Group) (here : List (ℕ × PrivatePart))
    → effect_in g p ≡ calls → reply_to durable g p ≡ answers value h [] → runner h pid ≡ Some x → runner h g.frame.next.pid ≡ Some child → is_unleased leases g.frame.next.pid ≡ true → public ≡ public_part h
    → ((other : ℕ) → kept_part here other ≡ (if pid == other then Some (record (part_in h x) { regs = answered (regs_of p) value }) else if g.frame.next.pid == other then Some (part_in h child) else kept_part k.here other))
    → StandsFor leases (record { public = public; here = here }) (group_step durable g pid)
unfolding runner part_of with_writes
clone_served durable leases k g pid p stands valid is free value h x child public here e reply there born unleased same puts = record {
  public = same ∙ sym (public_continued pid p x mine h there (answered (regs_of p) value) []) ∙ ap public_part (sym step);
  here = λ q. by_pids q (pid == q) (g.frame.next.pid == q) refl refl;
}
  where
    mine : p.pid ≡ pid
    mine = found_pid g.frame.procs pid p is

    step : group_step durable g pid ≡ continued (written h p []) p (answered (regs_of p) value)
    step = (step_is durable g pid).1 p is ∙ ap (after_effect durable g p) e ∙ ap (after_reply g p) reply

    new : (pid == g.frame.next.pid) ≡ false
    new = by_test (pid == g.frame.next.pid) refl
      where
        by_test : (b : Bool) → (pid == g.frame.next.pid) ≡ b → b ≡ false
        by_test false e = refl
        by_test true e =
            let less : p.pid < g.frame.next.pid = found_all (is_runner pid) (λ q. q.pid < g.frame.next.pid) g.frame.procs p is valid.sound.frame.procs.below in
            let it = eqb-true pid g.frame.next.pid e in
            absurd (omega (arith, less, it, mine))

    -- the child goes on as it is in h
    child_runs : find (is_runner g.frame.next.pid) (on_first (is_runner p.pid) (with_regs (answered (regs_of p) value)) h.frame.procs) ≡ Some child
    child_runs =
        found_other (is_runner p.pid) (is_runner g.frame.next.pid) (with_regs (answered (regs_of p) value)) (λ q. refl) (λ q hit. not_both p.pid g.frame.next.pid q (ap (λ n. n == g.frame.next.pid) mine ∙ new) hit) h.frame.procs ∙ born

    by_pids : (q : ℕ) (a b : Bool) → (pid == q) ≡ a → (g.frame.next.pid == q) ≡ b → kept_part here q ≡ (if is_unleased leases q then part_of (group_step durable g pid) q else None)
    by_pids q true b e f =
        let P : ℕ → Type 0 = λ n. kept_part here n ≡ (if is_unleased leases n then part_of (group_step durable g pid) n else None) in
        subst P (eqb-true pid q e)
        (puts pid ∙ ap (λ (t : Bool). if t then Some (record (part_in h x) { regs = answered (regs_of p) value }) else if g.frame.next.pid == pid then Some (part_in h child) else kept_part k.here pid) (eq-eqb pid pid refl)
        ∙ sym (ap (λ (t : Bool). if t then part_of (group_step durable g pid) pid else None) free ∙ ap (λ (y : Group). part_of y pid) step ∙ part_continued pid p x mine h there (answered (regs_of p) value) []))
    by_pids q false true e f =
        let P : ℕ → Type 0 = λ n. kept_part here n ≡ (if is_unleased leases n then part_of (group_step durable g pid) n else None) in
        subst P (eqb-true g.frame.next.pid q f)
        (puts g.frame.next.pid ∙ ap (λ (t : Bool). if t then Some (record (part_in h x) { regs = answered (regs_of p) value }) else if g.frame.next.pid == g.frame.next.pid then Some (part_in h child) else kept_part k.here g.frame.next.pid) new
        ∙ ap (λ (t : Bool). if t then Some (part_in h child) else kept_part k.here g.frame.next.pid) (eq-eqb g.frame.next.pid g.frame.next.pid refl)
        ∙ sym (ap (λ (t : Bool). if t then part_of (group_step durable g pid) g.frame.next.pid else None) unleased ∙ ap (λ (y : Group). part_of y g.frame.next.pid) step ∙ ap (option_map (part_in (continued (written h p []) p (answered (regs_of p) value)))) child_runs))
    by_pids q false false e f =
        puts q ∙ ap (λ (t : Bool). if t then Some (record (part_in h x) { regs = answered (regs_of p) value }) else if g.frame.next.pid == q then Some (part_in h child) else kept_part k.here q) e
        ∙ ap (λ (t : Bool). if t then Some (part_in h child) else kept_part k.here q) f ∙ stands.here q
        ∙ sym (ap (λ (o : Option PrivatePart). if is_unleased leases q then o else None) (steps_leave_all durable g pid q valid e f))
