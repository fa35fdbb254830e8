-- With no lease out, the frame of the tables as a barrier leaves it is that of the group after its barrier.
use Rattle.std.proofs.Common.{◌≡◌, ℕ, suc, ◌+◌, ◌<◌, ◌==◌, Bool, true, false, List, [], ◌∷◌, length, map, get_or, Option, Some, None, refl, sym, ap, ◌∙◌, arith, subst}
use Rattle.std.proofs.lemmas.Bool.{and_parts, false≢true}
use Rattle.std.proofs.lemmas.List.Elements.{recursion_from_All}
use Rattle.std.specs.Prelude.{All, Any, find, if◌then◌else◌, replicate}
use Rattle.std.specs.List.{AllByRecursion}
use Rattle.std.specs.Option.{option_map}
use Rattle.group_defs.specs.Group.{Group, is_runner, is_running, runner}
use Rattle.group_defs.specs.Output.{out_after_barrier}
use Rattle.group_defs.specs.Standing.{group_barrier}
use Rattle.group_defs.specs.Valid.{GroupIsValid, OutValid}
use Rattle.group_defs.specs.declared.frame.Frame.{Frame}
use Rattle.group_defs.specs.declared.frame.Out.{Out}
use Rattle.group_defs.specs.declared.frame.Proc.{Proc}
use Rattle.group_defs.specs.declared.frame.ProcState.{ProcState}
use Rattle.group_defs.specs.declared.frame.ProcState.TheVariants.{Running, Ended}
use Rattle.group_parts.specs.Kept.{KeptParts, StandsFor, filled, kept_part, with_part}
use Rattle.group_parts.specs.Parts.{PrivatePart, part_in, part_of, public_part, public_process, shared_mappings}
use Rattle.group_laws.proofs.Lists.{any_at, any_weaker, found_is}
use Rattle.group_laws.proofs.ReplyLaws.{found_pid}
use Rattle.group_laws.proofs.SettledLaws.{rise_unique}
use Rattle.group_parts.proofs.Runners.{runner_found}
use Rattle.group_parts.proofs.Whole.{whole_frame}
use Rattle.proc_lease.specs.declared.process.Process.{Process}
use Rattle.run_defs.specs.Progress.{Lease}
use Rattle.tables.specs.Rising.{Rise}
use Rattle.group_kernel.specs.Held.{TablesView, kept_in, marked_frame, public_row, with_part_here}
use Rattle.group_kernel.specs.Leases.{part_held}
use Rattle.group_kernel.specs.declared.row.Row.{Row}
use Rattle.group_kernel.proofs.HereParts.{here_of}
use Rattle.group_kernel.proofs.RowPids.{here_at, pids_rise, public_pid}

abbrev with_of : Row → Option Process → Proc
with_of row o = elim o [ None ↦ record (public_row row) { regs = replicate 31 0 } | Some p ↦ record (public_row row) { pc = p.regs.pc; regs = p.regs.x; maps = p.map.entries } ]

-- A row whose private part is what the group has of its process: with it, or ended.
one_with : (row : Row) (here : List (ℕ × PrivatePart)) → kept_part here row.pid ≡ option_map part_held row.process → (row.process ≡ None → is_running (public_row row) ≡ false) → (is_running (public_row row) ≡ false → row.process ≡ None)
    → with_part here (public_row row) ≡ with_part_here row
one_with row here at none ended = by_process row.process refl
  where
    still : (s : ProcState) → row.state ≡ s → is_running (record (public_row row) { state = s }) ≡ false → public_row row ≡ record (public_row row) { regs = replicate 31 0 }
    still Running e f = absurd (false≢true (sym f))
    still (Ended status) e f = rw e refl

    runs : (p : Process) → row.process ≡ Some p → (b : Bool) → is_running (public_row row) ≡ b → b ≡ true
    runs p e true f = refl
    runs p e false f = absurd (cc (sym e ∙ ended f))

    by_process : (o : Option Process) → row.process ≡ o → with_part here (public_row row) ≡ with_of row row.process
    by_process None e =
        ap (λ (t : Bool). if t then filled (kept_part here row.pid) (public_row row) else public_row row) (none e)
        ∙ still row.state refl (none e)
        ∙ ap (with_of row) (sym e)
    by_process (Some p) e =
        ap (λ (t : Bool). if t then filled (kept_part here row.pid) (public_row row) else public_row row) (runs p e (is_running (public_row row)) refl)
        ∙ ap (λ (found : Option PrivatePart). filled found (public_row row)) (at ∙ ap (option_map part_held) e)
        ∙ ap (with_of row) (sym e)

no_part : (o : Option Process) → option_map part_held o ≡ None → o ≡ None
no_part None e = refl
no_part (Some p) e = absurd (cc)

-- what the group has of a process: its part where it runs, else none
pub record HasPart (g : Group) (p : Proc) : Type 0 where
  pub runs : is_running p ≡ true → part_of g p.pid ≡ Some (part_in g p)
  pub ended : is_running p ≡ false → part_of g p.pid ≡ None

public_runs : (p : Proc) → is_running (public_process p) ≡ is_running p
public_runs p = by_test (is_running p) refl
  where
    by_test : (t : Bool) → is_running p ≡ t → is_running (if t then record p { pc = 0; regs = []; maps = shared_mappings p.maps } else p) ≡ is_running p
    by_test true e = refl
    by_test false e = refl

one_row : (g : Group) (row : Row) (p : Proc) (here : List (ℕ × PrivatePart)) → public_row row ≡ public_process p → kept_part here row.pid ≡ option_map part_held row.process → kept_part here row.pid ≡ part_of g row.pid → HasPart g p
    → with_part here (public_row row) ≡ with_part_here row
one_row g row p here same at stands has =
    let pid : row.pid ≡ p.pid = ap (λ (x : Proc). x.pid) same ∙ public_pid p in
    let alike : is_running (public_row row) ≡ is_running p = ap is_running same ∙ public_runs p in
    let part : option_map part_held row.process ≡ part_of g p.pid = sym at ∙ stands ∙ ap (part_of g) pid in
    one_with row here at (λ none. alike ∙ by_test (is_running p) refl (ap (option_map part_held) (sym none) ∙ part)) (λ e. no_part row.process (part ∙ has.ended (sym alike ∙ e)))
  where
    by_test : (b : Bool) → is_running p ≡ b → None ≡ part_of g p.pid → b ≡ false
    by_test false e f = refl
    by_test true e f = absurd (cc (f ∙ has.runs e))

all_rows : (g : Group) (here : List (ℕ × PrivatePart)) (rows : List Row) (procs : List Proc) → map public_row rows ≡ map public_process procs
    → AllByRecursion (λ (row : Row). (kept_part here row.pid ≡ option_map part_held row.process) × (kept_part here row.pid ≡ part_of g row.pid)) rows → AllByRecursion (HasPart g) procs
    → map (with_part here) (map public_row rows) ≡ map with_part_here rows
all_rows g here [] procs same each has = refl
all_rows g here (row ∷ rows) [] same each has = absurd (cc)
all_rows g here (row ∷ rows) (p ∷ ps) same each has =
    let first : public_row row ≡ public_process p = cc in
    let rest : map public_row rows ≡ map public_process ps = cc in
    ap (λ (x : Proc). x ∷ map (with_part here) (map public_row rows)) (one_row g row p here first each.0.0 each.0.1 has.0)
    ∙ ap (λ (l : List Proc). with_part_here row ∷ l) (all_rows g here rows ps rest each.1 has.1)

test_found : {X : Type 0} (t : X → Bool) (xs : List X) (x : X) → find t xs ≡ Some x → t x ≡ true
test_found t xs x e = let (k, y, lt, at, holds) = found_is t xs x e in ap t (sym holds.0) ∙ holds.1

has_part : (g : Group) (p : Proc) → Rise (λ q. q.pid) g.frame.procs → Any (λ q. q ≡ p) g.frame.procs → HasPart g p
unfolding part_of runner
has_part g p rise there = record {
  runs = λ runs. ap (option_map (part_in g)) (runner_found g.frame.procs p rise there runs);
  ended = λ e. ap (option_map (part_in g)) (by_found (find (is_runner p.pid) g.frame.procs) refl e);
}
  where
    by_found : (o : Option Proc) → find (is_runner p.pid) g.frame.procs ≡ o → is_running p ≡ false → o ≡ None
    by_found None found e = refl
    by_found (Some q) found e =
        let its : q.pid ≡ p.pid = found_pid g.frame.procs p.pid q found in
        let same : q ≡ p = rise_unique (λ x. x.pid) g.frame.procs q p rise (any_weaker (λ x. (x ≡ q) × (is_runner p.pid x ≡ true)) (λ x. x ≡ q) g.frame.procs (λ x both. both.0) (found_is (is_runner p.pid) g.frame.procs q found)) there its in
        let runs = and_parts (is_running q) (q.pid == p.pid) (test_found (is_runner p.pid) g.frame.procs q found) in
        absurd (false≢true (sym e ∙ ap is_running (sym same) ∙ runs.0))

module _ (t : TablesView) (g : Group) (stands : StandsFor [] (kept_in t) g) (valid : GroupIsValid g) where
  rows_are : map public_row t.rows ≡ map public_process g.frame.procs
  unfolding public_part
  rows_are = ap (λ (x : Group). x.frame.procs) stands.public

  each_row : All (λ (row : Row). (kept_part (kept_in t).here row.pid ≡ option_map part_held row.process) × (kept_part (kept_in t).here row.pid ≡ part_of g row.pid)) t.rows
  each_row k d lt = (here_at t.rows k d (pids_rise t [] g stands valid) lt, stands.here (get_or t.rows k d).pid)

  each_proc : All (HasPart g) g.frame.procs
  each_proc k d lt = has_part g (get_or g.frame.procs k d) valid.sound.frame.procs.rise (any_at (λ q. q ≡ get_or g.frame.procs k d) g.frame.procs k d lt refl)

  procs_are : map with_part_here t.rows ≡ g.frame.procs
  procs_are =
      sym (all_rows g (kept_in t).here t.rows g.frame.procs rows_are
      (recursion_from_All (λ (row : Row). (kept_part (kept_in t).here row.pid ≡ option_map part_held row.process) × (kept_part (kept_in t).here row.pid ≡ part_of g row.pid)) t.rows each_row)
      (recursion_from_All (HasPart g) g.frame.procs each_proc))
      ∙ sym (ap (λ (f : Frame). f.procs) (whole_frame g (kept_in t) stands valid.sound.frame.procs.rise))

  pub marked_is : marked_frame t ≡ (group_barrier g).frame
  unfolding public_part
  marked_is =
      ap (λ (procs : List Proc). record (kept_in t).public.frame { procs = procs; out = out_after_barrier t.io.out }) procs_are
      ∙ ap (λ (x : Group). record x.frame { procs = g.frame.procs; out = out_after_barrier x.frame.out }) stands.public

pub tables_out : (t : TablesView) (leases : List Lease) (g : Group) → StandsFor leases (kept_in t) g → t.io.out ≡ g.frame.out
unfolding public_part
tables_out t leases g stands = ap (λ (x : Group). x.frame.out) stands.public

pub out_valid : (t : TablesView) (leases : List Lease) (g : Group) → StandsFor leases (kept_in t) g → GroupIsValid g → OutValid t.io.out
out_valid t leases g stands valid = subst OutValid (sym (tables_out t leases g stands)) valid.sound.frame.out.positions

-- the same of tables with leases that are none, and of tables of the same parts
pub marked_free : (t : TablesView) (leases : List Lease) (g : Group) → leases ≡ [] → StandsFor leases (kept_in t) g → GroupIsValid g → marked_frame t ≡ (group_barrier g).frame
marked_free t leases g none stands valid = marked_is t g (subst (λ (l : List Lease). StandsFor l (kept_in t) g) none stands) valid

pub same_out_valid : (t t' : TablesView) (leases : List Lease) (g : Group) → kept_in t' ≡ kept_in t → StandsFor leases (kept_in t) g → GroupIsValid g → OutValid t'.io.out
same_out_valid t t' leases g same stands valid = out_valid t' leases g (subst (λ (k : KeptParts). StandsFor leases k g) (sym same) stands) valid
