-- What a reply has to be for the step to keep a group valid.
use Rattle.std.proofs.Common.{◌≡◌, ℕ, ◌-◌, ◌^◌, ◌<◌, ◌≤◌, Bool, true, ◌==◌, List, length, get_or, Some, refl, ap, sym, ◌∙◌, subst, length-set, arith}
use Rattle.std.specs.Prelude.{All, Any, filter, find}
use Rattle.std.specs.Option.{option_map}
use Rattle.std.proofs.lemmas.Bool.{and_parts, eqb-true}
use Rattle.std.proofs.lemmas.List.Elements.{All-set}
use Rattle.std.proofs.lemmas.List.Sums.{length-filter}
use Rattle.descriptors.specs.EntryLaws.{found_after}
use Rattle.group_defs.specs.Calls.{Reply, waits, refuses, answers, ends}
use Rattle.group_defs.specs.Changes.{on_caller, with_procs}
use Rattle.group_defs.specs.Group.{Group, is_runner, is_running, regs_of, with_regs}
use Rattle.group_defs.specs.Held.{settled}
use Rattle.group_defs.specs.Numbers.{RegsFit}
use Rattle.lists.specs.Bytes.{AreBytes}
use Rattle.group_defs.specs.Objects.{maps_object, mappers}
use Rattle.group_defs.specs.Processes.{IsWaitStatus}
use Rattle.group_defs.specs.Step.{after_reply, continued, written}
use Rattle.group_defs.specs.Valid.{GroupIsValid}
use Rattle.group_defs.specs.declared.frame.Proc.{Proc}
use Rattle.group_files.specs.declared.named_files.FileRec.{FileRec}
use Rattle.rv64_isa.specs.Memory.{Write}
use Rattle.rv64_isa.specs.Registers.{answered}
use Rattle.rv64_isa.specs.declared.regs.Regs.{Regs}
use Rattle.tables.specs.Lists.{on_first}
use Rattle.group_laws.proofs.CallerLaws.{CallerFits, RegsAre, caller_fits, continued_valid}
use Rattle.group_laws.proofs.EndingLaws.{ended_valid}
use Rattle.group_laws.proofs.Lists.{any_at, any_filter, found_is, true_any}
use Rattle.group_laws.proofs.SettledLaws.{equal}
use Rattle.group_laws.proofs.StoreLaws.{NoFile, written_valid}

-- An answer: the group is valid, the caller runs in it, and what is stored misses the files.
pub record Keeps (p : Proc) (value : ℕ) (h : Group) (writes : List Write) : Type 0 where
  pub value_fits : value < 2 ^ 64
  pub valid : GroupIsValid h
  pub caller : Proc
  pub runs : find (is_runner p.pid) h.frame.procs ≡ Some caller
  pub bytes : All (λ w. AreBytes w.bytes) writes
  pub no_file : NoFile h.frame.files p.maps

abbrev pub ReplyKeeps : Proc → Reply Group → Type 0
ReplyKeeps p waits = Unit {0}
ReplyKeeps p (refuses errno) = (1 ≤ errno) × (errno < 2 ^ 64)
ReplyKeeps p (answers value h writes) = Keeps p value h writes
ReplyKeeps p (ends status) = IsWaitStatus status

-- the caller's registers after an answer
pub answered_fits : (p : Proc) (value : ℕ) → CallerFits p → value < 2 ^ 64 → RegsAre (answered (regs_of p) value)
unfolding RegsFit
answered_fits p value c lt =
    let regs = c.regs in let pc = c.pc in
    record {
      pc = omega arith;
      aligned = omega (arith, pc);
      count = length-set p.regs 9 value ∙ regs.1;
      values = All-set (λ x. x < 2 ^ 64) p.regs 9 value lt regs.2;
    }

-- who is found has the pid
pub found_pid : (procs : List Proc) (pid : ℕ) (q : Proc) → find (is_runner pid) procs ≡ Some q → q.pid ≡ pid
found_pid procs pid q found = of_any (found_is (is_runner pid) procs q found)
  where
    of_any : Any (λ x. (x ≡ q) × (is_runner pid x ≡ true)) procs → q.pid ≡ pid
    of_any (k, x, lt, is, both) = sym (ap (λ y. y.pid) both.0) ∙ eqb-true x.pid pid (and_parts (is_running x) (x.pid == pid) both.1).1

pub goes_on : (h : Group) (p q : Proc) (r : Regs) → RegsAre r → find (is_runner p.pid) h.frame.procs ≡ Some q → GroupIsValid h → GroupIsValid (continued h p r)
goes_on h p q r fit found v =
    let same : q.pid ≡ p.pid = found_pid h.frame.procs p.pid q found in
    let found' : find (is_runner q.pid) h.frame.procs ≡ Some q = ap (λ n. find (is_runner n) h.frame.procs) same ∙ found in
    subst (λ n. GroupIsValid (with_procs h (on_first (is_runner n) (with_regs r) h.frame.procs))) same (continued_valid h q r fit found' v)

-- The law: a reply that is as it has to be keeps the group valid.
pub reply_valid : (g : Group) (p : Proc) (r : Reply Group) → find (is_runner p.pid) g.frame.procs ≡ Some p → GroupIsValid g → ReplyKeeps p r → GroupIsValid (after_reply g p r)
reply_valid g p waits found v k = v
reply_valid g p (refuses errno) found v k =
    goes_on g p p (answered (regs_of p) (2 ^ 64 - errno)) (answered_fits p (2 ^ 64 - errno) (caller_fits g.frame.next.pid p.pid g.frame.procs p refl found v.sound.frame.procs) (let low = k.0 in omega (arith, low))) found v
reply_valid g p (answers value h writes) found v k =
    goes_on (written h p writes) p k.caller (answered (regs_of p) value) (answered_fits p value (caller_fits g.frame.next.pid p.pid g.frame.procs p refl found v.sound.frame.procs) k.value_fits) k.runs (written_valid h p.maps writes k.no_file k.bytes k.valid)
reply_valid g p (ends status) found v k = ended_valid g p status v.sound found k

-- In a valid group the caller maps no file's object.
pub maps_no_file : (g : Group) (p : Proc) → find (is_runner p.pid) g.frame.procs ≡ Some p → GroupIsValid g → NoFile g.frame.files p.maps
unfolding mappers maps_object
maps_no_file g p found v k m lt i d lt' same =
    let file : FileRec = get_or g.frame.files i d in
    let none = v.sound.frame.maps.unmapped i d lt' in
    let maps : maps_object file.object p ≡ true = true_any (λ x. x.object == file.object) p.maps (any_at (λ x. (x.object == file.object) ≡ true) p.maps k m lt (equal (get_or p.maps k m).object file.object same)) in
    let some = counted p (maps_object file.object) g.frame.procs (found_is (is_runner p.pid) g.frame.procs p found) maps in
    omega (arith, some, none, length-filter (maps_object file.object) g.frame.procs)
  where
    counted : (p : Proc) (q : Proc → Bool) (procs : List Proc) → Any (λ x. (x ≡ p) × (is_runner p.pid x ≡ true)) procs → q p ≡ true → 1 ≤ length (filter q procs)
    counted p q procs there passes =
        let kept : Any (λ x. (x ≡ p) × (is_runner p.pid x ≡ true)) (filter q procs) = any_filter (λ x. (x ≡ p) × (is_runner p.pid x ≡ true)) q (λ x is. ap q is.0 ∙ passes) procs there in
        let lt = kept.2 in omega (arith, lt)

-- a call that changes nothing
pub same_keeps : (g : Group) (p : Proc) (value : ℕ) (writes : List Write) → find (is_runner p.pid) g.frame.procs ≡ Some p → GroupIsValid g → value < 2 ^ 64 → All (λ w. AreBytes w.bytes) writes → Keeps p value g writes
same_keeps g p value writes found v lt bytes = record { value_fits = lt; valid = v; caller = p; runs = found; bytes = bytes; no_file = maps_no_file g p found v }

-- the caller is found where it was, changed
pub changed_runs : (g : Group) (p : Proc) (f : Proc → Proc) → ((q : Proc) → is_runner p.pid q ≡ true → is_runner p.pid (f q) ≡ true) → find (is_runner p.pid) g.frame.procs ≡ Some p → find (is_runner p.pid) (on_caller g p f).frame.procs ≡ Some (f p)
changed_runs g p f keeps found = found_after (is_runner p.pid) f keeps g.frame.procs ∙ ap (option_map f) found

pub settled_procs : (g : Group) → (settled g).frame.procs ≡ g.frame.procs
unfolding settled
settled_procs g = refl

pub settled_files : (g : Group) → (settled g).frame.files ≡ g.frame.files
unfolding settled
settled_files g = refl
