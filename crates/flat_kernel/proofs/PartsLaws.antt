-- Parts of at most one process, as the engine's group.
use Rattle.std.proofs.Common.{◌≡◌, ℕ, zero, suc, ◌+◌, ◌-◌, ◌<◌, ◌≤◌, true, List, [], ◌∷◌, ◌++◌, length, map, take, get_or, refl, sym, ap, ◌∙◌, subst, arith, append_assoc, append-nil, length-append}
use Rattle.std.specs.Prelude.{All, IsTrue}
use Rattle.std.proofs.lemmas.Bool.{false≢true}
use Rattle.std.proofs.lemmas.List.Elements.{All-head, All-nil}
use Rattle.std.proofs.lemmas.List.{length-map, map-append, take_all}
use Rattle.std.specs.List.{flat_map, range_with_len}
use Rattle.std.specs.declared.alloc.Global.{Global}
use Rattle.std.specs.declared.vec.Vec.{Vec}
use Rattle.group_defs.specs.declared.frame.Frame.{Frame}
use Rattle.group_defs.specs.declared.frame.ObjectRec.{ObjectRec}
use Rattle.group_defs.specs.declared.frame.Proc.{Proc}
use Rattle.group_defs.specs.declared.frame.ProcState.TheVariants.{Running, Ended}
use Rattle.group_defs.specs.declared.frame.ProcState.{ProcState}
use Rattle.address_maps.specs.declared.maps.Mapping.{Mapping}
use Rattle.group_files.specs.declared.named_files.FileRec.{FileRec}
use Rattle.descriptors.specs.declared.opens.Open.{Open}
use Rattle.pipes_socks.specs.declared.streams.Pair.{Pair}
use Rattle.pipes_socks.specs.declared.streams.Pipe.{Pipe}
use Rattle.group_defs.specs.Built.{IsAlone, OnlyBuilt}
use Rattle.group_defs.specs.Held.{is_held, is_kept}
use Rattle.group_defs.specs.Group.{Group}
use Rattle.address_maps.specs.Mappings.{AreApart}
use Rattle.group_defs.specs.Mappings.{IsUserMapping}
use Rattle.group_defs.specs.Objects.{is_of_file}
use Rattle.tables.specs.Rising.{Rise}
use Rattle.group_defs.specs.Processes.{ProcValid, EndedValid, HasParent, StateValid}
use Rattle.group_defs.specs.Valid.{FrameValid, GroupIsValid}
use Rattle.mem_objects.specs.Pages.{Pages}
use Rattle.ckpt_records.specs.Parts.{memory_of, object_bytes, page_in}
use Rattle.flat_kernel.specs.Engine.{ended_group, frame_with}
use Rattle.flat_kernel.specs.Memory.{TableFits, memory_in}

-- ---- one more

row_more : (f : ℕ → List ℕ) (a n : ℕ) → flat_map f (range_with_len a (suc n)) ≡ flat_map f (range_with_len a n) ++ f (a + n)
row_more f a zero =
    let at : a ≡ a + 0 = omega arith in
    append-nil (f a) ∙ ap f at
row_more f a (suc n) =
    let at : a + 1 + n ≡ a + suc n = omega arith in
    ap (λ (row : List ℕ). f a ++ row) (row_more f (a + 1) n ∙ ap (λ (k : ℕ). flat_map f (range_with_len (a + 1) n) ++ f k) at)
    ∙ sym (append_assoc (f a) (flat_map f (range_with_len (a + 1) n)) (f (a + suc n)))

pub object_more : (n : ℕ) (layer : Pages) → object_bytes (n + 1) layer ≡ object_bytes n layer ++ page_in layer n
unfolding object_bytes
object_more n layer =
    let next : n + 1 ≡ suc n = omega arith in
    let at : 0 + n ≡ n = omega arith in
    ap (λ (k : ℕ). flat_map (page_in layer) (range_with_len 0 k)) next ∙ row_more (page_in layer) 0 n ∙ ap (λ (k : ℕ). flat_map (page_in layer) (range_with_len 0 n) ++ page_in layer k) at

pub object_none : (layer : Pages) → object_bytes 0 layer ≡ []
unfolding object_bytes
object_none layer = refl

pub memory_none : (objects : List ObjectRec) (layers : List (ℕ × Pages)) → memory_of (take 0 objects) (take 0 layers) ≡ []
unfolding memory_of
memory_none objects layers = refl

abbrev entry : ObjectRec → ℕ × Pages → ℕ × List ℕ
entry o l = (o.number, object_bytes o.pages l.1)

more : (k : ℕ) (objects : List ObjectRec) (layers : List (ℕ × Pages)) (o : ObjectRec) (l : ℕ × Pages) → k < length objects → k < length layers
    → memory_of (take (suc k) objects) (take (suc k) layers) ≡ memory_of (take k objects) (take k layers) ++ entry (get_or objects k o) (get_or layers k l) ∷ []
unfolding memory_of
more k [] layers o l lt there = absurd (omega (arith, lt))
more k (x ∷ xs) [] o l lt there = absurd (omega (arith, there))
more zero (x ∷ xs) (y ∷ ys) o l lt there = refl
more (suc k) (x ∷ xs) (y ∷ ys) o l lt there = ap (λ (m : List (ℕ × List ℕ)). entry x y ∷ m) (more k xs ys o l (omega (arith, lt)) (omega (arith, there)))

pub memory_more : (k : ℕ) (objects : List ObjectRec) (layers : List (ℕ × Pages)) (o : ObjectRec) (l : ℕ × Pages) → k < length objects → k < length layers
    → memory_of (take (k + 1) objects) (take (k + 1) layers) ≡ memory_of (take k objects) (take k layers) ++ ((get_or objects k o).number, object_bytes (get_or objects k o).pages (get_or layers k l).1) ∷ []
memory_more k objects layers o l lt there =
    let next : k + 1 ≡ suc k = omega arith in
    ap (λ (n : ℕ). memory_of (take n objects) (take n layers)) next ∙ more k objects layers o l lt there

same_length : (objects : List ObjectRec) (layers : List (ℕ × Pages)) → map (λ l. l.0) layers ≡ map (λ o. o.number) objects → length layers ≡ length objects
same_length objects layers same =
    sym (length-map layers (λ (l : ℕ × Pages). l.0)) ∙ ap (λ (ns : List ℕ). length ns) same ∙ length-map objects (λ (o : ObjectRec). o.number)

-- with the bytes of the next object behind them
pub memory_next : (objects : List ObjectRec) (layers : List (ℕ × Pages)) (k : ℕ) (whole new : List (ℕ × Vec ℕ Global)) (bytes : Vec ℕ Global) (o : ObjectRec) (l : ℕ × Pages)
    → k < length objects → map (λ l. l.0) layers ≡ map (λ o. o.number) objects
    → memory_in whole ≡ memory_of (take k objects) (take k layers) → bytes.items ≡ object_bytes (get_or objects k o).pages (get_or layers k l).1
    → new ≡ whole ++ ((get_or objects k o).number, bytes) ∷ [] → memory_in new ≡ memory_of (take (k + 1) objects) (take (k + 1) layers)
memory_next objects layers k whole new bytes o l lt same before are pushed =
    let there : k < length layers = omega (arith, lt, same_length objects layers same) in
    let number : ℕ = (get_or objects k o).number in
    ap memory_in pushed ∙ map-append (λ (x : ℕ × Vec ℕ Global). (x.0, x.1.items)) whole ((number, bytes) ∷ [])
    ∙ ap (λ (m : List (ℕ × List ℕ)). m ++ (number, bytes.items) ∷ []) before
    ∙ ap (λ (bs : List ℕ). memory_of (take k objects) (take k layers) ++ (number, bs) ∷ []) are
    ∙ sym (memory_more k objects layers o l lt there)

pub memory_all : (objects : List ObjectRec) (layers : List (ℕ × Pages)) (k : ℕ) → length objects ≤ k → map (λ l. l.0) layers ≡ map (λ o. o.number) objects
    → memory_of (take k objects) (take k layers) ≡ memory_of objects layers
memory_all objects layers k le same =
    let all : take k layers ≡ layers = take_all k layers (omega (arith, le, same_length objects layers same)) in
    ap (λ (os : List ObjectRec). memory_of os (take k layers)) (take_all k objects le) ∙ ap (memory_of objects) all

pub small_objects : (g : Group) → GroupIsValid g → All (λ o. o.pages ≤ 16384) g.frame.objects
small_objects g valid = valid.sound.frame.objects.sizes

-- ---- the only process

no_parent : (p : Proc) → HasParent (p ∷ []) p → ⊥
unfolding HasParent
no_parent p (zero, q, lt, at, is) = omega (arith, ap (λ (r : Proc). r.pid) at, is.2)
no_parent p (suc k, q, lt, at, is) = omega (arith, lt)

runs_in : (p : Proc) (state : ProcState) → StateValid (p ∷ []) p state → state ≡ Running
unfolding EndedValid
runs_in p Running valid = refl
runs_in p (Ended status) valid = absurd (no_parent p valid.0)

runs : (p : Proc) → ProcValid (p ∷ []) p → p.state ≡ Running
unfolding ProcValid
runs p valid = runs_in p p.state valid

pub only_one : (procs rest : List Proc) (p : Proc) → length procs ≤ 1 → procs ≡ rest ++ p ∷ [] → procs ≡ p ∷ []
only_one procs [] p one last = last
only_one procs (q ∷ rest) p one last = absurd (omega (arith, one, ap (λ (ps : List Proc). length ps) last, length-append rest (p ∷ [])))

abbrev pub running_alone : Proc → Proc
running_alone p = record p { parent = 0; state = Running }

runs_alone : (p : Proc) → p.parent ≡ 0 → p.state ≡ Running → running_alone p ≡ p
runs_alone p parent state =
    let with_parent : ℕ → ProcState → Proc = λ n s. record p { parent = n; state = s } in
    sym (ap (λ (n : ℕ). with_parent n p.state) parent ∙ ap (with_parent 0) state)

abbrev framed : Frame → List Proc → List Pipe → List Pair → List FileRec → Frame
framed f procs pipes pairs files = record f { procs = procs; pipes = pipes; pairs = pairs; files = files }

frame_is : (f : Frame) (procs : List Proc) → OnlyBuilt f → f.procs ≡ procs → f ≡ frame_with procs f.objects f.opens f.next f.out
frame_is f procs built are =
    ap (λ (ps : List Proc). framed f ps f.pipes f.pairs f.files) are
    ∙ ap (λ (pipes : List Pipe). framed f procs pipes f.pairs f.files) built.pipes
    ∙ ap (λ (pairs : List Pair). framed f procs [] pairs f.files) built.pairs
    ∙ ap (λ (files : List FileRec). framed f procs [] [] files) built.files

one_frame : (f : Frame) (p : Proc) → FrameValid f → OnlyBuilt f → f.procs ≡ p ∷ [] → frame_with (running_alone p ∷ []) f.objects f.opens f.next f.out ≡ f
unfolding IsAlone
one_frame f p valid built one =
    let is_alone : IsAlone p = All-head IsAlone p [] (subst (All IsAlone) one built.alone) in
    let is_valid : ProcValid (p ∷ []) p = All-head (ProcValid (p ∷ [])) p [] (subst (λ (ps : List Proc). All (ProcValid ps) ps) one valid.sound.procs.states) in
    ap (λ (q : Proc). frame_with (q ∷ []) f.objects f.opens f.next f.out) (runs_alone p is_alone.0 (runs p is_valid)) ∙ sym (frame_is f (p ∷ []) built one)

abbrev pub grouped : Frame → List (ℕ × List ℕ) → Group
grouped f memory = record { frame = f; memory = memory }

-- the group of a frame with one process
pub group_of_one : (f : Frame) (p : Proc) (memory whole : List (ℕ × List ℕ)) → FrameValid f → OnlyBuilt f → f.procs ≡ p ∷ [] → whole ≡ memory
    → grouped (frame_with (running_alone p ∷ []) f.objects f.opens f.next f.out) whole ≡ grouped f memory
group_of_one f p memory whole valid built one same = ap (λ (g : Frame). grouped g whole) (one_frame f p valid built one) ∙ ap (grouped f) same

-- ---- no process

pub none_popped : (procs rest : List Proc) (count : ℕ) → count ≡ 0 → procs ≡ rest ++ [] → rest ≡ take (count - 1) procs → procs ≡ []
none_popped procs rest count none last are = last ∙ append-nil rest ∙ are ∙ ap (λ (n : ℕ). take (n - 1) procs) none

none_left : {X : Type 0} (P : X → Type 0) (xs : List X) → ((x : X) → P x → ⊥) → All P xs → xs ≡ []
none_left P [] never all = refl
none_left P (x ∷ xs) never all = absurd (never x (All-head P x xs all))

not_kept : (n : ℕ) → is_kept [] [] n ≡ true → ⊥
unfolding is_kept is_of_file
not_kept n kept = false≢true kept

not_held : (n : ℕ) → is_held [] [] n ≡ true → ⊥
unfolding is_held
not_held n held = false≢true held

no_objects : (f : Frame) → FrameValid f → OnlyBuilt f → f.procs ≡ [] → f.objects ≡ []
no_objects f valid built none =
    none_left (λ o. IsTrue (is_kept f.files f.procs o.number)) f.objects
    (λ o is. not_kept o.number (subst (λ (ps : List Proc). is_kept [] ps o.number ≡ true) none (subst (λ (files : List FileRec). is_kept files f.procs o.number ≡ true) built.files is)))
    valid.held.objects

no_opens : (f : Frame) → FrameValid f → OnlyBuilt f → f.procs ≡ [] → f.opens ≡ []
no_opens f valid built none =
    none_left (λ o. IsTrue (is_held f.procs f.pairs o.number)) f.opens
    (λ o is. not_held o.number (subst (λ (ps : List Proc). is_held ps [] o.number ≡ true) none (subst (λ (pairs : List Pair). is_held f.procs pairs o.number ≡ true) built.pairs is)))
    valid.held.opens

empty_fits : TableFits [] []
unfolding AreApart Rise
empty_fits = record {
  placed = All-nil IsUserMapping;
  apart = λ i j d less end. absurd (omega (arith, end));
  unshared = λ k d end. absurd (omega (arith, end));
  inside = λ k d end. absurd (omega (arith, end));
  rise = λ i j d less end. absurd (omega (arith, end));
  bytes = λ k d end. absurd (omega (arith, end));
  sizes = λ k d end. absurd (omega (arith, end));
}

pub nothing_fits : (memory : List (ℕ × List ℕ)) (maps : List Mapping) → memory ≡ [] → maps ≡ [] → TableFits memory maps
nothing_fits memory maps none unmapped = subst (λ (m : List (ℕ × List ℕ)). TableFits m maps) (sym none) (subst (TableFits []) (sym unmapped) empty_fits)

-- the group of a frame without a process
pub group_of_none : (f : Frame) (layers : List (ℕ × Pages)) → FrameValid f → OnlyBuilt f → f.procs ≡ []
    → ended_group f.next f.out ≡ grouped f (memory_of f.objects layers)
unfolding memory_of
group_of_none f layers valid built none =
    let objects = no_objects f valid built none in
    let whole : List ObjectRec → List Open → Frame = λ os ds. frame_with [] os ds f.next f.out in
    sym (ap (λ (g : Frame). grouped g (memory_of f.objects layers)) (frame_is f [] built none)
    ∙ ap (λ (os : List ObjectRec). grouped (whole os f.opens) (memory_of os layers)) objects
    ∙ ap (λ (ds : List Open). grouped (whole [] ds) []) (no_opens f valid built none))
