-- Pages and meta blocks in their blocks.
use Rattle.std.proofs.Common.{◌≡◌, ℕ, ◌+◌, ◌*◌, ◌<◌, ◌≤◌, inl, inr, Bool, List, [], ◌∷◌, ◌++◌, ◌↔◌, length, map, take, drop, get_or, refl, sym, ap, ap₂, ◌∙◌, subst, arith, length-append}
use Rattle.std.proofs.lemmas.List.{take_all, take_more, map-append, length-map}
use Rattle.std.proofs.lemmas.List.Concat.{flat_map-cons}
use Rattle.std.specs.List.{flat_map, zip}
use Rattle.std.proofs.lemmas.Simd.{map-map}
use Rattle.std.proofs.lemmas.Slice.Zip.{firsts-zip, get_or-zip, seconds-zip}
use Rattle.std.specs.Prelude.{IsTrue, IfNone, IfSome, None, Option, Some}
use Rattle.block_alloc.specs.Free.{is_free, MayBeFree}
use Rattle.ckpt_chain.specs.Chain.{first_of, laid, metas_for}
use Rattle.ckpt_chain.specs.declared.slot.SlotBody.{SlotBody}
use Rattle.group_defs.specs.declared.frame.Frame.{Frame}
use Rattle.ckpt_records.specs.Codec.{number, with_count}
use Rattle.ckpt_records.specs.Holds.{block_numbers, listed_page}
use Rattle.ckpt_records.specs.Runs.{lone_run, runs_of}
use Rattle.ckpt_records.specs.Spelling.{page_run, proc, first_fields, middle, run_record, record_bytes}
use Rattle.ckpt_records.specs.declared.meta.PagePlace.{PagePlace}
use Rattle.commit_gate.specs.declared.whole.Block.{Block}
use Rattle.page_flusher.specs.Plans.{IsLaidOut, in_block, placed}
use Rattle.ckpt_records.specs.Cost.{metas_of, unplaced}
use Rattle.ckpt_records.specs.declared.meta.PageRun.{PageRun}
use Rattle.ckpt_records.specs.Pages.{written_page}
use Rattle.page_flusher.specs.Taking.{Carry, IsLaidAs, IsLaidIn}
use Rattle.page_flusher.specs.declared.plan.Layout.{Layout}
use Rattle.ckpt_records.specs.declared.meta.Page.{Page}
use Rattle.tables.proofs.Ordered.{each_weaker}

-- ---- pages in their places

-- which pages they are, and in which blocks
pub which_placed : (pages : List Page) (places : List ℕ) → length places ≡ length pages → map listed_page (placed pages places) ≡ map written_page pages
unfolding placed
which_placed pages places size = map-map listed_page in_block (zip pages places) ∙ sym (map-map written_page (λ (x : Page × ℕ). x.0) (zip pages places)) ∙ ap (map written_page) (firsts-zip pages places size)

pub blocks_placed : (pages : List Page) (places : List ℕ) → length places ≡ length pages → block_numbers (placed pages places) ≡ places
unfolding placed
blocks_placed pages places size = map-map (λ (p : PagePlace). p.block) in_block (zip pages places) ∙ seconds-zip pages places size

pub length_placed : (pages : List Page) (places : List ℕ) → length places ≡ length pages → length (placed pages places) ≡ length places
length_placed pages places size = sym (length-map (placed pages places) (λ (p : PagePlace). p.block)) ∙ ap length (blocks_placed pages places size)

long_zip : (pages : List Page) (blocks : List ℕ) → length blocks ≡ length pages → length (zip pages blocks) ≡ length pages
long_zip pages blocks same = sym (length-map (zip pages blocks) (λ (x : Page × ℕ). x.0)) ∙ ap length (firsts-zip pages blocks same)

-- one page more, and all
pub placed_more : (pages : List Page) (blocks : List ℕ) (i : ℕ) (p : Page) (list list' : List PagePlace) → length blocks ≡ length pages → i < length pages → p ≡ get_or pages i p → list ≡ map in_block (take i (zip pages blocks))
    → list' ≡ list ++ in_block (p, get_or blocks i 0) ∷ [] → list' ≡ map in_block (take (i + 1) (zip pages blocks))
placed_more pages blocks i p list list' same lt at is more =
    let all = zip pages blocks in
    let there : get_or all i (p, 0) ≡ (p, get_or blocks i 0) = get_or-zip pages blocks i (p, 0) lt (omega (arith, same, lt)) ∙ ap (λ (q : Page). (q, get_or blocks i 0)) (sym at) in
    more ∙ ap₂ (λ (l : List PagePlace) (x : Page × ℕ). l ++ in_block x ∷ []) is (sym there) ∙ sym (map-append in_block (take i all) (get_or all i (p, 0) ∷ [])) ∙ ap (map in_block) (sym (take_more all i (p, 0) (omega (arith, long_zip pages blocks same, lt))))

pub placed_all : (pages : List Page) (blocks : List ℕ) (i : ℕ) → length blocks ≡ length pages → length pages ≤ i → map in_block (take i (zip pages blocks)) ≡ placed pages blocks
unfolding placed
placed_all pages blocks i same past = ap (map in_block) (take_all i (zip pages blocks) (omega (arith, long_zip pages blocks same, past)))

-- ---- the length of a record

run_size : (r : PageRun) → length (page_run 2 r) ≡ 32
unfolding number
run_size r = refl

all_sizes : (runs : List PageRun) → length (flat_map (page_run 2) runs) ≡ 32 * length runs
all_sizes [] = omega arith
all_sizes (r ∷ runs) =
    let e : length (flat_map (page_run 2) (r ∷ runs)) ≡ length (page_run 2 r) + length (flat_map (page_run 2) runs) = ap length (flat_map-cons (page_run 2) r runs) ∙ length-append (page_run 2 r) (flat_map (page_run 2) runs) in
    omega (arith, e, run_size r, all_sizes runs)

number_size : (n : ℕ) → length (number n) ≡ 8
unfolding number
number_size n = refl

runs_size : (runs : List PageRun) → length (with_count (page_run 2) runs) ≡ 8 + 32 * length runs
runs_size runs = omega (arith, length-append (number (length runs)) (flat_map (page_run 2) runs), number_size (length runs), all_sizes runs)

longer_behind : (xs ys zs : List ℕ) (k : ℕ) → length ys ≡ length zs + k → length (xs ++ ys) ≡ length (xs ++ zs) + k
longer_behind xs ys zs k more = omega (arith, length-append xs ys, length-append xs zs, more)

record_size : (f : Frame) (runs : List PageRun) → length (run_record 2 f runs) ≡ length (run_record 2 f []) + 32 * length runs
unfolding run_record
record_size f runs =
    longer_behind (first_fields 2 f) _ _ _ (longer_behind (middle 2 f) _ _ _ (longer_behind (with_count proc f.procs) (with_count (page_run 2) runs) (with_count (page_run 2) []) (32 * length runs) (omega (arith, runs_size runs, runs_size []))))

-- 32 bytes for each page that is a run of its own
pub lone_size : (f : Frame) (pages : List (ℕ × ℕ)) → length (run_record 2 f (map (λ page. lone_run (unplaced page)) pages)) ≡ length (record_bytes 2 f []) + 32 * length pages
unfolding runs_of
lone_size f pages = record_size f (map (λ page. lone_run (unplaced page)) pages) ∙ ap (λ n. length (run_record 2 f []) + 32 * n) (length-map pages (λ page. lone_run (unplaced page)))

-- that a record takes no more meta blocks than one in which each page is a run of its own, as ckpt_records promises it
abbrev pub MetasSuffice : Type 0
MetasSuffice = (f : Frame) (pages : List PagePlace) → metas_for (length (record_bytes 2 f pages)) ≤ metas_of f (map listed_page pages)

-- the meta blocks of pages in these blocks
pub metas_within : MetasSuffice → (f : Frame) (pages : List Page) (places : List ℕ) → length places ≡ length pages → metas_for (length (record_bytes 2 f (placed pages places))) ≤ metas_of f (map written_page pages)
metas_within suffice f pages places size = subst (λ (l : List (ℕ × ℕ)). metas_for (length (record_bytes 2 f (placed pages places))) ≤ metas_of f l) (which_placed pages places size) (suffice f (placed pages places))

-- ---- blocks

pub carry_none : Carry [] [] []
carry_none = record { numbers_are = refl; bytes_are = refl }

pub carry_both : (ns ms : List ℕ) (xs ys : List (List ℕ)) (a b all : List Block) → Carry ns xs a → Carry ms ys b → all ≡ a ++ b → Carry (ns ++ ms) (xs ++ ys) all
carry_both ns ms xs ys a b all first second is = record {
  numbers_are = ap (map (λ (c : Block). c.number)) is ∙ map-append (λ (c : Block). c.number) a b ∙ ap₂ (λ (k l : List ℕ). k ++ l) first.numbers_are second.numbers_are;
  bytes_are = ap (map (λ (c : Block). c.bytes)) is ∙ map-append (λ (c : Block). c.bytes) a b ∙ ap₂ (λ (k l : List (List ℕ)). k ++ l) first.bytes_are second.bytes_are;
}

-- one block more
pub carry_more : (ns : List ℕ) (i : ℕ) (contents contents' : List (List ℕ)) (bytes : List ℕ) (list list' : List Block) → i < length ns → Carry (take i ns) contents list
    → list' ≡ list ++ record { number = get_or ns i 0; bytes = bytes } ∷ [] → contents ++ bytes ∷ [] ≡ contents' → Carry (take (i + 1) ns) contents' list'
carry_more ns i contents contents' bytes list list' lt carry more is =
    let one : Block = record { number = get_or ns i 0; bytes = bytes } in
    let all = carry_both (take i ns) (one.number ∷ []) contents (bytes ∷ []) list (one ∷ []) list' carry (record { numbers_are = refl; bytes_are = refl }) more in
    record { numbers_are = all.numbers_are ∙ sym (take_more ns i 0 lt); bytes_are = all.bytes_are ∙ is }

pub laid_length : (bytes ns : List ℕ) → length (laid bytes ns) ≡ length ns
unfolding laid
laid_length bytes [] = refl
laid_length bytes (n ∷ ns) = let rest = laid_length (drop 4088 bytes) ns in omega (arith, rest)

-- what holds where there is something holds of what there is
pub of_none : {X : Type 0} (found : Option X) (P : Type 0) → found ≡ None → IfNone found P → P
of_none {X = X} found P is holds = subst (λ (o : Option X). IfNone o P) is holds

pub of_some : {X : Type 0} (o : Option X) (x : X) (P : X → Type 0) → o ≡ Some x → IfSome o P → P x
of_some {X = X} o x P is holds = subst (λ (k : Option X). IfSome k P) is holds

abbrev pub body_of : ℕ → ℕ → ℕ → SlotBody
body_of epoch first size = record { format = 2; epoch = epoch; first = first; length = size }

-- a plan of a layout in free blocks
abbrev pub laid_out : (count : ℕ) (used : List ℕ) (old new : List Bool) (epoch : ℕ) (f : Frame) (pages : List Page) (layout : Layout) (blocks : List Block) (body : SlotBody) → ((b : ℕ) → IsTrue (is_free old b) ↔ MayBeFree count used b)
    → IsLaidIn old f pages layout new → IsLaidAs layout epoch pages blocks body → IsLaidOut count used epoch f pages blocks body
laid_out count used old new epoch f pages layout blocks body free lies are =
    let all = layout.places.items ++ layout.metas.items in
    record {
      places = layout.places.items;
      metas = layout.metas.items;
      enough = lies.enough;
      metas_enough = lies.metas_enough ∙ ap (λ (l : List ℕ). metas_for (length l)) lies.record_is;
      numbers_are = are.carry.numbers_are;
      rising = lies.taken.rising;
      free = each_weaker (λ b. IsTrue (is_free old b)) (MayBeFree count used) all (λ b on. (free b).0 on) lies.taken.free;
      least = λ b may. elim (lies.taken.others b ((free b).1 may)) [ inl has ↦ inl has | inr late ↦ inr (lies.taken.left b late).1 ];
      bytes_are = are.carry.bytes_are ∙ ap (λ (l : List ℕ). map (λ (p : Page). p.bytes) pages ++ laid l layout.metas.items) lies.record_is;
      body_is = are.body_is ∙ ap (λ (l : List ℕ). body_of epoch (first_of layout.metas.items) (length l)) lies.record_is;
    }
