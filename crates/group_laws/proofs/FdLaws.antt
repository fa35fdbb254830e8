-- Descriptors that are added, replaced and taken out.
use Rattle.std.proofs.Common.{◌≡◌, ℕ, zero, suc, ◌+◌, ◌^◌, ◌<◌, not, ◌==◌, List, [], ◌∷◌, Option, Some, None, refl, ap, sym, ◌∙◌, subst, arith}
use Rattle.std.specs.Prelude.{All, Any, if◌then◌else◌, is_none, nat_lt, slice_index}
use Rattle.std.specs.List.{prefix_len}
use Rattle.std.specs.Option.{option_map}
use Rattle.std.proofs.lemmas.List.Elements.{All-cons, All-filter, All-head, All-tail}
use Rattle.descriptors.specs.Descriptors.{AreDescriptors, Installed, free_from, installed, lowest_free, number_at, with_fd, with_number, without_fd}
use Rattle.descriptors.specs.SmallLaws.{are_added, are_replaced}
use Rattle.tables.specs.Rising.{added, entry_of, replaced}
use Rattle.group_laws.proofs.Lists.{found_all, insert_all, insert_any, insert_new, on_first_all}

-- what holds of each description that descriptors are at
abbrev pub EachAt : (ℕ → Type 0) → List (ℕ × ℕ) → Type 0
EachAt P fds = All (λ d. P d.1) fds

pub number_all : (P : ℕ → Type 0) (fds : List (ℕ × ℕ)) (fd n : ℕ) → number_at fds fd ≡ Some n → EachAt P fds → P n
number_all P fds fd n at all = by_entry (entry_of (λ d. d.0) fds fd) refl at
  where
    by_entry : (o : Option (ℕ × ℕ)) → entry_of (λ d. d.0) fds fd ≡ o → option_map (λ d. d.1) o ≡ Some n → P n
    by_entry None e is = absurd (cc)
    by_entry (Some d) e is = let same : d.1 ≡ n = cc in subst P same (found_all (λ x. x.0 == fd) (λ x. P x.1) fds d e all)

-- a free number
free_is : (fds : List (ℕ × ℕ)) (low n fd : ℕ) → free_from fds low n ≡ Some fd → (fd < low + n) × (number_at fds fd ≡ None)
unfolding free_from
free_is fds low zero fd e = absurd (cc)
free_is fds low (suc n) fd e = by_entry (number_at fds low) refl e (free_is fds (low + 1) n fd)
  where
    by_entry : (o : Option ℕ) → number_at fds low ≡ o → (if is_none o then Some low else free_from fds (low + 1) n) ≡ Some fd → (free_from fds (low + 1) n ≡ Some fd → (fd < low + 1 + n) × (number_at fds fd ≡ None)) → (fd < low + suc n) × (number_at fds fd ≡ None)
    by_entry None e is more = let same : low ≡ fd = cc in (omega (arith, same), ap (number_at fds) (sym same) ∙ e)
    by_entry (Some x) e is more = let rest = more is in let lt = rest.0 in (omega (arith, lt), rest.1)

pub lowest_is : (fds : List (ℕ × ℕ)) (fd : ℕ) → lowest_free fds ≡ Some fd → (fd < 64) × (number_at fds fd ≡ None)
lowest_is fds fd e = let is = free_is fds 0 64 fd e in let lt = is.0 in (omega (arith, lt), is.1)

added_is : (fds : List (ℕ × ℕ)) (fd n : ℕ) → number_at fds fd ≡ None → with_fd fds fd n ≡ added (λ d. d.0) fds (fd, n)
added_is fds fd n none = ap (λ (o : Option ℕ). elim o [ None ↦ added (λ d. d.0) fds (fd, n) | Some before ↦ replaced (λ d. d.0) fds (fd, n) ]) none

-- a descriptor more, or at another description
pub with_fd_are : (fds : List (ℕ × ℕ)) (fd n : ℕ) → fd < 64 → AreDescriptors fds → AreDescriptors (with_fd fds fd n)
with_fd_are fds fd n lt are = by_entry (number_at fds fd) refl
  where
    by_entry : (o : Option ℕ) → number_at fds fd ≡ o → AreDescriptors (elim o [ None ↦ added (λ d. d.0) fds (fd, n) | Some before ↦ replaced (λ d. d.0) fds (fd, n) ])
    by_entry None e = are_added fds fd n lt e are
    by_entry (Some before) e = are_replaced fds fd n lt are

pub with_fd_all : (P : ℕ → Type 0) (fds : List (ℕ × ℕ)) (fd n : ℕ) → P n → EachAt P fds → EachAt P (with_fd fds fd n)
with_fd_all P fds fd n p all = by_entry (number_at fds fd)
  where
    by_entry : (o : Option ℕ) → EachAt P (elim o [ None ↦ added (λ d. d.0) fds (fd, n) | Some before ↦ replaced (λ d. d.0) fds (fd, n) ])
    by_entry None = insert_all (λ d. P d.1) fds (prefix_len (λ d. nat_lt d.0 fd) fds) (fd, n) p all
    by_entry (Some before) = on_first_all (λ d. d.0 == fd) (λ d. (fd, n)) (λ d. P d.1) fds (λ d e old. p) all

pub without_all : (P : ℕ → Type 0) (fds : List (ℕ × ℕ)) (fd : ℕ) → EachAt P fds → EachAt P (without_fd fds fd)
without_all P fds fd all = All-filter (λ d. not (d.0 == fd)) (λ d. P d.1) fds all

-- What is installed: the table stays one, the numbers are below 64, nothing is lost, and each new description has a descriptor.
pub record AreInstalled (fds : List (ℕ × ℕ)) (numbers : List ℕ) (i : Installed) : Type 0 where
  pub are : AreDescriptors i.fds
  pub small : All (λ fd. fd < 64) i.numbers
  pub old : (n : ℕ) → Any (λ d. d.1 ≡ n) fds → Any (λ d. d.1 ≡ n) i.fds
  pub new : All (λ n. Any (λ d. d.1 ≡ n) i.fds) numbers

module _ (fds : List (ℕ × ℕ)) (n : ℕ) (more : List ℕ) (i : Installed) where
  -- the first one's number, and the rest
  pub record First : Type 0 where
    pub fd : ℕ
    pub rest : Installed
    pub lowest : lowest_free fds ≡ Some fd
    pub rest_is : installed (with_fd fds fd n) more ≡ Some rest
    pub is : with_number fd rest ≡ i

  first_of : installed fds (n ∷ more) ≡ Some i → First
  unfolding installed
  first_of e = by_lowest (lowest_free fds) refl e
    where
      by_rest : (fd : ℕ) → lowest_free fds ≡ Some fd → (q : Option Installed) → installed (with_fd fds fd n) more ≡ q → option_map (with_number fd) q ≡ Some i → First
      by_rest fd low None q_is e = absurd (cc)
      by_rest fd low (Some j) q_is e = record { fd = fd; rest = j; lowest = low; rest_is = q_is; is = cc }

      by_lowest : (o : Option ℕ) → lowest_free fds ≡ o → elim o [ None ↦ None | Some fd ↦ option_map (with_number fd) (installed (with_fd fds fd n) more) ] ≡ Some i → First
      by_lowest None low e = absurd (cc)
      by_lowest (Some fd) low e = by_rest fd low (installed (with_fd fds fd n) more) refl e

pub installed_are : (numbers : List ℕ) (fds : List (ℕ × ℕ)) (i : Installed) → installed fds numbers ≡ Some i → AreDescriptors fds → AreInstalled fds numbers i
unfolding installed
installed_are [] fds i e are =
    let same : record { numbers = []; fds = fds } ≡ i = cc in
    subst (AreInstalled fds []) same (record { are = are; small = λ k d lt. absurd (omega (arith, lt)); old = λ n any. any; new = λ k d lt. absurd (omega (arith, lt)) })
installed_are (n ∷ more) fds i e are =
    let f = first_of fds n more i e in
    let low = lowest_is fds f.fd f.lowest in
    let rest = installed_are more (with_fd fds f.fd n) f.rest f.rest_is (with_fd_are fds f.fd n low.0 are) in
    let place : ℕ = prefix_len (λ d. nat_lt d.0 f.fd) fds in
    let one_more : (m : ℕ) → Any (λ d. d.1 ≡ m) fds → Any (λ d. d.1 ≡ m) (with_fd fds f.fd n) = λ m any. subst (Any (λ d. d.1 ≡ m)) (sym (added_is fds f.fd n low.1)) (insert_any (λ d. d.1 ≡ m) fds place (f.fd, n) any) in
    let here : Any (λ d. d.1 ≡ n) (with_fd fds f.fd n) = subst (Any (λ d. d.1 ≡ n)) (sym (added_is fds f.fd n low.1)) (insert_new (λ d. d.1 ≡ n) fds place (f.fd, n) refl) in
    subst (AreInstalled fds (n ∷ more)) f.is (record {
      are = rest.are;
      small = All-cons (λ fd. fd < 64) f.fd f.rest.numbers low.0 rest.small;
      old = λ m any. rest.old m (one_more m any);
      new = All-cons (λ m. Any (λ d. d.1 ≡ m) f.rest.fds) n more (rest.old n here) rest.new;
    })

pub installed_all : (P : ℕ → Type 0) (numbers : List ℕ) (fds : List (ℕ × ℕ)) (i : Installed) → installed fds numbers ≡ Some i → EachAt P fds → All P numbers → EachAt P i.fds
unfolding installed
installed_all P [] fds i e all new = let same : record { numbers = []; fds = fds } ≡ i = cc in subst (λ j. EachAt P j.fds) same all
installed_all P (n ∷ more) fds i e all new =
    let f = first_of fds n more i e in
    subst (λ j. EachAt P j.fds) f.is (installed_all P more (with_fd fds f.fd n) f.rest f.rest_is (with_fd_all P fds f.fd n (All-head P n more new) all) (All-tail P n more new))

-- the first number fits an answer
pub first_small : (numbers : List ℕ) → All (λ fd. fd < 64) numbers → slice_index numbers 0 < 2 ^ 64
first_small [] small = omega arith
first_small (fd ∷ more) small = let lt = small 0 fd (omega arith) in omega (arith, lt)
