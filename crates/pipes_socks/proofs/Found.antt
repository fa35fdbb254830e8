-- An entry that code found in the list that it read from a field, and changed there.
use Rattle.std.proofs.Common.{◌≡◌, ℕ, List, get_or, set, Some, ap, sym, subst, ◌∙◌}
use Rattle.tables.specs.Rising.{Rise, IsPlaceOf, entry_of, changed}
use Rattle.tables.proofs.Numbers.{changed_at, rise_set}

module _ {X : Type 0} (number : X → ℕ) (read field table : List X) (is : read ≡ field) (shows : field ≡ table) (rise : Rise number field) (n k : ℕ) (here : IsPlaceOf number read n k) (z : X) (at : z ≡ get_or field k z) where
  pub in_field : IsPlaceOf number field n k
  in_field = subst (λ (l : List X). IsPlaceOf number l n k) is here

  pub entry_is : entry_of number table n ≡ Some z
  entry_is = ap (λ (l : List X). entry_of number l n) (sym shows) ∙ in_field.entry z ∙ ap (λ (x : X). Some x) (sym at)

  pub number_is : number z ≡ n
  number_is = ap number at ∙ in_field.has z

  -- it has its number still
  pub rise_kept : (y : X) → number y ≡ number z → Rise number (set field k y)
  rise_kept y same = rise_set number field rise n k y in_field (same ∙ number_is)

  -- it became what f makes of it
  pub set_is : (f : X → X) (y : X) → y ≡ f z → set field k y ≡ changed number table n f
  set_is f y made =
      ap (λ (x : X). set field k x) (made ∙ ap f at) ∙ changed_at number field rise n k f z in_field ∙ ap (λ (l : List X). changed number l n f) shows
