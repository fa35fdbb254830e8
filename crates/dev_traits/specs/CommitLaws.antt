-- What the writes and syncs of a commit do to the commits that a disk tells.
use Rattle.std.specs.Prelude.{◌≡◌, ◌⊎◌, ℕ, List, [], ◌∷◌, Option, Some, None, refl}
use Rattle.std.proofs.Common.{inl, inr, sym, ◌∙◌, ap, subst}
use Rattle.std.specs.Option.{option_map}
use Rattle.dev_traits.specs.Commits.{OpenCommit, with_write, wrote, synced, unchanged, untold}
use Rattle.dev_traits.specs.Disk.{DiskView, CommitsBy}

-- one call and then another; of two calls that the disk doesn't tell, the list stays
pub commits_then : (u v w : DiskView) (place : ℕ) (bytes : List ℕ) → CommitsBy (wrote place bytes) u v → CommitsBy synced v w → CommitsBy (λ c. synced (wrote place bytes c)) u w
commits_then u v w place bytes (inl first) (inl second) = inl (second ∙ ap synced first)
commits_then u v w place bytes (inl first) (inr second) = inr (second ∙ ap untold first)
commits_then u v w place bytes (inr first) (inl second) = inr (second ∙ ap synced first)
commits_then u v w place bytes (inr first) (inr second) = inr (second ∙ ap untold first)

-- a sync that failed after a write
pub commits_kept : (u v w : DiskView) (place : ℕ) (bytes : List ℕ) → CommitsBy (wrote place bytes) u v → CommitsBy unchanged v w → CommitsBy (wrote place bytes) u w
commits_kept u v w place bytes (inl first) (inl second) = inl (second ∙ first)
commits_kept u v w place bytes (inl first) (inr second) = inr (second ∙ ap untold first)
commits_kept u v w place bytes (inr first) (inl second) = inr (second ∙ first)
commits_kept u v w place bytes (inr first) (inr second) = inr (second ∙ ap untold first)

-- byte 0 in a gate is none of a commit's
closes : (place : ℕ) (o : OpenCommit) → (place ≡ 0) ⊎ (place ≡ 4096) → with_write place (0 ∷ []) o ≡ o
unfolding with_write
closes place o (inl is) = subst (λ (p : ℕ). with_write p (0 ∷ []) o ≡ o) (sym is) refl
closes place o (inr is) = subst (λ (p : ℕ). with_write p (0 ∷ []) o ≡ o) (sym is) refl

closes_now : (place : ℕ) (now : Option OpenCommit) → (place ≡ 0) ⊎ (place ≡ 4096) → option_map (with_write place (0 ∷ [])) now ≡ now
closes_now place None at = refl
closes_now place (Some o) at = ap (λ (x : OpenCommit). Some x) (closes place o at)

pub wrote_close : (u v : DiskView) (place : ℕ) → (place ≡ 0) ⊎ (place ≡ 4096) → CommitsBy (wrote place (0 ∷ [])) u v → CommitsBy unchanged u v
wrote_close u v place at (inl is) = inl (is ∙ ap (λ (now : Option OpenCommit). record u.commits { now = now }) (closes_now place u.commits.now at))
wrote_close u v place at (inr is) = inr is
