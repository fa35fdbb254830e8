-- What reads of a disk leave: all but its time, its faults and whether it tells its commits.
use Rattle.std.specs.Prelude.{◌≡◌, ◌⊎◌, ℕ, ◌≤◌, List}
use Rattle.std.proofs.Common.{inl, inr, ⊎_elim, refl, ◌∙◌, ap, arith}
use Rattle.dev_traits.specs.Commits.{Commits, unchanged, untold}
use Rattle.dev_traits.specs.Disk.{DiskView, LeftNow, Passes, NoMore, NoLess, CommitsBy}

-- any number of reads lie between before and after
pub record OnlyReads (before after : DiskView) : Type 0 where
  pub blocks : after.blocks ≡ before.blocks
  pub reading : after.reading ≡ before.reading
  pub writes : after.writes ≡ before.writes
  pub faults : before.faults ≤ after.faults
  pub no_more : NoMore before after
  pub no_less : NoLess before after
  pub time : Passes before after
  pub commits : CommitsBy unchanged before after

pub no_reads : (v : DiskView) → OnlyReads v v
no_reads v = record {
  blocks = refl;
  reading = refl;
  writes = refl;
  faults = omega arith;
  no_more = λ image left. left;
  no_less = λ image left. left;
  time = record { later = omega arith; since = λ t image le left. inl left; kept = λ t image le left. left };
  commits = inl refl;
}

passes_on : (a b c : DiskView) → Passes a b → Passes b c → NoLess b c → Passes a c
passes_on a b c first second no_less = record {
  later = omega (arith, first.later, second.later);
  since = λ t image le left.
      ⊎_elim (λ l. ⊎_elim (λ k. inl k) (λ here. inr (no_less image here)) (first.since t image le l)) (λ here. inr here) (second.since t image (omega (arith, le, first.later)) left);
  kept = λ t image le left. second.kept t image (omega (arith, le, first.later)) (first.kept t image le left);
}

commits_on : (a b c : Commits) → (b ≡ a) ⊎ (b ≡ untold a) → (c ≡ b) ⊎ (c ≡ untold b) → (c ≡ a) ⊎ (c ≡ untold a)
commits_on a b c (inl x) (inl y) = inl (y ∙ x)
commits_on a b c (inl x) (inr y) = inr (y ∙ ap untold x)
commits_on a b c (inr x) (inl y) = inr (y ∙ x)
commits_on a b c (inr x) (inr y) = inr (y ∙ ap untold x)

-- some reads, and then some more
pub reads_on : (a b c : DiskView) → OnlyReads a b → OnlyReads b c → OnlyReads a c
reads_on a b c first second = record {
  blocks = second.blocks ∙ first.blocks;
  reading = second.reading ∙ first.reading;
  writes = second.writes ∙ first.writes;
  faults = omega (arith, first.faults, second.faults);
  no_more = λ image left. first.no_more image (second.no_more image left);
  no_less = λ image left. second.no_less image (first.no_less image left);
  time = passes_on a b c first.time second.time second.no_less;
  commits = commits_on a.commits b.commits c.commits first.commits second.commits;
}
