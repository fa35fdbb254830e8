-- In a valid group processes are apart.
use Rattle.std.proofs.Common.{Bool, ap, false, sym, true, ◌∙◌, ◌≡◌, refl}
use Rattle.std.proofs.lemmas.Bool.{eq-eqb, false≢true}
use Rattle.std.specs.List.{find}
use Rattle.group_defs.specs.Fork.{maps_privately}
use Rattle.group_defs.specs.Group.{Group, is_runner, runner}
use Rattle.group_defs.specs.Valid.{GroupIsValid}
use Rattle.group_laws.proofs.OthersPrivate.{unmapped_by_others}
use Rattle.group_laws.proofs.ReplyLaws.{found_pid}
use Rattle.group_parts.specs.Parts.{IsApart}

pub valid_apart : (g : Group) → GroupIsValid g → IsApart g
unfolding IsApart runner
valid_apart g valid pid other p q differ found there number maps = by_test (maps_privately q.maps number) refl
  where
    mine : p.pid ≡ pid
    mine = found_pid g.frame.procs pid p found

    its : q.pid ≡ other
    its = found_pid g.frame.procs other q there

    others : p.pid ≡ q.pid → ⊥
    others same = false≢true (sym differ ∙ eq-eqb pid other (sym mine ∙ same ∙ its))

    by_test : (b : Bool) → maps_privately q.maps number ≡ b → b ≡ false
    by_test false e = refl
    by_test true e =
        let none = unmapped_by_others g p q number valid (ap (λ k. find (is_runner k) g.frame.procs) mine ∙ found) (ap (λ k. find (is_runner k) g.frame.procs) its ∙ there) others e in
        absurd (false≢true (sym none ∙ maps))
