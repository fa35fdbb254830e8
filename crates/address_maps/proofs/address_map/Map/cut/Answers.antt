use Rattle.std.proofs.Common.{◌≤◌, length, arith}
use Rattle.std.proofs.lemmas.Bool.{false≢true}
use Rattle.address_maps.specs.Cut.{cut}
use Rattle.address_maps.specs.CutLaws.{cut_mappings, split_adds, split_cut}
use Rattle.address_maps.proofs.address_map.Map.cut.Goals as goal

pub invariant_of-self : goal.invariant_of-self
invariant_of-self c =
    let few_now : length (cut c.args.self.now.entries c.args.start c.args.pages) ≤ 1024 = rw (← c.left_after.ensures) c.if-left_after-gt1024.false in
    let few = rw (← c.self.view_is) at few_now in
    let on = rw c.deref.ensures.value at c.in-Some.ensures.some in
    let within = rw c.deref.ensures.value at c.in-Some.ensures.within in
    rw (split_cut _ _ c.args.start c.args.pages c.in-Some.place c.self.invariant.apart within on c.in_ok-split-in-Some.ensures.ok) (cut_mappings _ c.args.start c.args.pages c.self.invariant c.requires.at_page c.requires.within few)

pub invariant_of-self-in-None : goal.invariant_of-self-in-None
invariant_of-self-in-None c =
    let few_now : length (cut c.args.self.now.entries c.args.start c.args.pages) ≤ 1024 = rw (← c.left_after.ensures) c.if-left_after-gt1024.false in
    let few = rw (← c.self.view_is) at few_now in
    rw c.trim.ensures.items (cut_mappings _ c.args.start c.args.pages c.self.invariant c.requires.at_page c.requires.within few)

pub returns-in_ok-split-in-Some-clause-ok : goal.returns-in_ok-split-in-Some-clause-ok
returns-in_ok-split-in-Some-clause-ok c =
    let on = rw c.deref.ensures.value at c.in-Some.ensures.some in
    let within = rw c.deref.ensures.value at c.in-Some.ensures.within in
    rw (← c.self.view_is) (split_cut _ _ c.args.start c.args.pages c.in-Some.place c.self.invariant.apart within on c.in_ok-split-in-Some.ensures.ok)

pub returns-in_err-split-in-Some-clause-room : goal.returns-in_err-split-in-Some-clause-room
returns-in_err-split-in-Some-clause-room c =
    let on = rw c.deref.ensures.value at c.in-Some.ensures.some in
    let within = rw c.deref.ensures.value at c.in-Some.ensures.within in
    let more = split_adds _ c.args.start c.args.pages c.in-Some.place c.self.invariant.apart within on in
    rw (← c.self.view_is) (λ few needs. absurd (false≢true (c.in_err-split-in-Some.ensures.room (omega (arith, more, needs (omega (arith, more)))))))

pub returns-in_ok-split-in-Some-clause-kept_spare : goal.returns-in_ok-split-in-Some-clause-kept_spare
returns-in_ok-split-in-Some-clause-kept_spare c =
    let on = rw c.deref.ensures.value at c.in-Some.ensures.some in
    let within = rw c.deref.ensures.value at c.in-Some.ensures.within in
    let more = split_adds _ c.args.start c.args.pages c.in-Some.place c.self.invariant.apart within on in
    rw (← c.self.view_is) (λ none. absurd (omega (arith, more, none)))
