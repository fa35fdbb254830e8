use Rattle.std.proofs.Common.{◌≡◌, true, false, sym, ◌∙◌}
use Rattle.std.proofs.lemmas.List.{get_or_default}
use Rattle.group_files.specs.Names.{is_same_name}
use Rattle.group_files.specs.NameLaws.{named_at, not_named_at, not_named_past}
use Rattle.group_files.proofs.search.find_named.Goals as goal
use Rattle.group_files.proofs.search.find_named.Goals.{else-place-files-via-then-place-files+else-eq, else-place-files-via-else-place-files}

pub returns-then-eq : goal.returns-then-eq
returns-then-eq c =
    let first = c.index-files-place.result in
    let again = c.index-files-place-then-eq.result in
    let same : again ≡ first = c.index-files-place-then-eq.is ∙ get_or_default c.args.files.now c.place_of-place.result again first c.if-place-files.true ∙ sym c.index-files-place.is in
    let hit : is_same_name first.name c.args.name.now ≡ true = rw (← c.name.ensures) (sym c.eq.ensures ∙ c.if-eq.true) in
    rw same (sym (named_at c.args.files.now c.requires c.args.name.now first c.place_of-place.result c.place_of-place.ensures.place c.if-place-files.true c.index-files-place.is hit))

pub returns-else-place-files : goal.returns-else-place-files
returns-else-place-files c =
    let place = c.place_of-place.ensures.place in
    elim c.else-place-files.branch [
      | else-place-files-via-then-place-files+else-eq w ↦
          let miss : is_same_name w.index-files-place.result.name c.args.name.now ≡ false = rw (← w.name.ensures) (sym w.eq.ensures ∙ w.if-eq.false) in
          sym (not_named_at c.args.files.now c.requires c.args.name.now w.index-files-place.result c.place_of-place.result place w.if-place-files.true w.index-files-place.is miss)
      | else-place-files-via-else-place-files w ↦ sym (not_named_past c.args.files.now c.requires c.args.name.now c.place_of-place.result place w.if-place-files.false)
    ]
