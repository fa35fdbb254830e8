use Rattle.std.proofs.Common.{is_some, refl, sym, ap, arith}
use Rattle.proc_lease.specs.Private.{private_in, views_of}
use Rattle.proc_lease.proofs.Mapped.{can_be_written, none_first, page_small, place_inside, place_small}
use Rattle.proc_lease.proofs.Views.{nothing_unready}
use Rattle.proc_lease.proofs.process.Process.reserve.Goals as goal

pub overflow_mul-at : goal.overflow_mul-at
overflow_mul-at c = let small = page_small (views_of c.args.self.now.faces.entries) c.args.self.now.map.entries 2 c.args.address c.in-Some.place c.in-Some.ensures.some c.args.self.now.fits in omega (arith, small)

pub overflow_add-at : goal.overflow_add-at
overflow_add-at c = let small = place_small (views_of c.args.self.now.faces.entries) c.args.self.now.map.entries 2 c.args.address c.in-Some.place c.in-Some.ensures.some c.args.self.now.fits in omega (arith, small)

pub reserve_at-requires-clause-inside : goal.reserve_at-requires-clause-inside
reserve_at-requires-clause-inside c = place_inside (views_of c.args.self.now.faces.entries) c.args.self.now.map.entries 2 c.args.address c.in-Some.place c.in-Some.ensures.some c.args.self.now.fits c.args.n c.requires.within

pub returns-in-Ok-clause-able : goal.returns-in-Ok-clause-able
returns-in-Ok-clause-able c =
    sym (can_be_written (views_of c.args.self.now.faces.entries) c.args.self.now.map.entries 2 c.args.address c.in-Some.place c.in-Some.ensures.some c.args.self.now.fits c.args.n c.requires.within refl)

pub returns-in-Err-clause-able_first : goal.returns-in-Err-clause-able_first
returns-in-Err-clause-able_first c =
    can_be_written (views_of c.args.self.now.faces.entries) c.args.self.now.map.entries 2 c.args.address c.in-Some.place c.in-Some.ensures.some c.args.self.now.fits c.args.n c.requires.within refl

pub returns-in-None-clause-able : goal.returns-in-None-clause-able
returns-in-None-clause-able c =
    let objects = views_of c.args.self.now.faces.entries in
    sym (ap is_some (none_first 2 (private_in objects c.args.self.now.map.entries) c.args.address c.args.n (omega arith) c.requires.some (c.in-None.ensures.none objects)))

pub returns-in-None-clause-stays : goal.returns-in-None-clause-stays
returns-in-None-clause-stays c = nothing_unready c.args.self.now.faces.entries
