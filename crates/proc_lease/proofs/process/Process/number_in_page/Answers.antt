use Rattle.std.proofs.Common.{◌∙◌, Some, sym, ap, arith}
use Rattle.std.specs.Option.{option_map}
use Rattle.rv64_isa.specs.Numbers.{number_of}
use Rattle.proc_lease.specs.Private.{private_in, views_of}
use Rattle.proc_lease.proofs.Mapped.{bytes_are, none_first, page_small, place_inside, place_small}
use Rattle.proc_lease.proofs.process.Process.number_in_page.Goals as goal

pub overflow_mul-at : goal.overflow_mul-at
overflow_mul-at c = let small = page_small (views_of c.args.self.now.faces.entries) c.args.self.now.map.entries c.args.right c.args.address c.in-Some.place c.in-Some.ensures.some c.args.self.now.fits in omega (arith, small)

pub overflow_add-at : goal.overflow_add-at
overflow_add-at c = let small = place_small (views_of c.args.self.now.faces.entries) c.args.self.now.map.entries c.args.right c.args.address c.in-Some.place c.in-Some.ensures.some c.args.self.now.fits in omega (arith, small)

pub number_at-requires-clause-inside : goal.number_at-requires-clause-inside
number_at-requires-clause-inside c = place_inside (views_of c.args.self.now.faces.entries) c.args.self.now.map.entries c.args.right c.args.address c.in-Some.place c.in-Some.ensures.some c.args.self.now.fits c.args.n c.requires.within

pub returns-in-Some-clause-value : goal.returns-in-Some-clause-value
returns-in-Some-clause-value c =
    ap Some c.number_at.ensures.value
    ∙ sym (ap (option_map number_of) (bytes_are (views_of c.args.self.now.faces.entries) c.args.self.now.map.entries c.args.right c.args.address c.in-Some.place c.in-Some.ensures.some c.args.self.now.fits c.args.n c.requires.within))

pub returns-in-None-clause-value : goal.returns-in-None-clause-value
returns-in-None-clause-value c =
    let objects = views_of c.args.self.now.faces.entries in
    sym (ap (option_map number_of) (none_first c.args.right (private_in objects c.args.self.now.map.entries) c.args.address c.args.n (omega arith) c.requires.some (c.in-None.ensures.none objects)))
