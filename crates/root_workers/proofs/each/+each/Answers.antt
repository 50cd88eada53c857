use Rattle.std.proofs.Common.{◌≡◌, ◌+◌, length, slice_index_or, sym, subst, rules}
use Rattle.std.specs.Fork.{AcceptsAt, ChangesAt}
use Rattle.root_workers.proofs.Places.{first_of, others_of, at_all, none_behind}
use Rattle.root_workers.proofs.each.+each.Goals as goal

pub each_from-at_one-requires : goal.each_from-at_one-requires
each_from-at_one-requires g t c =
    first_of (AcceptsAt g.F.Fn c.args.f.now) c.args.from c.in-Some.first.now c.in-Some.rest.now c.args.s.now c.in-Some.ensures.cases.0 c.requires.accepts

pub each_from-returns-then-is_empty : goal.each_from-returns-then-is_empty
each_from-returns-then-is_empty g t c =
    let none : length c.in-Some.rest.now ≡ 0 = search rules in
    at_all (ChangesAt g.F.Fn c.args.f.now) c.args.from c.in-Some.first.now c.at_one.new.it c.in-Some.rest.now c.in-Some.rest.now c.at_one.ensures
    (none_behind (ChangesAt g.F.Fn c.args.f.now) c.args.from c.in-Some.rest.now c.in-Some.rest.now none) c.args.s.now c.in-Some.ensures.cases.0

pub each_from-both-requires-clause-first : goal.each_from-both-requires-clause-first
each_from-both-requires-clause-first g t c κs within =
    first_of (AcceptsAt g.F.Fn c.args.f.now) c.args.from c.in-Some.first.now c.in-Some.rest.now c.args.s.now c.in-Some.ensures.cases.0 c.requires.accepts

pub each_from-both-requires-clause-rest : goal.each_from-both-requires-clause-rest
each_from-both-requires-clause-rest g t c κs within =
    others_of (AcceptsAt g.F.Fn c.args.f.now) c.args.from c.in-Some.first.now c.in-Some.rest.now c.args.s.now c.in-Some.ensures.cases.0 c.requires.accepts

pub each_from-returns : goal.each_from-returns
each_from-returns g t c =
    at_all (ChangesAt g.F.Fn c.args.f.now) c.args.from c.in-Some.first.now c.both.new.first c.in-Some.rest.now c.both.new.rest c.both.ensures.first c.both.ensures.rest c.args.s.now c.in-Some.ensures.cases.0

pub both-returns-clause-first : goal.both-returns-clause-first
both-returns-clause-first g t c =
    let met = c.join_mut.ensures.0.met in
    let name = sym {a = c.join_mut.new.f.2.ghost_name} met.0.2 in
    subst (λ y. ChangesAt g.F.Fn c.args.f.now c.args.from c.args.first.now y) {x = c.join_mut.new.f.2.now} (search rules) met.1

pub both-returns-clause-rest : goal.both-returns-clause-rest
both-returns-clause-rest g t c k d less =
    let met = c.join_mut.ensures.1.met in
    let name = sym {a = c.join_mut.new.g.3.ghost_name} met.0.3 in
    subst (λ ys. ChangesAt g.F.Fn c.args.f.now (c.args.from + 1 + k) (slice_index_or c.args.rest.now k d) (slice_index_or ys k d)) {x = c.join_mut.new.g.3.now} (search rules) (met.1 k d less)
