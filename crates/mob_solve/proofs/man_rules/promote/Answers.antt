use Rattle.std.proofs.Common.{◌≡◌, ◌∙◌, true, sym, refl}
use Rattle.cha_board.specs.declared.men.Kind.{Kind}
use Rattle.cha_board.specs.declared.men.Kind.TheVariants.{Knight, Bishop, Rook, Queen}
use Rattle.mob_solve.specs.Reaching.{sets_in}
use Rattle.mob_check.specs.Rules.{ends_on}
use Rattle.mob_solve.proofs.Reaches.{has_before}
use Rattle.mob_solve.proofs.RowRules.{ends_nowhere}
use Rattle.mob_check.proofs.RowRules.{shown, shows, each_promotion}
use Rattle.mob_solve.proofs.man_rules.promote.Goals as goal

pub returns-then-not-is-clause-rules : goal.returns-then-not-is-clause-rules
returns-then-not-is-clause-rules c = λ still j promotion t small ends.
    absurd (ends_nowhere c.args.ground.now c.args.side c.args.kind c.args.row t (sym c.is.ensures ∙ c.if-not-is.true) ends)

pub returns-then-bishop-clause-inside : goal.returns-then-bishop-clause-inside
returns-then-bishop-clause-inside c = λ r given within.
    let f = ends_on c.args.ground.now c.args.side c.args.kind c.args.row in
    let last = shown c.ends-last.result f c.ends-last.ensures in
    let one = c.join-queen.ensures.inside r (λ u h. given Queen refl u (last u h).0 (last u h).1) within in
    let two = c.join-rook.ensures.inside r (λ u h. given Rook refl u (last u h).0 (last u h).1) one in
    let three = c.join-bishop.ensures.inside r (λ u h. given Bishop refl u (last u h).0 (last u h).1) two in
    c.join-knight.ensures.inside r (λ u h. given Knight refl u (last u h).0 (last u h).1) three

pub returns-else-bishop-clause-inside : goal.returns-else-bishop-clause-inside
returns-else-bishop-clause-inside c = λ r given within.
    let f = ends_on c.args.ground.now c.args.side c.args.kind c.args.row in
    let last = shown c.ends-last.result f c.ends-last.ensures in
    let one = c.join-queen.ensures.inside r (λ u h. given Queen refl u (last u h).0 (last u h).1) within in
    let two = c.join-rook.ensures.inside r (λ u h. given Rook refl u (last u h).0 (last u h).1) one in
    let three = c.join-bishop.ensures.inside r (λ u h. given Bishop refl u (last u h).0 (last u h).1) two in
    c.join-knight.ensures.inside r (λ u h. given Knight refl u (last u h).0 (last u h).1) three

pub returns-else-bishop-clause-rules : goal.returns-else-bishop-clause-rules
returns-else-bishop-clause-rules c = λ still j promotion t small ends.
    let f = ends_on c.args.ground.now c.args.side c.args.kind c.args.row in
    let here = shows c.ends-last.result f c.ends-last.ensures t small ends in
    let none = c.if-bishop.false in
    let old = c.args.reach.now in
    let o = c.args.origin in
    let one = c.join-queen.ensures.change.still none.0 in
    let two = c.join-rook.ensures.change.still none.1 ∙ one in
    let three = c.join-bishop.ensures.change.still none.2 ∙ two in
    let P : Kind → Type 0 = λ (k : Kind). (sets_in old).has o k t ≡ true in
    each_promotion P
    (c.join-queen.ensures.there none.0 t small here)
    (has_before old c.join-queen.new.self o Rook t one (c.join-rook.ensures.there none.1 t small here))
    (has_before old c.join-rook.new.self o Bishop t two (c.join-bishop.ensures.there none.2 t small here))
    (has_before old c.join-bishop.new.self o Knight t three (c.join-knight.ensures.there still t small here)) j promotion
