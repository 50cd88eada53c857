use Rattle.std.proofs.Common.{◌<◌, ◌∙◌, arith}
use Rattle.cha_board.specs.declared.men.Kind.{Kind}
use Rattle.cha_board.specs.declared.men.Kind.TheVariants.{Pawn}
use Rattle.mob_solve.specs.Reaching.{sets_in}
use Rattle.mob_check.specs.Rules.{AreRules}
use Rattle.mob_solve.proofs.Reaches.{single_inside, single_there}
use Rattle.mob_check.proofs.RowRules.{each_kind}
use Rattle.mob_solve.proofs.RowRules.{rules_before}
use Rattle.mob_solve.proofs.man_rules.grow_man.Goals as goal

pub returns-then-pawn-clause-inside : goal.returns-then-pawn-clause-inside
returns-then-pawn-clause-inside c = λ r rules within.
    let one = c.join-begun.ensures.inside r (single_inside c.single.result c.args.origin (r.has c.args.origin c.args.man.kind) c.single.ensures rules.begins) within in
    let two = c.grow_row-pawn.ensures.inside r (rules.each Pawn) one in
    c.grow_pieces-pieces.ensures.inside r rules.each two

pub returns-else-pawn-clause-inside : goal.returns-else-pawn-clause-inside
returns-else-pawn-clause-inside c = λ r rules within.
    let one = c.join-begun.ensures.inside r (single_inside c.single.result c.args.origin (r.has c.args.origin c.args.man.kind) c.single.ensures rules.begins) within in
    let two = c.grow_row-pawn.ensures.inside r (rules.each Pawn) one in
    c.grow_pieces-pieces.ensures.inside r rules.each two

pub returns-else-pawn-clause-rules : goal.returns-else-pawn-clause-rules
returns-else-pawn-clause-rules c = λ last.
    let none = c.if-pawn.false in
    let old = c.args.reach.now in
    let g = c.args.ground.now in
    let o = c.args.origin in
    let side = c.args.man.color in
    let small : o < 64 = omega arith in
    let one = c.join-begun.ensures.change.still none.0 in
    let two = c.grow_row-pawn.ensures.change.still none.1 ∙ one in
    let P : Kind → Type 0 = λ (k : Kind). AreRules g (sets_in old) o side k in
    record {
      begins = c.join-begun.ensures.there none.0 o small (single_there c.single.result o c.single.ensures small);
      each = each_kind P
          (rules_before old c.join-begun.new.self g o side Pawn one (c.grow_row-pawn.ensures.rules none.1))
          (λ k other. rules_before old c.grow_row-pawn.new.reach g o side k two (c.grow_pieces-pieces.ensures.rules last k other));
    }
