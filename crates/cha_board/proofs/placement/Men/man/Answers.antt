use Rattle.std.proofs.Common.{sym, ap, ◌∙◌, arith}
use Rattle.cha_board.specs.declared.men.Color.TheVariants.{White, Black}
use Rattle.cha_board.specs.Board.{man_at}
use Rattle.cha_board.proofs.Tidiness.{tidy}
use Rattle.cha_board.proofs.Moving.{side_asked, man_told, no_man_told}
use Rattle.cha_board.proofs.placement.Men.man.Goals as goal

pub returns-then-has : goal.returns-then-has
returns-then-has c =
    let men = c.args.self.now in
    let all = tidy c.self.inside men c.self.view_is c.self.invariant in
    let white = side_asked men White c.args.at c.self.inside.white _ (omega arith) (ap (λ a. a.white) all) (sym c.has.ensures ∙ c.if-has.true) in
    man_told White c.kind_at.result (man_at men c.args.at) white c.kind_at.ensures

pub returns-then-has-2 : goal.returns-then-has-2
returns-then-has-2 c =
    let men = c.args.self.now in
    let all = tidy c.self.inside men c.self.view_is c.self.invariant in
    let black = side_asked men Black c.args.at c.self.inside.black _ (omega arith) (ap (λ a. a.black) all) (sym c.has-else-has.ensures ∙ c.if-has-2.true) in
    man_told Black c.kind_at-then-has-2.result (man_at men c.args.at) black c.kind_at-then-has-2.ensures

pub returns-else-has-2 : goal.returns-else-has-2
returns-else-has-2 c =
    let men = c.args.self.now in
    let all = tidy c.self.inside men c.self.view_is c.self.invariant in
    let white = side_asked men White c.args.at c.self.inside.white _ (omega arith) (ap (λ a. a.white) all) (sym c.has.ensures ∙ c.if-has.false) in
    let black = side_asked men Black c.args.at c.self.inside.black _ (omega arith) (ap (λ a. a.black) all) (sym c.has-else-has.ensures ∙ c.if-has-2.false) in
    no_man_told (man_at men c.args.at) white black
