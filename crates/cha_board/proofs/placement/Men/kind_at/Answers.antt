use Rattle.std.proofs.Common.{sym, ◌∙◌, arith}
use Rattle.cha_board.specs.declared.men.Kind.TheVariants.{Pawn, Knight, Bishop, Rook, Queen}
use Rattle.cha_board.proofs.Moving.{kind_told, kind_asked, king_left}
use Rattle.cha_board.proofs.placement.Men.kind_at.Goals as goal

pub returns-then-has : goal.returns-then-has
returns-then-has c =
    λ man found. kind_told c.args.self.now Pawn c.args.at c.all_of_kind.result man (omega arith) c.all_of_kind.ensures (sym c.has.ensures ∙ c.if-has.true) found

pub returns-then-has-2 : goal.returns-then-has-2
returns-then-has-2 c =
    λ man found. kind_told c.args.self.now Knight c.args.at c.all_of_kind-else-has.result man (omega arith) c.all_of_kind-else-has.ensures (sym c.has-else-has.ensures ∙ c.if-has-2.true) found

pub returns-then-has-3 : goal.returns-then-has-3
returns-then-has-3 c =
    λ man found. kind_told c.args.self.now Bishop c.args.at c.all_of_kind-else-has-2.result man (omega arith) c.all_of_kind-else-has-2.ensures (sym c.has-else-has-2.ensures ∙ c.if-has-3.true) found

pub returns-then-has-4 : goal.returns-then-has-4
returns-then-has-4 c =
    λ man found. kind_told c.args.self.now Rook c.args.at c.all_of_kind-else-has-3.result man (omega arith) c.all_of_kind-else-has-3.ensures (sym c.has-else-has-3.ensures ∙ c.if-has-4.true) found

pub returns-then-has-5 : goal.returns-then-has-5
returns-then-has-5 c =
    λ man found. kind_told c.args.self.now Queen c.args.at c.all_of_kind-else-has-4.result man (omega arith) c.all_of_kind-else-has-4.ensures (sym c.has-else-has-4.ensures ∙ c.if-has-5.true) found

pub returns-else-has-5 : goal.returns-else-has-5
returns-else-has-5 c =
    λ man found. king_left man.kind
    (kind_asked c.args.self.now Pawn c.args.at c.all_of_kind.result man _ (omega arith) c.all_of_kind.ensures (sym c.has.ensures ∙ c.if-has.false) found)
    (kind_asked c.args.self.now Knight c.args.at c.all_of_kind-else-has.result man _ (omega arith) c.all_of_kind-else-has.ensures (sym c.has-else-has.ensures ∙ c.if-has-2.false) found)
    (kind_asked c.args.self.now Bishop c.args.at c.all_of_kind-else-has-2.result man _ (omega arith) c.all_of_kind-else-has-2.ensures (sym c.has-else-has-2.ensures ∙ c.if-has-3.false) found)
    (kind_asked c.args.self.now Rook c.args.at c.all_of_kind-else-has-3.result man _ (omega arith) c.all_of_kind-else-has-3.ensures (sym c.has-else-has-3.ensures ∙ c.if-has-4.false) found)
    (kind_asked c.args.self.now Queen c.args.at c.all_of_kind-else-has-4.result man _ (omega arith) c.all_of_kind-else-has-4.ensures (sym c.has-else-has-4.ensures ∙ c.if-has-5.false) found)
