use Rattle.std.proofs.Common.{not, ap, ◌∙◌, arith}
use Rattle.cha_board.specs.Men.{other_color}
use Rattle.cha_board.specs.Board.{is_empty}
use Rattle.cha_board.specs.Squares.{aims_at}
use Rattle.cha_board.specs.SquareSets.{set_of, set_common, has_no_square}
use Rattle.cha_board.specs.Aims.{aimed}
use Rattle.cha_board.proofs.Striking.{struck, far_counts, near_none}
use Rattle.cha_board.proofs.placement.Men.strikes.Goals as goal

pub returns-then-not-is_empty : goal.returns-then-not-is_empty
returns-then-not-is_empty c =
    let men = c.args.self.now in
    let by = other_color c.args.by in
    let all = struck men c.args.by c.args.kind c.args.at (omega arith) in
    let near = c.common.ensures ∙ ap (λ a. set_common a c.of_kind-men.result) (c.aims_alone.ensures ∙ ap (λ d. set_of (aims_at d c.args.kind c.args.at)) c.other.ensures)
    ∙ ap (set_common (set_of (aims_at by c.args.kind c.args.at))) c.of_kind-men.ensures in
    let far = c.common-then-not-is_empty.ensures
    ∙ ap (λ a. set_common a c.of_kind-men.result)
    (c.aims.ensures ∙ ap (λ d. aimed d c.args.kind c.args.at c.occupied.result) c.other-then-not-is_empty.ensures ∙ ap (aimed by c.args.kind c.args.at) c.occupied.ensures)
    ∙ ap (set_common (aimed by c.args.kind c.args.at (set_of (λ u. not (is_empty men u))))) c.of_kind-men.ensures in
    far_counts _ _ _ _ _ all (c.is_empty.ensures ∙ ap has_no_square near) (c.is_empty-then-not-is_empty.ensures ∙ ap has_no_square far) c.if-not-is_empty.true

pub returns-else-not-is_empty : goal.returns-else-not-is_empty
returns-else-not-is_empty c =
    let men = c.args.self.now in
    let all = struck men c.args.by c.args.kind c.args.at (omega arith) in
    let near = c.common.ensures ∙ ap (λ a. set_common a c.of_kind-men.result) (c.aims_alone.ensures ∙ ap (λ d. set_of (aims_at d c.args.kind c.args.at)) c.other.ensures)
    ∙ ap (set_common (set_of (aims_at (other_color c.args.by) c.args.kind c.args.at))) c.of_kind-men.ensures in
    near_none _ _ _ _ all (c.is_empty.ensures ∙ ap has_no_square near) c.if-not-is_empty.false
