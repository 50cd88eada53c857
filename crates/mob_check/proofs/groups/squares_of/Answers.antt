use Rattle.std.proofs.Common.{◌≡◌, get_or, take, sym, ap, ◌∙◌, arith}
use Rattle.std.proofs.lemmas.List.{take_all}
use Rattle.cha_board.specs.SquareSets.{set_joined}
use Rattle.mob_sets.specs.Rows.{Row}
use Rattle.mob_check.specs.Reaches.{is_row_of, reach_of}
use Rattle.mob_check.proofs.Reaching.{none_reach, joined_reach, skipped_reach}
use Rattle.mob_check.proofs.groups.squares_of.Goals as goal
use Rattle.mob_check.proofs.groups.squares_of.Goals.{Joined-is_of, then-is_of, else-is_of}

-- what was asked of the row is what is said of the item
asked : (c : Joined-is_of) → c.is_of.result ≡ is_row_of c.args.position.now c.args.group (get_or c.args.rows.now c.loop-row.row-index c.row-item.result)
asked c = c.is_of.ensures ∙ ap (λ (r : Row). is_row_of c.args.position.now c.args.group r) (c.row.view_is ∙ c.row-item.is)

pub loop-row-init : goal.loop-row-init
loop-row-init c = c.empty-squares.ensures ∙ none_reach c.args.position.now c.args.group

pub loop-row-preserved : goal.loop-row-preserved
loop-row-preserved c =
    let p = c.args.position.now in
    let rows = c.args.rows.now in
    let i = c.loop-row.row-index in
    let d = c.row-item.result in
    elim c.if-is_of.branch [
      | then-is_of w ↦ (
          w.squares-is ∙ w.joined-squares.ensures
          ∙ ap (λ s. set_joined s c.row.inside.squares) c.loop-row.invariant
          ∙ ap (λ (r : Row). set_joined (reach_of p (take i rows) c.args.group) r.squares) (c.row.view_is ∙ c.row-item.is)
          ∙ joined_reach p rows c.args.group i d c.loop-row-test.true (sym (asked c) ∙ w.if-is_of.true))
      | else-is_of w ↦ (
          w.squares-is ∙ c.loop-row.invariant ∙ skipped_reach p rows c.args.group i d c.loop-row-test.true (sym (asked c) ∙ w.if-is_of.false))
    ]

pub returns : goal.returns
returns c =
    let all = take_all c.loop-row.row-index c.args.rows.now (omega arith) in
    c.loop-row.invariant ∙ ap (λ rows. reach_of c.args.position.now rows c.args.group) all
