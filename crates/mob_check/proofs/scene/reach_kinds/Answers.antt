use Rattle.std.proofs.Common.{◌≡◌, get_or, take, sym, ap, refl, ◌∙◌, arith}
use Rattle.std.proofs.lemmas.List.{take_all}
use Rattle.cha_board.specs.Men.{is_non_king}
use Rattle.cha_board.specs.Board.{man_at}
use Rattle.mob_sets.specs.Rows.{Row}
use Rattle.mob_check.specs.Scenes.{reach_with, reach_by_kind}
use Rattle.mob_check.proofs.ByKind.{none_by_kind, one_by_kind, other_by_kind}
use Rattle.mob_check.proofs.scene.reach_kinds.Goals as goal
use Rattle.mob_check.proofs.scene.reach_kinds.Goals.{Joined-is_own, then-is_own, else-is_own}

-- what was asked of the row is what is said of the item
asked : (c : Joined-is_own) → c.is_own.result ≡ is_non_king c.args.side (man_at c.args.position.now.men (get_or c.args.rows.now c.loop-row.row-index c.row-item.result).origin)
asked c = c.is_own.ensures ∙ ap (λ (r : Row). is_non_king c.args.side (man_at c.args.position.now.men r.origin)) (c.row.view_is ∙ c.row-item.is)

pub loop-row-init : goal.loop-row-init
loop-row-init c = c.nowhere-reach.ensures ∙ none_by_kind c.args.position.now c.args.side

pub loop-row-preserved : goal.loop-row-preserved
loop-row-preserved c =
    let p = c.args.position.now in
    let rows = c.args.rows.now in
    let side = c.args.side in
    let i = c.loop-row.row-index in
    let d = c.row-item.result in
    let same = c.row.view_is ∙ c.row-item.is in
    elim c.if-is_own.branch [
      | then-is_own w ↦ (
          w.reach-is ∙ w.join.ensures
          ∙ ap (λ r. reach_with r c.row.inside.kind c.row.inside.squares) c.loop-row.invariant
          ∙ ap (λ (r : Row). reach_with (reach_by_kind p (take i rows) side) r.kind r.squares) same
          ∙ one_by_kind p rows side i d c.loop-row-test.true (sym (asked c) ∙ w.if-is_own.true) (get_or rows i d).kind refl)
      | else-is_own w ↦ (
          w.reach-is ∙ c.loop-row.invariant ∙ other_by_kind p rows side i d c.loop-row-test.true (sym (asked c) ∙ w.if-is_own.false))
    ]

pub returns : goal.returns
returns c =
    let all = take_all c.loop-row.row-index c.args.rows.now (omega arith) in
    c.loop-row.invariant ∙ ap (λ rows. reach_by_kind c.args.position.now rows c.args.side) all
