use Rattle.std.proofs.Common.{◌≡◌, get_or, take, sym, ap, ◌∙◌, arith}
use Rattle.std.proofs.lemmas.List.{take_all}
use Rattle.cha_board.specs.SquareSets.{set_with}
use Rattle.mob_sets.specs.Rows.{Row}
use Rattle.mob_check.specs.Reaches.{is_row_on, origins_of}
use Rattle.mob_check.proofs.Reaching.{none_originate, one_origin, skipped_origin}
use Rattle.mob_check.proofs.groups.origins_on.Goals as goal
use Rattle.mob_check.proofs.groups.origins_on.Goals.{Joined-is_on, then-is_on, else-is_on}

-- what was asked of the row is what is said of the item
asked : (c : Joined-is_on) → c.is_on.result ≡ is_row_on c.args.position.now c.args.side c.args.on (get_or c.args.rows.now c.loop-row.row-index c.row-item.result)
asked c = c.is_on.ensures ∙ ap (λ (r : Row). is_row_on c.args.position.now c.args.side c.args.on r) (c.row.view_is ∙ c.row-item.is)

pub loop-row-init : goal.loop-row-init
loop-row-init c = c.empty-origins.ensures ∙ none_originate c.args.position.now c.args.side c.args.on

pub loop-row-preserved : goal.loop-row-preserved
loop-row-preserved c =
    let p = c.args.position.now in
    let rows = c.args.rows.now in
    let side = c.args.side in
    let on = c.args.on in
    let i = c.loop-row.row-index in
    let d = c.row-item.result in
    elim c.if-is_on.branch [
      | then-is_on w ↦ (
          w.origins-is ∙ w.with-origins.ensures
          ∙ ap (λ s. set_with s c.row.inside.origin) c.loop-row.invariant
          ∙ ap (λ (r : Row). set_with (origins_of p (take i rows) side on) r.origin) (c.row.view_is ∙ c.row-item.is)
          ∙ one_origin p rows side on i d c.loop-row-test.true (sym (asked c) ∙ w.if-is_on.true))
      | else-is_on w ↦ (
          w.origins-is ∙ c.loop-row.invariant ∙ skipped_origin p rows side on i d c.loop-row-test.true (sym (asked c) ∙ w.if-is_on.false))
    ]

pub returns : goal.returns
returns c =
    let all = take_all c.loop-row.row-index c.args.rows.now (omega arith) in
    c.loop-row.invariant ∙ ap (λ rows. origins_of c.args.position.now rows c.args.side c.args.on) all
