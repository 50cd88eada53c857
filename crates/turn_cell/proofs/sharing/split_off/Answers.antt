use Rattle.std.proofs.Common.{◌≡◌, ◌∙◌, refl, arith, ap, subst, is_some, true}
use Rattle.atomic_table.specs.Table.{keeps}
use Rattle.turn_cell.specs.Histories.{entries_of}
use Rattle.turn_cell.specs.Rule.{lives}
use Rattle.turn_cell.specs.Views.{after_meeting}
use Rattle.turn_cell.proofs.Splitting.{split_kept}
use Rattle.turn_cell.proofs.Meeting.{met_kept}
use Rattle.turn_cell.proofs.sharing.split_off.Goals as goal

pub split_seat-other-requires : goal.split_seat-other-requires
split_seat-other-requires g c = (c.requires.table.0, omega (arith, c.requires.table.1), λ s k at. split_kept _ _ s k c.args.seat.now.id c.args.seat.now.me.0 at (ap (λ o. is_some o) c.requires.lives) c.requires.first c.requires.few)

pub load-requires : goal.load-requires
load-requires g c =
    let e = c.split_seat-other.ensures in
    let m = c.split_seat-other.result.me in
    let no_turn = ap (λ x. x.0.has_turn) e.4 in
    let live : lives m.0 ≡ true = ap (λ x. is_some x.0.origin) e.4 ∙ ap (λ o. is_some o) c.requires.lives in
    let joins = ap (λ x. x.0.joins) e.4 in (
      e.3 ∙ c.requires.table.0,
      omega (arith, c.requires.table.1),
      λ s k len at lt.
          (after_meeting m.0, keeps, tt, met_kept _ _ s k c.split_seat-other.result.id m.0 at no_turn, (k.history, (k.each _ _ at).before, (k.each _ _ at).joined_shorter, (k.each _ _ at).taken_seen, (k.each _ _ at).own_seen live, omega (arith, joins), refl)),
    )

pub returns-clause-new : goal.returns-clause-new
returns-clause-new g c = c.load.ensures.2.6 ∙ ap (λ m. (after_meeting m.0, m.1)) c.split_seat-other.ensures.4

pub returns-clause-unused : goal.returns-clause-unused
returns-clause-unused g c = subst (λ m. entries_of m.0.number m.0.seen ≡ m.0.mine) c.split_seat-other.ensures.4 c.load.ensures.2.4
