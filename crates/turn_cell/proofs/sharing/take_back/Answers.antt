use Rattle.std.proofs.Common.{◌≡◌, ◌∙◌, arith, ap, is_some, refl, true}
use Rattle.atomic_table.specs.Table.{keeps, step as step_of}
use mathlib.Core.Option.{none}
use Rattle.turn_cell.specs.Rule.{lives}
use Rattle.turn_cell.proofs.Joining.{join_kept}
use Rattle.turn_cell.proofs.Meeting.{met_kept, fewer_back, joins_told, taken_told}
use Rattle.turn_cell.specs.Views.{after_meeting}
use Rattle.turn_cell.proofs.sharing.take_back.Goals as goal

pub join_seat-requires : goal.join_seat-requires
join_seat-requires g c =
    let r = c.requires in (
      r.table.0,
      r.table.1,
      r.idle.1.1,
      omega (arith, r.table.2),
      λ s k at apart at'.
          join_kept _ _ s k c.args.seat.now.id c.args.seat.now.me.0 at (ap (λ o. is_some o) r.lives.0) r.first r.idle.0.0 c.args.other.id c.args.other.me.0 apart at' (ap (λ o. is_some o) r.lives.1) r.idle.1.0,
    )

pub load-requires : goal.load-requires
load-requires g c =
    let r = c.requires in
    let e = c.join_seat.ensures in
    let m = c.join_seat.new.seat.me in
    let no_turn = ap (λ x. x.0.has_turn) e.2 ∙ r.idle.0.0 in
    let live : lives m.0 ≡ true = ap (λ x. is_some x.0.origin) e.2 ∙ ap (λ o. is_some o) r.lives.0 in
    let first = ap (λ x. x.0.number) e.2 ∙ r.first in (
      e.0 ∙ r.table.0,
      omega (arith, r.table.2),
      λ s k len at lt.
          (after_meeting m.0, keeps, tt, met_kept _ _ s k c.join_seat.new.seat.id m.0 at no_turn, (k.history, (k.each _ _ at).before, (k.each _ _ at).joined_shorter, (k.each _ _ at).taken_seen, (k.each _ _ at).own_seen live, fewer_back _ _ s k c.join_seat.new.seat.id m.0 at live first, refl)),
    )

pub returns-clause-joined : goal.returns-clause-joined
returns-clause-joined g c = joins_told c.args.seat.now.me.0 c.args.other.me.0 (step_of 0 0 0 0 none) c.load.result c.load.new.seat.me c.join_seat.new.seat.me c.args.seat.now.me.1 c.join_seat.ensures.2 c.load.ensures.2

pub returns-clause-taken : goal.returns-clause-taken
returns-clause-taken g c = (taken_told c.args.seat.now.me.0 c.args.other.me.0 (step_of 0 0 0 0 none) c.load.result c.load.new.seat.me c.join_seat.new.seat.me c.args.seat.now.me.1 c.join_seat.ensures.2 c.load.ensures.2).0

pub returns-clause-theirs : goal.returns-clause-theirs
returns-clause-theirs g c = (taken_told c.args.seat.now.me.0 c.args.other.me.0 (step_of 0 0 0 0 none) c.load.result c.load.new.seat.me c.join_seat.new.seat.me c.args.seat.now.me.1 c.join_seat.ensures.2 c.load.ensures.2).1
