use Rattle.std.proofs.Common.{◌≡◌, ◌<◌, true, false, sym, ap, ◌∙◌, arith}
use Rattle.cha_board.specs.SquareSets.{has_square}
use Rattle.cha_board.proofs.SetLaws.{has-set_of}
use Rattle.cha_moves.specs.Ways.{is_promoted}
use Rattle.cha_moves.proofs.Arriving.{Going, moves_plain, moves_promoted}
use Rattle.cha_moves.proofs.GoingLegally.{goes_a_way, goes_plain, goes_promoted}
use Rattle.cha_moves.proofs.list.add_way.Goals as goal

pub returns-in_ok-add_promotions : goal.returns-in_ok-add_promotions
returns-in_ok-add_promotions c =
    let q = c.args.position.now in
    let from : c.args.from < 64 = omega arith in
    let to : c.args.to < 64 = omega arith in
    let going : Going q c.args.from c.args.to c.args.man = record { valid = c.known.ensures; from = from; to = to; found = c.requires.man; way = goes_a_way q c.args.from c.args.to c.requires.way } in
    let promoted : is_promoted q.side c.args.man.kind c.args.to ≡ true = sym (has-set_of (is_promoted q.side c.args.man.kind) c.args.to to) ∙ ap (λ x. has_square x c.args.to) (sym c.requires.last) ∙ sym c.has.ensures ∙ c.if-has.true in
    let legal = sym (goes_promoted q c.args.from c.args.to c.args.man going promoted) ∙ c.requires.way in
    rw (moves_promoted q c.args.from c.args.to c.args.man going promoted, legal) c.in_ok-add_promotions.ensures

pub returns-in_ok-push : goal.returns-in_ok-push
returns-in_ok-push c =
    let q = c.args.position.now in
    let from : c.args.from < 64 = omega arith in
    let to : c.args.to < 64 = omega arith in
    let going : Going q c.args.from c.args.to c.args.man = record { valid = c.known.ensures; from = from; to = to; found = c.requires.man; way = goes_a_way q c.args.from c.args.to c.requires.way } in
    let plain : is_promoted q.side c.args.man.kind c.args.to ≡ false = sym (has-set_of (is_promoted q.side c.args.man.kind) c.args.to to) ∙ ap (λ x. has_square x c.args.to) (sym c.requires.last) ∙ sym c.has.ensures ∙ c.if-has.false in
    let legal = sym (goes_plain q c.args.from c.args.to c.args.man going plain) ∙ c.requires.way in
    rw (moves_plain q c.args.from c.args.to c.args.man going plain, legal) c.in_ok-push.ensures.items
