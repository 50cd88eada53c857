use Rattle.std.proofs.Common.{◌≡◌, ◌<◌, true, false, refl, sym, ap, ◌∙◌, arith}
use Rattle.cha_board.specs.declared.men.Kind.TheVariants.{Queen}
use Rattle.cha_moves.specs.Ways.{is_promoted}
use Rattle.cha_moves.proofs.Arriving.{Going, going_plain, going_promoted}
use Rattle.cha_moves.proofs.GoingLegally.{goes_plain, goes_promoted}
use Rattle.cha_moves.proofs.legally.is_legal_way.Goals as goal

pub stays_safe-requires : goal.stays_safe-requires
stays_safe-requires c =
    let from : c.args.from < 64 = omega arith in
    let to : c.args.to < 64 = omega arith in
    let going : Going c.args.position.now c.args.from c.args.to c.args.man = record { valid = c.known.ensures; from = from; to = to; found = c.requires.man; way = c.requires.way } in
    let promoted : is_promoted c.args.position.now.side c.args.man.kind c.args.to ≡ true = ap (λ x. is_promoted x c.args.man.kind c.args.to) (sym c.side.ensures) ∙ sym c.promotes.ensures ∙ c.if-promotes.true in
    going_promoted c.args.position.now c.args.from c.args.to c.args.man Queen going promoted refl

pub stays_safe-requires-else-promotes : goal.stays_safe-requires-else-promotes
stays_safe-requires-else-promotes c =
    let from : c.args.from < 64 = omega arith in
    let to : c.args.to < 64 = omega arith in
    let going : Going c.args.position.now c.args.from c.args.to c.args.man = record { valid = c.known.ensures; from = from; to = to; found = c.requires.man; way = c.requires.way } in
    let plain : is_promoted c.args.position.now.side c.args.man.kind c.args.to ≡ false = ap (λ x. is_promoted x c.args.man.kind c.args.to) (sym c.side.ensures) ∙ sym c.promotes.ensures ∙ c.if-promotes.false in
    going_plain c.args.position.now c.args.from c.args.to c.args.man going plain

pub returns-then-promotes : goal.returns-then-promotes
returns-then-promotes c =
    let from : c.args.from < 64 = omega arith in
    let to : c.args.to < 64 = omega arith in
    let going : Going c.args.position.now c.args.from c.args.to c.args.man = record { valid = c.known.ensures; from = from; to = to; found = c.requires.man; way = c.requires.way } in
    let promoted : is_promoted c.args.position.now.side c.args.man.kind c.args.to ≡ true = ap (λ x. is_promoted x c.args.man.kind c.args.to) (sym c.side.ensures) ∙ sym c.promotes.ensures ∙ c.if-promotes.true in
    c.stays_safe.ensures ∙ sym (goes_promoted c.args.position.now c.args.from c.args.to c.args.man going promoted)

pub returns-else-promotes : goal.returns-else-promotes
returns-else-promotes c =
    let from : c.args.from < 64 = omega arith in
    let to : c.args.to < 64 = omega arith in
    let going : Going c.args.position.now c.args.from c.args.to c.args.man = record { valid = c.known.ensures; from = from; to = to; found = c.requires.man; way = c.requires.way } in
    let plain : is_promoted c.args.position.now.side c.args.man.kind c.args.to ≡ false = ap (λ x. is_promoted x c.args.man.kind c.args.to) (sym c.side.ensures) ∙ sym c.promotes.ensures ∙ c.if-promotes.false in
    c.stays_safe-else-promotes.ensures ∙ sym (goes_plain c.args.position.now c.args.from c.args.to c.args.man going plain)
