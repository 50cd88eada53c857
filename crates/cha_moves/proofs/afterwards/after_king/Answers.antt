use Rattle.std.proofs.Common.{◌≡◌, refl, ap, ◌∙◌, arith}
use Rattle.cha_board.specs.declared.men.Kind.TheVariants.{King}
use Rattle.cha_board.specs.Squares.{files_apart}
use Rattle.cha_moves.specs.Step.{Move}
use Rattle.cha_moves.proofs.Alone.{king_alone, no_target, castles_far}
use Rattle.cha_moves.proofs.afterwards.after_king.Goals as goal
use Rattle.cha_moves.proofs.afterwards.after_king.Goals.{then-index, else-index}

pub after_one-requires-clause-men : goal.after_one-requires-clause-men
after_one-requires-clause-men c =
    let m = c.args.m in
    let same : c.files_between.result ≡ files_apart m.from m.to = c.files_between.ensures.value ∙ ap (λ (m : Move). files_apart m.from m.to) c.m.view_is in
    king_alone c.args.position.now m c.requires.legal c.requires.man (omega (arith, same, c.if-files_between-le1.true))

pub after_one-requires-clause-target : goal.after_one-requires-clause-target
after_one-requires-clause-target c = no_target c.args.position.now c.args.m King c.requires.man refl

pub after_castling-requires-clause-men : goal.after_castling-requires-clause-men
after_castling-requires-clause-men c =
    let q = c.args.position.now in
    let m = c.args.m in
    let same : c.files_between.result ≡ files_apart m.from m.to = c.files_between.ensures.value ∙ ap (λ (m : Move). files_apart m.from m.to) c.m.view_is in
    let from : c.index.result ≡ m.from = c.index.ensures.value ∙ ap (λ (m : Move). m.from) c.m.view_is in
    let to : c.index-2.result ≡ m.to = c.index-2.ensures.value ∙ ap (λ (m : Move). m.to) c.m.view_is in
    castles_far q m c.if-index.wing c.requires.legal c.requires.man (omega (arith, same, c.if-files_between-le1.false))
    (λ up. elim c.if-index.branch [ then-index w ↦ w.wing-is | else-index w ↦ absurd (let down = w.if-index.false in omega (arith, from, to, up, down)) ])
    (λ down. elim c.if-index.branch [ then-index w ↦ absurd (let up = w.if-index.true in omega (arith, from, to, up, down)) | else-index w ↦ w.wing-is ])

pub after_castling-requires-clause-target : goal.after_castling-requires-clause-target
after_castling-requires-clause-target c = no_target c.args.position.now c.args.m King c.requires.man refl
