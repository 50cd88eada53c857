-- The man beside the king.
use Rattle.std.proofs.Common.{sym, ◌∙◌}
use Rattle.cha_board.specs.Board.{man_at}
use Rattle.cha_board.proofs.Identity.{none_some}
use Rattle.mob_small.proofs.Scene.{non_king_of}
use Rattle.mob_small.proofs.Exactness.{none_beside, first_non_king, one_beside, several_beside}
use Rattle.mob_small.proofs.beside.kind_beside.Goals as goal

pub returns-then-not-is_empty-clause-err : goal.returns-then-not-is_empty-clause-err
returns-then-not-is_empty-clause-err c =
    several_beside c.args.position.now.men c.args.of c.known.ensures.size c.non_kings-beside.result c.non_kings-beside.ensures c.in-Some.at (sym c.first.ensures ∙ c.in-Some.is)
    (rw (← c.without.ensures) (sym c.is_empty.ensures ∙ c.if-not-is_empty.true))

pub unreachable-requires : goal.unreachable-requires
unreachable-requires c =
    let h = first_non_king c.args.position.now.men c.args.of c.known.ensures.size c.non_kings-beside.result c.non_kings-beside.ensures c.in-Some.at (sym c.first.ensures ∙ c.in-Some.is) in
    let m = non_king_of (man_at c.args.position.now.men c.in-Some.at) c.args.of h in
    none_some (man_at c.args.position.now.men c.in-Some.at) m.man (sym c.man.ensures ∙ c.in-None-man.is) m.found

pub returns-in-None-clause-ok : goal.returns-in-None-clause-ok
returns-in-None-clause-ok c =
    none_beside c.args.position.now.men c.args.of c.known.ensures.size c.non_kings-beside.result c.non_kings-beside.ensures (sym c.first.ensures ∙ c.in-None.is)

pub returns-in-Some-man-clause-ok : goal.returns-in-Some-man-clause-ok
returns-in-Some-man-clause-ok c =
    one_beside c.args.position.now.men c.args.of c.known.ensures.size c.non_kings-beside.result c.non_kings-beside.ensures c.in-Some.at (sym c.first.ensures ∙ c.in-Some.is)
    (rw (← c.without.ensures) (sym c.is_empty.ensures ∙ c.if-not-is_empty.false)) c.in-Some-man.man (sym c.man.ensures ∙ c.in-Some-man.is)
