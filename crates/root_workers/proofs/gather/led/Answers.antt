use Rattle.std.proofs.Common.{◌≡◌, List, ◌∷◌, length, refl, sym, ◌∙◌, ap, subst, arith, rules}
use Rattle.std.proofs.lemmas.Option.{slice_get_read, same_Some}
use Rattle.cha_moves.specs.Step.{Move}
use Rattle.cha_moves.specs.Ends.{IsMatingLine}
use Rattle.root_workers.proofs.Gathering.{root_line, root_inside, root_short}
use Rattle.root_workers.proofs.gather.led.Goals as goal

pub bounds-moves-mate : goal.bounds-moves-mate
bounds-moves-mate c = root_inside c.args.task.now c.args.moves.now c.args.mate.now c.requires

pub unreachable-requires : goal.unreachable-requires
unreachable-requires c =
    let full : length c.args.mate.now.line ≡ 64 = search rules in
    let short = root_short c.args.task.now c.args.moves.now c.args.mate.now c.requires in
    omega arith

pub returns-clause-mates : goal.returns-clause-mates
returns-clause-mates c =
    let at = slice_get_read c.args.moves.now (length c.args.moves.now) c.args.mate.now.root_move c.index-moves-mate.result refl (root_inside c.args.task.now c.args.moves.now c.args.mate.now c.requires) c.index-moves-mate.is in
    let h = root_line c.args.task.now c.args.moves.now c.args.mate.now c.index-moves-mate.result c.requires at in
    let L : List Move → Type 0 = λ line. IsMatingLine c.args.task.now.position c.args.task.now.winner line in
    subst L (sym c.in-Some.ensures.value) (h.0, h.1)

pub returns-clause-short : goal.returns-clause-short
returns-clause-short c =
    let short = root_short c.args.task.now c.args.moves.now c.args.mate.now c.requires in
    let e = ap length c.in-Some.ensures.value in
    omega arith

pub returns-clause-begins : goal.returns-clause-begins
returns-clause-begins c = λ m is.
    let at = slice_get_read c.args.moves.now (length c.args.moves.now) c.args.mate.now.root_move c.index-moves-mate.result refl (root_inside c.args.task.now c.args.moves.now c.args.mate.now c.requires) c.index-moves-mate.is in
    c.in-Some.ensures.value ∙ ap (λ (k : Move). k ∷ c.args.mate.now.line) (same_Some c.index-moves-mate.result m (sym at ∙ is))
