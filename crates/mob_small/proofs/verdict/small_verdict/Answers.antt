-- The verdict of small material.
use Rattle.std.proofs.Common.{subst}
use Rattle.std.proofs.lemmas.Bool.{both_ways}
use Rattle.cha_board.specs.declared.men.Color.{Color}
use Rattle.mob_small.specs.Small.{HasBeside}
use Rattle.mob_small.proofs.Keeping.{pieces}
use Rattle.mob_small.proofs.Exactness.{verdict_exact, pawns_refuse, several_refuse}
use Rattle.mob_small.proofs.verdict.small_verdict.Goals as goal

pub are_mate_free-requires-clause-own_no_pawn : goal.are_mate_free-requires-clause-own_no_pawn
are_mate_free-requires-clause-own_no_pawn c =
    (pieces c.args.position.now c.args.winner (c.has_no_pawn.ensures.0 c.if-not-has_no_pawn.false) c.in-Ok-kind_beside.own c.in-Ok-kind_beside.ensures.ok).0

pub are_mate_free-requires-clause-own_no_king : goal.are_mate_free-requires-clause-own_no_king
are_mate_free-requires-clause-own_no_king c =
    (pieces c.args.position.now c.args.winner (c.has_no_pawn.ensures.0 c.if-not-has_no_pawn.false) c.in-Ok-kind_beside.own c.in-Ok-kind_beside.ensures.ok).1

pub are_mate_free-requires-clause-other_no_pawn : goal.are_mate_free-requires-clause-other_no_pawn
are_mate_free-requires-clause-other_no_pawn c =
    (pieces c.args.position.now c.other.result (c.has_no_pawn.ensures.0 c.if-not-has_no_pawn.false) c.in-Ok.other c.in-Ok.ensures.ok).0

pub are_mate_free-requires-clause-other_no_king : goal.are_mate_free-requires-clause-other_no_king
are_mate_free-requires-clause-other_no_king c =
    (pieces c.args.position.now c.other.result (c.has_no_pawn.ensures.0 c.if-not-has_no_pawn.false) c.in-Ok.other c.in-Ok.ensures.ok).1

pub returns-then-not-has_no_pawn : goal.returns-then-not-has_no_pawn
returns-then-not-has_no_pawn c = pawns_refuse c.args.position.now c.args.winner (λ none. both_ways c.has_no_pawn.result c.if-not-has_no_pawn.true (c.has_no_pawn.ensures.1 none))

pub returns-in-Err : goal.returns-in-Err
returns-in-Err c = several_refuse c.args.position.now c.args.winner c.other.result c.in-Err.ensures.err

pub returns-in-Err-kind_beside : goal.returns-in-Err-kind_beside
returns-in-Err-kind_beside c = several_refuse c.args.position.now c.args.winner c.args.winner c.in-Err-kind_beside.ensures.err

pub returns-in-Ok-kind_beside : goal.returns-in-Ok-kind_beside
returns-in-Ok-kind_beside c =
    let B : Color → Type 0 = λ x. HasBeside c.args.position.now.men x c.in-Ok.other in
    verdict_exact c.args.position.now c.args.winner (c.has_no_pawn.ensures.0 c.if-not-has_no_pawn.false) c.in-Ok-kind_beside.own c.in-Ok.other c.in-Ok-kind_beside.ensures.ok
    (subst B c.other.ensures c.in-Ok.ensures.ok) c.are_mate_free.result c.are_mate_free.ensures
