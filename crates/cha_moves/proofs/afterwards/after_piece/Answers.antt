use Rattle.cha_moves.proofs.Alone.{piece_alone, no_target}
use Rattle.cha_moves.proofs.afterwards.after_piece.Goals as goal

pub after_one-requires-clause-men : goal.after_one-requires-clause-men
after_one-requires-clause-men c = piece_alone c.args.position.now c.args.m c.args.kind c.requires.legal c.requires.man c.requires.no_pawn c.requires.no_king

pub after_one-requires-clause-target : goal.after_one-requires-clause-target
after_one-requires-clause-target c = no_target c.args.position.now c.args.m c.args.kind c.requires.man c.requires.no_pawn
