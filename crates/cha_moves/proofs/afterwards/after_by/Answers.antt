use Rattle.std.proofs.Common.{refl}
use Rattle.cha_moves.proofs.Alone.{is_mover}
use Rattle.cha_moves.proofs.afterwards.after_by.Goals as goal

pub after_pawn-requires-clause-man : goal.after_pawn-requires-clause-man
after_pawn-requires-clause-man c = is_mover c.args.position.now c.args.m _ c.args.kind _ _ c.requires.legal refl refl c.requires.kind c.in-Pawn.is

pub after_piece-requires-clause-man : goal.after_piece-requires-clause-man
after_piece-requires-clause-man c = is_mover c.args.position.now c.args.m _ c.args.kind _ _ c.requires.legal refl refl c.requires.kind c.in-Knight.is

pub after_piece-requires-in-Bishop-clause-man : goal.after_piece-requires-in-Bishop-clause-man
after_piece-requires-in-Bishop-clause-man c = is_mover c.args.position.now c.args.m _ c.args.kind _ _ c.requires.legal refl refl c.requires.kind c.in-Bishop.is

pub after_piece-requires-in-Rook-clause-man : goal.after_piece-requires-in-Rook-clause-man
after_piece-requires-in-Rook-clause-man c = is_mover c.args.position.now c.args.m _ c.args.kind _ _ c.requires.legal refl refl c.requires.kind c.in-Rook.is

pub after_piece-requires-in-Queen-clause-man : goal.after_piece-requires-in-Queen-clause-man
after_piece-requires-in-Queen-clause-man c = is_mover c.args.position.now c.args.m _ c.args.kind _ _ c.requires.legal refl refl c.requires.kind c.in-Queen.is

pub after_king-requires-clause-man : goal.after_king-requires-clause-man
after_king-requires-clause-man c = is_mover c.args.position.now c.args.m _ c.args.kind _ _ c.requires.legal refl refl c.requires.kind c.in-King.is
