-- The moves that words name are legal.
use Rattle.std.proofs.Common.{ℕ, List, [], ◌∷◌, Option, Some, None, Result, Ok, Err, IfOk, take, refl}
use Rattle.std.specs.List.{Contains}
use Rattle.cha_board.specs.Board.{Board}
use Rattle.cha_moves.specs.Step.{Move}
use Rattle.cha_moves.specs.Moves.{after, legal}
use Rattle.pgn_games.specs.declared.played.Game.{Game}
use Rattle.cha_san.specs.declared.faults.SanFault.{SanFault}
use Rattle.cha_san.specs.Resolving.{resolved}
use Rattle.cha_san.specs.Playing.{named_onward, moves_named}
use Rattle.cha_san.proofs.Resolved.{resolved_legal}
use Rattle.cha_outcome.specs.LegalMoves.{AreLegal, AreLegalFrom}
use Rattle.cha_outcome.specs.Items.{start_if_known, moves_before}

named_legal : (q : Board) (words : List (List ℕ)) → AreLegal q (moves_named q words)
unfolding moves_named
named_legal q [] = tt
named_legal q (word ∷ words) = by_word (resolved q word) (resolved_legal q word) (λ next. named_legal next words)
  where
    by_word : (r : Result Move SanFault) → IfOk r (λ m. Contains (legal q) m) → ((next : Board) → AreLegal next (moves_named next words)) → AreLegal q (named_onward q r (λ next. moves_named next words))
    by_word (Ok m) h later = (h, later (after q m))
    by_word (Err fault) h later = tt

-- the moves of a game before its first fault
pub before_legal : (number : Option ℕ) (game : Game) → AreLegalFrom (start_if_known number game.start) (moves_before number game)
before_legal None game = refl
before_legal (Some n) game = named_legal game.start (take n game.words)
