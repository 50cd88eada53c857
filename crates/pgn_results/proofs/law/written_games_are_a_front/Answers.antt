use Rattle.pgn_games.specs.Games.{placed_games}
use Rattle.pgn_results.proofs.GameByGame.{written_front, written_settled, written_more}
use Rattle.pgn_results.proofs.law.written_games_are_a_front.Goals as goal

pub returns-clause-front : goal.returns-clause-front
returns-clause-front c = written_front

pub returns-clause-settled : goal.returns-clause-settled
returns-clause-settled c = written_settled

pub returns-clause-more : goal.returns-clause-more
returns-clause-more c = λ bytes marks mark game e. written_more (placed_games bytes) marks 0 bytes mark game e
