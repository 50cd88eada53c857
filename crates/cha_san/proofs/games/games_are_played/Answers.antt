use Rattle.cha_san.proofs.Played.{start_from}
use Rattle.cha_san.proofs.PlayedGames.{positions_played, positions_valid}
use Rattle.cha_san.proofs.games.games_are_played.Goals as goal

pub returns-clause-start : goal.returns-clause-start
returns-clause-start c = λ start words. start_from 1 start words

pub returns-clause-played : goal.returns-clause-played
returns-clause-played c = positions_played

pub returns-clause-valid : goal.returns-clause-valid
returns-clause-valid c = positions_valid
