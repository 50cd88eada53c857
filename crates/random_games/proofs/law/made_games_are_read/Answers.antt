use Rattle.random_games.specs.Games.{seeded}
use Rattle.random_games.proofs.ReadAgain.{games_are_read}
use Rattle.random_games.proofs.PlayedAgain.{all_played, so_many}
use Rattle.random_games.proofs.Endings.{all_ended}
use Rattle.random_games.proofs.law.made_games_are_read.Goals as goal

pub returns : goal.returns
returns c = record { games = games_are_read; positions = λ seed count. all_played count (seeded seed); count = λ seed count. so_many count (seeded seed); ends = λ seed count. all_ended count (seeded seed) }
