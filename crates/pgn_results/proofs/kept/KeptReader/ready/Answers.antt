use Rattle.std.proofs.Common.{ap}
use Rattle.pgn_results.specs.Keeping.{KeptState}
use Rattle.pgn_results.proofs.KeptBytes.{given_few}
use Rattle.pgn_results.proofs.kept.KeptReader.ready.Goals as goal

pub returns-in-Ok-clause-few_games : goal.returns-in-Ok-clause-few_games
returns-in-Ok-clause-few_games c = given_few c.next.new.self.taken _ _ c.in-Ok.found c.in-Ok.ensures.game c.next.ensures.few (ap (λ (s : KeptState). s.given) c.self.view_is)
