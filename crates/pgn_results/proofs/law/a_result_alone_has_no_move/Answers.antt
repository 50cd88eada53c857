use Rattle.pgn_results.proofs.ResultAlone.{result_alone}
use Rattle.pgn_results.proofs.law.a_result_alone_has_no_move.Goals as goal

pub returns : goal.returns
returns c = result_alone
