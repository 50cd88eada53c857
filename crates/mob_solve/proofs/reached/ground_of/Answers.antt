use Rattle.std.proofs.Common.{◌≡◌, ◌==◌, ℕ, List, Bool, length, ap, ◌∙◌}
use Rattle.std.specs.Int.{bit_at}
use Rattle.cha_board.proofs.SetLaws.{length-set_of}
use Rattle.cha_board.proofs.Contents.{set_is}
use Rattle.mob_solve.specs.Reaching.{sets_in}
use Rattle.mob_solve.proofs.reached.ground_of.Goals as goal

pub returns : goal.returns
returns c =
    let reach = c.args.reach.now in
    let width : length reach.loose ≡ 64 = ap (λ (x : List Bool). length x) c.bits-number.ensures.shown ∙ length-set_of (λ (s : ℕ). bit_at c.bits-number.result s == 1) in
    c.of.ensures (sets_in reach) (set_is reach.loose width) c.reached_squares.ensures c.reached_squares-2.ensures
