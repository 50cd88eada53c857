use Rattle.std.proofs.Common.{◌≡◌, ◌+◌, ◌≤◌, drop}
use Rattle.pgn_games.specs.Cutting.{place_behind, open_at}
use Rattle.pgn_games.proofs.token_turns.led_to.Given as goal

-- the tokens that are left lead on to the place behind all of them
abbrev pub invariant-loop-placed : goal.invariant-loop-placed
invariant-loop-placed l = record {
  low : open_at l.stand ≤ open_at l.fn.place + l.placed-index;
  rest : place_behind l.stand (drop l.placed-index l.tokens) ≡ place_behind l.fn.place l.tokens;
}
