use Rattle.std.proofs.Common.{◌≡◌, ◌+◌, ◌-◌}
use Rattle.random_games.specs.Made.{made}
use Rattle.random_games.proofs.Numbered.{goes_to}
use Rattle.random_games.proofs.texts.games_text.Given as goal

-- the games so far, and those that follow, are the games of the seed
abbrev pub invariant-loop-i : goal.invariant-loop-i
invariant-loop-i l = goes_to l.text (l.i + 1) (l.count - l.i) l.generator ≡ made l.seed l.count
