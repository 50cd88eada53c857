-- The text of games whose moves are drawn (PGN standard, 8; that the games are these: this project).
use Rattle.std.specs.Prelude.{ℕ, ◌+◌, List, [], ◌∷◌, ◌++◌, codes, decimal}
use Rattle.cha_board.specs.declared.men.Color.{Color}
use Rattle.cha_board.specs.declared.men.Color.TheVariants.{White, Black}
use Rattle.cha_board.specs.Men.{other_color}
use Rattle.cha_moves.specs.Standings.{standing_of}
use Rattle.cha_moves.specs.declared.ends.Standing.{Standing}
use Rattle.cha_moves.specs.declared.ends.Standing.TheVariants.{Mate, Stalemate, Running}
use Rattle.random_games.specs.Games.{MadeGame, seeded, made_games}

-- the result where a side wins (PGN standard, 8.2.6)
abbrev pub win_text : Color → List ℕ
win_text White = codes "1-0"
win_text Black = codes "0-1"

-- the result of a game by how its last position stands: where the game would go on, the side to move has lost on time
abbrev pub result_text : Color → Standing → List ℕ
result_text side (Mate winner) = win_text winner
result_text side Stalemate = codes "1/2-1/2"
result_text side Running = win_text (other_color side)

-- how a game ended, by how its last position stands (PGN standard, 9.8.1)
abbrev pub termination_text : Standing → List ℕ
termination_text (Mate winner) = codes "normal"
termination_text Stalemate = codes "normal"
termination_text Running = codes "time forfeit"

-- the words, with a space behind each
unfoldable pub words_text : List (List ℕ) → List ℕ
words_text [] = []
words_text (word ∷ words) = word ++ 32 ∷ words_text words

-- a tag pair on a line (PGN standard, 8.1.1)
unfoldable pub tag_line : List ℕ → List ℕ → List ℕ
tag_line name value = codes "[" ++ name ++ codes " \"" ++ value ++ codes "\"]\n"

-- three tag pairs: the number of the game, its result, and how it ended
unfoldable pub tags_text : ℕ → List ℕ → List ℕ → List ℕ
tags_text number result termination =
    tag_line (codes "Event") (codes "gen " ++ decimal number) ++ tag_line (codes "Result") result ++ tag_line (codes "Termination") termination

-- a game: its tag pairs, an empty line, its words and its result on one line, and an empty line
unfoldable pub game_text : ℕ → MadeGame → List ℕ
game_text number game =
    let result = result_text game.last.side (standing_of game.last) in
    tags_text number result (termination_text (standing_of game.last)) ++ codes "\n" ++ words_text game.words ++ result ++ codes "\n\n"

-- games, numbered from here on
unfoldable pub texts_from : ℕ → List MadeGame → List ℕ
texts_from number [] = []
texts_from number (game ∷ games) = game_text number game ++ texts_from (number + 1) games

-- the text of so many games of a seed, numbered from 1
unfoldable pub made : ℕ → ℕ → List ℕ
made seed count = texts_from 1 (made_games count (seeded seed))
