-- The name under which a fact is found (this project).
use Rattle.cha_board.specs.declared.men.Color.{Color}
use Rattle.cha_board.specs.Board.{Board}
use Rattle.cha_board.specs.Packing.{words_of}
use Rattle.cha_fact.specs.declared.key.Key.{Key}

-- a position as its words, and a side
abbrev pub key_of : Board → Color → Key
key_of q winner = record { packed = record { words = words_of q }; winner = winner }
