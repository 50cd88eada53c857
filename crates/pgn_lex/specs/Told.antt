-- What a history tells.
use Rattle.std.specs.Prelude.{List, [], ◌∷◌, ◌++◌}
use Rattle.pgn_lex.specs.declared.history.Told.{Told, Nothing, More'}

-- elements in order, the last of them told last
abbrev pub list_told : {T : Type 0} → Told T → List T
list_told Nothing = []
list_told (More' shape before element) = list_told before ++ element.value ∷ []
