-- Where a game tells its result.
use Rattle.std.specs.Prelude.{ℕ, List, Option, Some, None}
use Rattle.pgn_games.specs.declared.marks.ResultMark.{ResultMark}
use Rattle.pgn_results.specs.declared.places.Extent.{Extent}
use Rattle.pgn_results.specs.declared.places.ResultPlaces.{ResultPlaces}
use Rattle.pgn_results.specs.Replacing.{with_token, with_tag}

-- a text with a result in place of a token, if there is one
abbrev pub with_token_there : ResultMark → Option Extent → List ℕ → List ℕ
with_token_there mark None bytes = bytes
with_token_there mark (Some token) bytes = with_token mark token.start token.end bytes

-- a text with a result as the value of a tag pair, if there is one
abbrev pub with_tag_there : ResultMark → Option ℕ → List ℕ → List ℕ
with_tag_there mark None bytes = bytes
with_tag_there mark (Some start) bytes = with_tag mark start bytes

-- a text with a result at both places
abbrev pub with_places : ResultMark → ResultPlaces → List ℕ → List ℕ
with_places mark places bytes = with_tag_there mark places.tag (with_token_there mark places.token bytes)
