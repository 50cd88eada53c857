-- Tokens that are moved to their game.
use Rattle.std.proofs.Common.{◌≡◌, ◌+◌, ◌-◌, ◌^◌, ◌<◌, ◌==◌, Bool, true, false, List, [], ◌∷◌, ◌++◌, Some, length, slice_index_or, sym, ap, ◌∙◌, arith, append_assoc, length-append}
use Rattle.std.specs.List.{remove}
use Rattle.pgn_lex.specs.declared.kinds.Placed.{Placed}
use Rattle.pgn_games.specs.declared.token_turns.Place.{Place}
use Rattle.pgn_games.specs.declared.token_turns.Place.TheVariants.{Before}
use Rattle.pgn_games.specs.declared.token_turns.Turn.TheVariants.{Stays, Ends, Begins}
use Rattle.pgn_games.specs.Cutting.{turn}
use Rattle.pgn_games.specs.Holding.{first_end, IsScanned}
use Rattle.pgn_games.proofs.GameEnds.{scanned_more, ends_scanned, begins_scanned}

pub first_item : (xs : List Placed) (t : Placed) → 0 < length xs → t ≡ slice_index_or xs 0 t → xs ≡ t ∷ remove xs 0
first_item [] t some e = absurd (omega arith)
first_item (x ∷ xs) t some e = ap (λ y. y ∷ xs) (sym e)

module _ (game behind : List Placed) (place : Place) (t u : Placed) (scanned : IsScanned game place) (some : 0 < length behind) (seen : t ≡ slice_index_or behind 0 t) where
  same_item : u ≡ slice_index_or behind 0 u → behind ≡ u ∷ remove behind 0
  same_item e = first_item behind u some e

  seen_item : (xs : List Placed) → 0 < length xs → t ≡ slice_index_or xs 0 t → u ≡ slice_index_or xs 0 u → u ≡ t
  seen_item [] n e f = absurd (omega arith)
  seen_item (x ∷ xs) n e f = f ∙ sym e

  pub moved : (game' behind' : List Placed) → u ≡ slice_index_or behind 0 u → game' ≡ game ++ u ∷ [] → behind' ≡ remove behind 0 → game' ++ behind' ≡ game ++ behind
  moved game' behind' e f g = ap (λ xs. xs ++ behind') f ∙ append_assoc game (u ∷ []) behind' ∙ ap (λ xs. game ++ u ∷ xs) g ∙ ap (λ xs. game ++ xs) (sym (same_item e))

  pub moved_few : (game' behind' : List Placed) → u ≡ slice_index_or behind 0 u → game' ≡ game ++ u ∷ [] → behind' ≡ remove behind 0 → length game + length behind < 2 ^ 64 - 1 → length game' + length behind' < 2 ^ 64 - 1
  moved_few game' behind' e f g few = omega (arith, few, length-append game' behind', length-append game behind, ap length (moved game' behind' e f g))

  pub moved_on : (game' : List Placed) (next : Place) → u ≡ slice_index_or behind 0 u → game' ≡ game ++ u ∷ [] → turn place t.token ≡ Stays next → IsScanned game' next
  moved_on game' next e f is = rw (f, seen_item behind some seen e) (scanned_more game place next t scanned is)

  pub moved_last : (game' behind' : List Placed) → u ≡ slice_index_or behind 0 u → game' ≡ game ++ u ∷ [] → turn place t.token ≡ Ends → first_end Before (game' ++ behind') ≡ Some (length game')
  moved_last game' behind' e f is = rw (f, seen_item behind some seen e) (ends_scanned game place t behind' scanned is)

  pub stays_behind : turn place t.token ≡ Begins → first_end Before (game ++ behind) ≡ Some (length game)
  stays_behind is = ap (λ xs. first_end Before (game ++ xs)) (first_item behind t some seen) ∙ begins_scanned game place t (remove behind 0) scanned is

pub some_there : (xs ys : List Placed) (b : Bool) → b ≡ (length xs == 0) → b ≡ false → xs ≡ ys → 0 < length ys
some_there [] ys b e f g = let h : true ≡ false = sym e ∙ f in cc
some_there (x ∷ xs) ys b e f g = omega (arith, ap length g)
