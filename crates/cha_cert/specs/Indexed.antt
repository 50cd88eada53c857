-- What an index of positions shows (this project).
use Rattle.std.specs.Prelude.{ℕ, ◌+◌, List, [], ◌∷◌, map}
use Rattle.std.specs.List.{Contains}
use Rattle.std.specs.List.Sorted.{IsPermutation, IsSortedBy}
use Rattle.std.specs.Ordering.{nat_cmp, is_lt}
use Rattle.std.specs.Cmp.Lexicographic.{slice_cmp}
use Rattle.cha_board.specs.declared.men.Color.{Color}
use Rattle.cha_board.specs.Men.{other_color}
use Rattle.cha_board.specs.Board.{Board}
use Rattle.cha_board.specs.Packing.{words_of}
use Rattle.cha_board.specs.declared.packed.Packed.{Packed}
use Rattle.cha_moves.specs.Step.{Move}
use Rattle.cha_moves.specs.Moves.{after, legal}
use Rattle.cha_moves.specs.Ends.{IsMated}
use Rattle.cha_cert.specs.declared.indexing.IndexEntry.{IndexEntry}
use Rattle.cha_cert.specs.declared.nodes.Node.{Node}
use Rattle.cha_cert.specs.Certificates.{positions_of, AllValid}

-- a position as its words
abbrev pub packed_of : Board → Packed
packed_of q = record { words = words_of q }

-- the places of positions, which are numbered from some number on
unfoldable pub places_from : ℕ → List Board → List IndexEntry
places_from n [] = []
places_from n (q ∷ qs) = (record { packed = packed_of q; number = n }) ∷ places_from (n + 1) qs

-- A list of places is an index of nodes: it has each node's position as words, with the number of the node, in some order,
-- and those positions are valid.
pub record IsIndexOf (nodes : List Node) (places : List IndexEntry) : Type 0 where
  pub same : IsPermutation (places_from 0 (positions_of nodes)) places
  pub valid : AllValid nodes

-- the words of places
abbrev pub words_in : List IndexEntry → List Packed
words_in places = map (λ (place : IndexEntry). place.packed) places

-- the words rise, one word after the other
abbrev pub AreSorted : List IndexEntry → Type 0
AreSorted places = IsSortedBy (λ (a b : IndexEntry). is_lt (slice_cmp nat_cmp a.packed.words b.packed.words)) places

-- q is no mate for w, and each legal move leads to a position whose words are in the list
pub record LeadsInto (w : Color) (places : List IndexEntry) (q : Board) : Type 0 where
  pub no_mate : IsMated q (other_color w) → ⊥
  pub leads : (m : Move) → Contains (legal q) m → Contains (words_in places) (packed_of (after q m))
