-- Where the men of a side are in reach by kinds, row by row.
use Rattle.std.proofs.Common.{◌≡◌, ℕ, ◌+◌, ◌<◌, true, false, ◌&&◌, List, [], length, get_or, take, ap, ◌∙◌}
use Rattle.std.proofs.lemmas.Bool.{and_right}
use Rattle.cha_board.specs.declared.men.Color.{Color}
use Rattle.cha_board.specs.declared.men.Kind.{Kind}
use Rattle.cha_board.specs.declared.men.Kind.TheVariants.{Pawn, Knight, Bishop, Rook, Queen, King}
use Rattle.cha_board.specs.Men.{same_kind, is_non_king}
use Rattle.cha_board.specs.Board.{Board, man_at}
use Rattle.cha_board.specs.SquareSets.{set_joined}
use Rattle.mob_sets.specs.Rows.{Row}
use Rattle.mob_check.specs.declared.groups.Group.TheVariants.{MenAs}
use Rattle.mob_check.specs.Reaches.{is_row_of, reach_of}
use Rattle.mob_check.specs.Scenes.{reach_nowhere, reach_with, reach_by_kind}
use Rattle.mob_check.proofs.Reaching.{none_reach, joined_reach, skipped_reach}

pub none_by_kind : (p : Board) (c : Color) → reach_nowhere ≡ reach_by_kind p [] c
unfolding reach_by_kind
none_by_kind p c =
    cc (none_reach p (MenAs c Pawn), none_reach p (MenAs c Knight), none_reach p (MenAs c Bishop), none_reach p (MenAs c Rook), none_reach p (MenAs c Queen), none_reach p (MenAs c King))

-- a row of a man that is no king is of the group of its kind alone
own_row : (p : Board) (c : Color) (row : Row) (j k : Kind) → is_non_king c (man_at p.men row.origin) ≡ true → row.kind ≡ j → is_row_of p (MenAs c k) row ≡ (same_kind j k && true)
unfolding is_row_of
own_row p c row j k own is = ap (λ x. same_kind x k && is_non_king c (man_at p.men row.origin)) is ∙ ap (λ b. same_kind j k && b) own

-- and of none where its man is another's
other_row : (p : Board) (c : Color) (row : Row) (k : Kind) → is_non_king c (man_at p.men row.origin) ≡ false → is_row_of p (MenAs c k) row ≡ false
unfolding is_row_of
other_row p c row k other = and_right (same_kind row.kind k) (is_non_king c (man_at p.men row.origin)) other

module _ (p : Board) (rows : List Row) (c : Color) (i : ℕ) (d : Row) (inside : i < length rows) where
  abbrev row : Row
  row = get_or rows i d

  joins : (k : Kind) → is_row_of p (MenAs c k) row ≡ true → set_joined (reach_of p (take i rows) (MenAs c k)) row.squares ≡ reach_of p (take (i + 1) rows) (MenAs c k)
  joins k is = joined_reach p rows (MenAs c k) i d inside is

  skips : (k : Kind) → is_row_of p (MenAs c k) row ≡ false → reach_of p (take i rows) (MenAs c k) ≡ reach_of p (take (i + 1) rows) (MenAs c k)
  skips k is = skipped_reach p rows (MenAs c k) i d inside is

  -- a row of a man of the side that is no king
  pub one_by_kind : is_non_king c (man_at p.men row.origin) ≡ true → (j : Kind) → row.kind ≡ j → reach_with (reach_by_kind p (take i rows) c) j row.squares ≡ reach_by_kind p (take (i + 1) rows) c
  unfolding reach_by_kind
  one_by_kind own Pawn is =
      let of = λ (k : Kind). own_row p c row Pawn k own is in
      cc (joins Pawn (of Pawn), skips Knight (of Knight), skips Bishop (of Bishop), skips Rook (of Rook), skips Queen (of Queen), skips King (of King))
  one_by_kind own Knight is =
      let of = λ (k : Kind). own_row p c row Knight k own is in
      cc (skips Pawn (of Pawn), joins Knight (of Knight), skips Bishop (of Bishop), skips Rook (of Rook), skips Queen (of Queen), skips King (of King))
  one_by_kind own Bishop is =
      let of = λ (k : Kind). own_row p c row Bishop k own is in
      cc (skips Pawn (of Pawn), skips Knight (of Knight), joins Bishop (of Bishop), skips Rook (of Rook), skips Queen (of Queen), skips King (of King))
  one_by_kind own Rook is =
      let of = λ (k : Kind). own_row p c row Rook k own is in
      cc (skips Pawn (of Pawn), skips Knight (of Knight), skips Bishop (of Bishop), joins Rook (of Rook), skips Queen (of Queen), skips King (of King))
  one_by_kind own Queen is =
      let of = λ (k : Kind). own_row p c row Queen k own is in
      cc (skips Pawn (of Pawn), skips Knight (of Knight), skips Bishop (of Bishop), skips Rook (of Rook), joins Queen (of Queen), skips King (of King))
  one_by_kind own King is =
      let of = λ (k : Kind). own_row p c row King k own is in
      cc (skips Pawn (of Pawn), skips Knight (of Knight), skips Bishop (of Bishop), skips Rook (of Rook), skips Queen (of Queen), joins King (of King))

  -- another row
  pub other_by_kind : is_non_king c (man_at p.men row.origin) ≡ false → reach_by_kind p (take i rows) c ≡ reach_by_kind p (take (i + 1) rows) c
  unfolding reach_by_kind
  other_by_kind other =
      let of = λ (k : Kind). other_row p c row k other in
      cc (skips Pawn (of Pawn), skips Knight (of Knight), skips Bishop (of Bishop), skips Rook (of Rook), skips Queen (of Queen), skips King (of King))
