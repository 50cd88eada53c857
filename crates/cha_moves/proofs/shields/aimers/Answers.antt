use Rattle.std.proofs.Common.{ℕ, ◌||◌, ◌&&◌, ◌∙◌}
use Rattle.cha_board.specs.declared.men.Kind.{Kind}
use Rattle.cha_board.specs.declared.men.Kind.TheVariants.{Pawn, Knight, Bishop, Rook, Queen, King}
use Rattle.cha_board.specs.Men.{is_man}
use Rattle.cha_board.specs.Squares.{aims_at}
use Rattle.cha_board.specs.Board.{man_at}
use Rattle.cha_board.proofs.SetLaws.{same_set}
use Rattle.cha_moves.specs.Shields.{aims_as}
use Rattle.cha_moves.proofs.Facing.{six_kinds}
use Rattle.cha_moves.proofs.Goings.{joined_of}
use Rattle.cha_moves.proofs.shields.aimers.Goals as goal

pub returns : goal.returns
returns c =
    let men = c.args.position.now.men in
    let by = c.args.by in
    let at = c.args.at in
    let f = λ (k : Kind) (u : ℕ). is_man by k (man_at men u) && aims_at by k u at in
    c.joined-5.ensures ∙ rw (
      c.joined-4.ensures,
      c.joined-3.ensures,
      c.joined-2.ensures,
      c.joined.ensures,
      c.aimers_of.ensures,
      c.aimers_of-2.ensures,
      c.aimers_of-3.ensures,
      c.aimers_of-4.ensures,
      c.aimers_of-5.ensures,
      c.aimers_of-6.ensures,
      joined_of (f Pawn) (f Knight),
      joined_of (λ u. f Pawn u || f Knight u) (f King),
      joined_of (λ u. (f Pawn u || f Knight u) || f King u) (f Bishop),
      joined_of (λ u. ((f Pawn u || f Knight u) || f King u) || f Bishop u) (f Rook),
      joined_of (λ u. (((f Pawn u || f Knight u) || f King u) || f Bishop u) || f Rook u) (f Queen),
    )
    (same_set (λ u. ((((f Pawn u || f Knight u) || f King u) || f Bishop u) || f Rook u) || f Queen u) (λ u. aims_as by at u (man_at men u)) (λ u _. six_kinds by at u (man_at men u)))
