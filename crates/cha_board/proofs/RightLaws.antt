-- Rights to castle, told by side and wing.
use Rattle.std.proofs.Common.{◌≡◌, Bool, refl}
use Rattle.cha_board.specs.declared.men.Color.{Color}
use Rattle.cha_board.specs.declared.men.Color.TheVariants.{White, Black}
use Rattle.cha_board.specs.declared.castling.Wing.{Wing}
use Rattle.cha_board.specs.declared.castling.Wing.TheVariants.{Kingside, Queenside}
use Rattle.cha_board.specs.declared.position.Rights.{Rights}
use Rattle.cha_board.specs.Board.{has_right, rights_where}

pub has-where : (p : Color → Wing → Bool) (c : Color) (w : Wing) → has_right (rights_where p) c w ≡ p c w
has-where p White Kingside = refl
has-where p White Queenside = refl
has-where p Black Kingside = refl
has-where p Black Queenside = refl

-- rights of which each is the same are the same
pub same_rights : (r s : Rights) → ((c : Color) (w : Wing) → has_right r c w ≡ has_right s c w) → r ≡ s
same_rights r s same = λ i. rights_where (λ c w. same c w i)
