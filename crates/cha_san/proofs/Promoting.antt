-- What a pawn becomes by a letter is the kind of that letter, if it is one that a pawn may become.
use Rattle.std.proofs.Common.{◌≡◌, ◌≢◌, ℕ, Some, None, arith}
use Rattle.std.proofs.lemmas.Bool.Decides.{nat_tests}
use Rattle.cha_board.specs.declared.men.Kind.{Kind}
use Rattle.cha_board.specs.declared.men.Kind.TheVariants.{Pawn, King}
use Rattle.cha_board.specs.Letters.{kind_of}
use Rattle.cha_san.specs.Forms.{promotion_named}

pub none_named : (b : ℕ) → kind_of b ≡ None → promotion_named b ≡ None
unfolding kind_of promotion_named
none_named b e = grind (arith, nat_tests)

pub no_pawn : (b : ℕ) → kind_of b ≡ Some Pawn → promotion_named b ≡ None
unfolding kind_of promotion_named
no_pawn b e = grind (arith, nat_tests)

pub no_king : (b : ℕ) → kind_of b ≡ Some King → promotion_named b ≡ None
unfolding kind_of promotion_named
no_king b e = grind (arith, nat_tests)

pub as_named : (b : ℕ) (k : Kind) → kind_of b ≡ Some k → k ≢ Pawn → k ≢ King → promotion_named b ≡ Some k
unfolding kind_of promotion_named
as_named b k e no_pawn no_king = grind (arith, nat_tests)
