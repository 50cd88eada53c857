-- A move word as its parts in the order in which they stand (PGN standard, 8.2.3.1 to 8.2.3.4).
use Rattle.std.specs.Prelude.{◌≡◌, ℕ, ◌<◌, ◌⊎◌, List, [], ◌∷◌, ◌++◌, Option, Some, None}
use Rattle.cha_board.specs.declared.men.Kind.{Kind}
use Rattle.cha_board.specs.Letters.{square_text}
use Rattle.cha_san.specs.declared.forms.Parts.{Parts}
use Rattle.cha_san.specs.Forms.{promotion_named, file_named, rank_named, kind_at}

-- a part that may be left out: nothing, or the byte that names it
abbrev pub IsNamed : (ℕ → Option ℕ) → Option ℕ → List ℕ → Type 0
IsNamed named None text = text ≡ []
IsNamed named (Some n) text = (b : ℕ) × (named b ≡ Some n) × (text ≡ b ∷ [])

-- a promotion: nothing, or the letter of what the pawn becomes, with an = before it or without
abbrev pub IsPromotion : Option Kind → List ℕ → Type 0
IsPromotion None text = text ≡ []
IsPromotion (Some kind) text = (b : ℕ) × (promotion_named b ≡ Some kind) × ((text ≡ b ∷ []) ⊎ (text ≡ 61 ∷ b ∷ []))

-- The letter of the man, the file and the rank that it leaves, the x of a capture, the square that it goes to, and the promotion.
-- All but the square may be left out.
pub record IsInOrder (word : List ℕ) (p : Parts) : Type 0 where
  pub letter : List ℕ
  pub file : List ℕ
  pub rank : List ℕ
  pub capture : List ℕ
  pub promotion : List ℕ
  pub in_order : word ≡ letter ++ file ++ rank ++ capture ++ square_text p.to ++ promotion
  pub names_kind : kind_at letter ≡ Some p.kind
  pub names_file : IsNamed file_named p.file file
  pub names_rank : IsNamed rank_named p.rank rank
  pub may_capture : (capture ≡ []) ⊎ (capture ≡ 120 ∷ [])
  pub on_board : p.to < 64
  pub names_promotion : IsPromotion p.promotion promotion
