-- What is built is valid.
use Rattle.std.proofs.Common.{◌≡◌, ℕ, ◌<◌, Bool, true, false, not, ◌&&◌, ◌||◌, if◌then◌else◌, List, length, Option, Some, None, IsTrue, refl, ap, ◌∙◌}
use Rattle.cha_board.specs.declared.men.Color.{Color}
use Rattle.cha_board.specs.declared.men.Color.TheVariants.{White, Black}
use Rattle.cha_board.specs.declared.men.Man.{Man}
use Rattle.cha_board.specs.declared.position.Rights.{Rights}
use Rattle.cha_board.specs.declared.castling.Wing.{Wing}
use Rattle.cha_board.specs.declared.build.BuildFault.TheVariants.{Kings, PawnRank, OpponentInCheck}
use Rattle.cha_board.specs.Men.{other_color}
use Rattle.cha_board.specs.Board.{IsValid, has_one_king, has_pawn_at_end, is_pawn_at_end, in_check, are_at_home, has_right, right_fits, target_fits, target_is_good}
use Rattle.cha_board.specs.Build.{build_fault, kept_rights, kept_target}
use Rattle.cha_board.proofs.RightLaws.{has-where}
use Rattle.cha_board.proofs.Scans.{any_square_at, no_square}

pub pawn_at : (men : List (Option Man)) (s : ℕ) → s < 64 → is_pawn_at_end men s ≡ true → has_pawn_at_end men ≡ true
unfolding has_pawn_at_end
pawn_at men s small h = any_square_at (λ s. is_pawn_at_end men s) s small h

pub pawn_nowhere : (men : List (Option Man)) → ((s : ℕ) → s < 64 → is_pawn_at_end men s ≡ false) → has_pawn_at_end men ≡ false
unfolding has_pawn_at_end
pawn_nowhere men none = no_square (λ s. is_pawn_at_end men s) none

-- men and a side that break no rule
record IsSound (men : List (Option Man)) (side : Color) : Type 0 where
  white : has_one_king men White ≡ true
  black : has_one_king men Black ≡ true
  pawns : has_pawn_at_end men ≡ false
  opponent : in_check men (other_color side) ≡ false

sound_tests : (w b p o : Bool) → (if not (w && b) then Some Kings else (if p then Some PawnRank else (if o then Some OpponentInCheck else None))) ≡ None
    → (w ≡ true) × (b ≡ true) × (p ≡ false) × (o ≡ false)
sound_tests true true false false h = (refl, refl, refl, refl)
sound_tests true true false true h = cc
sound_tests true true true o h = cc
sound_tests true false p o h = cc
sound_tests false b p o h = cc

sound : (men : List (Option Man)) (side : Color) → build_fault men side ≡ None → IsSound men side
unfolding build_fault
sound men side h =
    let t = sound_tests (has_one_king men White) (has_one_king men Black) (has_pawn_at_end men) (in_check men (other_color side)) h in
    record { white = t.0; black = t.1; pawns = t.2; opponent = t.3 }

kept_fits : (a h : Bool) → (not (a && h) || h) ≡ true
kept_fits true true = refl
kept_fits true false = refl
kept_fits false true = refl
kept_fits false false = refl

right_kept_fits : (men : List (Option Man)) (r : Rights) (c : Color) (w : Wing) → right_fits men (kept_rights men r) c w ≡ true
unfolding right_fits kept_rights
right_kept_fits men r c w = ap (λ b. not b || are_at_home men c w) (has-where (λ c w. has_right r c w && are_at_home men c w) c w) ∙ kept_fits (has_right r c w) (are_at_home men c w)

kept_if : (men : List (Option Man)) (side : Color) (s : ℕ) (v : Bool) → target_fits men side s ≡ v → target_is_good men side (if v then Some s else None) ≡ true
kept_if men side s true e = e
kept_if men side s false e = refl

target_kept_fits : (men : List (Option Man)) (side : Color) (target : Option ℕ) → target_is_good men side (kept_target men side target) ≡ true
unfolding kept_target
target_kept_fits men side None = refl
target_kept_fits men side (Some s) = kept_if men side s (target_fits men side s) refl

one_king_each : (men : List (Option Man)) (side c : Color) → IsSound men side → IsTrue (has_one_king men c)
one_king_each men side White s = s.white
one_king_each men side Black s = s.black

pub built_is_valid : (men : List (Option Man)) (side : Color) (rights : Rights) (target : Option ℕ) → length men ≡ 64 → build_fault men side ≡ None
    → IsValid (record { men = men; side = side; rights = kept_rights men rights; target = kept_target men side target })
built_is_valid men side rights target size none =
    let s = sound men side none in
    record {
      size = size;
      kings = λ c. one_king_each men side c s;
      pawns = ap not s.pawns;
      opponent = ap not s.opponent;
      rights = right_kept_fits men rights;
      target = target_kept_fits men side target;
    }
