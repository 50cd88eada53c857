-- Choices between two.
use Rattle.std.proofs.Common.{◌≡◌, Bool, true, false, if◌then◌else◌, refl}

-- what was chosen
pub chosen_first : (b x y : Bool) → (if b then x else y) ≡ true → b ≡ true → x ≡ true
chosen_first true x y h e = h
chosen_first false x y h e = cc

pub chosen_second : (b x y : Bool) → (if b then x else y) ≡ true → b ≡ false → y ≡ true
chosen_second true x y h e = cc
chosen_second false x y h e = h

pub chosen : (b x y : Bool) → (b ≡ true → x ≡ true) → (b ≡ false → y ≡ true) → (if b then x else y) ≡ true
chosen true x y f g = f refl
chosen false x y f g = g refl
