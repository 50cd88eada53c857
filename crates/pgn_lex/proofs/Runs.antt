-- Runs of bytes, byte by byte.
use Rattle.std.proofs.Common.{◌≡◌, ℕ, suc, ◌==◌, ◌||◌, Bool, true, false, not, List, ◌∷◌, refl, sym, ap, ◌∙◌, arith}
use Rattle.std.specs.List.{prefix_len}
use Rattle.std.proofs.lemmas.Bool.{eqb-true}
use Rattle.cha_list.specs.declared.classes.Class.TheVariants.{InLine}
use Rattle.cha_list.specs.Bytes.{in_class}

pub run_grows : (p : ℕ → Bool) (b : ℕ) (rest : List ℕ) → p b ≡ true → prefix_len p (b ∷ rest) ≡ suc (prefix_len p rest)
run_grows p b rest e = rw e (omega arith)

pub run_ends : (p : ℕ → Bool) (b : ℕ) (rest : List ℕ) → p b ≡ false → prefix_len p (b ∷ rest) ≡ 0
run_ends p b rest e = rw e refl

-- a class that has neither end of a line is of bytes in the line
ends_line : (p : ℕ → Bool) (b : ℕ) (x y : Bool) → (b == 13) ≡ x → (b == 10) ≡ y → not (x || y) ≡ false → p 13 ≡ false → p 10 ≡ false → p b ≡ false
ends_line p b true y e f g h i = ap p (eqb-true b 13 e) ∙ h
ends_line p b false true e f g h i = ap p (eqb-true b 10 f) ∙ i
ends_line p b false false e f g h i = cc

in_line_by : (p : ℕ → Bool) (b : ℕ) (t : Bool) → in_class InLine b ≡ t → p b ≡ true → p 13 ≡ false → p 10 ≡ false → in_class InLine b ≡ true
unfolding in_class
in_line_by p b true e f h i = e
in_line_by p b false e f h i =
    let g : p b ≡ false = ends_line p b (b == 13) (b == 10) refl refl e h i in
    let no : true ≡ false = sym f ∙ g in
    cc

pub in_line : (p : ℕ → Bool) (b : ℕ) → p b ≡ true → p 13 ≡ false → p 10 ≡ false → in_class InLine b ≡ true
in_line p b f h i = in_line_by p b (in_class InLine b) refl f h i
