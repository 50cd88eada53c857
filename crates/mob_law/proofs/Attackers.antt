-- What is attacked is attacked by a man on a square, and back.
use Rattle.std.proofs.Common.{◌≡◌, ℕ, ◌<◌, true, ◌&&◌, List, [], Option, Some, None, refl, sym, subst}
use Rattle.std.proofs.lemmas.Bool.{and_parts, and_from}
use Rattle.cha_board.specs.declared.men.Color.{Color}
use Rattle.cha_board.specs.declared.men.Man.{Man}
use Rattle.cha_board.specs.Men.{same_color}
use Rattle.cha_board.specs.Squares.{aims_at, between}
use Rattle.cha_board.specs.Board.{man_at, is_clear, attacks_as, attacked}
use Rattle.cha_board.proofs.Contents.{some_square}

-- a man of c that attacks t from s
pub record Attacker (men : List (Option Man)) (c : Color) (t s : ℕ) : Type 0 where
  pub man : Man
  pub found : man_at men s ≡ Some man
  pub own : same_color man.color c ≡ true
  pub aims : aims_at c man.kind s t ≡ true
  pub clear : is_clear men s t ≡ true

attacker_of : (men : List (Option Man)) (c : Color) (t s : ℕ) (o : Option Man) → man_at men s ≡ o → attacks_as men c t s o ≡ true → Attacker men c t s
unfolding attacks_as
attacker_of men c t s None found h = cc
attacker_of men c t s (Some man) found h =
    let all = and_parts (same_color man.color c && aims_at c man.kind s t) (is_clear men s t) h in
    let two = and_parts (same_color man.color c) (aims_at c man.kind s t) all.0 in
    record { man = man; found = found; own = two.0; aims = two.1; clear = all.1 }

-- what is attacked is attacked by a man
pub some_attacker : (men : List (Option Man)) (c : Color) (t : ℕ) → attacked men c t ≡ true → (s : ℕ) × (s < 64) × Attacker men c t s
unfolding attacked
some_attacker men c t h =
    let from = some_square (λ s. attacks_as men c t s (man_at men s)) h in
    (from.0, from.1, attacker_of men c t from.0 (man_at men from.0) refl from.2)

-- a man that aims at a square over empty squares attacks it
pub attacks_by : (men : List (Option Man)) (c : Color) (t s : ℕ) (man : Man) → man_at men s ≡ Some man → same_color man.color c ≡ true → aims_at c man.kind s t ≡ true → is_clear men s t ≡ true
    → attacks_as men c t s (man_at men s) ≡ true
unfolding attacks_as
attacks_by men c t s man found own aims clear =
    let P : Option Man → Type 0 = λ x. attacks_as men c t s x ≡ true in
    subst P (sym found) (and_from (same_color man.color c && aims_at c man.kind s t) (is_clear men s t) (and_from (same_color man.color c) (aims_at c man.kind s t) own aims) clear)

-- where nothing lies between, it is clear
pub clear_near : (men : List (Option Man)) (s t : ℕ) → between s t ≡ [] → is_clear men s t ≡ true
unfolding is_clear
clear_near men s t none = rw none refl
