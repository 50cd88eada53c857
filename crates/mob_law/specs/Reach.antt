-- What mobility sets leave fixed, open and guarded, read against a position (this project).
use Rattle.std.specs.Prelude.{ℕ, ◌==◌, Bool, true, false, not, ◌&&◌, ◌||◌, Option, Some, None}
use Rattle.std.specs.List.{list_all, list_any}
use Rattle.cha_board.specs.declared.men.Color.{Color}
use Rattle.cha_board.specs.declared.men.Kind.{Kind}
use Rattle.cha_board.specs.declared.men.Kind.TheVariants.{Pawn, Knight, King}
use Rattle.cha_board.specs.declared.men.Man.{Man}
use Rattle.cha_board.specs.Men.{same_color}
use Rattle.cha_board.specs.Squares.{squares, aims_at, steps_apart, between}
use Rattle.cha_board.specs.Board.{Board, man_at, is_empty}
use Rattle.mob_sets.specs.Mobility.{Sets}

-- a man stands on f, and it is not loose: it stands there for ever
unfoldable pub is_fixed : Board → Sets → ℕ → Bool
is_fixed p s f = not (is_empty p.men f) && not (s.loose f)

-- no fixed man stands strictly between two squares
unfoldable pub is_open : Board → Sets → ℕ → ℕ → Bool
is_open p s u t = list_all (λ v. not (is_fixed p s v)) (between u t)

-- the same, seen through whatever stands on k
unfoldable pub is_open_through : Board → Sets → ℕ → ℕ → ℕ → Bool
is_open_through p s k u t = list_all (λ v. (v == k) || not (is_fixed p s v)) (between u t)

-- a man that attacks by one step or by a jump, so that nothing can stand in its way
abbrev pub is_leaper : Kind → Bool
is_leaper Pawn = true
is_leaper Knight = true
is_leaper King = true
is_leaper k = false

-- a k of c on u aims at t by one step or a jump
unfoldable pub steps_to : Color → Kind → ℕ → ℕ → Bool
steps_to c k u t = aims_at c k u t && (is_leaper k || (steps_apart u t == 1))

-- what stands on f is a man of c that attacks t, whatever stands on other squares
unfoldable pub guards_as : Color → ℕ → ℕ → Option Man → Bool
guards_as c f t None = false
guards_as c f t (Some man) =
    same_color man.color c && aims_at c man.kind f t && (is_leaper man.kind || (steps_apart f t == 1))

-- the man on f does so, and it is fixed
unfoldable pub guards_from : Board → Sets → Color → ℕ → ℕ → Bool
guards_from p s c t f = is_fixed p s f && guards_as c f t (man_at p.men f)

-- some fixed man of c attacks t for ever
unfoldable pub is_guarded : Board → Sets → Color → ℕ → Bool
is_guarded p s c t = list_any (guards_from p s c t) squares
