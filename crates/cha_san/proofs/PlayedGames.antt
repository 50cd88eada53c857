-- The positions of a game come from one another by legal moves.
use Rattle.std.proofs.Common.{◌≡◌, ℕ, zero, suc, ◌+◌, List, [], ◌∷◌, Some, Result, Ok, Err, IfOk, slice_get, refl, sym, subst, arith, Contains}
use Rattle.std.specs.List.{All}
use Rattle.std.proofs.lemmas.Option.{same_Some}
use Rattle.std.proofs.lemmas.List.Elements.{All-cons, All-nil}
use Rattle.cha_board.specs.Board.{Board, IsValid}
use Rattle.cha_moves.specs.Step.{Move}
use Rattle.cha_moves.specs.Moves.{after, legal}
use Rattle.cha_moves.specs.Dead.{ArePlayed}
use Rattle.cha_moves.proofs.Listed.{is_listed}
use Rattle.cha_moves.proofs.Validity.{after_is_valid}
use Rattle.cha_san.specs.declared.faults.SanFault.{SanFault}
use Rattle.cha_san.specs.declared.faults.PlayFault.{PlayFault}
use Rattle.cha_san.specs.Resolving.{resolved}
use Rattle.cha_san.specs.Playing.{onto, onward, positions_from, positions}
use Rattle.cha_san.proofs.Resolved.{resolved_legal}

-- a legal move leaves a valid position
stays_valid : (q : Board) (m : Move) → IsValid q → Contains (legal q) m → IsValid (after q m)
stays_valid q m valid there = let listed = is_listed q m there in after_is_valid q m valid listed.from listed.to listed.legal

-- a position comes from another by a legal move
abbrev Follows : Board → Board → Type 0
Follows p q = (m : Move) × Contains (legal p) m × (q ≡ after p m)

-- each position of a list comes so from the one before it, and this one comes first
abbrev IsWalk : Board → List Board → Type 0
IsWalk p [] = Unit {0}
IsWalk p (q ∷ qs) = Follows p q × IsWalk q qs

-- so the list is one of positions that were played
walk_step : (p : Board) (qs : List Board) → IsWalk p qs → (i : ℕ) (a b : Board) → slice_get (p ∷ qs) i ≡ Some a → slice_get (p ∷ qs) (i + 1) ≡ Some b → Follows a b
walk_step p [] walk zero a b e f = cc
walk_step p [] walk (suc i) a b e f = cc
walk_step p (q ∷ qs) walk zero a b e f = let one : p ≡ a = same_Some p a e in let two : q ≡ b = same_Some q b f in subst (λ x. Follows x b) one (subst (λ x. Follows p x) two walk.0)
walk_step p (q ∷ qs) walk (suc i) a b e f = let more : suc i + 1 ≡ suc (i + 1) = omega arith in walk_step q qs walk.1 i a b e (rw more at f)

walk_played : (p : Board) (qs : List Board) → IsWalk p qs → ArePlayed (p ∷ qs)
unfolding ArePlayed
walk_played p qs walk = walk_step p qs walk

-- where the first is valid, all are
walk_valid : (p : Board) (qs : List Board) → IsValid p → IsWalk p qs → All IsValid (p ∷ qs)
walk_valid p [] valid walk = All-cons IsValid p [] valid (All-nil IsValid)
walk_valid p (q ∷ qs) valid walk =
    All-cons IsValid p (q ∷ qs) valid (walk_valid q qs (subst IsValid (sym walk.0.2) (stays_valid p walk.0.0 valid walk.0.1)) walk.1)

-- the positions of a game are such a walk
abbrev IsGameFrom : Board → List Board → Type 0
IsGameFrom q qs = (rest : List Board) × (qs ≡ q ∷ rest) × IsWalk q rest

onto_walk : (q next : Board) (r : Result (List Board) PlayFault) → Follows q next → IfOk r (IsGameFrom next) → IfOk (onto q r) (IsGameFrom q)
onto_walk q next (Ok rest) step walk = (rest, refl, subst (IsWalk q) (sym walk.1) (step, walk.2))
onto_walk q next (Err fault) step walk = tt

onward_walk : (ply : ℕ) (q : Board) (r : Result Move SanFault) (rest : Board → Result (List Board) PlayFault) → IfOk r (λ m. Contains (legal q) m) → ((next : Board) → IfOk (rest next) (IsGameFrom next)) → IfOk (onward ply q r rest) (IsGameFrom q)
onward_walk ply q (Ok m) rest fits behind = onto_walk q (after q m) (rest (after q m)) (m, fits, refl) (behind (after q m))
onward_walk ply q (Err fault) rest fits behind = tt

walk_of : (ply : ℕ) (q : Board) (words : List (List ℕ)) → IfOk (positions_from ply q words) (IsGameFrom q)
unfolding positions_from
walk_of ply q [] = ([], refl, tt)
walk_of ply q (word ∷ words) = onward_walk ply q (resolved q word) (λ next. positions_from (ply + 1) next words) (resolved_legal q word) (λ next. walk_of (ply + 1) next words)

of_walk_played : (q : Board) (r : Result (List Board) PlayFault) → IfOk r (IsGameFrom q) → IfOk r ArePlayed
of_walk_played q (Ok qs) walk = subst ArePlayed (sym walk.1) (walk_played q walk.0 walk.2)
of_walk_played q (Err fault) walk = tt

of_walk_valid : (q : Board) (r : Result (List Board) PlayFault) → IsValid q → IfOk r (IsGameFrom q) → IfOk r (All IsValid)
of_walk_valid q (Ok qs) valid walk = subst (All IsValid) (sym walk.1) (walk_valid q walk.0 valid walk.2)
of_walk_valid q (Err fault) valid walk = tt

pub positions_played : (start : Board) (words : List (List ℕ)) → IfOk (positions start words) ArePlayed
positions_played start words = of_walk_played start (positions start words) (walk_of 1 start words)

pub positions_valid : (start : Board) (words : List (List ℕ)) → IsValid start → IfOk (positions start words) (All IsValid)
positions_valid start words valid = of_walk_valid start (positions start words) valid (walk_of 1 start words)
