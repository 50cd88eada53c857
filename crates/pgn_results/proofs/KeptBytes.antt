-- The bytes that are kept, and the games among them.
use Rattle.std.proofs.Common.{◌≡◌, ℕ, zero, suc, ◌+◌, ◌-◌, ◌^◌, ◌<◌, ◌≤◌, List, [], ◌∷◌, ◌++◌, Option, Some, None, IfSome, length, take, drop, slice_get, slice_range, refl, sym, ap, ◌∙◌, arith, append-nil, drop-drop, length-append, length-drop, Bool, false}
use Rattle.std.proofs.lemmas.List.{drop-append-le, drop-take}
use Rattle.std.proofs.lemmas.Slice.{between_is}
use Rattle.cha_outside.specs.declared.gathering.TheConstants.{MOST_BYTES}
use Rattle.pgn_games.specs.declared.played.PlacedGame.{PlacedGame}
use Rattle.pgn_games.specs.Games.{placed_games}
use Rattle.pgn_games.specs.Order.{AreInOrder}
use Rattle.pgn_games.specs.Settling.{settled_games}
use Rattle.pgn_games.proofs.InOrder.{placed_games_order}
use Rattle.pgn_games.proofs.KeptTokens.{nothing_more, waits_on}
use Rattle.pgn_games.proofs.Settled.{settled_grow}
use Rattle.pgn_results.specs.declared.intake.Intake.{Intake}
use Rattle.pgn_results.specs.Correcting.{between}
use Rattle.pgn_results.specs.Keeping.{arrived, IsGoingOn, Waits}
use Rattle.pgn_results.proofs.GameByGame.{same_first}

-- the games given are the same, whatever comes
pub given_stay : (before now more : List ℕ) (given : ℕ) → given ≤ settled_games before → now ≡ before ++ more → take given (placed_games now) ≡ take given (placed_games before)
given_stay before now more given p e = ap (λ bs. take given (placed_games bs)) e ∙ same_first before more given p

-- what was written goes, and a piece is kept
pub kept_more : (kept taken piece : List ℕ) (start written : ℕ) → kept ≡ drop start taken → start + length kept ≡ length taken → written ≤ length kept
    → drop written kept ++ piece ≡ drop (start + written) (taken ++ piece)
kept_more kept taken piece start written bytes size some =
    ap (λ ks. drop written ks ++ piece) bytes ∙ ap (λ ks. ks ++ piece) (drop-drop written start taken)
    ∙ sym (drop-append-le (start + written) taken piece (omega (arith, size, some)))

-- the bytes from one place to another, and those behind a place, among those that are kept
pub kept_between : (kept taken : List ℕ) (start a b : ℕ) → kept ≡ drop start taken → start ≤ a → a ≤ b → slice_range kept (a - start) (b - start) ≡ between a b taken
kept_between kept taken start a b bytes p q =
    let n = a - start in
    let m = b - start in
    let at : start + n ≡ a = omega (arith, p) in
    let to : start + m ≡ b = omega (arith, p, q) in
    between_is kept n m ∙ ap (λ ks. drop n (take m ks)) bytes ∙ ap (drop n) (sym (drop-take start m taken)) ∙ drop-drop n start (take (start + m) taken)
    ∙ ap (λ k. drop k (take (start + m) taken)) at ∙ ap (λ k. drop a (take k taken)) to

-- a text has no more games than bytes
ordered_few : (games : List PlacedGame) (low size : ℕ) → low ≤ size → AreInOrder low size games → low + length games ≤ size
unfolding AreInOrder
ordered_few [] low size p h = omega (arith, p)
ordered_few (game ∷ games) low size p h = omega (arith, h.0, h.1, h.2, ordered_few games game.span.end size h.2 h.3)

there : (games : List PlacedGame) (n : ℕ) (game : PlacedGame) → slice_get games n ≡ Some game → n < length games
there [] n game e = cc
there (g ∷ games) zero game e = omega arith
there (g ∷ games) (suc n) game e = omega (arith, there games n game e)

pub games_few : (bytes : List ℕ) (n : ℕ) (game : PlacedGame) → slice_get (placed_games bytes) n ≡ Some game → n < length bytes
games_few bytes n game e = omega (arith, there (placed_games bytes) n game e, ordered_few (placed_games bytes) 0 (length bytes) (omega arith) (placed_games_order bytes))

-- and where one is found, few were given
pub given_few : (bytes : List ℕ) (n k : ℕ) (found : Option PlacedGame) → IfSome found (λ game. slice_get (placed_games bytes) n ≡ Some game) → length bytes ≤ MOST_BYTES → n ≡ k → IfSome found (λ game. k < 2 ^ 62)
given_few bytes n k None there few same = tt
given_few bytes n k (Some game) there few same = omega (arith, games_few bytes n game there, few, same)

-- all that came was handed on
pub arrived_is : (i : Intake) → IsGoingOn i false → arrived i ≡ i.games.taken
arrived_is i h = ap (λ xs. i.games.taken ++ xs) h.handed_on ∙ append-nil i.games.taken

pub settled_of : (i : Intake) → IsGoingOn i false → i.games.given ≤ settled_games (arrived i)
settled_of i h = omega (arith, h.settled refl, ap settled_games (arrived_is i h))

-- a piece was kept and handed on
pub open_more : (i j : Intake) (piece : List ℕ) → IsGoingOn i false → (j.games.failed ≡ false) × (j.games.ended ≡ false) → j.piece.items ≡ []
    → arrived j ≡ i.games.taken ++ piece → j.games.given ≡ i.games.given → j.kept ≡ drop i.written i.kept ++ piece → (j.start ≡ i.start + i.written) × (j.written ≡ 0)
    → i.start + (length i.kept + length piece) ≤ MOST_BYTES → length piece ≤ 8388608 → settled_games i.games.taken ≤ i.games.given → IsGoingOn j false
open_more i j piece h games handed_on now given kept start few short needed =
    let taken : j.games.taken ≡ i.games.taken ++ piece = sym (ap (λ xs. j.games.taken ++ xs) handed_on ∙ append-nil j.games.taken) ∙ now in
    let size = ap length taken ∙ length-append i.games.taken piece in
    let lengths = length-append (drop i.written i.kept) piece in
    record {
      handed_on = handed_on;
      games = games;
      few = omega (arith, size, few, h.size);
      bytes = kept ∙ kept_more i.kept i.games.taken piece i.start i.written h.bytes h.size h.some ∙ ap (λ k. drop k (i.games.taken ++ piece)) (sym start.0) ∙ ap (drop j.start) (sym taken);
      size = omega (arith, size, h.size, h.some, start.0, ap length kept, lengths, length-drop i.written i.kept);
      some = omega (arith, start.1);
      settled = λ e. omega (arith, given, h.settled refl, settled_grow i.games.taken piece, ap settled_games taken);
      waits = (piece, (i.games.taken, taken, short, omega (arith, needed, given)));
      none_settled = λ e. cc;
    }

-- the first games are the same over two readings
pub first_on : (given games : ℕ) (now mid before : List ℕ) → games ≡ given → take games (placed_games now) ≡ take games (placed_games mid)
    → take given (placed_games mid) ≡ take given (placed_games before) → take given (placed_games now) ≡ take given (placed_games before)
first_on given games now mid before e second first =
    ap (λ n. take n (placed_games now)) (sym e) ∙ second ∙ ap (λ n. take n (placed_games mid)) e ∙ first

-- all of what has come waits, where the piece that came last was handed on
pub arrived_waits : (i : Intake) (taken : List ℕ) (given : ℕ) (ended : Bool) → IsGoingOn i ended → taken ≡ i.games.taken → i.games.given ≡ given → Waits (taken ++ i.piece.items) given
arrived_waits i taken given ended h same e = waits_on _ _ _ _ h.waits (ap (λ xs. taken ++ xs) h.handed_on ∙ append-nil taken ∙ same) (omega (arith, e))

-- where nothing has come, no piece was taken
pub nothing_waits : (taken : List ℕ) (given : ℕ) → taken ≡ [] → given ≡ 0 → Waits taken given
nothing_waits taken given e f = rw (e, f) ([], nothing_more [] [] refl refl)
