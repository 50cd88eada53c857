-- The tokens that a reader keeps, and the games that they make up.
use Rattle.std.proofs.Common.{◌≡◌, ◌==◌, ℕ, zero, suc, ◌+◌, ◌-◌, ◌^◌, ◌<◌, ◌≤◌, Bool, true, false, ◌&&◌, List, [], ◌∷◌, ◌++◌, Some, length, take, drop, map, refl, sym, ap, ◌∙◌, arith, append-nil, append_assoc, length-append}
use Rattle.std.specs.List.{slice_get}
use Rattle.std.proofs.lemmas.Bool.Decides.{nat_tests}
use Rattle.std.proofs.lemmas.List.{length-map, take-map}
use Rattle.std.proofs.lemmas.List.Sums.{fold-append}
use Rattle.std.proofs.Math.Seq.{take-append_seam}
use Rattle.pgn_lex.specs.declared.kinds.Placed.{Placed}
use Rattle.pgn_lex.specs.Lexing.{Appends}
use Rattle.pgn_lex.specs.Lines.{ends_line}
use Rattle.pgn_lex.specs.Tokens.{tokens, has_mark, settled_after, has_half_mark, settled_tokens}
use Rattle.pgn_lex.proofs.Feeding.{settled_first}
use Rattle.pgn_games.specs.declared.played.PlacedGame.{PlacedGame}
use Rattle.pgn_games.specs.Reading.{TookNoMore}
use Rattle.pgn_games.specs.declared.token_turns.Place.TheVariants.{Before}
use Rattle.pgn_games.specs.declared.token_turns.Place.{Place}
use Rattle.pgn_games.specs.Cutting.{turn, place_after, place_behind, is_before, cut}
use Rattle.pgn_games.specs.Games.{placed_game_of, placed_games, is_closed}
use Rattle.pgn_games.specs.Settling.{games_ended, settled_games}
use Rattle.pgn_games.specs.Holding.{first_end, IsScanned, IsCut, IsCutAtEnd, IsHeldOpen, IsLast}
use Rattle.pgn_games.proofs.GameEnds.{closes, ended_place, none_ended, some_first, none_scanned, nothing_scanned, open_game}

-- before the first byte
pub nothing_cut : IsCut [] [] 0
nothing_cut = record {
  games = [];
  number = refl;
  cuts = λ ts. refl;
  counts = λ ts. let f : games_ended Before ts ≡ 0 + games_ended Before ts = omega arith in f;
  places = refl;
  few = omega arith;
}

-- the place behind tokens and more tokens
place_on : (ts us : List Placed) → place_behind Before (ts ++ us) ≡ place_behind (place_behind Before ts) us
place_on ts us = fold-append (λ before t. place_after (turn before t.token)) Before ts us

-- tokens more
pub told_more : (told told' kept kept' added : List Placed) (given : ℕ) → IsCut told kept given → told' ≡ told ++ added → kept' ≡ kept ++ added → IsCut told' kept' given
told_more told told' kept kept' added given h e f = rw (e, f) (record {
  games = h.games;
  number = h.number;
  cuts = λ ts. ap (cut Before) (append_assoc told added ts) ∙ h.cuts (added ++ ts) ∙ ap (λ xs. h.games ++ cut Before xs) (sym (append_assoc kept added ts));
  counts = λ ts. ap (games_ended Before) (append_assoc told added ts) ∙ h.counts (added ++ ts) ∙ ap (λ xs. given + games_ended Before xs) (sym (append_assoc kept added ts));
  places = place_on told added ∙ ap (λ p. place_behind p added) h.places ∙ sym (place_on kept added);
  few = omega (arith, h.few, length-append told added, length-append kept added);
})

pub told_last : (told told' kept kept' added : List Placed) (given : ℕ) → IsCut told kept given → told' ≡ told ++ added → kept' ≡ kept ++ added → IsCutAtEnd told' kept' given
told_last told told' kept kept' added given h e f =
    let more = told_more told told' kept kept' added given h e f in
    record {
      games = more.games;
      number = more.number;
      cuts = ap (cut Before) (sym (append-nil told')) ∙ more.cuts [] ∙ ap (λ xs. more.games ++ cut Before xs) (append-nil kept');
      few = more.few;
    }

-- the front of what is kept is the game
front_is : (game behind : List Placed) → take (length game) (game ++ behind) ≡ game
front_is game behind = take-append_seam game behind

back_is : (game behind : List Placed) → drop (length game) (game ++ behind) ≡ behind
back_is [] behind = refl
back_is (t ∷ game) behind = back_is game behind

first_game : (game behind ts : List Placed) → first_end Before (game ++ behind) ≡ Some (length game) → cut Before ((game ++ behind) ++ ts) ≡ game ∷ cut Before (behind ++ ts)
first_game game behind ts whole =
    let h = closes Before (game ++ behind) (length game) ts whole in
    h.0 ∙ ap (λ g. g ∷ cut Before (drop (length game) (game ++ behind) ++ ts)) (front_is game behind) ∙ ap (λ xs. game ∷ cut Before (xs ++ ts)) (back_is game behind)

-- a game is given
one_behind : (games : List (List Placed)) (game : List Placed) (later : List (List Placed)) → games ++ (game ∷ later) ≡ (games ++ game ∷ []) ++ later
one_behind games game later = sym (append_assoc games (game ∷ []) later)

pub gave_open : (told game behind kept : List Placed) (given given' : ℕ) → IsCut told (game ++ behind) given → first_end Before (game ++ behind) ≡ Some (length game) → kept ≡ behind → given' ≡ given + 1
    → IsCut told kept given'
gave_open told game behind kept given given' h whole k g = rw (k, g) (record {
  games = h.games ++ game ∷ [];
  number = omega (arith, h.number, length-append h.games (game ∷ []));
  cuts = λ ts. h.cuts ts ∙ ap (λ gs. h.games ++ gs) (first_game game behind ts whole) ∙ one_behind h.games game (cut Before (behind ++ ts));
  counts = λ ts. h.counts ts ∙ counted (closes Before (game ++ behind) (length game) ts whole).1 (ap (λ xs. games_ended Before (xs ++ ts)) (back_is game behind));
  places = h.places ∙ ended_place Before (game ++ behind) (length game) whole ∙ ap (place_behind Before) (back_is game behind);
  few = omega (arith, h.few, length-append game behind, some_first (game ++ behind) (length game) whole);
})
  where
    counted : {a b c : ℕ} → a ≡ 1 + b → b ≡ c → given + a ≡ given + 1 + c
    counted e f = omega (arith, e, f)

pub gave_last : (told game behind kept : List Placed) (given given' : ℕ) → IsCutAtEnd told (game ++ behind) given → cut Before (game ++ behind) ≡ game ∷ cut Before behind → 0 < length game → kept ≡ behind → given' ≡ given + 1
    → IsCutAtEnd told kept given'
gave_last told game behind kept given given' h first some k g = rw (k, g) (record {
  games = h.games ++ game ∷ [];
  number = omega (arith, h.number, length-append h.games (game ∷ []));
  cuts = h.cuts ∙ ap (λ gs. h.games ++ gs) first ∙ one_behind h.games game (cut Before behind);
  few = omega (arith, h.few, length-append game behind, some);
})

pub whole_first : (game behind : List Placed) → first_end Before (game ++ behind) ≡ Some (length game) → (cut Before (game ++ behind) ≡ game ∷ cut Before behind) × (0 < length game)
whole_first game behind whole =
    (ap (cut Before) (sym (append-nil (game ++ behind))) ∙ first_game game behind [] whole ∙ ap (λ xs. game ∷ cut Before xs) (append-nil behind), some_first (game ++ behind) (length game) whole)

pub left_first : (game behind : List Placed) (place : _) → IsScanned game place → behind ≡ [] → 0 < length game → cut Before (game ++ behind) ≡ game ∷ cut Before behind
unfolding cut
left_first game behind place scanned none some =
    rw none (ap (cut Before) (append-nil game) ∙ open_game game (none_scanned game place scanned) some)

-- the game that is given
at_place : (games : List (List Placed)) (game : List Placed) (later : List (List Placed)) (all : List (List Placed)) (given : ℕ) → length games ≡ given → all ≡ games ++ (game ∷ later) → slice_get (map placed_game_of all) given ≡ Some (placed_game_of game)
at_place [] game later all given n e = let z : given ≡ 0 = sym n in rw (z, e) refl
at_place (g ∷ games) game later all zero n e = absurd (omega arith)
at_place (g ∷ games) game later all (suc given) n e = rw e (at_place games game later (games ++ (game ∷ later)) given (omega arith) refl)

pub game_open : (fed bytes rest : List ℕ) (game behind : List Placed) (given : ℕ) → IsCut (settled_tokens fed) (game ++ behind) given → first_end Before (game ++ behind) ≡ Some (length game) → bytes ≡ fed ++ rest
    → slice_get (placed_games bytes) given ≡ Some (placed_game_of game)
unfolding placed_games
game_open fed bytes rest game behind given h whole e =
    let first = settled_first fed rest in
    let all = ap tokens e ∙ first in
    at_place h.games game _ (cut Before (tokens bytes)) given h.number (ap (cut Before) all ∙ h.cuts _ ∙ ap (λ gs. h.games ++ gs) (first_game game behind _ whole))

pub game_last : (fed bytes : List ℕ) (game behind : List Placed) (given : ℕ) → IsCutAtEnd (tokens fed) (game ++ behind) given → cut Before (game ++ behind) ≡ game ∷ cut Before behind → bytes ≡ fed
    → slice_get (placed_games bytes) given ≡ Some (placed_game_of game)
unfolding placed_games
game_last fed bytes game behind given h first e =
    at_place h.games game (cut Before behind) (cut Before (tokens bytes)) given h.number (ap (λ bs. cut Before (tokens bs)) e ∙ h.cuts ∙ ap (λ gs. h.games ++ gs) first)

pub none_last : (fed bytes : List ℕ) (kept : List Placed) (given : ℕ) → IsCutAtEnd (tokens fed) kept given → kept ≡ [] → bytes ≡ fed → length (placed_games bytes) ≤ given
unfolding placed_games cut
none_last fed bytes kept given h none e =
    let all : cut Before (tokens bytes) ≡ h.games = ap (λ bs. cut Before (tokens bs)) e ∙ h.cuts ∙ ap (λ xs. h.games ++ cut Before xs) none ∙ append-nil h.games in
    omega (arith, length-map (cut Before (tokens bytes)) placed_game_of, ap length all, h.number)

-- the games that were given stay the first
front_of : (all games later : List (List Placed)) (given : ℕ) → all ≡ games ++ later → length games ≡ given → take given all ≡ games
front_of all games later given e n = rw (e, ← n) (take-append_seam games later)

fronts : (fed rest : List ℕ) (kept : List Placed) (given : ℕ) → (h : IsCut (settled_tokens fed) kept given) → take given (placed_games (fed ++ rest)) ≡ map placed_game_of h.games
unfolding placed_games
fronts fed rest kept given h =
    take-map placed_game_of given (cut Before (tokens (fed ++ rest)))
    ∙ ap (map placed_game_of) (front_of (cut Before (tokens (fed ++ rest))) h.games _ given (ap (cut Before) (settled_first fed rest) ∙ h.cuts _) h.number)

pub same_front : (fed a b rest rest' : List ℕ) (kept : List Placed) (given : ℕ) → IsCut (settled_tokens fed) kept given → a ≡ fed ++ rest → b ≡ fed ++ rest' → take given (placed_games a) ≡ take given (placed_games b)
same_front fed a b rest rest' kept given h e f =
    ap (λ x. take given (placed_games x)) e ∙ fronts fed rest kept given h ∙ sym (fronts fed rest' kept given h) ∙ ap (λ x. take given (placed_games x)) (sym f)

-- each settled game was given
pub all_settled : (fed bytes : List ℕ) (game behind : List Placed) (place : _) (given : ℕ) → IsCut (settled_tokens fed) (game ++ behind) given → IsScanned game place → behind ≡ [] → bytes ≡ fed → settled_games bytes ≤ given
unfolding settled_games
all_settled fed bytes game behind place given h scanned none e =
    let kept : game ++ behind ≡ game = ap (λ xs. game ++ xs) none ∙ append-nil game in
    let count : games_ended Before (settled_tokens fed) ≡ given + games_ended Before game =
    ap (games_ended Before) (sym (append-nil (settled_tokens fed))) ∙ h.counts [] ∙ ap (λ xs. given + games_ended Before xs) (append-nil (game ++ behind) ∙ kept) in
    omega (arith, ap (λ bs. games_ended Before (settled_tokens bs)) e, count, none_ended Before game (none_scanned game place scanned))

nothing_settled : IsHeldOpen [] false [] [] 0 0 0
unfolding settled_tokens has_half_mark has_mark settled_after
nothing_settled = record {
  not_ended = refl;
  told = nothing_cut;
  sparse = omega arith;
  used_inside = omega arith;
  taken_is = refl;
  few_bytes = omega arith;
}

pub opened : (fed : List ℕ) (ended : Bool) (game behind : List Placed) (piece : List ℕ) → fed ≡ [] → ended ≡ false → game ≡ [] → behind ≡ [] → piece ≡ [] → IsHeldOpen fed ended (game ++ behind) piece 0 0 0 × IsScanned game Before
opened fed ended game behind piece e f g h i = rw (e, f, g, h, i) (nothing_settled, nothing_scanned)

drop_none : (n : ℕ) → drop {A = ℕ} n [] ≡ []
drop_none zero = refl
drop_none (suc n) = refl

-- the end of the source
pub ended : (fed fed' : List ℕ) (lexer_ended : Bool) (game behind behind' : List Placed) (piece : List ℕ) (used given taken : ℕ) → IsHeldOpen fed lexer_ended (game ++ behind) piece used given taken → fed' ≡ fed → piece ≡ []
    → Appends behind behind' (settled_tokens fed) (tokens fed) → IsLast fed' (game ++ behind') piece used given
ended fed fed' lexer_ended game behind behind' piece used given taken h same none a = rw same (record {
  told = told_last (settled_tokens fed) (tokens fed) (game ++ behind) (game ++ behind') a.added given h.told a.are_next (ap (λ xs. game ++ xs) a.appended ∙ sym (append_assoc game behind a.added));
  sparse = omega (arith, h.sparse, ap length a.are_next, length-append (settled_tokens fed) a.added, a.few);
  none_left = ap (drop used) none ∙ drop_none used;
  few_bytes = omega (arith, h.few_bytes, h.taken_is);
})

-- the text is closed where a line begins and no game is open
pub ends_closed : (fed fed' : List ℕ) (lexer_ended : Bool) (game behind behind' : List Placed) (place place' : Place) (piece : List ℕ) (used given taken : ℕ) (line closed : Bool)
    → IsHeldOpen fed lexer_ended (game ++ behind) piece used given taken → IsScanned game place → behind ≡ [] → fed' ≡ fed → piece ≡ []
    → Appends behind behind' (settled_tokens fed) (tokens fed) → line ≡ ends_line fed' → place' ≡ place_behind place behind' → closed ≡ (line && is_before place') → closed ≡ is_closed (fed' ++ drop used piece)
unfolding is_closed
ends_closed fed fed' lexer_ended game behind behind' place place' piece used given taken line closed h scanned none same nothing a l p c =
    let all : fed' ++ drop used piece ≡ fed = ap (λ xs. fed' ++ drop used xs) nothing ∙ ap (λ xs. fed' ++ xs) (drop_none used) ∙ append-nil fed' ∙ same in
    let added : behind' ≡ a.added = a.appended ∙ ap (λ xs. xs ++ a.added) none in
    let kept : game ++ behind ≡ game = ap (λ xs. game ++ xs) none ∙ append-nil game in
    let whole : place_behind Before (tokens fed) ≡ place_behind place behind' =
    ap (place_behind Before) a.are_next ∙ place_on (settled_tokens fed) a.added ∙ ap (λ q. place_behind q a.added) (h.told.places ∙ ap (place_behind Before) kept ∙ scanned.stands)
    ∙ ap (place_behind place) (sym added) in
    c ∙ ap (λ b. b && is_before place') (l ∙ ap ends_line same) ∙ ap (λ q. ends_line fed && is_before q) (p ∙ sym whole) ∙ ap (λ bs. ends_line bs && is_before (place_behind Before (tokens bs))) (sym all)

-- more bytes are taken
pub next_front : (fed was now rest rest' : List ℕ) (kept : List Placed) (given g : ℕ) (whole : List PlacedGame) → IsCut (settled_tokens fed) kept given → given ≡ g → fed ++ rest ≡ was → now ≡ fed ++ rest'
    → take g (placed_games was) ≡ whole → take g (placed_games now) ≡ whole
next_front fed was now rest rest' kept given g whole h same e f before =
    let one : take given (placed_games now) ≡ take given (placed_games was) = same_front fed now was rest' rest kept given h f (sym e) in
    ap (λ n. take n (placed_games now)) (sym same) ∙ one ∙ ap (λ n. take n (placed_games was)) same ∙ before

-- nothing is left of a piece
pub none_behind : (fed fed' piece : List ℕ) (used : ℕ) → fed' ≡ fed → piece ≡ [] → fed' ++ drop used piece ≡ fed
none_behind fed fed' piece used e f = rw (e, f) (ap (λ xs. fed ++ xs) (drop_none used) ∙ append-nil fed)

-- where nothing was taken, no piece was
pub nothing_more : (fed piece : List ℕ) → fed ≡ [] → piece ≡ [] → TookNoMore (fed ++ drop 0 piece) piece 0
unfolding settled_games settled_tokens games_ended has_half_mark has_mark settled_after
nothing_more fed piece e f = rw (e, f) ([], refl, omega arith, omega arith)

-- where each settled game was given, a piece is needed
pub needed : (fed bytes piece now : List ℕ) (game behind : List Placed) (place : _) (given g : ℕ) → IsCut (settled_tokens fed) (game ++ behind) given → IsScanned game place → behind ≡ [] → bytes ≡ fed
    → now ≡ bytes ++ piece → length piece ≤ 8388608 → g ≡ given → (last : List ℕ) × TookNoMore now last g
needed fed bytes piece now game behind place given g h scanned none e taken few same =
    (piece, (bytes, taken, few, omega (arith, all_settled fed bytes game behind place given h scanned none e, same)))

-- what was taken stays, and no fewer games are given
pub waits_on : (taken taken' : List ℕ) (given given' : ℕ) → (piece : List ℕ) × TookNoMore taken piece given → taken' ≡ taken → given ≤ given' → (piece : List ℕ) × TookNoMore taken' piece given'
waits_on taken taken' given given' w e p = (w.0, (w.1.0, e ∙ w.1.1, w.1.2, omega (arith, w.1.3, p)))

-- the game is given, and those behind it are kept
pub gave_is_open : (fed : List ℕ) (lexer_ended : Bool) (game behind : List Placed) (piece : List ℕ) (used given taken : ℕ) (game' : List Placed) (given' : ℕ) → IsHeldOpen fed lexer_ended (game ++ behind) piece used given taken
    → first_end Before (game ++ behind) ≡ Some (length game) → game' ≡ [] → given' ≡ given + 1 → IsHeldOpen fed lexer_ended (game' ++ behind) piece used given' taken
gave_is_open fed lexer_ended game behind piece used given taken game' given' h whole none g = record {
  not_ended = h.not_ended;
  told = gave_open (settled_tokens fed) game behind (game' ++ behind) given given' h.told whole (ap (λ xs. xs ++ behind) none) g;
  sparse = h.sparse;
  used_inside = h.used_inside;
  taken_is = h.taken_is;
  few_bytes = h.few_bytes;
}

pub gave_is_last : (fed : List ℕ) (game behind : List Placed) (piece : List ℕ) (used given : ℕ) (game' : List Placed) (given' : ℕ) → IsLast fed (game ++ behind) piece used given
    → (cut Before (game ++ behind) ≡ game ∷ cut Before behind) × (0 < length game) → game' ≡ [] → given' ≡ given + 1 → IsLast fed (game' ++ behind) piece used given'
gave_is_last fed game behind piece used given game' given' h first none g = record {
  told = gave_last (tokens fed) game behind (game' ++ behind) given given' h.told first.0 first.1 (ap (λ xs. xs ++ behind) none) g;
  sparse = h.sparse;
  none_left = h.none_left;
  few_bytes = h.few_bytes;
}

pub emptied_scanned : (game' : List Placed) (place' : _) → game' ≡ [] → place' ≡ Before → IsScanned game' place'
emptied_scanned game' place' e f = rw (e, f) nothing_scanned

-- once the source has ended, the bytes that were fed are all
pub all_fed : (fed fed' piece piece' : List ℕ) (used used' : ℕ) → fed' ≡ fed → piece' ≡ piece → used' ≡ used → drop used' piece' ≡ [] → fed ++ drop used piece ≡ fed'
all_fed fed fed' piece piece' used used' e f g none =
    ap (λ xs. xs ++ drop used piece) (sym e) ∙ ap (λ xs. fed' ++ drop used xs) (sym f) ∙ ap (λ n. fed' ++ drop n piece') (sym g) ∙ ap (λ xs. fed' ++ xs) none ∙ append-nil fed'

pub game_found : (fed bytes : List ℕ) (game behind : List Placed) (given g : ℕ) (found : PlacedGame) → IsCutAtEnd (tokens fed) (game ++ behind) given → (cut Before (game ++ behind) ≡ game ∷ cut Before behind) × (0 < length game) → bytes ≡ fed → given ≡ g → found ≡ placed_game_of game
    → slice_get (placed_games bytes) g ≡ Some found
game_found fed bytes game behind given g found h first e f is = ap (λ n. slice_get (placed_games bytes) n) (sym f) ∙ game_last fed bytes game behind given h first.0 e ∙ ap (λ x. Some x) (sym is)

pub none_found : (fed bytes : List ℕ) (game behind : List Placed) (given g : ℕ) → IsCutAtEnd (tokens fed) (game ++ behind) given → game ≡ [] → behind ≡ [] → bytes ≡ fed → given ≡ g → length (placed_games bytes) ≤ g
none_found fed bytes game behind given g h none nothing e f = omega (arith, none_last fed bytes (game ++ behind) given h (rw (none, nothing) refl) e, f)

-- no more tokens than places
pub few_open : (fed : List ℕ) (ended : Bool) (game behind : List Placed) (piece : List ℕ) (used given taken : ℕ) → IsHeldOpen fed ended (game ++ behind) piece used given taken → length game + length behind < 2 ^ 64 - 1
few_open fed ended game behind piece used given taken h = omega (arith, h.told.few, h.sparse, h.taken_is, h.few_bytes, length-append game behind)

pub few_last : (fed : List ℕ) (game behind : List Placed) (piece : List ℕ) (used given : ℕ) → IsLast fed (game ++ behind) piece used given → length game + length behind < 2 ^ 64 - 1
few_last fed game behind piece used given h = omega (arith, h.told.few, h.sparse, h.few_bytes, length-append game behind)

pub no_list : (ys : List Placed) (b : Bool) → b ≡ (length ys == 0) → b ≡ true → ys ≡ []
no_list [] b e f = refl
no_list (y ∷ ys) b e f = let h : true ≡ false = sym f ∙ e ∙ some_length (length ys) in cc
  where
    some_length : (n : ℕ) → (suc n == 0) ≡ false
    some_length n = grind (arith, nat_tests)

pub some_list : (ys : List Placed) (b : Bool) → b ≡ (length ys == 0) → b ≡ false → 0 < length ys
some_list [] b e f = let h : true ≡ false = sym e ∙ f in cc
some_list (y ∷ ys) b e f = omega arith
