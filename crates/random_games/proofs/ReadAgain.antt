-- The games of a text that was made are the games that were made.
use Rattle.std.proofs.Common.{◌≡◌, ℕ, zero, suc, ◌+◌, ◌<◌, ◌≤◌, ◌^◌, ◌%◌, Bool, true, false, nat_lt, List, [], ◌∷◌, ◌++◌, Option, Some, None, is_some, length, take, map, refl, ap, ◌∙◌, arith}
use Rattle.std.specs.Prelude.{codes, decimal}
use Rattle.std.specs.List.{list_all, Contains}
use Rattle.std.proofs.lemmas.List.{take_all, length-append}
use Rattle.std.proofs.lemmas.List.Folds.{list_all-append}
use Rattle.std.proofs.lemmas.Bool.Decides.{nat_tests}
use Rattle.std.proofs.lemmas.Option.{slice_get_within, get_or_from_slice_get}
use Rattle.std.proofs.lemmas.Fmt.{decimal_by_steps, length-decimal-le}
use Rattle.cha_list.specs.Bytes.{in_class}
use Rattle.cha_board.specs.Board.{Board}
use Rattle.rand_pcg.specs.Lcg.{Lcg}
use Rattle.rand_pcg.specs.Pcg.{pcg32}
use Rattle.cha_moves.specs.Step.{Move}
use Rattle.cha_moves.specs.Moves.{after, legal}
use Rattle.cha_moves.specs.declared.ends.Standing.{Standing}
use Rattle.cha_moves.specs.declared.ends.Standing.TheVariants.{Mate, Stalemate, Running}
use Rattle.cha_moves.specs.Standings.{standing_of}
use Rattle.cha_moves.proofs.Listed.{is_listed}
use Rattle.pgn_lex.specs.declared.kinds.Placed.{Placed}
use Rattle.pgn_lex.specs.Tokens.{tokens_after, has_mark}
use Rattle.pgn_lex.proofs.Feeding.{unmarked}
use Rattle.pgn_games.specs.declared.faults.GameFault.{GameFault}
use Rattle.pgn_games.specs.declared.marks.ResultMark.{ResultMark}
use Rattle.pgn_games.specs.declared.played.Game.{Game}
use Rattle.pgn_games.specs.declared.token_turns.Place.TheVariants.{Before}
use Rattle.pgn_games.specs.Cutting.{cut}
use Rattle.pgn_games.specs.Fields.{tag_value, recorded_in, move_words, sound_words, says_forfeit, speaks_of, says_flag_fell, passes}
use Rattle.pgn_games.specs.Games.{opening, start_of, start_fault, fault_of, has_bad_tag, words_before_fault, game_of, games}
use Rattle.pgn_games.proofs.Sound.{all_sound}
use Rattle.random_games.specs.Games.{MadeGame, seeded, drawn, onward, made_from, made_game, made_games}
use Rattle.random_games.specs.Made.{result_text, termination_text, tag_line, tags_text, game_text, texts_from, made}
use Rattle.random_games.specs.AsRead.{result_of, is_forfeit, as_read}
use Rattle.random_games.proofs.Passed.{spot}
use Rattle.random_games.proofs.TagLines.{is_plain, IsTagValue}
use Rattle.random_games.proofs.GameTokens.{AllMoveWords, is_result, game_tokens, game_read}
use Rattle.random_games.proofs.GameFields.{Says, cut_game, game_says}
use Rattle.random_games.proofs.SpelledWords.{is_move_word}

-- a game by its parts
abbrev game_with : Board → ResultMark → Bool → List (List ℕ) → Option GameFault → Game
game_with start recorded forfeit words fault = record { start = start; recorded = recorded; forfeit = forfeit; flag_fell = forfeit; words = words; before_fault = Some (length words); fault = fault }

says_ending : (standing : Standing) → says_forfeit (termination_text standing) ≡ is_forfeit standing
unfolding says_forfeit
says_ending (Mate winner) = refl
says_ending Stalemate = refl
says_ending Running = refl

says_flag : (standing : Standing) → says_flag_fell (termination_text standing) ≡ is_forfeit standing
unfolding says_flag_fell speaks_of
says_flag (Mate winner) = refl
says_flag Stalemate = refl
says_flag Running = refl

not_many : (n : ℕ) → n ≤ 12000 → nat_lt 12000 n ≡ false
not_many n few = grind (arith, nat_tests)

no_fault : (slice : List Placed) (ws : List (List ℕ)) (mark : ResultMark) (termination : List ℕ) → Says slice ws mark termination → length ws ≤ 12000 → fault_of slice ≡ None
unfolding fault_of start_fault
no_fault slice ws mark termination h few =
    let position = h.no_position in
    let variant = h.no_variant in
    let words = h.words in
    let bad = h.none_bad in
    let closed = h.closed in
    let uncut = h.uncut in
    let small = not_many (length ws) few in
    rw (bad, closed, uncut, variant, position, words, small) refl

all_before : (slice : List Placed) (ws : List (List ℕ)) (mark : ResultMark) (termination : List ℕ) → Says slice ws mark termination → length ws ≤ 12000 → words_before_fault slice ≡ Some (length ws)
unfolding words_before_fault has_bad_tag start_fault
all_before slice ws mark termination h few =
    let position = h.no_position in
    let variant = h.no_variant in
    let uncut = h.uncut in
    let sound : sound_words slice ≡ ws = all_sound slice (ap is_some h.none_bad) ∙ h.words in
    let whole : take 12000 ws ≡ ws = take_all 12000 ws few in
    rw (uncut, variant, position, sound, whole) refl

game_is : (slice : List Placed) (ws : List (List ℕ)) (mark : ResultMark) (termination : List ℕ) (forfeit : Bool) → Says slice ws mark termination → length ws ≤ 12000 → says_forfeit termination ≡ forfeit → says_flag_fell termination ≡ forfeit
    → game_of slice ≡ game_with opening mark forfeit ws None
unfolding game_of start_of
game_is slice ws mark termination forfeit h few ends flag =
    let recorded = recorded_in slice in
    let lost = passes says_forfeit (tag_value (codes "Termination") slice) in
    let words = take 12001 (move_words slice) in
    let all : words ≡ ws = ap (take 12001) h.words ∙ take_all 12001 ws (omega (arith, few)) in
    let told = tag_value (codes "Termination") slice in
    let both : (passes says_forfeit told ≡ forfeit) × (passes says_flag_fell told ≡ forfeit) = (ap (passes says_forfeit) h.ending ∙ ends, ap (passes says_flag_fell) h.ending ∙ flag) in
    rw (h.no_position, h.recorded, both.0, both.1, all, all_before slice ws mark termination h few, no_fault slice ws mark termination h few) refl

-- the words of a game that was made
pub record HasWords (game : MadeGame) (plies : ℕ) : Type 0 where
  pub each : AllMoveWords game.words
  pub few : length game.words ≤ plies

pub drawn_listed : (g : Lcg) (q : Board) (m : Move) → drawn g (legal q) ≡ Some m → Contains (legal q) m
drawn_listed g q m e =
    let i = (pcg32 g).0 % length (legal q) in
    (i, slice_get_within (legal q) i m e, get_or_from_slice_get (legal q) i m m e)

words_by : (plies : ℕ) (q : Board) (g : Lcg) (rest : Move → MadeGame) (o : Option Move) → drawn g (legal q) ≡ o → ((m : Move) → HasWords (rest m) plies) → HasWords (onward q g o rest) (plies + 1)
words_by plies q g rest None e h = record { each = tt; few = omega arith }
words_by plies q g rest (Some m) e h =
    let there = is_listed q m (drawn_listed g q m e) in
    let later = h m in
    let few = later.few in
    record { each = (is_move_word q m there.from there.to, later.each); few = omega (arith, few) }

has_words : (plies : ℕ) (q : Board) (g : Lcg) → HasWords (made_from plies q g) plies
unfolding made_from
has_words zero q g = record { each = tt; few = omega arith }
has_words (suc plies) q g =
    let h = words_by plies q g (λ m. made_from plies (after q m) (pcg32 g).1) (drawn g (legal q)) refl (λ m. has_words plies (after q m) (pcg32 g).1) in
    record { each = h.each; few = omega (arith, h.few) }

-- the number of a game in a tag
digit_plain : (b : ℕ) → 48 ≤ b → b ≤ 57 → is_plain b ≡ true
unfolding in_class
digit_plain b low high = grind (arith, nat_tests)

last_digit_plain : (m : ℕ) → is_plain (48 + m % 10) ≡ true
last_digit_plain m =
    let small : m % 10 < 10 = omega arith in
    digit_plain (48 + m % 10) (omega arith) (omega (arith, small))

digits_plain : (n : ℕ) → n < 2 ^ 64 → list_all is_plain (decimal n) ≡ true
digits_plain =
    decimal_by_steps (λ m ds. list_all is_plain ds ≡ true)
    (λ m l. (let here = digit_plain (48 + m) (omega arith) (omega (arith, l)) in rw here refl))
    (λ m ds l h. (let last = last_digit_plain m in list_all-append is_plain ds ((48 + m % 10) ∷ []) ∙ rw (h, last) refl))

event_value : (number : ℕ) → number ≤ 1001 → IsTagValue (codes "gen " ++ decimal number)
unfolding in_class
event_value number small =
    let size = length-append (codes "gen ") (decimal number) in
    let few = length-decimal-le 4 number (omega arith) (omega (arith, small)) (omega (arith, small)) in
    record { plain = digits_plain number (omega (arith, small)); short = omega (arith, size, few) }

one_game : (number : ℕ) (game : MadeGame) (ys : List ℕ) (at line : ℕ) (first : Bool) (rest : List Game) → number ≤ 1001 → HasWords game 100
    → ((k l : ℕ) → map game_of (cut Before (tokens_after 0 k l true ys)) ≡ rest)
    → map game_of (cut Before (tokens_after 0 at line first (game_text number game ++ ys))) ≡ as_read game ∷ rest
unfolding as_read
one_game number game ys at line first rest small h later =
    let standing = standing_of game.last in
    let event = codes "gen " ++ decimal number in
    let result = result_text game.last.side standing in
    let mark = result_of game.last.side standing in
    let termination = termination_text standing in
    let marks = (is_result game.last.side standing).marks in
    let r = game_read number game ys at line first (event_value number small) h.each in
    let few = h.few in
    ap (λ ts. map game_of (cut Before ts)) r.tokens_are
    ∙ ap (map game_of) (cut_game (spot at line) r.b r.c r.d r.e event result termination game.words mark (tokens_after 0 r.end r.end_line true ys) h.each marks)
    ∙ ap (λ x. x ∷ map game_of (cut Before (tokens_after 0 r.end r.end_line true ys)))
    (game_is (game_tokens (spot at line) r.b r.c r.d r.e event result termination game.words) game.words mark termination (is_forfeit standing)
    (game_says (spot at line) r.b r.c r.d r.e event result termination game.words mark h.each marks) (omega (arith, few)) (says_ending standing) (says_flag standing))
    ∙ ap (λ xs. as_read game ∷ xs) (later r.end r.end_line)

games_from : (count number : ℕ) (g : Lcg) (at line : ℕ) (first : Bool) → number + count ≤ 1001 → map game_of (cut Before (tokens_after 0 at line first (texts_from number (made_games count g)))) ≡ map as_read (made_games count g)
unfolding made_games texts_from tokens_after cut
games_from zero number g at line first few = refl
games_from (suc count) number g at line first few =
    let game = made_game g in
    one_game number game (texts_from (number + 1) (made_games count game.generator)) at line first (map as_read (made_games count game.generator)) (omega (arith, few)) (has_words 100 opening g)
    (λ k l. games_from count (number + 1) game.generator k l true (omega (arith, few)))

no_mark : (number : ℕ) (games : List MadeGame) → has_mark (texts_from number games) ≡ false
unfolding has_mark texts_from game_text tags_text tag_line
no_mark number [] = refl
no_mark number (game ∷ games) = refl

pub games_are_read : (seed count : ℕ) → 1 ≤ count → count ≤ 1000 → games (made seed count) ≡ map as_read (made_games count (seeded seed))
unfolding games made
games_are_read seed count some few =
    let all = made_games count (seeded seed) in
    ap (λ ts. map game_of (cut Before ts)) (unmarked (texts_from 1 all) (no_mark 1 all)) ∙ games_from count 1 (seeded seed) 0 1 true (omega (arith, few))
