-- The game that a summary tells.
use Rattle.std.proofs.Common.{◌≡◌, ℕ, min, Bool, true, false, not, List, Option, Some, None, length, nat_lt, refl, ap, ◌∙◌, arith}
use Rattle.std.specs.Option.{option_map, option_or, unwrap_or}
use Rattle.std.proofs.lemmas.Bool.Decides.{nat_tests}
use Rattle.std.proofs.lemmas.List.{length-take}
use Rattle.cha_board.specs.Board.{Board}
use Rattle.pgn_lex.specs.declared.kinds.Placed.{Placed}
use Rattle.pgn_games.specs.declared.faults.GameFault.{GameFault}
use Rattle.pgn_games.specs.declared.faults.GameFault.TheVariants.{BadToken, Unclosed, ValueTooLong, Variant, TooManyPlies}
use Rattle.pgn_games.specs.declared.marks.ResultMark.{ResultMark}
use Rattle.pgn_games.specs.declared.marks.ResultMark.TheVariants.{Unknown}
use Rattle.pgn_games.specs.declared.played.Game.{Game}
use Rattle.pgn_games.specs.Fields.{recorded_in, move_words, says_forfeit, says_flag_fell, says_chess, passes}
use Rattle.pgn_games.specs.Games.{◌or_else◌, is_open, start_of, start_fault, fault_if, fault_of, has_bad_tag, words_before_fault, game_of}
use Rattle.pgn_games.specs.Summing.{HasValues, IsSummary, sound_count}

module _ (told : List Placed) (empty : Bool) (depth : ℕ) (bad : Option ℕ) (unclosed cut : Bool) (recorded : Option ResultMark) (words : List (List ℕ)) (h : IsSummary told empty depth bad unclosed cut recorded words) where
  -- open at the end
  pub open_by_comment : (told' : List Placed) → told ≡ told' → unclosed ≡ true → true ≡ is_open told'
  unfolding is_open
  open_by_comment told' e f = rw (← e, ← h.unclosed_is, f) refl

  pub open_by_depth : (told' : List Placed) → told ≡ told' → unclosed ≡ false → nat_lt 0 depth ≡ is_open told'
  unfolding is_open
  open_by_depth told' e f = rw (← e, ← h.unclosed_is, f, h.depth_is) refl

  many_words : nat_lt 12000 (length words) ≡ nat_lt 12000 (length (move_words told))
  many_words = same_test (length words) (length (move_words told)) (ap length h.words_is ∙ length-take 12001 (move_words told))
    where
      same_test : (k n : ℕ) → k ≡ min 12001 n → nat_lt 12000 k ≡ nat_lt 12000 n
      same_test k n e = grind (arith, nat_tests)

  module _ (variant fen termination : Option (List ℕ)) (v : HasValues told variant fen termination) (told' : List Placed) (same : told ≡ told') where
    chain : (a b c d e f : Option GameFault) → option_or (option_or (option_or (option_or (option_or a b) c) d) e) f ≡ a or_else (b or_else (c or_else (d or_else (e or_else f))))
    chain (Some x) b c d e f = refl
    chain None (Some x) c d e f = refl
    chain None None (Some x) d e f = refl
    chain None None None (Some x) e f = refl
    chain None None None None (Some x) f = refl
    chain None None None None None f = refl

    -- the first fault
    pub fault_told : (a b c d e f ab abc abcd abcde all : Option GameFault) (still other : Bool) (items : List (List ℕ)) → a ≡ option_map BadToken bad → still ≡ is_open told' → b ≡ fault_if still Unclosed
        → c ≡ fault_if cut ValueTooLong → other ≡ passes (λ value. not (says_chess value)) variant → d ≡ fault_if other Variant → e ≡ start_fault fen → items ≡ words → f ≡ fault_if (nat_lt 12000 (length items)) TooManyPlies
        → ab ≡ option_or a b → abc ≡ option_or ab c → abcd ≡ option_or abc d → abcde ≡ option_or abcd e → all ≡ option_or abcde f → all ≡ fault_of told'
    unfolding fault_of
    fault_told a b c d e f ab abc abcd abcde all still other items ea es eb ec eo ed ee ei ef e1 e2 e3 e4 e5 =
        let last : nat_lt 12000 (length items) ≡ nat_lt 12000 (length (move_words told)) = ap (λ ws. nat_lt 12000 (length ws)) ei ∙ many_words in
        rw (e5, e4, e3, e2, e1, chain a b c d e f, ea, eb, ec, ed, ee, ef, last, es, eo, h.bad_is, h.cut_is, v.variant_is, v.fen_is, same) refl

    -- the game
    pub game_told : (start : Board) (mark : ResultMark) (forfeit fell : Bool) (before : Option ℕ) (fault : Option GameFault) → start ≡ start_of fen → mark ≡ unwrap_or recorded Unknown → forfeit ≡ passes says_forfeit termination → fell ≡ passes says_flag_fell termination
        → before ≡ words_before_fault told' → fault ≡ fault_of told'
        → ◌≡◌ {A = Game} (record { start = start; recorded = mark; forfeit = forfeit; flag_fell = fell; words = words; before_fault = before; fault = fault }) (game_of told')
    unfolding game_of recorded_in
    game_told start mark forfeit fell before fault e f g k b i = rw (e, f, g, k, b, i, h.recorded_is, h.words_is, v.fen_is, v.termination_is, same) refl

-- the words before the first fault
pub none_before : (told : List Placed) (bad : Bool) → bad ≡ has_bad_tag told → bad ≡ true → None ≡ words_before_fault told
unfolding words_before_fault
none_before told bad b is = rw (← b, is) refl

pub before_told : (told told' : List Placed) (bad : Bool) (sound : ℕ) → told ≡ told' → bad ≡ has_bad_tag told' → bad ≡ false → sound ≡ sound_count told → Some sound ≡ words_before_fault told'
unfolding words_before_fault
before_told told told' bad sound e b is s = rw (← b, is, s, e) refl
