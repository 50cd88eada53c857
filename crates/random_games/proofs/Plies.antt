-- A game, ply by ply.
use Rattle.std.proofs.Common.{◌≡◌, ℕ, suc, true, List, [], ◌∷◌, ◌++◌, Option, Some, None, MatchOption, sym, ap, ◌∙◌, append_assoc, append-nil}
use Rattle.rand_pcg.specs.Lcg.{Lcg}
use Rattle.rand_pcg.specs.Pcg.{pcg32}
use Rattle.cha_board.specs.declared.men.Color.{Color}
use Rattle.cha_board.specs.declared.men.Color.TheVariants.{White}
use Rattle.cha_board.specs.declared.men.Man.{Man}
use Rattle.cha_board.specs.declared.opening.TheConstants.{OPENING_MEN}
use Rattle.cha_board.specs.declared.position.Rights.{Rights}
use Rattle.cha_board.specs.Board.{Board}
use Rattle.cha_moves.specs.Step.{Move}
use Rattle.cha_moves.specs.Moves.{after, legal}
use Rattle.pgn_games.specs.Games.{opening}
use Rattle.random_games.specs.Words.{move_word}
use Rattle.random_games.specs.Games.{MadeGame, ended, led_by, onward, drawn, made_from, made_game}
use Rattle.random_games.specs.Made.{words_text}

-- the rest of a game, behind the words that were made
pub record GoesOn (whole : MadeGame) (text : List ℕ) (plies : ℕ) (q : Board) (g : Lcg) : Type 0 where
  pub words : text ++ words_text (made_from plies q g).words ≡ words_text whole.words
  pub last : (made_from plies q g).last ≡ whole.last
  pub generator : (made_from plies q g).generator ≡ whole.generator

-- a whole game
pub record IsWhole (whole : MadeGame) (text : List ℕ) (q : Board) (g : Lcg) : Type 0 where
  pub words : text ≡ words_text whole.words
  pub last : q ≡ whole.last
  pub generator : g ≡ whole.generator

abbrev board : List (Option Man) → Color → Rights → Option ℕ → Board
board men side rights target = record { men = men; side = side; rights = rights; target = target }

-- the opening position by its parts
pub is_opening : (q : Board) → q.men ≡ OPENING_MEN → q.side ≡ White → q.rights ≡ record { white_king = true; white_queen = true; black_king = true; black_queen = true } → q.target ≡ None → q ≡ opening
unfolding opening
is_opening q men side rights target =
    ap (λ x. board x q.side q.rights q.target) men
    ∙ ap (λ x. board OPENING_MEN x q.rights q.target) side
    ∙ ap (λ x. board OPENING_MEN White x q.target) rights
    ∙ ap (λ x. board OPENING_MEN White (record { white_king = true; white_queen = true; black_king = true; black_queen = true }) x) target

pub begins : (q : Board) (g : Lcg) (text : List ℕ) → text ≡ [] → q ≡ opening → GoesOn (made_game g) text 100 q g
begins q g text none e =
    let same : made_from 100 q g ≡ made_game g = ap (λ p. made_from 100 p g) e in
    record { words = ap (λ x. x ++ words_text (made_from 100 q g).words) none ∙ ap (λ x. words_text x.words) same; last = ap (λ x. x.last) same; generator = ap (λ x. x.generator) same }

-- the game from a position, by the move that is drawn there
by_draw : (plies n : ℕ) (q : Board) (g : Lcg) (o : Option Move) → plies ≡ suc n → drawn g (legal q) ≡ o → made_from plies q g ≡ onward q g o (λ m. made_from n (after q m) (pcg32 g).1)
unfolding made_from
by_draw plies n q g o e d = ap (λ k. made_from k q g) e ∙ ap (λ x. onward q g x (λ m. made_from n (after q m) (pcg32 g).1)) d

is_ended : (whole : MadeGame) (text : List ℕ) (plies : ℕ) (q : Board) (g : Lcg) → made_from plies q g ≡ ended q g → GoesOn whole text plies q g → IsWhole whole text q g
unfolding words_text
is_ended whole text plies q g same h = record {
  words = sym (append-nil text) ∙ ap (λ x. text ++ words_text x.words) (sym same) ∙ h.words;
  last = ap (λ x. x.last) (sym same) ∙ h.last;
  generator = ap (λ x. x.generator) (sym same) ∙ h.generator;
}

-- the game ends where no move is drawn
pub stops : (whole : MadeGame) (text : List ℕ) (plies n : ℕ) (q : Board) (g : Lcg) → plies ≡ suc n → None ≡ drawn g (legal q) → GoesOn whole text plies q g → IsWhole whole text q g
stops whole text plies n q g e none h = is_ended whole text plies q g (by_draw plies n q g None e (sym none)) h

-- the game ends where no plies are left
pub is_over : (whole : MadeGame) (text : List ℕ) (plies : ℕ) (q : Board) (g : Lcg) → plies ≡ 0 → GoesOn whole text plies q g → IsWhole whole text q g
unfolding made_from
is_over whole text plies q g e h = is_ended whole text plies q g (ap (λ k. made_from k q g) e) h

-- a move is made
pub moves_on : (whole : MadeGame) (text text' : List ℕ) (plies n : ℕ) (q q' : Board) (g g' : Lcg) (m : Move)
    → plies ≡ suc n → Some m ≡ drawn g (legal q) → text' ≡ text ++ (move_word q m ++ 32 ∷ []) → q' ≡ after q m → g' ≡ (pcg32 g).1
    → GoesOn whole text plies q g → GoesOn whole text' n q' g'
unfolding words_text
moves_on whole text text' plies n q q' g g' m e drew longer next later h =
    let rest = made_from n (after q m) (pcg32 g).1 in
    let same : made_from plies q g ≡ led_by q m rest = by_draw plies n q g (Some m) e (sym drew) in
    let here : made_from n q' g' ≡ rest = ap (λ p. made_from n p g') next ∙ ap (λ k. made_from n (after q m) k) later in
    let word = move_word q m in
    let front : text' ++ words_text (made_from n q' g').words ≡ text ++ (word ++ 32 ∷ words_text rest.words) =
    ap (λ x. text' ++ words_text x.words) here
    ∙ ap (λ x. x ++ words_text rest.words) longer
    ∙ append_assoc text (word ++ 32 ∷ []) (words_text rest.words)
    ∙ ap (λ x. text ++ x) (append_assoc word (32 ∷ []) (words_text rest.words)) in
    record {
      words = front ∙ ap (λ x. text ++ words_text x.words) (sym same) ∙ h.words;
      last = ap (λ x. x.last) here ∙ ap (λ x. x.last) (sym same) ∙ h.last;
      generator = ap (λ x. x.generator) here ∙ ap (λ x. x.generator) (sym same) ∙ h.generator;
    }

-- what is said of a move that may be there
pub said_none : (o : Option Move) (A B : Type 0) → MatchOption o A (λ m. B) → o ≡ None → A
said_none None A B h e = h
said_none (Some m) A B h e = cc

pub said_some : (o : Option Move) (A B : Type 0) (m : Move) → MatchOption o A (λ m. B) → o ≡ Some m → B
said_some None A B m h e = cc
said_some (Some n) A B m h e = h
