-- The text of games, game by game.
use Rattle.std.proofs.Common.{◌≡◌, ℕ, suc, ◌+◌, List, [], ◌++◌, sym, ap, ◌∙◌, append_assoc, append-nil}
use Rattle.rand_pcg.specs.Lcg.{Lcg}
use Rattle.random_games.specs.Games.{seeded, made_game, made_games}
use Rattle.random_games.specs.Made.{game_text, texts_from, made}

-- the text so far, and the games that are still to be made
abbrev pub goes_to : List ℕ → ℕ → ℕ → Lcg → List ℕ
goes_to text number left g = text ++ texts_from number (made_games left g)

pub no_game_yet : (seed count left : ℕ) (g : Lcg) (text : List ℕ) → left ≡ count → text ≡ [] → g ≡ seeded seed → goes_to text 1 left g ≡ made seed count
unfolding made
no_game_yet seed count left g text all none e = ap (λ x. goes_to x 1 left g) none ∙ ap (λ n. goes_to [] 1 n g) all ∙ ap (λ x. texts_from 1 (made_games count x)) e

pub one_game_more : (text text' whole : List ℕ) (number left left' : ℕ) (g g' : Lcg) → left ≡ suc left' → text' ≡ text ++ game_text number (made_game g) → g' ≡ (made_game g).generator
    → goes_to text number left g ≡ whole → goes_to text' (number + 1) left' g' ≡ whole
unfolding made_games texts_from
one_game_more text text' whole number left left' g g' e longer later h =
    let rest = made_games left' (made_game g).generator in
    ap (λ x. text' ++ texts_from (number + 1) (made_games left' x)) later
    ∙ ap (λ x. x ++ texts_from (number + 1) rest) longer
    ∙ append_assoc text (game_text number (made_game g)) (texts_from (number + 1) rest)
    ∙ ap (λ k. text ++ texts_from number (made_games k g)) (sym e)
    ∙ h

pub all_games : (text whole : List ℕ) (number left : ℕ) (g : Lcg) → left ≡ 0 → goes_to text number left g ≡ whole → text ≡ whole
unfolding made_games texts_from
all_games text whole number left g e h = sym (append-nil text) ∙ ap (λ k. text ++ texts_from number (made_games k g)) (sym e) ∙ h
