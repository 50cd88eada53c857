-- What the one move of a list tells of the moves that fit a word.
use Rattle.std.proofs.Common.{◌≡◌, ℕ, ◌≤◌, List, [], ◌∷◌, length, if◌then◌else◌, is_some, Option, Some, None, Result, Err, IfOk, refl, sym, ◌∙◌, ap, subst, arith}
use Rattle.std.specs.List.{filter, Contains}
use Rattle.cha_board.specs.Board.{Board}
use Rattle.cha_moves.specs.Step.{Move}
use Rattle.cha_moves.specs.Moves.{all_moves, legal}
use Rattle.cha_moves.proofs.Contained.{Contains-filter_parts, Contains-cons_here}
use Rattle.cha_san.specs.declared.faults.SanFault.{SanFault}
use Rattle.cha_san.specs.declared.faults.SanFault.TheVariants.{NotSan, NoSuchMove, Ambiguous}
use Rattle.cha_san.specs.declared.forms.Form.{Form}
use Rattle.cha_san.specs.declared.found.Found.{Found}
use Rattle.cha_san.specs.declared.found.Found.TheVariants.{Nothing}
use Rattle.cha_san.specs.Forms.{form_of}
use Rattle.cha_san.specs.Fitting.{fits}
use Rattle.cha_san.specs.Resolving.{fitting_form, fitting, only, resolved}
use Rattle.cha_san.specs.Seen.{seen, answered}
use Rattle.cha_san.specs.Sources.{names}
use Rattle.cha_san.proofs.Sifting.{answered_only}
use Rattle.cha_san.proofs.Sourced.{named_are}

-- a word that says nothing
pub says_nothing : (q : Board) (word : List ℕ) (o : Option Form) → o ≡ form_of word → o ≡ None → Err NotSan ≡ resolved q word
says_nothing q word o is none = sym (ap (λ f. if is_some f then only (fitting q word) else Err NotSan) (sym is ∙ none))

-- how the answer for a word comes to be
pub record Answers (q : Board) (word : List ℕ) (form : Form) (r : Result Move SanFault) : Type 0 where
  pub said : form_of word ≡ Some form
  pub chosen : r ≡ only (filter (fits q form) (legal q))

pub fitting_are : (q : Board) (word : List ℕ) (form : Form) (r : Result Move SanFault) → Answers q word form r → fitting q word ≡ filter (fits q form) (legal q)
unfolding fitting_form
fitting_are q word form r h = ap (fitting_form q) h.said

pub answers_resolved : (q : Board) (word : List ℕ) (form : Form) (r : Result Move SanFault) → Answers q word form r → r ≡ resolved q word
answers_resolved q word form r h =
    h.chosen ∙ sym (ap only (fitting_are q word form r h)) ∙ sym (ap (λ f. if is_some f then only (fitting q word) else Err NotSan) h.said)

only_none : (ms : List Move) → only ms ≡ Err NoSuchMove → ms ≡ []
only_none [] e = refl
only_none (m ∷ []) e = cc
only_none (m ∷ n ∷ rest) e = cc

only_more : (ms : List Move) → only ms ≡ Err Ambiguous → 2 ≤ length ms
only_more [] e = cc
only_more (m ∷ []) e = cc
only_more (m ∷ n ∷ rest) e = omega arith

only_one : (ms : List Move) → IfOk (only ms) (λ m. ms ≡ m ∷ [])
only_one [] = tt
only_one (m ∷ []) = refl
only_one (m ∷ n ∷ rest) = tt

pub answers_none : (q : Board) (word : List ℕ) (form : Form) (r : Result Move SanFault) → Answers q word form r → r ≡ Err NoSuchMove → fitting q word ≡ []
answers_none q word form r h e = fitting_are q word form r h ∙ only_none (filter (fits q form) (legal q)) (sym h.chosen ∙ e)

pub answers_more : (q : Board) (word : List ℕ) (form : Form) (r : Result Move SanFault) → Answers q word form r → r ≡ Err Ambiguous → 2 ≤ length (fitting q word)
answers_more q word form r h e =
    let few = only_more (filter (fits q form) (legal q)) (sym h.chosen ∙ e) in
    let same = ap length (fitting_are q word form r h) in
    omega arith

pub answers_one : (q : Board) (word : List ℕ) (form : Form) (r : Result Move SanFault) → Answers q word form r → IfOk r (λ m. fitting q word ≡ m ∷ [])
answers_one q word form r h =
    let P : Result Move SanFault → List Move → Type 0 = λ o ms. IfOk o (λ m. ms ≡ m ∷ []) in
    let there = only_one (filter (fits q form) (legal q)) in
    let told = subst (λ ms. P (only (filter (fits q form) (legal q))) ms) (sym (fitting_are q word form r h)) there in
    subst (λ o. P o (fitting q word)) (sym h.chosen) told

only_legal : (q : Board) (form : Form) (ms : List Move) → ms ≡ filter (fits q form) (legal q) → IfOk (only ms) (λ m. Contains (legal q) m)
only_legal q form [] e = tt
only_legal q form (m ∷ []) e =
    (Contains-filter_parts (fits q form) (legal q) m (let P : List Move → Type 0 = λ ms. Contains ms m in subst P e (Contains-cons_here m [] m refl))).0
only_legal q form (m ∷ n ∷ rest) e = tt

pub answers_legal : (q : Board) (word : List ℕ) (form : Form) (r : Result Move SanFault) → Answers q word form r → IfOk r (λ m. Contains (legal q) m)
answers_legal q word form r h =
    let P : Result Move SanFault → Type 0 = λ o. IfOk o (λ m. Contains (legal q) m) in
    subst P (sym h.chosen) (only_legal q form (filter (fits q form) (legal q)) refl)

-- the move that a word names is legal
pub resolved_legal : (q : Board) (word : List ℕ) → IfOk (resolved q word) (λ m. Contains (legal q) m)
unfolding fitting_form
resolved_legal q word = by_form (form_of word)
  where
    by_form : (o : Option Form) → IfOk (if is_some o then only (fitting_form q o) else Err NotSan) (λ m. Contains (legal q) m)
    by_form None = tt
    by_form (Some form) = only_legal q form (filter (fits q form) (legal q)) refl

-- an answer that was found among all moves
pub answers_from : (q : Board) (word : List ℕ) (form : Form) (r : Result Move SanFault) (o : Option Form) (found : Found)
    → o ≡ form_of word → o ≡ Some form → found ≡ seen Nothing (filter (names q form) all_moves) → r ≡ answered found → Answers q word form r
answers_from q word form r o found is some all chosen =
    record { said = sym is ∙ some; chosen = chosen ∙ ap answered all ∙ answered_only (filter (names q form) all_moves) ∙ ap only (named_are q form) }
