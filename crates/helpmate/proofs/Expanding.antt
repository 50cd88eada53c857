-- How many positions were expanded, move by move.
use Rattle.std.proofs.Common.{◌≡◌, ℕ, zero, suc, ◌+◌, ◌<◌, ◌≤◌, List, [], ◌∷◌, ◌++◌, length, get_or, take, inl, inr, refl, sym, ◌∙◌, ap, subst, arith}
use Rattle.std.proofs.lemmas.List.{append_assoc, append-nil}
use Rattle.cha_board.specs.declared.men.Color.{Color}
use Rattle.cha_board.specs.Men.{other_color}
use Rattle.cha_board.specs.Board.{Board}
use Rattle.cha_moves.specs.Step.{Move}
use Rattle.cha_moves.specs.Moves.{after, legal}
use Rattle.cha_moves.specs.Ends.{IsMated}
use Rattle.cha_fact.specs.Entries.{Entry}
use Rattle.helpmate.specs.declared.answers.RoundAnswer.{RoundAnswer}
use Rattle.helpmate.specs.declared.answers.RoundAnswer.TheVariants.{NoneWithin, Spent}
use Rattle.helpmate.specs.Rounds.{AsksFirst, IsLeft, KeepsNone, led_answer, AreExpandedAfter, AreExpandedBy}

-- n positions were expanded by the entries of a search with this answer
unfoldable pub AreCountedBy : List Entry → Board → Color → ℕ → RoundAnswer → ℕ → Type 0
AreCountedBy entries q winner depth answer n = AsksFirst q winner depth entries answer n (λ rest. AreExpandedBy rest q winner depth answer n)

-- n positions were expanded after these moves, after none of which there is a mate
unfoldable pub AreExpandedByAll : (Move → List Entry → RoundAnswer → ℕ → Type 0) → List Move → List Entry → ℕ → Type 0
AreExpandedByAll searched [] entries n = (entries ≡ []) × (n ≡ 0)
AreExpandedByAll searched (m ∷ ms) entries n =
    (own : List Entry) × (rest : List Entry) × (u : ℕ) × (v : ℕ) × (entries ≡ own ++ rest) × (n ≡ u + v) × searched m own NoneWithin u × AreExpandedByAll searched ms rest v

-- the search of the position after a move
abbrev pub AfterMove : Board → Color → ℕ → Move → List Entry → RoundAnswer → ℕ → Type 0
AfterMove q w d m own end v = AreCountedBy own (after q m) w d end v

pub none_by_all : (searched : Move → List Entry → RoundAnswer → ℕ → Type 0) (n : ℕ) → n ≡ 0 → AreExpandedByAll searched [] [] n
unfolding AreExpandedByAll
none_by_all searched n none = (refl, none)

-- one more move
one_more : (searched : Move → List Entry → RoundAnswer → ℕ → Type 0) (ms : List Move) (i : ℕ) (m : Move) (entries own : List Entry) (n u v : ℕ)
    → AreExpandedByAll searched (take i ms) entries n → searched m own NoneWithin u → i < length ms → m ≡ get_or ms i m → v ≡ n + u → AreExpandedByAll searched (take (suc i) ms) (entries ++ own) v
unfolding AreExpandedByAll
one_more searched [] i m entries own n u v before here inside at sum = absurd (omega arith)
one_more searched (k ∷ ms) zero m entries own n u v before here inside at sum =
    let none : entries ≡ [] = before.0 in
    let zero_before : n ≡ 0 = before.1 in
    let P : Move → Type 0 = λ x. searched x own NoneWithin u in
    (own, [], u, 0, rw none (sym (append-nil own)), omega arith, subst P at here, (refl, refl))
one_more searched (k ∷ ms) (suc i) m entries own n u v before here inside at sum =
    let small : i < length ms = omega arith in
    let rest = before.1 in
    let first = before.0 in
    let e : entries ≡ first ++ rest = before.4 in
    let s : n ≡ before.2 + before.3 = before.5 in
    let later = one_more searched ms i m rest own before.3 u (before.3 + u) before.7 here small at refl in
    (first, rest ++ own, before.2, before.3 + u, ap (λ (l : List Entry). l ++ own) e ∙ append_assoc first rest own, omega arith, before.6, later)

pub more_by_all : (searched : Move → List Entry → RoundAnswer → ℕ → Type 0) (ms : List Move) (i : ℕ) (m : Move) (entries own : List Entry) (n u v : ℕ)
    → AreExpandedByAll searched (take i ms) entries n → searched m own NoneWithin u → i < length ms → m ≡ get_or ms i m → v ≡ n + u → AreExpandedByAll searched (take (i + 1) ms) (entries ++ own) v
more_by_all searched ms i m entries own n u v before here inside at sum =
    let next : suc i ≡ i + 1 = omega arith in
    let P : ℕ → Type 0 = λ j. AreExpandedByAll searched (take j ms) (entries ++ own) v in
    subst P next (one_more searched ms i m entries own n u v before here inside at sum)

-- a move that ends the search of the moves
pub ended_after : (searched : Move → List Entry → RoundAnswer → ℕ → Type 0) (keeps : List Entry → Type 0) (ms : List Move) (i : ℕ) (m : Move) (entries own : List Entry) (n u v : ℕ) (answer end : RoundAnswer)
    → AreExpandedByAll searched (take i ms) entries n → searched m own end u → i < length ms → m ≡ get_or ms i m → v ≡ n + u → (end ≡ NoneWithin → ⊥) → answer ≡ led_answer m end
    → AreExpandedAfter searched keeps ms (entries ++ own) answer v
unfolding AreExpandedByAll AreExpandedAfter
ended_after searched keeps [] i m entries own n u v answer end before here inside at sum other led = absurd (omega arith)
ended_after searched keeps (k ∷ ms) zero m entries own n u v answer end before here inside at sum other led =
    let none : entries ≡ [] = before.0 in
    let zero_before : n ≡ 0 = before.1 in
    let same : u ≡ v = omega arith in
    let P : Move → Type 0 = λ x. (answer ≡ led_answer x end) × searched x own end v in
    let U : ℕ → Type 0 = λ x. searched m own end x in
    let E : List Entry → Type 0 = λ l. searched k l end v in
    let both = subst P at (led, subst U same here) in
    inr (end, other, both.0, subst E (ap (λ (l : List Entry). l ++ own) (sym none)) both.1)
ended_after searched keeps (k ∷ ms) (suc i) m entries own n u v answer end before here inside at sum other led =
    let small : i < length ms = omega arith in
    let rest = before.1 in
    let first = before.0 in
    let e : entries ≡ first ++ rest = before.4 in
    let s : n ≡ before.2 + before.3 = before.5 in
    let later = ended_after searched keeps ms i m rest own before.3 u (before.3 + u) answer end before.7 here small at refl other led in
    inl (first, rest ++ own, before.2, before.3 + u, ap (λ (l : List Entry). l ++ own) e ∙ append_assoc first rest own, omega arith, before.6, later)

-- all moves, and what is kept
pub all_after : (searched : Move → List Entry → RoundAnswer → ℕ → Type 0) (keeps : List Entry → Type 0) (ms : List Move) (entries last : List Entry) (n : ℕ)
    → AreExpandedByAll searched ms entries n → keeps last → AreExpandedAfter searched keeps ms (entries ++ last) NoneWithin n
unfolding AreExpandedByAll AreExpandedAfter
all_after searched keeps [] entries last n all kept =
    let none : entries ≡ [] = all.0 in
    let E : List Entry → Type 0 = λ l. keeps (l ++ last) in
    (subst E (sym none) kept, refl, all.1)
all_after searched keeps (m ∷ ms) entries last n all kept =
    let rest = all.1 in
    let first = all.0 in
    inl (first, rest ++ last, all.2, all.3, ap (λ (l : List Entry). l ++ last) all.4 ∙ append_assoc first rest last, all.5, all.6, all_after searched keeps ms rest last all.3 all.7 kept)

-- the position itself and those after its moves
pub with_the_root : (q : Board) (w : Color) (d e u n : ℕ) (entries : List Entry) (answer : RoundAnswer)
    → d ≡ e + 1 → 0 < e → (IsMated q (other_color w) → ⊥) → AreExpandedAfter (AfterMove q w e) (KeepsNone q w d) (legal q) entries answer u → n ≡ u + 1 → AreExpandedBy entries q w d answer n
unfolding AreExpandedBy AreCountedBy
with_the_root q w zero e u n entries answer next some running after sum = absurd (omega arith)
with_the_root q w (suc zero) e u n entries answer next some running after sum = absurd (omega arith)
with_the_root q w (suc (suc d)) e u n entries answer next some running after sum =
    let same : e ≡ suc d = omega arith in
    let P : ℕ → Type 0 = λ x. AreExpandedAfter (AfterMove q w x) (KeepsNone q w (suc (suc d))) (legal q) entries answer u in
    inr (running, u, sum, subst P same after)

-- a position that is left
pub left_alone : (q : Board) (w : Color) (d n : ℕ) (answer : RoundAnswer) → 0 < d → n ≡ 0 → IsLeft q w answer → AreExpandedBy [] q w d answer n
unfolding AreExpandedBy
left_alone q w zero n answer some none left = absurd (omega arith)
left_alone q w (suc zero) n answer some none left = (refl, inl (none, left))
left_alone q w (suc (suc d)) n answer some none left = inl (refl, none, left)

pub no_ply_to_go : (q : Board) (w : Color) (d n : ℕ) (answer : RoundAnswer) → d ≡ 0 → n ≡ 0 → AreExpandedBy [] q w d answer n
unfolding AreExpandedBy
no_ply_to_go q w zero n answer last none = (refl, none)
no_ply_to_go q w (suc d) n answer last none = absurd (omega arith)

pub one_position : (q : Board) (w : Color) (n : ℕ) (answer : RoundAnswer) → n ≡ 1 → (IsMated q (other_color w) → ⊥) → (answer ≡ Spent → ⊥) → AreExpandedBy [] q w 1 answer n
unfolding AreExpandedBy
one_position q w n answer one running rest = (
  refl,
  inr (
    one,
    (λ left. elim left [
      | inl mated ↦ running mated
      | inr spent ↦ rest spent
    ]),
  ),
)

-- where one ply or none is to go nothing is asked
pub not_asked_for : (entries : List Entry) (q : Board) (w : Color) (d n : ℕ) (answer : RoundAnswer) → d ≤ 1 → AreExpandedBy entries q w d answer n → AreCountedBy entries q w d answer n
unfolding AreCountedBy AsksFirst
not_asked_for entries q w zero n answer few h = h
not_asked_for entries q w (suc zero) n answer few h = h
not_asked_for entries q w (suc (suc d)) n answer few h = absurd (omega (arith, few))
