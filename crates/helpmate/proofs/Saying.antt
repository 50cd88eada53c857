-- What a found fact decides, and what answers say.
use Rattle.std.proofs.Common.{◌≡◌, ℕ, ◌-◌, ◌≤◌, nat_lt, Bool, true, false, if◌then◌else◌, List, length, Option, Some, None, IsNone, Result, Ok, IsErr, rules, refl, sym, ◌∙◌, ap, subst, arith}
use Rattle.std.proofs.lemmas.Bool.Decides.{nat_tests}
use Rattle.cha_list.specs.declared.memory.NoMemory.{NoMemory}
use Rattle.cha_board.specs.declared.men.Color.{Color}
use Rattle.cha_board.specs.Board.{Board}
use Rattle.cha_moves.specs.Step.{Move}
use Rattle.cha_moves.specs.Ends.{HasNoMateWithin}
use Rattle.cha_fact.specs.declared.fact.Fact.{Fact}
use Rattle.cha_fact.specs.declared.fact.Fact.TheVariants.{Mate as MateFact, NoneWithin as NoneFact}
use Rattle.helpmate.specs.declared.answers.RoundAnswer.{RoundAnswer}
use Rattle.helpmate.specs.declared.answers.RoundAnswer.TheVariants.{Mate, NoneWithin}
use Rattle.helpmate.specs.Rounds.{IsAnswer, decided_by}

mate_or_none : (b : Bool) (line : List Move) → (if b then None else Some (Mate line)) ≡ Some NoneWithin → ⊥
mate_or_none true line e = cc
mate_or_none false line e = cc

enough : (b : Bool) → (if b then None else Some NoneWithin) ≡ Some NoneWithin → b ≡ false
enough true e = cc
enough false e = refl

not_below : (n d : ℕ) → nat_lt n d ≡ false → d ≤ n
not_below n d e = grind (arith, nat_tests)

-- a fact that decides that there is no mate says so of as many plies or more
pub says_none : (d : ℕ) (f : Fact) → decided_by d f ≡ Some NoneWithin → (n : ℕ) × (d ≤ n) × (f ≡ NoneFact n)
says_none d (MateFact line) e = absurd (mate_or_none (nat_lt 32 (length line)) line e)
says_none d (NoneFact n) e = (n, not_below n d (enough (nat_lt n d) e), refl)

-- an answer that there is no mate
pub none_answered : (q r : Board) (w : Color) (d most : ℕ) (a : RoundAnswer) → IsAnswer r w d most a → a ≡ NoneWithin → r ≡ q → HasNoMateWithin q w d
none_answered q r w d most a h is same =
    let A : RoundAnswer → Type 0 = λ x. IsAnswer r w d most x in
    let B : Board → Type 0 = λ x. HasNoMateWithin x w d in
    subst B same (subst A is h)

-- all that was allowed was spent
pub spent_all : (allowance : Option ℕ) (n most left : ℕ) → allowance ≡ Some n → most ≡ n → left ≡ 0 → allowance ≡ Some (most - left)
spent_all allowance n most left is same none = (let e : n ≡ most - left = omega arith in is ∙ ap Some e)

pub none_is : (o : Option ℕ) → o ≡ None → IsNone o
none_is o e = (let P : Option ℕ → Type 0 = λ x. IsNone x in subst P (sym e) (search rules))

-- a refusal is no answer
pub no_answer : {A : Type 0} (o : Result A NoMemory) (a : A) → IsErr o → o ≡ Ok a → ⊥
no_answer {A = A} o a refused e =
    let P : Result A NoMemory → Type 0 = λ x. IsErr x in
    let h = subst P e refused in
    cc
