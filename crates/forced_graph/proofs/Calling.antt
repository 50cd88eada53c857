-- The calls of a place that were made from one state of it to a later one.
use Rattle.std.proofs.Common.{◌≡◌, ℕ, ◌+◌, List, [], ◌∷◌, ◌++◌, Option, None, Result, Ok, inl, inr, refl, sym, ◌∙◌, subst, arith}
use Rattle.std.proofs.lemmas.List.{length_push}
use Rattle.std.proofs.lemmas.List.Elements.{Contains-push_cases}
use Rattle.cha_moves.proofs.Contained.{not_in_nothing}
use Rattle.cha_cert.specs.declared.nodes.Node.{Node}
use Rattle.cha_fact.specs.declared.calls.Probe.{Probe}
use Rattle.forced_graph.specs.Outcomes.{HasExpandedInner}
use Rattle.cha_board.specs.declared.men.Color.{Color}
use Rattle.cha_board.specs.Board.{Board}
use Rattle.cha_moves.specs.Step.{Move}
use Rattle.cha_fact.specs.Keys.{key_of}
use Rattle.cha_list.specs.declared.memory.NoMemory.{NoMemory}
use Rattle.cha_fact.specs.Entries.{Entry, probe_entry, MadeSome}
use Rattle.forced_graph.specs.declared.explored.Explored.{Explored}
use Rattle.forced_graph.specs.declared.explored.Explored.TheVariants.{Closed, Spent}
use Rattle.forced_graph.specs.Asking.{line_of_reply, IsAsked, AskInVain, HasCalled, HasAskedForInner, AsksEach}

pub more_made : {S : Type 0} (made : S → List Entry → S → Type 0) (old mid new : S) → ((a b c : S) (xs ys : List Entry) → made a xs b → made b ys c → made a (xs ++ ys) c) → MadeSome made old mid → MadeSome made mid new → MadeSome made old new
more_made made old mid new both before here = (before.0 ++ here.0, both old mid new before.0 here.0 before.1 here.1)

-- no call yet
pub none_called : {S : Type 0} (made : S → List Entry → S → Type 0) (s : S) (w : Color) (n : ℕ) → made s [] s → n ≡ 0 → HasCalled made s s w n
unfolding AskInVain
none_called made s w n none nothing = ([], none, sym nothing, (λ e there. absurd (not_in_nothing e there)))

-- one call more
pub one_called : {S : Type 0} (made : S → List Entry → S → Type 0) (old mid new : S) (q : Board) (w : Color) (n m : ℕ) (result : Option (List Move))
    → ((a b c : S) (xs ys : List Entry) → made a xs b → made b ys c → made a (xs ++ ys) c) → HasCalled made old mid w n → IsAsked made mid new q w result → result ≡ None → m ≡ n + 1 → HasCalled made old new w m
unfolding AskInVain
one_called made old mid new q w n m result both before asked vain next =
    let e = probe_entry (key_of q w) asked.0 in
    let V : Entry → Type 0 = λ x. (r : Board) × (reply : Probe) × (x ≡ probe_entry (key_of r w) reply) × (line_of_reply reply ≡ None) in
    let here : V e = (q, asked.0, refl, sym asked.2 ∙ vain) in (
      before.0 ++ e ∷ [],
      both old mid new before.0 (e ∷ []) before.1 asked.1,
      (let longer = length_push before.0 e in let were = before.2 in omega arith),
      (λ x there. elim (Contains-push_cases before.0 e x there) [
        | inl earlier ↦ before.3 x earlier
        | inr is ↦ subst V is here
      ]),
    )

spent_is : (m n : ℕ) → (let o : Result Explored NoMemory = Ok (Spent m) in o) ≡ Ok (Spent n) → m ≡ n
spent_is m n e = cc

closed_is : (a b : List Node) → (let o : Result Explored NoMemory = Ok (Closed a) in o) ≡ Ok (Closed b) → a ≡ b
closed_is a b e = cc

not_closed : (n : ℕ) (cert : List Node) → (let o : Result Explored NoMemory = Ok (Spent n) in o) ≡ Ok (Closed cert) → ⊥
not_closed n cert e = cc

not_spent : (cert : List Node) (n : ℕ) → (let o : Result Explored NoMemory = Ok (Closed cert) in o) ≡ Ok (Spent n) → ⊥
not_spent cert n e = cc

-- the budget was spent
pub asks_spent : {S : Type 0} (made : S → List Entry → S → Type 0) (old new : S) (q : Board) (w : Color) (n m : ℕ) → HasCalled made old new w n → n ≡ m → AsksEach made old new q w (Ok (Spent m))
asks_spent made old new q w n m called same = ((λ k is. (called.0, called.1, (let one = spent_is m k is in let were = called.2 in omega arith), called.3)), (λ cert is. absurd (not_closed m cert is)))

-- nothing waits any more
pub asks_closed : {S : Type 0} (made : S → List Entry → S → Type 0) (old new : S) (q r : Board) (w v : Color) (n m : ℕ) (cert : List Node)
    → HasCalled made old new w n → HasExpandedInner r v m cert → r ≡ q → v ≡ w → m ≡ n → AsksEach made old new q w (Ok (Closed cert))
asks_closed made old new q r w v n m cert called inner root side same =
    let R : Board → Type 0 = λ b. HasExpandedInner b v m cert in
    let W : Color → Type 0 = λ c. HasExpandedInner q c m cert in
    let N : ℕ → Type 0 = λ k. HasExpandedInner q w k cert in
    let whole = subst N same (subst W side (subst R root inner)) in
    let A : List Node → Type 0 = λ x. HasAskedForInner made old new q w x in
    ((λ k is. absurd (not_spent cert k is)), (λ x is. subst A (closed_is cert x is) (n, called, whole)))
