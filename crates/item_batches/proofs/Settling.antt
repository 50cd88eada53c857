-- More bytes settle no fewer items.
use Rattle.std.proofs.Common.{◌≡◌, ℕ, zero, suc, ◌+◌, ◌<◌, ◌≤◌, Bool, true, false, if◌then◌else◌, nat_lt, List, [], ◌∷◌, ◌++◌, length, take, drop, refl, sym, ap, ◌∙◌, arith, append_assoc, take-append-drop, length-drop}
use Rattle.std.specs.List.{prefix_len}
use Rattle.std.proofs.lemmas.Bool.Decides.{nat_tests}
use Rattle.cha_list.specs.declared.classes.Class.TheVariants.{NotLineFeed}
use Rattle.cha_list.specs.Bytes.{in_class}
use Rattle.text_lines.specs.Lines.{line_if, without_return, settled_lines}
use Rattle.text_lines.specs.Holding.{IsGone}
use Rattle.text_lines.proofs.Given.{gone_line, none_gone, settled_given, given_settled}
use Rattle.text_lines.proofs.Kept.{none_waits}
use Rattle.pgn_games.proofs.KeptTokens.{nothing_more}
use Rattle.pgn_games.proofs.Settled.{settled_grow}
use Rattle.item_batches.specs.Items.{TookAsNeeded}
use Rattle.item_batches.proofs.Items.{lines_took}
use Rattle.side_by_side.specs.declared.cuts.ItemKind.{ItemKind}
use Rattle.side_by_side.specs.declared.cuts.ItemKind.TheVariants.{Games, Lines}
use Rattle.item_batches.specs.Readers.{settled_by}

-- a run is no longer than its text
run_step : (v : Bool) (n size : ℕ) → n ≤ size → (if v then 1 + n else 0) ≤ suc size
run_step true n size few = omega (arith, few)
run_step false n size few = omega arith

run_few : (p : ℕ → Bool) (xs : List ℕ) → prefix_len p xs ≤ length xs
run_few p [] = omega arith
run_few p (x ∷ xs) = run_step (p x) (prefix_len p xs) (length xs) (run_few p xs)

-- how many bytes stand before the first line feed
abbrev run : List ℕ → ℕ
run rest = prefix_len (in_class NotLineFeed) rest

abbrev IsSettledOnce : List ℕ → List ℕ → List ℕ → Type 0
IsSettledOnce gone rest more = settled_lines (gone ++ rest) ≤ settled_lines (gone ++ (rest ++ more))

-- where no line feed follows those that were passed, the lines before are all that are settled
no_feed : (gone rest more : List ℕ) (number given : ℕ) → IsGone gone number given false → run rest ≡ length rest → IsSettledOnce gone rest more
no_feed gone rest more number given h none = omega (arith, settled_given gone rest number given h none, given_settled gone (rest ++ more) number given h)

-- else one more line is passed
one_feed : (gone rest more : List ℕ) → IsSettledOnce (gone ++ take (suc (run rest)) rest) (drop (suc (run rest)) rest) more → IsSettledOnce gone rest more
one_feed gone rest more h =
    let line = take (suc (run rest)) rest in
    let later = drop (suc (run rest)) rest in
    let whole : line ++ later ≡ rest = take-append-drop (suc (run rest)) rest in
    let one : (gone ++ line) ++ later ≡ gone ++ rest = append_assoc gone line later ∙ ap (λ xs. gone ++ xs) whole in
    let two : (gone ++ line) ++ (later ++ more) ≡ gone ++ (rest ++ more) = append_assoc gone line (later ++ more) ∙ ap (λ xs. gone ++ xs) (sym (append_assoc line later more) ∙ ap (λ xs. xs ++ more) whole) in
    omega (arith, h, ap settled_lines one, ap settled_lines two)

lines_step : (v : Bool) (gone rest more : List ℕ) (number given : ℕ) → nat_lt (run rest) (length rest) ≡ v → IsGone gone number given false
    → (run rest < length rest → (given' : ℕ) → IsGone (gone ++ take (suc (run rest)) rest) (number + 1) given' false → IsSettledOnce (gone ++ take (suc (run rest)) rest) (drop (suc (run rest)) rest) more) → IsSettledOnce gone rest more
lines_step false gone rest more number given e h ih =
    let few = run_few (in_class NotLineFeed) rest in
    no_feed gone rest more number given h (grind (arith, nat_tests, e, few))
lines_step true gone rest more number given e h ih =
    let some : run rest < length rest = grind (arith, nat_tests, e) in
    one_feed gone rest more (ih some _ (gone_line gone number given h rest some (given + length (line_if number (without_return (take (run rest) rest)))) refl))

lines_from : (fuel : ℕ) (gone rest more : List ℕ) (number given : ℕ) → IsGone gone number given false → length rest ≤ fuel → IsSettledOnce gone rest more
lines_from zero gone rest more number given h enough = let few = run_few (in_class NotLineFeed) rest in no_feed gone rest more number given h (omega (arith, few, enough))
lines_from (suc fuel) gone rest more number given h enough =
    lines_step (nat_lt (run rest) (length rest)) gone rest more number given refl h
    (λ some given' next. lines_from fuel (gone ++ take (suc (run rest)) rest) (drop (suc (run rest)) rest) more (number + 1) given' next (omega (arith, length-drop (suc (run rest)) rest, enough)))

pub settled_more : (k : ItemKind) (bytes more : List ℕ) → settled_by k bytes ≤ settled_by k (bytes ++ more)
settled_more (Games purpose) bytes more = settled_grow bytes more
settled_more Lines bytes more = lines_from (length bytes) [] bytes more 1 0 none_gone (omega arith)

-- where nothing was taken, no piece was
pub took_nothing : (k : ItemKind) → TookAsNeeded (settled_by k) [] 0
took_nothing (Games purpose) = ([], nothing_more [] [] refl refl)
took_nothing Lines = lines_took [] 0 (none_waits [] [] refl refl)
