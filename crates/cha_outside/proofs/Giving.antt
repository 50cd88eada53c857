-- The bytes at the front of a list, given by a source that tells what it has left.
use Rattle.std.proofs.Common.{◌≡◌, ℕ, zero, suc, ◌-◌, ◌≤◌, List, length, replicate, [], ◌++◌, Some, refl, sym, ap, ◌∙◌, subst, take, drop, take-append-drop}
use Rattle.std.proofs.Math.Seq.{take-append_seam}
use Rattle.std.proofs.lemmas.List.{length-replicate, take-replicate, drop-replicate}
use Rattle.cha_outside.specs.declared.reading.Got.{Got}
use Rattle.cha_outside.specs.Reading.{Gives, given}

given_front : (left rest into : List ℕ) (n : ℕ) → (n ≡ 0 → left ≡ []) → left ≡ take n into ++ rest → Gives (Some left) (Some rest) (given n) into
given_front left rest into zero none whole = let kept : rest ≡ left = sym whole in (kept, none refl, kept ∙ none refl)
given_front left rest into (suc n) none whole = whole

-- what was given is the front of what was left, and none is given only where none is left
pub gives_front : (left rest into : List ℕ) (n : ℕ) (got : Got) → got ≡ given n → (n ≡ 0 → left ≡ []) → take n into ≡ take n left → rest ≡ drop n left
    → Gives (Some left) (Some rest) got into
gives_front left rest into n got is none same after =
    subst (λ r. Gives (Some left) (Some rest) r into) (sym is)
    (given_front left rest into n none (sym (take-append-drop n left) ∙ ap (λ xs. xs ++ drop n left) (sym same) ∙ ap (λ xs. take n into ++ xs) (sym after)))

-- the front of a buffer was filled with a byte that is given so often
pub gives_copies : (fill rest : List ℕ) (n count byte : ℕ) (got : Got) → got ≡ given n → (n ≡ 0 → count ≡ 0) → n ≤ count → fill ≡ replicate n byte
    → Gives (Some (replicate count byte)) (Some (replicate (count - n) byte)) got (fill ++ rest)
gives_copies fill rest n count byte got is none bound filled =
    let size : length fill ≡ n = ap length filled ∙ length-replicate n byte in
    let front : take n (fill ++ rest) ≡ fill = subst (λ k. take k (fill ++ rest) ≡ fill) size (take-append_seam fill rest) in
    gives_front (replicate count byte) (replicate (count - n) byte) (fill ++ rest) n got is (λ e. ap (λ k. replicate k byte) (none e))
    (front ∙ filled ∙ sym (take-replicate n count byte bound)) (sym (drop-replicate n count byte))
