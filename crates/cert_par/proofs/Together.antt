-- What the nodes, each on its own, say together.
use Rattle.std.proofs.Common.{◌≡◌, ℕ, zero, suc, ◌+◌, ◌<◌, Bool, true, false, List, [], ◌∷◌, length, get_or, Result, Ok, Some, refl, subst, ◌∙◌, arith, inl, inr}
use Rattle.std.specs.List.{AllZip, range_with_len}
use Rattle.std.proofs.lemmas.Bool.{cases_lt}
use Rattle.std.proofs.lemmas.List.FromFn.{get_or-range_with_len, length-range_with_len}
use Rattle.std.proofs.lemmas.Slice.Zip.{AllZip-long}
use Rattle.cha_list.specs.declared.memory.NoMemory.{NoMemory}
use Rattle.cha_board.specs.declared.men.Color.{Color}
use Rattle.cha_cert.specs.declared.nodes.Node.{Node}
use Rattle.cha_cert.specs.Certificates.{NodeHolds, FirstFailing}
use Rattle.cert_par.specs.Failing.{TellsFailing, TellsFirst, HoldBefore}

zip_at : {A B : Type 0} (R : A → B → Type 0) (xs : List A) (ys : List B) → AllZip R xs ys → (k : ℕ) (d : A) (e : B) → k < length xs → R (get_or xs k d) (get_or ys k e)
zip_at R [] [] all k d e inside = absurd (omega (arith, inside))
zip_at R [] (y ∷ ys) all k d e inside = absurd all
zip_at R (x ∷ xs) [] all k d e inside = absurd all
zip_at R (x ∷ xs) (y ∷ ys) all zero d e inside = all.0
zip_at R (x ∷ xs) (y ∷ ys) all (suc k) d e inside = zip_at R xs ys all.1 k d e (omega (arith, inside))

-- What was found of each of n nodes from one on:
module _ (w : Color) (nodes : List Node) (from n : ℕ) (found : List (Result Bool NoMemory)) (all : AllZip (TellsFirst w nodes) (range_with_len from n) found) where
  pub found_long : length found ≡ n
  found_long = AllZip-long (TellsFirst w nodes) (range_with_len from n) found all ∙ length-range_with_len from n

  found_at : (k : ℕ) (e : Result Bool NoMemory) → k < n → TellsFirst w nodes (from + k) (get_or found k e)
  found_at k e inside =
      let here = zip_at (TellsFirst w nodes) (range_with_len from n) found all k 0 e (omega (arith, inside, length-range_with_len from n)) in
      subst (λ i. TellsFirst w nodes i (get_or found k e)) (get_or-range_with_len from n k 0 inside) here

  told_at : (k : ℕ) (e : Result Bool NoMemory) (b c : Bool) → k < n → get_or found k e ≡ Ok b → b ≡ c → TellsFailing w nodes (from + k) c
  told_at k e b c inside is same = subst (TellsFailing w nodes (from + k)) same (subst (TellsFirst w nodes (from + k)) is (found_at k e inside))

  -- one more node holds
  pub more_hold : (k : ℕ) (e : Result Bool NoMemory) (b : Bool) → k < n → get_or found k e ≡ Ok b → b ≡ false → HoldBefore w nodes (from + k) → HoldBefore w nodes (from + (k + 1))
  more_hold k e b inside is off before j d less =
      let told = told_at k e b false inside is off in
      elim (cases_lt j (from + k)) [
        | inl low ↦ before j d low
        | inr high ↦ (
            let same : from + k ≡ j = omega (arith, less, high) in
            subst (λ i. NodeHolds w nodes (get_or nodes i d)) same ((told d).0 refl))
      ]

  -- a node fails behind those that hold
  pub one_found : (k : ℕ) (e : Result Bool NoMemory) (b : Bool) → k < n → from + k < length nodes → get_or found k e ≡ Ok b → b ≡ true → HoldBefore w nodes (from + k) → FirstFailing (NodeHolds w nodes) nodes (Some (from + k))
  one_found k e b inside within is on before =
      let told = told_at k e b true inside is on in
      (within, (λ j d less. before j d less), (λ d holds. (let t = (told d).1 holds in cc)))
