-- How a loop over items of a text goes on.
use Rattle.std.proofs.Common.{◌≡◌, ℕ, suc, List, [], ◌∷◌, ◌++◌, Result, refl, ◌∙◌}
use Rattle.cert_text.specs.declared.faults.CertFault.{CertFault}
use Rattle.cert_text.specs.Texts.{Parsed, found, and_then}
use Rattle.cert_text.specs.SharedTexts.{many_after}

-- A reader of one item:
module _ {X : Type 0} (one : ℕ → List (List ℕ) → Result (Parsed X) CertFault) (whole : Result (Parsed (List X)) CertFault) (xs : List X) (k left n : ℕ) (lines : List (List ℕ)) where
  -- the first item, and then the others
  pub many_first : left ≡ suc k → whole ≡ many_after one left xs n lines → whole ≡ and_then (one n lines) (λ x. many_after one k (xs ++ x.value ∷ []) x.number x.lines)
  unfolding many_after
  many_first e so_far = so_far ∙ rw e refl

  -- one more item
  pub many_goes : (x : X) (m : ℕ) (rest : List (List ℕ)) → left ≡ suc k → whole ≡ many_after one left xs n lines → one n lines ≡ found x m rest → whole ≡ many_after one k (xs ++ x ∷ []) m rest
  unfolding many_after
  many_goes x m rest e so_far next = so_far ∙ rw (e, next) refl

  -- all items are read
  pub many_done : left ≡ 0 → whole ≡ many_after one left xs n lines → whole ≡ found xs n lines
  unfolding many_after
  many_done e so_far = so_far ∙ rw e refl
