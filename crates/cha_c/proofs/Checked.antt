-- What a run of the word check tells of a text.
use Rattle.std.proofs.Common.{◌≡◌, ◌≢◌, ◌⊎◌, inl, inr, ℕ, ◌<◌, ◌≤◌, List, [], ◌∷◌, ◌++◌, length, map, codes, string_bytes, Option, Some, IfSome, refl, sym, ap, ◌∙◌, subst, arith, append-nil}
use Rattle.std.specs.declared.string.String.{String}
use Rattle.std.specs.declared.alloc.Global.{Global}
use Rattle.std.specs.Io.KnownBytes.{Consumes, IsAtEnd}
use Rattle.cha_outside.specs.Gathering.{Took}
use Rattle.cha_words.specs.declared.orders.Order.TheVariants.{CheckCert}
use Rattle.cha_words.specs.Language.{order, order_of, order_by, command_named}
use Rattle.adjudicate.specs.declared.endings.Status.{Status}
use Rattle.adjudicate.specs.declared.endings.Status.TheVariants.{Done, Usage, ReadFault, WriteFault, TooLong, NoMemory, NotAccepted}
use Rattle.adjudicate.specs.Report.{IsAccepted, demand}
use Rattle.adjudicate.specs.Corrections.{Noted}
use Rattle.adjudicate.specs.Orders.{IsRun}
use Rattle.adjudicate.specs.Runs.{IsRunOf, Ended, outside}
use Rattle.item_batches.specs.Items.{most_bytes}

-- the word orders a check
check_ordered : order_of (codes "check" ∷ []) ≡ Some CheckCert
unfolding order_of order_by command_named
check_ordered = refl

-- all bytes were taken where none is left
taken_whole : (text left taken : List ℕ) → Consumes (Some text) (Some left) taken → IsAtEnd (Some left) → taken ≡ text
taken_whole text left taken consumed end = sym (consumed ∙ ap (λ rest. taken ++ rest) end ∙ append-nil taken)

module _ (words : List (String Global)) (text source left : List ℕ) (old new : Option (List ℕ)) (faults faults' : ℕ) (notes notes' : Noted) (status : Status) (same : source ≡ text)
    (spelled : map string_bytes words ≡ codes "check" ∷ [])
    (ran : IfSome (order words) (λ o. IsRun o status (outside (Some source) 0 old faults) (outside (Some left) 0 new faults') notes notes')) where
  ordered : order words ≡ Some CheckCert
  ordered = ap order_of spelled ∙ check_ordered

  ran_check : IsRun CheckCert status (outside (Some source) 0 old faults) (outside (Some left) 0 new faults') notes notes'
  ran_check = subst (λ o. IfSome o (λ o. IsRun o status (outside (Some source) 0 old faults) (outside (Some left) 0 new faults') notes notes')) ordered ran

  run : IsRunOf (demand CheckCert) status (outside (Some source) 0 old faults) (outside (Some left) 0 new faults')
  run = ran_check.0

  ended : (s : Status) → status ≡ s → Ended (demand CheckCert) s (outside (Some source) 0 old faults) (outside (Some left) 0 new faults')
  ended s is = subst (λ s. Ended (demand CheckCert) s (outside (Some source) 0 old faults) (outside (Some left) 0 new faults')) is run.ended

  pub accepted : status ≡ Done → IsAccepted CheckCert text
  accepted done = let e = ended Done done in subst (IsAccepted CheckCert) (taken_whole source left e.0 e.1 e.2 ∙ same) e.3

  pub lawful : (P : List ℕ → Type 0) → (status ≡ Done → order words ≡ Some CheckCert → Took (Some source) (Some left) P) → status ≡ Done → P text
  lawful P law done =
      let e = ended Done done in
      let took = law done ordered in
      subst P (taken_whole source left took.0 took.1 e.2 ∙ same) took.2

  pub no_usage : status ≢ Usage
  no_usage is = ended Usage is

  pub no_read_fault : status ≢ ReadFault
  no_read_fault is = let rose = run.read_fault is in absurd (omega arith)

  -- a text that is read to its end is not too long
  not_long : IsAtEnd (Some left) → status ≢ TooLong → length text ≤ most_bytes
  not_long end other =
      let took = run.not_too_long other in
      subst (λ t. length t ≤ most_bytes) (taken_whole source left took.0 took.1 end ∙ same) took.2

  ends : (s : Status) → status ≡ s → most_bytes < length text → (s ≡ TooLong) ⊎ ((s ≡ NoMemory) ⊎ (s ≡ WriteFault))
  ends Done is long = (let few = not_long (ended Done is).2 (λ e. cc) in absurd (omega (arith, few, long)))
  ends NotAccepted is long = (let few = not_long (ended NotAccepted is).2 (λ e. cc) in absurd (omega (arith, few, long)))
  ends Usage is long = absurd (no_usage is)
  ends ReadFault is long = absurd (no_read_fault is)
  ends TooLong is long = inl refl
  ends NoMemory is long = inr (inl refl)
  ends WriteFault is long = inr (inr refl)

  pub ends_long : most_bytes < length text → (status ≡ TooLong) ⊎ ((status ≡ NoMemory) ⊎ (status ≡ WriteFault))
  ends_long long = ends status refl long
