-- What a run for the words of a text answers.
use Rattle.std.proofs.Common.{◌≡◌, ◌↔◌, ◌⊎◌, inl, inr, ℕ, ◌<◌, ◌≤◌, List, [], length, map, string_bytes, Option, Some, None, IfSome, IsNone, refl, sym, ap, ◌∙◌, subst, arith}
use Rattle.std.proofs.lemmas.Bool.{cases_lt}
use Rattle.std.specs.Str.{IsUtf8}
use Rattle.std.specs.declared.string.String.{String}
use Rattle.std.specs.declared.alloc.Global.{Global}
use Rattle.cha_words.specs.declared.orders.Order.{Order}
use Rattle.cha_words.specs.Language.{order, order_of}
use Rattle.adjudicate.specs.declared.endings.Status.{Status}
use Rattle.adjudicate.specs.declared.endings.Status.TheVariants.{Done, Usage, ReadFault, WriteFault, TooLong, NoMemory, NotAccepted}
use Rattle.cha_c.specs.Answers.{GrownState, Orders, Ran, HandsOut, Answers, words_at_zeros, number_in_c}

-- the number 1 is that of words that order nothing
of_usage : (s : Status) → number_in_c s ≡ 1 → s ≡ Usage
of_usage Done e = cc
of_usage Usage e = refl
of_usage ReadFault e = cc
of_usage WriteFault e = cc
of_usage TooLong e = cc
of_usage NoMemory e = cc
of_usage NotAccepted e = cc

module _ (texts : List (String Global)) (words input : List ℕ) (number used : ℕ) (room : List ℕ) (status : Status) (kept : GrownState)
    (spelled : map string_bytes texts ≡ words_at_zeros words) (text : IsUtf8 words)
    (ran : IfSome (order texts) (λ o. Ran o input status kept))
    (usage : (status ≡ Usage) ↔ IsNone (order texts))
    (untouched : status ≡ Usage → kept.bytes ≡ [])
    (handed : HandsOut status kept.bytes number used room) where
  ordered : (o : Order) → Orders words o → order texts ≡ Some o
  ordered o orders = ap order_of spelled ∙ orders.1

  none_ordered : status ≡ Usage → (o : Order) → Orders words o → ⊥
  none_ordered is o orders =
      let e = ordered o orders in
      let none : IsNone (order texts) = usage.0 is in
      let absent : IsNone (Some o) = subst (λ x. IsNone x) e none in cc

  unused : status ≡ Usage → used ≡ 0
  unused is = handed.size ∙ ap length (untouched is)

  by_room : number ≡ 1 → (length room < length kept.bytes) ⊎ (length kept.bytes ≤ length room) → status ≡ Usage
  by_room one (inl short) = let seven = handed.no_room short in let e = sym one ∙ seven in cc
  by_room one (inr fits) = of_usage status (sym (handed.told fits) ∙ one)

  is_usage : number ≡ 1 → status ≡ Usage
  is_usage one = by_room one (cases_lt (length room) (length kept.bytes))

  by_order : (o : Option Order) → order texts ≡ o → ((order : Order) → Orders words order → ⊥) → status ≡ Usage
  by_order None e none = usage.1 (subst (λ x. IsNone x) (sym e) refl)
  by_order (Some o) e none = absurd (none o (text, sym (ap order_of spelled) ∙ e))

  first : status ≡ Usage → number ≡ 1
  first is =
      let empty : length kept.bytes ≡ 0 = ap length (untouched is) in
      handed.told (omega (arith, empty)) ∙ ap number_in_c is

  pub answered : Answers words input number used room
  answered = record {
    ran = λ o orders. (status, kept, subst (λ x. IfSome x (λ o. Ran o input status kept)) (ordered o orders) ran, handed);
    usage = λ one. let is = is_usage one in (unused is, none_ordered is);
    other = λ none. let is = by_order (order texts) refl none in (unused is, inl (first is));
  }
