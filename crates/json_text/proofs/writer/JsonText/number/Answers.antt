use Rattle.std.proofs.Common.{rules, ◌≡◌, ℕ, Bool, true, false, ◌&&◌, cond, if◌then◌else◌, List, [], ◌∷◌, ◌++◌, refl, append_assoc}
use Rattle.json.proofs.Printed.Decimals.{IsNumber-decimal}
use Rattle.json_text.proofs.writer.JsonText.number.Goals as goal

joined : (a : Bool) (t s t' digits : List ℕ) → s ≡ t ++ (if a then 44 ∷ [] else []) → t' ≡ s ++ digits → t' ≡ t ++ (cond (a && true) (44 ∷ []) [] ++ digits)
joined true t s t' digits e f = rw (f, e) (append_assoc t (44 ∷ []) digits)
joined false t s t' digits e f = rw (f, e) (append_assoc t [] digits)

pub returns : goal.returns
returns c = record {
  text = joined c.args.self.now.after_value _ _ _ _ c.in_ok-separate.ensures.text c.in_ok-append_decimal.ensures.ok;
  after = refl;
  writable = IsNumber-decimal c.args.number (search rules);
}
