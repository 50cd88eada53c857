use Rattle.std.proofs.Common.{◌≡◌, ◌≤◌, true, IsTrue, IfSome, List, Option, length, drop, ◌∙◌, refl, sym, ap, subst}
use Rattle.mob_sets.specs.Rows.{Row}
use Rattle.mob_sets.specs.Tidy.{AreTidy}
use Rattle.cert_text.specs.declared.rest.Left.{Left}
use Rattle.cert_text.specs.TextLines.{lines_of, tail_of}
use Rattle.cert_text.specs.Agreeing.{RowGoesOn}
use Rattle.cert_text.specs.Texts.{follows, rows_after}
use Rattle.cert_text.proofs.Going.{row_goes, tidy_more}
use Rattle.cert_text.proofs.leaves.rows_of_leaf.Goals as goal

pub loop-rows-preserved : goal.loop-rows-preserved
loop-rows-preserved c =
    let bytes = c.args.bytes.now in
    let left = c.loop-rows.left in
    let rows = c.loop-rows.rows.items in
    let next = c.in-Some.next in
    let some = λ (P : Row × Left → Type 0) (h : IfSome c.in_ok-next.field-0 P). subst (λ (o : Option (Row × Left)). IfSome o P) c.in-Some.is h in
    let tail = some (λ x. tail_of (drop x.1.at bytes) ≡ tail_of (drop left.at bytes)) c.in_ok-next.ensures.tail in
    let pushed = c.in_ok-push.ensures.items in
    let goes = row_goes bytes (tail_of (drop left.at bytes)) (tail_of (drop c.args.left.at bytes)) _ rows left next c.in_ok-next.field-0 c.loop-rows.invariant.tail refl c.in-Some.is c.loop-rows.invariant.said (subst (λ (rs : List Row). RowGoesOn bytes rs left c.in_ok-next.field-0) c.as_slice.ensures.value c.in_ok-next.ensures.said) in
    record {
      inside = some (λ x. x.1.at ≤ length bytes) c.in_ok-next.ensures.inside;
      tail = tail ∙ c.loop-rows.invariant.tail;
      said = goes ∙ ap (λ items. rows_after (tail_of (drop c.args.left.at bytes)) items next.1.number (lines_of (drop next.1.at bytes))) (sym pushed);
      tidy = subst AreTidy (sym pushed) (tidy_more rows next.0 c.loop-rows.invariant.tidy (subst (λ (rs : List Row). follows rs next.0 ≡ true) c.as_slice.ensures.value (some (λ x. IsTrue (follows c.as_slice.result.now x.0)) c.in_ok-next.ensures.follows)) (some (λ x. length x.0.squares ≡ 64) c.in_ok-next.ensures.width));
    }
