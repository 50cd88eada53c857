use Rattle.std.proofs.Common.{◌≡◌, ◌<◌, List, Bool, [], get_or, length, sym, ap, ◌∙◌, arith}
use Rattle.std.proofs.lemmas.Bool.{true≢false}
use Rattle.cha_board.specs.SquareSets.{has_square, is_subset, set_joined}
use Rattle.cha_board.proofs.Contents.{subset_at}
use Rattle.mob_solve.proofs.Reaches.{joined_within, joined_total}
use Rattle.mob_solve.proofs.reach.Reach.join.Goals as goal
use Rattle.mob_solve.proofs.reach.Reach.join.Goals.{After-index-self-place}

pub returns-then-within-clause-there : goal.returns-then-within-clause-there
returns-then-within-clause-there c = λ still u small h.
    ap (λ (r : List Bool). has_square r u) (sym c.row-row.ensures) ∙ subset_at c.args.squares c.row-row.result (sym c.within.ensures ∙ c.if-within.true) u small h

before : (c : After-index-self-place) → c.row-row.result ≡ get_or c.args.self.now.rows c.place.result []
before c = c.row-row.ensures ∙ ap (λ n. get_or c.args.self.now.rows n []) (sym c.place.ensures.value)

pub returns-clause-change : goal.returns-clause-change
returns-clause-change c =
    let inside : c.place.result < length c.args.self.now.rows = omega arith in
    record {
      still = λ e. absurd (true≢false e);
      more = λ e. joined_total c.args.self.now.rows c.args.self.now.loose c.args.squares c.joined.result c.place.result inside c.place.ensures.bound
          (c.joined.ensures ∙ ap (λ r. set_joined r c.args.squares) (before c))
          (ap (λ r. is_subset c.args.squares r) (sym (before c)) ∙ sym c.within.ensures ∙ c.if-within.false);
    }

pub returns-clause-inside : goal.returns-clause-inside
returns-clause-inside c = λ r given within.
    let inside : c.place.result < length c.args.self.now.rows = omega arith in
    joined_within c.args.self.now.rows c.args.self.now.loose c.args.origin c.args.kind c.args.squares c.joined.result c.place.result r c.place.ensures.value inside
    (c.joined.ensures ∙ ap (λ x. set_joined x c.args.squares) (before c)) given within
