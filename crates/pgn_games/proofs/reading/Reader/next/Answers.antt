use Rattle.std.proofs.Common.{rules, ◌≡◌, ◌∙◌, arith, ℕ, List, Option, Ok, ap, refl}
use Rattle.cha_outside.proofs.Gathered.{gathers_nothing}
use Rattle.pgn_games.specs.Keeping.{taken_by}
use Rattle.pgn_games.specs.Reading.{Takes}
use Rattle.pgn_games.proofs.KeptTokens.{waits_on}
use Rattle.pgn_games.proofs.Settled.{game_settled}
use Rattle.pgn_games.proofs.reading.Reader.next.Goals as goal
use Rattle.pgn_games.proofs.reading.Reader.next.Goals.{then-not-self+in-Ok-Ended, else-not-self}

pub returns-in-Ok-Whole-clause-no_more : goal.returns-in-Ok-Whole-clause-no_more
returns-in-Ok-Whole-clause-no_more g c = waits_on _ _ _ _ c.advance.ensures.waits c.give.ensures.taken (omega (arith, c.advance.ensures.given, ap (λ r. r.given) c.self.view_is))

pub returns-in-Err-clause-no_more : goal.returns-in-Err-clause-no_more
returns-in-Err-clause-no_more g c = waits_on _ _ _ _ c.advance.ensures.waits refl (omega (arith, c.advance.ensures.given, ap (λ r. r.given) c.self.view_is))

pub returns-in-Ok-Whole-clause-before_end : goal.returns-in-Ok-Whole-clause-before_end
returns-in-Ok-Whole-clause-before_end g c = λ _.
    let held = c.advance.ensures.whole (c.in-Ok-Whole.is ∙ ap Ok c.in-Ok-Whole.field-0-is) in
    let there = game_settled c.advance.new.self.lexer.fed _ (taken_by c.give.new.self) c.advance.new.self.game c.advance.new.self.behind.items _ held.0.told held.1 c.give.ensures.taken in
    omega (arith, there, c.advance.ensures.given, ap (λ r. r.given) c.self.view_is)

still_taken : (a b : Option (List ℕ)) (xs ys : List ℕ) → b ≡ a → ys ≡ xs → Takes a b xs ys
still_taken a b xs ys e f = rw (e, f) (gathers_nothing a xs)

pub returns-in-Ok-clause-bytes : goal.returns-in-Ok-clause-bytes
returns-in-Ok-clause-bytes g c = elim c.if-not-self.branch [
  | then-not-self+in-Ok-Ended w ↦ search rules
  | else-not-self w ↦
      (let source : g.S.Source.left c.if-not-self.source ≡ g.S.Source.left c.args.source.now = search rules in
      let taken : taken_by c.give_last.new.self ≡ c.args.self.now.taken = search rules in
      still_taken _ _ _ _ source taken)
]
