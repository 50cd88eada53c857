use Rattle.std.proofs.Common.{◌≤◌, length, IsSome, refl, sym, ap, ◌∙◌, subst}
use Rattle.cha_outside.specs.Writing.{Takes}
use Rattle.cha_outcome.specs.Outcomes.{new_result}
use Rattle.item_batches.specs.Pieces.{game_piece}
use Rattle.adjudicate.proofs.CorrectingLoop.{same_span}
use Rattle.adjudicate.proofs.correcting.write_game.Goals as goal

pub span_of-span-requires : goal.span_of-span-requires
span_of-span-requires g c = record { game = subst (λ p. IsSome p) (sym c.requires.place.1) refl }

pub text_of_game-requires-clause-place : goal.text_of_game-requires-clause-place
text_of_game-requires-clause-place g c =
    subst (λ p. (c.args.games.now.written ≤ p.start) × (p.start ≤ p.end) × (p.end ≤ length c.args.games.now.taken)) (same_span _ _ _ c.requires.place.1 c.span_of-span.ensures) c.requires.place.2

pub returns-in-Ok-clause-bytes : goal.returns-in-Ok-clause-bytes
returns-in-Ok-clause-bytes g c = λ span e. (
    let text_is = c.items.ensures ∙ c.in-Ok.ensures.text ∙ ap (λ m. game_piece c.args.changed c.args.games.now.taken c.args.games.now.written c.span_of-span.result m) c.new_result.ensures
    ∙ ap (λ p. game_piece c.args.changed c.args.games.now.taken c.args.games.now.written p (new_result c.args.outcome)) (same_span _ _ _ c.span_of-span.ensures e) in
    subst (λ x. Takes (g.K.Sink.written c.args.sink.now) (g.K.Sink.written c.put.new.sink) c.put.result x) text_is c.put.ensures.bytes)

pub returns-in-Ok-clause-written : goal.returns-in-Ok-clause-written
returns-in-Ok-clause-written g c = λ span e. (c.in-Ok.ensures.written ∙ ap (λ p. p.end) (same_span _ _ _ c.span_of-span.ensures e))
