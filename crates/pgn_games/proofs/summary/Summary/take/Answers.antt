use Rattle.std.proofs.Common.{ℕ, List, if◌then◌else◌, is_some, min, length, ◌||◌, ◌++◌, ◌∷◌, [], ap, ◌∙◌, arith}
use Rattle.std.specs.Option.{option_or}
use Rattle.pgn_games.proofs.Summed.{summed, spanned, values_next, few_words, shallow}
use Rattle.pgn_games.proofs.Sound.{sound_next}
use Rattle.pgn_games.proofs.summary.Summary.take.Goals as goal

pub deeper-depth-requires : goal.deeper-depth-requires
deeper-depth-requires c = omega (arith, shallow c.self.inside.told _ c.self.invariant.0.depth_is, ap length c.self.view_is, c.requires)

pub keep_texts-requires : goal.keep_texts-requires
keep_texts-requires c = few_words c.self.inside.told _ c.self.invariant.0.words_is

pub invariant_of-self-2 : goal.invariant_of-self-2
invariant_of-self-2 c =
    let told = c.push.ensures ∙ ap (λ t. c.self.inside.told ++ t ∷ []) c.of-told.ensures in
    let kept = c.in_ok-keep_texts.ensures in
    let whole =
    summed c.self.inside.told _ c.args.placed _ _ _ _ _ _ _ _ _ _ _ _ _ c.self.invariant.0 told c.deeper-depth.ensures.value
    (c.or-bad.ensures ∙ ap (λ o. option_or c.self.inside.bad o) c.bad_outside.ensures) (ap (λ b. c.self.inside.unclosed || b) c.unclosed.ensures) (ap (λ b. c.self.inside.cut || b) c.was_cut.ensures)
    (c.or-recorded.ensures ∙ ap (λ o. option_or c.self.inside.recorded o) c.mark_outside.ensures) kept.words in (
      whole,
      values_next c.self.inside.told _ c.args.placed _ _ _ _ _ _ c.self.invariant.1 told kept.variant kept.fen kept.termination,
      spanned c.self.inside.told _ c.args.placed _ _ _ c.self.invariant.0.empty_is c.self.invariant.2 told c.longer-span.ensures,
      sound_next c.self.inside.told _ c.args.placed _ _ _ _ whole.bad_is whole.words_is c.self.invariant.3 told
          (c.sound_after-self-inside.ensures ∙ ap (λ (ws : List (List ℕ)). if is_some c.or-bad.result then c.self.inside.sound else min 12000 (length ws)) c.items.ensures),
    )
