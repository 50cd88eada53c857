use Rattle.std.proofs.Common.{◌≡◌, refl, ℕ, ◌≤◌, List, [], ◌∷◌, length, true, sym, ◌∙◌, ap, arith}
use Rattle.cha_board.specs.declared.men.Color.TheVariants.{White, Black}
use Rattle.cha_board.specs.Men.{other_color}
use Rattle.cha_board.specs.Board.{Board}
use Rattle.cha_moves.specs.Step.{Move}
use Rattle.cha_moves.specs.Moves.{after}
use Rattle.cha_moves.specs.Ends.{IsMated, IsMatingLine}
use Rattle.finding_tests.proofs.tables.no_mate.Goals as goal

side_after : (q : Board) (m : Move) → (after q m).side ≡ other_color q.side
unfolding after
side_after q m = refl

none_yet : (q : Board) (depth : ℕ) → depth ≤ 1 → q.side ≡ Black → (IsMated q Black → ⊥) → (ms : List Move) → length ms ≤ depth → IsMatingLine q White ms → ⊥
none_yet q depth few black free [] short line = free line
none_yet q depth few black free (m ∷ []) short line =
    let turn : other_color Black ≡ Black = sym (side_after q m ∙ ap other_color black) ∙ line.1.to_move in cc
none_yet q depth few black free (m ∷ n ∷ ms) short line = absurd (omega (arith, short, few))

pub none-requires : goal.none-requires
none-requires c = none_yet c.args.position.now c.args.depth c.requires (sym c.side.ensures ∙ c.in-Black.is) (λ mated. let yes : c.is_mate.result ≡ true = c.is_mate.ensures.mated.1 mated in let no = c.if-is_mate.false in cc)
