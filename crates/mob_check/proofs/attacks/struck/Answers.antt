use Rattle.std.proofs.Common.{◌≡◌, ◌<◌, ◌≤◌, ℕ, Bool, List, sym, ap, ◌∙◌, arith}
use Rattle.std.specs.List.{list_any}
use Rattle.cha_board.specs.SquareSets.{has_square, set_without, is_subset}
use Rattle.cha_board.proofs.SetLaws.{has-set_of}
use Rattle.mob_sets.specs.Rows.{kinds}
use Rattle.mob_check.proofs.Gathering.{gathers_none, gathers_joined, gathers_skipped, gathers_all}
use Rattle.mob_check.specs.Scenes.{all_in_reach}
use Rattle.mob_check.specs.MatesInReach.{strikes_as, strikes_from, struck}
use Rattle.mob_check.proofs.StruckSets.{from_man, from_none, all_struck}
use Rattle.mob_check.proofs.attacks.struck.Goals as goal
use Rattle.mob_check.proofs.attacks.struck.Goals.{then-has, else-has}

pub loop-index-init : goal.loop-index-init
loop-index-init c = gathers_none (λ (u n : ℕ). strikes_from c.args.scene.now c.args.seen c.args.king n u) c.empty-squares.result c.empty-squares.ensures

pub loop-index-preserved : goal.loop-index-preserved
loop-index-preserved c =
    let scene = c.args.scene.now in
    let seen = c.args.seen in
    let ks = c.args.king in
    let i = c.loop-index.index in
    let small : i < 64 = omega arith in
    let f : ℕ → ℕ → Bool = λ (u n : ℕ). strikes_from scene seen ks n u in
    let men : c.without-men.result ≡ set_without (all_in_reach scene.men) ks = c.without-men.ensures ∙ ap (λ (x : List Bool). set_without x ks) c.somewhere.ensures in
    let here : has_square (set_without (all_in_reach scene.men) ks) i ≡ c.has.result = ap (λ (x : List Bool). has_square x i) (sym men) ∙ ap (has_square c.without-men.result) (sym c.at-from.ensures) ∙ sym c.has.ensures in
    elim c.if-has.branch [
      | then-has w ↦ gathers_joined f c.loop-index.squares w.struck_somehow.result c.if-has.squares i c.loop-index.invariant
          (λ n inside. ap (λ (x : List Bool). has_square x n) w.struck_somehow.ensures ∙ has-set_of (λ n. list_any (strikes_as scene seen ks n c.at-from.result) kinds) n inside
          ∙ ap (λ u. list_any (strikes_as scene seen ks n u) kinds) c.at-from.ensures ∙ from_man scene seen ks n i small (here ∙ w.if-has.true))
          (w.squares-is ∙ w.joined-squares.ensures)
      | else-has w ↦ gathers_skipped f c.loop-index.squares c.if-has.squares i c.loop-index.invariant (λ n inside. from_none scene seen ks n i small (here ∙ w.if-has.false)) w.squares-is
    ]

pub returns-then-within : goal.returns-then-within
returns-then-within c =
    let below : c.loop-index.index ≤ 64 = omega arith in
    let full = ap (λ near. is_subset near c.loop-index.squares) (sym c.squares_near-near.ensures) ∙ sym c.within.ensures ∙ c.if-within.true in
    all_struck c.args.scene.now c.args.seen c.args.king c.loop-index.squares c.loop-index.index c.loop-index.invariant below full

pub returns : goal.returns
unfolding struck
returns c =
    let end : 64 ≤ c.loop-index.index = omega arith in
    let below : c.loop-index.index ≤ 64 = omega arith in
    gathers_all (λ (u n : ℕ). strikes_from c.args.scene.now c.args.seen c.args.king n u) c.loop-index.squares c.loop-index.index c.loop-index.invariant end below
