use Rattle.std.proofs.Common.{◌≡◌, refl, sym, ap, subst, ◌∙◌}
use Rattle.std.proofs.lemmas.Bool.{false_from_ne_true}
use Rattle.cha_board.specs.declared.men.Kind.TheVariants.{Pawn}
use Rattle.cha_board.specs.Men.{same_kind}
use Rattle.cha_board.specs.Board.{Board, IsValid, man_at, is_empty}
use Rattle.cha_board.proofs.Identity.{is_man_from, same_kind_equal}
use Rattle.cha_moves.specs.Step.{Move}
use Rattle.cha_moves.specs.Moves.{target_after, after}
use Rattle.cha_moves.proofs.Listed.{is_listed}
use Rattle.cha_moves.proofs.Validity.{after_is_valid}
use Rattle.cha_moves.proofs.Alone.{no_target}
use Rattle.cha_moves.proofs.Quiet.{quietly, quietly_alone}
use Rattle.cha_moves.proofs.afterwards.after_quiet.Goals as goal
use Rattle.cha_moves.proofs.afterwards.after_quiet.Goals.{in-Pawn, in_default}

pub stepped-men-requires-clause-free : goal.stepped-men-requires-clause-free
stepped-men-requires-clause-free c =
    let q = c.args.position.now in
    let m = c.args.m in
    rw c.placement.ensures.value (ap (λ (m : Move). is_empty q.men m.to) c.m.view_is ∙ (quietly q c.args.kind m.from m.to c.requires.quiet).free)

pub of_parts-requires : goal.of_parts-requires
unfolding after
of_parts-requires c =
    let q = c.args.position.now in
    let m = c.args.m in
    let k = c.args.kind in
    let found = is_listed q m c.requires.legal in
    let from = ap (λ (m : Move). m.from) c.m.view_is in
    let to = ap (λ (m : Move). m.to) c.m.view_is in
    let mover = is_man_from (man_at q.men m.from) _ q.side k c.requires.man c.requires.side refl in
    let men = quietly_alone q m k c.requires.legal mover c.requires.plain c.requires.quiet in
    let target : c.match-kind.target ≡ target_after q m = elim c.match-kind.branch [
      | in-Pawn w ↦ w.target-is ∙ w.passed_by-target.ensures q c.requires.side c.requires.legal (is_man_from (man_at q.men m.from) _ q.side Pawn c.requires.man c.requires.side w.in-Pawn.is)
      | in_default w ↦ w.target-is ∙ no_target q m k mover (false_from_ne_true (same_kind k Pawn) (λ h. w.in_default.not-Pawn (same_kind_equal k Pawn h)))
    ] in
    let whole : record { men = c.stepped-men.result; side = c.other.result; rights = c.args.rights; target = c.match-kind.target } ≡ after q m = rw (c.stepped-men.ensures, from, to, c.placement.ensures.value, c.other.ensures, c.requires.side, c.requires.rights, target, ← men) refl in
    subst (λ (b : Board). IsValid b) (sym whole) (after_is_valid q m c.known.ensures found.from found.to found.legal)

pub returns : goal.returns
unfolding after
returns c =
    let q = c.args.position.now in
    let m = c.args.m in
    let k = c.args.kind in
    let from = ap (λ (m : Move). m.from) c.m.view_is in
    let to = ap (λ (m : Move). m.to) c.m.view_is in
    let mover = is_man_from (man_at q.men m.from) _ q.side k c.requires.man c.requires.side refl in
    let men = quietly_alone q m k c.requires.legal mover c.requires.plain c.requires.quiet in
    let target : c.match-kind.target ≡ target_after q m = elim c.match-kind.branch [
      | in-Pawn w ↦ w.target-is ∙ w.passed_by-target.ensures q c.requires.side c.requires.legal (is_man_from (man_at q.men m.from) _ q.side Pawn c.requires.man c.requires.side w.in-Pawn.is)
      | in_default w ↦ w.target-is ∙ no_target q m k mover (false_from_ne_true (same_kind k Pawn) (λ h. w.in_default.not-Pawn (same_kind_equal k Pawn h)))
    ] in
    c.of_parts.ensures ∙ rw (c.stepped-men.ensures, from, to, c.placement.ensures.value, c.other.ensures, c.requires.side, c.requires.rights, target, ← men) refl
