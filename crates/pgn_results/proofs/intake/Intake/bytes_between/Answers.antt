use Rattle.std.proofs.Common.{◌-◌, ◌++◌, List, ℕ, slice_range, sym, ap, ◌∙◌, append-nil}
use Rattle.pgn_results.specs.Correcting.{between}
use Rattle.pgn_results.proofs.KeptBytes.{kept_between}
use Rattle.pgn_results.proofs.intake.Intake.bytes_between.Goals as goal

pub returns : goal.returns
returns c =
    let i = c.args.self.now in
    let taken = i.games.taken in
    let all = ap (λ (xs : List ℕ). taken ++ xs) c.requires.whole ∙ append-nil taken in
    ap (λ (xs : List ℕ). slice_range xs (c.args.start - i.start) (c.args.end - i.start)) c.items.ensures
    ∙ kept_between i.kept taken i.start c.args.start c.args.end c.requires.bytes c.requires.order.0 c.requires.order.1
    ∙ ap (between c.args.start c.args.end) (sym all)
