use Rattle.std.proofs.Common.{◌+◌, drop, ap, ◌∙◌}
use Rattle.std.specs.List.{prefix_len}
use Rattle.cha_list.specs.declared.classes.Class.TheVariants.{NotLineFeed}
use Rattle.cha_list.specs.Bytes.{in_class}
use Rattle.text_lines.proofs.Runs.{found_at}
use Rattle.text_lines.proofs.pieces.OpenText.find_end.Goals as goal

pub returns-then-end-len-clause-scanned : goal.returns-then-end-len-clause-scanned
returns-then-end-len-clause-scanned c =
    ap (λ n. c.args.self.now.scanned + n) (c.run_of.ensures.value ∙ ap (prefix_len (in_class NotLineFeed)) (c.split_at.ensures.back ∙ ap (drop c.args.self.now.scanned) c.as_slice.ensures.value))
    ∙ found_at (in_class NotLineFeed) c.args.self.now.piece.items c.args.self.now.used c.args.self.now.scanned c.requires.inside.0 c.requires.no_feed

pub returns-clause-scanned : goal.returns-clause-scanned
returns-clause-scanned c =
    ap (λ n. c.args.self.now.scanned + n) (c.run_of.ensures.value ∙ ap (prefix_len (in_class NotLineFeed)) (c.split_at.ensures.back ∙ ap (drop c.args.self.now.scanned) c.as_slice.ensures.value))
    ∙ found_at (in_class NotLineFeed) c.args.self.now.piece.items c.args.self.now.used c.args.self.now.scanned c.requires.inside.0 c.requires.no_feed
