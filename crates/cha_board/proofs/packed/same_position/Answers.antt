use Rattle.std.proofs.Common.{◌∙◌, sym, ap}
use Rattle.std.proofs.lemmas.Bool.Decides.{Decides-eqb}
use Rattle.std.proofs.lemmas.Slice.Eq.{slice_eq-Decides}
use Rattle.cha_board.specs.Packing.{words_of}
use Rattle.cha_board.proofs.PackedWords.{words_tell}
use Rattle.cha_board.proofs.packed.same_position.Goals as goal

pub returns : goal.returns
returns c =
    let equal = slice_eq-Decides Decides-eqb _ _ _ c.eq.ensures in
    let tell = words_tell c.args.a.now c.args.b.now c.known.ensures c.known-2.ensures in
    (λ same. tell (sym c.pack.ensures ∙ equal.0 same ∙ c.pack-2.ensures), λ one. equal.1 (c.pack.ensures ∙ ap words_of one ∙ sym c.pack-2.ensures))
