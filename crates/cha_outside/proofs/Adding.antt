-- Bytes added to a sink, one write after another.
use Rattle.std.proofs.Common.{ℕ, ◌+◌, ◌-◌, List, length, take, drop, sym, subst}
use Rattle.std.proofs.lemmas.List.{take_rest}
use Rattle.std.proofs.Math.Seq.{take-add}
use Rattle.std.specs.declared.option.Option.{Option}
use Rattle.std.specs.Io.KnownBytes.{Appends}
use Rattle.std.proofs.KnownBytes.{Appends-trans}

-- the next part of a piece was added, out of what follows the first part
pub appends_next : (a b c : Option (List ℕ)) (piece : List ℕ) (i n : ℕ) → Appends a b (take i piece)
    → Appends b c (take n (take (length piece - i) (drop i piece))) → Appends a c (take (i + n) piece)
appends_next a b c piece i n first second =
    let rest : Appends b c (take n (drop i piece)) = subst (λ xs. Appends b c (take n xs)) (take_rest piece i) second in
    subst (λ xs. Appends a c xs) (sym (take-add i n piece)) (Appends-trans a b c (take i piece) (take n (drop i piece)) first rest)
