-- Bytes gathered from a source, behind those that were there.
use Rattle.std.proofs.Common.{◌≡◌, ℕ, ◌≤◌, List, [], ◌++◌, length, None, Some, sym, ap, ◌∙◌, append-nil, append_assoc, length-append, arith}
use Rattle.std.specs.declared.option.Option.{Option}
use Rattle.std.specs.Io.KnownBytes.{Keeps, Consumes, IsAtEnd}
use Rattle.std.proofs.KnownBytes.{Consumes-nil, Consumes-trans, Consumes-kept}
use Rattle.cha_outside.specs.Gathering.{Gathers}

pub gathers_nothing : (a : Option (List ℕ)) (bs : List ℕ) → Gathers a a bs bs
gathers_nothing a bs = ([], Consumes-nil a, sym (append-nil bs))

pub gathers_more : (a b c : Option (List ℕ)) (bs cs ds xs : List ℕ) → Gathers a b bs cs → Consumes b c xs → ds ≡ cs ++ xs → Gathers a c bs ds
gathers_more a b c bs cs ds xs first second e =
    (first.0 ++ xs, Consumes-trans a b c first.0 xs first.1 second, e ∙ ap (λ y. y ++ xs) first.2 ∙ append_assoc bs first.0 xs)

pub gathers_and_keeps : (a b c : Option (List ℕ)) (bs cs : List ℕ) → Gathers a b bs cs → Keeps b c → Gathers a c bs cs
gathers_and_keeps a b c bs cs first second = (first.0, Consumes-kept a b c first.0 first.1 second, first.2)

-- of a source that is at its end, what is there is all that it had
pub gathered_whole : (a b : Option (List ℕ)) (now bytes : List ℕ) → Consumes a b now → IsAtEnd b → a ≡ Some bytes → now ≡ bytes
gathered_whole None b now bytes c end e = cc
gathered_whole (Some xs) None now bytes c end e = absurd c
gathered_whole (Some xs) (Some ys) now bytes c end e =
    let same : xs ≡ bytes = cc in
    sym (append-nil now) ∙ ap (λ l. now ++ l) (sym end) ∙ sym c ∙ same

-- what is there is no longer than what the source had
pub gathered_front : (a b : Option (List ℕ)) (now bytes : List ℕ) → Consumes a b now → a ≡ Some bytes → length now ≤ length bytes
gathered_front None b now bytes c e = cc
gathered_front (Some xs) None now bytes c e = absurd c
gathered_front (Some xs) (Some ys) now bytes c e =
    let same : xs ≡ bytes = cc in
    omega (arith, length-append now ys, ap length c, ap length same)
