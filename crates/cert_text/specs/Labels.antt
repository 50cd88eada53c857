-- What the lines of nodes begin with (this project).
use Rattle.std.specs.Prelude.{ℕ, if◌then◌else◌, nat_eq, List, take, Option, Some, None, codes}
use Rattle.std.specs.List.{prefix_len}
use lib.Pointwise.{pointwise}
use Rattle.cha_list.specs.Bytes.{in_class}
use Rattle.cha_list.specs.declared.classes.Class.TheVariants.{NotBlank}
use Rattle.mob_small.specs.declared.reasons.Reason.{Reason}
use Rattle.mob_small.specs.Reasons.{reason_word, reason_named}
use Rattle.cert_text.specs.declared.labels.Label.{Label}
use Rattle.cert_text.specs.declared.labels.Label.TheVariants.{Inner, Leaf, Men}

-- the word of a label
abbrev pub label_word : Label → List ℕ
label_word Inner = codes "inner"
label_word Leaf = codes "leaf"
label_word (Men reason) = reason_word reason

-- the label of a word, which may be that of a reason
abbrev pub label_or : List ℕ → Option Reason → Option Label
label_or word (Some reason) = Some (Men reason)
label_or word None =
    if pointwise nat_eq word (codes "inner") then Some Inner
    else (if pointwise nat_eq word (codes "leaf") then Some Leaf else None)

abbrev pub label_named : List ℕ → Option Label
label_named word = label_or word (reason_named word)

-- the label of a line: its word stands before the first blank
unfoldable pub label_of : List ℕ → Option Label
label_of line = label_named (take (prefix_len (in_class NotBlank) line) line)
