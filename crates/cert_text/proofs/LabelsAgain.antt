-- Labels are read again.
use Rattle.std.proofs.Common.{◌≡◌, ℕ, ◌==◌, nat_lt, Bool, true, false, List, [], ◌∷◌, ◌++◌, take, length, Some, refl, ap, ◌∙◌, arith}
use Rattle.std.specs.List.{list_all, prefix_len}
use Rattle.std.proofs.Math.Seq.{take-append_seam}
use Rattle.std.proofs.lemmas.Bool.{and_parts, and_from}
use Rattle.std.proofs.lemmas.Bool.Decides.{nat_tests}
use Rattle.cha_list.specs.Bytes.{in_class}
use Rattle.cha_list.specs.declared.classes.Class.TheVariants.{NotBlank}
use Rattle.cha_board.specs.Board.{Board}
use Rattle.cha_fen.specs.Written.{fen_text}
use Rattle.mob_small.specs.Reasons.{reason_word}
use Rattle.mob_small.proofs.MenAlone.{word_big as reason_big, named_again as reason_again}
use Rattle.cert_text.specs.declared.labels.Label.{Label}
use Rattle.cert_text.specs.declared.labels.Label.TheVariants.{Inner, Leaf, Men}
use Rattle.cert_text.specs.Labels.{label_word, label_or, label_named, label_of}
use Rattle.cert_text.specs.Spelled.{position_line}

-- a byte that is no blank
abbrev pub solid : ℕ → Bool
solid b = in_class NotBlank b

pub solid_over : (b : ℕ) → nat_lt 32 b ≡ true → solid b ≡ true
unfolding in_class
solid_over b big =
    let a : (b == 32) ≡ false = grind (arith, nat_tests) in
    let c : (b == 9) ≡ false = grind (arith, nat_tests) in
    rw (a, c) refl

pub run_ends : (ds rest : List ℕ) → list_all solid ds ≡ true → prefix_len solid (ds ++ 32 ∷ rest) ≡ length ds
unfolding in_class
run_ends [] rest t = refl
run_ends (d ∷ ds) rest t =
    let both = and_parts (solid d) (list_all solid ds) t in
    rw (both.0, run_ends ds rest both.1) (omega arith)

-- what holds of bytes of one class holds of those of a class within it
pub all_within : (p q : ℕ → Bool) → ((b : ℕ) → p b ≡ true → q b ≡ true) → (ds : List ℕ) → list_all p ds ≡ true → list_all q ds ≡ true
all_within p q within [] t = refl
all_within p q within (d ∷ ds) t =
    let both = and_parts (p d) (list_all p ds) t in
    and_from (q d) (list_all q ds) (within d both.0) (all_within p q within ds both.1)

-- a word has neither a blank nor the end of a line in it
pub word_big : (label : Label) → list_all (λ b. nat_lt 32 b) (label_word label) ≡ true
word_big Inner = refl
word_big Leaf = refl
word_big (Men reason) = reason_big reason

named_again : (label : Label) → label_named (label_word label) ≡ Some label
named_again Inner = refl
named_again Leaf = refl
named_again (Men reason) = ap (label_or (reason_word reason)) (reason_again reason)

pub label_again : (label : Label) (rest : List ℕ) → label_of (label_word label ++ 32 ∷ rest) ≡ Some label
unfolding label_of
label_again label rest =
    let word = label_word label in
    let run : prefix_len solid (word ++ 32 ∷ rest) ≡ length word = run_ends word rest (all_within (λ b. nat_lt 32 b) solid solid_over word (word_big label)) in
    ap (λ n. label_named (take n (word ++ 32 ∷ rest))) run ∙ ap label_named (take-append_seam word (32 ∷ rest)) ∙ named_again label

pub line_labelled : (label : Label) (q : Board) → label_of (position_line label q) ≡ Some label
unfolding position_line
line_labelled label q = label_again label (fen_text q)
