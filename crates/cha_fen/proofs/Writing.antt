-- Ranks that are written one by one.
use Rattle.std.proofs.Common.{◌≡◌, ℕ, zero, suc, ◌+◌, ◌*◌, ◌<◌, List, [], ◌∷◌, ◌++◌, Option, take, drop, refl, sym, ◌∙◌, arith, append_assoc, append-nil}
use Rattle.cha_board.specs.declared.men.Man.{Man}
use Rattle.cha_fen.specs.Written.{row_text_after, rank_men, slash_before, ranks_text}

rank_step : (rank less : ℕ) (men : List (Option Man)) → rank ≡ suc less → ranks_text rank men ≡ row_text_after 0 (rank_men men less) ++ slash_before less (ranks_text less men)
unfolding ranks_text
rank_step rank less men e = rw e refl

pub one_more_rank : (now mid next : List ℕ) (rank less n : ℕ) (men : List (Option Man)) → less + 1 ≡ rank → 0 < less → n ≡ 8 → mid ≡ now ++ row_text_after 0 (take n (drop (8 * less) men)) → next ≡ mid ++ 47 ∷ []
    → next ++ ranks_text less men ≡ now ++ ranks_text rank men
one_more_rank now mid next rank zero n men e some f g h = absurd (omega arith)
one_more_rank now mid next rank (suc less) n men e some f g h =
    let row = row_text_after 0 (rank_men men (suc less)) in
    rw (h, g, f, rank_step rank (suc less) men (omega arith))
    (append_assoc (now ++ row) (47 ∷ []) (ranks_text (suc less) men) ∙ append_assoc now row (47 ∷ ranks_text (suc less) men))

pub last_rank : (now mid : List ℕ) (rank less n : ℕ) (men : List (Option Man)) → less + 1 ≡ rank → less ≡ 0 → n ≡ 8 → mid ≡ now ++ row_text_after 0 (take n (drop (8 * less) men))
    → mid ++ ranks_text less men ≡ now ++ ranks_text rank men
last_rank now mid rank zero n men e none f g =
    let row = row_text_after 0 (rank_men men 0) in
    rw (g, f, rank_step rank 0 men (omega arith)) (append_assoc now row (ranks_text 0 men))
last_rank now mid rank (suc less) n men e none f g = absurd (omega arith)

pub no_rank : (now all : List ℕ) (rank : ℕ) (men : List (Option Man)) → rank ≡ 0 → now ++ ranks_text rank men ≡ all → now ≡ all
unfolding ranks_text
no_rank now all rank men e h = sym (append-nil now) ∙ (rw e at h)
