use Rattle.std.proofs.Common.{◌≡◌, ◌∙◌, ℕ, List, Bool, true, sym, ap}
use Rattle.cha_board.specs.declared.men.Kind.{Kind}
use Rattle.cha_board.specs.declared.men.Kind.TheVariants.{Pawn, Knight, Bishop, Rook, Queen, King}
use Rattle.cha_board.specs.SquareSets.{has_square}
use Rattle.mob_sets.specs.Rows.{sets_of}
use Rattle.mob_solve.specs.Reaching.{sets_in}
use Rattle.mob_solve.proofs.Entered.{within_then, for_each_kind}
use Rattle.mob_solve.proofs.entering.enter_origin.Goals as goal

pub returns-clause-grows : goal.returns-clause-grows
returns-clause-grows c =
    let g0 = c.in_ok-enter_row.ensures.grows in
    let g1 = within_then (sets_of c.args.sets.now) (sets_of c.enter_row.new.sets) (sets_of c.enter_row-2.new.sets) g0 c.in_ok-enter_row-2.ensures.grows in
    let g2 = within_then (sets_of c.args.sets.now) (sets_of c.enter_row-2.new.sets) (sets_of c.enter_row-3.new.sets) g1 c.in_ok-enter_row-3.ensures.grows in
    let g3 = within_then (sets_of c.args.sets.now) (sets_of c.enter_row-3.new.sets) (sets_of c.enter_row-4.new.sets) g2 c.in_ok-enter_row-4.ensures.grows in
    let g4 = within_then (sets_of c.args.sets.now) (sets_of c.enter_row-4.new.sets) (sets_of c.enter_row-5.new.sets) g3 c.in_ok-enter_row-5.ensures.grows in
    let g5 = within_then (sets_of c.args.sets.now) (sets_of c.enter_row-5.new.sets) (sets_of c.enter_row-6.new.sets) g4 c.in_ok-enter_row-6.ensures.grows in
    g5

pub returns-clause-inside : goal.returns-clause-inside
returns-clause-inside c = λ within.
    let all = sets_in c.args.reach.now in
    let o = c.args.origin in
    let w0 = c.in_ok-enter_row.ensures.inside all (λ (u : ℕ) (h : has_square c.row.result u ≡ true). sym (ap (λ (x : List Bool). has_square x u) c.row.ensures) ∙ h) within in
    let w1 = c.in_ok-enter_row-2.ensures.inside all (λ (u : ℕ) (h : has_square c.row-2.result u ≡ true). sym (ap (λ (x : List Bool). has_square x u) c.row-2.ensures) ∙ h) w0 in
    let w2 = c.in_ok-enter_row-3.ensures.inside all (λ (u : ℕ) (h : has_square c.row-3.result u ≡ true). sym (ap (λ (x : List Bool). has_square x u) c.row-3.ensures) ∙ h) w1 in
    let w3 = c.in_ok-enter_row-4.ensures.inside all (λ (u : ℕ) (h : has_square c.row-4.result u ≡ true). sym (ap (λ (x : List Bool). has_square x u) c.row-4.ensures) ∙ h) w2 in
    let w4 = c.in_ok-enter_row-5.ensures.inside all (λ (u : ℕ) (h : has_square c.row-5.result u ≡ true). sym (ap (λ (x : List Bool). has_square x u) c.row-5.ensures) ∙ h) w3 in
    let w5 = c.in_ok-enter_row-6.ensures.inside all (λ (u : ℕ) (h : has_square c.row-6.result u ≡ true). sym (ap (λ (x : List Bool). has_square x u) c.row-6.ensures) ∙ h) w4 in
    w5

pub returns-clause-all : goal.returns-clause-all
returns-clause-all c = λ k u h.
    let all = sets_in c.args.reach.now in
    let o = c.args.origin in
    let last = sets_of c.enter_row-6.new.sets in
    let m5 = c.in_ok-enter_row-6.ensures.grows in
    let m4 = within_then (sets_of c.enter_row-4.new.sets) (sets_of c.enter_row-5.new.sets) last c.in_ok-enter_row-5.ensures.grows m5 in
    let m3 = within_then (sets_of c.enter_row-3.new.sets) (sets_of c.enter_row-4.new.sets) last c.in_ok-enter_row-4.ensures.grows m4 in
    let m2 = within_then (sets_of c.enter_row-2.new.sets) (sets_of c.enter_row-3.new.sets) last c.in_ok-enter_row-3.ensures.grows m3 in
    let m1 = within_then (sets_of c.enter_row.new.sets) (sets_of c.enter_row-2.new.sets) last c.in_ok-enter_row-2.ensures.grows m2 in
    let P : Kind → Type 0 = λ (j : Kind). all.has o j u ≡ true → last.has o j u ≡ true in
    for_each_kind P
    (λ (g : all.has o Pawn u ≡ true). m1.has o Pawn u (c.in_ok-enter_row.ensures.all u (ap (λ (x : List Bool). has_square x u) c.row.ensures ∙ g)))
    (λ (g : all.has o Knight u ≡ true). m2.has o Knight u (c.in_ok-enter_row-2.ensures.all u (ap (λ (x : List Bool). has_square x u) c.row-2.ensures ∙ g)))
    (λ (g : all.has o Bishop u ≡ true). m3.has o Bishop u (c.in_ok-enter_row-3.ensures.all u (ap (λ (x : List Bool). has_square x u) c.row-3.ensures ∙ g)))
    (λ (g : all.has o Rook u ≡ true). m4.has o Rook u (c.in_ok-enter_row-4.ensures.all u (ap (λ (x : List Bool). has_square x u) c.row-4.ensures ∙ g)))
    (λ (g : all.has o Queen u ≡ true). m5.has o Queen u (c.in_ok-enter_row-5.ensures.all u (ap (λ (x : List Bool). has_square x u) c.row-5.ensures ∙ g)))
    (λ (g : all.has o King u ≡ true). c.in_ok-enter_row-6.ensures.all u (ap (λ (x : List Bool). has_square x u) c.row-6.ensures ∙ g))
    k h
