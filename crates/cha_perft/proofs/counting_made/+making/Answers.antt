use Rattle.std.proofs.Common.{◌≡◌, ℕ, Bool, List, length, ◌+◌, ◌-◌, ◌<◌, ◌^◌, ◌∷◌, Option, Some, None, refl, sym, ap, subst, ◌∙◌, arith, rules}
use Rattle.std.specs.List.{filter, flat_map}
use Rattle.cha_board.specs.declared.men.Color.TheVariants.{White, Black}
use Rattle.cha_board.specs.declared.men.Kind.TheVariants.{Queen, Rook, Bishop, Knight, King}
use Rattle.cha_board.specs.SquareSets.{set_of, has_square, squares_in}
use Rattle.cha_board.proofs.SetLaws.{has-set_of, squares_from_first, no_first_square}
use Rattle.cha_moves.specs.Moves.{is_legal_in, moves_between, moves_from, legal, after}
use Rattle.cha_moves.proofs.Contained.{Contains-cons_there}
use Rattle.cha_moves.proofs.ByKind.{legal_from, men_of, each_man, by_kinds}
use Rattle.cha_moves.proofs.GoingLegally.{legal_by_goings, each_goes}
use Rattle.cha_moves.proofs.Quiet.{quietly}
use Rattle.cha_moves.specs.Ways.{is_promoted, is_quiet, legal_between}
use Rattle.cha_perft.specs.Counts.{lines_from, lines_with, Tells}
use Rattle.cha_perft.proofs.Sums.{one_line, lines_by_move, lines_add, man_counted, man_beyond, way_counted, way_beyond, all_counted, one_move}
use Rattle.cha_perft.proofs.Ways.{Legally, move_of, plain_way, plain_legal, promoted_way, queen_legal, rook_legal, bishop_legal, knight_legal, promoted_at, asked, four_lines}
use Rattle.cha_perft.proofs.counting_made.+making.Goals as goal

pub made_all-returns-in-White : goal.made_all-returns-in-White
made_all-returns-in-White t c =
    let q = c.args.position.now in
    let e = c.args.depth - 1 in
    let same : c.args.depth ≡ e + 1 = omega (arith, c.requires) in
    subst (λ (n : ℕ). Tells c.made_by_white.result n) (sym (lines_by_move c.args.depth e q same)) c.made_by_white.ensures

pub made_all-returns-in-Black : goal.made_all-returns-in-Black
made_all-returns-in-Black t c =
    let q = c.args.position.now in
    let e = c.args.depth - 1 in
    let same : c.args.depth ≡ e + 1 = omega (arith, c.requires) in
    subst (λ (n : ℕ). Tells c.made_by_black.result n) (sym (lines_by_move c.args.depth e q same)) c.made_by_black.ensures

pub made_kind-loop-from-init : goal.made_kind-loop-from-init
made_kind-loop-from-init t c =
    let q = c.args.position.now in
    record {
      so_far = ap (λ xs. c.args.before + lines_with c.args.depth q (legal_from q (squares_in xs))) c.men-left.ensures;
      men = λ t inside. each_man q c.args.side c.args.kind t c.men-left.result c.men-left.ensures inside;
    }

pub made_kind-loop-from-smaller : goal.made_kind-loop-from-smaller
made_kind-loop-from-smaller t c =
    let next = squares_from_first c.loop-from.left c.in-Some.from (sym c.first.ensures ∙ c.in-Some.is) in
    rw c.without-left.ensures (let n = ap length next in omega (arith, n))

pub made_kind-loop-from-preserved : goal.made_kind-loop-from-preserved
made_kind-loop-from-preserved t c =
    let q = c.args.position.now in
    let e = c.args.depth in
    let from = c.in-Some.from in
    let next = squares_from_first c.loop-from.left from (sym c.first.ensures ∙ c.in-Some.is) ∙ ap (λ xs. from ∷ squares_in xs) (sym c.without-left.ensures) in
    let here = lines_with e q (filter (is_legal_in q) (moves_from from)) in
    let told = subst (λ (x : Option ℕ). Tells x (c.loop-from.total + here)) c.in-Some-made_by.is c.made_by.ensures in
    record {
      so_far = man_counted e q from c.loop-from.total c.in-Some-made_by.sum (c.args.before + lines_with e q (legal_from q (squares_in (men_of q c.args.side c.args.kind)))) _ _ c.loop-from.invariant.so_far next told;
      men = λ t inside. c.loop-from.invariant.men t (rw next (Contains-cons_there from (squares_in c.without-left.result) t inside));
    }

pub made_kind-returns-in_default-made_by : goal.made_kind-returns-in_default-made_by
made_kind-returns-in_default-made_by t c =
    let q = c.args.position.now in
    let e = c.args.depth in
    let from = c.in-Some.from in
    let next = squares_from_first c.loop-from.left from (sym c.first.ensures ∙ c.in-Some.is) in
    let here = lines_with e q (filter (is_legal_in q) (moves_from from)) in
    let told = subst (λ (x : Option ℕ). Tells x (c.loop-from.total + here)) c.in_default-made_by.is c.made_by.ensures in
    man_beyond e q from c.loop-from.total (2 ^ 64) (c.args.before + lines_with e q (legal_from q (squares_in (men_of q c.args.side c.args.kind)))) _ _ c.loop-from.invariant.so_far next told

pub made_kind-returns : goal.made_kind-returns
made_kind-returns t c =
    let q = c.args.position.now in
    all_counted c.args.depth q c.loop-from.total (c.args.before + lines_with c.args.depth q (legal_from q (squares_in (men_of q c.args.side c.args.kind)))) moves_from _ c.loop-from.invariant.so_far (no_first_square c.loop-from.left (sym c.first.ensures ∙ c.in_default.is))

pub made_by-loop-to-init : goal.made_by-loop-to-init
made_by-loop-to-init t c =
    let q = c.args.position.now in
    let all : lines_with c.args.depth q (filter (is_legal_in q) (flat_map (moves_between c.args.from) (squares_in c.legal_ways_by-left.result))) ≡ lines_with c.args.depth q (filter (is_legal_in q) (moves_from c.args.from)) =
    ap (λ xs. lines_with c.args.depth q (filter (is_legal_in q) (flat_map (moves_between c.args.from) (squares_in xs)))) c.legal_ways_by-left.ensures ∙ ap (lines_with c.args.depth q) (legal_by_goings q c.args.from) in
    record {
      so_far = ap (λ n. c.args.before + n) all;
      ways = λ t inside. each_goes q c.args.from t c.legal_ways_by-left.result c.legal_ways_by-left.ensures inside;
    }

pub made_by-loop-to-smaller : goal.made_by-loop-to-smaller
made_by-loop-to-smaller t c =
    let next = squares_from_first c.loop-to.left c.in-Some.to (sym c.first.ensures ∙ c.in-Some.is) in
    rw c.without-left.ensures (let n = ap length next in omega (arith, n))

pub made_by-loop-to-preserved : goal.made_by-loop-to-preserved
made_by-loop-to-preserved t c =
    let q = c.args.position.now in
    let e = c.args.depth in
    let s = c.args.from in
    let to = c.in-Some.to in
    let next = squares_from_first c.loop-to.left to (sym c.first.ensures ∙ c.in-Some.is) ∙ ap (λ xs. to ∷ squares_in xs) (sym c.without-left.ensures) in
    let here = lines_with e q (legal_between q s to) in
    let told = subst (λ (x : Option ℕ). Tells x (c.loop-to.total + here)) c.in-Some-both.is (c.both.ensures c.loop-to.total here refl c.made_way-lines.ensures) in
    record {
      so_far = way_counted e q s to c.loop-to.total c.in-Some-both.sum (c.args.before + lines_with e q (filter (is_legal_in q) (moves_from s))) _ _ c.loop-to.invariant.so_far next told;
      ways = λ t inside. c.loop-to.invariant.ways t (rw next (Contains-cons_there to (squares_in c.without-left.result) t inside));
    }

pub made_by-returns-in_default-both : goal.made_by-returns-in_default-both
made_by-returns-in_default-both t c =
    let q = c.args.position.now in
    let e = c.args.depth in
    let s = c.args.from in
    let to = c.in-Some.to in
    let next = squares_from_first c.loop-to.left to (sym c.first.ensures ∙ c.in-Some.is) in
    let here = lines_with e q (legal_between q s to) in
    let told = subst (λ (x : Option ℕ). Tells x (c.loop-to.total + here)) c.in_default-both.is (c.both.ensures c.loop-to.total here refl c.made_way-lines.ensures) in
    way_beyond e q s to c.loop-to.total (2 ^ 64) (c.args.before + lines_with e q (filter (is_legal_in q) (moves_from s))) _ _ c.loop-to.invariant.so_far next told

pub made_by-returns : goal.made_by-returns
made_by-returns t c = all_counted c.args.depth c.args.position.now c.loop-to.total (c.args.before + lines_with c.args.depth c.args.position.now (filter (is_legal_in c.args.position.now) (moves_from c.args.from))) (moves_between c.args.from) _ c.loop-to.invariant.so_far (no_first_square c.loop-to.left (sym c.first.ensures ∙ c.in_default.is))

pub count_made-returns-then-depth-eq0 : goal.count_made-returns-then-depth-eq0
count_made-returns-then-depth-eq0 t c = one_line c.args.depth c.args.position.now c.if-depth-eq0.true

pub made_promoted-made_move-queen-requires : goal.made_promoted-made_move-queen-requires
made_promoted-made_move-queen-requires t c =
    let q = c.args.position.now in
    let s = c.args.from in
    let to = c.args.to in
    let from_small : s < 64 = omega arith in
    let to_small : to < 64 = omega arith in
    let g : Legally q s to c.args.man = record { valid = c.known.ensures; from = from_small; to = to_small; found = c.requires.man; legally = c.requires.way } in
    (search rules, (c.requires.side, asked q s to (Some Queen) c.args.man c.promotion.result c.requires.man c.promotion.ensures (queen_legal q s to c.args.man g c.requires.last)))

pub made_promoted-made_move-rook-requires : goal.made_promoted-made_move-rook-requires
made_promoted-made_move-rook-requires t c =
    let q = c.args.position.now in
    let s = c.args.from in
    let to = c.args.to in
    let from_small : s < 64 = omega arith in
    let to_small : to < 64 = omega arith in
    let g : Legally q s to c.args.man = record { valid = c.known.ensures; from = from_small; to = to_small; found = c.requires.man; legally = c.requires.way } in
    (search rules, (c.requires.side, asked q s to (Some Rook) c.args.man c.promotion-2.result c.requires.man c.promotion-2.ensures (rook_legal q s to c.args.man g c.requires.last)))

pub made_promoted-made_move-bishop-requires : goal.made_promoted-made_move-bishop-requires
made_promoted-made_move-bishop-requires t c =
    let q = c.args.position.now in
    let s = c.args.from in
    let to = c.args.to in
    let from_small : s < 64 = omega arith in
    let to_small : to < 64 = omega arith in
    let g : Legally q s to c.args.man = record { valid = c.known.ensures; from = from_small; to = to_small; found = c.requires.man; legally = c.requires.way } in
    (search rules, (c.requires.side, asked q s to (Some Bishop) c.args.man c.promotion-3.result c.requires.man c.promotion-3.ensures (bishop_legal q s to c.args.man g c.requires.last)))

pub made_promoted-made_move-knight-requires : goal.made_promoted-made_move-knight-requires
made_promoted-made_move-knight-requires t c =
    let q = c.args.position.now in
    let s = c.args.from in
    let to = c.args.to in
    let from_small : s < 64 = omega arith in
    let to_small : to < 64 = omega arith in
    let g : Legally q s to c.args.man = record { valid = c.known.ensures; from = from_small; to = to_small; found = c.requires.man; legally = c.requires.way } in
    (search rules, (c.requires.side, asked q s to (Some Knight) c.args.man c.promotion-4.result c.requires.man c.promotion-4.ensures (knight_legal q s to c.args.man g c.requires.last)))

pub made_promoted-returns : goal.made_promoted-returns
made_promoted-returns t c =
    let q = c.args.position.now in
    let s = c.args.from in
    let to = c.args.to in
    let from_small : s < 64 = omega arith in
    let to_small : to < 64 = omega arith in
    let g : Legally q s to c.args.man = record { valid = c.known.ensures; from = from_small; to = to_small; found = c.requires.man; legally = c.requires.way } in
    let d = c.args.depth in
    let one = c.both.ensures (lines_from d (after q c.promotion.result)) (lines_from d (after q c.promotion-2.result)) c.made_move-queen.ensures c.made_move-rook.ensures in
    let other = c.both-2.ensures (lines_from d (after q c.promotion-3.result)) (lines_from d (after q c.promotion-4.result)) c.made_move-bishop.ensures c.made_move-knight.ensures in
    let all = c.both-3.ensures (lines_from d (after q c.promotion.result) + lines_from d (after q c.promotion-2.result)) (lines_from d (after q c.promotion-3.result) + lines_from d (after q c.promotion-4.result)) one other in
    subst (λ (n : ℕ). Tells c.both-3.result n) (four_lines d q s to c.promotion.result c.promotion-2.result c.promotion-3.result c.promotion-4.result (legal_between q s to) c.promotion.ensures c.promotion-2.ensures c.promotion-3.ensures c.promotion-4.ensures (promoted_way q s to c.args.man g c.requires.last)) all

pub made_way-after_quiet-next-requires-clause-legal : goal.made_way-after_quiet-next-requires-clause-legal
made_way-after_quiet-next-requires-clause-legal t c =
    let q = c.args.position.now in
    let s = c.args.from in
    let to = c.args.to in
    let man = c.args.man in
    let to_small : to < 64 = omega arith in
    let quiet = sym (has-set_of (is_quiet q man.kind s) to to_small) ∙ ap (λ (x : List Bool). has_square x to) (sym c.requires.quiet) ∙ sym c.has.ensures ∙ c.if-has.true in
    let from_small : s < 64 = omega arith in
    let g : Legally q s to man = record { valid = c.known.ensures; from = from_small; to = to_small; found = c.requires.man; legally = c.requires.way } in
    plain_legal q s to man g (quietly q man.kind s to quiet).plain

pub made_way-after_quiet-next-requires-clause-quiet : goal.made_way-after_quiet-next-requires-clause-quiet
made_way-after_quiet-next-requires-clause-quiet t c =
    let q = c.args.position.now in
    let s = c.args.from in
    let to = c.args.to in
    let man = c.args.man in
    let to_small : to < 64 = omega arith in
    let quiet = sym (has-set_of (is_quiet q man.kind s) to to_small) ∙ ap (λ (x : List Bool). has_square x to) (sym c.requires.quiet) ∙ sym c.has.ensures ∙ c.if-has.true in
    quiet

pub made_way-after_quiet-next-requires-clause-rights : goal.made_way-after_quiet-next-requires-clause-rights
made_way-after_quiet-next-requires-clause-rights t c =
    let q = c.args.position.now in
    let s = c.args.from in
    let to = c.args.to in
    let man = c.args.man in
    let to_small : to < 64 = omega arith in
    let quiet = sym (has-set_of (is_quiet q man.kind s) to to_small) ∙ ap (λ (x : List Bool). has_square x to) (sym c.requires.quiet) ∙ sym c.has.ensures ∙ c.if-has.true in
    c.requires.rights (move_of s to None) refl (quietly q man.kind s to quiet).enters

pub made_way-returns-then-has : goal.made_way-returns-then-has
made_way-returns-then-has t c =
    let q = c.args.position.now in
    let s = c.args.from in
    let to = c.args.to in
    let man = c.args.man in
    let to_small : to < 64 = omega arith in
    let quiet = sym (has-set_of (is_quiet q man.kind s) to to_small) ∙ ap (λ (x : List Bool). has_square x to) (sym c.requires.quiet) ∙ sym c.has.ensures ∙ c.if-has.true in
    let from_small : s < 64 = omega arith in
    let g : Legally q s to man = record { valid = c.known.ensures; from = from_small; to = to_small; found = c.requires.man; legally = c.requires.way } in
    subst (λ (n : ℕ). Tells c.count_made.result n)
    (ap (lines_from c.args.depth) c.after_quiet-next.ensures ∙ one_move c.args.depth q (move_of s to None) ∙ ap (lines_with c.args.depth q) (sym (plain_way q s to man g (quietly q man.kind s to quiet).plain))) c.count_made.ensures

pub made_way-made_promoted-requires : goal.made_way-made_promoted-requires
made_way-made_promoted-requires t c =
    let q = c.args.position.now in
    let to = c.args.to in
    let man = c.args.man in
    let to_small : to < 64 = omega arith in
    let last = promoted_at q man c.promoting-last.result to to_small (c.promoting-last.ensures ∙ ap (λ x. set_of (is_promoted x man.kind)) c.requires.side) in
    (search rules, (c.requires.side, (c.requires.man, (sym last ∙ sym c.has-2.ensures ∙ c.if-has-2.true, c.requires.way))))

pub made_way-made_move-requires : goal.made_way-made_move-requires
made_way-made_move-requires t c =
    let q = c.args.position.now in
    let s = c.args.from in
    let to = c.args.to in
    let man = c.args.man in
    let from_small : s < 64 = omega arith in
    let to_small : to < 64 = omega arith in
    let g : Legally q s to man = record { valid = c.known.ensures; from = from_small; to = to_small; found = c.requires.man; legally = c.requires.way } in
    let last = promoted_at q man c.promoting-last.result to to_small (c.promoting-last.ensures ∙ ap (λ x. set_of (is_promoted x man.kind)) c.requires.side) in
    (search rules, (c.requires.side, asked q s to None man (move_of s to None) c.requires.man refl (plain_legal q s to man g (sym last ∙ sym c.has-2.ensures ∙ c.if-has-2.false))))

pub made_way-returns-else-has-2 : goal.made_way-returns-else-has-2
made_way-returns-else-has-2 t c =
    let q = c.args.position.now in
    let s = c.args.from in
    let to = c.args.to in
    let man = c.args.man in
    let from_small : s < 64 = omega arith in
    let to_small : to < 64 = omega arith in
    let g : Legally q s to man = record { valid = c.known.ensures; from = from_small; to = to_small; found = c.requires.man; legally = c.requires.way } in
    let last = promoted_at q man c.promoting-last.result to to_small (c.promoting-last.ensures ∙ ap (λ x. set_of (is_promoted x man.kind)) c.requires.side) in
    subst (λ (n : ℕ). Tells c.made_move.result n) (one_move c.args.depth q (move_of s to None) ∙ ap (lines_with c.args.depth q) (sym (plain_way q s to man g (sym last ∙ sym c.has-2.ensures ∙ c.if-has-2.false)))) c.made_move.ensures

pub made_by_white-returns-in_err-total : goal.made_by_white-returns-in_err-total
made_by_white-returns-in_err-total t c =
    let q = c.args.position.now in
    let all = by_kinds q (λ ms. lines_with c.args.depth q ms) White c.requires (lines_add c.args.depth q) in
    let most = c.in_err-total.ensures in
    subst (λ (x : Option ℕ). Tells x (lines_with c.args.depth q (legal q))) (sym c.from_residual.ensures) (omega (arith, all, most))

pub made_by_white-returns-in_err-total-2 : goal.made_by_white-returns-in_err-total-2
made_by_white-returns-in_err-total-2 t c =
    let q = c.args.position.now in
    let all = by_kinds q (λ ms. lines_with c.args.depth q ms) White c.requires (lines_add c.args.depth q) in
    let t1 = c.in_ok-total.ensures in
    let most = c.in_err-total-2.ensures in
    subst (λ (x : Option ℕ). Tells x (lines_with c.args.depth q (legal q))) (sym c.from_residual-in_err-total-2.ensures) (omega (arith, all, t1, most))

pub made_by_white-returns-in_err-total-3 : goal.made_by_white-returns-in_err-total-3
made_by_white-returns-in_err-total-3 t c =
    let q = c.args.position.now in
    let all = by_kinds q (λ ms. lines_with c.args.depth q ms) White c.requires (lines_add c.args.depth q) in
    let t1 = c.in_ok-total.ensures in
    let t2 = c.in_ok-total-2.ensures in
    let most = c.in_err-total-3.ensures in
    subst (λ (x : Option ℕ). Tells x (lines_with c.args.depth q (legal q))) (sym c.from_residual-in_err-total-3.ensures) (omega (arith, all, t1, t2, most))

pub made_by_white-returns-in_err-total-4 : goal.made_by_white-returns-in_err-total-4
made_by_white-returns-in_err-total-4 t c =
    let q = c.args.position.now in
    let all = by_kinds q (λ ms. lines_with c.args.depth q ms) White c.requires (lines_add c.args.depth q) in
    let t1 = c.in_ok-total.ensures in
    let t2 = c.in_ok-total-2.ensures in
    let t3 = c.in_ok-total-3.ensures in
    let most = c.in_err-total-4.ensures in
    subst (λ (x : Option ℕ). Tells x (lines_with c.args.depth q (legal q))) (sym c.from_residual-in_err-total-4.ensures) (omega (arith, all, t1, t2, t3, most))

pub made_by_white-returns-in_err-total-5 : goal.made_by_white-returns-in_err-total-5
made_by_white-returns-in_err-total-5 t c =
    let q = c.args.position.now in
    let all = by_kinds q (λ ms. lines_with c.args.depth q ms) White c.requires (lines_add c.args.depth q) in
    let t1 = c.in_ok-total.ensures in
    let t2 = c.in_ok-total-2.ensures in
    let t3 = c.in_ok-total-3.ensures in
    let t4 = c.in_ok-total-4.ensures in
    let most = c.in_err-total-5.ensures in
    subst (λ (x : Option ℕ). Tells x (lines_with c.args.depth q (legal q))) (sym c.from_residual-in_err-total-5.ensures) (omega (arith, all, t1, t2, t3, t4, most))

pub made_by_white-returns : goal.made_by_white-returns
made_by_white-returns t c =
    let q = c.args.position.now in
    let all = by_kinds q (λ ms. lines_with c.args.depth q ms) White c.requires (lines_add c.args.depth q) in
    let t1 = c.in_ok-total.ensures in
    let t2 = c.in_ok-total-2.ensures in
    let t3 = c.in_ok-total-3.ensures in
    let t4 = c.in_ok-total-4.ensures in
    let t5 = c.in_ok-total-5.ensures in
    let sum : c.in_ok-total-5.total + lines_with c.args.depth q (legal_from q (squares_in (men_of q White King))) ≡ lines_with c.args.depth q (legal q) = omega (arith, all, t1, t2, t3, t4, t5) in
    subst (λ (n : ℕ). Tells c.made_kind-6.result n) sum c.made_kind-6.ensures

pub made_by_black-returns-in_err-total : goal.made_by_black-returns-in_err-total
made_by_black-returns-in_err-total t c =
    let q = c.args.position.now in
    let all = by_kinds q (λ ms. lines_with c.args.depth q ms) Black c.requires (lines_add c.args.depth q) in
    let most = c.in_err-total.ensures in
    subst (λ (x : Option ℕ). Tells x (lines_with c.args.depth q (legal q))) (sym c.from_residual.ensures) (omega (arith, all, most))

pub made_by_black-returns-in_err-total-2 : goal.made_by_black-returns-in_err-total-2
made_by_black-returns-in_err-total-2 t c =
    let q = c.args.position.now in
    let all = by_kinds q (λ ms. lines_with c.args.depth q ms) Black c.requires (lines_add c.args.depth q) in
    let t1 = c.in_ok-total.ensures in
    let most = c.in_err-total-2.ensures in
    subst (λ (x : Option ℕ). Tells x (lines_with c.args.depth q (legal q))) (sym c.from_residual-in_err-total-2.ensures) (omega (arith, all, t1, most))

pub made_by_black-returns-in_err-total-3 : goal.made_by_black-returns-in_err-total-3
made_by_black-returns-in_err-total-3 t c =
    let q = c.args.position.now in
    let all = by_kinds q (λ ms. lines_with c.args.depth q ms) Black c.requires (lines_add c.args.depth q) in
    let t1 = c.in_ok-total.ensures in
    let t2 = c.in_ok-total-2.ensures in
    let most = c.in_err-total-3.ensures in
    subst (λ (x : Option ℕ). Tells x (lines_with c.args.depth q (legal q))) (sym c.from_residual-in_err-total-3.ensures) (omega (arith, all, t1, t2, most))

pub made_by_black-returns-in_err-total-4 : goal.made_by_black-returns-in_err-total-4
made_by_black-returns-in_err-total-4 t c =
    let q = c.args.position.now in
    let all = by_kinds q (λ ms. lines_with c.args.depth q ms) Black c.requires (lines_add c.args.depth q) in
    let t1 = c.in_ok-total.ensures in
    let t2 = c.in_ok-total-2.ensures in
    let t3 = c.in_ok-total-3.ensures in
    let most = c.in_err-total-4.ensures in
    subst (λ (x : Option ℕ). Tells x (lines_with c.args.depth q (legal q))) (sym c.from_residual-in_err-total-4.ensures) (omega (arith, all, t1, t2, t3, most))

pub made_by_black-returns-in_err-total-5 : goal.made_by_black-returns-in_err-total-5
made_by_black-returns-in_err-total-5 t c =
    let q = c.args.position.now in
    let all = by_kinds q (λ ms. lines_with c.args.depth q ms) Black c.requires (lines_add c.args.depth q) in
    let t1 = c.in_ok-total.ensures in
    let t2 = c.in_ok-total-2.ensures in
    let t3 = c.in_ok-total-3.ensures in
    let t4 = c.in_ok-total-4.ensures in
    let most = c.in_err-total-5.ensures in
    subst (λ (x : Option ℕ). Tells x (lines_with c.args.depth q (legal q))) (sym c.from_residual-in_err-total-5.ensures) (omega (arith, all, t1, t2, t3, t4, most))

pub made_by_black-returns : goal.made_by_black-returns
made_by_black-returns t c =
    let q = c.args.position.now in
    let all = by_kinds q (λ ms. lines_with c.args.depth q ms) Black c.requires (lines_add c.args.depth q) in
    let t1 = c.in_ok-total.ensures in
    let t2 = c.in_ok-total-2.ensures in
    let t3 = c.in_ok-total-3.ensures in
    let t4 = c.in_ok-total-4.ensures in
    let t5 = c.in_ok-total-5.ensures in
    let sum : c.in_ok-total-5.total + lines_with c.args.depth q (legal_from q (squares_in (men_of q Black King))) ≡ lines_with c.args.depth q (legal q) = omega (arith, all, t1, t2, t3, t4, t5) in
    subst (λ (n : ℕ). Tells c.made_kind-6.result n) sum c.made_kind-6.ensures
