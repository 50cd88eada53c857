use Rattle.std.proofs.Common.{length, arith}
use Rattle.cha_moves.proofs.LegalApart.{few_legal}
use Rattle.cha_moves.proofs.ByKind.{by_kinds, length_adds}
use Rattle.cha_moves.proofs.count.count_side.Goals as goal

pub overflow_add-pieces : goal.overflow_add-pieces
overflow_add-pieces c =
    let q = c.args.position.now in
    let all = by_kinds q (λ ms. length ms) c.args.side c.requires length_adds in
    let few = few_legal q in
    let n1 = c.count_kind.ensures in
    let n2 = c.count_kind-2.ensures in
    omega (arith, all, few, n1, n2)

pub overflow_add-pieces-2 : goal.overflow_add-pieces-2
overflow_add-pieces-2 c =
    let q = c.args.position.now in
    let all = by_kinds q (λ ms. length ms) c.args.side c.requires length_adds in
    let few = few_legal q in
    let n1 = c.count_kind.ensures in
    let n2 = c.count_kind-2.ensures in
    let n3 = c.count_kind-3.ensures in
    omega (arith, all, few, n1, n2, n3)

pub overflow_add-pieces-3 : goal.overflow_add-pieces-3
overflow_add-pieces-3 c =
    let q = c.args.position.now in
    let all = by_kinds q (λ ms. length ms) c.args.side c.requires length_adds in
    let few = few_legal q in
    let n1 = c.count_kind.ensures in
    let n2 = c.count_kind-2.ensures in
    let n3 = c.count_kind-3.ensures in
    let n4 = c.count_kind-4.ensures in
    omega (arith, all, few, n1, n2, n3, n4)

pub overflow_add-result : goal.overflow_add-result
overflow_add-result c =
    let q = c.args.position.now in
    let all = by_kinds q (λ ms. length ms) c.args.side c.requires length_adds in
    let few = few_legal q in
    let n1 = c.count_kind.ensures in
    let n2 = c.count_kind-2.ensures in
    let n3 = c.count_kind-3.ensures in
    let n4 = c.count_kind-4.ensures in
    let n5 = c.count_kind-5.ensures in
    omega (arith, all, few, n1, n2, n3, n4, n5)

pub overflow_add-result-2 : goal.overflow_add-result-2
overflow_add-result-2 c =
    let q = c.args.position.now in
    let all = by_kinds q (λ ms. length ms) c.args.side c.requires length_adds in
    let few = few_legal q in
    let n1 = c.count_kind.ensures in
    let n2 = c.count_kind-2.ensures in
    let n3 = c.count_kind-3.ensures in
    let n4 = c.count_kind-4.ensures in
    let n5 = c.count_kind-5.ensures in
    let n6 = c.count_kind-6.ensures in
    omega (arith, all, few, n1, n2, n3, n4, n5, n6)

pub returns : goal.returns
returns c =
    let q = c.args.position.now in
    let all = by_kinds q (λ ms. length ms) c.args.side c.requires length_adds in
    let n1 = c.count_kind.ensures in
    let n2 = c.count_kind-2.ensures in
    let n3 = c.count_kind-3.ensures in
    let n4 = c.count_kind-4.ensures in
    let n5 = c.count_kind-5.ensures in
    let n6 = c.count_kind-6.ensures in
    omega (arith, all, n1, n2, n3, n4, n5, n6)
