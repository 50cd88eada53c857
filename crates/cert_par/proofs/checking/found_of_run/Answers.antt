-- Each node is checked on its own, and the answers stand in order.
use Rattle.std.proofs.Common.{ℕ, ◌<◌, ◌^◌, ◌∙◌, Bool, List, Result, length, subst, sym, arith}
use Rattle.std.specs.List.{AllZip}
use Rattle.rayon.specs.Numbers.{nat_range}
use Rattle.rayon.proofs.ToStd.{nat_range-All}
use Rattle.cha_list.specs.declared.memory.NoMemory.{NoMemory}
use Rattle.cha_cert.specs.Shared.{expansion}
use Rattle.cha_cert.specs.Indexed.{IsIndexOf}
use Rattle.cert_par.specs.Failing.{TellsFirst}
use Rattle.cert_par.proofs.checking.found_of_run.Goals as goal

pub collect-requires-clause-ready : goal.collect-requires-clause-ready
collect-requires-clause-ready g c κs within =
    let ends = c.into_par_iter.ensures in
    let nodes = c.args.cert.now.nodes in
    let most = c.requires.inside in
    let few = c.requires.few in
    let inside = nat_range-All (λ (i : ℕ). (i < length nodes) × (length nodes < 2 ^ 32) × IsIndexOf (expansion c.args.cert.now) c.args.index.now) c.args.from c.args.to
    (λ i low high. (omega (arith, most, high), few, c.requires.index)) in
    rw (c.map.ensures.base, c.map.ensures.f, ends.0, ends.1) (λ k d lt. (inside k d lt, λ y p. tt))

pub returns : goal.returns
returns g c =
    let ends = c.into_par_iter.ensures in
    let h = c.in_ok-found.ensures in
    let F = TellsFirst c.args.winner (expansion c.args.cert.now) in
    let chain = rw (c.map.ensures.base, c.map.ensures.f) at h.1 in
    let places = chain.1 ∙ (λ i. nat_range (ends.0 i) (ends.1 i)) in
    subst (λ (xs : List ℕ). AllZip F xs c.in_ok-found.found.items) places
    (subst (λ (ys : List (Result Bool NoMemory)). AllZip F chain.0 ys) (sym h.2) chain.2)
