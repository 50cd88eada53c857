use Rattle.std.proofs.Common.{List, [], ◌∷◌, ◌≡◌, slice_index_or}
use Rattle.shard_table.proofs.Eights.{held, are_same}
use Rattle.shard_table.proofs.eight.Eight.of.Goals as goal

pub returns : goal.returns
returns g c =
    let values : List _ = c.first-1.given.0 ∷ c.second-1.given.0 ∷ c.third-1.given.0 ∷ c.fourth-1.given.0 ∷ c.fifth-1.given.0 ∷ c.sixth-1.given.0 ∷ c.seventh-1.given.0 ∷ c.eighth-1.given.0 ∷ [] in
    are_same c.args.all values c.requires (held (λ k x. x ≡ slice_index_or c.args.all k x) values
    (c.first-1.given.1, (c.second-1.given.1, (c.third-1.given.1, (c.fourth-1.given.1, (c.fifth-1.given.1, (c.sixth-1.given.1, (c.seventh-1.given.1, (c.eighth-1.given.1, tt)))))))))
