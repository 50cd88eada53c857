use Rattle.std.proofs.Common.{◌≡◌, ◌∙◌, sym, refl, [], ◌∷◌}
use Rattle.turn_cell.specs.Passes.{start, IsOf}
use Rattle.shard_table.specs.Shards.{empty}
use Rattle.shard_table.specs.Tables.{IsOfTable, IsFirstPass, IsFirstWith, pass_or}
use Rattle.shard_table.proofs.Eights.{held, held_two, below}
use Rattle.shard_table.proofs.Knowing.{knows_well}
use Rattle.shard_table.proofs.table.Table.new.Goals as goal

pub invariant_of-table : goal.invariant_of-table
invariant_of-table c = record {
  eight = refl;
  starts = held (λ k cell. start cell ≡ empty c.args.entries) (c.in_ok-c0.c0 ∷ c.in_ok-c1.c1 ∷ c.in_ok-c2.c2 ∷ c.in_ok-c3.c3 ∷ c.in_ok-c4.c4 ∷ c.in_ok-c5.c5 ∷ c.in_ok-c6.c6 ∷ c.in_ok-c7.c7 ∷ [])
      (c.in_ok-c0.ensures.start, (c.in_ok-c1.ensures.start, (c.in_ok-c2.ensures.start, (c.in_ok-c3.ensures.start, (c.in_ok-c4.ensures.start, (c.in_ok-c5.ensures.start, (c.in_ok-c6.ensures.start, (c.in_ok-c7.ensures.start, tt))))))));
}

pub returns-clause-of : goal.returns-clause-of
unfolding IsOfTable
returns-clause-of c =
    held_two (λ cell pass. IsOf cell pass) (c.in_ok-c0.c0 ∷ c.in_ok-c1.c1 ∷ c.in_ok-c2.c2 ∷ c.in_ok-c3.c3 ∷ c.in_ok-c4.c4 ∷ c.in_ok-c5.c5 ∷ c.in_ok-c6.c6 ∷ c.in_ok-c7.c7 ∷ []) (c.in_ok-c0.p0 ∷ c.in_ok-c1.p1 ∷ c.in_ok-c2.p2 ∷ c.in_ok-c3.p3 ∷ c.in_ok-c4.p4 ∷ c.in_ok-c5.p5 ∷ c.in_ok-c6.p6 ∷ c.in_ok-c7.p7 ∷ [])
    (c.in_ok-c0.ensures.first.0, (c.in_ok-c1.ensures.first.0, (c.in_ok-c2.ensures.first.0, (c.in_ok-c3.ensures.first.0, (c.in_ok-c4.ensures.first.0, (c.in_ok-c5.ensures.first.0, (c.in_ok-c6.ensures.first.0, (c.in_ok-c7.ensures.first.0, tt))))))))

pub returns-clause-first : goal.returns-clause-first
unfolding IsFirstPass
returns-clause-first c =
    let splits = c.in_ok-c0.ensures.counts.0 in
    let joins = c.in_ok-c0.ensures.counts.1 in
    below (λ k. IsFirstWith _ _ (pass_or (c.in_ok-c0.p0 ∷ c.in_ok-c1.p1 ∷ c.in_ok-c2.p2 ∷ c.in_ok-c3.p3 ∷ c.in_ok-c4.p4 ∷ c.in_ok-c5.p5 ∷ c.in_ok-c6.p6 ∷ c.in_ok-c7.p7 ∷ []) k)) 8
    ((c.in_ok-c0.ensures.first.1, c.in_ok-c0.ensures.counts.0 ∙ sym splits, c.in_ok-c0.ensures.counts.1 ∙ sym joins), ((c.in_ok-c1.ensures.first.1, c.in_ok-c1.ensures.counts.0 ∙ sym splits, c.in_ok-c1.ensures.counts.1 ∙ sym joins), ((c.in_ok-c2.ensures.first.1, c.in_ok-c2.ensures.counts.0 ∙ sym splits, c.in_ok-c2.ensures.counts.1 ∙ sym joins), ((c.in_ok-c3.ensures.first.1, c.in_ok-c3.ensures.counts.0 ∙ sym splits, c.in_ok-c3.ensures.counts.1 ∙ sym joins), ((c.in_ok-c4.ensures.first.1, c.in_ok-c4.ensures.counts.0 ∙ sym splits, c.in_ok-c4.ensures.counts.1 ∙ sym joins), ((c.in_ok-c5.ensures.first.1, c.in_ok-c5.ensures.counts.0 ∙ sym splits, c.in_ok-c5.ensures.counts.1 ∙ sym joins), ((c.in_ok-c6.ensures.first.1, c.in_ok-c6.ensures.counts.0 ∙ sym splits, c.in_ok-c6.ensures.counts.1 ∙ sym joins), ((c.in_ok-c7.ensures.first.1, c.in_ok-c7.ensures.counts.0 ∙ sym splits, c.in_ok-c7.ensures.counts.1 ∙ sym joins), tt))))))))

pub returns-clause-knows : goal.returns-clause-knows
unfolding IsOfTable
returns-clause-knows c =
    knows_well _ _
    (held_two (λ cell pass. IsOf cell pass) (c.in_ok-c0.c0 ∷ c.in_ok-c1.c1 ∷ c.in_ok-c2.c2 ∷ c.in_ok-c3.c3 ∷ c.in_ok-c4.c4 ∷ c.in_ok-c5.c5 ∷ c.in_ok-c6.c6 ∷ c.in_ok-c7.c7 ∷ []) (c.in_ok-c0.p0 ∷ c.in_ok-c1.p1 ∷ c.in_ok-c2.p2 ∷ c.in_ok-c3.p3 ∷ c.in_ok-c4.p4 ∷ c.in_ok-c5.p5 ∷ c.in_ok-c6.p6 ∷ c.in_ok-c7.p7 ∷ [])
    (c.in_ok-c0.ensures.first.0, (c.in_ok-c1.ensures.first.0, (c.in_ok-c2.ensures.first.0, (c.in_ok-c3.ensures.first.0, (c.in_ok-c4.ensures.first.0, (c.in_ok-c5.ensures.first.0, (c.in_ok-c6.ensures.first.0, (c.in_ok-c7.ensures.first.0, tt)))))))))
