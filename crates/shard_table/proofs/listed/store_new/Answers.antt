use Rattle.std.proofs.Common.{◌≡◌, ◌∷◌, length, sym, ap, ◌∙◌, arith, Some}
use Rattle.shard_table.proofs.Listing.{last_goes}
use Rattle.shard_table.proofs.listed.store_new.Goals as goal

pub returns-clause-reply : goal.returns-clause-reply
returns-clause-reply c =
    let few = c.requires.few in
    let full = c.if-len-entries.false in
    let ok = c.args.rows.now.ok.0 in
    let len = c.len.ensures in
    let long : length c.args.rows.now.items ≡ c.args.entries = omega (arith, few, full, ok, len) in
    let last = last_goes c.args.rows.now.items c.pop.new.self.items c.in-Some.last c.args.entries c.in-Some.ensures.items long in
    (c.requires.new, long, last.0 ∙ ap Some (sym c.key.ensures), c.put_first-2.ensures.items ∙ ap (λ rows. c.args.row ∷ rows) last.1)
