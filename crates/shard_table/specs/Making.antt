-- No entries, and the entries of two times, made with a pass of a table.
use Rattle.std.specs.Prelude.{◌≡◌, ℕ, List, [], ◌++◌, map, filter, nat_eq}
use Rattle.std.proofs.Common.{refl, sym, ap, ◌∙◌}
use Rattle.std.proofs.lemmas.List.{append-nil, append_assoc, map-append}
use Rattle.std.proofs.lemmas.List.Elements.{filter-append}
use Rattle.turn_cell.specs.Histories.{entry}
use Rattle.cha_fact.specs.Entries.{Entry}
use Rattle.shard_table.specs.Makes.{call_key, entered_at, MakesAt, Makes}
use Rattle.shard_table.specs.Tables.{ShardPass, pass_at, shard_number}
use Rattle.shard_table.specs.declared.table.TablePass.{TablePass}

pub makes_none : (pass : TablePass) → Makes pass [] pass
unfolding Makes
makes_none pass k = record {
  mine = sym (append-nil (pass_at pass k).mine);
  known_before = ([], sym (append-nil (pass_at pass k).seen));
  same = (refl, refl, refl);
}

entered_both : (k number : ℕ) (xs ys : List Entry) → entered_at k number (xs ++ ys) ≡ entered_at k number xs ++ entered_at k number ys
entered_both k number xs ys =
    ap (map (λ e. entry number e.call e.reply)) (filter-append (λ e. nat_eq (shard_number (call_key e.call)) k) xs ys)
    ∙ map-append (λ e. entry number e.call e.reply) (filter (λ e. nat_eq (shard_number (call_key e.call)) k) xs) (filter (λ e. nat_eq (shard_number (call_key e.call)) k) ys)

both_at : (k : ℕ) (a b c : ShardPass) (xs ys : List Entry) → MakesAt k a xs b → MakesAt k b ys c → MakesAt k a (xs ++ ys) c
both_at k a b c xs ys one two = record {
  mine =
      two.mine ∙ ap (λ before. before ++ entered_at k b.number ys) one.mine ∙ ap (λ n. (a.mine ++ entered_at k a.number xs) ++ entered_at k n ys) one.same.0
      ∙ append_assoc a.mine (entered_at k a.number xs) (entered_at k a.number ys) ∙ ap (λ more. a.mine ++ more) (sym (entered_both k a.number xs ys));
  known_before =
      (one.known_before.0 ++ two.known_before.0, two.known_before.1 ∙ ap (λ before. before ++ two.known_before.0) one.known_before.1 ∙ append_assoc a.seen one.known_before.0 two.known_before.0);
  same = (two.same.0 ∙ one.same.0, two.same.1 ∙ one.same.1, two.same.2 ∙ one.same.2);
}

pub makes_both : (a b c : TablePass) (xs ys : List Entry) → Makes a xs b → Makes b ys c → Makes a (xs ++ ys) c
unfolding Makes
makes_both a b c xs ys one two k = both_at k (pass_at a k) (pass_at b k) (pass_at c k) xs ys (one k) (two k)
