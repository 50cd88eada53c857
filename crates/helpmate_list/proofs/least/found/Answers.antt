use Rattle.std.proofs.Common.{◌≡◌, length, nat_lt, take, ap, rules}
use Rattle.helpmate_list.proofs.Deepening.{found_is}
use Rattle.helpmate_list.proofs.least.found.Goals as goal

pub returns : goal.returns
returns c = λ all later is.
    found_is c.args.plies c.args.kept c.from_vec.result all (nat_lt 200 (length c.items.result.now)) later c.requires (let e : c.from_vec.result ≡ take 200 c.args.kept = search rules in e) (ap (λ l. nat_lt 200 (length l)) c.items.ensures) is
