-- What is counted over outcomes (this project).
use Rattle.std.specs.Prelude.{ℕ, ◌+◌, ◌^◌, ◌<◌, Bool, if◌then◌else◌, List, length, count_by}
use Rattle.cha_outcome.specs.declared.outcomes.Outcome.{Outcome}
use Rattle.cha_outcome.specs.declared.totals.Totals.{Totals}
use Rattle.cha_outcome.specs.Outcomes.{is_refused, is_dead_position, is_changed_game, is_open, has_mates}

-- how many outcomes there are, and how many of each kind
abbrev pub totals_of : List Outcome → Totals
totals_of os = record {
  items = length os;
  refused = count_by is_refused os;
  changed = count_by is_changed_game os;
  dead = count_by is_dead_position os;
  undecided = count_by is_open os;
  found = count_by has_mates os;
}

abbrev pub one_if : Bool → ℕ
one_if b = if b then 1 else 0

-- one more outcome is counted
abbrev pub counted : Totals → Outcome → Totals
counted s o = record {
  items = s.items + 1;
  refused = s.refused + one_if (is_refused o);
  changed = s.changed + one_if (is_changed_game o);
  dead = s.dead + one_if (is_dead_position o);
  undecided = s.undecided + one_if (is_open o);
  found = s.found + one_if (has_mates o);
}

-- one more outcome can be counted
pub record HasRoom (s : Totals) : Type 0 where
  pub few_items : s.items < 2 ^ 63
  pub few_refused : s.refused < 2 ^ 63
  pub few_changed : s.changed < 2 ^ 63
  pub few_dead : s.dead < 2 ^ 63
  pub few_undecided : s.undecided < 2 ^ 63
  pub few_found : s.found < 2 ^ 63
