-- What sound verdicts say in chess alone.
use Rattle.std.proofs.Common.{◌≡◌, ℕ, zero, suc, ◌<◌, true, false, List, [], ◌∷◌, ◌++◌, length, Contains, Option, Some, None, IfSome, slice_get, refl, sym, ap, subst, ◌∙◌, arith}
use Rattle.std.proofs.lemmas.Option.{same_Some, slice_get_read}
use Rattle.cha_board.specs.declared.men.Color.{Color}
use Rattle.cha_board.specs.declared.men.Color.TheVariants.{White, Black}
use Rattle.cha_board.specs.Men.{other_color}
use Rattle.cha_board.specs.Board.{Board}
use Rattle.cha_limits.specs.Bounds.{Bounds}
use Rattle.cha_moves.specs.Step.{Move}
use Rattle.cha_moves.specs.Moves.{after, legal}
use Rattle.cha_moves.specs.Lines.{LeadTo}
use Rattle.mob_law.specs.Explored.{IsExplored}
use Rattle.cha_cert.proofs.Bounded.{valid_is_unwinnable}
use Rattle.cha_verdict.specs.declared.verdicts.Verdict.{Verdict}
use Rattle.cha_verdict.specs.declared.verdicts.Verdict.TheVariants.{Winnable, Unwinnable, Undecided, Skipped}
use Rattle.cha_verdict.specs.declared.decisions.Decision.{Decision}
use Rattle.cha_verdict.specs.declared.scans.Scan.{Scan}
use Rattle.cha_verdict.specs.declared.scans.EarlierCerts.{EarlierCerts}
use Rattle.cha_verdict.specs.Verdicts.{is_winnable, is_skipped}
use Rattle.cha_verdict.specs.Sound.{IsTrueOf, IsSound, verdict_on}
use Rattle.cha_verdict.specs.Scans.{IsEarlier, HasScan, ShowsDead}
use Rattle.cha_outcome.specs.declared.outcomes.Outcome.{Outcome}
use Rattle.cha_outcome.specs.declared.outcomes.Outcome.TheVariants.{JudgedPosition, JudgedGame, ListedMates, RefusedLine, UnreadableGame, Replayed}
use Rattle.cha_outcome.specs.declared.questions.FlaggedDraws.{FlaggedDraws}
use Rattle.cha_outcome.specs.Outcomes.{HasSoundVerdicts}
use Rattle.cha_outcome.specs.Rulings.{first_of}
use Rattle.true_blocks.specs.Means.{AreTried, Says, Means, MeansDead, IsMeant}

-- one more move at the end of a line
one_more : (q p r : Board) (ms : List Move) (m : Move) → LeadTo q ms p → Contains (legal p) m → after p m ≡ r → LeadTo q (ms ++ m ∷ []) r
unfolding LeadTo
one_more q p r [] m is fits leads =
    let there : Contains (legal q) m = subst (λ (b : Board). Contains (legal b) m) (sym is) fits in
    (there, ap (λ (b : Board). after b m) is ∙ leads)
one_more q p r (k ∷ ms) m line fits leads = (line.0, one_more (after q k) p r ms m line.1 fits leads)

-- the line to each place of an exploration
reached : (q : Board) (w : Color) (n : ℕ) (e : IsExplored q w n) (bound i : ℕ) → i < bound → (r : Board) → slice_get e.members i ≡ Some r → (ms : List Move) × LeadTo q ms r
unfolding LeadTo
reached q w n e zero i small r at = absurd (omega (arith, small))
reached q w n e (suc bound) zero small r at = ([], same_Some q r (sym e.first ∙ at))
reached q w n e (suc bound) (suc i) small r at =
    let come = e.later i r at in
    let before = come.earlier in
    let line = reached q w n e bound come.number (omega (arith, small, before)) come.origin come.is_origin in
    (line.0 ++ come.by ∷ [], one_more q come.origin r line.0 come.by line.1 come.is_legal come.leads)

tried : (q : Board) (w : Color) (n : ℕ) → IsExplored q w n → AreTried q w n
tried q w n e = record {
  members = e.members;
  size = e.size;
  distinct = e.distinct;
  reached = λ r there. (let at = slice_get_read e.members (length e.members) there.0 r refl there.1 (sym there.2) in reached q w n e (suc there.0) there.0 (omega arith) r at);
  mateless = e.mateless;
}

says : (q : Board) (w : Color) (limits : Bounds) (v : Verdict) → IsTrueOf q w limits v → Says q w limits v
says q w limits (Winnable moves) h = h
says q w limits (Unwinnable cert) h = valid_is_unwinnable q w cert h
says q w limits (Undecided positions depth) h = (h.spent, tried q w positions h.explored, h.none)
says q w limits Skipped h = tt

-- a side is skipped only where the other can mate
skips : (first : Color) (d : Decision) → is_skipped (verdict_on d first) ≡ false → is_skipped (verdict_on d (other_color first)) ≡ is_winnable (verdict_on d first)
    → (w : Color) → is_skipped (verdict_on d w) ≡ true → is_winnable (verdict_on d (other_color w)) ≡ true
skips White d examined other White is = cc
skips White d examined other Black is = sym other ∙ is
skips Black d examined other White is = sym other ∙ is
skips Black d examined other Black is = cc

pub means : (q : Board) (first : Color) (limits : Bounds) (d : Decision) → IsSound q first limits d → Means q limits d
means q first limits d sound = record {
  says = λ w. says q w limits (verdict_on d w) (sound.true_of w);
  skips = skips first d sound.examined sound.other;
}

-- the ply of a scan is one of the positions
ply_inside : (qs : List Board) (ply : ℕ) (earlier : Option EarlierCerts) → IsEarlier qs ply earlier → ply < length qs
ply_inside qs ply None last = omega (arith, last)
ply_inside qs ply (Some certs) h = let inside = h.0 in omega (arith, inside)

means_dead : (qs : List Board) (first : Color) (limits : Bounds) (d : Decision) (scan : Option Scan) → HasScan qs first limits d scan → IfSome scan (ShowsDead qs) → MeansDead qs d scan
means_dead qs first limits d None h shown = h
means_dead qs first limits d (Some scan) h shown = (ply_inside qs scan.ply scan.earlier h.1.earlier, shown)

-- what a sound outcome says
pub meant : (limits : Bounds) (draws : FlaggedDraws) (o : Outcome) → HasSoundVerdicts limits draws o → IsMeant limits draws o
unfolding HasSoundVerdicts IsMeant
meant limits draws (JudgedPosition number q d status) h = (means q White limits d h.0.sound, h.1)
meant limits draws (JudgedGame game d scan status judgment) h =
    (means game.last (first_of draws game) limits d h.0.sound, means_dead game.positions (first_of draws game) limits d scan h.1 h.5, h.2, h.3, h.4)
meant limits draws (ListedMates number q depth found) h = h
meant limits draws (RefusedLine number fault) h = tt
meant limits draws (UnreadableGame span why) h = tt
meant limits draws (Replayed game) h = h
