-- A game that is a result alone keeps it: it is judged at the opening position, which is alive.
use Rattle.std.proofs.Common.{◌≡◌, ℕ, ◌+◌, ◌-◌, Bool, true, false, ◌&&◌, if◌then◌else◌, List, [], ◌∷◌, map, Option, Some, None, Ok, nat_lt, refl, sym, ap, ◌∙◌, subst, arith}
use Rattle.std.specs.List.{All}
use Rattle.std.proofs.lemmas.Bool.Decides.{nat_tests}
use Rattle.std.proofs.lemmas.List.Elements.{All-head, All-tail}
use Rattle.cha_board.specs.declared.men.Color.{Color}
use Rattle.cha_board.specs.declared.men.Color.TheVariants.{Black}
use Rattle.cha_board.specs.Board.{Board}
use Rattle.cha_moves.specs.declared.ends.Standing.TheVariants.{Running}
use Rattle.cha_moves.specs.Standings.{standing_of}
use Rattle.pgn_lex.specs.declared.kinds.Placed.{Placed}
use Rattle.pgn_lex.specs.Tokens.{tokens}
use Rattle.pgn_games.specs.declared.faults.GameFault.{GameFault}
use Rattle.pgn_games.specs.declared.marks.ResultMark.{ResultMark}
use Rattle.pgn_games.specs.declared.marks.ResultMark.TheVariants.{WhiteWins, BlackWins, Draw, Unknown}
use Rattle.pgn_games.specs.declared.played.Game.{Game}
use Rattle.pgn_games.specs.declared.played.PlacedGame.{PlacedGame}
use Rattle.pgn_games.specs.declared.played.Span.{Span}
use Rattle.pgn_games.specs.declared.token_turns.Place.TheVariants.{Before}
use Rattle.pgn_games.specs.Cutting.{cut}
use Rattle.pgn_games.specs.Games.{opening, placed_games, placed_game_of, game_of}
use Rattle.pgn_results.specs.Kept.{begins_with_result, OnlyBegun}
use Rattle.pgn_results.proofs.ResultAlone.{Says, result_alone}
use Rattle.cha_limits.specs.Bounds.{Bounds}
use Rattle.cha_san.specs.Playing.{positions, positions_from}
use Rattle.cha_cert.proofs.Bounded.{valid_is_unwinnable}
use Rattle.cha_verdict.specs.declared.verdicts.Verdict.{Verdict}
use Rattle.cha_verdict.specs.declared.verdicts.Verdict.TheVariants.{Winnable, Unwinnable, Undecided, Skipped}
use Rattle.cha_verdict.specs.declared.decisions.Decision.{Decision}
use Rattle.cha_verdict.specs.declared.scans.Scan.{Scan}
use Rattle.cha_verdict.specs.Verdicts.{are_dead, is_unwinnable, is_undecided}
use Rattle.cha_verdict.specs.Sound.{IsTrueOf}
use Rattle.cha_outcome.specs.declared.items.PlayedGame.{PlayedGame}
use Rattle.cha_outcome.specs.declared.items.Item.TheVariants.{Played, UnreadableGame}
use Rattle.cha_outcome.specs.declared.items.TheConstants.{MOST_GAME_BYTES}
use Rattle.cha_outcome.specs.declared.unreadable.Unreadable.TheVariants.{TooLong}
use Rattle.cha_outcome.specs.declared.outcomes.Outcome.{Outcome}
use Rattle.cha_outcome.specs.declared.outcomes.Outcome.TheVariants as outcomes
use Rattle.cha_outcome.specs.declared.questions.FlaggedDraws.{FlaggedDraws}
use Rattle.cha_outcome.specs.declared.questions.FlaggedDraws.TheVariants.{Stand, Examined}
use Rattle.cha_outcome.specs.declared.questions.Question.TheVariants.{Verdicts}
use Rattle.cha_outcome.specs.Items.{played, played_item, item_unless, game_item, kept_item}
use Rattle.cha_outcome.specs.Outcomes.{item_of, new_result, IsSoundOutcome, HasSoundVerdicts, AllSound}
use Rattle.cha_outcome.specs.Rulings.{winner_ruling_of, recorded_ruling_of, running_ruling_of, ruling_of, claimant_by, is_changed, was_dead, judgment_of}
use Rattle.side_by_side.specs.declared.cuts.Purpose.TheVariants.{Corrected}
use Rattle.item_batches.specs.Items.{game_items}
use Rattle.adjudicate.proofs.OpeningLives.{move, black_mates, opening_runs}

-- a game at the opening position, of which nothing but a result is told
pub record AtOpening (game : PlayedGame) : Type 0 where
  pub last : game.last ≡ opening
  pub only : game.positions ≡ opening ∷ []
  pub no_forfeit : game.forfeit ≡ false
  pub no_flag : game.flag_fell ≡ false

played_so : (span : Span) (game : Game) (pg : PlayedGame) → Says game → Played pg ≡ played_item span game (positions game.start game.words) → AtOpening pg
unfolding positions_from
played_so span game pg says e =
    let one : positions game.start game.words ≡ Ok (opening ∷ []) = rw (says.0, says.1) refl in
    let is : Played pg ≡ Played (played span game (opening ∷ [])) = e ∙ ap (played_item span game) one in
    let same : pg ≡ played span game (opening ∷ []) = cc in
    record {
      last = ap (λ (g : PlayedGame). g.last) same;
      only = ap (λ (g : PlayedGame). g.positions) same;
      no_forfeit = ap (λ (g : PlayedGame). g.forfeit) same ∙ says.2;
      no_flag = ap (λ (g : PlayedGame). g.flag_fell) same ∙ says.3;
    }

at_opening_if : (long : Bool) (fault : Option GameFault) (span : Span) (game : Game) (pg : PlayedGame) → Says game
    → Played pg ≡ (if long then UnreadableGame span TooLong else item_unless fault span game) → AtOpening pg
at_opening_if true fault span game pg says e = cc
at_opening_if false None span game pg says e = played_so span game pg says e
at_opening_if false (Some fault) span game pg says e = cc

at_opening : (placed : PlacedGame) (pg : PlayedGame) → Says placed.game → Played pg ≡ kept_item placed → AtOpening pg
unfolding kept_item game_item
at_opening placed pg says e = at_opening_if (nat_lt MOST_GAME_BYTES (placed.span.end - placed.span.start)) placed.game.fault placed.span placed.game pg says e

-- Black is not shown unable to mate there
alive_by : (limits : Bounds) (v : Verdict) → IsTrueOf opening Black limits v → is_unwinnable v ≡ false
alive_by limits (Winnable moves) t = refl
alive_by limits (Unwinnable cert) t = absurd (valid_is_unwinnable opening Black cert t (move 13 21 ∷ move 52 36 ∷ move 14 30 ∷ move 59 31 ∷ []) black_mates)
alive_by limits (Undecided count depth) t = refl
alive_by limits Skipped t = refl

not_both : (a b : Bool) → b ≡ false → a && b ≡ false
not_both true b e = e
not_both false b e = refl

no_ply_before : (qs : List Board) (scan : Option Scan) → qs ≡ opening ∷ [] → was_dead qs scan ≡ false
no_ply_before qs None e = refl
no_ply_before qs (Some scan) e = rw e (nothing scan.ply)
  where
    nothing : (n : ℕ) → nat_lt (n + 1) 1 ≡ false
    nothing n = grind (arith, nat_tests)

-- no flag fell, so that nobody claims a draw
nobody : (draws : FlaggedDraws) (recorded : ResultMark) (mover : Color) → claimant_by draws false recorded mover ≡ None
nobody Stand recorded mover = refl
nobody Examined recorded mover = refl

winner_stays : (mark : ResultMark) (undecided : Bool) (v : Verdict) → is_undecided v ≡ undecided → (winner_ruling_of mark false v).mark ≡ mark
unfolding winner_ruling_of
winner_stays mark true v e = rw e refl
winner_stays mark false v e = rw e refl

recorded_stays : (mark : ResultMark) (white black : Verdict) → (recorded_ruling_of mark false None white black).mark ≡ mark
recorded_stays WhiteWins white black = winner_stays WhiteWins (is_undecided white) white refl
recorded_stays BlackWins white black = winner_stays BlackWins (is_undecided black) black refl
recorded_stays Draw white black = refl
recorded_stays Unknown white black = refl

unchanged : (a b : ResultMark) → b ≡ a → is_changed a b ≡ false
unfolding is_changed
unchanged WhiteWins b e = rw e refl
unchanged BlackWins b e = rw e refl
unchanged Draw b e = rw e refl
unchanged Unknown b e = rw e refl

-- its result is the recorded one
same_mark : (draws : FlaggedDraws) (game : PlayedGame) (d : Decision) (scan : Option Scan) → AtOpening game → is_unwinnable d.black ≡ false → (judgment_of draws game d scan).mark ≡ game.recorded
unfolding ruling_of running_ruling_of
same_mark draws game d scan at alive =
    let runs : standing_of game.last ≡ Running = ap standing_of at.last ∙ opening_runs in
    let none : claimant_by draws game.flag_fell game.recorded game.last.side ≡ None = rw at.no_flag (nobody draws game.recorded game.last.side) in
    let open_yet : are_dead d.white d.black ≡ false = not_both (is_unwinnable d.white) (is_unwinnable d.black) alive in
    rw (runs, no_ply_before game.positions scan at.only, open_yet, none, at.no_forfeit) (recorded_stays game.recorded d.white d.black)

stays : (limits : Bounds) (draws : FlaggedDraws) (o : Outcome) (placed : PlacedGame) → Says placed.game → item_of o ≡ kept_item placed → IsSoundOutcome (Verdicts limits draws) o → new_result o ≡ None
unfolding new_result item_of HasSoundVerdicts
stays limits draws (outcomes.JudgedPosition number q d status) placed says e sound = refl
stays limits draws (outcomes.JudgedGame game d scan status judgment) placed says e sound =
    let at = at_opening placed game says e in
    let alive = alive_by limits d.black (subst (λ q. IsTrueOf q Black limits d.black) at.last (sound.0.sound.true_of Black)) in
    rw (unchanged game.recorded judgment.mark (ap (λ j. j.mark) sound.3 ∙ same_mark draws game d scan at alive)) refl
stays limits draws (outcomes.ListedMates number q depth found) placed says e sound = refl
stays limits draws (outcomes.RefusedLine number fault) placed says e sound = refl
stays limits draws (outcomes.UnreadableGame span why) placed says e sound = refl
stays limits draws (outcomes.Replayed game) placed says e sound = refl

-- a game that gets a result has a token before the one that ends it
begun_if : (r : Option ResultMark) (begins : Bool) (mark : ResultMark) → r ≡ Some mark → (begins ≡ true → r ≡ None) → begins ≡ false
begun_if r true mark e none = let f = sym e ∙ none refl in cc
begun_if r false mark e none = refl

abbrev Bare : List Placed → Type 0
Bare slice = begins_with_result slice ≡ true → Says (game_of slice)

begun_by : (limits : Bounds) (draws : FlaggedDraws) (slice : List Placed) (slices : List (List Placed)) (o : Outcome) (marks : List (Option ResultMark)) → Bare slice → item_of o ≡ kept_item (placed_game_of slice)
    → IsSoundOutcome (Verdicts limits draws) o → OnlyBegun slices marks → (r : Option ResultMark) → new_result o ≡ r → OnlyBegun (slice ∷ slices) (r ∷ marks)
unfolding OnlyBegun
begun_by limits draws slice slices o marks bare item sound rest None is = rest
begun_by limits draws slice slices o marks bare item sound rest (Some mark) is =
    (begun_if (new_result o) (begins_with_result slice) mark is (λ begins. stays limits draws o (placed_game_of slice) (bare begins) item sound), rest)

only_begun : (limits : Bounds) (draws : FlaggedDraws) (slices : List (List Placed)) (os : List Outcome) → All Bare slices → map item_of os ≡ map kept_item (map placed_game_of slices) → AllSound (Verdicts limits draws) os
    → OnlyBegun slices (map new_result os)
unfolding OnlyBegun
only_begun limits draws [] os bare e sound = tt
only_begun limits draws (slice ∷ slices) [] bare e sound = tt
only_begun limits draws (slice ∷ slices) (o ∷ os) bare e sound =
    let here : item_of o ≡ kept_item (placed_game_of slice) = cc in
    let behind : map item_of os ≡ map kept_item (map placed_game_of slices) = cc in
    begun_by limits draws slice slices o (map new_result os) (All-head Bare slice slices bare) here sound.0 (only_begun limits draws slices os (All-tail Bare slice slices bare) behind sound.1) (new_result o) refl

pub results_of_begun : (limits : Bounds) (draws : FlaggedDraws) (bytes : List ℕ) (os : List Outcome) → map item_of os ≡ game_items Corrected bytes → AllSound (Verdicts limits draws) os → OnlyBegun (cut Before (tokens bytes)) (map new_result os)
unfolding placed_games
results_of_begun limits draws bytes os e sound = only_begun limits draws (cut Before (tokens bytes)) os (result_alone (tokens bytes)) e sound
