use Rattle.std.proofs.Common.{rules, refl, ◌≡◌, ◌++◌, ℕ, List, Ok, Some, true≢false, sym, ap, subst, ◌≤◌, ◌∙◌, arith, length, take, slice_get, length-append, IfSome}
use Rattle.cha_outside.proofs.Gathered.{gathers_more}
use Rattle.pgn_games.specs.declared.played.PlacedGame.{PlacedGame}
use Rattle.pgn_games.specs.Games.{placed_games}
use Rattle.pgn_games.specs.Settling.{settled_games}
use Rattle.pgn_results.specs.Keeping.{arrived, IsGoingOn}
use Rattle.pgn_games.proofs.KeptTokens.{waits_on}
use Rattle.pgn_results.proofs.KeptBytes.{games_few, first_on, arrived_is, arrived_waits}
use Rattle.pgn_results.proofs.kept.KeptReader.next.Invariants.{end_left}
use Rattle.pgn_results.proofs.kept.KeptReader.next.Goals as goal

pub returns-in-Some-clause-few_games : goal.returns-in-Some-clause-few_games
returns-in-Some-clause-few_games g c =
    let there = subst (λ f. IfSome f (λ (game : PlacedGame). slice_get (placed_games c.next.new.self.taken) c.loop-found.self-inside.intake.games.given ≡ Some game)) c.in-Some.is c.in-Ok.ensures.game in
    omega (arith, games_few c.next.new.self.taken _ c.in-Some.game there, c.next.ensures.few, c.loop-found.invariant.given)

pub loop-found-preserved-in-Ok-More : goal.loop-found-preserved-in-Ok-More
loop-found-preserved-in-Ok-More g c =
    let inv = c.loop-found.invariant in
    let h = c.refill.ensures in
    let piece = c.loop-found.self-inside.intake.piece.items in
    let same = c.next.ensures.same in
    let given : c.next.new.self.given ≡ c.args.self.now.given = search rules in
    let none : settled_games c.next.new.self.taken ≤ c.next.new.self.given = search rules in
    let all = sym (arrived_is c.loop-found.self-inside.intake (subst (IsGoingOn c.loop-found.self-inside.intake) c.if-self.false inv.is_open)) in
    record {
      is_open = subst (IsGoingOn c.refill.new.self) (sym c.if-self.false) (h.more (c.in-Ok-More.is ∙ ap Ok c.in-Ok-More.field-0-is));
      working = inv.working;
      bytes = gathers_more _ _ _ _ _ _ h.bytes.0 inv.bytes h.bytes.1 (h.bytes.2 ∙ ap (λ (x : List ℕ). (x ++ piece) ++ h.bytes.0) same.0);
      written = h.written ∙ inv.written;
      given = h.given ∙ given;
      first = first_on _ c.next.new.self.given (arrived c.refill.new.self) (c.next.new.self.taken ++ piece) c.args.self.now.taken given h.first
          (ap (λ (x : List ℕ). take c.args.self.now.given (placed_games (x ++ piece))) same.0 ∙ inv.first);
      still = λ e. let was = inv.still e in absurd (true≢false (sym was.1 ∙ c.if-self.false));
      at_end = λ e f. absurd (true≢false (sym f ∙ c.if-self.false));
      at_hand = λ more. (let was = inv.at_hand more in absurd (omega (arith, more, none, ap settled_games (same.0 ∙ all ∙ was.1), given)));
      later = omega (arith, h.later, inv.later);
    }

pub loop-found-smaller : goal.loop-found-smaller
loop-found-smaller g c =
    let h = c.refill.ensures in
    let piece = c.loop-found.self-inside.intake.piece.items in
    let now = ap length h.bytes.2 ∙ length-append (c.next.new.self.taken ++ piece) h.bytes.0 in
    let before = ap (λ (x : List ℕ). length (x ++ piece)) c.next.ensures.same.0 in
    omega (arith, ap end_left c.if-self.false, now, before)

pub loop-found-preserved : goal.loop-found-preserved
loop-found-preserved g c =
    let inv = c.loop-found.invariant in
    let h = c.refill.ensures in
    let piece = c.loop-found.self-inside.intake.piece.items in
    let same = c.next.ensures.same in
    let given : c.next.new.self.given ≡ c.args.self.now.given = search rules in
    let none : settled_games c.next.new.self.taken ≤ c.next.new.self.given = search rules in
    let all = sym (arrived_is c.loop-found.self-inside.intake (subst (IsGoingOn c.loop-found.self-inside.intake) c.if-self.false inv.is_open)) in
    let end = h.end (c.in-Ok-End.is ∙ ap Ok c.in-Ok-End.field-0-is) in
    record {
      is_open = end.0;
      working = inv.working;
      bytes = gathers_more _ _ _ _ _ _ h.bytes.0 inv.bytes h.bytes.1 (h.bytes.2 ∙ ap (λ (x : List ℕ). (x ++ piece) ++ h.bytes.0) same.0);
      written = h.written ∙ inv.written;
      given = h.given ∙ given;
      first = first_on _ c.next.new.self.given (arrived c.refill.new.self) (c.next.new.self.taken ++ piece) c.args.self.now.taken given h.first
          (ap (λ (x : List ℕ). take c.args.self.now.given (placed_games (x ++ piece))) same.0 ∙ inv.first);
      still = λ e. let was = inv.still e in absurd (true≢false (sym was.1 ∙ c.if-self.false));
      at_end = λ e f. end.1;
      at_hand = λ more. (let was = inv.at_hand more in absurd (omega (arith, more, none, ap settled_games (same.0 ∙ all ∙ was.1), given)));
      later = omega (arith, h.later, inv.later);
    }

pub returns-in-Err-clause-bytes : goal.returns-in-Err-clause-bytes
returns-in-Err-clause-bytes g c =
    let inv = c.loop-found.invariant in
    let h = c.refill.ensures in
    gathers_more _ _ _ _ _ _ h.bytes.0 inv.bytes h.bytes.1 (h.bytes.2 ∙ ap (λ (x : List ℕ). (x ++ c.loop-found.self-inside.intake.piece.items) ++ h.bytes.0) c.next.ensures.same.0)

pub returns-in-Some-clause-no_more : goal.returns-in-Some-clause-no_more
returns-in-Some-clause-no_more g c = arrived_waits _ _ _ _ c.loop-found.invariant.is_open c.next.ensures.same.0 c.loop-found.invariant.given

pub returns-in-Err-clause-no_more : goal.returns-in-Err-clause-no_more
returns-in-Err-clause-no_more g c = waits_on _ _ _ _ c.refill.ensures.waits refl (let given : c.next.new.self.given ≡ c.args.self.now.given = search rules in omega (arith, given))

pub returns-in-Err-clause-at_hand : goal.returns-in-Err-clause-at_hand
returns-in-Err-clause-at_hand g c = λ more.
    let inv = c.loop-found.invariant in
    let given : c.next.new.self.given ≡ c.args.self.now.given = search rules in
    let none : settled_games c.next.new.self.taken ≤ c.next.new.self.given = search rules in
    let all = sym (arrived_is c.loop-found.self-inside.intake (subst (IsGoingOn c.loop-found.self-inside.intake) c.if-self.false inv.is_open)) in
    let was = inv.at_hand more in
    absurd (omega (arith, more, none, ap settled_games (c.next.ensures.same.0 ∙ all ∙ was.1), given))
