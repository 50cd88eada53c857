use Rattle.std.proofs.Common.{◌++◌, sym, ap, ◌∙◌, arith, List, ℕ}
use Rattle.pgn_results.specs.Keeping.{arrived}
use Rattle.pgn_results.proofs.KeptBytes.{given_stay, open_more, arrived_is, settled_of}
use Rattle.pgn_results.proofs.intake.Intake.refill.Goals as goal

pub returns-then-taken-clause-first : goal.returns-then-taken-clause-first
returns-then-taken-clause-first g c =
    given_stay (arrived c.args.self.now) _ c.fill.new.piece.items _ (settled_of c.args.self.now c.requires.open) (ap (λ (xs : List ℕ). xs ++ c.fill.new.piece.items) (sym (arrived_is c.args.self.now c.requires.open)))

pub returns-in-Ok-hand_on-clause-first : goal.returns-in-Ok-hand_on-clause-first
returns-in-Ok-hand_on-clause-first g c =
    given_stay (arrived c.args.self.now) _ c.fill.new.piece.items _ (settled_of c.args.self.now c.requires.open) (c.hand_on.ensures.arrived ∙ ap (λ (xs : List ℕ). xs ++ c.fill.new.piece.items) (sym (arrived_is c.args.self.now c.requires.open)))

pub returns-in-Err-hand_on-clause-first : goal.returns-in-Err-hand_on-clause-first
returns-in-Err-hand_on-clause-first g c =
    given_stay (arrived c.args.self.now) _ c.fill.new.piece.items _ (settled_of c.args.self.now c.requires.open) (c.hand_on.ensures.arrived ∙ ap (λ (xs : List ℕ). xs ++ c.fill.new.piece.items) (sym (arrived_is c.args.self.now c.requires.open)))

pub returns-in-Ok-hand_on-clause-more : goal.returns-in-Ok-hand_on-clause-more
returns-in-Ok-hand_on-clause-more g c = λ e.
    let h = c.in-Ok-hand_on.ensures in
    open_more c.args.self.now c.hand_on.new.self c.fill.new.piece.items c.requires.open h.games h.handed_on h.arrived h.given h.kept h.start (omega (arith, c.if-taken.false, c.taken.ensures)) c.fill.ensures.few c.requires.needed
