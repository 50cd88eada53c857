use Rattle.std.proofs.Common.{◌≡◌, ℕ, List, ◌++◌, drop, ap, ◌∙◌, arith, Ok, Err}
use Rattle.pgn_lex.specs.Lexing.{LexerState}
use Rattle.pgn_games.proofs.KeptTokens.{next_front, all_settled, none_behind, needed, waits_on}
use Rattle.pgn_games.proofs.Settled.{none_left}
use Rattle.pgn_games.specs.Settling.{settled_games}
use Rattle.cha_outside.specs.declared.gathering.ReadEnd.TheVariants.{ReadFault}
use Rattle.cha_outside.proofs.Gathered.{gathers_more}
use Rattle.pgn_games.specs.Keeping.{taken_by}
use Rattle.pgn_games.proofs.cutter.Cutter.advance.Goals as goal

pub loop-self-preserved : goal.loop-self-preserved
loop-self-preserved g c =
    let up = c.feed_piece.ensures.used_up (c.in-Ok-Open.is ∙ ap Ok c.in-Ok-Open.field-0-is) in
    let same = c.refill.ensures.same in
    let none = none_left c.feed_piece.new.self.lexer.fed _ _ up.2 in
    let all = all_settled c.feed_piece.new.self.lexer.fed (taken_by c.feed_piece.new.self) _ _ _ _ c.in-Ok-Open.ensures.open.told up.0 up.1 none in
    record {
      is_open = c.in-Ok-More.ensures.open;
      scanned = rw (same.2, same.4) up.0;
      waits = needed c.feed_piece.new.self.lexer.fed _ c.refill.new.self.piece.items _ _ _ _ _ _ c.in-Ok-Open.ensures.open.told up.0 up.1 none c.refill.ensures.piece.0 c.refill.ensures.piece.1 same.0;
      bytes = gathers_more _ _ _ _ _ _ c.refill.ensures.bytes.0 c.loop-self.invariant.bytes c.refill.ensures.bytes.1 (c.refill.ensures.bytes.2 ∙ ap (λ (x : List ℕ). x ++ c.refill.ensures.bytes.0) c.feed_piece.ensures.taken);
      given = same.0 ∙ c.feed_piece.ensures.same.0 ∙ c.loop-self.invariant.given;
      first = next_front c.feed_piece.new.self.lexer.fed _ _ _ _ _ c.feed_piece.new.self.given _ _ c.in-Ok-Open.ensures.open.told (c.feed_piece.ensures.same.0 ∙ c.loop-self.invariant.given) c.feed_piece.ensures.taken
          (ap (λ (l : LexerState). l.fed ++ drop c.refill.new.self.used c.refill.new.self.piece.items) same.1) c.loop-self.invariant.first;
      at_hand = λ more. (let was = c.loop-self.invariant.at_hand more in absurd (omega (arith, more, all, ap settled_games (c.feed_piece.ensures.taken ∙ was.1), c.feed_piece.ensures.same.0, c.loop-self.invariant.given)));
      later = omega (arith, c.refill.ensures.later, c.loop-self.invariant.later);
    }

pub returns-in-Ok-clause-ended : goal.returns-in-Ok-clause-ended
returns-in-Ok-clause-ended g c = λ e.
    let up = c.feed_piece.ensures.used_up (c.in-Ok-Open.is ∙ ap Ok c.in-Ok-Open.field-0-is) in
    let same = c.refill.ensures.same in
    let end = c.refill.ensures.end (c.in-Ok-End.is ∙ ap Ok c.in-Ok-End.field-0-is) in
    (c.in-Ok.ensures.last.0, c.in-Ok.ensures.last.1, end.0)

pub returns-in-Err-refill-clause-bytes : goal.returns-in-Err-refill-clause-bytes
returns-in-Err-refill-clause-bytes g c =
    gathers_more _ _ _ _ _ _ c.refill.ensures.bytes.0 c.loop-self.invariant.bytes c.refill.ensures.bytes.1 (c.refill.ensures.bytes.2 ∙ ap (λ (x : List ℕ). x ++ c.refill.ensures.bytes.0) c.feed_piece.ensures.taken)

pub returns-in-Err-refill-clause-first : goal.returns-in-Err-refill-clause-first
returns-in-Err-refill-clause-first g c =
    next_front c.feed_piece.new.self.lexer.fed _ _ _ _ _ c.feed_piece.new.self.given _ _ c.in-Ok-Open.ensures.open.told (c.feed_piece.ensures.same.0 ∙ c.loop-self.invariant.given) c.feed_piece.ensures.taken
    (ap (λ (l : LexerState). l.fed ++ drop c.refill.new.self.used c.refill.new.self.piece.items) c.refill.ensures.same.1) c.loop-self.invariant.first

pub returns-in-Err-refill-clause-read_fault : goal.returns-in-Err-refill-clause-read_fault
returns-in-Err-refill-clause-read_fault g c = λ e.
    let up = c.feed_piece.ensures.used_up (c.in-Ok-Open.is ∙ ap Ok c.in-Ok-Open.field-0-is) in
    let is : c.in-Err-refill.end ≡ ReadFault = cc in
    let fault = c.refill.ensures.fault (c.in-Err-refill.is ∙ ap Err is) in
    let all = all_settled c.feed_piece.new.self.lexer.fed (c.refill.new.self.lexer.fed ++ drop c.refill.new.self.used c.refill.new.self.piece.items) _ _ _ _ c.in-Ok-Open.ensures.open.told up.0 up.1
    (none_behind c.feed_piece.new.self.lexer.fed _ _ _ (ap (λ (l : LexerState). l.fed) c.refill.ensures.same.1) fault.1) in
    (omega (arith, fault.0, c.loop-self.invariant.later), omega (arith, all, c.feed_piece.ensures.same.0, c.loop-self.invariant.given))

pub returns-in-Ok-Whole-clause-waits : goal.returns-in-Ok-Whole-clause-waits
returns-in-Ok-Whole-clause-waits g c = waits_on _ _ _ _ c.loop-self.invariant.waits c.feed_piece.ensures.taken (omega (arith, c.feed_piece.ensures.same.0))

pub returns-in-Err-clause-waits : goal.returns-in-Err-clause-waits
returns-in-Err-clause-waits g c = waits_on _ _ _ _ c.loop-self.invariant.waits c.feed_piece.ensures.taken (omega (arith, c.feed_piece.ensures.same.0))

pub returns-in-Err-refill-clause-waits : goal.returns-in-Err-refill-clause-waits
returns-in-Err-refill-clause-waits g c =
    let up = c.feed_piece.ensures.used_up (c.in-Ok-Open.is ∙ ap Ok c.in-Ok-Open.field-0-is) in
    let none = none_left c.feed_piece.new.self.lexer.fed _ _ up.2 in
    needed c.feed_piece.new.self.lexer.fed _ c.refill.new.self.piece.items _ _ _ _ _ _ c.in-Ok-Open.ensures.open.told up.0 up.1 none c.refill.ensures.piece.0 c.refill.ensures.piece.1 c.refill.ensures.same.0

pub returns-in-Ok-clause-waits : goal.returns-in-Ok-clause-waits
returns-in-Ok-clause-waits g c =
    let up = c.feed_piece.ensures.used_up (c.in-Ok-Open.is ∙ ap Ok c.in-Ok-Open.field-0-is) in
    let none = none_left c.feed_piece.new.self.lexer.fed _ _ up.2 in
    waits_on _ _ _ _ (needed c.feed_piece.new.self.lexer.fed _ c.refill.new.self.piece.items _ _ _ _ _ _ c.in-Ok-Open.ensures.open.told up.0 up.1 none c.refill.ensures.piece.0 c.refill.ensures.piece.1 c.refill.ensures.same.0) c.take_end.ensures.taken (omega (arith, c.take_end.ensures.given))

pub returns-in-Err-take_end-clause-waits : goal.returns-in-Err-take_end-clause-waits
returns-in-Err-take_end-clause-waits g c =
    let up = c.feed_piece.ensures.used_up (c.in-Ok-Open.is ∙ ap Ok c.in-Ok-Open.field-0-is) in
    let none = none_left c.feed_piece.new.self.lexer.fed _ _ up.2 in
    waits_on _ _ _ _ (needed c.feed_piece.new.self.lexer.fed _ c.refill.new.self.piece.items _ _ _ _ _ _ c.in-Ok-Open.ensures.open.told up.0 up.1 none c.refill.ensures.piece.0 c.refill.ensures.piece.1 c.refill.ensures.same.0) c.take_end.ensures.taken (omega (arith, c.take_end.ensures.given))

pub returns-in-Err-refill-clause-at_hand : goal.returns-in-Err-refill-clause-at_hand
returns-in-Err-refill-clause-at_hand g c = λ more.
    let up = c.feed_piece.ensures.used_up (c.in-Ok-Open.is ∙ ap Ok c.in-Ok-Open.field-0-is) in
    let none = none_left c.feed_piece.new.self.lexer.fed _ _ up.2 in
    let all = all_settled c.feed_piece.new.self.lexer.fed (taken_by c.feed_piece.new.self) _ _ _ _ c.in-Ok-Open.ensures.open.told up.0 up.1 none in
    (let was = c.loop-self.invariant.at_hand more in absurd (omega (arith, more, all, ap settled_games (c.feed_piece.ensures.taken ∙ was.1), c.feed_piece.ensures.same.0, c.loop-self.invariant.given)))

pub returns-in-Ok-clause-at_hand : goal.returns-in-Ok-clause-at_hand
returns-in-Ok-clause-at_hand g c = λ more.
    let up = c.feed_piece.ensures.used_up (c.in-Ok-Open.is ∙ ap Ok c.in-Ok-Open.field-0-is) in
    let none = none_left c.feed_piece.new.self.lexer.fed _ _ up.2 in
    let all = all_settled c.feed_piece.new.self.lexer.fed (taken_by c.feed_piece.new.self) _ _ _ _ c.in-Ok-Open.ensures.open.told up.0 up.1 none in
    (let was = c.loop-self.invariant.at_hand more in absurd (omega (arith, more, all, ap settled_games (c.feed_piece.ensures.taken ∙ was.1), c.feed_piece.ensures.same.0, c.loop-self.invariant.given)))

pub returns-in-Err-take_end-clause-at_hand : goal.returns-in-Err-take_end-clause-at_hand
returns-in-Err-take_end-clause-at_hand g c = λ more.
    let up = c.feed_piece.ensures.used_up (c.in-Ok-Open.is ∙ ap Ok c.in-Ok-Open.field-0-is) in
    let none = none_left c.feed_piece.new.self.lexer.fed _ _ up.2 in
    let all = all_settled c.feed_piece.new.self.lexer.fed (taken_by c.feed_piece.new.self) _ _ _ _ c.in-Ok-Open.ensures.open.told up.0 up.1 none in
    (let was = c.loop-self.invariant.at_hand more in absurd (omega (arith, more, all, ap settled_games (c.feed_piece.ensures.taken ∙ was.1), c.feed_piece.ensures.same.0, c.loop-self.invariant.given)))

pub returns-in-Ok-clause-none_settled : goal.returns-in-Ok-clause-none_settled
returns-in-Ok-clause-none_settled g c = λ e.
    let up = c.feed_piece.ensures.used_up (c.in-Ok-Open.is ∙ ap Ok c.in-Ok-Open.field-0-is) in
    let none = none_left c.feed_piece.new.self.lexer.fed _ _ up.2 in
    let end = c.refill.ensures.end (c.in-Ok-End.is ∙ ap Ok c.in-Ok-End.field-0-is) in
    let all = all_settled c.feed_piece.new.self.lexer.fed (taken_by c.take_end.new.self) _ _ _ _ c.in-Ok-Open.ensures.open.told up.0 up.1
    (c.take_end.ensures.taken ∙ none_behind c.feed_piece.new.self.lexer.fed _ _ _ (ap (λ (l : LexerState). l.fed) c.refill.ensures.same.1) end.1) in
    omega (arith, all, c.feed_piece.ensures.same.0, c.loop-self.invariant.given)
