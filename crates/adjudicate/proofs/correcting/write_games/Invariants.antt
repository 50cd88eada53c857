use Rattle.std.proofs.Common.{◌≡◌, ◌-◌, ◌≤◌, length, true, false}
use Rattle.std.specs.Io.KnownBytes.{Consumes, IsAtEnd}
use Rattle.pgn_games.specs.Settling.{settled_games}
use Rattle.side_by_side.specs.declared.cuts.Purpose.TheVariants.{Corrected}
use Rattle.side_by_side.specs.declared.cuts.ItemKind.TheVariants.{Games as GamesFor}
use Rattle.adjudicate.proofs.CorrectingLoop.{IsAt}
use Rattle.adjudicate.proofs.correcting.write_games.Given as goal

-- the games given so far were judged and written
abbrev pub invariant-loop-found : goal.invariant-loop-found
invariant-loop-found g l = record {
  at : IsAt (g.J.Judge.question l.fn.judge) l.changed (g.K.Sink.written l.fn.sink) (g.K.Sink.written l.sink) l.games.taken l.games.given l.games.written l.totals;
  kind : l.games.kind ≡ GamesFor Corrected;
  asked : l.games.question ≡ g.J.Judge.question l.fn.judge;
  question : g.J.Judge.question l.judge ≡ g.J.Judge.question l.fn.judge;
  took : Consumes (g.S.Source.left l.fn.source) (g.S.Source.left l.source) l.games.taken;
  end : l.games.ended ≡ true → IsAtEnd (g.S.Source.left l.source);
  due : l.games.ended ≡ false → l.games.given ≤ settled_games l.games.taken;
  goes_on : (l.games.failed ≡ false) × (length l.games.taken ≤ 268435456);
  source_later : g.S.Source.faults l.fn.source ≤ g.S.Source.faults l.source;
  sink_later : g.K.Sink.faults l.fn.sink ≤ g.K.Sink.faults l.sink;
  quiet : l.notes ≡ l.fn.notes;
  ready : g.J.Judge.ready l.judge;
  worked : g.J.Judge.worked l.fn.judge l.judge;
}

abbrev pub decreases-loop-found : goal.decreases-loop-found
decreases-loop-found g l = 4611686018427387904 - l.games.given
