use Rattle.cha_outcome.specs.Outcomes.{HasSoundVerdicts}
use Rattle.cha_outcome.specs.Rulings.{first_of}
use Rattle.cha_outcome.proofs.ShownDead.{scan_shows}
use Rattle.cha_verdict.specs.Sound.{IsSound}
use Rattle.cha_verdict.specs.Scans.{HasScan}
use Rattle.cha_decide.proofs.Backwards.{made_both}
use Rattle.cha_judge.proofs.verdicts.decide_game.Goals as goal

pub returns-clause-sound : goal.returns-clause-sound
unfolding HasSoundVerdicts
returns-clause-sound g c =
    let game = c.args.game.now in
    let limits = c.args.limits.now in
    let first = first_of c.args.draws game in
    let sound : IsSound game.last first limits c.in_ok-decision.decision = rw (c.first_examined-first.ensures, c.claim_of-claim.ensures) at c.in_ok-decision.ensures.sound in
    let scanned : HasScan game.positions first limits c.in_ok-decision.decision c.in_ok-scan.scan =
    rw (c.first_examined-first.ensures, c.claim_of-claim.ensures, c.items.ensures) at c.in_ok-scan.ensures.scan in (
      record { valid = c.known.ensures; sound = sound; complete = c.in_ok-decision.ensures.complete },
      scanned,
      rw c.state-standing.ensures.value at c.status_of-status.ensures,
      c.judgment_of-judgment.ensures c.args.draws c.claim_of-claim.ensures,
      c.requires.played,
      scan_shows game first limits c.in_ok-decision.decision c.in_ok-scan.scan c.requires.played sound scanned,
    )

pub returns-clause-calls : goal.returns-clause-calls
returns-clause-calls g c = made_both g.C.Facts.made g.met.C.Facts.both_made c.args.crew.now c.decide.new.crew c.scan_back.new.crew (c.decide.ensures.calls.entries, c.decide.ensures.calls.entered) c.scan_back.ensures.calls

pub returns-in_err-scan-clause-calls : goal.returns-in_err-scan-clause-calls
returns-in_err-scan-clause-calls g c = made_both g.C.Facts.made g.met.C.Facts.both_made c.args.crew.now c.decide.new.crew c.scan_back.new.crew (c.decide.ensures.calls.entries, c.decide.ensures.calls.entered) c.scan_back.ensures.calls
