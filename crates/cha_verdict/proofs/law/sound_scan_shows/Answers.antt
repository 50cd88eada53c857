use Rattle.cha_verdict.proofs.Scanned.{shows}
use Rattle.cha_verdict.proofs.law.sound_scan_shows.Goals as goal

pub returns : goal.returns
returns c = shows
