-- What is found on the way back through a game.
use Rattle.std.specs.Prelude.{◌≡◌, ◌<◌, ◌||◌, Bool, if◌then◌else◌, List, Option, Some, None, slice_get, MatchOption}
use Rattle.cha_board.specs.declared.men.Color.{Color}
use Rattle.cha_board.specs.Board.{Board}
use Rattle.cha_verdict.specs.declared.verdicts.Verdict.{Verdict}
use Rattle.cha_verdict.specs.declared.verdicts.Verdict.TheVariants.{Unwinnable}
use Rattle.cha_verdict.specs.declared.scans.EarlierCerts.{EarlierCerts}
use Rattle.cha_verdict.specs.declared.scans.Edge.{Edge}
use Rattle.cha_verdict.specs.declared.scans.Edge.TheVariants.{Live, Unclear}
use Rattle.cha_verdict.specs.declared.scans.Scan.{Scan}
use Rattle.cha_limits.specs.Bounds.{Bounds}
use Rattle.cha_verdict.specs.Scans.{AreValidCerts, ArePrintable, IsEarlier, IsOpenEdge, IsSoundScan, IsPrintableScan}
use Rattle.cha_decide.specs.declared.scanning.EarlierPly.{EarlierPly}
use Rattle.cha_decide.specs.declared.scanning.EarlierPly.TheVariants.{Dead, Open}
use Rattle.cha_decide.specs.declared.scanning.DeadPly.{DeadPly}
use Rattle.cha_decide.specs.declared.scanning.OpenPly.{OpenPly}
use Rattle.cha_decide.specs.declared.scanning.Reached.{Reached}

-- the edge before a dead ply, by whether White and Black can mate there
abbrev pub edge_by : Bool → Bool → Edge
edge_by white black = if white || black then Live else Unclear

-- the certificates of verdicts that show a position dead
abbrev pub certs_by : Verdict → Verdict → Option EarlierCerts
certs_by (Unwinnable white) (Unwinnable black) = Some (record { white = white; black = black })
certs_by _ _ = None

-- certificates show the position dead, or it has an open edge
abbrev pub IsFoundAt : Board → Color → Bounds → EarlierPly → Type 0
IsFoundAt q first limits (Dead certs) = AreValidCerts q certs × ArePrintable certs
IsFoundAt q first limits (Open edge) = IsOpenEdge q first limits edge

-- a ply is shown dead, by certificates that can be printed unless it is the last one
pub record IsShownAt (qs : List Board) (dead : DeadPly) : Type 0 where
  pub earlier : IsEarlier qs dead.ply dead.certs
  pub printable : IsPrintableScan dead.certs

-- a ply has an open edge
abbrev pub IsOpenAt : List Board → Color → Bounds → OpenPly → Type 0
IsOpenAt qs first limits at = (q : Board) × (slice_get qs at.ply ≡ Some q) × IsOpenEdge q first limits at.edge

-- a ply is shown dead, and an earlier one has an open edge, or the dead one is the start
pub record IsReached (qs : List Board) (first : Color) (limits : Bounds) (reached : Reached) : Type 0 where
  pub dead : IsShownAt qs reached.dead
  pub before : MatchOption reached.before (reached.dead.ply ≡ 0) (λ at. (at.ply < reached.dead.ply) × IsOpenAt qs first limits at)

-- a sound scan whose certificates can be printed
pub record IsScanFound (qs : List Board) (first : Color) (limits : Bounds) (scan : Scan) : Type 0 where
  pub sound : IsSoundScan qs first limits scan
  pub printable : IsPrintableScan scan.earlier
