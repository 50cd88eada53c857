-- From where on a game was dead (this project).
use Rattle.std.specs.Prelude.{◌≡◌, ℕ, ◌+◌, ◌-◌, ◌<◌, ◌≤◌, ◌||◌, true, false, List, length, Option, Some, None, slice_get, ⊤}
use Rattle.cha_board.specs.declared.men.Color.{Color}
use Rattle.cha_board.specs.declared.men.Color.TheVariants.{White, Black}
use Rattle.cha_board.specs.Board.{Board}
use Rattle.cha_moves.specs.Dead.{IsDead}
use Rattle.cha_cert.specs.Certificates.{IsValidCert}
use Rattle.cha_verdict.specs.declared.verdicts.Verdict.TheVariants.{Unwinnable}
use Rattle.cha_verdict.specs.declared.decisions.Decision.{Decision}
use Rattle.cha_verdict.specs.declared.scans.Edge.{Edge}
use Rattle.cha_verdict.specs.declared.scans.Edge.TheVariants.{Start, Live, Unclear}
use Rattle.cha_verdict.specs.declared.scans.EarlierCerts.{EarlierCerts}
use Rattle.cha_verdict.specs.declared.scans.Scan.{Scan}
use Rattle.cha_limits.specs.Bounds.{Bounds}
use Rattle.cha_verdict.specs.Verdicts.{is_winnable, is_undecided, are_dead, IsPrintable}
use Rattle.cha_verdict.specs.Sound.{IsSound}

-- certificates for both sides are valid for a position
pub record AreValidCerts (q : Board) (certs : EarlierCerts) : Type 0 where
  pub white : IsValidCert q White certs.white
  pub black : IsValidCert q Black certs.black

-- the texts of both certificates can be written
pub record ArePrintable (certs : EarlierCerts) : Type 0 where
  pub white : IsPrintable (Unwinnable certs.white)
  pub black : IsPrintable (Unwinnable certs.black)

-- Certificates for the ply of this number stand there exactly where it is not the last one.
abbrev pub IsEarlier : List Board → ℕ → Option EarlierCerts → Type 0
IsEarlier qs ply None = ply + 1 ≡ length qs
IsEarlier qs ply (Some certs) = (ply + 1 < length qs) × (q : Board) × (slice_get qs ply ≡ Some q) × AreValidCerts q certs

-- Sound verdicts that do not show a position dead stand before: of which one is that a side can mate, or of which none is and one
-- is undecided.
abbrev pub IsOpenEdge : Board → Color → Bounds → Edge → Type 0
IsOpenEdge q first limits Start = ⊥
IsOpenEdge q first limits Live = (d : Decision) × IsSound q first limits d × (is_winnable d.white || is_winnable d.black ≡ true)
IsOpenEdge q first limits Unclear =
    (d : Decision) × IsSound q first limits d × (is_winnable d.white || is_winnable d.black ≡ false) × (is_undecided d.white || is_undecided d.black ≡ true)

-- a position before a ply of this number has such an edge
abbrev pub IsOpenBefore : List Board → Color → Bounds → ℕ → Edge → Type 0
IsOpenBefore qs first limits ply edge = (0 < ply) × (q : Board) × (slice_get qs (ply - 1) ≡ Some q) × IsOpenEdge q first limits edge

-- the edge is the start exactly where the ply is 0
abbrev pub HasEdge : List Board → Color → Bounds → ℕ → Edge → Type 0
HasEdge qs first limits ply Start = ply ≡ 0
HasEdge qs first limits ply Live = IsOpenBefore qs first limits ply Live
HasEdge qs first limits ply Unclear = IsOpenBefore qs first limits ply Unclear

-- A scan of the positions of a game, of which the last one is shown dead: it names one of them, has certificates for it where it is
-- not the last one, and what stands before it was examined with this side first.
pub record IsSoundScan (qs : List Board) (first : Color) (limits : Bounds) (scan : Scan) : Type 0 where
  pub earlier : IsEarlier qs scan.ply scan.earlier
  pub edge : HasEdge qs first limits scan.ply scan.edge

-- verdicts on the last position that show it dead come with a sound scan, and others with none
abbrev pub HasScan : List Board → Color → Bounds → Decision → Option Scan → Type 0
HasScan qs first limits last None = are_dead last.white last.black ≡ false
HasScan qs first limits last (Some scan) = (are_dead last.white last.black ≡ true) × IsSoundScan qs first limits scan

-- the certificates of a scan can be printed
abbrev pub IsPrintableScan : Option EarlierCerts → Type 0
IsPrintableScan None = ⊤
IsPrintableScan (Some certs) = ArePrintable certs

-- What a sound scan says of a game whose last position is dead: each position from its ply on is dead, and where a side could mate
-- before it, none of the earlier ones is.
pub record ShowsDead (qs : List Board) (scan : Scan) : Type 0 where
  pub later : (j : ℕ) (q : Board) → scan.ply ≤ j → slice_get qs j ≡ Some q → IsDead q
  pub sooner : (scan.edge ≡ Unclear → ⊥) → (j : ℕ) (q : Board) → j < scan.ply → slice_get qs j ≡ Some q → IsDead q → ⊥
