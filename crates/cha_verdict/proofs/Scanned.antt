-- What a sound scan of the positions of a game shows.
use Rattle.std.proofs.Common.{◌≡◌, ℕ, zero, suc, ◌-◌, ◌<◌, ◌≤◌, ◌||◌, Bool, true, false, List, [], ◌∷◌, length, Option, Some, None, slice_get, refl, subst, arith}
use Rattle.cha_board.specs.declared.men.Color.{Color}
use Rattle.cha_board.specs.declared.men.Color.TheVariants.{White, Black}
use Rattle.cha_board.specs.Board.{Board}
use Rattle.cha_moves.specs.Ends.{IsUnwinnable}
use Rattle.cha_moves.specs.Dead.{IsDead, ArePlayed}
use Rattle.cha_moves.proofs.StayingDead.{stays_later}
use Rattle.cha_cert.proofs.Bounded.{valid_is_unwinnable}
use Rattle.cha_verdict.specs.declared.verdicts.Verdict.{Verdict}
use Rattle.cha_verdict.specs.declared.verdicts.Verdict.TheVariants.{Winnable, Unwinnable, Undecided, Skipped}
use Rattle.cha_verdict.specs.declared.decisions.Decision.{Decision}
use Rattle.cha_verdict.specs.declared.scans.Edge.{Edge}
use Rattle.cha_verdict.specs.declared.scans.Edge.TheVariants.{Start, Live, Unclear}
use Rattle.cha_verdict.specs.declared.scans.EarlierCerts.{EarlierCerts}
use Rattle.cha_verdict.specs.declared.scans.Scan.{Scan}
use Rattle.cha_limits.specs.Bounds.{Bounds}
use Rattle.cha_verdict.specs.Verdicts.{is_winnable}
use Rattle.cha_verdict.specs.Sound.{IsTrueOf, IsSound}
use Rattle.cha_verdict.specs.Scans.{AreValidCerts, IsEarlier, HasEdge, IsSoundScan, ShowsDead}

-- certificates for both sides
certified : (q : Board) (certs : EarlierCerts) → AreValidCerts q certs → IsDead q
certified q certs h White = valid_is_unwinnable q White certs.white h.white
certified q certs h Black = valid_is_unwinnable q Black certs.black h.black

-- a side that can mate is not unwinnable
can_mate : (q : Board) (w : Color) (limits : Bounds) (v : Verdict) → IsTrueOf q w limits v → is_winnable v ≡ true → IsUnwinnable q w → ⊥
can_mate q w limits (Winnable moves) line is none = none moves line
can_mate q w limits (Unwinnable cert) line is none = cc
can_mate q w limits (Undecided positions depth) line is none = cc
can_mate q w limits Skipped line is none = cc

either : (a b : Bool) → a || b ≡ true → (a ≡ false → b ≡ true)
either true b e f = cc
either false b e f = e

-- a position in which a side can mate is not dead
not_dead : (q : Board) (first : Color) (limits : Bounds) (d : Decision) → IsSound q first limits d → is_winnable d.white || is_winnable d.black ≡ true → IsDead q → ⊥
not_dead q first limits d sound live dead = by_white (is_winnable d.white) refl
  where
    by_white : (b : Bool) → is_winnable d.white ≡ b → ⊥
    by_white true e = can_mate q White limits d.white (sound.true_of White) e (dead White)
    by_white false e = can_mate q Black limits d.black (sound.true_of Black) (either (is_winnable d.white) (is_winnable d.black) live e) (dead Black)

module _ (qs : List Board) (played : ArePlayed qs) where
  dead_behind : (i j : ℕ) (p q : Board) → i ≤ j → slice_get qs i ≡ Some p → slice_get qs j ≡ Some q → IsDead p → IsDead q
  dead_behind i j p q later at there dead w = stays_later qs i j p q w played later at there (dead w)

  inside : (xs : List Board) (j : ℕ) (q : Board) → slice_get xs j ≡ Some q → j < length xs
  inside [] j q e = cc
  inside (x ∷ xs) zero q e = omega arith
  inside (x ∷ xs) (suc j) q e = omega (arith, inside xs j q e)

  from_ply : (ply : ℕ) (earlier : Option EarlierCerts) → ((q : Board) → slice_get qs (length qs - 1) ≡ Some q → IsDead q) → IsEarlier qs ply earlier
      → (j : ℕ) (q : Board) → ply ≤ j → slice_get qs j ≡ Some q → IsDead q
  from_ply ply None last is j q later there =
      let few : j < length qs = inside qs j q there in
      let same : j ≡ length qs - 1 = omega (arith, later, few, is) in
      last q (subst (λ k. slice_get qs k ≡ Some q) same there)
  from_ply ply (Some certs) last is j q later there = dead_behind ply j is.1 q later is.2 there (certified is.1 certs is.3)

  before_edge : (first : Color) (limits : Bounds) (ply : ℕ) (edge : Edge) → HasEdge qs first limits ply edge → (edge ≡ Unclear → ⊥)
      → (j : ℕ) (q : Board) → j < ply → slice_get qs j ≡ Some q → IsDead q → ⊥
  before_edge first limits ply Start has clear j q sooner there dead = omega (arith, has, sooner)
  before_edge first limits ply Live has clear j q sooner there dead =
      let at : j ≤ ply - 1 = omega (arith, sooner) in
      let open_edge = has.3 in
      not_dead has.1 first limits open_edge.0 open_edge.1 open_edge.2 (dead_behind j (ply - 1) q has.1 at there has.2 dead)
  before_edge first limits ply Unclear has clear j q sooner there dead = clear refl

pub shows : (qs : List Board) (first : Color) (limits : Bounds) (scan : Scan) → ArePlayed qs → ((q : Board) → slice_get qs (length qs - 1) ≡ Some q → IsDead q) → IsSoundScan qs first limits scan → ShowsDead qs scan
shows qs first limits scan played last sound = record {
  later = λ j q later there. from_ply qs played scan.ply scan.earlier last sound.earlier j q later there;
  sooner = λ clear j q sooner there dead. before_edge qs played first limits scan.ply scan.edge sound.edge clear j q sooner there dead;
}
