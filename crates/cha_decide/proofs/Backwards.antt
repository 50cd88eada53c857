-- What is found on the way back through a game.
use Rattle.std.proofs.Common.{◌≡◌, ℕ, ◌+◌, ◌-◌, ◌<◌, false, List, [], ◌++◌, length, Option, Some, None, slice_get, refl, ◌∙◌, subst, arith}
use Rattle.cha_board.specs.declared.men.Color.{Color}
use Rattle.cha_board.specs.declared.men.Color.TheVariants.{White, Black}
use Rattle.cha_board.specs.Board.{Board}
use Rattle.cha_fact.specs.Entries.{Entry, MadeSome}
use Rattle.cha_verdict.specs.declared.verdicts.Verdict.{Verdict}
use Rattle.cha_verdict.specs.declared.verdicts.Verdict.TheVariants.{Winnable, Unwinnable, Undecided, Skipped}
use Rattle.cha_verdict.specs.declared.decisions.Decision.{Decision}
use Rattle.cha_verdict.specs.declared.scans.EarlierCerts.{EarlierCerts}
use Rattle.cha_verdict.specs.declared.scans.Edge.{Edge}
use Rattle.cha_verdict.specs.declared.scans.Edge.TheVariants.{Start, Live, Unclear}
use Rattle.cha_limits.specs.Bounds.{Bounds}
use Rattle.cha_verdict.specs.Verdicts.{is_winnable, is_skipped, IsPrintable}
use Rattle.cha_verdict.specs.Sound.{IsSound}
use Rattle.cha_verdict.specs.Scans.{IsEarlier, IsOpenEdge, HasEdge}
use Rattle.cha_decide.specs.declared.scanning.EarlierPly.TheVariants.{Dead}
use Rattle.cha_decide.specs.declared.scanning.DeadPly.{DeadPly}
use Rattle.cha_decide.specs.declared.scanning.OpenPly.{OpenPly}
use Rattle.cha_decide.specs.Scanning.{edge_by, certs_by, IsFoundAt, IsShownAt, IsOpenAt, IsScanFound}

module _ (q : Board) (limits : Bounds) where
  abbrev both : Verdict → Verdict → Decision
  both white black = record { white = white; black = black }

  -- verdicts that show the position dead have its certificates
  found_both : (first : Color) (white black : Verdict) (certs : EarlierCerts) → IsSound q first limits (both white black) → IsPrintable white → IsPrintable black → certs_by white black ≡ Some certs
      → IsFoundAt q first limits (Dead certs)
  found_both first (Unwinnable w) (Unwinnable b) certs sound on_white on_black is =
      let same : record { white = w; black = b } ≡ certs = cc in
      let holds : IsFoundAt q first limits (Dead (record { white = w; black = b })) = (record { white = sound.true_of White; black = sound.true_of Black }, record { white = on_white; black = on_black }) in
      subst (λ (c : EarlierCerts). IsFoundAt q first limits (Dead c)) same holds
  found_both first (Unwinnable w) (Winnable ms) certs sound on_white on_black is = cc
  found_both first (Unwinnable w) (Undecided positions depth) certs sound on_white on_black is = cc
  found_both first (Unwinnable w) Skipped certs sound on_white on_black is = cc
  found_both first (Winnable ms) black certs sound on_white on_black is = cc
  found_both first (Undecided positions depth) black certs sound on_white on_black is = cc
  found_both first Skipped black certs sound on_white on_black is = cc

  -- where neither side can mate, none was skipped
  none_skipped : (first : Color) (white black : Verdict) → IsSound q first limits (both white black) → is_winnable white ≡ false → is_winnable black ≡ false
      → (is_skipped white ≡ false) × (is_skipped black ≡ false)
  none_skipped White white black sound on_white on_black = (sound.examined, sound.other ∙ on_white)
  none_skipped Black white black sound on_white on_black = (sound.other ∙ on_black, sound.examined)

  -- and other verdicts make an open edge
  open_edge : (first : Color) (white black : Verdict) → IsSound q first limits (both white black) → certs_by white black ≡ None → IsOpenEdge q first limits (edge_by (is_winnable white) (is_winnable black))
  open_edge first (Winnable ms) black sound is = (both (Winnable ms) black, sound, refl)
  open_edge first (Unwinnable w) (Winnable ms) sound is = (both (Unwinnable w) (Winnable ms), sound, refl)
  open_edge first (Undecided positions depth) (Winnable ms) sound is = (both (Undecided positions depth) (Winnable ms), sound, refl)
  open_edge first Skipped (Winnable ms) sound is = (both Skipped (Winnable ms), sound, refl)
  open_edge first (Unwinnable w) (Unwinnable b) sound is = cc
  open_edge first (Unwinnable w) (Undecided positions depth) sound is = (both (Unwinnable w) (Undecided positions depth), sound, refl, refl)
  open_edge first (Undecided positions depth) (Unwinnable b) sound is = (both (Undecided positions depth) (Unwinnable b), sound, refl, refl)
  open_edge first (Undecided positions depth) (Undecided more deeper) sound is = (both (Undecided positions depth) (Undecided more deeper), sound, refl, refl)
  open_edge first (Unwinnable w) Skipped sound is = let no = (none_skipped first (Unwinnable w) Skipped sound refl refl).1 in cc
  open_edge first (Undecided positions depth) Skipped sound is = let no = (none_skipped first (Undecided positions depth) Skipped sound refl refl).1 in cc
  open_edge first Skipped (Unwinnable b) sound is = let no = (none_skipped first Skipped (Unwinnable b) sound refl refl).0 in cc
  open_edge first Skipped (Undecided positions depth) sound is = let no = (none_skipped first Skipped (Undecided positions depth) sound refl refl).0 in cc
  open_edge first Skipped Skipped sound is = let no = (none_skipped first Skipped Skipped sound refl refl).0 in cc

  pub found_dead : (first : Color) (d : Decision) (certs : EarlierCerts) → IsSound q first limits d → IsPrintable d.white → IsPrintable d.black → certs_by d.white d.black ≡ Some certs → IsFoundAt q first limits (Dead certs)
  found_dead first d certs sound on_white on_black is = found_both first d.white d.black certs sound on_white on_black is

  pub found_open : (first : Color) (d : Decision) → IsSound q first limits d → certs_by d.white d.black ≡ None → IsOpenEdge q first limits (edge_by (is_winnable d.white) (is_winnable d.black))
  found_open first d sound is = open_edge first d.white d.black sound is

-- a ply before the last one that is dead
pub shown_at : (qs : List Board) (first : Color) (limits : Bounds) (ply : ℕ) (q : Board) (certs : EarlierCerts) → ply + 1 < length qs → slice_get qs ply ≡ Some q → IsFoundAt q first limits (Dead certs)
    → IsShownAt qs (record { ply = ply; certs = Some certs })
shown_at qs first limits ply q certs few there found = record { earlier = (few, q, there, found.0); printable = found.1 }

-- a dead ply is one of the game
pub shown_inside : (qs : List Board) (dead : DeadPly) → IsShownAt qs dead → dead.ply < length qs
shown_inside qs dead shown = inside dead.certs shown.earlier
  where
    inside : (certs : Option EarlierCerts) → IsEarlier qs dead.ply certs → dead.ply < length qs
    inside None is = omega (arith, is)
    inside (Some c) is = let few = is.0 in omega (arith, few)

module _ (qs : List Board) (first : Color) (limits : Bounds) where
  edge_there : (ply : ℕ) (q : Board) (edge : Edge) → 0 < ply → slice_get qs (ply - 1) ≡ Some q → IsOpenEdge q first limits edge → HasEdge qs first limits ply edge
  edge_there ply q Start some there is = absurd is
  edge_there ply q Live some there is = (some, q, there, is)
  edge_there ply q Unclear some there is = (some, q, there, is)

  -- a dead ply right behind an open one
  pub found_scan : (dead : DeadPly) (at : OpenPly) → IsShownAt qs dead → IsOpenAt qs first limits at → at.ply + 1 ≡ dead.ply → IsScanFound qs first limits (record { ply = dead.ply; edge = at.edge; earlier = dead.certs })
  found_scan dead at shown is next =
      let same : at.ply ≡ dead.ply - 1 = omega (arith, next) in
      let there : slice_get qs (dead.ply - 1) ≡ Some is.0 = subst (λ k. slice_get qs k ≡ Some is.0) same is.1 in
      record {
        sound = record { earlier = shown.earlier; edge = edge_there dead.ply is.0 at.edge (omega (arith, next)) there is.2 };
        printable = shown.printable;
      }

module _ {S : Type 0} (made : S → List Entry → S → Type 0) where
  pub made_none : (s : S) → made s [] s → MadeSome made s s
  made_none s h = ([], h)

  pub made_both : ((a b c : S) (xs ys : List Entry) → made a xs b → made b ys c → made a (xs ++ ys) c) → (a b c : S) → MadeSome made a b → MadeSome made b c → MadeSome made a c
  made_both joined a b c one two = (_, joined a b c one.0 two.0 one.1 two.1)
