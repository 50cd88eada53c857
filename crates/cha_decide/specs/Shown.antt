-- What is found about one side.
use Rattle.std.specs.Prelude.{◌≡◌, ◌≤◌, ◌⊎◌, false, List, [], ◌∷◌, length, Result, Ok, ⊤}
use Rattle.std.specs.List.{All}
use Rattle.cha_list.specs.declared.memory.NoMemory.{NoMemory}
use Rattle.cha_board.specs.declared.men.Color.{Color}
use Rattle.cha_board.specs.Men.{other_color}
use Rattle.cha_board.specs.Board.{Board}
use Rattle.cha_moves.specs.Ends.{IsMated}
use Rattle.cha_cert.specs.declared.nodes.Node.{Node}
use Rattle.cha_cert.specs.declared.nodes.Part.TheVariants.{Inner}
use Rattle.cha_cert.specs.Certificates.{IsValidCert}
use Rattle.cha_fact.specs.Entries.{Entry, HasProbe}
use Rattle.forced_graph.specs.Outcomes.{HasExpanded, HasExpandedInner}
use Rattle.cha_verdict.specs.declared.verdicts.Verdict.{Verdict}
use Rattle.cha_verdict.specs.declared.verdicts.Verdict.TheVariants.{Winnable, Unwinnable, Undecided, Skipped}
use Rattle.cha_verdict.specs.declared.decisions.Decision.{Decision}
use Rattle.cha_cert.specs.AtOnce.{IsShownAtOnce}
use Rattle.cha_limits.specs.Bounds.{Bounds}
use Rattle.cha_verdict.specs.Verdicts.{is_skipped, IsPrintable}
use Rattle.cha_verdict.specs.Sound.{IsTrueOf, verdict_on}

-- a valid certificate, whose text can be written
pub record IsShownUnwinnable (q : Board) (winner : Color) (cert : List Node) : Type 0 where
  pub valid : IsValidCert q winner cert
  pub size : (1 ≤ length cert) × (length cert ≤ 4294967295)

-- no node of a certificate is an inner one: nothing was expanded for it
abbrev pub HasNoInner : List Node → Type 0
HasNoInner cert = All (λ node. node.part ≡ Inner → ⊥) cert

-- the same, of a certificate that no node of is an inner one
pub record IsShownAlone (q : Board) (winner : Color) (cert : List Node) : Type 0 where
  pub valid : IsValidCert q winner cert
  pub size : (1 ≤ length cert) × (length cert ≤ 4294967295)
  pub outer : HasNoInner cert

-- A position is expanded for a side only where nothing shows at once that the side cannot mate: this holds of the position that was asked
-- for and of each that a capture or a pawn's move led to. A certificate has no inner node, or its inner nodes were so expanded.
abbrev pub IsExpandedUnshown : Board → Color → Bounds → Verdict → Type 0
IsExpandedUnshown q winner limits (Winnable moves) = ⊤
IsExpandedUnshown q winner limits (Unwinnable cert) = HasNoInner cert ⊎ ((IsShownAtOnce q winner → ⊥) × HasExpandedInner q winner limits.budget cert)
IsExpandedUnshown q winner limits (Undecided positions depth) = (IsShownAtOnce q winner → ⊥) × HasExpanded q winner positions
IsExpandedUnshown q winner limits Skipped = ⊤

-- what is found about a side that is examined: its verdict is true and can be printed, and nothing was expanded for it that is shown at once
pub record IsFound (q : Board) (winner : Color) (limits : Bounds) (verdict : Verdict) : Type 0 where
  pub holds : IsTrueOf q winner limits verdict
  pub printable : IsPrintable verdict
  pub examined : is_skipped verdict ≡ false
  pub expanded : IsExpandedUnshown q winner limits verdict

-- the same whatever the limits are
abbrev pub IsFoundAlone : Board → Color → Verdict → Type 0
IsFoundAlone q winner verdict = (limits : Bounds) → IsFound q winner limits verdict

-- a side has not mated, and nothing shows without a search that it cannot
pub record IsOpen (q : Board) (winner : Color) : Type 0 where
  pub unmated : IsMated q (other_color winner) → ⊥
  pub unshown : IsShownAtOnce q winner → ⊥

-- a verdict that comes of a search: moves that mate, or that the budget was spent
abbrev pub IsOfSearch : Verdict → Type 0
IsOfSearch (Winnable []) = ⊥
IsOfSearch (Winnable (m ∷ ms)) = ⊤
IsOfSearch (Unwinnable cert) = ⊥
IsOfSearch (Undecided positions depth) = ⊤
IsOfSearch Skipped = ⊥

-- The entries that a decision made at a place that keeps facts. Where a verdict comes of a search, the position was asked for
-- there.
pub record Asked {S : Type 0} (made : S → List Entry → S → Type 0) (old new : S) (q : Board) (result : Result Decision NoMemory) : Type 0 where
  pub entries : List Entry
  pub entered : made old entries new
  pub asked : (d : Decision) → result ≡ Ok d → (winner : Color) → IsOfSearch (verdict_on d winner) → HasProbe entries q winner

-- the same of one side
pub record AskedFor {S : Type 0} (made : S → List Entry → S → Type 0) (old new : S) (q : Board) (winner : Color) (result : Result Verdict NoMemory) : Type 0 where
  pub entries : List Entry
  pub entered : made old entries new
  pub asked : (v : Verdict) → result ≡ Ok v → IsOfSearch v → HasProbe entries q winner
