-- What the rounds answer, and which calls they make (this project).
use Rattle.std.specs.Prelude.{◌≡◌, ℕ, ◌-◌, ◌%◌, ◌<◌, ◌≤◌, ⊤, ◌⊎◌, List, [], ◌∷◌, length, slice_get, Some, None, Result, Ok, Contains}
use Rattle.cha_list.specs.declared.memory.NoMemory.{NoMemory}
use Rattle.cha_board.specs.declared.men.Color.{Color}
use Rattle.cha_board.specs.Board.{Board}
use Rattle.cha_moves.specs.Step.{Move}
use Rattle.cha_moves.specs.Moves.{after, legal}
use Rattle.cha_moves.specs.Ends.{IsMatingLine, HasNoMateWithin}
use Rattle.cha_moves.specs.Lines.{HasLines}
use Rattle.cha_limits.specs.Bounds.{Bounds}
use Rattle.cha_fact.specs.declared.fact.Fact.{Fact}
use Rattle.cha_fact.specs.declared.fact.Fact.TheVariants.{Mate as MateFact, NoneWithin as NoneFact}
use Rattle.cha_fact.specs.declared.calls.Probe.{Probe}
use Rattle.cha_fact.specs.declared.calls.Probe.TheVariants.{Found, Miss, Refused}
use Rattle.cha_fact.specs.declared.calls.Stored.{Stored}
use Rattle.cha_fact.specs.Keys.{key_of}
use Rattle.cha_fact.specs.Truths.{Claim}
use Rattle.cha_fact.specs.Entries.{Entry, probe_entry, store_entry, HasFound, IsSearched}
use Rattle.helpmate.specs.declared.answers.RoundAnswer.{RoundAnswer}
use Rattle.helpmate.specs.declared.answers.RoundAnswer.TheVariants.{Mate as MateAnswer, NoneWithin as NoneAnswer, Spent}
use Rattle.helpmate.specs.Rounds.{decided_by}
use Rattle.root_workers.specs.Shares.{AllGrow}
use Rattle.root_workers.specs.declared.answers.RoundsEnd.{RoundsEnd}
use Rattle.root_workers.specs.declared.answers.RoundsEnd.TheVariants.{Mate, NoneWithin}

-- the answer is a mate
abbrev pub IsMateEnd : RoundsEnd → Type 0
IsMateEnd (Mate line) = ⊤
IsMateEnd (NoneWithin d) = ⊥

-- an answer is true: the line mates, or no list of at most so many legal moves does, at least 2; and these are as many as the
-- limit, or as many lines of at most so many moves exist as a worker may expand positions
abbrev pub IsEnd : Board → Color → Bounds → RoundsEnd → Type 0
IsEnd q w limits (Mate line) = IsMatingLine q w line × (length line ≤ 40)
IsEnd q w limits (NoneWithin d) = HasNoMateWithin q w d × (2 ≤ d) × (d ≤ limits.depth) × ((d ≡ limits.depth) ⊎ HasLines q d limits.budget)

-- the budget is ample: there are not as many lines of fewer moves than the depth
abbrev pub IsAmple : Board → Bounds → Type 0
IsAmple q limits = HasLines q (limits.depth - 1) limits.budget → ⊥

-- an answer is what a fact decides by itself
abbrev pub IsDecidedEnd : ℕ → RoundAnswer → RoundsEnd → Type 0
IsDecidedEnd depth (MateAnswer line) end = end ≡ Mate line
IsDecidedEnd depth NoneAnswer end = end ≡ NoneWithin depth
IsDecidedEnd depth Spent end = ⊥

-- what was found first is the answer without a further call, where it decides
abbrev pub FollowsFirst : ℕ → Probe → List Entry → RoundsEnd → Type 0
FollowsFirst depth Miss rest end = ⊤
FollowsFirst depth Refused rest end = ⊤
FollowsFirst depth (Found row) rest end = (answer : RoundAnswer) → decided_by depth row.fact ≡ Some answer → IsDecidedEnd depth answer end × (rest ≡ [])

-- what was found, if anything was, does not decide
abbrev pub IsUndecided : ℕ → Probe → Type 0
IsUndecided depth Miss = ⊤
IsUndecided depth Refused = ⊤
IsUndecided depth (Found row) = decided_by depth row.fact ≡ None

-- an answer as a fact
abbrev pub fact_of : RoundsEnd → Fact
fact_of (Mate line) = MateFact line
fact_of (NoneWithin d) = NoneFact d

-- an answer as what is kept of a position
abbrev pub claim_of : Board → Color → RoundsEnd → Claim
claim_of q w end = record { position = q; winner = w; fact = fact_of end }

-- the entries have a store of the answer
unfoldable pub HasEndStore : List Entry → Board → Color → RoundsEnd → Type 0
HasEndStore entries q w end = (reply : Stored) × Contains entries (store_entry (claim_of q w end) reply)

-- the entries are a store of the answer, and nothing else
unfoldable pub IsEndStore : List Entry → Board → Color → RoundsEnd → Type 0
IsEndStore entries q w end = (reply : Stored) × (entries ≡ store_entry (claim_of q w end) reply ∷ [])

-- The calls of the rounds: the first is a probe of the position by the first worker. Where what it finds decides, that is the
-- answer, and the first worker calls no more. Where it does not, the answer was given to keep, and to 4 plies that is the only other call of
-- the first worker. Where there is no mate within d plies, d more than 4, and no probe of the position found that, the position after each
-- root move i was searched to one ply less by worker i mod count.
pub record RoundsCalls {S : Type 0} (made : S → List Entry → S → Type 0) (made_by : ℕ → S → List Entry → S → Type 0) (count : ℕ) (old new : S) (q : Board) (w : Color) (limits : Bounds) (result : Result RoundsEnd NoMemory) : Type 0 where
  pub reply : Probe
  pub rest : List Entry
  pub entered : made old (probe_entry (key_of q w) reply ∷ rest) new
  pub follows : (end : RoundsEnd) → result ≡ Ok end → FollowsFirst limits.depth reply rest end
  pub stores : (end : RoundsEnd) → result ≡ Ok end → IsUndecided limits.depth reply → HasEndStore rest q w end
  pub few : (end : RoundsEnd) → result ≡ Ok end → limits.depth ≤ 4 → IsUndecided limits.depth reply → IsEndStore rest q w end
  pub searched : (d : ℕ) → result ≡ Ok (NoneWithin d) → 4 < d → (HasFound (probe_entry (key_of q w) reply ∷ rest) q w d → ⊥)
      → (i : ℕ) (m : Move) → slice_get (legal q) i ≡ Some m → (entries : List Entry) × made_by (i % count) old entries new × IsSearched entries (after q m) w (d - 1)
  pub grows : AllGrow made_by old new count
