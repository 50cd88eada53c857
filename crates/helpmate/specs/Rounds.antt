-- What a round answers, and which calls of a place that keeps facts it makes (this project).
use Rattle.std.specs.Prelude.{◌≡◌, ℕ, zero, suc, ◌+◌, ◌<◌, ◌≤◌, ◌⊎◌, ⊤, List, [], ◌∷◌, ◌++◌, length, nat_lt, if◌then◌else◌, Option, Some, None, Result, Ok}
use Rattle.cha_list.specs.declared.memory.NoMemory.{NoMemory}
use Rattle.cha_board.specs.declared.men.Color.{Color}
use Rattle.cha_board.specs.Men.{other_color}
use Rattle.cha_board.specs.Board.{Board}
use Rattle.cha_moves.specs.Step.{Move}
use Rattle.cha_moves.specs.Moves.{after, legal}
use Rattle.cha_moves.specs.Ends.{IsMated, IsMatingLine, HasNoMateWithin}
use Rattle.cha_fact.specs.declared.fact.Fact.{Fact}
use Rattle.cha_fact.specs.declared.fact.Fact.TheVariants.{Mate as MateFact, NoneWithin as NoneFact}
use Rattle.cha_fact.specs.declared.calls.Probe.{Probe}
use Rattle.cha_fact.specs.declared.calls.Probe.TheVariants.{Found, Miss, Refused}
use Rattle.cha_fact.specs.declared.calls.Stored.{Stored}
use Rattle.cha_fact.specs.Keys.{key_of}
use Rattle.cha_fact.specs.Entries.{Entry, probe_entry, store_entry, none_within, IsSearched}
use Rattle.helpmate.specs.declared.answers.RoundAnswer.{RoundAnswer}
use Rattle.helpmate.specs.declared.answers.RoundAnswer.TheVariants.{Mate, NoneWithin, Spent}
use Rattle.helpmate.specs.declared.answers.RoundDone.{RoundDone}

-- an answer is true for a depth: the line mates and has at most so many moves, or no list of at most as many moves as the
-- depth mates; where positions are spent there is a depth to search
abbrev pub IsAnswer : Board → Color → ℕ → ℕ → RoundAnswer → Type 0
IsAnswer q winner depth most (Mate line) = IsMatingLine q winner line × (length line ≤ most)
IsAnswer q winner depth most NoneWithin = HasNoMateWithin q winner depth
IsAnswer q winner depth most Spent = 0 < depth

-- no more positions than were allowed
abbrev pub IsAllowed : Option ℕ → ℕ → Type 0
IsAllowed None positions = ⊤
IsAllowed (Some most) positions = positions ≤ most

-- what a fact answers for a depth by itself: a mate of at most 32 moves, or no mate within as many plies or more
abbrev pub decided_by : ℕ → Fact → Option RoundAnswer
decided_by depth (MateFact line) = if nat_lt 32 (length line) then None else Some (Mate line)
decided_by depth (NoneFact n) = if nat_lt n depth then None else Some NoneWithin

-- what was found decides a search, if it can: the search has that answer, and made no further call and expanded nothing; and else,
-- also where nothing was found or memory for it was refused, the position was searched
abbrev pub FollowsReply : ℕ → Probe → List Entry → RoundAnswer → ℕ → Type 0 → Type 0
FollowsReply depth Miss rest answer n searched = searched
FollowsReply depth Refused rest answer n searched = searched
FollowsReply depth (Found row) rest answer n searched =
    ((known : RoundAnswer) → decided_by depth row.fact ≡ Some known → (answer ≡ known) × (n ≡ 0) × (rest ≡ [])) × (decided_by depth row.fact ≡ None → searched)

-- where two plies or more are to go, the first of these entries asks for the position; else none does
unfoldable pub AsksFirst : Board → Color → ℕ → List Entry → RoundAnswer → ℕ → (List Entry → Type 0) → Type 0
AsksFirst q winner zero entries answer n searched = searched entries
AsksFirst q winner (suc zero) entries answer n searched = searched entries
AsksFirst q winner (suc (suc depth)) entries answer n searched =
    (reply : Probe) × (rest : List Entry) × (entries ≡ probe_entry (key_of q winner) reply ∷ rest) × FollowsReply (suc (suc depth)) reply rest answer n (searched rest)

-- the answer at a position, by the one after a move of it
abbrev pub led_answer : Move → RoundAnswer → RoundAnswer
led_answer m (Mate line) = Mate (m ∷ line)
led_answer m NoneWithin = NoneWithin
led_answer m Spent = Spent

-- n positions were expanded after moves that were searched in order, those after one move added to those after the moves behind it, up to
-- the first move after which there is a mate or all is spent; where there is none, the last entries are those that keep this
unfoldable pub AreExpandedAfter : (Move → List Entry → RoundAnswer → ℕ → Type 0) → (List Entry → Type 0) → List Move → List Entry → RoundAnswer → ℕ → Type 0
AreExpandedAfter searched keeps [] entries answer n = keeps entries × (answer ≡ NoneWithin) × (n ≡ 0)
AreExpandedAfter searched keeps (m ∷ ms) entries answer n =
    ((own : List Entry) × (rest : List Entry) × (u : ℕ) × (v : ℕ) × (entries ≡ own ++ rest) × (n ≡ u + v) × searched m own NoneWithin u × AreExpandedAfter searched keeps ms rest answer v)
    ⊎ ((end : RoundAnswer) × (end ≡ NoneWithin → ⊥) × (answer ≡ led_answer m end) × searched m entries end n)

-- the one entry gives to keep that there is no mate within so many plies
abbrev pub KeepsNone : Board → Color → ℕ → List Entry → Type 0
KeepsNone q winner depth entries = (reply : Stored) × (entries ≡ store_entry (none_within q winner depth) reply ∷ [])

-- a position is not expanded: it is a mate, or nothing is left to spend
abbrev pub IsLeft : Board → Color → RoundAnswer → Type 0
IsLeft q winner answer = IsMated q (other_color winner) ⊎ (answer ≡ Spent)

-- n positions were expanded by these entries and for this answer, where no fact decided a position: none where no ply is to go,
-- and where it is left; and else the position, and from two plies on those that were expanded after its moves
unfoldable pub AreExpandedBy : List Entry → Board → Color → ℕ → RoundAnswer → ℕ → Type 0
AreExpandedBy entries q winner zero answer n = (entries ≡ []) × (n ≡ 0)
AreExpandedBy entries q winner (suc zero) answer n = (entries ≡ []) × (((n ≡ 0) × IsLeft q winner answer) ⊎ ((n ≡ 1) × (IsLeft q winner answer → ⊥)))
AreExpandedBy entries q winner (suc (suc depth)) answer n =
    ((entries ≡ []) × (n ≡ 0) × IsLeft q winner answer)
    ⊎ ((IsMated q (other_color winner) → ⊥) × (u : ℕ) × (n ≡ u + 1)
    × AreExpandedAfter (λ m own end v. AsksFirst (after q m) winner (suc depth) own end v (λ rest. AreExpandedBy rest (after q m) winner (suc depth) end v)) (KeepsNone q winner (suc (suc depth))) (legal q) entries answer u)

-- what was found is the answer of a round, if it decides, and nothing was expanded; and else the further entries tell what was
abbrev pub FollowsProbe : Board → Color → ℕ → Probe → List Entry → RoundAnswer → ℕ → Type 0
FollowsProbe q winner depth reply rest answer n = FollowsReply depth reply rest answer n (AreExpandedBy rest q winner depth answer n)

-- The calls of a round, whose entries a place tells by `made`. The first of them is a probe of the position. The entries and the
-- answer say how many positions were expanded.
pub record RoundCalls {S : Type 0} (made : S → List Entry → S → Type 0) (old new : S) (q : Board) (winner : Color) (depth : ℕ) (result : Result RoundDone NoMemory) : Type 0 where
  pub reply : Probe
  pub rest : List Entry
  pub entered : made old (probe_entry (key_of q winner) reply ∷ rest) new
  pub follows : (done : RoundDone) → result ≡ Ok done → FollowsProbe q winner depth reply rest done.round done.positions
  pub searched : (done : RoundDone) → result ≡ Ok done → done.round ≡ NoneWithin → IsSearched (probe_entry (key_of q winner) reply ∷ rest) q winner depth
