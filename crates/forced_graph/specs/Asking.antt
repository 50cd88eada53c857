-- What is asked of a place that keeps facts (this project).
use Rattle.std.specs.Prelude.{◌≡◌, ℕ, List, [], ◌∷◌, length, Option, None, Some, Result, Ok, Contains}
use Rattle.cha_list.specs.declared.memory.NoMemory.{NoMemory}
use Rattle.cha_board.specs.declared.men.Color.{Color}
use Rattle.cha_board.specs.Board.{Board}
use Rattle.cha_moves.specs.Step.{Move}
use Rattle.cha_fact.specs.declared.fact.Fact.{Fact}
use Rattle.cha_fact.specs.declared.fact.Fact.TheVariants.{Mate as MateFact, NoneWithin as NoneFact}
use Rattle.cha_fact.specs.declared.calls.Probe.{Probe}
use Rattle.cha_fact.specs.declared.calls.Probe.TheVariants.{Found, Miss, Refused}
use Rattle.cha_fact.specs.Keys.{key_of}
use Rattle.cha_fact.specs.Entries.{Entry, probe_entry}
use Rattle.cha_cert.specs.declared.nodes.Node.{Node}
use Rattle.forced_graph.specs.declared.explored.Explored.{Explored}
use Rattle.forced_graph.specs.declared.explored.Explored.TheVariants.{Closed, Spent}
use Rattle.forced_graph.specs.Outcomes.{HasExpandedInner}

-- the line of a fact, if it is a mate
abbrev pub line_of_fact : Fact → Option (List Move)
line_of_fact (MateFact line) = Some line
line_of_fact (NoneFact n) = None

-- the line of a reply, if it is a mate; there is none where memory for it was refused
abbrev pub line_of_reply : Probe → Option (List Move)
line_of_reply Miss = None
line_of_reply Refused = None
line_of_reply (Found row) = line_of_fact row.fact

-- a place was asked once, for a position, and its reply is the answer
abbrev pub IsAsked : {S : Type 0} → (S → List Entry → S → Type 0) → S → S → Board → Color → Option (List Move) → Type 0
IsAsked made old new q w result = (reply : Probe) × made old (probe_entry (key_of q w) reply ∷ []) new × (result ≡ line_of_reply reply)

-- each of these entries asks for a position and the side, and the reply is no mate
unfoldable pub AskInVain : Color → List Entry → Type 0
AskInVain w entries = (e : Entry) → Contains entries e → (q : Board) × (reply : Probe) × (e ≡ probe_entry (key_of q w) reply) × (line_of_reply reply ≡ None)

-- a place was asked so often, and no reply was a mate
abbrev pub HasCalled : {S : Type 0} → (S → List Entry → S → Type 0) → S → S → Color → ℕ → Type 0
HasCalled made old new w n = (entries : List Entry) × made old entries new × (length entries ≡ n) × AskInVain w entries

-- a place was asked, and the inner nodes of a certificate are positions that were expanded, at most as many as calls
abbrev pub HasAskedForInner : {S : Type 0} → (S → List Entry → S → Type 0) → S → S → Board → Color → List Node → Type 0
HasAskedForInner made old new q w cert = (n : ℕ) × HasCalled made old new w n × HasExpandedInner q w n cert

-- where the budget is spent, a place was asked as often as positions were expanded; and where there is a certificate, at least as often as
-- positions were of which its inner nodes are
abbrev pub AsksEach : {S : Type 0} → (S → List Entry → S → Type 0) → S → S → Board → Color → Result Explored NoMemory → Type 0
AsksEach made old new q w result =
    ((n : ℕ) → result ≡ Ok (Spent n) → HasCalled made old new w n) × ((cert : List Node) → result ≡ Ok (Closed cert) → HasAskedForInner made old new q w cert)
