-- The verdict on a side as a value (this project).
use Rattle.std.specs.Prelude.{ℕ, Bool, if◌then◌else◌, List, [], ◌∷◌, length, codes}
use Rattle.cha_board.specs.declared.men.Color.{Color}
use Rattle.cha_board.specs.Board.{Board}
use Rattle.cha_cert.specs.declared.nodes.Node.{Node}
use Rattle.cha_cert.specs.declared.nodes.Part.{Part}
use Rattle.cha_cert.specs.declared.nodes.Part.TheVariants.{Inner, Leaf, Men}
use Rattle.cha_cert.specs.Shared.{shared_of}
use Rattle.cert_text.specs.SharedSpelled.{shared_text}
use Rattle.cha_moves.specs.Step.{Move}
use Rattle.cha_verdict.specs.declared.verdicts.Verdict.{Verdict}
use Rattle.cha_verdict.specs.declared.verdicts.Verdict.TheVariants.{Winnable, Unwinnable, Undecided, Skipped}
use Rattle.json.specs.Json.{Json, string, array, object, Members, no_members, member}
use Rattle.report_style.specs.declared.styles.Extras.{Extras}
use Rattle.json_report.specs.declared.grounds.Ground.{Ground}
use Rattle.json_report.specs.declared.grounds.Ground.TheVariants as grounds
use Rattle.mob_small.specs.Reasons.{reason_name}
use Rattle.json_report.specs.Lines.{count, texts, fens_of, line_members}

-- what a certificate of one node rests on, by its part
abbrev pub ground_by : Part → Ground
ground_by Inner = grounds.Graph
ground_by (Leaf sets) = grounds.Sets
ground_by (Men reason) = grounds.Men reason

-- what a certificate rests on: of one node that is a leaf, on that leaf; of all else on the graph of its nodes
abbrev pub ground_of : List Node → Ground
ground_of [] = grounds.Graph
ground_of (node ∷ []) = ground_by node.part
ground_of (node ∷ next ∷ nodes) = grounds.Graph

-- its name, before further members, and of a graph also how many nodes it has
unfoldable pub ground_members : Ground → ℕ → Members → Members
ground_members grounds.Sets nodes more = member (codes "by") (string (codes "sets")) more
ground_members (grounds.Men reason) nodes more = member (codes "by") (string (reason_name reason)) more
ground_members grounds.Graph nodes more = member (codes "by") (string (codes "graph")) (member (codes "nodes") (count nodes) more)

-- the certificate of a side that cannot mate, its equal sets written once, where certificates are printed
abbrev pub cert_members : Bool → Color → List Node → Members
cert_members certs winner cert = if certs then member (codes "certificate") (string (shared_text winner (shared_of cert))) no_members else no_members

-- the position after each move of a line, where these are printed
abbrev pub fen_members : Bool → Board → List Move → Members
fen_members fens q ms = if fens then member (codes "fens") (array (texts (fens_of q ms))) no_members else no_members

-- what is found about a side in a position
unfoldable pub verdict_members : Extras → Board → Color → Verdict → Members
verdict_members extras q winner (Winnable moves) =
    member (codes "verdict") (string (codes "winnable")) (member (codes "plies") (count (length moves)) (line_members q moves (fen_members extras.fens q moves)))
verdict_members extras q winner (Unwinnable cert) =
    member (codes "verdict") (string (codes "unwinnable")) (ground_members (ground_of cert) (length cert) (cert_members extras.certs winner cert))
verdict_members extras q winner (Undecided positions depth) =
    member (codes "verdict") (string (codes "undecided")) (member (codes "positions") (count positions) (member (codes "depth") (count depth) no_members))
verdict_members extras q winner Skipped = member (codes "verdict") (string (codes "skipped")) no_members

-- the verdict on a side in a position
abbrev pub verdict_json : Extras → Board → Color → Verdict → Json
verdict_json extras q winner verdict = object (verdict_members extras q winner verdict)
