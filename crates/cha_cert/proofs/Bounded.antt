-- The law: a valid certificate shows that no series of legal moves mates.
use Rattle.std.proofs.Common.{◌≡◌, ◌<◌, List, [], ◌∷◌, length, get_or, sym, subst, ◌∙◌, arith}
use Rattle.std.specs.List.{All, Contains}
use Rattle.std.proofs.lemmas.List.{get_or-map, length-map}
use Rattle.cha_board.specs.declared.men.Color.{Color}
use Rattle.cha_board.specs.Board.{Board, IsValid}
use Rattle.cha_moves.specs.Step.{Move}
use Rattle.cha_moves.specs.Moves.{after}
use Rattle.cha_moves.specs.Ends.{IsMatingLine, IsUnwinnable}
use Rattle.mob_law.proofs.Law.{bounded}
use Rattle.mob_sets.specs.Rows.{sets_of}
use Rattle.mob_small.proofs.MenAlone.{bounded as men_bounded}
use Rattle.cha_cert.specs.declared.nodes.Node.{Node}
use Rattle.cha_cert.specs.declared.nodes.Part.{Part}
use Rattle.cha_cert.specs.declared.nodes.Part.TheVariants.{Inner, Leaf, Men}
use Rattle.cha_cert.specs.Certificates.{positions_of, AllValid, PartHolds, NodeHolds, IsValidCert}

-- what is known of the position of some node
record Known (w : Color) (nodes : List Node) (q : Board) : Type 0 where
  part : Part
  valid : IsValid q
  holds : PartHolds w nodes q part

-- A list of nodes that all hold:
module _ (w : Color) (nodes : List Node) (valid : AllValid nodes) (holds : All (NodeHolds w nodes) nodes) where
  known : (q : Board) → Contains (positions_of nodes) q → Known w nodes q
  known q there =
      let d : Node = record { position = q; part = Inner } in
      let inside : there.0 < length nodes = omega (arith, length-map nodes (λ node. node.position)) in
      let node = get_or nodes (there.0) d in
      let same : node.position ≡ q = sym (get_or-map (λ node. node.position) nodes (there.0) d q inside) ∙ there.2 in
      record {
        part = node.part;
        valid = subst IsValid same (valid (there.0) d inside);
        holds = subst (λ p. PartHolds w nodes p node.part) same (holds (there.0) d inside);
      }

  -- no list of legal moves from the position of a node mates: at a leaf by its sets, where the men show it alone by their law,
  -- and at an inner node since it is no mate itself, and the first move leads to the position of a node again
  never : (ms : List Move) (q : Board) (part : Part) → IsValid q → PartHolds w nodes q part → IsMatingLine q w ms → ⊥
  never [] q Inner good held line = held.no_mate line
  never (m ∷ rest) q Inner good held line =
      let next = known (after q m) (held.leads m line.0) in
      never rest (after q m) next.part next.valid next.holds line.1
  never [] q (Leaf sets) good held line = bounded q (sets_of sets) w good held.closed held.no_mate [] line
  never (m ∷ rest) q (Leaf sets) good held line = bounded q (sets_of sets) w good held.closed held.no_mate (m ∷ rest) line
  never [] q (Men reason) good held line = men_bounded q w reason good held [] line
  never (m ∷ rest) q (Men reason) good held line = men_bounded q w reason good held (m ∷ rest) line

pub valid_is_unwinnable : (p : Board) (w : Color) (nodes : List Node) → IsValidCert p w nodes → IsUnwinnable p w
valid_is_unwinnable p w [] cert ms line = cert.begins
valid_is_unwinnable p w (node ∷ nodes) cert ms line =
    let here = known w (node ∷ nodes) cert.positions cert.holds p (0, omega arith, cert.begins) in
    never w (node ∷ nodes) cert.positions cert.holds ms p here.part here.valid here.holds line
