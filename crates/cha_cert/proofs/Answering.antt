-- What a check answers.
use Rattle.std.proofs.Common.{◌≡◌, ℕ, List, [], ◌∷◌, Some, None, slice_get, sym, ap, ◌∙◌, ◌↔◌, arith}
use Rattle.cha_board.specs.declared.men.Color.{Color}
use Rattle.cha_board.specs.Board.{Board}
use Rattle.cha_cert.specs.declared.nodes.Node.{Node}
use Rattle.cha_cert.specs.Certificates.{BeginsAt, AllValid, NodeHolds, IsValidCert, FirstFailing, FailsFirst}

-- where each node holds, the certificate is valid
pub none_fails : (p : Board) (w : Color) (nodes : List Node) → BeginsAt p nodes → AllValid nodes → FirstFailing (NodeHolds w nodes) nodes None → IsValidCert p w nodes
none_fails p w nodes begins positions holds = record { begins = begins; positions = positions; holds = holds }

-- a list that begins with a node
begins_with : (p : Board) (nodes : List Node) (first : Node) → slice_get nodes 0 ≡ Some first → first.position ≡ p → BeginsAt p nodes
begins_with p [] first e same = cc
begins_with p (node ∷ nodes) first e same = (let one : node ≡ first = cc in ap (λ n. n.position) one ∙ same)

begun : (p : Board) (nodes : List Node) (first : Node) → slice_get nodes 0 ≡ Some first → BeginsAt p nodes → first.position ≡ p
begun p [] first e begins = absurd begins
begun p (node ∷ nodes) first e begins = (let one : node ≡ first = cc in sym (ap (λ n. n.position) one) ∙ begins)

pub begins_there : (p : Board) (nodes : List Node) (first : Node) → slice_get nodes 0 ≡ Some first → (BeginsAt p nodes) ↔ (first.position ≡ p)
begins_there p nodes first e = (begun p nodes first e, begins_with p nodes first e)

-- where a node fails that is the first to, the certificate is not valid
pub one_fails : (p : Board) (w : Color) (nodes : List Node) (i : ℕ) → BeginsAt p nodes → FirstFailing (NodeHolds w nodes) nodes (Some i)
    → (FailsFirst p w nodes i) × (IsValidCert p w nodes → ⊥)
one_fails p w [] i begins f = absurd begins
one_fails p w (node ∷ nodes) i begins f = (
  record {
    below = (let inside = f.0 in omega (arith, inside));
    before = λ j less. record {
      inside = (let inside = f.0 in omega (arith, inside, less));
      begins = λ first. begins;
      holds = λ d. f.1 j d less;
    };
    fails = λ good. f.2 node (good.holds node);
  },
  λ cert. f.2 node (cert.holds i node f.0),
)
