-- Where a piece begins, the text before it is read as if nothing followed.
use Rattle.std.proofs.Common.{◌≡◌, ℕ, List, [], ◌∷◌, ◌++◌, sym, ap, ◌∙◌, append_assoc}
use Rattle.pgn_lex.specs.declared.stages.Next.TheVariants.{Over}
use Rattle.pgn_lex.specs.Tokens.{tokens_after, tokens, settled_tokens}
use Rattle.pgn_lex.specs.Stages.{next_stage, Machine, stepped, machine}
use Rattle.pgn_lex.proofs.Left.{gives_at}
use Rattle.pgn_lex.proofs.Feeding.{said_at, fresh_gives, settled_first, ended_tokens, machine_more, settled_more}

pub boundary : (a : List ℕ) (b : ℕ) (bs : List ℕ) → next_stage (machine a).stage b ≡ Over
    → tokens (a ++ b ∷ bs) ≡ tokens a ++ tokens_after 0 (machine a).at (machine a).line (machine a).first (b ∷ bs)
unfolding stepped said_at
boundary a b bs e =
    let m : Machine = machine a in
    let more : machine (a ++ b ∷ []) ≡ stepped m b Over = machine_more a b ∙ ap (stepped m b) e in
    let said : settled_tokens (a ++ b ∷ []) ≡ tokens a = settled_more a b ∙ ap (λ n. settled_tokens a ++ said_at m n) e ∙ sym (ended_tokens a) in
    ap tokens (sym (append_assoc a (b ∷ []) bs)) ∙ settled_first (a ++ b ∷ []) bs ∙ ap (λ ts. ts ++ gives_at (machine (a ++ b ∷ [])).stage (machine (a ++ b ∷ [])) bs) said
    ∙ ap (λ (x : Machine). tokens a ++ gives_at x.stage x bs) more ∙ ap (λ ts. tokens a ++ ts) (sym (fresh_gives m b bs))
