-- What a lexer keeps, with one byte more.
use Rattle.std.proofs.Common.{◌≡◌, ℕ, ◌+◌, ◌≤◌, Bool, true, not, List, [], ◌∷◌, ◌++◌, Option, Some, None, length, take, refl, sym, ap, ◌∙◌, arith, append-nil, length-append}
use Rattle.cha_list.specs.declared.classes.Class.TheVariants.{InLine}
use Rattle.cha_list.specs.Bytes.{in_class}
use Rattle.pgn_lex.specs.declared.kinds.Token.{Token}
use Rattle.pgn_lex.specs.declared.kinds.Placed.{Placed}
use Rattle.pgn_lex.specs.declared.stages.Stage.{Stage}
use Rattle.pgn_lex.specs.declared.stages.Stage.TheVariants.{Start, MarkBegun, MarkGrown, Marked, Between, RestOfLine, InComment, AfterDollar, InNumber, InWord, InTag, InName, AfterName, InValue, AfterBackslash, AfterValue, TagRead, Spoilt, StarRead, EnterRead, LeaveRead, BadRead}
use Rattle.pgn_lex.specs.declared.stages.Next.{Next}
use Rattle.pgn_lex.specs.declared.stages.Next.TheVariants.{Stays, Over}
use Rattle.pgn_lex.specs.Tokens.{placed, line_after, tokens, settled_tokens}
use Rattle.pgn_lex.specs.Stages.{begun, next_stage, tokens_at, token_at, begins_line, word_after, grown_value, Machine, stepped, read_from, machine}
use Rattle.pgn_lex.specs.Lexing.{Appends, IsFed}
use Rattle.pgn_lex.proofs.Feeding.{said_at, machine_more, settled_more, ended_tokens, at_length}

-- before the first byte
pub fed_none : (fed word value : List ℕ) (r s : ℕ) → fed ≡ [] → word ≡ [] → value ≡ [] → 255 ≤ r → 4097 ≤ s → IsFed fed Start 0 1 0 0 true word value r s
unfolding read_from
fed_none fed word value r s e f g h i = rw (e, f, g) (record {
  stage_is = refl;
  start_is = refl;
  start_line_is = refl;
  at_is = refl;
  line_is = refl;
  few_feeds = omega arith;
  first_is = refl;
  word_is = refl;
  value_is = refl;
  has_word_room = h;
  has_value_room = i;
})

-- a piece has one token at most, and the two bytes of a mark have two
pub placed_one : (at end line : ℕ) (o : Option Token) → length (placed at end line o) ≤ 1
placed_one at end line None = omega arith
placed_one at end line (Some token) = omega arith

placed_few : (at end line : ℕ) (o : Option Token) → length (placed at end line o) ≤ 2
placed_few at end line o = omega (arith, placed_one at end line o)

few_tokens : (stage : Stage) (start end line : ℕ) (word value : List ℕ) → length (tokens_at stage start end line word value) ≤ 2
unfolding tokens_at
few_tokens Start start end line word value = placed_few start end line (token_at Start word value)
few_tokens MarkBegun start end line word value = omega arith
few_tokens MarkGrown start end line word value = omega arith
few_tokens Marked start end line word value = placed_few start end line (token_at Marked word value)
few_tokens Between start end line word value = placed_few start end line (token_at Between word value)
few_tokens RestOfLine start end line word value = placed_few start end line (token_at RestOfLine word value)
few_tokens InComment start end line word value = placed_few start end line (token_at InComment word value)
few_tokens AfterDollar start end line word value = placed_few start end line (token_at AfterDollar word value)
few_tokens InNumber start end line word value = placed_few start end line (token_at InNumber word value)
few_tokens InWord start end line word value = placed_few start end line (token_at InWord word value)
few_tokens InTag start end line word value = placed_few start end line (token_at InTag word value)
few_tokens InName start end line word value = placed_few start end line (token_at InName word value)
few_tokens AfterName start end line word value = placed_few start end line (token_at AfterName word value)
few_tokens InValue start end line word value = placed_few start end line (token_at InValue word value)
few_tokens AfterBackslash start end line word value = placed_few start end line (token_at AfterBackslash word value)
few_tokens AfterValue start end line word value = placed_few start end line (token_at AfterValue word value)
few_tokens TagRead start end line word value = placed_few start end line (token_at TagRead word value)
few_tokens Spoilt start end line word value = placed_few start end line (token_at Spoilt word value)
few_tokens StarRead start end line word value = placed_few start end line (token_at StarRead word value)
few_tokens EnterRead start end line word value = placed_few start end line (token_at EnterRead word value)
few_tokens LeaveRead start end line word value = placed_few start end line (token_at LeaveRead word value)
few_tokens BadRead start end line word value = placed_few start end line (token_at BadRead word value)

module _ (fed fed' : List ℕ) (stage : Stage) (start start_line at feeds : ℕ) (first : Bool) (word value : List ℕ) (r s : ℕ) (b : ℕ) (h : IsFed fed stage start start_line at feeds first word value r s) (grown : fed' ≡ fed ++ b ∷ []) where
  stepped_is : (next : Next) → next ≡ next_stage stage b → machine fed' ≡ stepped (machine fed) b next
  stepped_is next e = ap machine grown ∙ machine_more fed b ∙ ap (λ t. stepped (machine fed) b (next_stage t b)) (sym h.stage_is) ∙ ap (stepped (machine fed) b) (sym e)

  longer : at + 1 ≡ length fed'
  longer = omega (arith, h.at_is, ap length grown, length-append fed (b ∷ []))

  pub fed_stays : (now : Stage) (feeds' : ℕ) (first' : Bool) (word' value' : List ℕ) (r' s' : ℕ) → Stays now ≡ next_stage stage b → feeds' + 1 ≡ line_after (feeds + 1) b → feeds' ≤ feeds + 1 → first' ≡ begins_line now b
      → word' ≡ take 255 (word_after stage now b (machine fed).word) → value' ≡ take 4097 (grown_value stage now b (machine fed).value) → r ≤ r' → s ≤ s'
      → IsFed fed' now start start_line (at + 1) feeds' first' word' value' r' s'
  unfolding stepped
  fed_stays now feeds' first' word' value' r' s' e n few f g i j k =
      let m = stepped_is (Stays now) e in
      record {
        stage_is = ap (λ (x : Machine). x.stage) (sym m);
        start_is = h.start_is ∙ ap (λ (x : Machine). x.start) (sym m);
        start_line_is = h.start_line_is ∙ ap (λ (x : Machine). x.start_line) (sym m);
        at_is = longer;
        line_is = n ∙ ap (λ k. line_after k b) h.line_is ∙ ap (λ (x : Machine). x.line) (sym m);
        few_feeds = omega (arith, few, h.few_feeds);
        first_is = f ∙ ap (λ (x : Machine). x.first) (sym m);
        word_is = g ∙ ap (λ t. take 255 (word_after t now b (machine fed).word)) h.stage_is ∙ ap (λ (x : Machine). take 255 x.word) (sym m);
        value_is = i ∙ ap (λ t. take 4097 (grown_value t now b (machine fed).value)) h.stage_is ∙ ap (λ (x : Machine). take 4097 x.value) (sym m);
        has_word_room = omega (arith, h.has_word_room, j);
        has_value_room = omega (arith, h.has_value_room, k);
      }

  pub fed_over : (now : Stage) (line' feeds' : ℕ) (first' : Bool) (word' : List ℕ) (r' : ℕ) → Over ≡ next_stage stage b → line' ≡ feeds + 1 → feeds' + 1 ≡ line_after (feeds + 1) b → feeds' ≤ feeds + 1 → now ≡ begun first b → first' ≡ not (in_class InLine b)
      → word' ≡ b ∷ [] → r ≤ r' → IsFed fed' now at line' (at + 1) feeds' first' word' value r' s
  unfolding stepped
  fed_over now line' feeds' first' word' r' e l n few f g i j =
      let m = stepped_is Over e in
      record {
        stage_is = f ∙ ap (λ t. begun t b) h.first_is ∙ ap (λ (x : Machine). x.stage) (sym m);
        start_is = h.at_is ∙ sym (at_length fed) ∙ ap (λ (x : Machine). x.start) (sym m);
        start_line_is = l ∙ h.line_is ∙ ap (λ (x : Machine). x.start_line) (sym m);
        at_is = longer;
        line_is = n ∙ ap (λ k. line_after k b) h.line_is ∙ ap (λ (x : Machine). x.line) (sym m);
        few_feeds = omega (arith, few, h.few_feeds);
        first_is = g ∙ ap (λ (x : Machine). x.first) (sym m);
        word_is = i ∙ ap (λ (x : Machine). take 255 x.word) (sym m);
        value_is = h.value_is ∙ ap (λ (x : Machine). take 4097 x.value) (sym m);
        has_word_room = omega (arith, h.has_word_room, j);
        has_value_room = h.has_value_room;
      }

  said_is : (next : Next) → next ≡ next_stage stage b → settled_tokens fed' ≡ settled_tokens fed ++ said_at (machine fed) next
  said_is next e = ap settled_tokens grown ∙ settled_more fed b ∙ ap (λ t. settled_tokens fed ++ said_at (machine fed) (next_stage t b)) (sym h.stage_is) ∙ ap (λ n. settled_tokens fed ++ said_at (machine fed) n) (sym e)

  pub stays_tokens : (seen : List ℕ) (now : Stage) (out : List Placed) → seen ≡ fed → Stays now ≡ next_stage stage b → Appends out out (settled_tokens seen) (settled_tokens fed')
  unfolding said_at
  stays_tokens seen now out same e = record {
    added = [];
    appended = sym (append-nil out);
    are_next = said_is (Stays now) e ∙ ap (λ (x : List ℕ). settled_tokens x ++ []) (sym same);
    few = omega arith;
  }

  pub over_tokens : (seen : List ℕ) (out out' : List Placed) → seen ≡ fed → Over ≡ next_stage stage b
      → ((w v : List ℕ) → word ≡ take 255 w → value ≡ take 4097 v → out' ≡ out ++ tokens_at stage start at start_line w v) → Appends out out' (settled_tokens seen) (settled_tokens fed')
  unfolding said_at
  over_tokens seen out out' same e said = record {
    added = tokens_at stage start at start_line (machine fed).word (machine fed).value;
    appended = said (machine fed).word (machine fed).value h.word_is h.value_is;
    are_next = said_is Over e ∙ ap (λ t. settled_tokens fed ++ tokens_at t (machine fed).start (machine fed).at (machine fed).start_line (machine fed).word (machine fed).value) (sym h.stage_is)
        ∙ ap (λ n. settled_tokens fed ++ tokens_at stage n (machine fed).at (machine fed).start_line (machine fed).word (machine fed).value) (sym h.start_is)
        ∙ ap (λ n. settled_tokens fed ++ tokens_at stage start n (machine fed).start_line (machine fed).word (machine fed).value) (at_length fed ∙ sym h.at_is)
        ∙ ap (λ n. settled_tokens fed ++ tokens_at stage start at n (machine fed).word (machine fed).value) (sym h.start_line_is)
        ∙ ap (λ (x : List ℕ). settled_tokens x ++ tokens_at stage start at start_line (machine fed).word (machine fed).value) (sym same);
    few = few_tokens stage start at start_line (machine fed).word (machine fed).value;
  }

pub end_tokens : (fed seen : List ℕ) (stage : Stage) (start start_line at feeds : ℕ) (first : Bool) (word value : List ℕ) (r s : ℕ) (out out' : List Placed) → IsFed fed stage start start_line at feeds first word value r s → seen ≡ fed
    → ((w v : List ℕ) → word ≡ take 255 w → value ≡ take 4097 v → out' ≡ out ++ tokens_at stage start at start_line w v) → Appends out out' (settled_tokens seen) (tokens seen)
end_tokens fed seen stage start start_line at feeds first word value r s out out' h same said = record {
  added = tokens_at stage start at start_line (machine fed).word (machine fed).value;
  appended = said (machine fed).word (machine fed).value h.word_is h.value_is;
  are_next = ap tokens same ∙ ended_tokens fed ∙ ap (λ t. settled_tokens fed ++ tokens_at t (machine fed).start (machine fed).at (machine fed).start_line (machine fed).word (machine fed).value) (sym h.stage_is)
      ∙ ap (λ n. settled_tokens fed ++ tokens_at stage n (machine fed).at (machine fed).start_line (machine fed).word (machine fed).value) (sym h.start_is)
      ∙ ap (λ n. settled_tokens fed ++ tokens_at stage start n (machine fed).start_line (machine fed).word (machine fed).value) (at_length fed ∙ sym h.at_is)
      ∙ ap (λ n. settled_tokens fed ++ tokens_at stage start at n (machine fed).word (machine fed).value) (sym h.start_line_is)
      ∙ ap (λ (x : List ℕ). settled_tokens x ++ tokens_at stage start at start_line (machine fed).word (machine fed).value) (sym same);
  few = few_tokens stage start at start_line (machine fed).word (machine fed).value;
}
