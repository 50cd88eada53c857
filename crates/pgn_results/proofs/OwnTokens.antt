-- The tokens of a game's own bytes are those that it has in its text.
use Rattle.std.proofs.Common.{◌≡◌, ◌⊎◌, inl, inr, ℕ, ◌+◌, ◌-◌, ◌<◌, ◌≤◌, ◌==◌, Bool, true, false, not, if◌then◌else◌, List, [], ◌∷◌, ◌++◌, Some, length, map, take, drop, refl, sym, ap, ◌∙◌, subst, arith, append_assoc, append-nil, length-append}
use Rattle.std.specs.List.{fold}
use Rattle.std.proofs.lemmas.Bool.{eqb-true}
use Rattle.std.proofs.lemmas.List.{take-append-drop, length-take-le}
use Rattle.std.proofs.lemmas.List.Elements.{All-cons, All-head, All-tail, All-append}
use Rattle.cha_list.specs.declared.classes.Class.TheVariants.{InLine}
use Rattle.cha_list.specs.Bytes.{in_class}
use Rattle.pgn_lex.specs.Classes.{in_pgn_class}
use Rattle.pgn_lex.specs.declared.kinds.Token.{Token}
use Rattle.pgn_lex.specs.declared.kinds.Token.TheVariants.{Bad}
use Rattle.pgn_lex.specs.declared.kinds.Placed.{Placed}
use Rattle.pgn_lex.specs.declared.pieces.Piece.{Piece}
use Rattle.pgn_lex.specs.declared.stages.Next.TheVariants.{Over}
use Rattle.pgn_lex.specs.Pieces.{spoken_piece, is_white}
use Rattle.pgn_lex.specs.Tokens.{piece, line_after, tokens_after, tokens}
use Rattle.pgn_lex.specs.Stages.{next_stage, Machine, at_front, machine}
use Rattle.pgn_lex.proofs.Following.{is_plain}
use Rattle.pgn_lex.proofs.Feeding.{at_length, line_from, unmarked, no_mark_begins}
use Rattle.pgn_lex.proofs.InOrder.{places_inside}
use Rattle.pgn_lex.proofs.Joining.{moved_token, after_moved}
use Rattle.pgn_games.specs.Fields.{is_bad}
use Rattle.pgn_games.proofs.InOrder.{piece_bound}
use Rattle.pgn_results.proofs.Standing.{From, after_from, one_of_all}
use Rattle.pgn_results.proofs.Boundaries.{boundary}
use Rattle.pgn_results.proofs.Overs.{Before, front_of, over_there, over_plain}
use Rattle.pgn_results.proofs.Found.{Found, found_by, found}
use Rattle.pgn_results.proofs.PieceEnds.{over_behind, plain_behind, passed_from, none_behind}

-- tokens before a place, and tokens from it on, are parted in one way
parted : (n : ℕ) (xs ys us vs : List Placed) → Before n xs → From n ys → Before n us → From n vs → xs ++ ys ≡ us ++ vs → (xs ≡ us) × (ys ≡ vs)
parted n [] ys [] vs h i j k e = (refl, e)
parted n [] ys (u ∷ us) vs h i j k e =
    let low = one_of_all (λ (t : Placed). n ≤ t.offset) [] u (us ++ vs) (subst (From n) e i) in
    absurd (omega (arith, low, All-head (λ (t : Placed). t.offset < n) u us j))
parted n (x ∷ xs) ys [] vs h i j k e =
    let low = one_of_all (λ (t : Placed). n ≤ t.offset) [] x (xs ++ ys) (subst (From n) (sym e) k) in
    absurd (omega (arith, low, All-head (λ (t : Placed). t.offset < n) x xs h))
parted n (x ∷ xs) ys (u ∷ us) vs h i j k e =
    let same : x ≡ u = cc in
    let more = parted n xs ys us vs (All-tail (λ (t : Placed). t.offset < n) x xs h) i (All-tail (λ (t : Placed). t.offset < n) u us j) k (cc e) in
    (ap (λ y. y ∷ xs) same ∙ ap (λ zs. u ∷ zs) more.0, more.1)

-- a byte that begins nothing gives a bad token
bad_by : (n : ℕ) (first : Bool) (bs : List ℕ) → (n ≡ 239) ⊎ ((n ≡ 187) ⊎ (n ≡ 191)) → piece first n bs ≡ spoken_piece Bad 0
unfolding piece is_white in_pgn_class
bad_by n true bs (inl e) = rw e refl
bad_by n false bs (inl e) = rw e refl
bad_by n true bs (inr (inl e)) = rw e refl
bad_by n false bs (inr (inl e)) = rw e refl
bad_by n true bs (inr (inr e)) = rw e refl
bad_by n false bs (inr (inr e)) = rw e refl

is_not : (v : Bool) (b n : ℕ) → (b == n) ≡ v → (b ≡ n → ⊥) → (b == n) ≡ false
is_not true b n d e = absurd (e (eqb-true b n d))
is_not false b n d e = d

never_bad : (first : Bool) (b : ℕ) (bs : List ℕ) (token : Token) → is_bad token ≡ false → (piece first b bs).token ≡ Some token → ((b ≡ 239) ⊎ ((b ≡ 187) ⊎ (b ≡ 191))) → ⊥
unfolding is_bad
never_bad first b bs token good e h =
    let bad : Some Bad ≡ Some token = ap (λ (p : Piece). p.token) (sym (bad_by b first bs h)) ∙ e in
    let is : Bad ≡ token = cc in
    let no : true ≡ false = ap is_bad is ∙ good in
    cc

good_byte : (first : Bool) (b : ℕ) (bs : List ℕ) (token : Token) → is_bad token ≡ false → (piece first b bs).token ≡ Some token → ((b == 239) ≡ false) × ((b == 187) ≡ false) × ((b == 191) ≡ false)
good_byte first b bs token good e =
    let no = never_bad first b bs token good e in
    (is_not (b == 239) b 239 refl (λ is. no (inl is)), is_not (b == 187) b 187 refl (λ is. no (inr (inl is))), is_not (b == 191) b 191 refl (λ is. no (inr (inr is))))

-- whether a line begins there is nothing to a byte other than `%`
percent : (bs : List ℕ) → piece false 37 bs ≡ spoken_piece Bad 0
unfolding piece is_white in_pgn_class
percent bs = refl

first_by : (v : Bool) (b : ℕ) (bs : List ℕ) → (b == 37) ≡ v → v ≡ false → piece false b bs ≡ piece true b bs
unfolding piece
first_by true b bs d e = cc
first_by false b bs d e = rw d refl

no_percent : (b : ℕ) (bs : List ℕ) (token : Token) → is_bad token ≡ false → (piece false b bs).token ≡ Some token → (b == 37) ≡ false
unfolding is_bad
no_percent b bs token good e =
    is_not (b == 37) b 37 refl (λ is.
    let bad : Some Bad ≡ Some token = ap (λ (p : Piece). p.token) (sym (percent bs)) ∙ ap (λ x. (piece false x bs).token) (sym is) ∙ e in
    let same : Bad ≡ token = cc in
    let no : true ≡ false = ap is_bad same ∙ good in
    cc)

first_moved : (at line : ℕ) (b : ℕ) (bs : List ℕ) → piece false b bs ≡ piece true b bs → tokens_after 0 at line false (b ∷ bs) ≡ tokens_after 0 at line true (b ∷ bs)
unfolding tokens_after
first_moved at line b bs e = rw e refl

first_free : (first : Bool) (at line : ℕ) (b : ℕ) (bs bs' : List ℕ) (token : Token) → is_bad token ≡ false → (piece first b bs').token ≡ Some token
    → tokens_after 0 at line first (b ∷ bs) ≡ tokens_after 0 at line true (b ∷ bs)
first_free true at line b bs bs' token good e = refl
first_free false at line b bs bs' token good e = first_moved at line b bs (first_by (b == 37) b bs refl (no_percent b bs' token good e))

-- lines count from 1
line_low : (n b : ℕ) → n ≤ line_after n b
unfolding line_after
line_low n b = by (b == 10)
  where
    by : (v : Bool) → n ≤ (if v then n + 1 else n)
    by true = omega arith
    by false = omega arith

lines_low : (n : ℕ) (bytes : List ℕ) → n ≤ fold line_after n bytes
lines_low n [] = omega arith
lines_low n (b ∷ bytes) = omega (arith, line_low n b, lines_low (line_after n b) bytes)

cancel : (us xs ys : List Placed) → us ++ xs ≡ us ++ ys → xs ≡ ys
cancel [] xs ys e = e
cancel (u ∷ us) xs ys e = cancel us xs ys (cc e)

-- a game in its text, with its own bytes and what stands before and behind them
pub record Own (bytes : List ℕ) (t : Placed) (ts vs : List Placed) (end : ℕ) : Type 0 where
  pub front : List ℕ
  pub game : List ℕ
  pub rest : List ℕ
  pub lines : ℕ
  pub bytes_are : bytes ≡ front ++ (game ++ rest)
  pub start_is : t.offset ≡ length front
  pub end_is : end ≡ length front + length game
  pub tokens_are : t ∷ ts ≡ map (moved_token (length front) lines) (tokens game)
  pub later_are : From (length front + 1) ts
  pub behind_are : From end vs

-- a text that goes on behind a shorter one
longer : (a : List ℕ) (b : ℕ) (r w y : List ℕ) → a ++ b ∷ r ≡ w ++ y → length a < length w → (x : List ℕ) × (w ≡ a ++ b ∷ x)
longer a b r [] y e less = absurd (omega (arith, less))
longer [] b r (c ∷ w) y e less = let same : c ≡ b = cc in (w, ap (λ z. z ∷ w) same)
longer (x ∷ a) b r (c ∷ w) y e less =
    let same : c ≡ x = cc in
    let more = longer a b r w y (cc e) (omega (arith, less)) in
    (more.0, ap (λ z. z ∷ w) same ∙ ap (λ zs. x ∷ zs) more.1)

-- the last token stands where the first one does, or behind it
later_place : (a : List ℕ) (t : Placed) (ts vs gs : List Placed) (tl : Placed) → t ∷ ts ≡ gs ++ tl ∷ [] → t.offset ≡ length a → From (length a + 1) (ts ++ vs) → (t ≡ tl) ⊎ (length a < tl.offset)
later_place a t ts vs [] tl e at_is h = inl (let same : t ≡ tl = cc in same)
later_place a t ts vs (g ∷ gs) tl e at_is h =
    let is : ts ≡ gs ++ tl ∷ [] = cc e in
    let low = one_of_all (λ (t : Placed). length a + 1 ≤ t.offset) gs tl vs (subst (From (length a + 1)) (ap (λ xs. xs ++ vs) is ∙ append_assoc gs (tl ∷ []) vs) h) in
    inr (omega (arith, low))

-- up to the last token of a game
module _ (bytes : List ℕ) (us : List Placed) (t : Placed) (ts vs gs : List Placed) (tl : Placed) (e : tokens bytes ≡ us ++ ((t ∷ ts) ++ vs)) (last : t ∷ ts ≡ gs ++ tl ∷ []) (good : is_bad t.token ≡ false) where
  first_found : Found bytes us t (ts ++ vs)
  first_found = found bytes us t (ts ++ vs) e (λ f b r p. good_byte f b r t.token good p)

  behind_first : From (length first_found.front + 1) (ts ++ vs)
  behind_first =
      let f = first_found in
      let m : Machine = machine f.front in
      subst (From (length f.front + 1)) (sym f.vs_are)
      (subst (λ n. From (n + 1) (tokens_after (piece m.first f.b f.rest).more (m.at + 1) (line_after m.line f.b) (not (in_class InLine f.b)) f.rest)) (at_length f.front)
      (after_from (piece m.first f.b f.rest).more (m.at + 1) (line_after m.line f.b) (not (in_class InLine f.b)) f.rest))

  as_last : tokens bytes ≡ (us ++ gs) ++ tl ∷ vs
  as_last = e ∙ ap (λ xs. us ++ (xs ++ vs)) last ∙ ap (λ xs. us ++ xs) (append_assoc gs (tl ∷ []) vs) ∙ sym (append_assoc us gs (tl ∷ vs))

  last_over : (o : (t ≡ tl) ⊎ (length first_found.front < tl.offset)) (a : List ℕ) (b : ℕ) (r : List ℕ) (f : Bool) → bytes ≡ a ++ b ∷ r → tl.offset ≡ length a → (piece f b r).token ≡ Some tl.token
      → tokens (a ++ b ∷ r) ≡ (us ++ gs) ++ tl ∷ vs → next_stage (machine a).stage b ≡ Over
  last_over (inl same) a b r f is at_is p here = over_there a b r (us ++ gs) tl vs (good_byte f b r tl.token (ap (λ (x : Placed). is_bad x.token) (sym same) ∙ good) p) here at_is
  last_over (inr less) a b r f is at_is p here =
      let l = longer first_found.front first_found.b first_found.rest a (b ∷ r) (sym first_found.bytes_are ∙ is) (omega (arith, less, at_is)) in
      over_plain a b r (us ++ gs) tl vs (ap (λ xs. is_plain (machine xs).stage) l.1 ∙ plain_behind first_found.front first_found.b l.0 first_found.over) here at_is

  last_found : Found bytes (us ++ gs) tl vs
  last_found =
      found_by bytes (us ++ gs) tl vs as_last
      (λ a b r f is at_is p here. last_over (later_place first_found.front t ts vs gs tl last first_found.offset_is behind_first) a b r f is at_is p here)

  -- the text up to there
  size : ℕ
  size = (piece (machine last_found.front).first last_found.b last_found.rest).more

  within : List ℕ
  within = take size last_found.rest

  upto : List ℕ
  upto = last_found.front ++ last_found.b ∷ within

  size_is : length within ≡ size
  unfolding size within
  size_is = length-take-le size last_found.rest (piece_bound (machine last_found.front).first last_found.b last_found.rest)

  upto_is : bytes ≡ upto ++ drop size last_found.rest
  unfolding upto within
  upto_is =
      last_found.bytes_are ∙ ap (λ xs. last_found.front ++ last_found.b ∷ xs) (sym (take-append-drop size last_found.rest))
      ∙ sym (append_assoc last_found.front (last_found.b ∷ take size last_found.rest) (drop size last_found.rest))

  upto_size : length upto ≡ tl.end
  unfolding upto size
  upto_size = omega (arith, length-append last_found.front (last_found.b ∷ within), size_is, last_found.end_is)

  -- its tokens
  before_more : (n k : ℕ) (xs : List Placed) → n ≤ k → Before n xs → Before k xs
  before_more n k xs p h i d inside = let x = h i d inside in omega (arith, p, x)

  own_before : Before (length upto) (us ++ (t ∷ ts))
  own_before =
      let f = last_found in
      let is : us ++ (t ∷ ts) ≡ tokens f.front ++ tl ∷ [] = ap (λ xs. us ++ xs) last ∙ sym (append_assoc us gs (tl ∷ [])) ∙ ap (λ xs. xs ++ tl ∷ []) f.us_are in
      subst (Before (length upto)) (sym is)
      (All-append (λ (t : Placed). t.offset < length upto) (tokens f.front) (tl ∷ [])
      (before_more (length f.front) (length upto) (tokens f.front) (omega (arith, upto_size, f.end_is)) (places_inside f.front))
      (All-cons (λ (t : Placed). t.offset < length upto) tl [] (omega (arith, upto_size, f.end_is, f.offset_is)) (λ k d inside. absurd (omega arith))))

  behind_last : (ys : List ℕ) → drop size last_found.rest ≡ ys → vs ≡ tokens_after size ((machine last_found.front).at + 1) (line_after (machine last_found.front).line last_found.b) (not (in_class InLine last_found.b)) (within ++ ys)
  unfolding size within
  behind_last ys e =
      last_found.vs_are
      ∙ ap (tokens_after size ((machine last_found.front).at + 1) (line_after (machine last_found.front).line last_found.b) (not (in_class InLine last_found.b)))
      (sym (take-append-drop size last_found.rest) ∙ ap (λ xs. within ++ xs) e)

  upto_tokens : (ys : List ℕ) → drop size last_found.rest ≡ ys → (tokens upto ≡ us ++ (t ∷ ts)) × From (length upto) vs
  unfolding size within upto
  upto_tokens [] d =
      let m : Machine = machine last_found.front in
      let first = not (in_class InLine last_found.b) in
      let line = line_after m.line last_found.b in
      let none : vs ≡ [] =
      behind_last [] d ∙ ap (tokens_after size (m.at + 1) line first) (append-nil within) ∙ ap (λ n. tokens_after n (m.at + 1) line first within) (sym size_is) ∙ none_behind within (m.at + 1) line first in (
        ap tokens (sym (append-nil upto) ∙ ap (λ xs. upto ++ xs) (sym d) ∙ sym upto_is) ∙ e ∙ ap (λ xs. us ++ ((t ∷ ts) ++ xs)) none ∙ ap (λ xs. us ++ xs) (append-nil (t ∷ ts)),
        subst (From (length upto)) (sym none) (λ k d inside. absurd (omega arith)),
      )
  upto_tokens (c ∷ rs) d =
      let f = last_found in
      let m : Machine = machine f.front in
      let n = length upto in
      let rest_is : f.rest ≡ within ++ c ∷ rs = sym (take-append-drop size f.rest) ∙ ap (λ xs. within ++ xs) d in
      let over = over_behind f.front f.b within c rs f.over (ap (λ xs. (piece m.first f.b xs).more) (sym rest_is) ∙ sym size_is) in
      let m' : Machine = machine upto in
      let ys = tokens_after 0 m'.at m'.line m'.first (c ∷ rs) in
      let whole : tokens upto ++ ys ≡ (us ++ (t ∷ ts)) ++ vs = sym (boundary upto c rs over) ∙ ap tokens (ap (λ xs. upto ++ xs) (sym d) ∙ sym upto_is) ∙ e ∙ sym (append_assoc us (t ∷ ts) vs) in
      let line = line_after m.line f.b in
      let first = not (in_class InLine f.b) in
      let far : m.at + 1 + length within ≡ n = omega (arith, at_length f.front, length-append f.front (f.b ∷ within)) in
      let late : From n vs =
      subst (From n) (sym (behind_last (c ∷ rs) d)) (subst (λ k. From n (tokens_after k (m.at + 1) line first (within ++ c ∷ rs))) size_is
      (subst (λ k. From k (tokens_after (length within) (m.at + 1) line first (within ++ c ∷ rs))) far (passed_from within (c ∷ rs) (m.at + 1) line first))) in
      ((parted n (tokens upto) ys (us ++ (t ∷ ts)) vs (places_inside upto) (subst (λ k. From k ys) (at_length upto) (after_from 0 m'.at m'.line m'.first (c ∷ rs))) own_before late whole).0, late)

  pub own : Own bytes t ts vs tl.end
  own =
      let f = first_found in
      let g = last_found in
      let m : Machine = machine f.front in
      let a = f.front in
      let b = f.b in
      let ys = drop size g.rest in
      let start_low = one_of_all (λ (t : Placed). t.offset < length upto) us t ts own_before in
      let l = longer a b f.rest upto ys (sym f.bytes_are ∙ upto_is) (omega (arith, f.offset_is, start_low)) in
      let game = b ∷ l.0 in
      let k = m.line - 1 in
      let low = lines_low 1 a in
      let line_is : m.line ≡ k + 1 = omega (arith, low, line_from at_front a) in
      let at_is : m.at ≡ length a + 0 = omega (arith, at_length a) in
      let tests = good_byte m.first b f.rest t.token good f.token_is in
      let mine : t ∷ ts ≡ tokens_after 0 m.at m.line m.first game =
      cancel us (t ∷ ts) (tokens_after 0 m.at m.line m.first game) (sym (upto_tokens ys refl).0 ∙ ap tokens l.1 ∙ boundary a b l.0 f.over ∙ ap (λ xs. xs ++ tokens_after 0 m.at m.line m.first game) (sym f.us_are)) in
      record {
        front = a;
        game = game;
        rest = ys;
        lines = k;
        bytes_are = upto_is ∙ ap (λ xs. xs ++ ys) l.1 ∙ append_assoc a game ys;
        start_is = f.offset_is;
        end_is = sym upto_size ∙ ap length l.1 ∙ length-append a game;
        tokens_are = mine ∙ first_free m.first m.at m.line b l.0 f.rest t.token good f.token_is ∙ ap (λ n. tokens_after 0 n m.line true game) at_is
            ∙ ap (λ n. tokens_after 0 (length a + 0) n true game) line_is ∙ after_moved (length a) k 0 0 1 true game
            ∙ ap (map (moved_token (length a) k)) (sym (unmarked game (no_mark_begins b l.0 tests.0).0));
        behind_are = subst (λ n. From n vs) upto_size (upto_tokens ys refl).1;
        later_are = front_of (λ (t : Placed). length a + 1 ≤ t.offset) ts vs behind_first;
      }
