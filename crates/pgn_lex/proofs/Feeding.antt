-- A byte that is fed, and what a lexer gives from there on.
use Rattle.std.proofs.Common.{◌≡◌, ℕ, zero, suc, ◌+◌, nat_lt, ◌==◌, ◌&&◌, Bool, true, false, not, if◌then◌else◌, List, [], ◌∷◌, ◌++◌, Some, length, refl, sym, ap, ◌∙◌, arith, append_assoc, append-nil}
use Rattle.std.specs.Bool.{⊤}
use Rattle.std.specs.List.{fold}
use Rattle.std.proofs.lemmas.Bool.{eqb-true}
use Rattle.std.proofs.lemmas.Bool.Decides.{nat_tests}
use Rattle.cha_list.specs.declared.classes.Class.TheVariants.{InLine}
use Rattle.cha_list.specs.Bytes.{in_class}
use Rattle.pgn_lex.specs.declared.classes.PgnClass.TheVariants.{WordByte}
use Rattle.pgn_lex.specs.Classes.{in_pgn_class}
use Rattle.pgn_lex.specs.declared.kinds.Token.TheVariants.{Bad, Star, Enter, Leave}
use Rattle.pgn_lex.specs.declared.kinds.Placed.{Placed}
use Rattle.pgn_lex.specs.declared.pieces.Piece.{Piece}
use Rattle.pgn_lex.specs.declared.stages.Stage.{Stage}
use Rattle.pgn_lex.specs.declared.stages.Stage.TheVariants.{Start, MarkBegun, MarkGrown, Marked, Between, RestOfLine, InComment, AfterDollar, InNumber, InWord, InTag, InName, AfterName, InValue, AfterBackslash, AfterValue, TagRead, Spoilt, StarRead, EnterRead, LeaveRead, BadRead}
use Rattle.pgn_lex.specs.declared.stages.Next.{Next}
use Rattle.pgn_lex.specs.declared.stages.Next.TheVariants.{Stays, Over}
use Rattle.pgn_lex.specs.Pieces.{is_white, silent_piece, spoken_piece, line_piece, comment_piece, annotation_piece, word_piece}
use Rattle.pgn_lex.specs.Tags.{tag_piece}
use Rattle.pgn_lex.specs.Tokens.{piece, placed, line_after, tokens_after, has_mark, tokens, settled_after, has_half_mark, settled_tokens}
use Rattle.pgn_lex.specs.Stages.{run_on, begun, next_stage, token_at, tokens_at, begins_line, Machine, at_front, stepped, read_from, machine}
use Rattle.pgn_lex.proofs.Left.{left_of_piece, gives_at, settles_at, one_more}
use Rattle.pgn_lex.proofs.Following.{is_plain, FollowsAt, follows, ends_with, ends_there}

-- the tokens that one byte more gives
unfoldable pub said_at : Machine → Next → List Placed
said_at m (Stays now) = []
said_at m Over = tokens_at m.stage m.start m.at m.start_line m.word m.value

-- the tokens that a lexer has given, which has read some bytes
unfoldable pub said_from : Machine → List ℕ → List Placed
said_from m [] = []
said_from m (b ∷ bs) = said_at m (next_stage m.stage b) ++ said_from (stepped m b (next_stage m.stage b)) bs

abbrev pub piece_gives : Machine → Piece → List ℕ → List Placed
piece_gives m p rest = placed m.start (m.at + p.more) m.start_line p.token ++ tokens_after p.more m.at m.line m.first rest

abbrev piece_settles : Machine → Piece → List ℕ → List Placed
piece_settles m p rest = (if nat_lt p.more (length rest) then placed m.start (m.at + p.more) m.start_line p.token else []) ++ settled_after p.more m.at m.line m.first rest

pub gives_plain : (stage : Stage) (m : Machine) (rest : List ℕ) → is_plain stage ≡ true → gives_at stage m rest ≡ piece_gives m (left_of_piece stage m.word m.value rest) rest
unfolding gives_at
gives_plain Start m rest p = cc
gives_plain MarkBegun m rest p = cc
gives_plain MarkGrown m rest p = cc
gives_plain Marked m rest p = refl
gives_plain Between m rest p = refl
gives_plain RestOfLine m rest p = refl
gives_plain InComment m rest p = refl
gives_plain AfterDollar m rest p = refl
gives_plain InNumber m rest p = refl
gives_plain InWord m rest p = refl
gives_plain InTag m rest p = refl
gives_plain InName m rest p = refl
gives_plain AfterName m rest p = refl
gives_plain InValue m rest p = refl
gives_plain AfterBackslash m rest p = refl
gives_plain AfterValue m rest p = refl
gives_plain TagRead m rest p = refl
gives_plain Spoilt m rest p = refl
gives_plain StarRead m rest p = refl
gives_plain EnterRead m rest p = refl
gives_plain LeaveRead m rest p = refl
gives_plain BadRead m rest p = refl

settles_plain : (stage : Stage) (m : Machine) (rest : List ℕ) → is_plain stage ≡ true → settles_at stage m rest ≡ piece_settles m (left_of_piece stage m.word m.value rest) rest
unfolding settles_at
settles_plain Start m rest p = cc
settles_plain MarkBegun m rest p = cc
settles_plain MarkGrown m rest p = cc
settles_plain Marked m rest p = refl
settles_plain Between m rest p = refl
settles_plain RestOfLine m rest p = refl
settles_plain InComment m rest p = refl
settles_plain AfterDollar m rest p = refl
settles_plain InNumber m rest p = refl
settles_plain InWord m rest p = refl
settles_plain InTag m rest p = refl
settles_plain InName m rest p = refl
settles_plain AfterName m rest p = refl
settles_plain InValue m rest p = refl
settles_plain AfterBackslash m rest p = refl
settles_plain AfterValue m rest p = refl
settles_plain TagRead m rest p = refl
settles_plain Spoilt m rest p = refl
settles_plain StarRead m rest p = refl
settles_plain EnterRead m rest p = refl
settles_plain LeaveRead m rest p = refl
settles_plain BadRead m rest p = refl

said_plain : (stage : Stage) (start end line : ℕ) (word value : List ℕ) → is_plain stage ≡ true → tokens_at stage start end line word value ≡ placed start end line (token_at stage word value)
unfolding tokens_at
said_plain Start start end line word value p = cc
said_plain MarkBegun start end line word value p = cc
said_plain MarkGrown start end line word value p = cc
said_plain Marked start end line word value p = refl
said_plain Between start end line word value p = refl
said_plain RestOfLine start end line word value p = refl
said_plain InComment start end line word value p = refl
said_plain AfterDollar start end line word value p = refl
said_plain InNumber start end line word value p = refl
said_plain InWord start end line word value p = refl
said_plain InTag start end line word value p = refl
said_plain InName start end line word value p = refl
said_plain AfterName start end line word value p = refl
said_plain InValue start end line word value p = refl
said_plain AfterBackslash start end line word value p = refl
said_plain AfterValue start end line word value p = refl
said_plain TagRead start end line word value p = refl
said_plain Spoilt start end line word value p = refl
said_plain StarRead start end line word value p = refl
said_plain EnterRead start end line word value p = refl
said_plain LeaveRead start end line word value p = refl
said_plain BadRead start end line word value p = refl

-- the table of what begins a piece
begins_by : (a c d e f g h i j k : Bool) (b : ℕ) (value rest : List ℕ)
    → (if a then line_piece rest else (if c then silent_piece 0 else (if d then line_piece rest else (if e then comment_piece rest else (if f then tag_piece rest else (if g then spoken_piece Enter 0 else (if h then spoken_piece Leave 0 else (if i then spoken_piece Star 0 else (if j then annotation_piece rest else (if k then word_piece b rest else spoken_piece Bad 0))))))))))
    ≡ left_of_piece (if a then RestOfLine else (if c then Between else (if d then RestOfLine else (if e then InComment else (if f then InTag else (if g then EnterRead else (if h then LeaveRead else (if i then StarRead else (if j then AfterDollar else (if k then InWord else BadRead)))))))))) (b ∷ []) value rest
unfolding left_of_piece tag_piece word_piece
begins_by true c d e f g h i j k b value rest = refl
begins_by false true d e f g h i j k b value rest = refl
begins_by false false true e f g h i j k b value rest = refl
begins_by false false false true f g h i j k b value rest = refl
begins_by false false false false true g h i j k b value rest = refl
begins_by false false false false false true h i j k b value rest = refl
begins_by false false false false false false true i j k b value rest = refl
begins_by false false false false false false false true j k b value rest = refl
begins_by false false false false false false false false true k b value rest = refl
begins_by false false false false false false false false false true b value rest = refl
begins_by false false false false false false false false false false b value rest = refl

pub begins : (first : Bool) (b : ℕ) (value rest : List ℕ) → piece first b rest ≡ left_of_piece (begun first b) (b ∷ []) value rest
unfolding piece begun
begins first b value rest =
    begins_by (first && (b == 37)) (is_white b) (b == 59) (b == 123) (b == 91) (b == 40) (b == 41) (b == 42) (b == 36) (in_pgn_class WordByte b) b value rest

plain_by : (a c d e f g h i j k : Bool)
    → is_plain (if a then RestOfLine else (if c then Between else (if d then RestOfLine else (if e then InComment else (if f then InTag else (if g then EnterRead else (if h then LeaveRead else (if i then StarRead else (if j then AfterDollar else (if k then InWord else BadRead)))))))))) ≡ true
plain_by true c d e f g h i j k = refl
plain_by false true d e f g h i j k = refl
plain_by false false true e f g h i j k = refl
plain_by false false false true f g h i j k = refl
plain_by false false false false true g h i j k = refl
plain_by false false false false false true h i j k = refl
plain_by false false false false false false true i j k = refl
plain_by false false false false false false false true j k = refl
plain_by false false false false false false false false true k = refl
plain_by false false false false false false false false false true = refl
plain_by false false false false false false false false false false = refl

pub begun_plain : (first : Bool) (b : ℕ) → is_plain (begun first b) ≡ true
unfolding begun
begun_plain first b = plain_by (first && (b == 37)) (is_white b) (b == 59) (b == 123) (b == 91) (b == 40) (b == 41) (b == 42) (b == 36) (in_pgn_class WordByte b)

less_by_one : (n m : ℕ) → nat_lt (suc n) (suc m) ≡ nat_lt n m
less_by_one n m = grind (arith, nat_tests)

some_left : (n : ℕ) → nat_lt 0 (suc n) ≡ true
some_left n = grind (arith, nat_tests)

none_left : (n : ℕ) → nat_lt n 0 ≡ false
none_left n = grind (arith, nat_tests)

-- the first byte of a piece
pub fresh_gives : (m : Machine) (b : ℕ) (rest : List ℕ) → tokens_after 0 m.at m.line m.first (b ∷ rest) ≡ gives_at (begun m.first b) (stepped m b Over) rest
unfolding tokens_after stepped
fresh_gives m b rest =
    ap (λ (p : Piece). placed m.at (m.at + 1 + p.more) m.line p.token ++ tokens_after p.more (m.at + 1) (line_after m.line b) (not (in_class InLine b)) rest) (begins m.first b m.value rest)
    ∙ sym (gives_plain (begun m.first b) (stepped m b Over) rest (begun_plain m.first b))

fresh_settles : (m : Machine) (b : ℕ) (rest : List ℕ) → settled_after 0 m.at m.line m.first (b ∷ rest) ≡ settles_at (begun m.first b) (stepped m b Over) rest
unfolding settled_after stepped
fresh_settles m b rest =
    ap (λ (p : Piece). (if nat_lt p.more (length rest) then placed m.at (m.at + 1 + p.more) m.line p.token else []) ++ settled_after p.more (m.at + 1) (line_after m.line b) (not (in_class InLine b)) rest) (begins m.first b m.value rest)
    ∙ sym (settles_plain (begun m.first b) (stepped m b Over) rest (begun_plain m.first b))

-- a further byte of a piece
one_on : (n k : ℕ) → n + suc k ≡ n + 1 + k
one_on n k = omega arith

none_on : (n : ℕ) → n + 0 ≡ n
none_on n = omega arith

one_byte : (m : Machine) (p : Piece) (b : ℕ) (rest : List ℕ)
    → piece_gives m (one_more p) (b ∷ rest) ≡ placed m.start (m.at + 1 + p.more) m.start_line p.token ++ tokens_after p.more (m.at + 1) (line_after m.line b) (not (in_class InLine b)) rest
unfolding tokens_after
one_byte m p b rest = ap (λ (e : ℕ). placed m.start e m.start_line p.token ++ tokens_after p.more (m.at + 1) (line_after m.line b) (not (in_class InLine b)) rest) (one_on m.at p.more)

one_byte_settles : (m : Machine) (p : Piece) (b : ℕ) (rest : List ℕ)
    → piece_settles m (one_more p) (b ∷ rest) ≡ (if nat_lt p.more (length rest) then placed m.start (m.at + 1 + p.more) m.start_line p.token else []) ++ settled_after p.more (m.at + 1) (line_after m.line b) (not (in_class InLine b)) rest
unfolding settled_after
one_byte_settles m p b rest =
    ap (λ (c : Bool). (if c then placed m.start (m.at + suc p.more) m.start_line p.token else []) ++ settled_after p.more (m.at + 1) (line_after m.line b) (not (in_class InLine b)) rest) (less_by_one p.more (length rest))
    ∙ ap (λ (e : ℕ). (if nat_lt p.more (length rest) then placed m.start e m.start_line p.token else []) ++ settled_after p.more (m.at + 1) (line_after m.line b) (not (in_class InLine b)) rest) (one_on m.at p.more)

plain_gives : (m : Machine) (b : ℕ) (next : Next) (rest : List ℕ) → is_plain m.stage ≡ true → FollowsAt m.stage next m.word m.value b
    → gives_at m.stage m (b ∷ rest) ≡ said_at m next ++ gives_at (stepped m b next).stage (stepped m b next) rest
unfolding said_at stepped
plain_gives m b (Stays now) rest p h =
    let left : Piece = left_of_piece now (stepped m b (Stays now)).word (stepped m b (Stays now)).value rest in
    gives_plain m.stage m (b ∷ rest) p ∙ ap (λ (q : Piece). piece_gives m q (b ∷ rest)) (h.2 rest) ∙ one_byte m left b rest
    ∙ ap (λ (f : Bool). placed m.start (m.at + 1 + left.more) m.start_line left.token ++ tokens_after left.more (m.at + 1) (line_after m.line b) f rest) (sym h.1)
    ∙ sym (gives_plain now (stepped m b (Stays now)) rest h.0)
plain_gives m b Over rest p h =
    gives_plain m.stage m (b ∷ rest) p ∙ ap (λ (q : Piece). piece_gives m q (b ∷ rest)) (h rest)
    ∙ ap (λ (e : ℕ). placed m.start e m.start_line (token_at m.stage m.word m.value) ++ tokens_after 0 m.at m.line m.first (b ∷ rest)) (none_on m.at)
    ∙ ap (λ ts. placed m.start m.at m.start_line (token_at m.stage m.word m.value) ++ ts) (fresh_gives m b rest)
    ∙ ap (λ ts. ts ++ gives_at (begun m.first b) (stepped m b Over) rest) (sym (said_plain m.stage m.start m.at m.start_line m.word m.value p))

plain_settles : (m : Machine) (b : ℕ) (next : Next) (rest : List ℕ) → is_plain m.stage ≡ true → FollowsAt m.stage next m.word m.value b
    → settles_at m.stage m (b ∷ rest) ≡ said_at m next ++ settles_at (stepped m b next).stage (stepped m b next) rest
unfolding said_at stepped
plain_settles m b (Stays now) rest p h =
    let left : Piece = left_of_piece now (stepped m b (Stays now)).word (stepped m b (Stays now)).value rest in
    settles_plain m.stage m (b ∷ rest) p ∙ ap (λ (q : Piece). piece_settles m q (b ∷ rest)) (h.2 rest) ∙ one_byte_settles m left b rest
    ∙ ap (λ (f : Bool). (if nat_lt left.more (length rest) then placed m.start (m.at + 1 + left.more) m.start_line left.token else []) ++ settled_after left.more (m.at + 1) (line_after m.line b) f rest) (sym h.1)
    ∙ sym (settles_plain now (stepped m b (Stays now)) rest h.0)
plain_settles m b Over rest p h =
    settles_plain m.stage m (b ∷ rest) p ∙ ap (λ (q : Piece). piece_settles m q (b ∷ rest)) (h rest)
    ∙ ap (λ (c : Bool). (if c then placed m.start (m.at + 0) m.start_line (token_at m.stage m.word m.value) else []) ++ settled_after 0 m.at m.line m.first (b ∷ rest)) (some_left (length rest))
    ∙ ap (λ (e : ℕ). placed m.start e m.start_line (token_at m.stage m.word m.value) ++ settled_after 0 m.at m.line m.first (b ∷ rest)) (none_on m.at)
    ∙ ap (λ ts. placed m.start m.at m.start_line (token_at m.stage m.word m.value) ++ ts) (fresh_settles m b rest)
    ∙ ap (λ ts. ts ++ settles_at (begun m.first b) (stepped m b Over) rest) (sym (said_plain m.stage m.start m.at m.start_line m.word m.value p))

-- the mark at the front
pub no_mark_begins : (b : ℕ) (rest : List ℕ) → (b == 239) ≡ false → (has_mark (b ∷ rest) ≡ false) × (has_half_mark (b ∷ rest) ≡ false)
unfolding has_mark has_half_mark
no_mark_begins b [] e = (refl, refl)
no_mark_begins b (c ∷ []) e = (refl, rw e refl)
no_mark_begins b (c ∷ d ∷ rest) e = (rw e refl, refl)

pub no_mark_grows : (b : ℕ) (rest : List ℕ) → (b == 187) ≡ false → (has_mark (239 ∷ b ∷ rest) ≡ false) × (has_half_mark (239 ∷ b ∷ rest) ≡ false)
unfolding has_mark has_half_mark
no_mark_grows b [] e = (refl, rw e refl)
no_mark_grows b (c ∷ rest) e = (rw e refl, refl)

pub no_mark_ends : (b : ℕ) (rest : List ℕ) → (b == 191) ≡ false → (has_mark (239 ∷ 187 ∷ b ∷ rest) ≡ false) × (has_half_mark (239 ∷ 187 ∷ b ∷ rest) ≡ false)
unfolding has_mark has_half_mark
no_mark_ends b rest e = (rw e refl, refl)

pub unmarked : (bytes : List ℕ) → has_mark bytes ≡ false → tokens bytes ≡ tokens_after 0 0 1 true bytes
unfolding tokens
unmarked bytes e = rw e refl

unmarked_settles : (bytes : List ℕ) → has_mark bytes ≡ false → has_half_mark bytes ≡ false → settled_tokens bytes ≡ settled_after 0 0 1 true bytes
unfolding settled_tokens
unmarked_settles bytes e f = rw (e, f) refl

bad_first : (rest : List ℕ) → tokens_after 0 0 1 true (239 ∷ rest) ≡ placed 0 1 1 (Some Bad) ++ tokens_after 0 1 1 false rest
unfolding tokens_after line_after piece is_white in_pgn_class in_class
bad_first rest = refl

bad_second : (rest : List ℕ) → tokens_after 0 1 1 false (187 ∷ rest) ≡ placed 1 2 1 (Some Bad) ++ tokens_after 0 2 1 false rest
unfolding tokens_after line_after piece is_white in_pgn_class in_class
bad_second rest = refl

bad_first_settles : (b : ℕ) (rest : List ℕ) → settled_after 0 0 1 true (239 ∷ b ∷ rest) ≡ placed 0 1 1 (Some Bad) ++ settled_after 0 1 1 false (b ∷ rest)
unfolding settled_after line_after piece is_white in_pgn_class in_class
bad_first_settles b rest = rw (some_left (length rest)) refl

bad_second_settles : (b : ℕ) (rest : List ℕ) → settled_after 0 1 1 false (187 ∷ b ∷ rest) ≡ placed 1 2 1 (Some Bad) ++ settled_after 0 2 1 false (b ∷ rest)
unfolding settled_after line_after piece is_white in_pgn_class in_class
bad_second_settles b rest = rw (some_left (length rest)) refl

marked_gives : (rest : List ℕ) → tokens (239 ∷ 187 ∷ 191 ∷ rest) ≡ tokens_after 0 3 1 true rest
unfolding tokens has_mark
marked_gives rest = refl

marked_settles : (rest : List ℕ) → settled_tokens (239 ∷ 187 ∷ 191 ∷ rest) ≡ settled_after 0 3 1 true rest
unfolding settled_tokens has_mark has_half_mark
marked_settles rest = refl

none_there : (rest : List ℕ) → settled_after 0 3 1 true rest ≡ (if nat_lt 0 (length rest) then [] else []) ++ settled_after 0 3 1 true rest
none_there [] = refl
none_there (b ∷ rest) = rw (some_left (length rest)) refl

-- how far the mark at the front was read
abbrev pub WellMarked : Stage → ℕ → ℕ → Bool → Type 0
WellMarked Start at line first = (at ≡ 0) × (line ≡ 1) × (first ≡ true)
WellMarked MarkBegun at line first = (at ≡ 1) × (line ≡ 1) × (first ≡ false)
WellMarked MarkGrown at line first = (at ≡ 2) × (line ≡ 1) × (first ≡ false)
WellMarked Marked at line first = ⊤
WellMarked Between at line first = ⊤
WellMarked RestOfLine at line first = ⊤
WellMarked InComment at line first = ⊤
WellMarked AfterDollar at line first = ⊤
WellMarked InNumber at line first = ⊤
WellMarked InWord at line first = ⊤
WellMarked InTag at line first = ⊤
WellMarked InName at line first = ⊤
WellMarked AfterName at line first = ⊤
WellMarked InValue at line first = ⊤
WellMarked AfterBackslash at line first = ⊤
WellMarked AfterValue at line first = ⊤
WellMarked TagRead at line first = ⊤
WellMarked Spoilt at line first = ⊤
WellMarked StarRead at line first = ⊤
WellMarked EnterRead at line first = ⊤
WellMarked LeaveRead at line first = ⊤
WellMarked BadRead at line first = ⊤

well_plain : (stage : Stage) (at line : ℕ) (first : Bool) → is_plain stage ≡ true → WellMarked stage at line first
well_plain Start at line first p = cc
well_plain MarkBegun at line first p = cc
well_plain MarkGrown at line first p = cc
well_plain Marked at line first p = tt
well_plain Between at line first p = tt
well_plain RestOfLine at line first p = tt
well_plain InComment at line first p = tt
well_plain AfterDollar at line first p = tt
well_plain InNumber at line first p = tt
well_plain InWord at line first p = tt
well_plain InTag at line first p = tt
well_plain InName at line first p = tt
well_plain AfterName at line first p = tt
well_plain InValue at line first p = tt
well_plain AfterBackslash at line first p = tt
well_plain AfterValue at line first p = tt
well_plain TagRead at line first p = tt
well_plain Spoilt at line first p = tt
well_plain StarRead at line first p = tt
well_plain EnterRead at line first p = tt
well_plain LeaveRead at line first p = tt
well_plain BadRead at line first p = tt

-- one byte, at each stage
abbrev StepGives : Machine → ℕ → Next → List ℕ → Type 0
StepGives m b next rest =
    (gives_at m.stage m (b ∷ rest) ≡ said_at m next ++ gives_at (stepped m b next).stage (stepped m b next) rest)
    × (settles_at m.stage m (b ∷ rest) ≡ said_at m next ++ settles_at (stepped m b next).stage (stepped m b next) rest)
    × WellMarked (stepped m b next).stage (stepped m b next).at (stepped m b next).line (stepped m b next).first

start_by : (start start_line : ℕ) (word value : List ℕ) (b : ℕ) (t : Bool) (rest : List ℕ) → (b == 239) ≡ t → StepGives (record { stage = Start; start = start; start_line = start_line; at = 0; line = 1; first = true; word = word; value = value }) b (run_on t MarkBegun) rest
unfolding gives_at settles_at said_at stepped tokens_at token_at begins_line line_after in_class
start_by start start_line word value b true rest e =
    let is = eqb-true b 239 e in
    (ap (λ x. tokens (x ∷ rest)) is, ap (λ x. settled_tokens (x ∷ rest)) is, (refl, ap (λ x. line_after 1 x) is, ap (λ x. not (in_class InLine x)) is))
start_by start start_line word value b false rest e =
    let m : Machine = record { stage = Start; start = start; start_line = start_line; at = 0; line = 1; first = true; word = word; value = value } in
    let none = no_mark_begins b rest e in
    (unmarked (b ∷ rest) none.0 ∙ fresh_gives m b rest, unmarked_settles (b ∷ rest) none.0 none.1 ∙ fresh_settles m b rest, well_plain (begun true b) 1 (line_after 1 b) (not (in_class InLine b)) (begun_plain true b))

begun_by : (start start_line : ℕ) (word value : List ℕ) (b : ℕ) (t : Bool) (rest : List ℕ) → (b == 187) ≡ t → StepGives (record { stage = MarkBegun; start = start; start_line = start_line; at = 1; line = 1; first = false; word = word; value = value }) b (run_on t MarkGrown) rest
unfolding gives_at settles_at said_at stepped tokens_at token_at begins_line line_after in_class
begun_by start start_line word value b true rest e =
    let is = eqb-true b 187 e in
    (ap (λ x. tokens (239 ∷ x ∷ rest)) is, ap (λ x. settled_tokens (239 ∷ x ∷ rest)) is, (refl, ap (λ x. line_after 1 x) is, ap (λ x. not (in_class InLine x)) is))
begun_by start start_line word value b false rest e =
    let m : Machine = record { stage = MarkBegun; start = start; start_line = start_line; at = 1; line = 1; first = false; word = word; value = value } in
    let none = no_mark_grows b rest e in (
      unmarked (239 ∷ b ∷ rest) none.0 ∙ bad_first (b ∷ rest) ∙ ap (λ ts. placed 0 1 1 (Some Bad) ++ ts) (fresh_gives m b rest),
      unmarked_settles (239 ∷ b ∷ rest) none.0 none.1 ∙ bad_first_settles b rest ∙ ap (λ ts. placed 0 1 1 (Some Bad) ++ ts) (fresh_settles m b rest),
      well_plain (begun false b) 2 (line_after 1 b) (not (in_class InLine b)) (begun_plain false b),
    )

grown_by : (start start_line : ℕ) (word value : List ℕ) (b : ℕ) (t : Bool) (rest : List ℕ) → (b == 191) ≡ t → StepGives (record { stage = MarkGrown; start = start; start_line = start_line; at = 2; line = 1; first = false; word = word; value = value }) b (run_on t Marked) rest
unfolding gives_at settles_at said_at stepped tokens_at token_at begins_line line_after left_of_piece
grown_by start start_line word value b true rest e =
    let is = eqb-true b 191 e in
    let same : line_after 1 b ≡ 1 = ap (λ x. line_after 1 x) is in (
      ap (λ x. tokens (239 ∷ 187 ∷ x ∷ rest)) is ∙ marked_gives rest ∙ ap (λ n. tokens_after 0 3 n true rest) (sym same),
      ap (λ x. settled_tokens (239 ∷ 187 ∷ x ∷ rest)) is ∙ marked_settles rest ∙ none_there rest ∙ ap (λ n. (if nat_lt 0 (length rest) then [] else []) ++ settled_after 0 3 n true rest) (sym same),
      tt,
    )
grown_by start start_line word value b false rest e =
    let m : Machine = record { stage = MarkGrown; start = start; start_line = start_line; at = 2; line = 1; first = false; word = word; value = value } in
    let none = no_mark_ends b rest e in (
      unmarked (239 ∷ 187 ∷ b ∷ rest) none.0 ∙ bad_first (187 ∷ b ∷ rest) ∙ ap (λ ts. placed 0 1 1 (Some Bad) ++ ts) (bad_second (b ∷ rest)) ∙ ap (λ ts. placed 0 1 1 (Some Bad) ++ (placed 1 2 1 (Some Bad) ++ ts)) (fresh_gives m b rest),
      unmarked_settles (239 ∷ 187 ∷ b ∷ rest) none.0 none.1 ∙ bad_first_settles 187 (b ∷ rest) ∙ ap (λ ts. placed 0 1 1 (Some Bad) ++ ts) (bad_second_settles b rest) ∙ ap (λ ts. placed 0 1 1 (Some Bad) ++ (placed 1 2 1 (Some Bad) ++ ts)) (fresh_settles m b rest),
      well_plain (begun false b) 3 (line_after 1 b) (not (in_class InLine b)) (begun_plain false b),
    )

well_next : (m : Machine) (b : ℕ) (next : Next) → FollowsAt m.stage next m.word m.value b → WellMarked (stepped m b next).stage (stepped m b next).at (stepped m b next).line (stepped m b next).first
unfolding stepped
well_next m b (Stays now) h = well_plain now (m.at + 1) (line_after m.line b) (begins_line now b) h.0
well_next m b Over h = well_plain (begun m.first b) (m.at + 1) (line_after m.line b) (not (in_class InLine b)) (begun_plain m.first b)

plain_step : (m : Machine) (b : ℕ) (rest : List ℕ) → is_plain m.stage ≡ true → StepGives m b (next_stage m.stage b) rest
plain_step m b rest p =
    let h = follows m.stage m.word m.value b p in
    (plain_gives m b (next_stage m.stage b) rest p h, plain_settles m b (next_stage m.stage b) rest p h, well_next m b (next_stage m.stage b) h)

step_at : (stage : Stage) (start start_line at line : ℕ) (first : Bool) (word value : List ℕ) (b : ℕ) (rest : List ℕ) → WellMarked stage at line first
    → StepGives (record { stage = stage; start = start; start_line = start_line; at = at; line = line; first = first; word = word; value = value }) b (next_stage stage b) rest
unfolding next_stage
step_at Start start start_line at line first word value b rest w = rw (w.0, w.1, w.2) (start_by start start_line word value b (b == 239) rest refl)
step_at MarkBegun start start_line at line first word value b rest w = rw (w.0, w.1, w.2) (begun_by start start_line word value b (b == 187) rest refl)
step_at MarkGrown start start_line at line first word value b rest w = rw (w.0, w.1, w.2) (grown_by start start_line word value b (b == 191) rest refl)
step_at Marked start start_line at line first word value b rest w = plain_step (record { stage = Marked; start = start; start_line = start_line; at = at; line = line; first = first; word = word; value = value }) b rest refl
step_at Between start start_line at line first word value b rest w = plain_step (record { stage = Between; start = start; start_line = start_line; at = at; line = line; first = first; word = word; value = value }) b rest refl
step_at RestOfLine start start_line at line first word value b rest w = plain_step (record { stage = RestOfLine; start = start; start_line = start_line; at = at; line = line; first = first; word = word; value = value }) b rest refl
step_at InComment start start_line at line first word value b rest w = plain_step (record { stage = InComment; start = start; start_line = start_line; at = at; line = line; first = first; word = word; value = value }) b rest refl
step_at AfterDollar start start_line at line first word value b rest w = plain_step (record { stage = AfterDollar; start = start; start_line = start_line; at = at; line = line; first = first; word = word; value = value }) b rest refl
step_at InNumber start start_line at line first word value b rest w = plain_step (record { stage = InNumber; start = start; start_line = start_line; at = at; line = line; first = first; word = word; value = value }) b rest refl
step_at InWord start start_line at line first word value b rest w = plain_step (record { stage = InWord; start = start; start_line = start_line; at = at; line = line; first = first; word = word; value = value }) b rest refl
step_at InTag start start_line at line first word value b rest w = plain_step (record { stage = InTag; start = start; start_line = start_line; at = at; line = line; first = first; word = word; value = value }) b rest refl
step_at InName start start_line at line first word value b rest w = plain_step (record { stage = InName; start = start; start_line = start_line; at = at; line = line; first = first; word = word; value = value }) b rest refl
step_at AfterName start start_line at line first word value b rest w = plain_step (record { stage = AfterName; start = start; start_line = start_line; at = at; line = line; first = first; word = word; value = value }) b rest refl
step_at InValue start start_line at line first word value b rest w = plain_step (record { stage = InValue; start = start; start_line = start_line; at = at; line = line; first = first; word = word; value = value }) b rest refl
step_at AfterBackslash start start_line at line first word value b rest w = plain_step (record { stage = AfterBackslash; start = start; start_line = start_line; at = at; line = line; first = first; word = word; value = value }) b rest refl
step_at AfterValue start start_line at line first word value b rest w = plain_step (record { stage = AfterValue; start = start; start_line = start_line; at = at; line = line; first = first; word = word; value = value }) b rest refl
step_at TagRead start start_line at line first word value b rest w = plain_step (record { stage = TagRead; start = start; start_line = start_line; at = at; line = line; first = first; word = word; value = value }) b rest refl
step_at Spoilt start start_line at line first word value b rest w = plain_step (record { stage = Spoilt; start = start; start_line = start_line; at = at; line = line; first = first; word = word; value = value }) b rest refl
step_at StarRead start start_line at line first word value b rest w = plain_step (record { stage = StarRead; start = start; start_line = start_line; at = at; line = line; first = first; word = word; value = value }) b rest refl
step_at EnterRead start start_line at line first word value b rest w = plain_step (record { stage = EnterRead; start = start; start_line = start_line; at = at; line = line; first = first; word = word; value = value }) b rest refl
step_at LeaveRead start start_line at line first word value b rest w = plain_step (record { stage = LeaveRead; start = start; start_line = start_line; at = at; line = line; first = first; word = word; value = value }) b rest refl
step_at BadRead start start_line at line first word value b rest w = plain_step (record { stage = BadRead; start = start; start_line = start_line; at = at; line = line; first = first; word = word; value = value }) b rest refl

step : (m : Machine) (b : ℕ) (rest : List ℕ) → WellMarked m.stage m.at m.line m.first → StepGives m b (next_stage m.stage b) rest
step m b rest w = step_at m.stage m.start m.start_line m.at m.line m.first m.word m.value b rest w

-- all bytes
runs : (m : Machine) (bytes rest : List ℕ) → WellMarked m.stage m.at m.line m.first
    → (gives_at m.stage m (bytes ++ rest) ≡ said_from m bytes ++ gives_at (read_from m bytes).stage (read_from m bytes) rest)
    × (settles_at m.stage m (bytes ++ rest) ≡ said_from m bytes ++ settles_at (read_from m bytes).stage (read_from m bytes) rest)
unfolding read_from said_from
runs m [] rest w = (refl, refl)
runs m (b ∷ bytes) rest w =
    let one = step m b (bytes ++ rest) w in
    let next : Machine = stepped m b (next_stage m.stage b) in
    let more = runs next bytes rest one.2 in
    let said : List Placed = said_at m (next_stage m.stage b) in (
      one.0 ∙ ap (λ ts. said ++ ts) more.0 ∙ sym (append_assoc said (said_from next bytes) (gives_at (read_from next bytes).stage (read_from next bytes) rest)),
      one.1 ∙ ap (λ ts. said ++ ts) more.1 ∙ sym (append_assoc said (said_from next bytes) (settles_at (read_from next bytes).stage (read_from next bytes) rest)),
    )

nothing : (more at line : ℕ) (first : Bool) → tokens_after more at line first [] ≡ []
unfolding tokens_after
nothing zero at line first = refl
nothing (suc more) at line first = refl

nothing_settles : (more at line : ℕ) (first : Bool) → settled_after more at line first [] ≡ []
unfolding settled_after
nothing_settles zero at line first = refl
nothing_settles (suc more) at line first = refl

plain_ends : (stage : Stage) (m : Machine) → is_plain stage ≡ true → gives_at stage m [] ≡ tokens_at stage m.start m.at m.start_line m.word m.value
plain_ends stage m p =
    let left : Piece = left_of_piece stage m.word m.value [] in
    gives_plain stage m [] p ∙ ap (λ ts. placed m.start (m.at + left.more) m.start_line left.token ++ ts) (nothing left.more m.at m.line m.first)
    ∙ append-nil (placed m.start (m.at + left.more) m.start_line left.token)
    ∙ ap (λ (k : ℕ). placed m.start (m.at + k) m.start_line left.token) (ends_there stage m.word m.value p) ∙ ap (λ (e : ℕ). placed m.start e m.start_line left.token) (none_on m.at)
    ∙ ap (placed m.start m.at m.start_line) (ends_with stage m.word m.value p) ∙ sym (said_plain stage m.start m.at m.start_line m.word m.value p)

plain_settles_none : (stage : Stage) (m : Machine) → is_plain stage ≡ true → settles_at stage m [] ≡ []
plain_settles_none stage m p =
    let left : Piece = left_of_piece stage m.word m.value [] in
    settles_plain stage m [] p ∙ ap (λ (c : Bool). (if c then placed m.start (m.at + left.more) m.start_line left.token else []) ++ settled_after left.more m.at m.line m.first []) (none_left left.more) ∙ nothing_settles left.more m.at m.line m.first

end_gives : (stage : Stage) (m : Machine) → gives_at stage m [] ≡ tokens_at stage m.start m.at m.start_line m.word m.value
unfolding gives_at tokens_at token_at tokens has_mark tokens_after line_after piece is_white in_pgn_class in_class
end_gives Start m = refl
end_gives MarkBegun m = refl
end_gives MarkGrown m = refl
end_gives Marked m = plain_ends Marked m refl
end_gives Between m = plain_ends Between m refl
end_gives RestOfLine m = plain_ends RestOfLine m refl
end_gives InComment m = plain_ends InComment m refl
end_gives AfterDollar m = plain_ends AfterDollar m refl
end_gives InNumber m = plain_ends InNumber m refl
end_gives InWord m = plain_ends InWord m refl
end_gives InTag m = plain_ends InTag m refl
end_gives InName m = plain_ends InName m refl
end_gives AfterName m = plain_ends AfterName m refl
end_gives InValue m = plain_ends InValue m refl
end_gives AfterBackslash m = plain_ends AfterBackslash m refl
end_gives AfterValue m = plain_ends AfterValue m refl
end_gives TagRead m = plain_ends TagRead m refl
end_gives Spoilt m = plain_ends Spoilt m refl
end_gives StarRead m = plain_ends StarRead m refl
end_gives EnterRead m = plain_ends EnterRead m refl
end_gives LeaveRead m = plain_ends LeaveRead m refl
end_gives BadRead m = plain_ends BadRead m refl

settles_none : (stage : Stage) (m : Machine) → settles_at stage m [] ≡ []
unfolding settles_at settled_tokens has_mark has_half_mark settled_after line_after piece is_white in_pgn_class in_class
settles_none Start m = refl
settles_none MarkBegun m = refl
settles_none MarkGrown m = refl
settles_none Marked m = plain_settles_none Marked m refl
settles_none Between m = plain_settles_none Between m refl
settles_none RestOfLine m = plain_settles_none RestOfLine m refl
settles_none InComment m = plain_settles_none InComment m refl
settles_none AfterDollar m = plain_settles_none AfterDollar m refl
settles_none InNumber m = plain_settles_none InNumber m refl
settles_none InWord m = plain_settles_none InWord m refl
settles_none InTag m = plain_settles_none InTag m refl
settles_none InName m = plain_settles_none InName m refl
settles_none AfterName m = plain_settles_none AfterName m refl
settles_none InValue m = plain_settles_none InValue m refl
settles_none AfterBackslash m = plain_settles_none AfterBackslash m refl
settles_none AfterValue m = plain_settles_none AfterValue m refl
settles_none TagRead m = plain_settles_none TagRead m refl
settles_none Spoilt m = plain_settles_none Spoilt m refl
settles_none StarRead m = plain_settles_none StarRead m refl
settles_none EnterRead m = plain_settles_none EnterRead m refl
settles_none LeaveRead m = plain_settles_none LeaveRead m refl
settles_none BadRead m = plain_settles_none BadRead m refl

-- the tokens that were said are those that are settled
pub said_settled : (bytes : List ℕ) → settled_tokens bytes ≡ said_from at_front bytes
unfolding settles_at
said_settled bytes =
    let m : Machine = machine bytes in
    ap settled_tokens (sym (append-nil bytes)) ∙ (runs at_front bytes [] (refl, refl, refl)).1 ∙ ap (λ ts. said_from at_front bytes ++ ts) (settles_none m.stage m) ∙ append-nil (said_from at_front bytes)

-- they are the first tokens, whatever follows
pub settled_first : (bytes rest : List ℕ) → tokens (bytes ++ rest) ≡ settled_tokens bytes ++ gives_at (machine bytes).stage (machine bytes) rest
unfolding gives_at
settled_first bytes rest =
    let m : Machine = machine bytes in
    (runs at_front bytes rest (refl, refl, refl)).0 ∙ ap (λ ts. ts ++ gives_at m.stage m rest) (sym (said_settled bytes))

-- where nothing follows
pub ended_tokens : (bytes : List ℕ) → tokens bytes ≡ settled_tokens bytes ++ tokens_at (machine bytes).stage (machine bytes).start (machine bytes).at (machine bytes).start_line (machine bytes).word (machine bytes).value
ended_tokens bytes =
    let m : Machine = machine bytes in
    ap tokens (sym (append-nil bytes)) ∙ settled_first bytes [] ∙ ap (λ ts. settled_tokens bytes ++ ts) (end_gives m.stage m)

pub read_more : (m : Machine) (xs ys : List ℕ) → read_from m (xs ++ ys) ≡ read_from (read_from m xs) ys
unfolding read_from
read_more m [] ys = refl
read_more m (x ∷ xs) ys = read_more (stepped m x (next_stage m.stage x)) xs ys

said_more : (m : Machine) (xs ys : List ℕ) → said_from m (xs ++ ys) ≡ said_from m xs ++ said_from (read_from m xs) ys
unfolding read_from said_from
said_more m [] ys = refl
said_more m (x ∷ xs) ys =
    let next : Machine = stepped m x (next_stage m.stage x) in
    ap (λ ts. said_at m (next_stage m.stage x) ++ ts) (said_more next xs ys) ∙ sym (append_assoc (said_at m (next_stage m.stage x)) (said_from next xs) (said_from (read_from next xs) ys))

-- one byte more
pub machine_more : (bytes : List ℕ) (b : ℕ) → machine (bytes ++ b ∷ []) ≡ stepped (machine bytes) b (next_stage (machine bytes).stage b)
unfolding read_from
machine_more bytes b = read_more at_front bytes (b ∷ [])

pub settled_more : (bytes : List ℕ) (b : ℕ) → settled_tokens (bytes ++ b ∷ []) ≡ settled_tokens bytes ++ said_at (machine bytes) (next_stage (machine bytes).stage b)
unfolding said_from
settled_more bytes b =
    let m : Machine = machine bytes in
    let said : List Placed = said_at m (next_stage m.stage b) in
    said_settled (bytes ++ b ∷ []) ∙ said_more at_front bytes (b ∷ []) ∙ ap (λ ts. said_from at_front bytes ++ ts) (append-nil said) ∙ ap (λ ts. ts ++ said) (sym (said_settled bytes))

at_stepped : (m : Machine) (b : ℕ) (next : Next) → (stepped m b next).at ≡ m.at + 1
unfolding stepped
at_stepped m b (Stays now) = refl
at_stepped m b Over = refl

at_from : (m : Machine) (bytes : List ℕ) → (read_from m bytes).at ≡ m.at + length bytes
unfolding read_from
at_from m [] = omega arith
at_from m (b ∷ bytes) = omega (arith, at_stepped m b (next_stage m.stage b), at_from (stepped m b (next_stage m.stage b)) bytes)

pub at_length : (bytes : List ℕ) → (machine bytes).at ≡ length bytes
at_length bytes = omega (arith, at_from at_front bytes)

line_stepped : (m : Machine) (b : ℕ) (next : Next) → (stepped m b next).line ≡ line_after m.line b
unfolding stepped
line_stepped m b (Stays now) = refl
line_stepped m b Over = refl

-- the line behind some bytes
pub line_from : (m : Machine) (bytes : List ℕ) → (read_from m bytes).line ≡ fold line_after m.line bytes
unfolding read_from
line_from m [] = refl
line_from m (b ∷ bytes) =
    line_from (stepped m b (next_stage m.stage b)) bytes ∙ ap (λ n. fold line_after n bytes) (line_stepped m b (next_stage m.stage b))

-- each byte leaves a well marked machine
pub well_read : (m : Machine) (bytes : List ℕ) → WellMarked m.stage m.at m.line m.first
    → WellMarked (read_from m bytes).stage (read_from m bytes).at (read_from m bytes).line (read_from m bytes).first
unfolding read_from
well_read m [] w = w
well_read m (b ∷ bytes) w = well_read (stepped m b (next_stage m.stage b)) bytes (step m b [] w).2
