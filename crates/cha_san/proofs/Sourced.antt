-- Between which squares the move of a word goes.
use Rattle.std.proofs.Common.{◌≡◌, ℕ, ◌+◌, ◌-◌, ◌<◌, ◌==◌, Bool, true, false, not, ◌&&◌, ◌||◌, List, [], Option, Some, None, ◌⊎◌, inl, inr, refl, sym, ◌∙◌, ap, subst, arith}
use Rattle.std.specs.List.{filter, flat_map}
use Rattle.std.proofs.lemmas.Bool.{and_parts, and_from, and_left, and_right, or_cases, or_left, or_right, both_ways, not-true, not_from_false, eqb-true, ne_eqb, false_from_ne_true}
use Rattle.cha_board.specs.declared.men.Color.{Color}
use Rattle.cha_board.specs.declared.men.Color.TheVariants.{White, Black}
use Rattle.cha_board.specs.declared.men.Kind.{Kind}
use Rattle.cha_board.specs.declared.men.Kind.TheVariants.{Pawn, Knight, Bishop, Rook, Queen, King}
use Rattle.cha_board.specs.declared.men.Man.{Man}
use Rattle.cha_board.specs.declared.castling.Wing.{Wing}
use Rattle.cha_board.specs.declared.castling.Wing.TheVariants.{Kingside, Queenside}
use Rattle.cha_board.specs.Men.{other_color, same_kind, is_man}
use Rattle.cha_board.specs.Squares.{squares, file_of, rank_of, files_apart, ranks_apart, steps_apart, is_straight, is_rank_ahead, aims_at, last_rank}
use Rattle.cha_board.specs.Board.{Board, man_at, is_empty, is_clear, home_of, goal_of}
use Rattle.cha_board.specs.SquareSets.{set_of, squares_in, set_minus, set_joined, set_common}
use Rattle.cha_board.proofs.SetLaws.{same_set}
use Rattle.cha_board.proofs.Tables.{aims_from_there}
use Rattle.cha_moves.specs.Step.{Move}
use Rattle.cha_moves.specs.Moves.{second_rank, fourth_rank, middle, is_step, is_double_step, is_pawn_capture, is_en_passant, is_target, goes, promotes_well, is_legal_in, moves_between, moves_from, all_moves, legal}
use Rattle.cha_moves.proofs.Made.{Mover}
use Rattle.cha_moves.proofs.Kept.{castling_tests, king_way}
use Rattle.cha_moves.proofs.Listed.{mover_in}
use Rattle.cha_moves.proofs.WayLaws.{filter_in_set}
use Rattle.cha_moves.proofs.Goings.{joined_of, common_of, minus_of}
use Rattle.cha_moves.proofs.Checking.{kind_tested}
use Rattle.cha_san.specs.declared.forms.Form.{Form}
use Rattle.cha_san.specs.declared.forms.Form.TheVariants.{Short, Long, Plain}
use Rattle.cha_san.specs.declared.forms.Parts.{Parts}
use Rattle.cha_san.specs.Fitting.{is_castling, is_named, promotes_as, fits_parts, fits}
use Rattle.cha_san.specs.Sources.{names, target_of, comes_along, may_come, is_source}
use Rattle.cha_san.proofs.Sifting.{all_empty, of_one_square, filter_both}

-- the man that makes a legal move that fits
mover_named : (q : Board) (form : Form) (m : Move) → names q form m ≡ true → (man : Man) × Mover q m man
mover_named q form m h = mover_in q m (and_parts (fits q form m) (is_legal_in q m) h).1

-- a king that aims at a square is not two files away
pub not_two_files : (c : Color) (s t : ℕ) → aims_at c King s t ≡ true → (files_apart s t == 2) ≡ true → ⊥
unfolding aims_at steps_apart
not_two_files c s t near two =
    let step = eqb-true (steps_apart s t) 1 near in
    let files = eqb-true (files_apart s t) 2 two in
    omega arith

-- castling goes two files
castling_files : (c : Color) (w : Wing) (s t : ℕ) → s ≡ home_of c → t ≡ goal_of c w → (files_apart s t == 2) ≡ true
unfolding files_apart
castling_files White Kingside s t e f = rw (e, f) refl
castling_files White Queenside s t e f = rw (e, f) refl
castling_files Black Kingside s t e f = rw (e, f) refl
castling_files Black Queenside s t e f = rw (e, f) refl

long_file : (c : Color) (t : ℕ) → t ≡ home_of c - 2 → (file_of t == 6) ≡ true → ⊥
long_file White t e h = (let f = eqb-true (file_of t) 6 h in omega arith)
long_file Black t e h = (let f = eqb-true (file_of t) 6 h in omega arith)

short_file : (c : Color) (t : ℕ) → t ≡ home_of c + 2 → (file_of t == 2) ≡ true → ⊥
short_file White t e h = (let f = eqb-true (file_of t) 2 h in omega arith)
short_file Black t e h = (let f = eqb-true (file_of t) 2 h in omega arith)

pub each_goal : (c : Color) (w : Wing) (t : ℕ) → t ≡ goal_of c w → (t ≡ home_of c + 2) ⊎ (t ≡ home_of c - 2)
each_goal c Kingside t e = inl e
each_goal c Queenside t e = inr e

-- where the king castles to
castled : (q : Board) (m : Move) (man : Man) → Mover q m man → is_castling q m ≡ true → (m.to ≡ home_of q.side + 2) ⊎ (m.to ≡ home_of q.side - 2)
unfolding is_castling
castled q m man may h =
    let both = and_parts (is_man q.side King (man_at q.men m.from)) (files_apart m.from m.to == 2) h in
    let king = kind_tested q.side King (man_at q.men m.from) man may.found both.0 in
    elim (king_way q m.from m.to (ap (λ k. goes q k m.from m.to) (sym king) ∙ may.goes)) [
      | inl near ↦ absurd (not_two_files q.side m.from m.to near both.1)
      | inr x ↦ each_goal q.side x.0 m.to (castling_tests q x.0 m.from m.to x.1).to_goal
    ]

-- the parts of a move that fits the parts of a word
record FitsParts (q : Board) (p : Parts) (m : Move) : Type 0 where
  pub plain : is_castling q m ≡ false
  pub man : is_man q.side p.kind (man_at q.men m.from) ≡ true
  pub to : m.to ≡ p.to

parts_fit : (q : Board) (p : Parts) (m : Move) → fits q (Plain p) m ≡ true → FitsParts q p m
unfolding fits fits_parts
parts_fit q p m h =
    let f = not (is_castling q m) in
    let a = is_man q.side p.kind (man_at q.men m.from) in
    let b = is_named p.file (file_of m.from) in
    let c = is_named p.rank (rank_of m.from) in
    let d = m.to == p.to in
    let e = promotes_as p.promotion m.promotion in
    let one = (and_parts (f && a && b && c && d) e h).0 in
    let two = and_parts (f && a && b && c) d one in
    let three = and_parts (f && a && b) c two.0 in
    let four = and_parts (f && a) b three.0 in
    let five = and_parts f a four.0 in
    record { plain = not-true (is_castling q m) five.0; man = five.1; to = eqb-true m.to p.to two.1 }

-- the move enters the target of the word
pub entered : (q : Board) (form : Form) (m : Move) → names q form m ≡ true → m.to ≡ target_of q form
unfolding fits
entered q Short m h =
    let may = mover_named q Short m h in
    let fit = and_parts (is_castling q m) (file_of m.to == 6) (and_parts (fits q Short m) (is_legal_in q m) h).0 in
    elim (castled q m may.0 may.1 fit.0) [
      | inl e ↦ e
      | inr e ↦ absurd (long_file q.side m.to e fit.1)
    ]
entered q Long m h =
    let may = mover_named q Long m h in
    let fit = and_parts (is_castling q m) (file_of m.to == 2) (and_parts (fits q Long m) (is_legal_in q m) h).0 in
    elim (castled q m may.0 may.1 fit.0) [
      | inl e ↦ absurd (short_file q.side m.to e fit.1)
      | inr e ↦ e
    ]
entered q (Plain p) m h = (parts_fit q p m (and_parts (fits q (Plain p) m) (is_legal_in q m) h).0).to

ranks_differ : (c : Color) (s t : ℕ) → is_rank_ahead c s t ≡ true → rank_of s ≡ rank_of t → ⊥
unfolding is_rank_ahead
ranks_differ White s t h e = (let f = eqb-true (rank_of t) (rank_of s + 1) h in omega arith)
ranks_differ Black s t h e = (let f = eqb-true (rank_of s) (rank_of t + 1) h in omega arith)

ranks_far : (c : Color) (s t : ℕ) → rank_of s ≡ second_rank c → rank_of t ≡ fourth_rank c → rank_of s ≡ rank_of t → ⊥
ranks_far White s t f g e = omega arith
ranks_far Black s t f g e = omega arith

along_file : (c : Color) (s t : ℕ) → s < 64 → t < 64 → (files_apart s t == 0) ≡ true → (rank_of s ≡ rank_of t → ⊥) → comes_along c t s ≡ true
unfolding comes_along aims_at is_straight
along_file c s t small small' files differ =
    let straight : is_straight s t ≡ true =
    and_from (not (s == t)) ((files_apart s t == 0) || (ranks_apart s t == 0)) (not_from_false (s == t) (ne_eqb s t (λ e. differ (ap rank_of e))))
    (or_left (files_apart s t == 0) (ranks_apart s t == 0) files) in
    and_from (aims_at (other_color c) Rook t s) (not (rank_of s == rank_of t)) (aims_from_there c Rook s t small small' ∙ straight)
    (not_from_false (rank_of s == rank_of t) (ne_eqb (rank_of s) (rank_of t) differ))

-- a man that aims there
by_aim : (c : Color) (k : Kind) (s t : ℕ) → s < 64 → t < 64 → aims_at c k s t ≡ true → may_come c k t s ≡ true
unfolding may_come
by_aim c k s t small small' h =
    or_left (aims_at (other_color c) k t s) (same_kind k Pawn && comes_along c t s) (aims_from_there c k s t small small' ∙ h)

by_step : (c : Color) (s t : ℕ) → s < 64 → t < 64 → (files_apart s t == 0) ≡ true → (rank_of s ≡ rank_of t → ⊥) → may_come c Pawn t s ≡ true
unfolding may_come
by_step c s t small small' files differ =
    or_right (aims_at (other_color c) Pawn t s) (same_kind Pawn Pawn && comes_along c t s) (along_file c s t small small' files differ)

pawn_comes : (q : Board) (s t : ℕ) → s < 64 → t < 64 → goes q Pawn s t ≡ true → may_come q.side Pawn t s ≡ true
unfolding goes is_step is_double_step is_pawn_capture is_en_passant
pawn_comes q s t small small' h =
    elim (or_cases (is_step q s t || is_double_step q s t || is_pawn_capture q s t) (is_en_passant q s t) h) [
      | inr passing ↦ by_aim q.side Pawn s t small small' (and_parts (aims_at q.side Pawn s t) (is_target q.target t) passing).0
      | inl x ↦ elim (or_cases (is_step q s t || is_double_step q s t) (is_pawn_capture q s t) x) [
        | inr capture ↦ by_aim q.side Pawn s t small small' (and_parts (aims_at q.side Pawn s t) (not (is_empty q.men t)) capture).0
        | inl y ↦ elim (or_cases (is_step q s t) (is_double_step q s t) y) [
          | inl step ↦
              let all = and_parts ((files_apart s t == 0) && is_rank_ahead q.side s t) (is_empty q.men t) step in
              let front = and_parts (files_apart s t == 0) (is_rank_ahead q.side s t) all.0 in
              by_step q.side s t small small' front.0 (ranks_differ q.side s t front.1)
          | inr double ↦
              let a = files_apart s t == 0 in
              let b = rank_of s == second_rank q.side in
              let c = rank_of t == fourth_rank q.side in
              let one = and_parts (a && b && c && is_empty q.men (middle s t)) (is_empty q.men t) double in
              let two = and_parts (a && b && c) (is_empty q.men (middle s t)) one.0 in
              let three = and_parts (a && b) c two.0 in
              let four = and_parts a b three.0 in
              by_step q.side s t small small' four.0 (ranks_far q.side s t (eqb-true (rank_of s) (second_rank q.side) four.1) (eqb-true (rank_of t) (fourth_rank q.side) three.1))
        ]
      ]
    ]

king_comes : (q : Board) (s t : ℕ) → s < 64 → t < 64 → goes q King s t ≡ true → (files_apart s t == 2) ≡ false → may_come q.side King t s ≡ true
king_comes q s t small small' h near =
    elim (king_way q s t h) [
      | inl aims ↦ by_aim q.side King s t small small' aims
      | inr x ↦
          let k = castling_tests q x.0 s t x.1 in
          absurd (both_ways (files_apart s t == 2) near (castling_files q.side x.0 s t k.from_home k.to_goal))
    ]

-- a man that goes somewhere, and does not castle, may come there
comes : (q : Board) (k : Kind) (s t : ℕ) → s < 64 → t < 64 → goes q k s t ≡ true → (k ≡ King → (files_apart s t == 2) ≡ false) → may_come q.side k t s ≡ true
unfolding goes
comes q Pawn s t small small' h near = pawn_comes q s t small small' h
comes q King s t small small' h near = king_comes q s t small small' h (near refl)
comes q Knight s t small small' h near = by_aim q.side Knight s t small small' (and_parts (aims_at q.side Knight s t) (is_clear q.men s t) h).0
comes q Bishop s t small small' h near = by_aim q.side Bishop s t small small' (and_parts (aims_at q.side Bishop s t) (is_clear q.men s t) h).0
comes q Rook s t small small' h near = by_aim q.side Rook s t small small' (and_parts (aims_at q.side Rook s t) (is_clear q.men s t) h).0
comes q Queen s t small small' h near = by_aim q.side Queen s t small small' (and_parts (aims_at q.side Queen s t) (is_clear q.men s t) h).0

plain_king : (q : Board) (m : Move) (k : Kind) → is_man q.side k (man_at q.men m.from) ≡ true → is_castling q m ≡ false → k ≡ King → (files_apart m.from m.to == 2) ≡ false
unfolding is_castling
plain_king q m k man plain e =
    false_from_ne_true (files_apart m.from m.to == 2) (λ two. both_ways (is_castling q m) plain
    (and_from (is_man q.side King (man_at q.men m.from)) (files_apart m.from m.to == 2) (ap (λ j. is_man q.side j (man_at q.men m.from)) (sym e) ∙ man) two))

-- the move leaves a square from which a man may make it
pub leaves : (q : Board) (form : Form) (m : Move) → m.from < 64 → target_of q form < 64 → names q form m ≡ true → is_source q form m.from ≡ true
unfolding fits is_source is_castling
leaves q Short m from to h =
    (and_parts (is_man q.side King (man_at q.men m.from)) (files_apart m.from m.to == 2)
    (and_parts (is_castling q m) (file_of m.to == 6) (and_parts (fits q Short m) (is_legal_in q m) h).0).0).0
leaves q Long m from to h =
    (and_parts (is_man q.side King (man_at q.men m.from)) (files_apart m.from m.to == 2)
    (and_parts (is_castling q m) (file_of m.to == 2) (and_parts (fits q Long m) (is_legal_in q m) h).0).0).0
leaves q (Plain p) m from to h =
    let may = mover_named q (Plain p) m h in
    let fit = parts_fit q p m (and_parts (fits q (Plain p) m) (is_legal_in q m) h).0 in
    let kind = kind_tested q.side p.kind (man_at q.men m.from) may.0 may.1.found fit.man in
    let goes_so : goes q p.kind m.from m.to ≡ true = ap (λ k. goes q k m.from m.to) (sym kind) ∙ may.1.goes in
    let there = fit.to in
    let small : m.to < 64 = omega arith in
    let came = comes q p.kind m.from m.to from small goes_so (plain_king q m p.kind fit.man fit.plain) in
    and_from (is_man q.side p.kind (man_at q.men m.from)) (may_come q.side p.kind p.to m.from) fit.man (subst (λ (t : ℕ). may_come q.side p.kind t m.from ≡ true) there came)

-- no other moves than those between these squares are named
none_entered : (q : Board) (form : Form) (s t : ℕ) → (t ≡ target_of q form → ⊥) → filter (names q form) (moves_between s t) ≡ []
none_entered q form s t other =
    let off : (k : Option Kind) → names q form (record { from = s; to = t; promotion = k }) ≡ false =
    λ k. false_from_ne_true (names q form (record { from = s; to = t; promotion = k })) (λ h. other (entered q form (record { from = s; to = t; promotion = k }) h)) in
    rw (off None, off (Some Queen), off (Some Rook), off (Some Bishop), off (Some Knight)) refl

none_left_by : (q : Board) (form : Form) (s t : ℕ) → s < 64 → target_of q form < 64 → is_source q form s ≡ false → filter (names q form) (moves_between s t) ≡ []
none_left_by q form s t small to out =
    let off : (k : Option Kind) → names q form (record { from = s; to = t; promotion = k }) ≡ false =
    λ k. false_from_ne_true (names q form (record { from = s; to = t; promotion = k })) (λ h. both_ways (is_source q form s) out (leaves q form (record { from = s; to = t; promotion = k }) small to h)) in
    rw (off None, off (Some Queen), off (Some Rook), off (Some Bishop), off (Some Knight)) refl

-- from one square the word names what it names between it and the target
pub from_one : (q : Board) (form : Form) (s : ℕ) → target_of q form < 64 → filter (names q form) (moves_from s) ≡ filter (names q form) (moves_between s (target_of q form))
unfolding moves_from
from_one q form s to = of_one_square (names q form) (moves_between s) (target_of q form) (λ t other. none_entered q form s t other) to

-- all that the word names leaves one of its sources
pub from_sources : (q : Board) (form : Form) (set : List Bool) → target_of q form < 64 → set ≡ set_of (is_source q form) → filter (names q form) (flat_map moves_from (squares_in set)) ≡ filter (names q form) all_moves
unfolding all_moves moves_from
from_sources q form set to is =
    ap (λ x. filter (names q form) (flat_map moves_from (squares_in x))) is
    ∙ filter_in_set (names q form) moves_from (is_source q form) (λ s small out.
    all_empty (names q form) (moves_between s) squares (λ t inside. none_left_by q form s t small to out))

-- the legal moves that fit are those that are named
pub named_are : (q : Board) (form : Form) → filter (names q form) all_moves ≡ filter (fits q form) (legal q)
unfolding legal
named_are q form = filter_both (fits q form) (is_legal_in q) all_moves

-- no man becomes another but on the last rank
pub no_promotion : (q : Board) (form : Form) (s t : ℕ) (k : Kind) → (rank_of t == last_rank q.side) ≡ false → names q form (record { from = s; to = t; promotion = Some k }) ≡ false
unfolding promotes_well
no_promotion q form s t k other =
    let m : Move = record { from = s; to = t; promotion = Some k } in
    false_from_ne_true (names q form m) (λ h.
    let may = mover_named q form m h in
    let off = and_right (same_kind may.0.kind Pawn) (rank_of t == last_rank q.side) other in
    both_ways false refl (sym (rw off refl) ∙ may.1.well))

-- the sets from which men come
pub along_is : (c d : Color) (t r : ℕ) (aims ranks set : List Bool) → d ≡ other_color c → aims ≡ set_of (aims_at d Rook t) → r ≡ rank_of t → ranks ≡ set_of (λ s. rank_of s == r) → set ≡ set_minus aims ranks
    → set ≡ set_of (comes_along c t)
unfolding comes_along
along_is c d t r aims ranks set other seen rank row is =
    is ∙ ap (λ x. set_minus x ranks) seen ∙ ap (λ x. set_minus (set_of (aims_at d Rook t)) x) row
    ∙ minus_of (aims_at d Rook t) (λ s. rank_of s == r)
    ∙ ap (λ x. set_of (λ s. aims_at x Rook t s && not (rank_of s == r))) other
    ∙ ap (λ n. set_of (λ s. aims_at (other_color c) Rook t s && not (rank_of s == n))) rank

no_more : (x y : Bool) → y ≡ false → x ≡ (x || y)
no_more true y h = refl
no_more false y h = sym h

pub pawn_comes_from : (c d : Color) (k : Kind) (t : ℕ) (aims steps set : List Bool) → d ≡ other_color c → same_kind k Pawn ≡ true → aims ≡ set_of (aims_at d k t) → steps ≡ set_of (comes_along c t) → set ≡ set_joined aims steps
    → set ≡ set_of (may_come c k t)
unfolding may_come
pawn_comes_from c d k t aims steps set other pawn seen along is =
    is ∙ ap (λ x. set_joined x steps) seen ∙ ap (λ x. set_joined (set_of (aims_at d k t)) x) along
    ∙ joined_of (aims_at d k t) (comes_along c t)
    ∙ ap (λ x. set_of (λ s. aims_at x k t s || comes_along c t s)) other
    ∙ ap (λ b. set_of (λ s. aims_at (other_color c) k t s || (b && comes_along c t s))) (sym pawn)

pub other_comes_from : (c d : Color) (k : Kind) (t : ℕ) (aims : List Bool) → d ≡ other_color c → same_kind k Pawn ≡ false → aims ≡ set_of (aims_at d k t) → aims ≡ set_of (may_come c k t)
unfolding may_come
other_comes_from c d k t aims other pawn seen =
    seen ∙ ap (λ x. set_of (aims_at x k t)) other
    ∙ same_set (aims_at (other_color c) k t) (λ s. aims_at (other_color c) k t s || (same_kind k Pawn && comes_along c t s)) (λ s small.
    no_more (aims_at (other_color c) k t s) (same_kind k Pawn && comes_along c t s) (and_left (same_kind k Pawn) (comes_along c t s) pawn))

pub parts_come_from : (q : Board) (p : Parts) (c : Color) (men come set : List Bool) → c ≡ q.side → men ≡ set_of (λ s. is_man c p.kind (man_at q.men s)) → come ≡ set_of (may_come c p.kind p.to) → set ≡ set_common men come
    → set ≡ set_of (is_source q (Plain p))
unfolding is_source
parts_come_from q p c men come set side own may is =
    is ∙ ap (λ x. set_common x come) own ∙ ap (λ x. set_common (set_of (λ s. is_man c p.kind (man_at q.men s))) x) may
    ∙ common_of (λ s. is_man c p.kind (man_at q.men s)) (may_come c p.kind p.to)
    ∙ ap (λ d. set_of (λ s. is_man d p.kind (man_at q.men s) && may_come d p.kind p.to s)) side

pub short_comes_from : (q : Board) (form : Form) (c : Color) (men : List Bool) → form ≡ Short → c ≡ q.side → men ≡ set_of (λ s. is_man c King (man_at q.men s)) → men ≡ set_of (is_source q form)
unfolding is_source
short_comes_from q form c men short side own =
    own ∙ ap (λ d. set_of (λ s. is_man d King (man_at q.men s))) side ∙ ap (λ f. set_of (is_source q f)) (sym short)

pub long_comes_from : (q : Board) (form : Form) (c : Color) (men : List Bool) → form ≡ Long → c ≡ q.side → men ≡ set_of (λ s. is_man c King (man_at q.men s)) → men ≡ set_of (is_source q form)
unfolding is_source
long_comes_from q form c men long side own =
    own ∙ ap (λ d. set_of (λ s. is_man d King (man_at q.men s))) side ∙ ap (λ f. set_of (is_source q f)) (sym long)
