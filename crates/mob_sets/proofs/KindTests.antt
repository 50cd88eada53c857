-- Whether some kind passes a test.
use Rattle.std.proofs.Common.{◌≡◌, Bool, true, false, [], ◌∷◌, refl, arith}
use Rattle.std.specs.List.{list_all, list_any}
use Rattle.std.proofs.lemmas.Bool.{and_parts}
use Rattle.std.proofs.lemmas.List.Folds.{Any-from_list_any, list_any_at}
use Rattle.cha_board.specs.declared.men.Kind.{Kind}
use Rattle.cha_board.specs.declared.men.Kind.TheVariants.{Pawn, Knight, Bishop, Rook, Queen, King}
use Rattle.mob_sets.specs.Rows.{kinds}

pub any_kind_at : (f : Kind → Bool) (k : Kind) → f k ≡ true → list_any f kinds ≡ true
any_kind_at f Pawn h = list_any_at f kinds 0 Pawn (omega arith) h
any_kind_at f Knight h = list_any_at f kinds 1 Pawn (omega arith) h
any_kind_at f Bishop h = list_any_at f kinds 2 Pawn (omega arith) h
any_kind_at f Rook h = list_any_at f kinds 3 Pawn (omega arith) h
any_kind_at f Queen h = list_any_at f kinds 4 Pawn (omega arith) h
any_kind_at f King h = list_any_at f kinds 5 Pawn (omega arith) h

pub some_kind : (f : Kind → Bool) → list_any f kinds ≡ true → (k : Kind) × (f k ≡ true)
some_kind f h = (let found = Any-from_list_any f kinds h in (found.1, found.4))

pub no_kind : (f : Kind → Bool) → ((k : Kind) → f k ≡ false) → list_any f kinds ≡ false
no_kind f fails = rw (fails Pawn, fails Knight, fails Bishop, fails Rook, fails Queen, fails King) refl

pub all_kinds_at : (f : Kind → Bool) (k : Kind) → list_all f kinds ≡ true → f k ≡ true
all_kinds_at f k h =
    let a = and_parts (f Pawn) (list_all f (Knight ∷ Bishop ∷ Rook ∷ Queen ∷ King ∷ [])) h in
    let b = and_parts (f Knight) (list_all f (Bishop ∷ Rook ∷ Queen ∷ King ∷ [])) a.1 in
    let c = and_parts (f Bishop) (list_all f (Rook ∷ Queen ∷ King ∷ [])) b.1 in
    let d = and_parts (f Rook) (list_all f (Queen ∷ King ∷ [])) c.1 in
    let e = and_parts (f Queen) (list_all f (King ∷ [])) d.1 in
    each a.0 b.0 c.0 d.0 e.0 (and_parts (f King) true e.1).0 k
  where
    each : f Pawn ≡ true → f Knight ≡ true → f Bishop ≡ true → f Rook ≡ true → f Queen ≡ true → f King ≡ true → (k : Kind) → f k ≡ true
    each p n b r q l Pawn = p
    each p n b r q l Knight = n
    each p n b r q l Bishop = b
    each p n b r q l Rook = r
    each p n b r q l Queen = q
    each p n b r q l King = l

pub each_kind : (f : Kind → Bool) → ((k : Kind) → f k ≡ true) → list_all f kinds ≡ true
each_kind f passes = rw (passes Pawn, passes Knight, passes Bishop, passes Rook, passes Queen, passes King) refl
