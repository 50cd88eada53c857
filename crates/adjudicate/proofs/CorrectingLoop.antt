-- The loop over games whose results may be corrected: what was judged and written so far, and how a run ends.
use Rattle.std.proofs.Common.{◌≡◌, ◌≢◌, ◌↔◌, ◌⊎◌, inl, inr, ℕ, zero, suc, ◌+◌, ◌-◌, ◌^◌, ◌<◌, ◌≤◌, Bool, true, false, if◌then◌else◌, List, [], ◌∷◌, ◌++◌, length, map, take, drop, Option, Some, None, Result, Ok, Err, nat_lt, slice_get, refl, sym, ap, ◌∙◌, arith, subst, take-append-drop, append_assoc, append-nil, length-append}
use Rattle.std.specs.Io.KnownBytes.{Appends, Consumes, IsAtEnd}
use Rattle.std.proofs.lemmas.List.{length-map, map-append, drop_all}
use Rattle.std.proofs.lemmas.List.Sums.{count_by-le-length}
use Rattle.std.proofs.KnownBytes.{Appends-nil, Appends-trans}
use Rattle.cha_outside.proofs.Gathered.{gathered_front}
use Rattle.cha_outside.specs.Faults.{Rose}
use Rattle.cha_outside.specs.declared.gathering.ReadEnd.{ReadEnd}
use Rattle.cha_outside.specs.declared.gathering.ReadEnd.TheVariants as ends
use Rattle.pgn_games.specs.declared.faults.GameFault.{GameFault}
use Rattle.pgn_games.specs.declared.played.Game.{Game}
use Rattle.pgn_games.specs.declared.played.PlacedGame.{PlacedGame}
use Rattle.pgn_games.specs.declared.played.Span.{Span}
use Rattle.pgn_games.specs.Games.{placed_games, is_closed}
use Rattle.pgn_games.specs.Settling.{settled_games}
use Rattle.pgn_games.proofs.InOrder.{placed_games_order}
use Rattle.pgn_games.proofs.Settled.{settled_grow}
use Rattle.pgn_results.specs.Correcting.{end_of}
use Rattle.pgn_results.proofs.GameByGame.{same_first, end_more, stands_behind}
use Rattle.cha_board.specs.Board.{Board}
use Rattle.cha_san.specs.declared.faults.PlayFault.{PlayFault}
use Rattle.cha_san.specs.Playing.{positions}
use Rattle.cha_outcome.specs.declared.items.Item.{Item}
use Rattle.cha_outcome.specs.declared.items.Item.TheVariants.{UnreadableGame}
use Rattle.cha_outcome.specs.declared.items.TheConstants.{MOST_GAME_BYTES}
use Rattle.cha_outcome.specs.declared.unreadable.Unreadable.TheVariants.{TooLong as TooLongGame}
use Rattle.cha_outcome.specs.declared.outcomes.Outcome.{Outcome}
use Rattle.cha_outcome.specs.declared.questions.Question.{Question}
use Rattle.cha_outcome.specs.declared.questions.Question.TheVariants.{Verdicts, Mates, Plies}
use Rattle.cha_outcome.specs.declared.totals.Totals.{Totals}
use Rattle.cha_outcome.specs.Items.{played_item, item_unless, game_item, kept_item}
use Rattle.cha_outcome.specs.Outcomes.{item_of, new_result, Answers, AllSound, is_refused, is_dead_position, is_changed_game, is_open, has_mates}
use Rattle.cha_outcome.specs.Totals.{totals_of, counted, HasRoom}
use Rattle.report_style.specs.declared.styles.Style.TheVariants.{SummaryAlone}
use Rattle.flag_report.specs.declared.styles.Subject.TheVariants.{Games}
use Rattle.flag_report.specs.Styles.{summary}
use Rattle.adjudicate.specs.declared.endings.Status.{Status}
use Rattle.adjudicate.specs.declared.endings.Status.TheVariants.{Done, ReadFault, WriteFault, TooLong, NoMemory}
use Rattle.adjudicate.specs.Statuses.{status_of_end}
use Rattle.item_batches.specs.Items.{game_items}
use Rattle.adjudicate.specs.Jobs.{on_kept_games, last}
use Rattle.adjudicate.specs.Report.{IsFront}
use Rattle.adjudicate.specs.Runs.{Grew, outside}
use Rattle.adjudicate.specs.Corrections.{Correction, corrected_text, corrected_front, Noted, HasAll, HasFirst, WritesWhole, EndedCorrecting}
use Rattle.adjudicate.specs.Orders.{IsCorrecting}
use Rattle.side_by_side.specs.declared.cuts.Purpose.TheVariants.{Corrected}
use Rattle.side_by_side.specs.declared.cuts.ItemKind.{ItemKind}
use Rattle.side_by_side.specs.declared.cuts.ItemKind.TheVariants.{Games as GamesFor}
use Rattle.side_by_side.specs.Cuts.{IsAskedOf}
use Rattle.item_batches.specs.Readers.{items_by}
use Rattle.item_batches.specs.Pieces.{game_piece, end_piece}
use Rattle.adjudicate.specs.Steps.{place_of, IsEnded}
use Rattle.item_batches.specs.Items.{TookAsNeeded}
use Rattle.adjudicate.proofs.Fronts.{front_of_none, front_settled, front_more}
use Rattle.adjudicate.proofs.CorrectedGames.{corrected_whole}
use Rattle.item_batches.proofs.GivenGames.{item_at, items_first}
use Rattle.adjudicate.proofs.Progress.{sound_more, totals_more}

-- So many games of the bytes taken were judged, with these totals; the last of them ends at a place.
pub record IsJudged (q : Question) (taken : List ℕ) (given written : ℕ) (s : Totals) (os : List Outcome) : Type 0 where
  pub first : take given (game_items Corrected taken) ≡ map item_of os
  pub number : length os ≡ given
  pub sound : AllSound q os
  pub totals : s ≡ totals_of os
  pub place : written ≡ end_of 0 (take given (placed_games taken))

-- And all up to that place was written.
pub record IsAt (q : Question) (changed : Bool) (old now : Option (List ℕ)) (taken : List ℕ) (given written : ℕ) (s : Totals) : Type 0 where
  pub os : List Outcome
  pub judged : IsJudged q taken given written s os
  pub text : Appends old now (corrected_front changed taken os)

-- where a game stands, by its item
place_played : (span : Span) (game : Game) (r : Result (List Board) PlayFault) → place_of (played_item span game r) ≡ Some span
place_played span game (Ok qs) = refl
place_played span game (Err stop) = refl

place_unless : (fault : Option GameFault) (span : Span) (game : Game) → place_of (item_unless fault span game) ≡ Some span
place_unless None span game = place_played span game (positions game.start game.words)
place_unless (Some fault) span game = refl

place_if : (long : Bool) (fault : Option GameFault) (span : Span) (game : Game) → place_of (if long then UnreadableGame span TooLongGame else item_unless fault span game) ≡ Some span
place_if true fault span game = refl
place_if false fault span game = place_unless fault span game

place_kept : (game : PlacedGame) → place_of (kept_item game) ≡ Some game.span
unfolding kept_item game_item
place_kept game = place_if (nat_lt MOST_GAME_BYTES (game.span.end - game.span.start)) game.game.fault game.span game.game

-- and by an outcome that answers about it
pub placed_by : (q : Question) (game : PlacedGame) (o : Outcome) → Answers q (kept_item game) o → place_of (item_of o) ≡ Some game.span
placed_by q game o answers = ap place_of answers.0 ∙ place_kept game

pub same_span : (found : Option Span) (a b : Span) → found ≡ Some a → found ≡ Some b → a ≡ b
same_span found a b is also = let same : Some a ≡ Some b = sym is ∙ also in cc

-- the game that an item is
game_at : (games : List PlacedGame) (n : ℕ) (item : Item) → slice_get (map kept_item games) n ≡ Some item → (game : PlacedGame) × (slice_get games n ≡ Some game) × (item ≡ kept_item game)
game_at [] n item e = cc
game_at (game ∷ games) zero item e = (game, refl, cc)
game_at (game ∷ games) (suc n) item e = game_at games n item e

pub game_of_item : (kind : ItemKind) (taken : List ℕ) (n : ℕ) (item : Item) → kind ≡ GamesFor Corrected → slice_get (items_by kind taken) n ≡ Some item → (game : PlacedGame) × (slice_get (placed_games taken) n ≡ Some game) × (item ≡ kept_item game)
game_of_item kind taken n item is e = game_at (placed_games taken) n item (subst (λ k. slice_get (items_by k taken) n ≡ Some item) is e)

-- the outcome of work on an item is one of its game
pub answers_game : (q q' : Question) (item : Item) (game : PlacedGame) (o : Outcome) → q' ≡ q → item ≡ kept_item game → Answers q' item o → Answers q (kept_item game) o
answers_game q q' item game o same is answers = subst (λ x. Answers q x o) is (subst (λ x. Answers x item o) same answers)

-- the first items with the one that follows
take_more : (xs : List Item) (n : ℕ) (x : Item) → slice_get xs n ≡ Some x → take (n + 1) xs ≡ take n xs ++ x ∷ []
take_more [] n x e = cc
take_more (first ∷ xs) zero x e = let same : first ≡ x = cc in ap (λ y. y ∷ []) same
take_more (first ∷ xs) (suc n) x e = let more : suc n + 1 ≡ suc (n + 1) = omega arith in rw more (ap (λ ys. first ∷ ys) (take_more xs n x e))

take_whole : (xs : List Item) (n : ℕ) → length xs ≤ n → take n xs ≡ xs
take_whole xs n few = sym (append-nil (take n xs)) ∙ ap (λ ys. take n xs ++ ys) (sym (drop_all n xs few)) ∙ take-append-drop n xs

-- the end of a text was cut, or the summary behind it
pub ended_cut : (text told piece : List ℕ) (old new : Option (List ℕ)) (f f' n : ℕ) (notes : Noted) → piece ≡ text → Appends old new (take n piece) → f ≤ f' → Rose f f' → IsEnded WriteFault text told old f new f' notes notes
ended_cut text told piece old new f f' n notes e added later rose = record {
  done = λ h. cc;
  cut = λ _. ((take n piece, added, (drop n piece, sym e ∙ sym (take-append-drop n piece))), ([], Appends-nil notes.taken, (told, refl)));
  cause = λ _. inl rose;
  no_memory = λ h. cc;
  either = inr (inl refl);
  later = later;
  notes_later = omega arith;
}

pub ended_late : (text told piece shown : List ℕ) (old new : Option (List ℕ)) (f f' n : ℕ) (notes notes' : Noted) → piece ≡ text → Appends old new piece → f ≤ f' → shown ≡ told → Appends notes.taken notes'.taken (take n shown)
    → notes.faults ≤ notes'.faults → Rose notes.faults notes'.faults → IsEnded WriteFault text told old f new f' notes notes'
ended_late text told piece shown old new f f' n notes notes' e added later same said notes_later rose = record {
  done = λ h. cc;
  cut = λ _. ((piece, added, ([], sym e ∙ sym (append-nil piece))), (take n shown, said, (drop n shown, sym same ∙ sym (take-append-drop n shown))));
  cause = λ _. inr rose;
  no_memory = λ h. cc;
  either = inr (inl refl);
  later = later;
  notes_later = notes_later;
}

-- all was written
pub ended_well : (text told piece shown : List ℕ) (old new : Option (List ℕ)) (f f' : ℕ) (notes notes' : Noted) → piece ≡ text → Appends old new piece → f ≤ f' → shown ≡ told → Appends notes.taken notes'.taken shown
    → notes.faults ≤ notes'.faults → IsEnded Done text told old f new f' notes notes'
ended_well text told piece shown old new f f' notes notes' e added later same said notes_later = record {
  done = λ _. (subst (λ x. Appends old new x) e added, subst (λ x. Appends notes.taken notes'.taken x) same said);
  cut = λ h. cc;
  cause = λ h. cc;
  no_memory = λ h. cc;
  either = inl refl;
  later = later;
  notes_later = notes_later;
}

-- where the source has not ended, the games that were given are settled, and more bytes change nothing of that
pub still_whole : (was now : Bool) (taken taken' more : List ℕ) (given : ℕ) (left : Option (List ℕ)) → taken' ≡ taken ++ more → (was ≡ false → given ≤ settled_games taken) → (was ≡ true → now ≡ true) → (now ≡ true → IsAtEnd left)
    → (given ≤ settled_games taken') ⊎ IsAtEnd left
still_whole true now taken taken' more given left e due still end = inr (end (still refl))
still_whole false now taken taken' more given left e due still end = inl (let h = due refl in omega (arith, h, ap settled_games e, settled_grow taken more))

-- nothing was judged
pub at_first : (q : Question) (changed : Bool) (old : Option (List ℕ)) (s : Totals) → s ≡ totals_of [] → IsAt q changed old old [] 0 0 s
at_first q changed old s e = record {
  os = [];
  judged = record { first = refl; number = refl; sound = tt; totals = e; place = refl };
  text = subst (λ x. Appends old old x) (sym (front_of_none changed [])) (Appends-nil old);
}

-- more bytes may be taken
front_same : (ended : Bool) (changed : Bool) (taken taken' more : List ℕ) (os : List Outcome) → taken' ≡ taken ++ more → (ended ≡ true → taken' ≡ taken) → (ended ≡ false → length os ≤ settled_games taken)
    → corrected_front changed taken' os ≡ corrected_front changed taken os
front_same true changed taken taken' more os e still due = ap (λ b. corrected_front changed b os) (still refl)
front_same false changed taken taken' more os e still due = ap (λ b. corrected_front changed b os) e ∙ front_settled changed taken more os (due refl)

games_first : (ended : Bool) (taken taken' more : List ℕ) (given : ℕ) → taken' ≡ taken ++ more → (ended ≡ true → taken' ≡ taken) → (ended ≡ false → given ≤ settled_games taken) → take given (placed_games taken') ≡ take given (placed_games taken)
games_first true taken taken' more given e still due = ap (λ b. take given (placed_games b)) (still refl)
games_first false taken taken' more given e still due = ap (λ b. take given (placed_games b)) e ∙ same_first taken more given (due refl)

pub retook : (q : Question) (changed ended : Bool) (old now : Option (List ℕ)) (taken taken' more : List ℕ) (given written written' : ℕ) (s : Totals) → IsAt q changed old now taken given written s → taken' ≡ taken ++ more
    → (ended ≡ true → taken' ≡ taken) → (ended ≡ false → given ≤ settled_games taken) → written' ≡ written → IsAt q changed old now taken' given written' s
retook q changed ended old now taken taken' more given written written' s at e still due w =
    let same = games_first ended taken taken' more given e still due in
    record {
      os = at.os;
      judged = record {
        first = items_first kept_item given taken' taken same ∙ at.judged.first;
        number = at.judged.number;
        sound = at.judged.sound;
        totals = at.judged.totals;
        place = w ∙ at.judged.place ∙ ap (end_of 0) (sym same);
      };
      text = subst (λ x. Appends old now x) (sym (front_same ended changed taken taken' more at.os e still (λ f. omega (arith, due f, at.judged.number)))) at.text;
    }

-- one game more is judged
judged_more : (q : Question) (taken : List ℕ) (given given' written written' : ℕ) (s : Totals) (os : List Outcome) (o : Outcome) (game : PlacedGame) → IsJudged q taken given written s os → slice_get (placed_games taken) given ≡ Some game
    → Answers q (kept_item game) o → given' ≡ given + 1 → written' ≡ game.span.end → IsJudged q taken given' written' (counted s o) (os ++ o ∷ [])
judged_more q taken given given' written written' s os o game j found answers e w = record {
  first = ap (λ n. take n (game_items Corrected taken)) e ∙ take_more (game_items Corrected taken) given (kept_item game) (item_at kept_item (placed_games taken) given game found) ∙ ap (λ xs. xs ++ kept_item game ∷ []) j.first
      ∙ ap (λ x. map item_of os ++ x ∷ []) (sym answers.0) ∙ sym (map-append item_of os (o ∷ []));
  number = length-append os (o ∷ []) ∙ ap (λ n. n + 1) j.number ∙ sym e;
  sound = sound_more q os o j.sound answers.1;
  totals = ap (λ t. counted t o) j.totals ∙ totals_more os o;
  place = w ∙ sym (end_more (placed_games taken) given 0 game found) ∙ ap (λ n. end_of 0 (take n (placed_games taken))) (sym e);
}

front_next : (q : Question) (changed : Bool) (taken : List ℕ) (given written : ℕ) (s : Totals) (os : List Outcome) (o : Outcome) (game : PlacedGame) (text : List ℕ) → IsJudged q taken given written s os → slice_get (placed_games taken) given ≡ Some game
    → text ≡ game_piece changed taken written game.span (new_result o) → corrected_front changed taken (os ++ o ∷ []) ≡ corrected_front changed taken os ++ text
front_next q changed taken given written s os o game text j found e =
    front_more changed taken os o game (ap (slice_get (placed_games taken)) j.number ∙ found)
    ∙ ap (λ n. corrected_front changed taken os ++ game_piece changed taken n game.span (new_result o)) (ap (λ n. end_of 0 (take n (placed_games taken))) j.number ∙ sym j.place)
    ∙ ap (λ x. corrected_front changed taken os ++ x) (sym e)

-- and written
pub gave : (q : Question) (changed : Bool) (old now next : Option (List ℕ)) (taken : List ℕ) (given given' written written' : ℕ) (s : Totals) (o : Outcome) (game : PlacedGame) (text : List ℕ) → IsAt q changed old now taken given written s
    → slice_get (placed_games taken) given ≡ Some game → Answers q (kept_item game) o → text ≡ game_piece changed taken written game.span (new_result o) → Appends now next text → given' ≡ given + 1 → written' ≡ game.span.end
    → IsAt q changed old next taken given' written' (counted s o)
gave q changed old now next taken given given' written written' s o game text at found answers text_is added e w = record {
  os = at.os ++ o ∷ [];
  judged = judged_more q taken given given' written written' s at.os o game at.judged found answers e w;
  text = subst (λ x. Appends old next x) (sym (front_next q changed taken given written s at.os o game text at.judged found text_is)) (Appends-trans old now next (corrected_front changed taken at.os) text at.text added);
}

-- where the next game stands
pub stands : (q : Question) (changed : Bool) (old now : Option (List ℕ)) (taken : List ℕ) (given written : ℕ) (s : Totals) (game : PlacedGame) → IsAt q changed old now taken given written s → slice_get (placed_games taken) given ≡ Some game
    → (written ≤ game.span.start) × (game.span.start ≤ game.span.end) × (game.span.end ≤ length taken)
stands q changed old now taken given written s game at found =
    let b = stands_behind (placed_games taken) given 0 (length taken) game (placed_games_order taken) found in
    (omega (arith, b.0, at.judged.place), omega (arith, b.1), b.2)

-- one more outcome can be counted
pub room_at : (q : Question) (changed : Bool) (old now : Option (List ℕ)) (taken : List ℕ) (given written : ℕ) (s : Totals) → IsAt q changed old now taken given written s → given < 2 ^ 62 → HasRoom s
room_at q changed old now taken given written s at few =
    let os = at.os in
    let e = at.judged.totals in
    let number : s.items ≡ length os = ap (λ t. t.items) e in
    let size = at.judged.number in
    let refused : s.refused ≤ length os = rw (ap (λ t. t.refused) e) (count_by-le-length is_refused os) in
    let many : s.changed ≤ length os = rw (ap (λ t. t.changed) e) (count_by-le-length is_changed_game os) in
    let dead : s.dead ≤ length os = rw (ap (λ t. t.dead) e) (count_by-le-length is_dead_position os) in
    let undecided : s.undecided ≤ length os = rw (ap (λ t. t.undecided) e) (count_by-le-length is_open os) in
    let found : s.found ≤ length os = rw (ap (λ t. t.found) e) (count_by-le-length has_mates os) in
    record { few_items = omega arith; few_refused = omega arith; few_changed = omega arith; few_dead = omega arith; few_undecided = omega arith; few_found = omega arith }

-- the whole output is the front up to the last game, and what stands behind it
whole_text : (q : Question) (changed : Bool) (taken : List ℕ) (given written : ℕ) (s : Totals) (os : List Outcome) → IsAskedOf (GamesFor Corrected) q → IsJudged q taken given written s os → map item_of os ≡ game_items Corrected taken
    → corrected_text changed taken os ≡ corrected_front changed taken os ++ end_piece changed taken written
whole_text q true taken given written s os asked j all = sym (append-nil (corrected_front true taken os))
whole_text (Verdicts limits draws) false taken given written s os asked j all =
    corrected_whole limits draws taken os j.sound all
    ∙ ap (λ n. corrected_front false taken os ++ drop n taken) (ap (λ n. end_of 0 (take n (placed_games taken))) (length-map os new_result ∙ j.number) ∙ sym j.place)
whole_text (Mates side depth) false taken given written s os asked j all = absurd asked
whole_text Plies false taken given written s os asked j all = absurd asked

abbrev pub of : Question → Bool → Correction
of q changed = record { judging = on_kept_games q; changed = changed }

-- How a run ends, where so many games were judged and written.
module _ (q : Question) (changed : Bool) (asked : IsAskedOf (GamesFor Corrected) q) (old now : Option (List ℕ)) (g : ℕ) (taken : List ℕ) (given written : ℕ) (s : Totals) (at : IsAt q changed old now taken given written s)
    (took : TookAsNeeded settled_games taken given) (left left' : Option (List ℕ)) (f f' : ℕ) (consumed : Consumes left left' taken) (source_later : f ≤ f') (notes : Noted) where
  -- so many games may be written: they are settled, or nothing is left
  abbrev pub MayHave : ℕ → Type 0
  MayHave count = (count ≤ settled_games taken) ⊎ IsAtEnd left'

  first_of : (next : Option (List ℕ)) (g' : ℕ) → MayHave given → HasFirst (on_kept_games q) (outside left' f' next g') taken at.os
  first_of next g' may = (
    drop given (game_items Corrected taken),
    sym (take-append-drop given (game_items Corrected taken)) ∙ ap (λ x. x ++ drop given (game_items Corrected taken)) at.judged.first,
    at.judged.sound,
    subst MayHave (sym at.judged.number) may,
  )

  -- nothing was read that was not needed for one more
  took_now : TookAsNeeded settled_games taken (length at.os)
  took_now = subst (TookAsNeeded settled_games taken) (sym at.judged.number) took

  whole : (least : List ℕ → ℕ) (g' : ℕ) → least taken ≤ given → MayHave given → WritesWhole (of q changed) least (outside left f old g) (outside left' f' now g') notes notes
  whole least g' due may = (taken, consumed, (at.os, first_of now g' may, took_now, omega (arith, due, at.judged.number), (corrected_front changed taken at.os, at.text, refl)), refl)

  short : (x : Status) (next : Option (List ℕ)) (g' : ℕ) (notes' : Noted) → EndedCorrecting (of q changed) x (outside left f old g) (outside left' f' next g') notes notes' → (x ≡ ReadFault → Rose f f')
      → (x ≡ WriteFault → Rose g g' ⊎ Rose notes.faults notes'.faults) → x ≢ TooLong → length taken ≤ 268435456 → g ≤ g' → notes.faults ≤ notes'.faults
      → IsCorrecting (of q changed) x (outside left f old g) (outside left' f' next g') notes notes'
  short x next g' notes' ended read_fault write_fault other few later notes_later = record {
    ended = ended;
    read_fault = read_fault;
    write_fault = write_fault;
    too_long = λ e. absurd (other e);
    not_too_long = λ _. (taken, consumed, few);
    never_too_long = λ bytes told small e. other e;
    source_later = source_later;
    sink_later = later;
    notes_later = notes_later;
  }

  not_more : (n most : ℕ) → (most < n → ⊥) → n ≤ most
  not_more n most h = omega arith

  -- the text could not be read to its end
  pub not_read : (end : ReadEnd) (status : Status) (g' : ℕ) → status ≡ status_of_end end → g ≤ g' → (end ≡ ends.ReadFault → Rose f f') → (end ≡ ends.ReadFault → settled_games taken ≤ given) → ((end ≡ ends.TooLong) ↔ (268435456 < length taken))
      → length taken ≤ 268435456 + 4096 → MayHave given → IsCorrecting (of q changed) status (outside left f old g) (outside left' f' now g') notes notes
  not_read end status g' is later cause settled long few may =
      subst (λ x. IsCorrecting (of q changed) x (outside left f old g) (outside left' f' now g') notes notes) (sym is) (by_end end refl)
    where
      by_end : (e : ReadEnd) → end ≡ e → IsCorrecting (of q changed) (status_of_end e) (outside left f old g) (outside left' f' now g') notes notes
      by_end ends.ReadFault e = short ReadFault now g' notes (whole settled_games g' (settled e) may) (λ _. cause e) (λ h. cc) (λ h. cc) (not_more _ 268435456 (λ more. let t = sym e ∙ long.1 more in cc)) later (omega arith)
      by_end ends.TooLong e = record {
        ended = whole (λ _. 0) g' (omega arith) may;
        read_fault = λ h. cc;
        write_fault = λ h. cc;
        too_long = λ _. (taken, consumed, (long.0 e, few));
        not_too_long = λ other. absurd (other refl);
        never_too_long = λ bytes told small _. (let had = gathered_front left left' taken bytes consumed told in let more = long.0 e in omega (arith, had, more, small));
        source_later = source_later;
        sink_later = later;
        notes_later = omega arith;
      }
      by_end ends.NoMemory e = short NoMemory now g' notes (whole (λ _. 0) g' (omega arith) may) (λ h. cc) (λ h. cc) (λ h. cc) (not_more _ 268435456 (λ more. let t = sym e ∙ long.1 more in cc)) later (omega arith)

  -- memory was refused
  pub no_memory : (g' : ℕ) → g ≤ g' → length taken ≤ 268435456 → MayHave given → IsCorrecting (of q changed) NoMemory (outside left f old g) (outside left' f' now g') notes notes
  no_memory g' later few may = short NoMemory now g' notes (whole (λ _. 0) g' (omega arith) may) (λ h. cc) (λ h. cc) (λ h. cc) few later (omega arith)

  -- what is written of the next game was cut
  pub cut_game : (next : Option (List ℕ)) (g' : ℕ) (o : Outcome) (game : PlacedGame) (text : List ℕ) (n : ℕ) → g ≤ g' → Rose g g' → length taken ≤ 268435456 → slice_get (placed_games taken) given ≡ Some game → Answers q (kept_item game) o
      → text ≡ game_piece changed taken written game.span (new_result o) → Appends now next (take n text) → MayHave (given + 1) → IsCorrecting (of q changed) WriteFault (outside left f old g) (outside left' f' next g') notes notes
  cut_game next g' o game text n later rose few found answers text_is added may =
      let front = corrected_front changed taken at.os in
      let j = judged_more q taken given (given + 1) written game.span.end s at.os o game at.judged found answers refl refl in
      let more : HasFirst (on_kept_games q) (outside left' f' next g') taken (at.os ++ o ∷ []) = (
        drop (given + 1) (game_items Corrected taken),
        sym (take-append-drop (given + 1) (game_items Corrected taken)) ∙ ap (λ x. x ++ drop (given + 1) (game_items Corrected taken)) j.first,
        j.sound,
        subst MayHave (sym j.number) may,
      ) in
      let out : Grew old next (λ x. IsFront front x × IsFront x (corrected_front changed taken (at.os ++ o ∷ []))) = (
        front ++ take n text,
        Appends-trans old now next front (take n text) at.text added,
        ((take n text, refl), (drop n text, front_next q changed taken given written s at.os o game text at.judged found text_is ∙ ap (λ x. front ++ x) (sym (take-append-drop n text)) ∙ sym (append_assoc front (take n text) (drop n text)))),
      ) in
      short WriteFault next g' notes (taken, consumed, (at.os, inl (o, more, took_now, out, refl))) (λ h. cc) (λ _. inl rose) (λ h. cc) few later (omega arith)

  -- all games were judged, and the rest and the summary were written or not
  pub all_judged : (status : Status) (next : Option (List ℕ)) (g0 g' : ℕ) (notes' : Noted) → g ≤ g0 → length taken ≤ 268435456 → length (placed_games taken) ≤ given → IsAtEnd left'
      → IsEnded status (end_piece changed taken written) (summary SummaryAlone Games (is_closed taken) s) now g0 next g' notes notes'
      → (Rose g0 g' → Rose g g') → IsCorrecting (of q changed) status (outside left f old g) (outside left' f' next g') notes notes'
  all_judged status next g0 g' notes' before few all end w raise =
      elim w.either [
        | inl is ↦ subst run (sym is) (short Done next g' notes' (taken, consumed, end, (at.os, every, (front ++ piece, text_with piece (w.done is).0, sym whole_is), said (w.done is).1)) (λ h. cc) (λ h. cc) (λ h. cc) few later w.notes_later)
        | inr (inl is) ↦ (
            let part = (w.cut is).0 in
            let out : Grew old next (λ x. IsFront x (corrected_text changed taken at.os)) =
            (front ++ part.0, text_with part.0 part.1, (part.2.0, whole_is ∙ ap (λ x. front ++ x) part.2.1 ∙ sym (append_assoc front part.0 part.2.0))) in
            let told : Grew notes.taken notes'.taken (λ x. IsFront x (last (on_kept_games q) taken at.os)) =
            subst (λ t. Grew notes.taken notes'.taken (λ x. IsFront x (summary SummaryAlone Games (is_closed taken) t))) at.judged.totals (w.cut is).1 in
            subst run (sym is) (short WriteFault next g' notes' (taken, consumed, (at.os, inr (end, every, out, told))) (λ h. cc) (λ _. raised (w.cause is)) (λ h. cc) few later w.notes_later))
        | inr (inr is) ↦ subst run (sym is) (refused (w.no_memory is).0 (w.no_memory is).1)
      ]
    where
      run : Status → Type 0
      run x = IsCorrecting (of q changed) x (outside left f old g) (outside left' f' next g') notes notes'

      front : List ℕ
      front = corrected_front changed taken at.os

      piece : List ℕ
      piece = end_piece changed taken written

      later : g ≤ g'
      later = omega (arith, before, w.later)

      every_item : map item_of at.os ≡ game_items Corrected taken
      every_item = sym at.judged.first ∙ take_whole (game_items Corrected taken) given (omega (arith, all, length-map (placed_games taken) kept_item))

      every : HasAll (on_kept_games q) taken at.os
      every = (every_item, at.judged.sound)

      whole_is : corrected_text changed taken at.os ≡ front ++ piece
      whole_is = whole_text q changed taken given written s at.os asked at.judged every_item

      text_with : (x : List ℕ) → Appends now next x → Appends old next (front ++ x)
      text_with x added = Appends-trans old now next front x at.text added

      said : Appends notes.taken notes'.taken (summary SummaryAlone Games (is_closed taken) s) → Appends notes.taken notes'.taken (last (on_kept_games q) taken at.os)
      said h = subst (λ t. Appends notes.taken notes'.taken (summary SummaryAlone Games (is_closed taken) t)) at.judged.totals h

      raised : Rose g0 g' ⊎ Rose notes.faults notes'.faults → Rose g g' ⊎ Rose notes.faults notes'.faults
      raised (inl rose) = inl (raise rose)
      raised (inr rose) = inr rose

      refused : next ≡ now → notes'.taken ≡ notes.taken → run NoMemory
      refused same quiet = short NoMemory next g' notes' (taken, consumed, (at.os, first_of next g' (inr end), took_now, omega arith, (front, subst (λ x. Appends old x front) (sym same) at.text, refl)), quiet) (λ h. cc) (λ h. cc) (λ h. cc) few later w.notes_later
