-- The entries that the searches make, one after another.
use Rattle.std.proofs.Common.{◌≡◌, List, [], ◌∷◌, ◌++◌, Result, Ok, subst, refl}
use Rattle.std.specs.Result.{IsErr}
use Rattle.std.proofs.lemmas.List.Elements.{Contains-append_left, Contains-append_right}
use Rattle.cha_list.specs.declared.memory.NoMemory.{NoMemory}
use Rattle.cha_board.specs.declared.men.Color.{Color}
use Rattle.cha_board.specs.declared.men.Color.TheVariants.{White, Black}
use Rattle.cha_board.specs.Men.{other_color}
use Rattle.cha_board.specs.Board.{Board}
use Rattle.cha_moves.proofs.Contained.{Contains-cons_here}
use Rattle.cha_fact.specs.declared.calls.Probe.{Probe}
use Rattle.cha_fact.specs.Keys.{key_of}
use Rattle.cha_fact.specs.Entries.{Entry, probe_entry, HasProbe, MadeSome}
use Rattle.root_workers.specs.RoundAnswers.{RoundsCalls}
use Rattle.root_workers.specs.declared.answers.RoundsEnd.{RoundsEnd}
use Rattle.cha_limits.specs.Bounds.{Bounds}
use Rattle.cha_verdict.specs.declared.verdicts.Verdict.{Verdict}
use Rattle.cha_verdict.specs.declared.decisions.Decision.{Decision}
use Rattle.cha_verdict.specs.Sound.{verdict_on}
use Rattle.cha_decide.specs.Shown.{IsOfSearch, Asked, AskedFor}

-- a position was asked for among more entries
probe_left : (xs ys : List Entry) (q : Board) (w : Color) → HasProbe xs q w → HasProbe (xs ++ ys) q w
unfolding HasProbe
probe_left xs ys q w h = (h.0, Contains-append_left xs ys _ h.1)

probe_right : (xs ys : List Entry) (q : Board) (w : Color) → HasProbe ys q w → HasProbe (xs ++ ys) q w
unfolding HasProbe
probe_right xs ys q w h = (h.0, Contains-append_right xs ys _ h.1)

module _ {S : Type 0} (made : S → List Entry → S → Type 0) (joined : (a b c : S) (xs ys : List Entry) → made a xs b → made b ys c → made a (xs ++ ys) c) where
  -- the rounds, and then the exploration
  pub rounds_then : (made_by : _) (a b c : S) (count : _) (q : Board) (w : Color) (limits : Bounds) (r : Result RoundsEnd NoMemory) → RoundsCalls made made_by count a b q w limits r → MadeSome made b c → MadeSome made a c
  rounds_then made_by a b c count q w limits r calls more = (_, joined a b c _ more.0 calls.entered more.1)

  -- the position was asked for, and then nothing or more
  pub asked_first : (a b : S) (q : Board) (w : Color) (reply : Probe) (result : Result Verdict NoMemory) → made a (probe_entry (key_of q w) reply ∷ []) b → AskedFor made a b q w result
  unfolding HasProbe
  asked_first a b q w reply result entered = record {
    entries = probe_entry (key_of q w) reply ∷ [];
    entered = entered;
    asked = λ v is of. (reply, Contains-cons_here (probe_entry (key_of q w) reply) [] _ refl);
  }

  pub asked_then : (a b c : S) (q : Board) (w : Color) (reply : Probe) (result : Result Verdict NoMemory) → made a (probe_entry (key_of q w) reply ∷ []) b → MadeSome made b c → AskedFor made a c q w result
  unfolding HasProbe
  asked_then a b c q w reply result entered more = record {
    entries = (probe_entry (key_of q w) reply ∷ []) ++ more.0;
    entered = joined a b c _ more.0 entered more.1;
    asked = λ v is of. (reply, Contains-cons_here (probe_entry (key_of q w) reply) more.0 _ refl);
  }

  -- both sides, of which neither has an answer where memory is refused
  pub asked_none : (a b c : S) (q : Board) (first second : Color) (one two : Result Verdict NoMemory) (result : Result Decision NoMemory) → AskedFor made a b q first one → AskedFor made b c q second two → IsErr result → Asked made a c q result
  asked_none a b c q first second one two result f s refused = record {
    entries = f.entries ++ s.entries;
    entered = joined a b c f.entries s.entries f.entered s.entered;
    asked = λ d is. (let P : Result Decision NoMemory → Type 0 = λ x. IsErr x in let h = subst P is refused in cc);
  }

  pub asked_white : (a b c : S) (q : Board) (first second : Color) (white black : Verdict) → first ≡ White → second ≡ other_color first → AskedFor made a b q first (Ok white) → AskedFor made b c q second (Ok black)
      → Asked made a c q (Ok (record { white = white; black = black }))
  asked_white a b c q White White white black e f one two = cc
  asked_white a b c q Black second white black e f one two = cc
  asked_white a b c q White Black white black e f one two = record {
    entries = one.entries ++ two.entries;
    entered = joined a b c one.entries two.entries one.entered two.entered;
    asked = λ d is. (
        let same : record { white = white; black = black } ≡ d = cc in
        subst (λ (x : Decision). (w : Color) → IsOfSearch (verdict_on x w) → HasProbe (one.entries ++ two.entries) q w) same on_both);
  }
    where
      on_both : (w : Color) → IsOfSearch (verdict_on (record { white = white; black = black }) w) → HasProbe (one.entries ++ two.entries) q w
      on_both White of = probe_left one.entries two.entries q White (one.asked white refl of)
      on_both Black of = probe_right one.entries two.entries q Black (two.asked black refl of)

  pub asked_black : (a b c : S) (q : Board) (first second : Color) (white black : Verdict) → first ≡ Black → second ≡ other_color first → AskedFor made a b q first (Ok black) → AskedFor made b c q second (Ok white)
      → Asked made a c q (Ok (record { white = white; black = black }))
  asked_black a b c q Black Black white black e f one two = cc
  asked_black a b c q White second white black e f one two = cc
  asked_black a b c q Black White white black e f one two = record {
    entries = one.entries ++ two.entries;
    entered = joined a b c one.entries two.entries one.entered two.entered;
    asked = λ d is. (
        let same : record { white = white; black = black } ≡ d = cc in
        subst (λ (x : Decision). (w : Color) → IsOfSearch (verdict_on x w) → HasProbe (one.entries ++ two.entries) q w) same on_both);
  }
    where
      on_both : (w : Color) → IsOfSearch (verdict_on (record { white = white; black = black }) w) → HasProbe (one.entries ++ two.entries) q w
      on_both White of = probe_right one.entries two.entries q White (two.asked white refl of)
      on_both Black of = probe_left one.entries two.entries q Black (one.asked black refl of)
