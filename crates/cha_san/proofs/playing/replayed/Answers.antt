-- cha_san/proofs/playing/replayed/Answers.antt
use Rattle.std.proofs.Common.{◌+◌, List, ℕ, inr, refl, sym, ap, subst, ◌∙◌, arith}
use Rattle.cha_san.specs.Playing.{positions, FollowsBy}
use Rattle.cha_san.specs.Resolving.{resolved}
use Rattle.cha_san.proofs.Replayed.{word_played, word_fails, words_played}
use Rattle.cha_san.proofs.playing.replayed.Goals as goal

pub returns-in-Err : goal.returns-in-Err
returns-in-Err c =
    let x = c.in-Err.ensures.err in
    inr (word_fails (c.loop-word.ply + 1) c.loop-word.position c.word-item.result c.args.words.now c.loop-word.word-index c.loop-word.done c.in-Err.fault (positions c.args.start.now c.args.words.now)
    c.loop-word-test.true c.word-item.is (ap (resolved c.loop-word.position) (sym c.items.ensures) ∙ x.0) x.1 c.loop-word.invariant.listed)

pub loop-word-preserved : goal.loop-word-preserved
loop-word-preserved c = record {
  number = omega (arith, c.loop-word.invariant.number);
  listed = word_played (c.loop-word.ply + 1) (c.loop-word.ply + 1 + 1) c.loop-word.position c.in-Ok.next c.word-item.result c.args.words.now c.loop-word.word-index c.loop-word.done c.append.new.positions (positions c.args.start.now c.args.words.now)
      c.loop-word-test.true c.word-item.is (subst (λ (w : List ℕ). FollowsBy c.loop-word.position w c.in-Ok.next) c.items.ensures c.in-Ok.ensures.ok) c.in_ok-append.ensures.ok refl c.loop-word.invariant.listed;
}

pub returns : goal.returns
returns c =
    inr (words_played (c.loop-word.ply + 1) c.loop-word.position c.args.words.now c.loop-word.word-index c.loop-word.done c.append-2.new.positions (positions c.args.start.now c.args.words.now)
    c.loop-word-test.false c.in_ok-append-2.ensures.ok c.loop-word.invariant.listed)
