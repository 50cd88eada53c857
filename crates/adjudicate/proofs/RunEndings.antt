-- How runs end.
use Rattle.std.proofs.Common.{◌≡◌, ◌≢◌, ℕ, ◌+◌, ◌-◌, ◌<◌, ◌≤◌, Bool, true, false, List, [], ◌∷◌, ◌++◌, length, Option, Some, None, Result, Err, refl, sym, ap, ◌∙◌, subst, arith, append-nil, inl, inr}
use Rattle.std.specs.Io.KnownBytes.{Appends, Consumes, IsAtEnd}
use Rattle.cha_outside.specs.Faults.{Rose}
use Rattle.cha_outside.specs.Gathering.{Took}
use Rattle.cha_outside.specs.declared.gathering.ReadEnd.{ReadEnd}
use Rattle.cha_outside.specs.declared.gathering.ReadEnd.TheVariants as ends
use Rattle.std.proofs.KnownBytes.{Appends-nil, Consumes-nil}
use Rattle.cha_board.specs.Board.{Board, IsValid}
use Rattle.cha_cert.specs.declared.nodes.Node.{Node}
use Rattle.cha_cert.specs.Certificates.{BeginsAt, AllValid}
use Rattle.cha_cert.proofs.Bounded.{valid_is_unwinnable}
use Rattle.cert_text.proofs.EitherVersion.{any_is_spelled}
use Rattle.cha_words.specs.declared.orders.Order.{Order}
use Rattle.cha_words.specs.declared.orders.Order.TheVariants.{CheckCert}
use Rattle.pgn_games.specs.Settling.{settled_games}
use Rattle.random_games.specs.Made.{made}
use Rattle.cha_outcome.specs.declared.outcomes.Outcome.{Outcome}
use Rattle.cha_outcome.specs.declared.questions.Question.{Question}
use Rattle.report_style.specs.declared.styles.Style.TheVariants.{SummaryAlone}
use Rattle.flag_report.specs.Styles.{block, blocks}
use Rattle.adjudicate.specs.declared.endings.Status.{Status}
use Rattle.adjudicate.specs.declared.endings.Status.TheVariants.{Done, Usage, ReadFault, WriteFault, TooLong, NoMemory, NotAccepted}
use Rattle.adjudicate.specs.Statuses.{status_of_end}
use Rattle.adjudicate.specs.CertFindings.{IsTextOf, IsUnwinnableAtFirst}
use Rattle.adjudicate.specs.Jobs.{Job, job_on, on_made}
use Rattle.side_by_side.specs.declared.cuts.Purpose.TheVariants.{Judged}
use Rattle.side_by_side.specs.declared.cuts.ItemKind.TheVariants.{Games as GamesFor}
use Rattle.flag_report.specs.declared.styles.Subject.TheVariants.{Games}
use Rattle.item_batches.specs.Items.{game_items, TookAsNeeded}
use Rattle.adjudicate.specs.Report.{Demand, demand, demand_by, HasBlocks, HasReport, HasCutBlock}
use Rattle.adjudicate.specs.Runs.{Outside, outside, Ended, AreWhole, BeginsWhole, Takes, HasReadAll, IsRunOf}
use Rattle.adjudicate.specs.Steps.{IsWritten, made_status}

-- the first position is valid
first_is_valid : (p : Board) (nodes : List Node) → BeginsAt p nodes → AllValid nodes → IsValid p
first_is_valid p [] begins valid = absurd begins
first_is_valid p (node ∷ nodes) begins valid = subst IsValid begins (valid 0 node (omega arith))

-- an accepted certificate means that its side cannot mate
law_of_check : (s : Status) (before now : Outside) → Ended (demand CheckCert) s before now → s ≡ Done → Took before.left now.left (IsTextOf IsUnwinnableAtFirst)
law_of_check Usage before now ended done = cc
law_of_check ReadFault before now ended done = cc
law_of_check WriteFault before now ended done = cc
law_of_check TooLong before now ended done = cc
law_of_check NoMemory before now ended done = cc
law_of_check NotAccepted before now ended done = cc
law_of_check Done before now ended done =
    let read = ended.3 in
    let cert = read.0 in
    let valid = read.2.1 in (
      ended.0,
      ended.1,
      (cert, any_is_spelled ended.0 cert read.1, (read.2.0, valid.begins, first_is_valid read.2.0 cert.cert valid.begins valid.positions, valid_is_unwinnable read.2.0 cert.winner cert.cert valid)),
    )

pub law_holds : (order : Order) (s : Status) (before now : Outside) → IsRunOf (demand order) s before now → s ≡ Done → order ≡ CheckCert → Took before.left now.left (IsTextOf IsUnwinnableAtFirst)
law_holds order s before now run done check = law_of_check s before now (subst (λ o. IsRunOf (demand o) s before now) check run).ended done

-- What was read and written makes a run, where its causes are known.
module _ (d : Demand) (before now : Outside) (reads : d.reads ≡ true) (source_later : before.read_faults ≤ now.read_faults) (sink_later : before.write_faults ≤ now.write_faults) where
  -- a run that took no more than an input may have
  pub short_run : (s : Status) → Ended d s before now → (s ≡ ReadFault → Rose before.read_faults now.read_faults) → (s ≡ WriteFault → Rose before.write_faults now.write_faults)
      → s ≢ TooLong → Took before.left now.left (λ taken. length taken ≤ 268435456) → IsRunOf d s before now
  short_run s ended read_fault write_fault other few = record {
    ended = ended;
    reads = λ _. reads;
    read_fault = read_fault;
    write_fault = write_fault;
    too_long = λ e. absurd (other e);
    not_too_long = λ _. few;
    never_too_long = λ bytes told small e. other e;
    source_later = source_later;
    sink_later = sink_later;
  }

  -- a run that took more
  pub long_run : BeginsWhole d (λ _. 0) before now → Took before.left now.left (λ taken. (268435456 < length taken) × (length taken ≤ 268435456 + 4096))
      → ((bytes : List ℕ) → before.left ≡ Some bytes → length bytes ≤ 268435456 → ⊥) → IsRunOf d TooLong before now
  long_run begun much never = record {
    ended = begun;
    reads = λ _. reads;
    read_fault = λ e. cc;
    write_fault = λ e. cc;
    too_long = λ _. much;
    not_too_long = λ other. absurd (other refl);
    never_too_long = λ bytes told small _. never bytes told small;
    source_later = source_later;
    sink_later = sink_later;
  }

-- a run in which nothing was read
quiet_run : (d : Demand) (s : Status) (left a a' : Option (List ℕ)) (f g g' : ℕ) → s ≢ ReadFault → s ≢ TooLong → (s ≡ WriteFault → Rose g g') → g ≤ g'
    → Ended d s (outside left f a g) (outside left f a' g') → IsRunOf d s (outside left f a g) (outside left f a' g')
quiet_run d s left a a' f g g' no_fault short cause later ended = record {
  ended = ended;
  reads = λ h. elim h [
    | inl e ↦ absurd (no_fault e)
    | inr e ↦ absurd (short e)
  ];
  read_fault = λ e. absurd (no_fault e);
  write_fault = cause;
  too_long = λ e. absurd (short e);
  not_too_long = λ _. ([], Consumes-nil left, omega arith);
  never_too_long = λ bytes told small e. short e;
  source_later = omega arith;
  sink_later = later;
}

-- bytes were taken, and nothing was written
nothing_yet : (j : Option Job) (bytes : List ℕ) (Allows : ℕ → Type 0) → Allows 0 → (demand_by j).blocks Allows bytes []
unfolding blocks
nothing_yet None bytes Allows none = refl
nothing_yet (Some j) bytes Allows none = ([], j.items bytes, refl, tt, refl, none)

-- what is read is taken of its source
takes : (reads : Bool) (left left' a a' : Option (List ℕ)) (f f' g g' : ℕ) (bytes : List ℕ) → reads ≡ true → Consumes left left' bytes → Takes reads (outside left f a g) (outside left' f' a' g') bytes
takes true left left' a a' f f' g g' bytes reads consumed = consumed
takes false left left' a a' f f' g g' bytes reads consumed = cc

has_read : (reads : Bool) (left a : Option (List ℕ)) (f g : ℕ) → IsAtEnd left → HasReadAll reads (outside left f a g)
has_read true left a f g end = end
has_read false left a f g end = tt

-- where no item is ever settled, any bytes may be taken
pub took_all : (settled : List ℕ → ℕ) → ((bytes : List ℕ) → settled bytes ≡ 0) → (bytes : List ℕ) → TookAsNeeded settled bytes 0
took_all settled none bytes = ([], (bytes, sym (append-nil bytes), omega arith, omega (arith, none bytes)))

-- a source that could not be read to its end at once
module _ {X : Type 0} (j : Option Job) (reads : (demand_by j).reads ≡ true) (none_settled : (bytes : List ℕ) → (demand_by j).settled bytes ≡ 0) (r : Result X ReadEnd) (left left' a : Option (List ℕ)) (f f' g : ℕ)
    (later : f ≤ f')
    (read_fault : r ≡ Err ends.ReadFault → Took left left' (λ taken. length taken ≤ 268435456))
    (too_long : r ≡ Err ends.TooLong → Took left left' (λ taken. (268435456 < length taken) × (length taken ≤ 268435456 + 4096)))
    (no_memory : r ≡ Err ends.NoMemory → Took left left' (λ taken. length taken ≤ 268435456))
    (cause : r ≡ Err ends.ReadFault → Rose f f')
    (within : (bytes : List ℕ) → left ≡ Some bytes → length bytes ≤ 268435456 → r ≢ Err ends.TooLong) where
  begun : (P : List ℕ → Type 0) (least : List ℕ → ℕ) → ((bytes : List ℕ) → least bytes ≡ 0) → Took left left' P → BeginsWhole (demand_by j) least (outside left f a g) (outside left' f' a g)
  begun P least none took = (took.0, takes (demand_by j).reads left left' a a f f' g g took.0 reads took.1, ([], Appends-nil a, nothing_yet j took.0 _ (omega (arith, none took.0), inl (omega arith), took_all (demand_by j).settled none_settled took.0)))

  unread_by : (end : ReadEnd) → r ≡ Err end → IsRunOf (demand_by j) (status_of_end end) (outside left f a g) (outside left' f' a g)
  unread_by ends.ReadFault e =
      short_run (demand_by j) (outside left f a g) (outside left' f' a g) reads later (omega arith) ReadFault (begun _ (demand_by j).settled none_settled (read_fault e)) (λ _. cause e) (λ h. cc) (λ h. cc) (read_fault e)
  unread_by ends.TooLong e =
      long_run (demand_by j) (outside left f a g) (outside left' f' a g) reads later (omega arith) (begun _ (λ _. 0) (λ _. refl) (too_long e)) (too_long e) (λ bytes told small. within bytes told small e)
  unread_by ends.NoMemory e =
      short_run (demand_by j) (outside left f a g) (outside left' f' a g) reads later (omega arith) NoMemory (begun _ (λ _. 0) (λ _. refl) (no_memory e)) (λ h. cc) (λ h. cc) (λ h. cc) (no_memory e)

  pub unread : (end : ReadEnd) (s : Status) → r ≡ Err end → s ≡ status_of_end end → IsRunOf (demand_by j) s (outside left f a g) (outside left' f' a g)
  unread end s e is = subst (λ status. IsRunOf (demand_by j) status (outside left f a g) (outside left' f' a g)) (sym is) (unread_by end e)

-- a whole input was read, and then the answer on it was written or not
module _ (j : Option Job) (reads : (demand_by j).reads ≡ true) (none_settled : (bytes : List ℕ) → (demand_by j).settled bytes ≡ 0) (bytes : List ℕ) (left left' a a' : Option (List ℕ)) (f f' g g' : ℕ) (consumed : Consumes left left' bytes) (end : IsAtEnd left') where
  abbrev d : Demand
  d = demand_by j

  taken : Takes d.reads (outside left f a g) (outside left' f' a' g') bytes
  taken = takes d.reads left left' a a' f f' g g' bytes reads consumed

  all_read : HasReadAll d.reads (outside left' f' a' g')
  all_read = has_read d.reads left' a' f' g' end

  ended_by_writing : (s : Status) → IsWritten d bytes s a g a' g' → Ended d s (outside left f a g) (outside left' f' a' g')
  ended_by_writing Done w = (bytes, taken, all_read, (w.done refl).0, (w.done refl).1)
  ended_by_writing NotAccepted w = (bytes, taken, all_read, (w.not_accepted refl).0, (w.not_accepted refl).1)
  ended_by_writing WriteFault w = let cut = (w.cut refl).1 in (bytes, taken, (cut.0, cut.1, inr (all_read, cut.2)))
  ended_by_writing NoMemory w =
      (bytes, taken, ([], subst (λ x. Appends a x []) (sym (w.no_memory refl)) (Appends-nil a), nothing_yet j bytes _ (omega arith, inl (omega arith), took_all d.settled none_settled bytes)))
  ended_by_writing Usage w = absurd (w.no_other.0 refl)
  ended_by_writing ReadFault w = absurd (w.no_other.1 refl)
  ended_by_writing TooLong w = absurd (w.no_other.2 refl)

  pub written_run : (s : Status) → length bytes ≤ 268435456 → f ≤ f' → IsWritten d bytes s a g a' g' → IsRunOf d s (outside left f a g) (outside left' f' a' g')
  written_run s few later w =
      short_run d (outside left f a g) (outside left' f' a' g') reads later w.later s (ended_by_writing s w)
      (λ e. absurd (w.no_other.1 e)) (λ e. (w.cut e).0) w.no_other.2 (bytes, consumed, few)

-- a fault in a part of a run is one in the run
pub rose_in : (f f' f'' : ℕ) → f ≤ f' → Rose f' f'' → Rose f f''
rose_in f f' f'' le rose = omega arith

-- where memory is refused before anything is read
pub not_begun_by : (j : Option Job) → TookAsNeeded (demand_by j).settled [] 0 → (left a : Option (List ℕ)) (f g : ℕ) → IsRunOf (demand_by j) NoMemory (outside left f a g) (outside left f a g)
not_begun_by j took left a f g =
    quiet_run (demand_by j) NoMemory left a a f g g (λ e. cc) (λ e. cc) (λ e. cc) (omega arith) ([], nothing_taken (demand_by j).reads, ([], Appends-nil a, nothing_yet j [] _ (omega arith, inl (omega arith), took)))
  where
    nothing_taken : (reads : Bool) → Takes reads (outside left f a g) (outside left f a g) []
    nothing_taken true = Consumes-nil left
    nothing_taken false = (refl, refl, refl)

-- A run over games that were made, by the run over their text: how each status of the one is a status of the other.
module _ (question : Question) (seed count : ℕ) (left a a' : Option (List ℕ)) (f g g' : ℕ) (text rest : List ℕ) (f' : ℕ) (text_is : text ≡ made seed count) where
  abbrev pub of_games : Demand
  of_games = demand_by (Some (job_on (GamesFor Judged) question SummaryAlone Games))

  abbrev pub of_made : Demand
  of_made = demand_by (Some (on_made question seed count))

  whole_text : (bytes : List ℕ) → Consumes (Some text) (Some rest) bytes → IsAtEnd (Some rest) → bytes ≡ made seed count
  whole_text bytes consumed end = sym (append-nil bytes) ∙ ap (λ x. bytes ++ x) (sym end) ∙ sym consumed ∙ text_is

  no_blocks : (n : ℕ) (os : List Outcome) → blocks SummaryAlone n os ≡ []
  unfolding blocks block
  no_blocks n [] = refl
  no_blocks n (o ∷ os) = no_blocks (n + 1) os

  reported : (bytes out : List ℕ) → bytes ≡ made seed count → HasReport (job_on (GamesFor Judged) question SummaryAlone Games) bytes out → HasReport (on_made question seed count) [] out
  reported bytes out all report = (report.0, report.1 ∙ ap (game_items Judged) all, report.2, report.3)

  -- any number of games that are made may have a block
  abbrev Allowed : ℕ → Type 0
  Allowed many = (0 ≤ many) × AreWhole false (outside left f a' g') 0 many × TookAsNeeded (λ _. 0) [] many

  nothing_out : (bytes out : List ℕ) (least : ℕ) → HasBlocks (job_on (GamesFor Judged) question SummaryAlone Games) (λ many. (least ≤ many) × AreWhole true (outside (Some rest) f' a' g') (settled_games bytes) many × TookAsNeeded settled_games bytes many) bytes out
      → HasBlocks (on_made question seed count) Allowed [] out
  unfolding blocks
  nothing_out bytes out least h = ([], game_items Judged (made seed count), refl, tt, h.4 ∙ no_blocks 1 h.0, (omega arith, inr tt, took_all (λ _. 0) (λ _. refl) []))

  no_cut : (bytes out : List ℕ) → HasCutBlock (job_on (GamesFor Judged) question SummaryAlone Games) (λ many. AreWhole true (outside (Some rest) f' a' g') (settled_games bytes) many × TookAsNeeded settled_games bytes (many - 1)) bytes out → ⊥
  unfolding block
  no_cut bytes out h = h.9 refl

  ended_so : (s : Status) → Ended of_games s (outside (Some text) 0 a g) (outside (Some rest) f' a' g') → Ended of_made (made_status s) (outside left f a g) (outside left f a' g')
  ended_so Done e = (let all = whole_text e.0 e.1 e.2 in ([], (refl, refl, refl), tt, tt, (e.4.0, e.4.1, reported e.0 e.4.0 all e.4.2)))
  ended_so NotAccepted e = absurd (e.3 tt)
  ended_so WriteFault e =
      let out = e.2.0 in
      elim e.2.2 [
        | inl cut ↦ absurd (no_cut e.0 out cut)
        | inr h ↦ (let all = whole_text e.0 e.1 h.0 in ([], (refl, refl, refl), (out, e.2.1, inr (tt, (h.1.0, reported e.0 h.1.0 all h.1.1, h.1.2)))))
      ]
  ended_so ReadFault e = ([], (refl, refl, refl), (e.2.0, e.2.1, nothing_out e.0 e.2.0 _ e.2.2))
  ended_so TooLong e = ([], (refl, refl, refl), (e.2.0, e.2.1, nothing_out e.0 e.2.0 _ e.2.2))
  ended_so NoMemory e = ([], (refl, refl, refl), (e.2.0, e.2.1, nothing_out e.0 e.2.0 _ e.2.2))
  ended_so Usage e = absurd e

  no_fault : (s : Status) → made_status s ≢ ReadFault
  no_fault Done e = cc
  no_fault NotAccepted e = cc
  no_fault WriteFault e = cc
  no_fault ReadFault e = cc
  no_fault TooLong e = cc
  no_fault NoMemory e = cc
  no_fault Usage e = cc

  not_long : (s : Status) → made_status s ≢ TooLong
  not_long Done e = cc
  not_long NotAccepted e = cc
  not_long WriteFault e = cc
  not_long ReadFault e = cc
  not_long TooLong e = cc
  not_long NoMemory e = cc
  not_long Usage e = cc

  was_cut : (s : Status) → made_status s ≡ WriteFault → s ≡ WriteFault
  was_cut Done e = cc
  was_cut NotAccepted e = cc
  was_cut WriteFault e = refl
  was_cut ReadFault e = cc
  was_cut TooLong e = cc
  was_cut NoMemory e = cc
  was_cut Usage e = cc

  pub made_run : (s : Status) → IsRunOf of_games s (outside (Some text) 0 a g) (outside (Some rest) f' a' g') → IsRunOf of_made (made_status s) (outside left f a g) (outside left f a' g')
  made_run s run = quiet_run of_made (made_status s) left a a' f g g' (no_fault s) (not_long s) (λ e. run.write_fault (was_cut s e)) run.sink_later (ended_so s run.ended)
