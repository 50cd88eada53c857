-- The one loop over items: what was judged and written so far, and how a run ends.
use Rattle.std.proofs.Common.{◌≡◌, ◌≢◌, ◌↔◌, ◌⊎◌, inl, inr, ℕ, zero, suc, ◌+◌, ◌-◌, ◌^◌, ◌<◌, ◌≤◌, Bool, true, false, List, [], ◌∷◌, ◌++◌, length, take, drop, Option, Some, slice_get, refl, sym, ap, ◌∙◌, arith, subst, take-append-drop, append_assoc}
use Rattle.std.specs.Io.KnownBytes.{Appends, Consumes, IsAtEnd}
use Rattle.std.proofs.lemmas.List.{length-map, drop_all}
use Rattle.std.proofs.Math.Seq.{take-append_seam}
use Rattle.std.proofs.KnownBytes.{Consumes-trans}
use Rattle.cha_outside.proofs.Gathered.{gathered_front}
use Rattle.cha_outside.specs.Faults.{Rose}
use Rattle.cha_outside.specs.Gathering.{Gathers}
use Rattle.cha_outside.specs.declared.gathering.ReadEnd.{ReadEnd}
use Rattle.cha_outside.specs.declared.gathering.ReadEnd.TheVariants as ends
use Rattle.cha_outcome.specs.declared.items.Item.{Item}
use Rattle.cha_outcome.specs.declared.outcomes.Outcome.{Outcome}
use Rattle.cha_outcome.specs.declared.questions.Question.{Question}
use Rattle.cha_outcome.specs.declared.totals.Totals.{Totals}
use Rattle.cha_outcome.specs.Outcomes.{item_of, Answers}
use Rattle.cha_outcome.specs.Totals.{totals_of, counted, HasRoom}
use Rattle.flag_report.specs.Styles.{block, summary}
use Rattle.adjudicate.specs.declared.endings.Status.{Status}
use Rattle.adjudicate.specs.declared.endings.Status.TheVariants.{Done, ReadFault, WriteFault, NoMemory}
use Rattle.adjudicate.specs.declared.reports.Form.{Form}
use Rattle.adjudicate.specs.Statuses.{status_of_end}
use Rattle.adjudicate.specs.Jobs.{Job}
use Rattle.adjudicate.specs.Report.{Demand, demand_by, HasBlocks}
use Rattle.adjudicate.specs.Runs.{Grew, outside, IsRunOf}
use Rattle.side_by_side.specs.declared.cuts.ItemKind.{ItemKind}
use Rattle.item_batches.specs.Readers.{items_by, settled_by, closed_by}
use Rattle.adjudicate.specs.Jobs.{job_on}
use Rattle.adjudicate.proofs.RunEndings.{short_run, long_run}
use Rattle.item_batches.specs.Items.{TookAsNeeded}
use Rattle.item_batches.proofs.Batching.{took_later}
use Rattle.item_batches.proofs.Items.{not_more}
use Rattle.item_batches.proofs.Settling.{settled_more}
use Rattle.adjudicate.proofs.Progress.{WroteUpTo, nothing_written, one_more, cut_block, whole_blocks, finished, cut_summary, room}

-- So many items of the bytes taken were judged, and what is printed of them was written; these are the totals.
pub record IsAt (j : Job) (old now : Option (List ℕ)) (taken : List ℕ) (given : ℕ) (s : Totals) : Type 0 where
  pub written : WroteUpTo j (j.items taken) (drop given (j.items taken)) old now s
  pub number : s.items ≡ given

-- the item at a place, and those behind it
next_is : (items : List Item) (n : ℕ) (item : Item) → slice_get items n ≡ Some item → drop n items ≡ item ∷ drop (n + 1) items
next_is [] n item e = cc
next_is (first ∷ items) zero item e = let same : first ≡ item = cc in ap (λ x. x ∷ items) same
next_is (first ∷ items) (suc n) item e = let more : suc n + 1 ≡ suc (n + 1) = omega arith in rw more (next_is items n item e)

-- more bytes may be taken
pub retook : (j : Job) (old now : Option (List ℕ)) (taken taken' : List ℕ) (given : ℕ) (s : Totals) → IsAt j old now taken given s → take given (j.items taken') ≡ take given (j.items taken) → IsAt j old now taken' given s
retook j old now taken taken' given s at same =
    let w = at.written in
    let done = w.0 in
    let all = j.items taken in
    let all' = j.items taken' in
    let size : length done ≡ given = sym (ap length w.2.1) ∙ length-map w.2.0 item_of ∙ sym (ap (λ t. t.items) w.2.4) ∙ at.number in
    let front : take given all ≡ done = ap (take given) w.1 ∙ ap (λ n. take n (done ++ drop given all)) (sym size) ∙ take-append_seam done (drop given all) in
    record {
      written = (done, sym (take-append-drop given all') ∙ ap (λ x. x ++ drop given all') (same ∙ front), w.2);
      number = at.number;
    }

pub at_first : (j : Job) (old : Option (List ℕ)) (taken : List ℕ) (given : ℕ) (s : Totals) → given ≡ 0 → s ≡ totals_of [] → IsAt j old old taken given s
at_first j old taken given s none e = record {
  written = subst (λ n. WroteUpTo j (j.items taken) (drop n (j.items taken)) old old s) (sym none) (subst (λ t. WroteUpTo j (j.items taken) (j.items taken) old old t) (sym e) (nothing_written j (j.items taken) old));
  number = ap (λ t. t.items) e ∙ sym none;
}

-- the next item is judged, and what is printed of its outcome is written
pub gave : (j : Job) (old now next : Option (List ℕ)) (taken : List ℕ) (given given' : ℕ) (s : Totals) (item : Item) (o : Outcome) (text : List ℕ) → IsAt j old now taken given s → slice_get (j.items taken) given ≡ Some item
    → Answers j.question item o → text ≡ block j.style (s.items + 1) o → Appends now next text → given' ≡ given + 1 → IsAt j old next taken given' (counted s o)
gave j old now next taken given given' s item o text at found answers text_is added e = record {
  written = subst (λ n. WroteUpTo j (j.items taken) (drop n (j.items taken)) old next (counted s o)) (sym e)
      (one_more j (j.items taken) (drop given (j.items taken)) (drop (given + 1) (j.items taken)) item o old now next s text at.written (next_is (j.items taken) given item found) answers text_is added);
  number = ap (λ n. n + 1) at.number ∙ sym e;
}

pub room_at : (j : Job) (old now : Option (List ℕ)) (taken : List ℕ) (given : ℕ) (s : Totals) → IsAt j old now taken given s → given < 2 ^ 62 → HasRoom s
room_at j old now taken given s at few = room j (j.items taken) (drop given (j.items taken)) old now s at.written (omega (arith, at.number, few))

-- what is said of items of one kind, where the kinds are the same
pub same_first : (k k' : ItemKind) (n : ℕ) (x y : List ℕ) → k' ≡ k → take n (items_by k' x) ≡ take n (items_by k' y) → take n (items_by k x) ≡ take n (items_by k y)
same_first k k' n x y e h = subst (λ b. take n (items_by b x) ≡ take n (items_by b y)) e h

pub same_item : (k k' : ItemKind) (x : List ℕ) (n : ℕ) (item : Item) → k' ≡ k → slice_get (items_by k' x) n ≡ Some item → slice_get (items_by k x) n ≡ Some item
same_item k k' x n item e h = subst (λ b. slice_get (items_by b x) n ≡ Some item) e h

pub same_settled : (k k' : ItemKind) (x : List ℕ) (n : ℕ) → k' ≡ k → settled_by k' x ≤ n → settled_by k x ≤ n
same_settled k k' x n e h = subst (λ b. settled_by b x ≤ n) e h

pub same_before : (k k' : ItemKind) (x : List ℕ) (n : ℕ) → k' ≡ k → n < settled_by k' x → n < settled_by k x
same_before k k' x n e h = subst (λ b. n < settled_by b x) e h

pub same_took : (k k' : ItemKind) (x : List ℕ) (n : ℕ) → k' ≡ k → TookAsNeeded (settled_by k') x n → TookAsNeeded (settled_by k) x n
same_took k k' x n e h = subst (λ b. TookAsNeeded (settled_by b) x n) e h

pub same_count : (k k' : ItemKind) (x : List ℕ) (n : ℕ) → k' ≡ k → length (items_by k' x) ≤ n → length (items_by k x) ≤ n
same_count k k' x n e h = subst (λ b. length (items_by b x) ≤ n) e h

pub same_closed : (k k' : ItemKind) (x : List ℕ) (b : Bool) → k' ≡ k → b ≡ closed_by k' x → b ≡ closed_by k x
same_closed k k' x b e h = subst (λ t. b ≡ closed_by t x) e h

pub same_answers : (question question' : Question) (item : Item) (o : Outcome) → question' ≡ question → Answers question' item o → Answers question item o
same_answers question question' item o same h = subst (λ q. Answers q item o) same h

-- Where the source has not ended, the items that were given are settled, and more bytes change nothing of that.
pub still_whole : (k : ItemKind) (was now : Bool) (taken taken' : List ℕ) (given : ℕ) (a b : Option (List ℕ)) → Gathers a b taken taken' → (was ≡ false → given ≤ settled_by k taken) → (was ≡ true → now ≡ true) → (now ≡ true → IsAtEnd b)
    → (given ≤ settled_by k taken') ⊎ IsAtEnd b
still_whole k true now taken taken' given a b more due still end = inr (end (still refl))
still_whole k false now taken taken' given a b more due still end = inl (let h = due refl in omega (arith, h, ap (settled_by k) more.2, settled_more k taken more.0))

-- The next item too is settled then.
pub given_whole : (ended : Bool) (given settled : ℕ) (left : Option (List ℕ)) → (ended ≡ false → given < settled) → (ended ≡ true → IsAtEnd left) → (given ≤ settled) ⊎ IsAtEnd left
given_whole true given settled left known end = inr (end refl)
given_whole false given settled left known end = inl (let h = known refl in omega (arith, h))

pub next_whole : (ended : Bool) (given settled : ℕ) (left : Option (List ℕ)) → (ended ≡ false → given < settled) → (ended ≡ true → IsAtEnd left) → (given + 1 ≤ settled) ⊎ IsAtEnd left
next_whole true given settled left known end = inr (end refl)
next_whole false given settled left known end = inl (let h = known refl in omega (arith, h))

-- what was taken in all
pub all_taken : (a b c : Option (List ℕ)) (taken taken' : List ℕ) → Consumes a b taken → Gathers b c taken taken' → Consumes a c taken'
all_taken a b c taken taken' consumed more = subst (Consumes a c) (sym more.2) (Consumes-trans a b c taken more.0 consumed more.1)

pub gathered : (a b c : Option (List ℕ)) (x y z : List ℕ) → Gathers a b x y → Gathers b c y z → Gathers a c x z
gathered a b c x y z one two =
    (one.0 ++ two.0, Consumes-trans a b c one.0 two.0 one.1 two.1, two.2 ∙ ap (λ t. t ++ two.0) one.2 ∙ append_assoc x one.0 two.0)

abbrev pub of_job : ItemKind → Question → Form → Demand
of_job k question form = demand_by (Some (job_on k question form.style form.subject))

-- How a run ends, where so many items were judged: what was taken is no more than an input may have, but where it was too long.
module _ (k : ItemKind) (question : Question) (form : Form) (old now : Option (List ℕ)) (g g' : ℕ) (taken : List ℕ) (given : ℕ) (s : Totals) (at : IsAt (job_on k question form.style form.subject) old now taken given s)
    (took : TookAsNeeded (settled_by k) taken given) (left left' : Option (List ℕ)) (f f' : ℕ) (consumed : Consumes left left' taken) (source_later : f ≤ f') where
  -- so many items may have a block: they are settled, or nothing is left
  abbrev pub MayHave : ℕ → Type 0
  MayHave count = (count ≤ settled_by k taken) ⊎ IsAtEnd left'

  -- and nothing was read that was not needed for one more
  abbrev Allowed : ℕ → ℕ → Type 0
  Allowed least count = (least ≤ count) × MayHave count × TookAsNeeded (settled_by k) taken count

  -- so far whole blocks were written
  whole : (least : ℕ) → least ≤ given → MayHave given → Grew old now (HasBlocks (job_on k question form.style form.subject) (Allowed least) taken)
  whole least due may =
      whole_blocks (job_on k question form.style form.subject) taken (drop given (items_by k taken)) old now s (Allowed least) at.written (omega (arith, at.number, due), subst MayHave (sym at.number) may, subst (TookAsNeeded (settled_by k) taken) (sym at.number) took)

  -- a block that was cut is not one for which more was read
  abbrev AllowsCut : ℕ → Type 0
  AllowsCut count = MayHave count × TookAsNeeded (settled_by k) taken (count - 1)

  for_cut : MayHave (given + 1) → AllowsCut (given + 1)
  for_cut may = (may, took_later (settled_by k) taken given (given + 1 - 1) (omega arith) took)

  none_left : length (items_by k taken) ≤ given → WroteUpTo (job_on k question form.style form.subject) (items_by k taken) [] old now s
  none_left few = subst (λ x. WroteUpTo (job_on k question form.style form.subject) (items_by k taken) x old now s) (drop_all given (items_by k taken) few) at.written

  -- it could not be read to its end
  pub not_read : (end : ReadEnd) (status : Status) → status ≡ status_of_end end → g ≤ g' → (end ≡ ends.ReadFault → Rose f f') → (end ≡ ends.ReadFault → settled_by k taken ≤ given) → ((end ≡ ends.TooLong) ↔ (268435456 < length taken)) → length taken ≤ 268435456 + 4096
      → MayHave given → IsRunOf (of_job k question form) status (outside left f old g) (outside left' f' now g')
  not_read end status is later cause settled long few may =
      subst (λ x. IsRunOf (of_job k question form) x (outside left f old g) (outside left' f' now g')) (sym is) (by_end end refl)
    where
      by_end : (e : ReadEnd) → end ≡ e → IsRunOf (of_job k question form) (status_of_end e) (outside left f old g) (outside left' f' now g')
      by_end ends.ReadFault e = short_run (of_job k question form) (outside left f old g) (outside left' f' now g') refl source_later later ReadFault (taken, consumed, whole (settled_by k taken) (settled e) may) (λ _. cause e) (λ h. cc) (λ h. cc) (taken, consumed, not_more _ 268435456 (λ more. let t = sym e ∙ long.1 more in cc))
      by_end ends.TooLong e =
          long_run (of_job k question form) (outside left f old g) (outside left' f' now g') refl source_later later (taken, consumed, whole 0 (omega arith) may) (taken, consumed, (long.0 e, few))
          (λ bytes told small. let had = gathered_front left left' taken bytes consumed told in let more = long.0 e in omega (arith, had, more, small))
      by_end ends.NoMemory e = short_run (of_job k question form) (outside left f old g) (outside left' f' now g') refl source_later later NoMemory (taken, consumed, whole 0 (omega arith) may) (λ h. cc) (λ h. cc) (λ h. cc) (taken, consumed, not_more _ 268435456 (λ more. let t = sym e ∙ long.1 more in cc))

  -- memory was refused
  pub no_memory : g ≤ g' → length taken ≤ 268435456 → MayHave given → IsRunOf (of_job k question form) NoMemory (outside left f old g) (outside left' f' now g')
  no_memory later few may =
      short_run (of_job k question form) (outside left f old g) (outside left' f' now g') refl source_later later NoMemory (taken, consumed, whole 0 (omega arith) may) (λ h. cc) (λ h. cc) (λ h. cc) (taken, consumed, few)

  -- the block of the next item was cut
  pub cut_item : (next : Option (List ℕ)) (item : Item) (o : Outcome) (text : List ℕ) (n : ℕ) → g ≤ g' → Rose g g' → length taken ≤ 268435456
      → slice_get (items_by k taken) given ≡ Some item → Answers question item o → text ≡ block form.style (s.items + 1) o → text ≢ [] → Appends now next (take n text)
      → MayHave (given + 1) → IsRunOf (of_job k question form) WriteFault (outside left f old g) (outside left' f' next g')
  cut_item next item o text n later rose few found answers text_is some added may =
      let cut = cut_block (job_on k question form.style form.subject) taken (drop given (items_by k taken)) (drop (given + 1) (items_by k taken)) item o old now next s text n at.written (next_is (items_by k taken) given item found) answers text_is some added AllowsCut (subst (λ n. AllowsCut (n + 1)) (sym at.number) (for_cut may)) in
      short_run (of_job k question form) (outside left f old g) (outside left' f' next g') refl source_later later WriteFault
      (taken, consumed, (cut.0, cut.1, inl cut.2))
      (λ h. cc) (λ _. rose) (λ h. cc) (taken, consumed, few)

  -- all items were judged, and the summary was written or not
  pub all_judged : (status : Status) (next : Option (List ℕ)) (closed : Bool) → closed ≡ closed_by k taken → g ≤ g' → length taken ≤ 268435456 → length (items_by k taken) ≤ given → IsAtEnd left'
      → (status ≡ Done → Appends now next (summary form.style form.subject closed s)) → (status ≡ WriteFault → (n : ℕ) × Appends now next (take n (summary form.style form.subject closed s))) → (status ≡ NoMemory → next ≡ now)
      → (status ≡ WriteFault → Rose g g') → (status ≡ Done) ⊎ ((status ≡ WriteFault) ⊎ (status ≡ NoMemory))
      → IsRunOf (of_job k question form) status (outside left f old g) (outside left' f' next g')
  all_judged status next closed shut later few all end done cut refused cause either =
      let all_written = none_left all in
      elim either [
        | inl is ↦ (
            let run : IsRunOf (of_job k question form) Done (outside left f old g) (outside left' f' next g') =
            short_run (of_job k question form) (outside left f old g) (outside left' f' next g') refl source_later later Done (taken, consumed, end, tt, finished (job_on k question form.style form.subject) taken old now next s all_written (subst (λ b. Appends now next (summary form.style form.subject b s)) shut (done is)))
            (λ h. cc) (λ h. cc) (λ h. cc) (taken, consumed, few) in
            subst (λ x. IsRunOf (of_job k question form) x (outside left f old g) (outside left' f' next g')) (sym is) run)
        | inr (inl is) ↦ (
            let part = cut is in
            let out = cut_summary (job_on k question form.style form.subject) taken old now next s part.0 all_written (subst (λ b. Appends now next (take part.0 (summary form.style form.subject b s))) shut part.1) in
            let run : IsRunOf (of_job k question form) WriteFault (outside left f old g) (outside left' f' next g') =
            short_run (of_job k question form) (outside left f old g) (outside left' f' next g') refl source_later later WriteFault (taken, consumed, (out.0, out.1, inr (end, out.2)))
            (λ h. cc) (λ _. cause is) (λ h. cc) (taken, consumed, few) in
            subst (λ x. IsRunOf (of_job k question form) x (outside left f old g) (outside left' f' next g')) (sym is) run)
        | inr (inr is) ↦ (
            let run : IsRunOf (of_job k question form) NoMemory (outside left f old g) (outside left' f' next g') =
            short_run (of_job k question form) (outside left f old g) (outside left' f' next g') refl source_later later NoMemory (taken, consumed, subst (λ w. Grew old w (HasBlocks (job_on k question form.style form.subject) (Allowed 0) taken)) (sym (refused is)) (whole 0 (omega arith) (inr end)))
            (λ h. cc) (λ h. cc) (λ h. cc) (taken, consumed, few) in
            subst (λ x. IsRunOf (of_job k question form) x (outside left f old g) (outside left' f' next g')) (sym is) run)
      ]
