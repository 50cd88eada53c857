-- What the writing of an answer gives.
use Rattle.std.specs.Prelude.{◌≡◌, ◌≢◌, ℕ, ◌≤◌, ◌⊎◌, Bool, if◌then◌else◌, List, Option, Some, None}
use Rattle.std.specs.Io.KnownBytes.{Appends}
use Rattle.cha_outside.specs.Faults.{Rose}
use Rattle.pgn_games.specs.declared.played.Span.{Span}
use Rattle.cha_outcome.specs.declared.items.Item.{Item}
use Rattle.cha_outcome.specs.declared.items.Item.TheVariants.{Position, RefusedLine, Played, UnreadableGame, Replayed}
use Rattle.adjudicate.specs.declared.endings.Status.{Status}
use Rattle.adjudicate.specs.declared.endings.Status.TheVariants.{Done, Usage, ReadFault, WriteFault, TooLong, NoMemory, NotAccepted}
use Rattle.adjudicate.specs.Report.{Demand, IsFront}
use Rattle.adjudicate.specs.Runs.{Grew}
use Rattle.adjudicate.specs.Corrections.{Noted}

-- how the writing of the answer on a certificate ended, where all of it was written
abbrev pub ended_by : Bool → Status
ended_by accepted = if accepted then Done else NotAccepted

-- how a run over games that were made ended, by how the run over their text did: nothing is read
abbrev pub made_status : Status → Status
made_status Done = Done
made_status Usage = Usage
made_status ReadFault = NoMemory
made_status WriteFault = WriteFault
made_status TooLong = NoMemory
made_status NoMemory = NoMemory
made_status NotAccepted = NotAccepted

-- what was written where the whole input is at hand, by the status: what a sink took and how often it failed, before and after
pub record IsWritten (d : Demand) (bytes : List ℕ) (status : Status) (old : Option (List ℕ)) (faults : ℕ) (new : Option (List ℕ)) (faults' : ℕ) : Type 0 where
  pub done : status ≡ Done → d.accepted bytes × Grew old new (d.report bytes)
  pub not_accepted : status ≡ NotAccepted → (d.accepted bytes → ⊥) × Grew old new (d.report bytes)
  pub cut : status ≡ WriteFault → Rose faults faults' × Grew old new (λ out. (whole : List ℕ) × d.report bytes whole × IsFront out whole)
  pub no_memory : status ≡ NoMemory → new ≡ old
  pub no_other : (status ≢ Usage) × (status ≢ ReadFault) × (status ≢ TooLong)
  pub later : faults ≤ faults'

-- where the game that an item is stands in its text
abbrev pub place_of : Item → Option Span
place_of (Position number q) = None
place_of (RefusedLine number fault) = None
place_of (Played game) = Some game.span
place_of (UnreadableGame span why) = Some span
place_of (Replayed game) = Some game.span

-- What two sinks took at the end of a run that corrects games, by the status: the end of the text and the summary, before and after.
pub record IsEnded (status : Status) (text summary : List ℕ) (old : Option (List ℕ)) (faults : ℕ) (new : Option (List ℕ)) (faults' : ℕ) (notes notes' : Noted) : Type 0 where
  pub done : status ≡ Done → Appends old new text × Appends notes.taken notes'.taken summary
  pub cut : status ≡ WriteFault → Grew old new (λ out. IsFront out text) × Grew notes.taken notes'.taken (λ out. IsFront out summary)
  pub cause : status ≡ WriteFault → Rose faults faults' ⊎ Rose notes.faults notes'.faults
  pub no_memory : status ≡ NoMemory → (new ≡ old) × (notes'.taken ≡ notes.taken)
  pub either : (status ≡ Done) ⊎ ((status ≡ WriteFault) ⊎ (status ≡ NoMemory))
  pub later : faults ≤ faults'
  pub notes_later : notes.faults ≤ notes'.faults
