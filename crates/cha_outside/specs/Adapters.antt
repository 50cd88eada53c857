-- The parts of an adapter: the reader or writer of std, and the count of its faults. They are this project's.
use Rattle.std.specs.Prelude.{◌≡◌, ◌⊎◌, ℕ, List, take}
use Rattle.std.specs.declared.option.Option.{Option}
use Rattle.std.specs.Io.KnownBytes.{Appends}
use Rattle.cha_outside.specs.declared.reading.Got.{Got}
use Rattle.cha_outside.specs.declared.reading.Got.TheVariants as reads
use Rattle.cha_outside.specs.declared.writing.Wrote.{Wrote}
use Rattle.cha_outside.specs.declared.writing.Wrote.TheVariants.{All, Failed}
use Rattle.cha_outside.specs.Faults.{counted}
use Rattle.cha_outside.specs.declared.std_reader.ReadFrom.{ReadFrom}
use Rattle.cha_outside.specs.declared.std_writer.WriteTo.{WriteTo}

-- the reader of a source over one
abbrev pub reader_of : {R : Type 0} → ReadFrom R → R
reader_of source = source.reader

-- how often that reader failed
abbrev pub read_faults : {R : Type 0} → ReadFrom R → ℕ
read_faults source = source.faults

-- the count of faults after a read: one more where it failed
abbrev pub read_faults_after : ℕ → Got → ℕ
read_faults_after before (reads.Bytes n) = before
read_faults_after before reads.End = before
read_faults_after before reads.Failed = counted before

-- the writer of a sink over one
abbrev pub writer_of : {W : Type 0} → WriteTo W → W
writer_of sink = sink.writer

-- how often that writer failed
abbrev pub write_faults : {W : Type 0} → WriteTo W → ℕ
write_faults sink = sink.faults

-- the count of faults after a write: one more where it failed
abbrev pub write_faults_after : ℕ → Wrote → ℕ
write_faults_after before All = before
write_faults_after before (Failed n) = counted before

-- what a writer took, where it tells: all at `All`, and at a failure the bytes counted, or all where the flush failed
abbrev pub Passes : Option (List ℕ) → Option (List ℕ) → Wrote → List ℕ → Type 0
Passes old new All bytes = Appends old new bytes
Passes old new (Failed n) bytes = Appends old new (take n bytes) ⊎ ((n ≡ 0) × Appends old new bytes)
