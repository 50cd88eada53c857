mod Numbers
mod Cutting
mod Writing
mod SharedWriting
mod Going
mod Many
mod Parts
pub mod Spelling
mod SharedSpelling
mod SharedParts
mod LabelsAgain
mod Plain
mod LinesAgain
mod Rereading
mod SharedAgain
mod SharedRereading
pub mod EitherVersion
