-- Why the offered calls answer what the rules say, always and in a row.
pub mod BuildingAnswers
pub mod Answering
pub mod Shapes
pub mod SoundCall
pub mod LentCall
pub mod Undoing
pub mod MarkCall
pub mod CopyMade
pub mod CopyCall
pub mod Always
pub mod CopyAnswers
