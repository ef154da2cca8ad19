-- What is remembered, written, undone and cut, and what the calls on a lent buffer with marks do; the laws of the journal.
pub mod Entries
pub mod JournalLaws
pub mod CutWrites
pub mod CutBack
pub mod MarkedCalls
pub mod MarkWrites
pub mod KeyRemoval
pub mod Undoing
pub mod EntryWrites
pub mod Returning
