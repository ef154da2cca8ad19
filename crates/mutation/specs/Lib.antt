-- What the calls that change a store take and answer, what each does to sound words, and what it writes, column by column.
pub mod Types
pub mod Doing
pub mod AddedWrites
pub mod SetWrites
