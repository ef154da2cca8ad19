-- What a program prints, and what it has written where it failed: said by the contracts of this crate.
pub mod Commands
pub mod Failing
