-- What the code reads of a line is what the rules read. Why to write pieces one behind the other is to write them all, why a number's
-- digits may be written from the last down, and that the pieces of a line are the rules' line.
mod Cutting
pub mod Firsts
pub mod Numbers
pub mod Items
pub mod Ended
pub mod Joined
mod Digits
pub mod Lines
pub mod Heading
pub mod Meant
mod FirstLetter
