-- What the buffers of the two programs give, what a reader's bytes give them, and what the results of their writes say.
pub mod Printing
pub mod Reading
pub mod Passing
pub mod Sent
