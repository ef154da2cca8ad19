-- What is asked of a lent buffer's marks, row by row.
pub mod Lending
