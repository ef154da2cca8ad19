-- What the offered calls answer meets demands 2 and 3 and the filer's law; what they leave may be lent again, and meets the laws of the mapping.
pub mod Obeyed
pub mod Agreed
pub mod Lent
pub mod Filed
pub mod Mapped
pub mod Worked
