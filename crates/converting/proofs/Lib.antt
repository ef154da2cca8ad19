-- Why what the converter writes is what the rules convert: where a line's fields end and what its parts make; the tests of a line, of the
-- lines one after the other, and of the whole; and the converted lines written one behind the other.
mod FieldEnds
mod Made
mod Tests
mod LineByLine
mod Verdict
mod WrittenLines
mod Answer
