-- How much a line that is printed may be: the bounds that the contracts of the printing functions speak of.
use Rattle.std.specs.Prelude.{ℕ}

-- a 32-bit number, `4294967295` at most
abbrev pub decimal_room : ℕ
decimal_room = 10

-- a 64-bit number, four bits to a digit
abbrev pub hexadecimal_room : ℕ
hexadecimal_room = 16

-- a 32-bit number and the byte behind it
abbrev pub number_room : ℕ
number_room = 11

-- `region,`, the longest word for a sort and its comma
abbrev pub sort_room : ℕ
sort_room = 7

-- `refused,` and two numbers
abbrev pub refusal_room : ℕ
refusal_room = 30

-- `eq,-,-,` and a number
abbrev pub equal_room : ℕ
equal_room = 18

-- a sort and three numbers
abbrev pub unequal_room : ℕ
unequal_room = 40

-- two hashes of sixteen digits, each with a byte behind it
abbrev pub hashes_room : ℕ
hashes_room = 34

-- `share,` and a number
abbrev pub share_room : ℕ
share_room = 17
