-- What the numbers that cross to another language mean: the answers of the calls, which are the rules' own, and two of their arguments.
use Rattle.std.specs.Prelude as std
use Rattle.std.specs.Prelude.{ℕ, Bool, true, false, cond, not, List, eqb, Option, None, Some}
use Rattle.rules.specs.Store as rules
use Rattle.rules.specs.declared.types.Cause.{Cause}
use Rattle.rules.specs.declared.types.Cause.TheVariants as causes
use Rattle.rules.specs.declared.types.Attribute.{Attribute}
use Rattle.rules.specs.declared.types.Owner.TheVariants.{Block as of_block, Op as of_op}
use Rattle.rules.specs.declared.types.Owner.{Owner}
use Rattle.rules.specs.declared.types.Sort.TheVariants.{Op as op, Block as block, Region as region}
use Rattle.rules.specs.declared.types.Ignore.{Ignore}
use Rattle.rules.specs.Comparison.{pair_of}
use Rattle.rules.specs.Answers.{Compared, eq, neq, refused, Hashed, hash_is, refused_hash}
use Rattle.rules.specs.Keys.{Keyed, key_length, refused_key}
use Rattle.rules.specs.Extents.{Sized, extent_is, refused_extent}
use Rattle.rules.specs.Runs.{Repeated, run_found, no_run, refused_run}
use Rattle.rules.specs.Independence as independence
use Rattle.rules.specs.Independence.{independence_is, refused_independence}
use Rattle.rules.specs.Grouping as grouping
use Rattle.rules.specs.Grouping.{grouped, refused_twins}
use Rattle.rules.specs.Building as building
use Rattle.rules.specs.Building.{Built}
use Rattle.equivalence.specs.declared.entries.Entries as found
use Rattle.keys.specs.Extents.{of_numbers}
use Rattle.listing.specs.Calls as listing
use Rattle.listing.specs.Calls.{ListingAnswer}
use Rattle.converting.specs.Calls.{ConverterAnswers}
use Rattle.converting.specs.declared.types.NoRoom.{NoRoom}
use Rattle.warzhigo_c.specs.declared.answers.Verdict.{Verdict}
use Rattle.warzhigo_c.specs.declared.answers.HashAnswer.{HashAnswer}
use Rattle.warzhigo_c.specs.declared.answers.KeyAnswer.{KeyAnswer}
use Rattle.warzhigo_c.specs.declared.answers.ExtentAnswer.{ExtentAnswer}
use Rattle.warzhigo_c.specs.declared.answers.RunAnswer.{RunAnswer}
use Rattle.warzhigo_c.specs.declared.answers.Independence.{Independence}
use Rattle.warzhigo_c.specs.declared.answers.Grouped.{Grouped}
use Rattle.warzhigo_c.specs.declared.answers.Outcome.{Outcome}
use Rattle.warzhigo_c.specs.declared.answers.Output.{Output}
use Rattle.warzhigo_c.specs.declared.answers.Entries.{Entries}

-- ---- causes

-- the cause of a number: a refusal tells one of these
unfoldable pub cause_from : ℕ → Cause
cause_from n =
    cond (eqb n 1) causes.NotSound
    (cond (eqb n 2) causes.NotThere
    (cond (eqb n 3) causes.StoreFull
    (cond (eqb n 4) causes.OwnerFull
    (cond (eqb n 5) causes.TooDeep
    (cond (eqb n 6) causes.UnknownKind
    (cond (eqb n 7) causes.NoOperand
    (cond (eqb n 8) causes.BadMapping
    (cond (eqb n 9) causes.BadHeader
    (cond (eqb n 10) causes.BadLine
    (cond (eqb n 11) causes.BadLength
    (cond (eqb n 13) causes.NoRoom
    (cond (eqb n 14) causes.BadTypes
    (cond (eqb n 15) causes.BadRunLength
    (cond (eqb n 16) causes.NoMark
    (cond (eqb n 17) causes.JournalFull
    (cond (eqb n 18) causes.PlacedInside
    (cond (eqb n 19) causes.NamedEarly
    causes.InherentLine)))))))))))))))))

-- ---- answers

-- code 0 is equal, 1 names operations, 2 blocks, 3 regions, any other is a refusal
unfoldable pub verdict_means : Verdict → Compared
verdict_means v =
    cond (eqb v.code 0) (eq v.paired)
    (cond (eqb v.code 1) (neq (pair_of op v.left v.right) v.paired)
    (cond (eqb v.code 2) (neq (pair_of block v.left v.right) v.paired)
    (cond (eqb v.code 3) (neq (pair_of region v.left v.right) v.paired)
    (refused (cause_from v.left)))))

-- code 0 is a hash, any other a refusal
unfoldable pub sum_means : HashAnswer → Hashed
sum_means s = cond (eqb s.code 0) (hash_is s.word) (refused_hash (cause_from s.cause))

-- code 0 is a key's length, any other a refusal
unfoldable pub key_answer_means : KeyAnswer → Keyed
key_answer_means k = cond (eqb k.code 0) (key_length k.length) (refused_key (cause_from k.cause))

-- code 0 is how large a key will be, any other a refusal
unfoldable pub extent_answer_means : ExtentAnswer → Sized
extent_answer_means e =
    cond (eqb e.code 0) (extent_is (of_numbers e.bytes e.values e.blocks e.operations e.nesting)) (refused_extent (cause_from e.cause))

-- code 0 is two starts, 1 none, any other a refusal
unfoldable pub run_means : RunAnswer → Repeated
run_means r =
    cond (eqb r.code 0) (run_found (record { left = r.left; right = r.right }))
    (cond (eqb r.code 1) no_run
    (refused_run (cause_from r.left)))

-- code 0 is no, 1 yes, any other a refusal
unfoldable pub independence_means : Independence → independence.Independence
independence_means i =
    cond (eqb i.code 0) (independence_is false)
    (cond (eqb i.code 1) (independence_is true)
    (refused_independence (cause_from i.cause)))

-- code 0 is a word for each of so many operations, any other a refusal
unfoldable pub grouped_means : Grouped → grouping.Grouped
grouped_means g = cond (eqb g.code 0) (grouped g.operations) (refused_twins (cause_from g.cause))

-- code 0 is a new number, 1 accepted, any other a refusal
unfoldable pub outcome_means : Outcome → Built
outcome_means o =
    cond (eqb o.code 0) (building.made o.number)
    (cond (eqb o.code 1) building.accepted
    (building.refused (cause_from o.number)))

-- code 0 is printed, 1 a refusal, any other too little room
unfoldable pub output_means : Output → ListingAnswer
output_means o =
    cond (eqb o.code 0) (listing.printed o.bytes)
    (cond (eqb o.code 1) (listing.refused (cause_from o.cause))
    listing.no_room)

-- the converter is lent no buffer that it refuses
unfoldable pub converted_told : std.Result ℕ NoRoom → ListingAnswer
converted_told (std.Ok n) = listing.printed n
converted_told (std.Err no_room) = listing.no_room

-- what the converter answers, as it is told
unfoldable pub ConvertAnswered : List ℕ → List ℕ → List ℕ → ListingAnswer → Type 0
ConvertAnswered text before after (listing.printed n) = ConverterAnswers text before after (std.Ok n)
ConvertAnswered text before after (listing.refused cause) = ⊥
ConvertAnswered text before after listing.no_room = ConverterAnswers text before after (std.Err (record {}))

unfoldable pub entries_mean : Entries → found.Entries
entries_mean e = record { value = e.value; end = e.end; owner = e.owner; past = e.past }

-- 0 is a list that is refused, any other number the words of its index
unfoldable pub index_means : ℕ → std.Option ℕ
index_means n = cond (eqb n 0) std.None (std.Some n)

-- ---- arguments

unfoldable pub ignoring : Bool → ℕ → Ignore
ignoring locations bits = record { locations = locations; bits = bits }

-- the block's number, if it is placed in one
unfoldable pub parent_from : Bool → ℕ → Option ℕ
parent_from placed b = cond placed (Some b) None

-- a block or an operation
unfoldable pub owner_from : Bool → ℕ → Owner
owner_from blocks n = cond blocks (of_block n) (of_op n)

-- of the last number 0 is no, any other yes
unfoldable pub attribute_from : ℕ → ℕ → ℕ → ℕ → Attribute
attribute_from key kind content inherent = record { key = key; kind = kind; content = content; inherent = not (eqb inherent 0) }
