-- What the converter answers, told: by cases. Assumes nothing.
use Rattle.std.specs.Prelude as std
use Rattle.std.proofs.Common.{ℕ, List}
use Rattle.converting.specs.Calls.{ConverterAnswers}
use Rattle.converting.specs.declared.types.NoRoom.{NoRoom}
use Rattle.warzhigo_c.specs.Codes.{converted_told, ConvertAnswered}

pub told : (listing before after : List ℕ) (r : std.Result ℕ NoRoom) → ConverterAnswers listing before after r
    → ConvertAnswered listing before after (converted_told r)
unfolding converted_told ConvertAnswered
told listing before after (std.Ok n) answered = answered
told listing before after (std.Err no_room) answered = answered
