-- What the code's types stand for: document 01's words and numbers for each case.
use Rattle.std.specs.Prelude.{ℕ, List}
use Rattle.std.specs.Prelude as std
use Rattle.rules.specs.Store as store
use Rattle.rules.specs.Building as rules
use Rattle.mutation.specs.declared.types.OpFields.{OpFields}
use Rattle.rules.specs.declared.types.Cause.{Cause}

-- a new operation, by its fields and its lists of result types, operands and successors
abbrev pub operation_of : OpFields → List ℕ → List ℕ → List ℕ → rules.NewOperation
operation_of f types operands successors =
    record {
      kind = f.kind;
      parent = f.parent;
      location = f.location;
      regions = f.regions;
      types = types;
      operands = operands;
      successors = successors;
    }

-- "Accepted, the first two return the new number, the other two only that they were accepted", and a refusal its number
unfoldable pub made_of : std.Result ℕ Cause → rules.Built
made_of (std.Ok n) = rules.made n
made_of (std.Err e) = rules.refused e

unfoldable pub done_of : std.Result (Unit {0}) Cause → rules.Built
done_of (std.Ok u) = rules.accepted
done_of (std.Err e) = rules.refused e
