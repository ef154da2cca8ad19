-- Independence and twins in small stores.
use Rattle.rules.specs.declared.types.Cause.TheVariants.{NotSound, NotThere, NoRoom, BadTypes}
use Rattle.std.specs.Prelude.{ℕ, true, false, List, [], ◌∷◌, ◌++◌, ◌≡◌, None, Some}
use Rattle.rules.specs.Store.{Store, empty_store}
use Rattle.rules.specs.declared.types.Owner.TheVariants.{Op as of_op}
use Rattle.rules.specs.Fragments.{fragment_ops}
use Rattle.rules.specs.declared.types.Sort.TheVariants.{Op as op, Block as block, Region as region}
use Rattle.rules.specs.Building.{Call, set_attribute, after}
use Rattle.rules.specs.EqualityLaws.{tangled}
use Rattle.rules.specs.Independence.{independent, independence_is, refused_independence, independence}
use Rattle.rules.specs.Grouping.{twins_of, no_twin, grouped, refused_twins, grouping}
use Rattle.rules.specs.Cases.{ignoring, attribute, operation, block_in, nested}
use Rattle.rules.specs.CopyCases.{operation_in}

abbrev pub form : List Call → Store
form calls = after empty_store calls

-- three operations that are alike and name nothing
abbrev pub three : Store
three = form (operation 1 [] [] ∷ operation 1 [] [] ∷ operation 1 [] [] ∷ [])

-- 01's example: two operations with a block and an operation inside each
abbrev pub two_nested : Store
two_nested = form (nested 5 0 0 ++ nested 6 1 2)

-- the first operation's result is the operand of the second, of the same kind, or of another
abbrev pub named_one_way : ℕ → Store
named_one_way kind = form (operation 1 (3 ∷ []) [] ∷ operation kind (3 ∷ []) (0 ∷ []) ∷ [])

-- three operations of which the first two are alike but for an attribute of kind 5
abbrev pub attributed : Store
attributed = form (operation 1 [] [] ∷ operation 1 [] [] ∷ operation 2 [] [] ∷ set_attribute (of_op 1) (attribute 1 5 10) ∷ [])

-- two operations with a block each, an operation in the second block, and then one in the first
abbrev pub across : Store
across =
    form
    (operation_in None 1 [] [] []
    ∷ operation_in None 1 [] [] []
    ∷ block_in 0 []
    ∷ block_in 1 []
    ∷ operation_in (Some 1) 0 [] [] []
    ∷ operation_in (Some 0) 0 [] [] []
    ∷ [])

-- `grouping_cases_hold`
pub record GroupingCases : Type 0 where
  -- the first of all that are alike stands for each
  pub alike : twins_of three (ignoring false 0) ≡ None ∷ Some 0 ∷ Some 0 ∷ []
  -- nested twins: the inner ones name their own block's argument, and so are no twins by themselves
  pub inner : twins_of two_nested (ignoring true 0) ≡ None ∷ None ∷ Some 0 ∷ None ∷ []
  -- what stands for another may be inside one that has a twin: operation 2 stands for 3 and lies in 1, for which 0 stands. So twins are of one
  -- store that doesn't change, and not all of them can be merged, in whatever order
  pub inside_another : twins_of across (ignoring false 0) ≡ None ∷ Some 0 ∷ None ∷ Some 2 ∷ []
  pub is_inside : fragment_ops across op 1 ≡ 1 ∷ 2 ∷ []
  pub located : twins_of two_nested (ignoring false 0) ≡ None ∷ None ∷ None ∷ None ∷ []
  pub kind_ignored : twins_of attributed (ignoring false 32) ≡ None ∷ Some 0 ∷ None ∷ []
  pub kind_counted : twins_of attributed (ignoring false 0) ≡ None ∷ None ∷ None ∷ []
  -- equal one way, and not independent
  pub one_way : twins_of (form tangled) (ignoring false 0) ≡ None ∷ None ∷ None ∷ []
  -- an operation and one inside it share that one; the blocks and regions of two independent ones are independent
  pub around : independent two_nested op 0 1 ≡ false
  pub itself : independent two_nested op 1 1 ≡ true
  pub beside : independent two_nested op 0 2 ≡ true
  pub blocks_beside : independent two_nested block 0 1 ≡ true
  pub regions_beside : independent two_nested region 0 1 ≡ true
  -- one names what the other defines, whichever of them is named first; a block's operation names the block's argument
  pub names : independent (named_one_way 2) op 1 0 ≡ false
  pub is_named : independent (named_one_way 2) op 0 1 ≡ false
  pub own_block : independent two_nested op 1 3 ≡ true
  -- the calls: 1 before 2; 14 before 13; a word for each operation, and those behind stay
  pub unsound : independence false three op 0 9 ≡ refused_independence NotSound
  pub absent : independence true three op 0 3 ≡ refused_independence NotThere
  pub answered : independence true three op 0 2 ≡ independence_is true
  pub list_first : (grouping true three (1 ∷ []) (ignoring false 0) []).answer ≡ refused_twins BadTypes
  pub short : grouping true three [] (ignoring false 0) (7 ∷ 7 ∷ []) ≡ record { answer = refused_twins NoRoom; words = 7 ∷ 7 ∷ [] }
  pub filled :
      grouping true three [] (ignoring false 0) (7 ∷ 7 ∷ 7 ∷ 7 ∷ []) ≡ record { answer = grouped 3; words = no_twin ∷ 0 ∷ 0 ∷ 7 ∷ [] }
