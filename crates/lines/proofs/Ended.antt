-- A line is read wholly if no field is left. Assumes nothing.
use Rattle.std.proofs.Common.{◌≡◌, Bool, true, false, List, ℕ, [], ◌∷◌, Option, None, Some, refl, sym, ap, subst, ◌∙◌}
use Rattle.std.specs.Option.{option_map}
use Rattle.std.specs.Bool.{then_some}
use Rattle.std.specs.Prelude.{None, Some}
use Rattle.rules.specs.declared.types.Owner.{Owner}
use Rattle.rules.specs.Building.{set_attribute}
use Rattle.rules.specs.Lines.{Line, Reader, building, and_then, ◌>>=◌, giving, number, items, label, block_line, attribute_line, all_read}
use Rattle.rules.specs.declared.types.Edition.{Edition}
use Rattle.lines.specs.Parsing.{owner_fields, operation_lists}
use Rattle.lines.specs.Reading.{Answer, nothing_left, passing}

all_or_none : {A B : Type 0} (f : B → A) (v : B) (gs : List (List ℕ)) → all_read (f v) gs ≡ option_map f (then_some (nothing_left gs) v)
unfolding all_read
all_or_none f v [] = refl
all_or_none f v (g ∷ gs) = refl

pub ended : {A B : Type 0} (f : B → A) (v : B) (gs : List (List ℕ)) (t : Bool) (r : Option B) → t ≡ nothing_left gs → r ≡ then_some t v → all_read (f v) gs ≡ option_map f r
ended f v gs t r e h = all_or_none f v gs ∙ ap (λ s. option_map f (then_some s v)) (sym e) ∙ ap (option_map f) (sym h)

-- by a branch: no field is left, or some are
pub nothing_more : {A : Type 0} (v : A) (gs : List (List ℕ)) → nothing_left gs ≡ true → all_read v gs ≡ Some v
nothing_more v gs h = ended (λ a. a) v gs true (Some v) (sym h) refl

pub something_more : {A : Type 0} (v : A) (gs : List (List ℕ)) → nothing_left gs ≡ false → all_read v gs ≡ None
something_more v gs h = ended (λ a. a) v gs false None (sym h) refl

pub told_as_is : {A : Type 0} (r : Option A) → (option_map (λ a. a) r) ≡ r
told_as_is None = refl
told_as_is (Some a) = refl

pub ended_unkept : (gs : List (List ℕ)) (t : Bool) (r : Option (Unit {0})) → t ≡ nothing_left gs → r ≡ then_some t tt → all_read tt gs ≡ r
ended_unkept gs t r e h = ended (λ a. a) tt gs t r e h ∙ told_as_is r

-- what holds of a line that is read wholly
pub kept_if : {B : Type 0} (P : Option B → Type 0) → P None → (v : B) → P (Some v) → (t : Bool) (r : Option B) → r ≡ then_some t v → P r
kept_if P n v s true r e = subst P (sym e) s
kept_if P n v s false r e = subst P (sym e) n

-- ---- the line of an attribute begins with its owner

abbrev owned : Bool → Owner → Reader Line
owned inherent w =
    number >>= λ key. number >>= λ kind. number >>= λ content.
    giving (building (set_attribute w (record { key = key; kind = kind; content = content; inherent = inherent })))

pub regroup : {A B C : Type 0} (q : Answer A) (f : A → Reader B) (g : B → Reader C) → and_then (and_then q f) g ≡ and_then q (λ a gs. and_then (f a gs) g)
regroup None f g = refl
regroup (Some got) f g = refl

pub attribute_parts : (inherent : Bool) (fs : List (List ℕ)) → attribute_line inherent fs ≡ and_then (owner_fields fs) (owned inherent)
unfolding attribute_line owner_fields
attribute_parts inherent fs = simp regroup

-- ---- where nothing is kept of the whole, nothing is kept of its lists

pub lists_passed : (fs : List (List ℕ)) → passing operation_lists fs ≡ and_then (passing items fs) (λ x. passing items >>= λ y. passing items)
unfolding operation_lists
lists_passed fs = simp regroup

pub block_passed : (e : Edition) (fs : List (List ℕ)) → passing (block_line e) fs ≡ and_then (number fs) (λ r. label e >>= λ u. number >>= λ l. passing items)
unfolding block_line
block_passed e fs = simp regroup
