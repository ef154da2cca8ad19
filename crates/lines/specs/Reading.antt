-- What the code tells of the fields that it reads, as what the rules' readers give.
use Rattle.std.specs.Prelude as std
use Rattle.std.specs.Prelude.{ℕ, ◌-◌, ◌^◌, ◌≤◌, Bool, true, false, cond, not, List, [], ◌∷◌, ◌≡◌, eqb, length, take, option_map, Option, None, Some}
use Rattle.rules.specs.Lists.{same_list}
use Rattle.rules.specs.Lines.{Reader, and_then, giving, items}

-- no field is left
abbrev pub nothing_left : List (List ℕ) → Bool
nothing_left [] = true
nothing_left (f ∷ fs) = false

-- the byte of a field of one byte
abbrev pub one_byte : List ℕ → Option ℕ
one_byte [] = None
one_byte (b ∷ []) = Some b
one_byte (b ∷ c ∷ bs) = None

-- the first field is this one byte
abbrev pub begins_with : ℕ → List (List ℕ) → Bool
begins_with b [] = false
begins_with b (f ∷ fs) = same_list eqb f (b ∷ [])

-- ---- digits

-- there are bytes, and the first of several is not `0`
abbrev pub starts_well : List ℕ → Bool
starts_well [] = false
starts_well (d ∷ []) = true
starts_well (d ∷ e ∷ ds) = not (eqb d 48)

-- ---- what the code answers

-- something read, and the fields that are left
abbrev pub Answer : Type 0 → Type 0
Answer A = Option (A × List (List ℕ))

abbrev pub read : {A : Type 0} → std.Option A → List (List ℕ) → Answer A
read std.None left = None
read (std.Some a) left = Some (a, left)

-- the same is read, and nothing of it kept
abbrev pub unkept : {A : Type 0} → Answer A → Answer (Unit {0})
unkept q = and_then q (λ a. giving tt)

abbrev pub passing : {A : Type 0} → Reader A → Reader (Unit {0})
passing r fs = unkept (r fs)

-- so many items fit
abbrev pub Fit : List ℕ → std.Option ℕ → Type 0
Fit list std.None = Unit {0}
Fit list (std.Some n) = n ≤ length list

-- the items are the first words of a list
pub record ReadItems (before after : List (List ℕ)) (list : List ℕ) (r : std.Option ℕ) : Type 0 where
  pub same : items before ≡ read (option_map (λ n. take n list) r) after
  pub fit : Fit list r
