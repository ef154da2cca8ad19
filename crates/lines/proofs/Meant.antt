-- What is read of a line, behind its letter, is what the line means. Assumes nothing.
use Rattle.std.proofs.Common.{◌≡◌, ℕ, Bool, true, false, List, [], ◌∷◌, refl, sym, ap, ◌∙◌}
use Rattle.std.proofs.lemmas.Bool.{false≢true}
use Rattle.std.specs.Prelude.{Option, None, Some, option_map, is_some}
use Rattle.std.specs.Prelude as std
use Rattle.std.specs.Option.{option_map}
use Rattle.rules.specs.Lines.{Line, Reader, and_then, ◌>>=◌, giving, fields_of, operation_line, letter, all_read, wholly, parse}
use Rattle.rules.specs.declared.types.Edition.{Edition}
use Rattle.mutation.specs.declared.types.OpFields as code
use Rattle.lines.specs.Reading.{Answer, read, unkept}
use Rattle.lines.specs.Parsing.{OpFields, OpLists, fields_as, operation_fields, operation_lists, operation_line_of, line_behind}
use Rattle.lines.proofs.Ended.{regroup, told_as_is}
use Rattle.lines.specs.declared.letters.Letter.{Letter}

-- ---- the line of an operation: what stands before its lists, and the lists

given_read : {A B : Type 0} (f : A → B) (q : Answer A) → wholly (and_then q (λ a. giving (f a))) ≡ option_map f (wholly q)
unfolding wholly all_read
given_read f None = refl
given_read f (Some got) = go got.1
  where
    go : (gs : List (List ℕ)) → all_read (f got.0) gs ≡ option_map f (all_read got.0 gs)
    go [] = refl
    go (g ∷ gs) = refl

map_some : {A B : Type 0} (f : A → B) (q : Option A) → is_some (option_map f q) ≡ is_some q
map_some f None = refl
map_some f (Some a) = refl

abbrev with_lists : OpFields → Reader Line
with_lists h = operation_lists >>= λ l. giving (operation_line_of h l)

module _ (fs : List (List ℕ)) where
  operation_parts : operation_line fs ≡ and_then (operation_fields fs) with_lists
  unfolding operation_line operation_fields operation_lists operation_line_of
  operation_parts = simp regroup

  pub headless : operation_fields fs ≡ None → wholly (operation_line fs) ≡ None
  unfolding wholly
  headless h = ap wholly (operation_parts ∙ ap (λ (q : Answer OpFields). and_then q with_lists) h)

  module _ {head : OpFields} {gs : List (List ℕ)} (h : operation_fields fs ≡ Some (head, gs)) where
    behind_head : wholly (operation_line fs) ≡ option_map (operation_line_of head) (wholly (operation_lists gs))
    behind_head =
        ap wholly (operation_parts ∙ ap (λ (q : Answer OpFields). and_then q with_lists) h)
        ∙ given_read (operation_line_of head) (operation_lists gs)

    pub listless : wholly (operation_lists gs) ≡ None → wholly (operation_line fs) ≡ None
    listless k = behind_head ∙ ap (option_map (operation_line_of head)) k

    pub operation_meant : (lists : OpLists) → wholly (operation_lists gs) ≡ Some lists → wholly (operation_line fs) ≡ Some (operation_line_of head lists)
    operation_meant lists k = behind_head ∙ ap (option_map (operation_line_of head)) k

    pub lists_if : is_some (wholly (operation_line fs)) ≡ is_some (wholly (operation_lists gs))
    lists_if = ap is_some behind_head ∙ map_some (operation_line_of head) (wholly (operation_lists gs))

-- ---- a line by its letter

module _ (e : Edition) (line : List ℕ) {fs : List (List ℕ)} (all : fs ≡ fields_of line) where
  by_letter : (q : Answer (Reader Line)) → letter e fs ≡ q → parse e line ≡ wholly (and_then q (λ r. r))
  unfolding parse
  by_letter q h =
      ap (λ (gs : List (List ℕ)). wholly (and_then (letter e gs) (λ r. r))) (sym all)
      ∙ ap (λ (p : Answer (Reader Line)). wholly (and_then p (λ r. r))) h

  pub unlettered : letter e fs ≡ None → parse e line ≡ None
  unfolding wholly
  unlettered h = by_letter None h

  module _ (l : Letter) {gs : List (List ℕ)} (h : letter e fs ≡ Some (line_behind e l, gs)) where
    pub lettered : (m : Letter) → l ≡ m → parse e line ≡ wholly (line_behind e m gs)
    lettered m q = by_letter (Some (line_behind e l, gs)) h ∙ ap (λ (k : Letter). wholly (line_behind e k gs)) q

    pub meant_if : (m : Letter) → l ≡ m → {t : Bool} → t ≡ is_some (wholly (line_behind e m gs)) → t ≡ is_some (parse e line)
    meant_if m q t = t ∙ ap is_some (sym (lettered m q))

-- ---- whether something is meant

pub is_read : {A B : Type 0} (f : A → B) (r : std.Option A) {q : Option B} {t : Bool} → q ≡ (option_map f r) → t ≡ std.is_some r
    → t ≡ is_some q
is_read f std.None e h = h ∙ sym (ap is_some e)
is_read f (std.Some a) e h = h ∙ sym (ap is_some e)

-- whether something is read does not depend on whether it is kept
meant_unkept : {A : Type 0} (q : Answer A) → is_some (wholly (unkept q)) ≡ is_some (wholly q)
unfolding wholly all_read
meant_unkept None = refl
meant_unkept (Some got) = go got.1
  where
    go : (gs : List (List ℕ)) → is_some (all_read (tt {0}) gs) ≡ is_some (all_read got.0 gs)
    go [] = refl
    go (g ∷ gs) = refl

pub is_passed : {A : Type 0} (q : Answer A) (r : std.Option (Unit {0})) {t : Bool} → wholly (unkept q) ≡ r → t ≡ std.is_some r → t ≡ is_some (wholly q)
is_passed q r e h = is_read (λ a. a) r (e ∙ sym (told_as_is r)) h ∙ meant_unkept q

module _ (fs left : List (List ℕ)) where
  pub headless_if : (r : std.Option code.OpFields) → operation_fields fs ≡ read (option_map fields_as r) left → std.is_some r ≡ false
      → false ≡ is_some (wholly (operation_line fs))
  headless_if std.None e h = sym (ap is_some (headless fs e))
  headless_if (std.Some f) e h = absurd (false≢true (sym h))

  pub operation_if : (r : std.Option code.OpFields) → operation_fields fs ≡ read (option_map fields_as r) left → std.is_some r ≡ true
      → {t : Bool} → t ≡ is_some (wholly (operation_lists left)) → t ≡ is_some (wholly (operation_line fs))
  operation_if std.None e h k = absurd (false≢true h)
  operation_if (std.Some f) e h k = k ∙ sym (lists_if fs e)
