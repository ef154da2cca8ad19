-- To number what steps define one after the other is to number it all: each takes up the numbering where the one before left it, and as long
-- as there are numbers for all there are some for the rest. At the start no word is set, and a fragment of a sound store defines no more than
-- there may be. Assumes nothing.
use Rattle.std.proofs.Common.{◌≡◌, ℕ, zero, suc, ◌+◌, ◌≤◌, true, List, [], ◌∷◌, ◌++◌, length, get_or, replicate, sym, refl, ap, ◌∙◌, subst, arith, length-append}
use lib.ListN.{length-replicate}
use Rattle.std.specs.List.{flat_map}
use Rattle.rules.specs.Lists.{position}
use Rattle.rules.specs.Store.{Store, value_at, values_of, max_values, max_blocks, sound}
use Rattle.rules.specs.declared.types.Owner.{Owner}
use Rattle.rules.specs.Fragments.{exists, Step, counted, steps, step_defines, block_owner, defines_owners, defines_values, defines_blocks}
use Rattle.rules.specs.declared.types.Sort.{Sort}
use Rattle.rules.specs.Hash.{Numbering, no_numbers, numbered}
use Rattle.rules.proofs.Basics.Distinct.{concat_map_append}
use Rattle.rules.proofs.Form.Counted.{values_most, blocks_most}
use Rattle.layout.specs.Reading.{owner_code}
use Rattle.fragments.specs.Words.{numbers_length, block_place, Tells, Stands}
use Rattle.fragments.specs.Numbered.{numbered_all, values_in, blocks_in, Numbers, DefinitionsFit}

-- ---- steps that follow on others

pub numbered_append : (s : Store) (xs ys : List Step) (N : Numbering) → numbered_all s (xs ++ ys) N ≡ numbered_all s ys (numbered_all s xs N)
unfolding numbered_all
numbered_append s [] ys N = refl
numbered_append s (x ∷ xs) ys N = numbered_append s xs ys (numbered s x N)

defined_append : (f : Owner → List ℕ) (xs ys : List Step)
    → length (flat_map f (flat_map step_defines (xs ++ ys))) ≡ length (flat_map f (flat_map step_defines xs)) + length (flat_map f (flat_map step_defines ys))
defined_append f xs ys =
    ap (λ (ws : List Owner). length (flat_map f ws)) (concat_map_append step_defines xs ys)
    ∙ ap length (concat_map_append f (flat_map step_defines xs) (flat_map step_defines ys))
    ∙ length-append (flat_map f (flat_map step_defines xs)) (flat_map f (flat_map step_defines ys))

pub values_append : (s : Store) (xs ys : List Step) → length (values_in s (xs ++ ys)) ≡ length (values_in s xs) + length (values_in s ys)
unfolding values_in
values_append s xs ys = defined_append (values_of s) xs ys

pub blocks_append : (xs ys : List Step) → length (blocks_in (xs ++ ys)) ≡ length (blocks_in xs) + length (blocks_in ys)
unfolding blocks_in
blocks_append xs ys = defined_append block_owner xs ys

-- ---- numbered

module _ (s : Store) where
  pub numbers_none : (ns : List ℕ) → Numbers s [] ns ns
  unfolding numbered_all values_in blocks_in
  numbers_none ns = record { long = refl; stands = λ N h. h; values = omega arith; blocks = omega arith }

  pub numbers_then : (xs ys : List Step) {a b c : List ℕ} → Numbers s xs a b → Numbers s ys b c → Numbers s (xs ++ ys) a c
  numbers_then xs ys {a} {b} {c} f g =
      record {
        long = g.long ∙ f.long;
        stands = λ N h. subst (λ (M : Numbering). Stands s M c) (sym (numbered_append s xs ys N)) (g.stands (numbered_all s xs N) (f.stands N h));
        values = omega (arith, values_append s xs ys, f.values, g.values);
        blocks = omega (arith, blocks_append xs ys, f.blocks, g.blocks);
      }

  -- where a list begins nothing is defined
  pub numbers_counted : (k : ℕ) (xs : List Step) {a b : List ℕ} → Numbers s xs a b → Numbers s (counted k ∷ xs) a b
  unfolding numbered_all numbered values_in blocks_in step_defines
  numbers_counted k xs f = record { long = f.long; stands = f.stands; values = f.values; blocks = f.blocks }

-- ---- room

pub room_counted : (s : Store) (k : ℕ) (xs : List Step) {a : List ℕ} → DefinitionsFit s (counted k ∷ xs) a → DefinitionsFit s xs a
unfolding values_in blocks_in step_defines
room_counted s k xs r = record { long = r.long; values = r.values; blocks = r.blocks }

module _ (s : Store) (xs ys : List Step) {a : List ℕ} (r : DefinitionsFit s (xs ++ ys) a) where
  pub room_first : DefinitionsFit s xs a
  room_first =
      record {
        long = r.long;
        values = omega (arith, values_append s xs ys, r.values);
        blocks = omega (arith, blocks_append xs ys, r.blocks);
      }

  pub room_rest : {b : List ℕ} → Numbers s xs a b → DefinitionsFit s ys b
  room_rest f =
      record {
        long = f.long ∙ r.long;
        values = omega (arith, values_append s xs ys, r.values, f.values);
        blocks = omega (arith, blocks_append xs ys, r.blocks, f.blocks);
      }

-- ---- the start

abbrev pub no_words : List ℕ
no_words = replicate numbers_length 0

not_set : (n i : ℕ) → ◌≡◌ {A = ℕ} (get_or (replicate n 0) i 0) 0
not_set zero i = refl
not_set (suc n) zero = refl
not_set (suc n) (suc i) = not_set n i

no_word : (i : ℕ) → ◌≡◌ {A = ℕ} (get_or no_words i 0) 0
no_word i = not_set 1026 i

pub room_start : (s : Store) → sound s ≡ true → (f : Sort) (n : ℕ) → exists s f n ≡ true → DefinitionsFit s (steps s f n) no_words
unfolding values_in blocks_in defines_values defines_blocks defines_owners
room_start s sd f n e =
    let v : length (defines_values s f n) ≤ max_values = values_most s sd f n e in
    let b : length (defines_blocks s f n) ≤ max_blocks = blocks_most s sd f n e in
    record { long = length-replicate {A = ℕ} 1026 0; values = omega (arith, v, no_word 1024); blocks = omega (arith, b, no_word 1025) }

pub stands_start : (s : Store) → Stands s no_numbers no_words
unfolding no_numbers position Tells
stands_start s =
    record {
      values = λ v l. no_word (owner_code (value_at s v).owner);
      blocks = λ b l. no_word (block_place b);
      value_count = no_word 1024;
      block_count = no_word 1025;
    }
