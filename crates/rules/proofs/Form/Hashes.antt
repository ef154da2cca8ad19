-- The bytes that a hash takes in are read off the tokens of the walk, so that equal tokens have equal hashes. Assumes nothing.
use Prim.Native.Nat.{ℕ}
use mathlib.Core.List.{List, [], ◌∷◌, ◌++◌, map}
use mathlib.Core.Path.{◌≡◌, refl, ap, ap₂}
use Rattle.std.specs.List.{flat_map}
use Rattle.rules.specs.Store.{Store, op_at, type_of}
use Rattle.rules.specs.declared.types.Owner.{Owner}
use Rattle.rules.specs.declared.types.Owner.TheVariants.{Op as of_op, Block as of_block}
use Rattle.rules.specs.Fragments.{Step, shell, names, counted}
use Rattle.rules.specs.Shells.{counts_of, shell_of}
use Rattle.rules.specs.declared.types.Ignore.{Ignore}
use Rattle.rules.specs.Hash.{fnv_byte, fnv_from, Numbering, numbered, name_of, name_bytes, leaf, count, head_bytes, uncounted, list_bytes, shell_bytes, feeds, all_bytes}
use Rattle.rules.specs.declared.types.Name.{Name}
use Rattle.rules.specs.Form.{Event, step, more, done, Token, shell_token, names_token, counted_token, more_token, done_token, numbered_by, token, tokens}
use Rattle.rules.proofs.Form.Events.{bare_steps}

-- what is fed in two parts goes into the word one after the other
pub fnv_append : (w : ℕ) (xs ys : List ℕ) → fnv_from w (xs ++ ys) ≡ fnv_from (fnv_from w xs) ys
unfolding fnv_from
fnv_append w [] ys = refl
fnv_append w (x ∷ xs) ys = fnv_append (fnv_byte w x) xs ys

-- of an operation's counts the kind and the number of regions are fed, of a block's none
unfoldable pub counts_bytes : List ℕ → List ℕ
counts_bytes [] = []
counts_bytes (a ∷ []) = []
counts_bytes (kind ∷ regions ∷ rest) = leaf kind ++ count regions

unfoldable pub token_bytes : Token → List ℕ
token_bytes (shell_token counts sh) = counts_bytes counts ++ shell_bytes uncounted sh
token_bytes (names_token counts operands successors) = flat_map (λ (x : Name × ℕ). name_bytes x.0) operands ++ flat_map name_bytes successors
token_bytes counted_token = []
token_bytes more_token = []
token_bytes done_token = []

pub concat_map_map : {A B C : Type 0} (f : B → List C) (g : A → B) (xs : List A) → flat_map f (map g xs) ≡ flat_map (λ (x : A). f (g x)) xs
concat_map_map f g [] = refl
concat_map_map {C = C} f g (x ∷ xs) = ap (λ (l : List C). f (g x) ++ l) (concat_map_map f g xs)

module _ (s : Store) (ig : Ignore) where
  pub head_bytes_lem : (w : Owner) → counts_bytes (counts_of s w) ≡ head_bytes s w
  unfolding counts_bytes counts_of head_bytes
  head_bytes_lem (of_op n) = refl
  head_bytes_lem (of_block b) = refl

  step_bytes : (x : Step) (N : Numbering) → token_bytes (token s ig (step x) N) ≡ feeds uncounted s ig x N
  unfolding token_bytes token feeds list_bytes
  step_bytes (shell w) N = ap (λ (l : List ℕ). l ++ shell_bytes uncounted (shell_of s ig w)) (head_bytes_lem w)
  step_bytes (names n) N =
      ap₂ ◌++◌
      (concat_map_map (λ (x : Name × ℕ). name_bytes x.0) (λ (v : ℕ). (name_of N.values v, type_of s v)) (op_at s n).operands)
      (concat_map_map name_bytes (name_of N.blocks) (op_at s n).successors)
  step_bytes (counted k) N = refl

  pub tokens_bytes : (es : List Event) (N : Numbering) → flat_map token_bytes (tokens s ig es N) ≡ all_bytes uncounted s ig (bare_steps es) N
  unfolding tokens all_bytes bare_steps numbered_by token_bytes token
  tokens_bytes [] N = refl
  tokens_bytes (step x ∷ es) N = ap₂ ◌++◌ (step_bytes x N) (tokens_bytes es (numbered s x N))
  tokens_bytes (more ∷ es) N = tokens_bytes es N
  tokens_bytes (done ∷ es) N = tokens_bytes es N
