-- A copy can be written on any buffer on which no test refuses it: each word that is written keeps the columns' lengths, and columns of these
-- lengths are those of a buffer. Assumes nothing.
use Prim.Native.Nat.{ℕ, zero, suc, ◌+◌, ◌<◌, ◌≤◌}
use native.Mathlib.Omega.{arith}
use mathlib.Core.Bool.{true}
use mathlib.Core.List.{List, [], ◌∷◌, ◌++◌}
use Rattle.std.specs.Prelude.{Option, None}
use mathlib.Core.Path.{◌≡◌, refl, sym, ap, subst, ◌∙◌}
use lib.ListN.{length, get_or, take, drop, set, length-set, length-replicate}
use Rattle.std.proofs.Math.Seq.{take-append_seam, drop-append_seam, drop-drop}
use Rattle.rules.specs.Store.{Store, op_exists, owner_exists, parent_exists, attributes_hold, attribute_total, max_values, max_blocks, max_attributes}
use Rattle.rules.specs.declared.types.Attribute.{Attribute}
use Rattle.rules.specs.declared.types.Owner.{Owner}
use Rattle.rules.specs.declared.types.Owner.TheVariants.{Op as of_op, Block as of_block}
use Rattle.rules.specs.Fragments.{steps, defines_blocks, defines_values}
use Rattle.rules.specs.declared.types.Sort.TheVariants.{Op as op}
use Rattle.rules.specs.Building.{attributes_of, first_failed}
use Rattle.rules.specs.Mapping.{Mapping, no_image, empty_mapping, enter_all}
use Rattle.rules.specs.Copying.{copy_tests, copy_mapping}
use Rattle.rules.proofs.Basics.Tests.{and_left}
use Rattle.rules.proofs.Soundness.Accepted.{first_failed_none}
use Rattle.layout.specs.Columns.{Cols, columns}
use Rattle.layout.specs.Reading.{op_count, block_count, region_count, attribute_count, slots_of, store_in}
use Rattle.layout.specs.Soundness.{Arranged, IsSound}
use Rattle.layout.specs.Owners.{key_count}
use Rattle.layout.proofs.Buffer.{columns_shaped}
use Rattle.layout.proofs.Filled.{filled}
use Rattle.layout.proofs.Tabulate.{ops_length, blocks_length, regions_length, op_in_lem}
use Rattle.mutation.specs.AddedWrites.{with_operation, with_block}
use Rattle.mutation.proofs.OperationWritten.{made_shaped}
use Rattle.mutation.proofs.NewBlock.{block_shaped}
use Rattle.mutation.specs.SetWrites.{added}
use Rattle.api.proofs.Shapes.{added_shaped}
use Rattle.equivalence.specs.MappingWords.{mapping_of}
use Rattle.copying.specs.declared.steps.Step.{Step}
use Rattle.copying.specs.declared.steps.Step.TheVariants.{OpShell, BlockShell, Names}
use Rattle.copying.specs.Steps.{AreSteps, steps_listed}
use Rattle.copying.specs.Partial.{Partial}
use Rattle.copying.specs.Cloned.{Written}
use Rattle.copying.specs.Written.{ReadsAs, attributed, op_asked, op_made, block_asked, block_made, parent_by, OpReady, BlockReady, StepReady, step_made}
use Rattle.copying.proofs.Told.{owners_done}
use Rattle.copying.proofs.Walking.{starts, ends, step_ready, goes_on}
use Rattle.copying.proofs.Wrote.{op_wrote, block_wrote, wrote_none}
use Rattle.copying.proofs.Making.{op_room_lem, op_set, op_done, block_room_lem, block_set, block_done}
use Rattle.copying.proofs.Setting.{no_attribute, begun, ended, next_one, again, total_again}

-- ---- the attributes of one owner, on another

module _ (a : List ℕ) (from to : Owner) (h : Arranged a) (fe : owner_exists (store_in a) from ≡ true) (te : owner_exists (store_in a) to ≡ true)
    (apart : from ≡ to → ⊥) (held : attributes_hold (attributes_of (store_in a) from) ≡ true)
    (room : attribute_total (store_in a) + length (attributes_of (store_in a) from) ≤ max_attributes) where
  abbrev whole : List Attribute
  whole = attributes_of (store_in a) from

  more : (k i : ℕ) → key_count (columns a) from ≡ i + k → (b : List ℕ) → ReadsAs a b (attributed (store_in a) to (take i whole))
      → attribute_count (columns b) ≡ attribute_count (columns a) + i → (d : List ℕ) × ReadsAs a d (attributed (store_in a) to whole)
  more zero i e b w total = (b, ended a from to h fe te b i (omega arith) w)
  more (suc k) i e b w total =
      let l : i < key_count (columns a) from = omega arith in
      let n = next_one a from to h fe te apart held room b i l w total in
      let x =
      filled (added (columns b) to (slots_of to + i) (get_or whole i no_attribute))
      (added_shaped (columns b) to (slots_of to + i) (get_or whole i no_attribute) (columns_shaped b w.arranged.sized) (omega arith) (omega arith))
      in
      let long : length x.0 ≡ length b = x.1 ∙ sym w.arranged.sized in
      more k (i + 1) (omega arith) x.0
      (again a from to h fe te apart held room b i l w total x.0 long (slots_of to + i) refl (get_or whole i no_attribute) refl x.2)
      (total_again a from to h fe te apart held room b i l w total x.0 long (slots_of to + i) refl (get_or whole i no_attribute) refl x.2)

  attributes_made : attributes_of (store_in a) to ≡ [] → (d : List ℕ) × ReadsAs a d (attributed (store_in a) to whole)
  attributes_made empty = more (key_count (columns a) from) 0 (omega arith) a (begun a from to h fe te empty) (omega arith)

-- ---- an operation, a block

module _ (a : List ℕ) (h : Arranged a) (M : Mapping) where
  abbrev C : Cols
  C = columns a

  pub op_there_made : (place : Option ℕ) (m : ℕ) → m < op_count C → OpReady (store_in a) m → parent_exists (store_in a) place ≡ true
      → (d : List ℕ) × ReadsAs a d (op_made (store_in a) M place m)
  unfolding op_asked
  op_there_made place m l ready p =
      let new = op_asked (store_in a) M place m in
      let room = op_room_lem a h m l ready M place in
      let x = filled (with_operation C new) (made_shaped C new (columns_shaped a h.sized) room) in
      let b = x.0 in
      let w = op_wrote a b h (x.1 ∙ sym h.sized) new x.2 room p in
      let set = op_set a h m l ready M place b w (op_count C) refl in
      let q =
      attributes_made b (of_op m) (of_op (op_count C)) w.arranged set.from_exists set.to_exists set.apart (ap attributes_hold set.theirs ∙ ready.attributes)
      (subst (λ (xs : List Attribute). attribute_total (store_in b) + length xs ≤ max_attributes) (sym set.theirs) set.room) set.empty
      in
      (q.0, op_done a h m l ready M place b w (op_count C) refl q.0 q.1)

  pub block_there_made : (m : ℕ) → m < block_count C → BlockReady (store_in a) M m → (d : List ℕ) × ReadsAs a d (block_made (store_in a) M m)
  unfolding block_asked
  block_there_made m l ready =
      let new = block_asked (store_in a) M m in
      let room = block_room_lem a h M m l ready in
      let x = filled (with_block C new) (block_shaped C new (columns_shaped a h.sized) room) in
      let b = x.0 in
      let there : new.region < region_count C = omega (arith, ready.region, regions_length C) in
      let w = block_wrote a b h (x.1 ∙ sym h.sized) new x.2 room there in
      let set = block_set a h M m l ready b w (block_count C) refl in
      let q =
      attributes_made b (of_block m) (of_block (block_count C)) w.arranged set.from_exists set.to_exists set.apart (ap attributes_hold set.theirs ∙ ready.attributes)
      (subst (λ (xs : List Attribute). attribute_total (store_in b) + length xs ≤ max_attributes) (sym set.theirs) set.room) set.empty
      in
      (q.0, block_done a h M m l ready b w (block_count C) refl q.0 q.1)

-- ---- words of a mapping

entered_long : (ls rs es : List ℕ) → length (enter_all ls rs es) ≡ length es
unfolding enter_all
entered_long [] rs es = refl
entered_long (l ∷ ls) [] es = refl
entered_long (l ∷ ls) (r ∷ rs) es = entered_long ls rs (set es l r) ∙ length-set es l r

words_read : (vs bs os : List ℕ) → length vs ≡ max_values → length bs ≡ max_blocks → mapping_of (vs ++ (bs ++ os)) ≡ record { values = vs; blocks = bs; ops = os }
unfolding mapping_of
words_read vs bs os v b =
    let first : take max_values (vs ++ (bs ++ os)) ≡ vs = ap (λ (k : ℕ). take k (vs ++ (bs ++ os))) (sym v) ∙ take-append_seam vs (bs ++ os) in
    let rest : drop max_values (vs ++ (bs ++ os)) ≡ bs ++ os = ap (λ (k : ℕ). drop k (vs ++ (bs ++ os))) (sym v) ∙ drop-append_seam vs (bs ++ os) in
    let second : take max_blocks (bs ++ os) ≡ bs = ap (λ (k : ℕ). take k (bs ++ os)) (sym b) ∙ take-append_seam bs os in
    let last : drop max_blocks (bs ++ os) ≡ os = ap (λ (k : ℕ). drop k (bs ++ os)) (sym b) ∙ drop-append_seam bs os in
    let both : drop 2304 (vs ++ (bs ++ os)) ≡ drop max_blocks (drop max_values (vs ++ (bs ++ os))) = sym (drop-drop max_blocks max_values (vs ++ (bs ++ os))) in
    λ i. record {
      values = first i;
      blocks = (ap (take max_blocks) rest ∙ second) i;
      ops = (both ∙ ap (drop max_blocks) rest ∙ last) i;
    }

-- ---- all of a copy

module _ (a : List ℕ) (sd : IsSound a) (n : ℕ) (place : Option ℕ) (passed : first_failed (copy_tests (store_in a) n place) ≡ None) where
  abbrev s : Store
  s = store_in a

  abbrev ws : List Step
  ws = steps_listed (steps s op n)

  abbrev w : List ℕ
  w = (copy_mapping s n).values ++ ((copy_mapping s n).blocks ++ (copy_mapping s n).ops)

  are : AreSteps a n ws
  unfolding AreSteps
  are = refl

  there : n < op_count (columns a)
  unfolding copy_tests
  there = op_in_lem (columns a) n (and_left (op_exists s n) (parent_exists s place) (first_failed_none _ passed).0)

  mapped : mapping_of w ≡ copy_mapping s n
  unfolding copy_mapping empty_mapping
  mapped =
      words_read (copy_mapping s n).values (copy_mapping s n).blocks (copy_mapping s n).ops
      (entered_long (defines_values s op n) _ empty_mapping.values ∙ length-replicate {A = ℕ} max_values no_image)
      (entered_long (defines_blocks s op n) _ empty_mapping.blocks ∙ length-replicate {A = ℕ} max_blocks no_image)

  abbrev Copied : ℕ → List ℕ → Type 0
  Copied i b = Partial a n place (owners_done (steps s op n) i) b

  abbrev stands : (i : ℕ) → Step
  stands i = get_or ws i (OpShell 0)

  made_step : (b : List ℕ) → Arranged b → (x : Step) → StepReady (store_in b) (mapping_of w) n place x → (d : List ℕ) × ReadsAs b d (step_made (store_in b) (mapping_of w) n place x)
  unfolding StepReady step_made
  made_step b h (OpShell m) ready =
      op_there_made b h (mapping_of w) (parent_by (store_in b) (mapping_of w) n place m) m (omega (arith, ready.op_in, ops_length (columns b))) ready.op ready.parent_in
  made_step b h (BlockShell m) ready = block_there_made b h (mapping_of w) m (omega (arith, ready.block_in, blocks_length (columns b))) ready.block
  made_step b h (Names m) ready = (b, wrote_none b h)

  all_made : (k i : ℕ) → length ws ≡ i + k → (b : List ℕ) → Copied i b → (d : List ℕ) × Written a d n place w
  all_made zero i e b h = (b, ends a sd n there place passed ws are w mapped i b h (omega arith))
  all_made (suc k) i e b h =
      let few : i < length ws = omega arith in
      let d = made_step b h.arranged (stands i) (step_ready a sd n there place passed ws are w mapped i b h few (stands i) refl) in
      all_made k (i + 1) (omega arith) d.0 (goes_on a sd n there place passed ws are w mapped i b h few (stands i) refl d.0 d.1)

  pub copy_made : (d : List ℕ) × Written a d n place w
  copy_made = all_made (length ws) 0 (omega arith) a (starts a sd n there place passed ws are w mapped)
