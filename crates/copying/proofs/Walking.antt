-- The copies are written step by step: what a step asks for is there, what is written is the next copy, and behind the last step all copies
-- are there, in a sound buffer. Assumes nothing.
use Rattle.std.proofs.Common.{◌≡◌, ℕ, ◌+◌, ◌<◌, ◌≤◌, true, List, [], ◌∷◌, ◌++◌, map, length, get_or, take, drop, refl, sym, ap, subst, ◌∙◌, arith, append-nil, append_assoc, length-append}
use Rattle.std.proofs.lemmas.List.{take-append-drop}
use mathlib.Core.List.{Memᴰ}
use Rattle.std.specs.Prelude.{Option, None, Some}
use native.Mathlib.Decide.{ℕ_discrete}
use borrow.Author.Tests.{ltb-true, lt-ltb}
use lib.Dec.{ltb}
use Rattle.std.specs.List.{list_all, flat_map}
use Rattle.rules.specs.Store.{Store, Op, Block, op_at, block_at, op_around, regions_of, results_of, arguments_of, op_exists, block_exists, value_exists, parent_exists, attributes_hold, totals_hold, sound, max_values, max_blocks}
use Rattle.rules.specs.declared.types.Owner.{Owner}
use Rattle.rules.specs.declared.types.Owner.TheVariants.{Op as of_op, Block as of_block}
use Rattle.rules.specs.Fragments.{op_owner, block_owner, steps, step_defines, defines_owners}
use Rattle.rules.specs.declared.types.Sort.TheVariants.{Op as op}
use Rattle.rules.specs.Fragments as rules
use Rattle.rules.specs.Building.{first_failed}
use Rattle.rules.specs.Mapping.{Mapping}
use Rattle.rules.specs.Copying.{copied, copy_tests, copy_mapping, block_copy, region_copy, parent_copy, copied_op, copied_block}
use Rattle.rules.proofs.Basics.Tests.{and_right, all_at, all_of}
use Rattle.rules.proofs.Basics.Distinct.{concat_map_append}
use Rattle.rules.proofs.Soundness.Sound.{Sound, TotalsSound, facts, totals_facts}
use Rattle.rules.proofs.Soundness.Accepted.{first_failed_none}
use Rattle.rules.proofs.Soundness.Grown.{owner_op, owner_block}
use Rattle.rules.proofs.Copying.Renumbered.{in_concat_map}
use Rattle.rules.proofs.Copying.Inside.{owned_op, region_listed}
use Rattle.rules.proofs.Copying.Children.{parent_root, parent_copied}
use Rattle.rules.specs.CopyLaws.{CopySound}
use Rattle.rules.proofs.Copying.Kept.{copy_sound}
use Rattle.layout.specs.Columns.{columns}
use Rattle.layout.specs.Reading.{op_count, store_in}
use Rattle.layout.specs.Soundness.{IsSound}
use Rattle.layout.proofs.Laid.{laid_facts}
use Rattle.layout.proofs.Tabulate.{op_exists_lem}
use Rattle.equivalence.specs.MappingWords.{mapping_of}
use Rattle.copying.specs.declared.steps.Step.{Step}
use Rattle.copying.specs.declared.steps.Step.TheVariants.{OpShell, BlockShell, Names}
use Rattle.copying.specs.Steps.{AreSteps, step_of, step_owners}
use Rattle.copying.specs.Partial.{Partial, copied_by}
use Rattle.copying.specs.Written.{ReadsAs, block_made, parent_by, OpReady, BlockReady, StepReady, step_made}
use Rattle.copying.specs.Cloned.{Written}
use Rattle.copying.proofs.Told.{told, told_lists, done, left, owners_done, owners_left, no_owners_done, are_steps_lem, no_owners_left, step_owners_left, step_owners_done}
use Rattle.copying.proofs.Built.{here as stands, Images, Runs, op_between, block_between, values_between, ops_length, blocks_length, op_known, parent_same, op_made_lem}
use Rattle.copying.proofs.BuiltBlock.{block_known, region_known, copy_known, some_theirs, region_same, block_made_lem}
use Rattle.copying.proofs.CopyImages.{copies_imaged}
use Rattle.copying.proofs.Rooms.{fewer, copied_by_lem, none_copied, more_copied}
use Rattle.copying.proofs.Ready.{around_there, parent_there, block_copied, region_copied, op_rooms, block_rooms}
use Rattle.copying.proofs.Regions.{runs}
use Rattle.copying.proofs.Wrote.{behind_none, behind_both}

-- ---- numbers that are low enough

low : (v few most : ℕ) → few ≤ most → ltb v few ≡ true → ltb v most ≡ true
low v few most l h = let b = ltb-true v few h in lt-ltb v most (omega arith)

parent_longer : (s t : Store) (p : Option ℕ) → length s.blocks ≤ length t.blocks → parent_exists s p ≡ true → parent_exists t p ≡ true
unfolding parent_exists block_exists
parent_longer s t None l h = refl
parent_longer s t (Some b) l h = low b (length s.blocks) (length t.blocks) l h

block_in_lem : (t : Store) (b : ℕ) → b < length t.blocks → parent_exists t (Some b) ≡ true
unfolding parent_exists block_exists
block_in_lem t b l = lt-ltb b (length t.blocks) l

ruled_as : {s t : Store} → s ≡ t → sound t ≡ true → sound s ≡ true
ruled_as e h = ap sound e ∙ h

ops_more : (s : Store) (n : ℕ) (place : Option ℕ) (ws : List Owner) → length s.ops ≤ length (copied_by s n place ws).ops
unfolding copied_by
ops_more s n place ws = omega (arith, length-append s.ops (map (copied_op s n place) (flat_map op_owner ws)))

blocks_more : (s : Store) (n : ℕ) (place : Option ℕ) (ws : List Owner) → length s.blocks ≤ length (copied_by s n place ws).blocks
unfolding copied_by
blocks_more s n place ws = omega (arith, length-append s.blocks (map (copied_block s n) (flat_map block_owner ws)))

sound_copied : (s : Store) → sound s ≡ true → (n : ℕ) (place : Option ℕ) → first_failed (copy_tests s n place) ≡ None
    → sound (copied s n place) ≡ true
unfolding CopySound
sound_copied = copy_sound

-- ---- the owners done and those left

done_and_left : (xs : List rules.Step) (i : ℕ) → owners_done xs i ++ owners_left xs i ≡ flat_map step_defines (told xs)
unfolding owners_done owners_left done left
done_and_left xs i =
    sym (concat_map_append step_defines (take i (told xs)) (drop i (told xs))) ∙ ap (flat_map step_defines) (take-append-drop i (told xs))

all_defined : (s : Store) (n : ℕ) → flat_map step_defines (told (steps s op n)) ≡ defines_owners s op n
unfolding defines_owners step_defines
all_defined s n = told_lists step_defines (λ k. refl) (steps s op n)

one_more_lem : (done : List Owner) (o : Owner) (rest : List Owner) → (done ++ (o ∷ [])) ++ rest ≡ done ++ (o ∷ rest)
one_more_lem done o rest = append_assoc done (o ∷ []) rest

-- ---- an operation's step

module _ (s : Store) (sd : Sound s) (n : ℕ) (ex : op_exists s n ≡ true) (place : Option ℕ) (pe : parent_exists s place ≡ true)
    (ws rest : List Owner) (m : ℕ) (split : ws ++ (of_op m ∷ rest) ≡ defines_owners s op n) (M : Mapping) (images : Images s n M)
    (totals : TotalsSound (copied_by s n place (ws ++ (of_op m ∷ [])))) where
  abbrev now : Store
  now = copied_by s n place ws

  abbrev under : Option ℕ
  under = parent_by now M n place m

  known : m < length s.ops
  known = op_known s sd n ex place pe ws rest m split M images

  pub op_there : m < length now.ops
  op_there = omega (arith, known, ops_length s sd n ex place pe ws rest (of_op m) split)

  row : op_at now m ≡ op_at s m
  row = op_between s sd n ex place pe ws rest (of_op m) split m known

  pub parent_in_lem : parent_exists now under ≡ true
  parent_in_lem = ap (parent_exists now) (parent_same s sd n ex place pe ws rest m split M images) ∙ go (ℕ_discrete m n)
    where
      more : length s.blocks ≤ length now.blocks
      more = omega (arith, blocks_length s sd n ex place pe ws rest (of_op m) split)

      go : Dec (m ≡ n) → parent_exists now (parent_copy s n place m) ≡ true
      go (yes e) =
          ap (λ (x : ℕ). parent_exists now (parent_copy s n place x)) e ∙ ap (parent_exists now) (parent_root s sd n ex place pe)
          ∙ parent_longer s now place more pe
      go (no ne) =
          let q = parent_copied s sd n ex place pe m (owned_op s sd n ex (stands s n ws rest (of_op m) split)) ne in
          let b = parent_there s sd n ex ws rest m q.0 split ne q.1 in
          ap (parent_exists now) q.3 ∙ block_in_lem now (block_copy s n q.0) (block_copied s sd n ex place pe ws rest (of_op m) split q.0 b)

  results : results_of now m ≡ results_of s m
  unfolding results_of
  results = values_between s sd n ex place pe ws rest (of_op m) split (of_op m) (owner_op s sd m known)

  pub op_ready : OpReady now m
  unfolding value_exists block_exists
  op_ready =
      let o = sd.op m known in
      let t = sd.totals in
      let r = op_rooms now M under m (subst TotalsSound (sym (op_made_lem s sd n ex place pe ws rest m split M images)) totals) in
      let few : (v : ℕ) → ltb v (length s.values) ≡ true → ltb v max_values ≡ true = λ v l. low v (length s.values) max_values t.values l in
      let fewer : (b : ℕ) → ltb b (length s.blocks) ≡ true → ltb b max_blocks ≡ true = λ b l. low b (length s.blocks) max_blocks t.blocks l in
      record {
        results = omega (arith, ap length results, o.results_fit);
        operands = omega (arith, ap (λ (x : Op). length x.operands) row, o.operands_fit);
        successors = omega (arith, ap (λ (x : Op). length x.successors) row, o.successors_fit);
        values_named = ap (λ (x : Op). list_all (λ (v : ℕ). ltb v max_values) x.operands) row
            ∙ all_of (λ (v : ℕ). ltb v max_values) (op_at s m).operands (λ v k. few v (all_at (value_exists s) (op_at s m).operands o.operands_in k));
        blocks_named = ap (λ (x : Op). list_all (λ (b : ℕ). ltb b max_blocks) x.successors) row
            ∙ all_of (λ (b : ℕ). ltb b max_blocks) (op_at s m).successors (λ b k. fewer b (all_at (block_exists s) (op_at s m).successors o.successors_in k));
        attributes = ap (λ (x : Op). attributes_hold x.attributes) row ∙ o.attributes_fit;
        op_room = r.op_room;
        region_room = r.region_room;
        value_room = r.value_room;
        operand_room = r.operand_room;
        successor_room = r.successor_room;
        attribute_room = r.attribute_room;
      }

-- ---- a block's step

module _ (s : Store) (sd : Sound s) (n : ℕ) (ex : op_exists s n ≡ true) (place : Option ℕ) (pe : parent_exists s place ≡ true)
    (ws rest : List Owner) (b : ℕ) (split : ws ++ (of_block b ∷ rest) ≡ defines_owners s op n) (M : Mapping) (images : Images s n M)
    (runs_in : Runs s) (runs_now : Runs (copied_by s n place ws)) (totals : TotalsSound (copied_by s n place (ws ++ (of_block b ∷ [])))) where
  abbrev present : Store
  present = copied_by s n place ws

  known_block : b < length s.blocks
  known_block = block_known s sd n ex place pe ws rest b split M images

  pub block_there : b < length present.blocks
  block_there = omega (arith, known_block, blocks_length s sd n ex place pe ws rest (of_block b) split)

  before : Memᴰ (op_around s b) (flat_map op_owner ws)
  before = around_there s sd n ex ws rest b split

  block_row : block_at present b ≡ block_at s b
  block_row = block_between s sd n ex place pe ws rest (of_block b) split b known_block

  arguments : arguments_of present b ≡ arguments_of s b
  unfolding arguments_of
  arguments = values_between s sd n ex place pe ws rest (of_block b) split (of_block b) (owner_block s sd b known_block)

  pub made_block : block_made present M b ≡ copied_by s n place (ws ++ (of_block b ∷ []))
  made_block = block_made_lem s sd n ex place pe ws rest b split M images before runs_in runs_now

  region_there : region_copy s n (block_at s b).region < length present.regions
  unfolding op_around
  region_there =
      region_copied s sd n ex place pe ws rest (of_block b) split (block_at s b).region
      (in_concat_map (regions_of s) (flat_map op_owner ws) before
      (region_listed s (block_at s b).region (region_known s sd n ex place pe ws rest b split M images)))

  pub block_ready : BlockReady present M b
  block_ready =
      let o = sd.block b known_block in
      let r = block_rooms present M b (subst TotalsSound (sym made_block) totals) in
      record {
        arguments = omega (arith, ap length arguments, o.arguments_fit);
        around = copy_known s sd n ex place pe ws rest b split M images before;
        some = some_theirs s sd n ex place pe ws rest b split M images before;
        region = omega (arith, region_same s sd n ex place pe ws rest b split M images before runs_in runs_now, region_there);
        attributes = ap (λ (x : Block). attributes_hold x.attributes) block_row ∙ o.attributes_fit;
        block_room = r.block_room;
        value_room = r.value_room;
        attribute_room = r.attribute_room;
      }

-- ---- step by step

module _ (a : List ℕ) (sd : IsSound a) (n : ℕ) (l : n < op_count (columns a)) (place : Option ℕ)
    (passed : first_failed (copy_tests (store_in a) n place) ≡ None) (ws : List Step) (are : AreSteps a n ws) (w : List ℕ) (mapped : mapping_of w ≡ copy_mapping (store_in a) n) where
  abbrev s : Store
  s = store_in a

  abbrev xs : List rules.Step
  xs = steps s op n

  sound_in : Sound s
  sound_in = facts s sd.ruled

  exists_in : op_exists s n ≡ true
  exists_in = op_exists_lem (columns a) n ∙ lt-ltb n _ l

  place_in_lem : parent_exists s place ≡ true
  unfolding copy_tests
  place_in_lem = and_right (op_exists s n) (parent_exists s place) (first_failed_none _ passed).0

  totals_in : totals_hold (copied s n place) ≡ true
  unfolding copy_tests
  totals_in = (first_failed_none _ passed).1.1.1.1.0

  images_in : Images s n (mapping_of w)
  images_in = subst (Images s n) (sym mapped) (copies_imaged s sound_in n exists_in place totals_in)

  whole : (i : ℕ) → owners_done xs i ++ owners_left xs i ≡ defines_owners s op n
  whole i = done_and_left xs i ∙ all_defined s n

  -- with those done and one more there is room
  room : (done : List Owner) (o : Owner) (rest : List Owner) → done ++ (o ∷ rest) ≡ defines_owners s op n
      → TotalsSound (copied_by s n place (done ++ (o ∷ [])))
  room done o rest e =
      let t : TotalsSound (copied_by s n place (defines_owners s op n)) = subst TotalsSound (sym (copied_by_lem s n place)) (totals_facts (copied s n place) totals_in) in
      fewer (copied_by s n place (done ++ (o ∷ []))) (copied_by s n place ((done ++ (o ∷ [])) ++ rest)) (more_copied s n place (done ++ (o ∷ [])) rest)
      (subst (λ (z : List Owner). TotalsSound (copied_by s n place z)) (sym (one_more_lem done o rest ∙ e)) t)

  -- nothing is written yet
  pub starts : Partial a n place (owners_done xs 0) a
  starts =
      record {
        reads = sym (ap (copied_by s n place) (no_owners_done xs) ∙ none_copied s n place);
        arranged = record { sized = sd.sized; laid = sd.laid };
        behind = behind_none (columns a);
      }

  module _ (i : ℕ) (b : List ℕ) (h : Partial a n place (owners_done xs i) b) where
    abbrev written : Store
    written = copied_by s n place (owners_done xs i)

    -- ---- behind the last step
    pub ends : length ws ≤ i → Written a b n place w
    ends past =
        let none_left : owners_left xs i ≡ [] = no_owners_left xs ws (are_steps_lem a n ws are) i past in
        let all_done : owners_done xs i ≡ defines_owners s op n = sym (append-nil (owners_done xs i))
        ∙ ap (λ (z : List Owner). owners_done xs i ++ z) (sym none_left) ∙ whole i in
        let reads : store_in b ≡ copied s n place = h.reads ∙ ap (copied_by s n place) all_done ∙ copied_by_lem s n place in
        record {
          reads = reads;
          sound = record { sized = h.arranged.sized; laid = h.arranged.laid; ruled = ruled_as reads (sound_copied s sd.ruled n place passed) };
          behind = h.behind;
          mapped = mapped;
        }

    runs_written : Runs written
    runs_written = subst Runs h.reads (runs (columns b) (laid_facts (columns b) h.arranged.laid))

    runs_entry : Runs s
    runs_entry = runs (columns a) (laid_facts (columns a) sd.laid)

    -- ---- at a step
    module _ (few : i < length ws) where
      abbrev M : Mapping
      M = mapping_of w

      split : (x : Step) → get_or ws i (OpShell 0) ≡ x → owners_done xs i ++ (step_owners x ++ owners_left xs (i + 1)) ≡ defines_owners s op n
      split x q = ap (λ (z : List Owner). owners_done xs i ++ z) (sym (step_owners_left xs ws (are_steps_lem a n ws are) i few x q)) ∙ whole i

      op_split : (m : ℕ) → get_or ws i (OpShell 0) ≡ OpShell m → owners_done xs i ++ (of_op m ∷ owners_left xs (i + 1)) ≡ defines_owners s op n
      unfolding step_owners step_of step_defines
      op_split m q = split (OpShell m) q

      block_split : (m : ℕ) → get_or ws i (OpShell 0) ≡ BlockShell m → owners_done xs i ++ (of_block m ∷ owners_left xs (i + 1)) ≡ defines_owners s op n
      unfolding step_owners step_of step_defines
      block_split m q = split (BlockShell m) q

      ready_written : (x : Step) → get_or ws i (OpShell 0) ≡ x → StepReady written M n place x
      unfolding StepReady
      ready_written (OpShell m) q =
          record {
            op_in = op_there s sound_in n exists_in place place_in_lem (owners_done xs i) (owners_left xs (i + 1)) m (op_split m q) M images_in (room _ _ _ (op_split m q));
            parent_in = parent_in_lem s sound_in n exists_in place place_in_lem (owners_done xs i) (owners_left xs (i + 1)) m (op_split m q) M images_in (room _ _ _ (op_split m q));
            op = op_ready s sound_in n exists_in place place_in_lem (owners_done xs i) (owners_left xs (i + 1)) m (op_split m q) M images_in (room _ _ _ (op_split m q));
          }
      ready_written (BlockShell m) q =
          record {
            block_in = block_there s sound_in n exists_in place place_in_lem (owners_done xs i) (owners_left xs (i + 1)) m (block_split m q) M images_in runs_entry runs_written (room _ _ _ (block_split m q));
            block = block_ready s sound_in n exists_in place place_in_lem (owners_done xs i) (owners_left xs (i + 1)) m (block_split m q) M images_in runs_entry runs_written (room _ _ _ (block_split m q));
          }
      ready_written (Names m) q = tt

      -- what is written is the next copy
      done_with : (x : Step) → get_or ws i (OpShell 0) ≡ x
          → copied_by s n place (owners_done xs i ++ step_owners x) ≡ copied_by s n place (owners_done xs (i + 1))
      done_with x q = ap (copied_by s n place) (sym (step_owners_done xs ws (are_steps_lem a n ws are) i few x q))

      next_written : (x : Step) → get_or ws i (OpShell 0) ≡ x → step_made written M n place x ≡ copied_by s n place (owners_done xs (i + 1))
      unfolding step_made step_owners step_of step_defines
      next_written (OpShell m) q = op_made_lem s sound_in n exists_in place place_in_lem (owners_done xs i) (owners_left xs (i + 1)) m (op_split m q) M images_in ∙ done_with (OpShell m) q
      next_written (BlockShell m) q =
          made_block s sound_in n exists_in place place_in_lem (owners_done xs i) (owners_left xs (i + 1)) m (block_split m q) M images_in runs_entry runs_written (room _ _ _ (block_split m q))
          ∙ done_with (BlockShell m) q
      next_written (Names m) q = ap (copied_by s n place) (sym (append-nil (owners_done xs i))) ∙ done_with (Names m) q

      module _ (x : Step) (q : get_or ws i (OpShell 0) ≡ x) where
        pub step_ready : StepReady (store_in b) M n place x
        step_ready = subst (λ (t : Store). StepReady t M n place x) (sym h.reads) (ready_written x q)

        pub goes_on : (d : List ℕ) → ReadsAs b d (step_made (store_in b) M n place x) → Partial a n place (owners_done xs (i + 1)) d
        goes_on d k =
            record {
              reads = k.reads ∙ ap (λ (t : Store). step_made t M n place x) h.reads ∙ next_written x q;
              arranged = k.arranged;
              behind = behind_both a b d
                  (subst (λ (t : Store). length s.ops ≤ length t.ops) (sym h.reads) (ops_more s n place (owners_done xs i)))
                  (subst (λ (t : Store). length s.blocks ≤ length t.blocks) (sym h.reads) (blocks_more s n place (owners_done xs i)))
                  h.behind k.behind;
            }
