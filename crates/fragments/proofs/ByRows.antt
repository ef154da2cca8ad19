-- What is read off the rows of a sound store is what the operation or block has by itself: its slots are found by its number, its values are a
-- range, and its counts are lengths of ranges. Assumes nothing.
use Prim.Native.Nat.{ℕ, ◌+◌, ◌-◌, ◌<◌, ◌≤◌}
use native.Mathlib.Omega.{arith}
use mathlib.Core.List.{List, map}
use mathlib.Core.Path.{◌≡◌, refl, sym, ap, subst, ◌∙◌}
use lib.ListN.{length}
use Rattle.rules.specs.Store.{Op, Block, type_of, values_of, regions_of}
use Rattle.rules.specs.declared.types.Owner.{Owner}
use Rattle.rules.specs.declared.types.Owner.TheVariants.{Op as of_op, Block as of_block}
use Rattle.rules.specs.Shells.{unignored, unignored_location, shell_of}
use Rattle.rules.specs.declared.types.Ignore.{Ignore}
use Rattle.rules.specs.Types.{present}
use Rattle.rules.proofs.RenamedTypes.Renamed.{shell_renamed, shell_renamed_lem}
use Rattle.layout.specs.Columns.{Cols, at, columns, column_size, column_count, op_kind, op_region_first, op_region_end, op_successor_first, op_successor_end, op_operand_first, op_operand_end, op_location, block_location, value_type}
use Rattle.layout.specs.Reading.{op_count, value_count, slots_of, slice, attributes_from, op_of, block_of, store_of, consecutive}
use Rattle.layout.specs.Owners.{count_column, owner_number, key_count}
use Rattle.layout.specs.Soundness.{IsSound}
use Rattle.layout.proofs.Laid.{Laid, Ranged, laid_facts}
use Rattle.layout.proofs.Buffer.{columns_shaped}
use Rattle.layout.proofs.OwnerKeys.{OwnerIn, owner_keys, slots_fit}
use Rattle.layout.proofs.Tabulate.{length_from, op_read, block_read}
use Rattle.layout.proofs.Ranges.{range, length_range, regions_range, results_range, arguments_range}
use Rattle.layout.proofs.Totals.{operands_length, successors_length}
use Rattle.layout.proofs.Types.{types_read}
use Rattle.fragments.specs.Ignoring.{kept_from}
use Rattle.fragments.specs.Rows.{row_shell, RowOf, HeadOf, own_columns}
use Rattle.fragments.specs.declared.types.ShellRow.{ShellRow}
use Rattle.fragments.specs.declared.types.OpHeader.{OpHeader}

slots_kept : (C : Cols) (ig : Ignore) (first n : ℕ) → unignored ig (attributes_from C first n) ≡ kept_from C ig first (first + n)
unfolding kept_from
slots_kept C ig first n = let z : n ≡ first + n - first = omega arith in ap (λ (k : ℕ). unignored ig (attributes_from C first k)) z

pub consecutive_length : (a n : ℕ) → length (consecutive a n) ≡ n
unfolding consecutive
consecutive_length a n = length_from a n (λ (i : ℕ). i)

range_consecutive : (a e : ℕ) → range a e ≡ consecutive a (e - a)
unfolding range consecutive
range_consecutive a e = λ i. range a e

-- ---- the rows and heads of a sound store

unfoldable pub head_of_op : Cols → ℕ → OpHeader
head_of_op C n =
    record {
      kind = at C op_kind n;
      regions = at C op_region_end n - at C op_region_first n;
      successors = at C op_successor_end n - at C op_successor_first n;
      operands = at C op_operand_end n - at C op_operand_first n;
    }

module _ (b : List ℕ) (s : IsSound b) where
  abbrev C : Cols
  C = columns b

  laid : Laid C
  laid = laid_facts C s.laid

  -- the types of a range of values
  types_slice : (w : Owner) (a e : ℕ) → Ranged a e (value_count C) → values_of (store_of C) w ≡ range a e
      → map (type_of (store_of C)) (values_of (store_of C) w) ≡ slice (C value_type) a (a + (e - a))
  types_slice w a e r h =
      let up : a ≤ e = r.rises in
      let z : e ≡ a + (e - a) = omega arith in
      ap (map (type_of (store_of C))) h ∙ types_read C (columns_shaped b s.sized) laid a e r.fits ∙ ap (slice (C value_type) a) z

  shell_types : (ig : Ignore) (w : Owner) → (shell_of (store_of C) ig w).types ≡ map (type_of (store_of C)) (values_of (store_of C) w)
  unfolding shell_of
  shell_types ig (of_op n) = refl
  shell_types ig (of_block m) = refl

  -- the row of an owner: its location, and its values from a to e
  module _ (w : Owner) (l : OwnerIn C w) (place a e : ℕ) (r : Ranged a e (value_count C)) (own : values_of (store_of C) w ≡ range a e) where
    row_read : ((ig : Ignore) → (shell_of (store_of C) ig w).location ≡ unignored_location ig place)
        → ((ig : Ignore) → (shell_of (store_of C) ig w).attributes ≡ unignored ig (attributes_from C (slots_of w) (key_count C w))) → {location slot keys first many : ℕ}
        → location ≡ place → slot ≡ slots_of w → keys ≡ key_count C w → first ≡ a → many ≡ e - a
        → RowOf C w (record { location = location; slot = slot; attributes = keys; value = first; values = many })
    unfolding row_shell shell_renamed
    row_read where_it_is its_keys p q k f m =
        subst (RowOf C w) (λ i. record { location = sym p i; slot = sym q i; attributes = sym k i; value = sym f i; values = sym m i })
        (record {
          fits =
              record {
                slots = omega (arith, slots_fit C w laid l, owner_keys C w laid l);
                values = omega (arith, r.rises, r.fits, laid.counts.values);
              };
          shell = λ o. shell_renamed_lem o.types (store_of C) o.ignore w ∙ (λ i. record {
            location = where_it_is o.ignore i;
            attributes = (its_keys o.ignore ∙ slots_kept C o.ignore (slots_of w) (key_count C w)) i;
            types = map (present o.types) ((shell_types o.ignore w ∙ types_slice w a e r own) i);
          });
          values = own ∙ range_consecutive a e;
        })

  -- an owner's columns have its row
  pub record OwnFits (w : Owner) : Type 0 where
    pub location : (own_columns w).location < column_count
    pub first : (own_columns w).first < column_count
    pub end : (own_columns w).end < column_count
    pub in_location : owner_number w < column_size (own_columns w).location
    pub in_first : owner_number w < column_size (own_columns w).first
    pub in_end : owner_number w < column_size (own_columns w).end
    pub range : Ranged (at C (own_columns w).first (owner_number w)) (at C (own_columns w).end (owner_number w)) (value_count C)

  pub own_fits : (w : Owner) → OwnerIn C w → OwnFits w
  unfolding own_columns owner_number
  own_fits (of_op n) l =
      record {
        location = omega arith;
        first = omega arith;
        end = omega arith;
        in_location = omega (arith, l, laid.counts.ops);
        in_first = omega (arith, l, laid.counts.ops);
        in_end = omega (arith, l, laid.counts.ops);
        range = (laid.op n l).results.range;
      }
  own_fits (of_block m) l =
      record {
        location = omega arith;
        first = omega arith;
        end = omega arith;
        in_location = omega (arith, l, laid.counts.blocks);
        in_first = omega (arith, l, laid.counts.blocks);
        in_end = omega (arith, l, laid.counts.blocks);
        range = (laid.block m l).arguments.range;
      }

  pub own_row : (w : Owner) → OwnerIn C w → {place slot keys first many : ℕ}
      → place ≡ at C (own_columns w).location (owner_number w) → slot ≡ slots_of w → keys ≡ key_count C w → first ≡ at C (own_columns w).first (owner_number w)
      → many ≡ at C (own_columns w).end (owner_number w) - at C (own_columns w).first (owner_number w)
      → RowOf C w (record { location = place; slot = slot; attributes = keys; value = first; values = many })
  unfolding shell_of op_of block_of slots_of key_count count_column owner_number own_columns
  own_row (of_op n) l =
      let e = op_read C n l in
      row_read (of_op n) l (at C op_location n) _ _ (laid.op n l).results.range (results_range C laid n l)
      (λ ig. ap (λ (o : Op). unignored_location ig o.location) e) (λ ig. ap (λ (o : Op). unignored ig o.attributes) e)
  own_row (of_block n) l =
      let e = block_read C n l in
      row_read (of_block n) l (at C block_location n) _ _ (laid.block n l).arguments.range (arguments_range C laid n l)
      (λ ig. ap (λ (o : Block). unignored_location ig o.location) e) (λ ig. ap (λ (o : Block). unignored ig o.attributes) e)

  -- each count is the length of a range
  pub head_whole : (n : ℕ) → n < op_count C → HeadOf (store_of C) n (head_of_op C n)
  unfolding head_of_op op_of
  head_whole n l =
      let e = op_read C n l in
      let shaped = columns_shaped b s.sized in
      record {
        kind = sym (ap (λ (x : Op). x.kind) e);
        regions = sym (ap length (regions_range C laid n l) ∙ length_range _ _);
        successors = sym (ap (λ (x : Op). length x.successors) e ∙ successors_length C shaped laid n l);
        operands = sym (ap (λ (x : Op). length x.operands) e ∙ operands_length C shaped laid n l);
      }

  pub op_regions : (n : ℕ) → n < op_count C → {r : ℕ} → r ≡ at C op_region_end n - at C op_region_first n → r ≡ length (regions_of (store_of C) n)
  unfolding head_of_op
  op_regions n l r = r ∙ (head_whole n l).regions

  pub op_head_lem : (n : ℕ) → n < op_count C → {kind regions successors operands : ℕ}
      → kind ≡ at C op_kind n → regions ≡ length (regions_of (store_of C) n) → successors ≡ at C op_successor_end n - at C op_successor_first n → operands ≡ at C op_operand_end n - at C op_operand_first n
      → HeadOf (store_of C) n (record { kind = kind; regions = regions; successors = successors; operands = operands })
  unfolding head_of_op
  op_head_lem n l k r u o =
      let w = head_whole n l in
      record { kind = k ∙ w.kind; regions = r; successors = u ∙ w.successors; operands = o ∙ w.operands }

-- a row has as many values as its owner
pub row_count : {C : Cols} {w : Owner} {r : ShellRow} → RowOf C w r → r.values ≡ length (values_of (store_of C) w)
row_count {C} {w} {r} h = sym (ap length h.values ∙ consecutive_length r.value r.values)
