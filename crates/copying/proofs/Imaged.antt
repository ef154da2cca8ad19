-- The copier's mapping is entered owner by owner: what is left to enter, entered in the mapping as it is with the next numbers, is the whole mapping
-- of the copy, since in the walk's order the copies get the next numbers one after the other. Assumes nothing.
use Rattle.std.proofs.Common.{◌≡◌, ℕ, zero, suc, ◌+◌, ◌<◌, ◌≤◌, true, List, [], ◌∷◌, ◌++◌, map, length, replicate, refl, sym, ap, ap₂, subst, ◌∙◌, arith, append-nil, ext_get_or, length-append}
use Rattle.std.proofs.lemmas.List.{get_or-map, length-map}
use Rattle.std.specs.Prelude.{None}
use Rattle.std.specs.List.{flat_map}
use Rattle.rules.specs.Store.{Store, op_exists, values_of, max_values, totals_hold}
use Rattle.rules.specs.declared.types.Owner.{Owner}
use Rattle.rules.specs.declared.types.Owner.TheVariants.{Op as of_op, Block as of_block}
use Rattle.rules.specs.Fragments.{steps, op_owner, block_owner, defines_owners, defines_blocks, defines_values, fragment_ops}
use Rattle.rules.specs.declared.types.Sort.TheVariants.{Op as op}
use Rattle.rules.specs.Mapping.{Mapping, no_image, empty_mapping, enter_all}
use Rattle.rules.specs.Copying.{renumbered, op_copy, block_copy, value_copy, copied, copy_mapping}
use Rattle.rules.proofs.Basics.Distinct.{Distinct, concat_map_append}
use Rattle.rules.proofs.Basics.Entries.{enter_append}
use Rattle.rules.proofs.Form.Images.{position_at}
use Rattle.rules.proofs.Soundness.Sound.{Sound, totals_facts}
use Rattle.rules.proofs.Copying.Renumbered.{number_at}
use Rattle.rules.proofs.Copying.Inside.{ops_distinct, blocks_distinct, values_distinct}
use Rattle.rules.proofs.Copying.Tables.{ops_length, blocks_length, values_length}
use Rattle.layout.specs.Reading.{tabulate_from, consecutive}
use Rattle.layout.proofs.Tabulate.{get_d_from}
use Rattle.fragments.proofs.ByRows.{consecutive_length}
use Rattle.equivalence.specs.MappingWords.{mapping_length, mapping_of, empty_words, op_mapped, block_mapped, values_mapped}
use Rattle.equivalence.proofs.Unmapped.{empty_words_lem}
use Rattle.copying.specs.declared.images.Copied.{Copied}
use Rattle.copying.specs.Images.{next_entered, owners_entered, owners_copied, CopiesFit}
use Rattle.copying.specs.declared.steps.Step.{Step}
use Rattle.copying.specs.Steps.{step_owners}
use Rattle.copying.proofs.Told.{owners_left, all_owners_left}

-- ---- the next numbers

consecutive_append : (a n m : ℕ) → consecutive a (n + m) ≡ consecutive a n ++ consecutive (a + n) m
unfolding consecutive tabulate_from
consecutive_append a zero m =
    let e : zero + m ≡ m = omega arith in
    let f : a ≡ a + zero = omega arith in
    ap (consecutive a) e ∙ ap (λ (k : ℕ). consecutive k m) f
consecutive_append a (suc n) m =
    let e : suc n + m ≡ suc (n + m) = omega arith in
    let f : suc a + n ≡ a + suc n = omega arith in
    ap (consecutive a) e
    ∙ ap (λ (l : List ℕ). a ∷ l) (consecutive_append (suc a) n m)
    ∙ ap (λ (k : ℕ). a ∷ (consecutive (suc a) n ++ consecutive k m)) f

-- the copies of a list get them one after the other
in_order : (C : List ℕ) (next : ℕ) → Distinct C → map (renumbered C next) C ≡ consecutive next (length C)
unfolding consecutive
in_order C next d =
    ext_get_or 0 (map (renumbered C next) C) (consecutive next (length C))
    (length-map C (renumbered C next) ∙ sym (consecutive_length next (length C)))
    (λ i l. let b : i < length C = omega (arith, length-map C (renumbered C next)) in
    get_or-map (renumbered C next) C i 0 0 b
    ∙ number_at C next _ i (position_at C d i b)
    ∙ sym (get_d_from next (length C) (λ (k : ℕ). k) i 0 b))

-- ---- entered, one list after the other

entered_none : (next : ℕ) (es : List ℕ) → next_entered [] next es ≡ es
unfolding next_entered enter_all
entered_none next es = refl

entered_one : (x next : ℕ) (es : List ℕ) → next_entered (x ∷ []) next es ≡ enter_all (x ∷ []) (next ∷ []) es
unfolding next_entered consecutive tabulate_from
entered_one x next es = refl

entered_append : (xs ys : List ℕ) (next : ℕ) (es : List ℕ)
    → next_entered (xs ++ ys) next es ≡ next_entered ys (next + length xs) (next_entered xs next es)
unfolding next_entered
entered_append xs ys next es =
    let first : List ℕ = consecutive next (length xs) in
    let then : List ℕ = consecutive (next + length xs) (length ys) in
    ap (λ (n : ℕ). enter_all (xs ++ ys) (consecutive next n) es) (length-append xs ys)
    ∙ ap (λ (l : List ℕ). enter_all (xs ++ ys) l es) (consecutive_append next (length xs) (length ys))
    ∙ enter_append xs first ys then es (sym (consecutive_length next (length xs)))

module _ (s : Store) where
  pub owners_none : (next : Copied) (m : Mapping) → owners_entered s [] next m ≡ m
  unfolding owners_entered next_entered enter_all
  owners_none next m = refl

  pub none_copied : (next : Copied) → owners_copied s [] next ≡ next
  unfolding owners_copied
  none_copied next =
      let none : (k : ℕ) → k + 0 ≡ k = λ k. omega arith in
      λ i. record { ops = none next.ops i; blocks = none next.blocks i; values = none next.values i }

  -- some owners, and those behind them
  module _ (vs ws : List Owner) where
    one_first : (f : Owner → List ℕ) (next : ℕ) (es : List ℕ) → next_entered (flat_map f (vs ++ ws)) next es
        ≡ next_entered (flat_map f ws) (next + length (flat_map f vs)) (next_entered (flat_map f vs) next es)
    one_first f next es =
        ap (λ (l : List ℕ). next_entered l next es) (concat_map_append f vs ws) ∙ entered_append (flat_map f vs) (flat_map f ws) next es

    one_length : (f : Owner → List ℕ) → length (flat_map f (vs ++ ws)) ≡ length (flat_map f vs) + length (flat_map f ws)
    one_length f = ap length (concat_map_append f vs ws) ∙ length-append (flat_map f vs) (flat_map f ws)

    owners_then : (next : Copied) (m : Mapping)
        → owners_entered s (vs ++ ws) next m ≡ owners_entered s ws (owners_copied s vs next) (owners_entered s vs next m)
    unfolding owners_entered owners_copied
    owners_then next m = λ i. record {
      values = one_first (values_of s) next.values m.values i;
      blocks = one_first block_owner next.blocks m.blocks i;
      ops = one_first op_owner next.ops m.ops i;
    }

    module _ {next : Copied} (r : CopiesFit s (vs ++ ws) next) where
      first_fits : CopiesFit s vs next
      first_fits =
          record {
            ops = omega (arith, r.ops, one_length op_owner);
            blocks = omega (arith, r.blocks, one_length block_owner);
            values = omega (arith, r.values, one_length (values_of s));
          }

      rest_fits : CopiesFit s ws (owners_copied s vs next)
      unfolding owners_copied
      rest_fits =
          record {
            ops = omega (arith, r.ops, one_length op_owner);
            blocks = omega (arith, r.blocks, one_length block_owner);
            values = omega (arith, r.values, one_length (values_of s));
          }

  -- ---- one owner, whose values are a run of numbers

  module _ (w : Owner) where
    values_alone : flat_map (values_of s) (w ∷ []) ≡ values_of s w
    values_alone = append-nil (values_of s w)

    values_entered : (first count : ℕ) → values_of s w ≡ consecutive first count → (next : ℕ) (es : List ℕ)
        → enter_all (consecutive first count) (consecutive next count) es ≡ next_entered (flat_map (values_of s) (w ∷ [])) next es
    unfolding next_entered
    values_entered first count e next es =
        ap (λ (n : ℕ). enter_all (consecutive first count) (consecutive next n) es) (sym (consecutive_length first count))
        ∙ ap (λ (l : List ℕ). enter_all l (consecutive next (length l)) es) (sym (values_alone ∙ e))

    values_counted : (first count : ℕ) → values_of s w ≡ consecutive first count → length (flat_map (values_of s) (w ∷ [])) ≡ count
    values_counted first count e = ap length (values_alone ∙ e) ∙ consecutive_length first count

    pub run_fits : {next : Copied} → CopiesFit s (w ∷ []) next → (first count : ℕ) → values_of s w ≡ consecutive first count
        → next.values + count ≤ max_values
    run_fits r first count e = omega (arith, r.values, values_counted first count e)

  module _ (m : ℕ) (next : Copied) (first count : ℕ) where
    -- the images of the values
    abbrev run : Mapping → Mapping
    run b = values_mapped b (consecutive first count) (consecutive next.values count)

    pub op_entered : values_of s (of_op m) ≡ consecutive first count → (before : Mapping)
        → run (op_mapped before m next.ops) ≡ owners_entered s (of_op m ∷ []) next before
    unfolding values_mapped op_mapped owners_entered op_owner block_owner enter_all
    op_entered e before = λ i. record {
      values = values_entered (of_op m) first count e next.values before.values i;
      blocks = sym (entered_none next.blocks before.blocks) i;
      ops = sym (entered_one m next.ops before.ops) i;
    }

    pub op_counted_lem : values_of s (of_op m) ≡ consecutive first count → ◌≡◌ {A = Copied}
        (record { ops = next.ops + 1; blocks = next.blocks; values = next.values + count }) (owners_copied s (of_op m ∷ []) next)
    unfolding owners_copied op_owner block_owner
    op_counted_lem e =
        let same : next.blocks ≡ next.blocks + 0 = omega arith in
        λ i. record {
          ops = next.ops + 1;
          blocks = same i;
          values = ap (λ (k : ℕ). next.values + k) (sym (values_counted (of_op m) first count e)) i;
        }

    pub block_entered : values_of s (of_block m) ≡ consecutive first count → (before : Mapping)
        → run (block_mapped before m next.blocks) ≡ owners_entered s (of_block m ∷ []) next before
    unfolding values_mapped block_mapped owners_entered op_owner block_owner enter_all
    block_entered e before = λ i. record {
      values = values_entered (of_block m) first count e next.values before.values i;
      blocks = sym (entered_one m next.blocks before.blocks) i;
      ops = sym (entered_none next.ops before.ops) i;
    }

    pub block_counted_lem : values_of s (of_block m) ≡ consecutive first count → ◌≡◌ {A = Copied}
        (record { ops = next.ops; blocks = next.blocks + 1; values = next.values + count }) (owners_copied s (of_block m ∷ []) next)
    unfolding owners_copied op_owner block_owner
    block_counted_lem e =
        let same : next.ops ≡ next.ops + 0 = omega arith in
        λ i. record {
          ops = same i;
          blocks = next.blocks + 1;
          values = ap (λ (k : ℕ). next.values + k) (sym (values_counted (of_block m) first count e)) i;
        }

  -- ---- the whole

  -- the numbers behind all that the store has
  abbrev pub BehindAll : Copied → Type 0
  BehindAll next = (next.ops ≡ length s.ops) × (next.blocks ≡ length s.blocks) × (next.values ≡ length s.values)

  module _ (sd : Sound s) (n : ℕ) (ex : op_exists s n ≡ true) {next : Copied} (behind : BehindAll next) where
    all_entered : (xs : List ℕ) → Distinct xs → {own k : ℕ} → k ≡ own → (es : List ℕ)
        → next_entered xs k es ≡ enter_all xs (map (renumbered xs own) xs) es
    unfolding next_entered
    all_entered xs d {own} e es =
        ap (λ (k : ℕ). enter_all xs (consecutive k (length xs)) es) e ∙ ap (λ (l : List ℕ). enter_all xs l es) (sym (in_order xs own d))

    whole_entered : owners_entered s (defines_owners s op n) next empty_mapping ≡ copy_mapping s n
    unfolding copy_mapping owners_entered defines_values defines_blocks fragment_ops value_copy block_copy op_copy
    whole_entered = λ i. record {
      values = all_entered (defines_values s op n) (values_distinct s sd n ex) behind.2 empty_mapping.values i;
      blocks = all_entered (defines_blocks s op n) (blocks_distinct s sd n ex) behind.1 empty_mapping.blocks i;
      ops = all_entered (fragment_ops s op n) (ops_distinct s sd n ex) behind.0 empty_mapping.ops i;
    }

    whole_fits : totals_hold (copied s n None) ≡ true → CopiesFit s (defines_owners s op n) next
    unfolding defines_values defines_blocks fragment_ops
    whole_fits h =
        let t = totals_facts (copied s n None) h in
        record {
          ops = omega (arith, t.ops, ops_length s n None, behind.0);
          blocks = omega (arith, t.blocks, blocks_length s n None, behind.1);
          values = omega (arith, t.values, values_length s n None, behind.2);
        }

-- the words at the start
pub emptied : (words filled : List ℕ) → length words ≡ mapping_length → filled ≡ replicate (length words) no_image → mapping_of filled ≡ empty_mapping
unfolding empty_words
emptied words filled e f = ap mapping_of (f ∙ ap (λ (k : ℕ). replicate k no_image) e) ∙ empty_words_lem

-- ---- step by step

-- what is left from step i on makes the whole, and there are numbers for it
pub record Entering (s : Store) (n i : ℕ) (next : Copied) (words : List ℕ) : Type 0 where
  pub mapped : copy_mapping s n ≡ owners_entered s (owners_left (steps s op n) i) next (mapping_of words)
  pub fits : CopiesFit s (owners_left (steps s op n) i) next

module _ (s : Store) (n : ℕ) where
  pub entering_begun : Sound s → op_exists s n ≡ true → totals_hold (copied s n None) ≡ true → {next : Copied} → BehindAll s next
      → (words : List ℕ) → mapping_of words ≡ empty_mapping → Entering s n 0 next words
  entering_begun sd ex h {next} behind words e =
      let left : defines_owners s op n ≡ owners_left (steps s op n) 0 = sym (all_owners_left s n) in
      record {
        mapped =
            sym (whole_entered s sd n ex behind)
            ∙ ap₂ (λ (ws : List Owner) (m : Mapping). owners_entered s ws next m) left (sym e);
        fits = subst (λ (ws : List Owner). CopiesFit s ws next) left (whole_fits s sd n ex behind h);
      }

  module _ (i : ℕ) {next : Copied} {words : List ℕ} (h : Entering s n i next words) where
    abbrev rest : List Owner
    rest = owners_left (steps s op n) (i + 1)

    left_is : (ws : List Owner) → owners_left (steps s op n) i ≡ ws → copy_mapping s n ≡ owners_entered s ws next (mapping_of words)
    left_is ws e = h.mapped ∙ ap (λ (l : List Owner). owners_entered s l next (mapping_of words)) e

    left_fits_lem : (ws : List Owner) → owners_left (steps s op n) i ≡ ws → CopiesFit s ws next
    left_fits_lem ws e = subst (λ (l : List Owner). CopiesFit s l next) e h.fits

    pub entering_over : owners_left (steps s op n) i ≡ [] → mapping_of words ≡ copy_mapping s n
    entering_over e = sym (left_is [] e ∙ owners_none s next (mapping_of words))

    -- with what a step defines
    module _ (x : Step) (e : owners_left (steps s op n) i ≡ step_owners x ++ rest) where
      pub entering_fits : CopiesFit s (step_owners x) next
      entering_fits = first_fits s (step_owners x) rest (left_fits_lem (step_owners x ++ rest) e)

      pub entering_next : {next' : Copied} {words' : List ℕ} → next' ≡ owners_copied s (step_owners x) next
          → mapping_of words' ≡ owners_entered s (step_owners x) next (mapping_of words) → Entering s n (i + 1) next' words'
      entering_next c m =
          record {
            mapped =
                left_is (step_owners x ++ rest) e
                ∙ owners_then s (step_owners x) rest next (mapping_of words)
                ∙ ap₂ (λ (k : Copied) (b : Mapping). owners_entered s rest k b) (sym c) (sym m);
            fits = subst (λ (k : Copied). CopiesFit s rest k) (sym c) (rest_fits s (step_owners x) rest (left_fits_lem (step_owners x ++ rest) e));
          }
