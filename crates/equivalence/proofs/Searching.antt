-- The search for entries: at its start every block and operation with an image may be unfound; one that is found leaves the others, and its
-- row has all of its values; and when none is left, every entry has been found. Assumes nothing.
use Rattle.std.proofs.Common.{◌≡◌, ℕ, ◌+◌, ◌-◌, ◌<◌, ◌≤◌, Bool, true, false, not, ◌&&◌, eqb, ltb, ◌⊎◌, List, length, get_or, drop, sym, refl, ap, ◌∙◌, subst, inl, inr, ⊎_elim, le_refl, arith, get_or-drop, get_or-take, ltb-true, le-ltb, lt-ltb, eq-eqb, ne_eqb}
use native.Mathlib.Decide.{ℕ_discrete, dec_lt}
use lib.ListN.{get_or-eq_default}
use Rattle.rules.specs.Store.{Value, value_at}
use Rattle.rules.specs.declared.types.Owner.{Owner}
use Rattle.rules.specs.declared.types.Owner.TheVariants.{Op as of_op, Block as of_block}
use Rattle.rules.specs.Mapping.{no_image}
use Rattle.rules.specs.Lists.{count_below}
use Rattle.rules.specs.Entered.{mapped, owner_entry, EnteredBy}
use Rattle.rules.proofs.Basics.Tests.{and_left, and_right, and_both, clash}
use Rattle.rules.proofs.Basics.Counts.{count_le, count_less, count_none, count_parts}
use Rattle.layout.specs.Columns.{Cols, at, counts, op_result_first, op_result_end, block_argument_first, block_argument_end, value_owner}
use Rattle.layout.specs.Reading.{op_count, block_count, value_count, owner_from, value_of, store_of}
use Rattle.layout.specs.Soundness.{within, in_owner, value_laid}
use Rattle.layout.proofs.Laid.{Laid, within_facts}
use Rattle.layout.proofs.Scans.{and_false}
use Rattle.layout.proofs.Tabulate.{values_length, value_read}
use Rattle.equivalence.specs.MappingWords.{mapping_of}
use Rattle.equivalence.specs.Unmapping.{Held, EntriesIn, whole_mapping, owner_word, OwnerAt, first_value, end_value, OwnValuesAt, OwnersAt, SeenOf, Searched, Widened}
use Rattle.equivalence.specs.declared.entries.Search.{Search}

-- ---- a value and its owner

module _ (C : Cols) where
  pub first_op : (n : ℕ) → first_value C (2304 + n) ≡ at C op_result_first n
  unfolding first_value
  first_op n = let e : 2304 + n - 2304 ≡ n = omega arith in rw (le-ltb (2304 + n) 2304 (omega arith)) (ap (at C op_result_first) e)

  pub end_op : (n : ℕ) → end_value C (2304 + n) ≡ at C op_result_end n
  unfolding end_value
  end_op n = let e : 2304 + n - 2304 ≡ n = omega arith in rw (le-ltb (2304 + n) 2304 (omega arith)) (ap (at C op_result_end) e)

  pub first_block : (b : ℕ) → b < 256 → first_value C (2048 + b) ≡ at C block_argument_first b
  unfolding first_value
  first_block b h = let e : 2048 + b - 2048 ≡ b = omega arith in rw (lt-ltb (2048 + b) 2304 (omega arith)) (ap (at C block_argument_first) e)

  pub end_block : (b : ℕ) → b < 256 → end_value C (2048 + b) ≡ at C block_argument_end b
  unfolding end_value
  end_block b h = let e : 2048 + b - 2048 ≡ b = omega arith in rw (lt-ltb (2048 + b) 2304 (omega arith)) (ap (at C block_argument_end) e)

-- its word is one of the mapping's, and its row has the value
record Owning (C : Cols) (v : ℕ) (w : Owner) : Type 0 where
  from : 2048 ≤ owner_word w
  to : owner_word w < 2816
  first : first_value C (owner_word w) ≤ v
  past : v < end_value C (owner_word w)
  entry : (b : List ℕ) → get_or b (owner_word w) no_image ≡ no_image → owner_entry (mapping_of b) w ≡ no_image

module _ (C : Cols) (laid : Laid C) where
  abbrev owner_at : ℕ → Owner
  owner_at v = owner_from (at C value_owner v)

  owning : (v : ℕ) (w : Owner) → in_owner C v w ≡ true → Owning C v w
  unfolding in_owner owner_word owner_entry mapping_of
  owning v (of_op n) h =
      let l : n < op_count C = ltb-true _ _ (and_left _ (within (at C op_result_first n) (at C op_result_end n) v) h) in
      let r = within_facts _ _ _ (and_right (ltb n (op_count C)) _ h) in
      record {
        from = omega arith;
        to = omega (arith, laid.counts.ops);
        first = omega (arith, r.from, first_op C n);
        past = omega (arith, r.below, end_op C n);
        entry = λ b e. get_or-drop 2304 b n no_image ∙ e;
      }
  owning v (of_block m) h =
      let l : m < block_count C = ltb-true _ _ (and_left _ (within (at C block_argument_first m) (at C block_argument_end m) v) h) in
      let r = within_facts _ _ _ (and_right (ltb m (block_count C)) _ h) in
      let small : m < 256 = omega (arith, laid.counts.blocks) in
      record {
        from = omega arith;
        to = omega arith;
        first = omega (arith, r.from, first_block C m small);
        past = omega (arith, r.below, end_block C m small);
        entry = λ b e. get_or-take 256 (drop 2048 b) m no_image small ∙ get_or-drop 2048 b m no_image ∙ e;
      }

  owned_at : (v : ℕ) → v < value_count C → Owning C v (owner_at v)
  unfolding value_laid
  owned_at v h = owning v (owner_at v) (laid.value v h)

-- ---- the words looked at

module _ (C : Cols) (laid : Laid C) where
  pub block_most : at C counts 1 ≤ 256
  unfolding block_count
  block_most = laid.counts.blocks

  pub op_most : at C counts 0 ≤ 512
  unfolding op_count
  op_most = laid.counts.ops

  pub blocks_seen : (n from to : ℕ) → n ≡ at C counts 1 → SeenOf 2048 n from to → OwnersAt C from to
  unfolding block_count
  blocks_seen n from to e s =
      record {
        rises = s.rises;
        ends = omega (arith, s.ends, block_most);
        each = λ i a b. record {
          from = omega (arith, s.begins);
          block = λ l. omega (arith, s.ends);
          op = λ l. omega (arith, s.ends, block_most);
        };
      }

  pub ops_seen : (n from to : ℕ) → n ≡ at C counts 0 → SeenOf 2304 n from to → OwnersAt C from to
  unfolding op_count
  ops_seen n from to e s =
      record {
        rises = s.rises;
        ends = omega (arith, s.ends, op_most);
        each = λ i a b. record {
          from = omega (arith, s.begins);
          block = λ l. omega (arith, s.begins);
          op = λ l. omega (arith, s.ends);
        };
      }

-- ---- a row's values, as the code reads them

module _ (C : Cols) (laid : Laid C) (i : ℕ) (o : OwnerAt C i) (first end : ℕ) where
  pub block_values : i < 2304 → first ≡ at C block_argument_first (i - 2048) → end ≡ at C block_argument_end (i - 2048) → OwnValuesAt C i first end
  unfolding first_value end_value
  block_values l f e =
      let t = lt-ltb i 2304 l in
      let fits = (laid.block (i - 2048) (o.block l)).arguments.range.fits in
      record { begins = rw t f; ends = rw t e; fits = rw t (omega (arith, fits, laid.counts.values)) }

  pub op_values : 2304 ≤ i → first ≡ at C op_result_first (i - 2304) → end ≡ at C op_result_end (i - 2304) → OwnValuesAt C i first end
  unfolding first_value end_value
  op_values l f e =
      let t = le-ltb i 2304 l in
      let fits = (laid.op (i - 2304) (o.op l)).results.range.fits in
      record { begins = rw t f; ends = rw t e; fits = rw t (omega (arith, fits, laid.counts.values)) }

-- ---- where a word's entry is

held_map : (w : List ℕ) (k a e a' e' : ℕ) {P Q : Type 0} → a' ≤ a → e ≤ e' → (P → ((a' ≤ k) × (k < e')) ⊎ Q) → Held w k a e P → Held w k a' e' Q
unfolding Held
held_map w k a e a' e' l r f (inl n) = inl n
held_map w k a e a' e' l r f (inr (inl h)) = inr (inl (omega arith, omega arith))
held_map w k a e a' e' l r f (inr (inr p)) = inr (f p)

pub none_or_mapped : (w : List ℕ) (k : ℕ) → (get_or w k no_image ≡ no_image) ⊎ (mapped w k ≡ true)
unfolding mapped
none_or_mapped w k = go (ℕ_discrete (get_or w k no_image) no_image)
  where
    go : Dec (get_or w k no_image ≡ no_image) → (get_or w k no_image ≡ no_image) ⊎ (not (eqb (get_or w k no_image) no_image) ≡ true)
    go (yes e) = inl e
    go (no ne) = inr (ap not (ne_eqb _ _ ne))

-- everywhere in the mapping
pub whole : (w : List ℕ) → length w ≡ 2816 → EntriesIn w whole_mapping
unfolding whole_mapping Held
whole w long = record { held = λ k. go k (dec_lt k 2048) (dec_lt k 2816); values_fit = omega arith; owners_fit = omega arith }
  where
    go : (k : ℕ) → Dec (k < 2048) → Dec (k < 2816) → (get_or w k no_image ≡ no_image) ⊎ (((0 ≤ k) × (k < 2048)) ⊎ ((2048 ≤ k) × (k < 2816)))
    go k (yes l) d = inr (inl (omega arith, l))
    go k (no l) (yes m) = inr (inr (omega arith, m))
    go k (no l) (no m) = inl (get_or-eq_default w no_image (omega arith))

-- ---- at the start

module _ (C : Cols) (laid : Laid C) (w : List ℕ) (paired : ℕ) (by : EnteredBy (store_of C) (mapping_of w) paired) where
  block_count_lem : count_below 256 (λ (k : ℕ). mapped w (2048 + k)) ≤ count_below 256 (mapped (mapping_of w).blocks)
  unfolding mapped mapping_of
  block_count_lem =
      count_le _ _ 256
      (λ k b h. subst (λ (e : ℕ). not (eqb e no_image) ≡ true) (sym (get_or-take 256 (drop 2048 w) k no_image b ∙ get_or-drop 2048 w k no_image)) h)

  op_count_lem : count_below 512 (λ (k : ℕ). mapped w (2048 + (256 + k))) ≤ count_below 512 (mapped (mapping_of w).ops)
  unfolding mapped mapping_of
  op_count_lem =
      count_le _ _ 512
      (λ k b h. let e : 2048 + (256 + k) ≡ 2304 + k = omega arith in
      subst (λ (x : ℕ). not (eqb x no_image) ≡ true) (ap (λ (j : ℕ). get_or w j no_image) e ∙ sym (get_or-drop 2304 w k no_image)) h)

  all_count : count_below 768 (λ (k : ℕ). mapped w (2048 + k)) ≤ paired
  all_count = omega (arith, count_parts (λ (k : ℕ). mapped w (2048 + k)) 256 512, block_count_lem, op_count_lem, by.owners)

  -- a value with an image exists, and its owner has one
  with_owner : (v : ℕ) → v < 2048 → (get_or w v no_image ≡ no_image → ⊥) → (v < value_count C) × (mapped w (owner_word (owner_at C laid v)) ≡ true)
  unfolding mapping_of value_of
  with_owner v b ne = (there, ⊎_elim (λ e. absurd (unowned e)) (λ h. h) (none_or_mapped w (owner_word (owner_at C laid v))))
    where
      there : v < value_count C
      there = go (dec_lt v (value_count C))
        where
          go : Dec (v < value_count C) → v < value_count C
          go (yes l) = l
          go (no l) = absurd (ne (sym (get_or-take 2048 w v no_image b) ∙ by.beyond v (omega (arith, values_length C))))

      unowned : get_or w (owner_word (owner_at C laid v)) no_image ≡ no_image → ⊥
      unowned e =
          let o = owned_at C laid v there in
          let owner : (value_at (store_of C) v).owner ≡ owner_at C laid v = ap (λ (x : Value). x.owner) (value_read C v there) in
          ne (sym (get_or-take 2048 w v no_image b) ∙ by.values v (rw owner (o.entry w e)))

  pub at_first : (i : ℕ) (s : Search) → s.left ≡ paired → s.found.end ≡ 0 → s.found.past ≡ 0 → Searched C w i s
  unfolding Held
  at_first i s left end past =
      record {
        unfound = mapped w;
        few = omega (arith, all_count);
        values = λ v b. go v b (ℕ_discrete (get_or w v no_image) no_image);
        owners = λ k b. ⊎_elim inl (λ h. inr (inr h)) (none_or_mapped w k);
        ahead = λ k b. none_or_mapped w k;
        values_fit = omega arith;
        owners_fit = omega arith;
      }
    where
      go : (v : ℕ) → v < 2048 → Dec (get_or w v no_image ≡ no_image)
          → (get_or w v no_image ≡ no_image) ⊎ (((s.found.value ≤ v) × (v < s.found.end)) ⊎ ((v < value_count C) × (mapped w (owner_word (owner_at C laid v)) ≡ true)))
      go v b (yes e) = inl e
      go v b (no ne) = inr (inr (with_owner v b ne))

-- ---- one more is found

module _ (C : Cols) (laid : Laid C) (w : List ℕ) (i : ℕ) (s r : Search) (q : Searched C w i s) where
  module _ (from : 2048 ≤ i) (to : i < 2816) (some : get_or w i no_image ≡ no_image → ⊥) (wide : Widened C i s r) where
    still : ℕ → Bool
    still k = q.unfound k && not (eqb k i)

    here : q.unfound i ≡ true
    here = ⊎_elim (λ e. absurd (some e)) (λ e. e) (q.ahead i (le_refl i))

    gone : still i ≡ false
    unfolding still
    gone = and_false (q.unfound i) _ (ap not (eq-eqb i i refl))

    off : (k : ℕ) → (k ≡ i → ⊥) → q.unfound k ≡ true → still k ≡ true
    unfolding still
    off k ne h = and_both _ _ h (ap not (ne_eqb k i ne))

    before : (k : ℕ) → still k ≡ true → q.unfound k ≡ true
    unfolding still
    before k h = and_left _ (not (eqb k i)) h

    fewer : count_below 768 (λ (k : ℕ). still (2048 + k)) + 1 ≤ count_below 768 (λ (k : ℕ). q.unfound (2048 + k))
    fewer =
        let e : 2048 + (i - 2048) ≡ i = omega arith in
        count_less (λ (k : ℕ). still (2048 + k)) (λ (k : ℕ). q.unfound (2048 + k)) (i - 2048) 768 (omega arith)
        (ap still e ∙ gone) (ap q.unfound e ∙ here) (λ k h. before (2048 + k) h)

    value_held : (v : ℕ) → (v < value_count C) × (q.unfound (owner_word (owner_at C laid v)) ≡ true)
        → ((r.found.value ≤ v) × (v < r.found.end)) ⊎ ((v < value_count C) × (still (owner_word (owner_at C laid v)) ≡ true))
    value_held v (there, u) = go (ℕ_discrete (owner_word (owner_at C laid v)) i)
      where
        go : Dec (owner_word (owner_at C laid v) ≡ i) → ((r.found.value ≤ v) × (v < r.found.end)) ⊎ ((v < value_count C) × (still (owner_word (owner_at C laid v)) ≡ true))
        go (yes e) =
            let o = owned_at C laid v there in
            let f : first_value C i ≤ v = subst (λ (k : ℕ). first_value C k ≤ v) e o.first in
            let p : v < end_value C i = subst (λ (k : ℕ). v < end_value C k) e o.past in
            inl (omega (arith, wide.own.0), omega (arith, wide.own.1))
        go (no ne) = inr (there, off _ ne u)

    owner_held : (k : ℕ) → q.unfound k ≡ true → ((r.found.owner ≤ k) × (k < r.found.past)) ⊎ (still k ≡ true)
    owner_held k u = go (ℕ_discrete k i)
      where
        go : Dec (k ≡ i) → ((r.found.owner ≤ k) × (k < r.found.past)) ⊎ (still k ≡ true)
        go (yes e) = inl (omega (arith, wide.word.0), omega (arith, wide.word.1))
        go (no ne) = inr (off k ne u)

    pub one_found : Searched C w (i + 1) r
    one_found =
        record {
          unfound = still;
          few = omega (arith, fewer, q.few, wide.left);
          values = λ v b. held_map w v _ _ _ _ wide.values.0 wide.values.1 (value_held v) (q.values v b);
          owners = λ k b. held_map w k _ _ _ _ wide.owners.0 wide.owners.1 (owner_held k) (q.owners k b);
          ahead = λ k b. ⊎_elim inl (λ u. inr (off k (λ e. let d : k ≡ i = e in omega arith) u)) (q.ahead k (omega arith));
          values_fit = wide.fit.0 q.values_fit;
          owners_fit = wide.fit.1 q.owners_fit;
        }

-- ---- at the end

module _ (C : Cols) (laid : Laid C) (w : List ℕ) where
  -- what was not looked at is ahead
  pub further : (i j : ℕ) (s : Search) → i ≤ j → Searched C w i s → Searched C w j s
  further i j s l q =
      record {
        unfound = q.unfound;
        few = q.few;
        values = q.values;
        owners = q.owners;
        ahead = λ k b. q.ahead k (omega arith);
        values_fit = q.values_fit;
        owners_fit = q.owners_fit;
      }

  module _ (long : length w ≡ 2816) (i : ℕ) (s : Search) (q : Searched C w i s) (none : s.left ≤ 0) where
    nowhere : (k : ℕ) → 2048 ≤ k → k < 2816 → q.unfound k ≡ true → ⊥
    nowhere k a b h =
        let e : 2048 + (k - 2048) ≡ k = omega arith in
        clash h (ap q.unfound (sym e) ∙ count_none (λ (j : ℕ). q.unfound (2048 + j)) 768 (omega (arith, q.few)) (k - 2048) (omega arith))

    pub at_last : EntriesIn w s.found
    unfolding Held
    at_last =
        record {
          held = λ k. go k (dec_lt k 2048) (dec_lt k 2816);
          values_fit = omega (arith, q.values_fit);
          owners_fit = q.owners_fit;
        }
      where
        value : (k : ℕ) → (get_or w k no_image ≡ no_image) ⊎ (((s.found.value ≤ k) × (k < s.found.end)) ⊎ ((k < value_count C) × (q.unfound (owner_word (owner_at C laid k)) ≡ true)))
            → (get_or w k no_image ≡ no_image) ⊎ (((s.found.value ≤ k) × (k < s.found.end)) ⊎ ((s.found.owner ≤ k) × (k < s.found.past)))
        value k (inl e) = inl e
        value k (inr (inl h)) = inr (inl h)
        value k (inr (inr (there, u))) = let o = owned_at C laid k there in absurd (nowhere _ o.from o.to u)

        owner : (k : ℕ) → 2048 ≤ k → k < 2816 → (get_or w k no_image ≡ no_image) ⊎ (((s.found.owner ≤ k) × (k < s.found.past)) ⊎ (q.unfound k ≡ true))
            → (get_or w k no_image ≡ no_image) ⊎ (((s.found.value ≤ k) × (k < s.found.end)) ⊎ ((s.found.owner ≤ k) × (k < s.found.past)))
        owner k a b (inl e) = inl e
        owner k a b (inr (inl h)) = inr (inr h)
        owner k a b (inr (inr u)) = absurd (nowhere k a b u)

        go : (k : ℕ) → Dec (k < 2048) → Dec (k < 2816)
            → (get_or w k no_image ≡ no_image) ⊎ (((s.found.value ≤ k) × (k < s.found.end)) ⊎ ((s.found.owner ≤ k) × (k < s.found.past)))
        go k (yes l) d = value k (q.values k l)
        go k (no l) (yes m) = owner k (omega arith) m (q.owners k (omega arith))
        go k (no l) (no m) = inl (get_or-eq_default w no_image (omega arith))
