-- What is defined gets the next numbers: an owner's word tells the numbers of exactly its own values, and is set once, so that a number stays
-- once it is given; all other words but the count stay. Assumes nothing.
use Rattle.std.proofs.Common.{◌≡◌, ℕ, ◌+◌, ◌-◌, ◌*◌, ◌<◌, ◌≤◌, Bool, true, false, cond, eqb, ◌≢◌, List, [], ◌∷◌, ◌++◌, length, get_or, set, sym, refl, ap, ◌∙◌, subst, append-nil, arith, length-append, length-set, get_or-set_other, get_or-set_same, ltb-true, eq-eqb, ne_eqb}
use native.Mathlib.Decide.{ℕ_discrete}
use mathlib.Core.List.{Memᴰ}
use Rattle.std.specs.Prelude.{Option, None, Some}
use Rattle.rules.specs.Lists.{position}
use Rattle.rules.specs.Store.{Store, Value, no_value, value_at, values_of, same_owner, op_exists, block_exists, owner_exists, sound}
use Rattle.rules.specs.declared.types.Owner.{Owner}
use Rattle.rules.specs.declared.types.Owner.TheVariants.{Op as of_op, Block as of_block}
use Rattle.rules.specs.Fragments.{shell, step_defines, block_owner}
use Rattle.rules.specs.Hash.{Numbering, numbered}
use Rattle.rules.proofs.Basics.Tests.{all_at, clash}
use Rattle.rules.proofs.Basics.Appended.{mem_get_d}
use Rattle.rules.proofs.Form.Images.{position_some, position_kept, position_other}
use Rattle.rules.proofs.Soundness.Sound.{facts}
use Rattle.rules.proofs.Soundness.Children.{same_owner_lem, values_in_lem}
use Rattle.rules.proofs.Soundness.NewValues.{same_self}
use Rattle.layout.specs.Reading.{owner_from, owner_code, tabulate_from, consecutive}
use Rattle.layout.proofs.Ranges.{owner_read_lem}
use Rattle.fragments.proofs.ByRows.{consecutive_length}
use Rattle.fragments.specs.Words.{block_place, Tells, values_numbered, blocks_numbered, Stands, define_at, with_run}
use Rattle.fragments.specs.Numbered.{numbered_all, values_in, blocks_in, Numbers}
use Rattle.fragments.proofs.Places.{position_after, position_past, position_run, in_run, value_in}

-- ---- one word

define_length : (ns : List ℕ) (i x : ℕ) → length (define_at ns i x) ≡ length ns
unfolding define_at
define_length ns i x = go (eqb (get_or ns i 0) 0)
  where
    go : (b : Bool) → length (cond b (set ns i x) ns) ≡ length ns
    go true = length-set ns i x
    go false = refl

define_other : (ns : List ℕ) (i x j : ℕ) → j ≢ i → get_or (define_at ns i x) j 0 ≡ get_or ns j 0
unfolding define_at
define_other ns i x j ne = go (eqb (get_or ns i 0) 0)
  where
    go : (b : Bool) → get_or (cond b (set ns i x) ns) j 0 ≡ get_or ns j 0
    go true = get_or-set_other ns i j x 0 ne
    go false = refl

define_new : (ns : List ℕ) (i x : ℕ) → i < length ns → get_or ns i 0 ≡ 0 → get_or (define_at ns i x) i 0 ≡ x
unfolding define_at
define_new ns i x l z = rw (eq-eqb (get_or ns i 0) 0 z) (get_or-set_same ns i x 0 l)

define_old : (ns : List ℕ) (i x : ℕ) → get_or ns i 0 ≢ 0 → get_or (define_at ns i x) i 0 ≡ get_or ns i 0
unfolding define_at
define_old ns i x ne = rw (ne_eqb (get_or ns i 0) 0 ne) refl

-- ---- what a word tells

tells_none : (word n : ℕ) (o : Option ℕ) → Tells word n o → word ≡ 0 → o ≡ None
unfolding Tells
tells_none word n None t z = refl
tells_none word n (Some i) t z = absurd (t.0 z)

record Number (word n : ℕ) (o : Option ℕ) : Type 0 where
  number : ℕ
  is : o ≡ Some number
  apart : word + n ≡ number + 2048

tells_some : (word n : ℕ) (o : Option ℕ) → Tells word n o → word ≢ 0 → Number word n o
unfolding Tells
tells_some word n None t ne = absurd (ne t)
tells_some word n (Some i) t ne = record { number = i; is = refl; apart = t.1 }

told : (n : ℕ) {word i : ℕ} {o : Option ℕ} → o ≡ Some i → word ≢ 0 → word + n ≡ i + 2048 → Tells word n o
unfolding Tells
told n {word} {i} e ne q = subst (Tells word n) (sym e) (ne, q)

tells_same : (n : ℕ) {word word' : ℕ} {o o' : Option ℕ} → word ≡ word' → o ≡ o' → Tells word n o → Tells word' n o'
tells_same n {word} {word'} {o} {o'} e q t = subst (λ (x : ℕ). Tells x n o') e (subst (Tells word n) q t)

-- ---- a run

module _ (ns : List ℕ) (place counter first count : ℕ) where
  abbrev next : ℕ
  next = get_or ns counter 0 + 2048 - first

  abbrev total : ℕ
  total = get_or ns counter 0 + count

  run_length : length (with_run ns place counter first count) ≡ length ns
  unfolding with_run
  run_length = length-set (define_at ns place next) counter total ∙ define_length ns place next

  -- other words
  run_other : (j : ℕ) → j ≢ place → j ≢ counter → get_or (with_run ns place counter first count) j 0 ≡ get_or ns j 0
  unfolding with_run
  run_other j np nc = get_or-set_other (define_at ns place next) counter j total 0 nc ∙ define_other ns place next j np

  -- the count
  run_count : counter < length ns → get_or (with_run ns place counter first count) counter 0 ≡ total
  unfolding with_run
  run_count l = get_or-set_same (define_at ns place next) counter total 0 (subst (λ (k : ℕ). counter < k) (sym (define_length ns place next)) l)

  -- a number in the run
  run_tells : place ≢ counter → place < length ns → (D : List ℕ) → get_or ns counter 0 ≡ length D → first + count ≤ 2048 → (v : ℕ) → first ≤ v → v < first + count
      → Tells (get_or ns place 0) v (position v D) → Tells (get_or (with_run ns place counter first count) place 0) v (position v (D ++ consecutive first count))
  unfolding with_run
  run_tells away l D many few v from below t = subst (λ (x : ℕ). Tells x v (position v (D ++ consecutive first count))) (sym (get_or-set_other (define_at ns place next) counter place total 0 away)) (go (ℕ_discrete (get_or ns place 0) 0))
    where
      go : Dec (get_or ns place 0 ≡ 0) → Tells (get_or (define_at ns place next) place 0) v (position v (D ++ consecutive first count))
      go (yes z) =
          let new : position v D ≡ None = tells_none (get_or ns place 0) v (position v D) t z in
          subst (λ (x : ℕ). Tells x v (position v (D ++ consecutive first count))) (sym (define_new ns place next l z))
          (told v (position_after v D (consecutive first count) (v - first) new (position_run v first count from below)) (λ q. omega arith) (omega arith))
      go (no ne) =
          let old = tells_some (get_or ns place 0) v (position v D) t ne in
          subst (λ (x : ℕ). Tells x v (position v (D ++ consecutive first count))) (sym (define_old ns place next ne))
          (told v (position_kept v D (consecutive first count) old.number old.is) ne old.apart)

-- ---- where the words of owners are

-- apart from those of blocks and of counts
pub record Apart (w : Owner) : Type 0 where
  pub low : owner_code w < 1024
  pub no_block : (b : ℕ) → owner_code w ≢ block_place b

apart : (s : Store) → sound s ≡ true → (w : Owner) → owner_exists s w ≡ true → Apart w
unfolding owner_exists op_exists block_exists owner_code
apart s sd (of_op n) e =
    let l : n < length s.ops = ltb-true n (length s.ops) e in
    let few : length s.ops ≤ 512 = (facts s sd).totals.ops in
    record { low = omega arith; no_block = λ b h. omega (arith, h) }
apart s sd (of_block m) e =
    let l : m < length s.blocks = ltb-true m (length s.blocks) e in
    let few : length s.blocks ≤ 256 = (facts s sd).totals.blocks in
    record { low = omega arith; no_block = λ b h. omega (arith, h) }

pub owner_apart : (s : Store) → sound s ≡ true → (v : ℕ) → v < length s.values → Apart (value_at s v).owner
unfolding value_at
owner_apart s sd v l =
    apart s sd (get_or s.values v no_value).owner (all_at (λ (x : Value). owner_exists s x.owner) s.values (facts s sd).values_in (mem_get_d s.values v no_value l))

same_code : (a b : Owner) → owner_code a ≡ owner_code b → a ≡ b
same_code a b e = sym (owner_read_lem a) ∙ ap owner_from e ∙ owner_read_lem b

-- ---- an owner's values

module _ (s : Store) (sd : sound s ≡ true) (w : Owner) (here : owner_exists s w ≡ true) (first count : ℕ) (run : values_of s w ≡ consecutive first count) (few : first + count ≤ 2048) where
  module _ (N : Numbering) (ns : List ℕ) (long : length ns ≡ 1026) (h : Stands s N ns) where
    abbrev after : List ℕ
    after = with_run ns (owner_code w) 1024 first count

    -- of its own
    own : (v : ℕ) → v < length s.values → (value_at s v).owner ≡ w → Tells (get_or after (owner_code w) 0) v (position v (N.values ++ values_of s w))
    own v l e =
        let low : owner_code w < 1024 = (apart s sd w here).low in
        let r = in_run first count v (subst (Memᴰ v) run (value_in s w v l e)) in
        let t : Tells (get_or ns (owner_code w) 0) v (position v N.values) = subst (λ (o : Owner). Tells (get_or ns (owner_code o) 0) v (position v N.values)) e (h.values v l) in
        subst (λ (xs : List ℕ). Tells (get_or after (owner_code w) 0) v (position v (N.values ++ xs))) (sym run)
        (run_tells ns (owner_code w) 1024 first count (λ q. omega arith) (omega arith) N.values h.value_count few v r.from r.below t)

    -- of another's
    others : (v : ℕ) → v < length s.values → ((value_at s v).owner ≡ w → ⊥) → Tells (get_or after (owner_code (value_at s v).owner) 0) v (position v (N.values ++ values_of s w))
    others v l ne =
        let low : owner_code (value_at s v).owner < 1024 = (owner_apart s sd v l).low in
        tells_same v
        (sym (run_other ns (owner_code w) 1024 first count (owner_code (value_at s v).owner) (λ q. ne (same_code (value_at s v).owner w q)) (λ q. omega arith)))
        (sym (position_past v N.values (values_of s w) (out (position v (values_of s w)) refl)))
        (h.values v l)
      where
        out : (o : Option ℕ) → position v (values_of s w) ≡ o → position v (values_of s w) ≡ None
        out None p = p
        out (Some i) p =
            let q = position_some v (values_of s w) i p in
            absurd (ne (values_in_lem s w (subst (λ (x : ℕ). Memᴰ x (values_of s w)) q.1 (mem_get_d (values_of s w) i 0 q.0))).1)

    values_defined : Stands s (record { values = N.values ++ values_of s w; blocks = N.blocks }) after
    values_defined =
        let low : owner_code w < 1024 = (apart s sd w here).low in
        let many : length (values_of s w) ≡ count = ap length run ∙ consecutive_length first count in
        record {
          values = λ v l. by v l (same_owner (value_at s v).owner w) refl;
          blocks = λ b l. subst (λ (x : ℕ). Tells x b (position b N.blocks)) (sym (run_other ns (owner_code w) 1024 first count (block_place b) (λ q. (apart s sd w here).no_block b (sym q)) (λ q. omega arith))) (h.blocks b l);
          value_count = run_count ns (owner_code w) 1024 first count (omega arith) ∙ omega (arith, h.value_count, many, length-append N.values (values_of s w));
          block_count = run_other ns (owner_code w) 1024 first count 1025 (λ q. omega arith) (λ q. omega arith) ∙ h.block_count;
        }
      where
        by : (v : ℕ) → v < length s.values → (b : Bool) → same_owner (value_at s v).owner w ≡ b → Tells (get_or after (owner_code (value_at s v).owner) 0) v (position v (N.values ++ values_of s w))
        by v l true t =
            let e = same_owner_lem (value_at s v).owner w t in
            subst (λ (o : Owner). Tells (get_or after (owner_code o) 0) v (position v (N.values ++ values_of s w))) (sym e) (own v l e)
        by v l false t = others v l (λ e. clash (subst (λ (o : Owner). same_owner o w ≡ true) (sym e) (same_self w)) t)

-- ---- a block

module _ (s : Store) (sd : sound s ≡ true) (b : ℕ) (few : b < 256) (N : Numbering) (ns : List ℕ) (long : length ns ≡ 1026) (h : Stands s N ns) where
  abbrev marked : List ℕ
  marked = with_run ns (block_place b) 1025 b 1

  itself : Tells (get_or marked (block_place b) 0) b (position b (N.blocks ++ b ∷ []))
  unfolding consecutive tabulate_from
  itself = run_tells ns (block_place b) 1025 b 1 (λ q. omega arith) (omega arith) N.blocks h.block_count (omega arith) b (omega arith) (omega arith) (h.blocks b few)

  another : (m : ℕ) → m < 256 → m ≢ b → Tells (get_or marked (block_place m) 0) m (position m (N.blocks ++ b ∷ []))
  another m l ne =
      tells_same m (sym (run_other ns (block_place b) 1025 b 1 (block_place m) (λ q. ne (omega arith)) (λ q. omega arith))) (sym (position_other m b N.blocks ne)) (h.blocks m l)

  block_defined : Stands s (record { values = N.values; blocks = N.blocks ++ b ∷ [] }) marked
  block_defined =
      record {
        values =
            λ v l.
            let low : owner_code (value_at s v).owner < 1024 = (owner_apart s sd v l).low in
            subst (λ (x : ℕ). Tells x v (position v N.values)) (sym (run_other ns (block_place b) 1025 b 1 (owner_code (value_at s v).owner) ((owner_apart s sd v l).no_block b) (λ q. omega arith))) (h.values v l);
        blocks = λ m l. by m l (ℕ_discrete m b);
        value_count = run_other ns (block_place b) 1025 b 1 1024 (λ q. omega arith) (λ q. omega arith) ∙ h.value_count;
        block_count = run_count ns (block_place b) 1025 b 1 (omega arith) ∙ omega (arith, h.block_count, length-append N.blocks (b ∷ []));
      }
    where
      by : (m : ℕ) → m < 256 → Dec (m ≡ b) → Tells (get_or marked (block_place m) 0) m (position m (N.blocks ++ b ∷ []))
      by m l (yes e) = subst (λ (k : ℕ). Tells (get_or marked (block_place k) 0) k (position k (N.blocks ++ b ∷ []))) (sym e) itself
      by m l (no ne) = another m l ne

-- the count of values stays
pub count_kept : (ns : List ℕ) {ns₁ : List ℕ} (b : ℕ) → b < 256 → ns₁ ≡ with_run ns (block_place b) 1025 b 1 → values_numbered ns₁ ≡ values_numbered ns
count_kept ns b l e = ap values_numbered e ∙ run_other ns (block_place b) 1025 b 1 1024 (λ q. omega arith) (λ q. omega arith)

-- ---- the step of a shell

module _ (s : Store) (sd : sound s ≡ true) (n first count : ℕ) (few : first + count ≤ 2048) (ns : List ℕ) (long : length ns ≡ 1026) where
  pub op_numbered : op_exists s n ≡ true → values_of s (of_op n) ≡ consecutive first count → {ns' : List ℕ} → ns' ≡ with_run ns (2 * n) 1024 first count → Numbers s (shell (of_op n) ∷ []) ns ns'
  unfolding numbered_all numbered values_in blocks_in step_defines block_owner owner_exists owner_code
  op_numbered here run {ns'} e =
      let low : 2 * n < 1024 = (apart s sd (of_op n) here).low in
      let many : length (values_of s (of_op n)) ≡ count = ap length run ∙ consecutive_length first count in
      let all : length (values_of s (of_op n) ++ []) ≡ length (values_of s (of_op n)) = ap length (append-nil (values_of s (of_op n))) in
      subst (λ (x : List ℕ). Numbers s (shell (of_op n) ∷ []) ns x) (sym e)
      (record {
        long = run_length ns (2 * n) 1024 first count;
        stands =
            λ N h.
            subst (λ (bs : List ℕ). Stands s (record { values = N.values ++ values_of s (of_op n); blocks = bs }) (with_run ns (2 * n) 1024 first count)) (sym (append-nil N.blocks))
            (values_defined s sd (of_op n) here first count run few N ns long h);
        values = omega (arith, run_count ns (2 * n) 1024 first count (omega arith), many, all);
        blocks = omega (arith, run_other ns (2 * n) 1024 first count 1025 (λ q. omega arith) (λ q. omega arith));
      })

  pub block_numbered : block_exists s n ≡ true → values_of s (of_block n) ≡ consecutive first count → {ns₁ ns₂ : List ℕ} → ns₁ ≡ with_run ns (block_place n) 1025 n 1
      → ns₂ ≡ with_run ns₁ (2 * n + 1) 1024 first count → Numbers s (shell (of_block n) ∷ []) ns ns₂
  unfolding numbered_all numbered values_in blocks_in step_defines block_owner owner_exists block_exists owner_code
  block_numbered here run {ns₁} {ns₂} e₁ e₂ =
      let l : n < length s.blocks = ltb-true n (length s.blocks) here in
      let most : length s.blocks ≤ 256 = (facts s sd).totals.blocks in
      let low : 2 * n + 1 < 1024 = (apart s sd (of_block n) here).low in
      let long₁ : length ns₁ ≡ 1026 = ap length e₁ ∙ run_length ns (block_place n) 1025 n 1 ∙ long in
      let many : length (values_of s (of_block n)) ≡ count = ap length run ∙ consecutive_length first count in
      let all : length (values_of s (of_block n) ++ []) ≡ length (values_of s (of_block n)) = ap length (append-nil (values_of s (of_block n))) in
      let kept : values_numbered ns₁ ≡ values_numbered ns = count_kept ns n (omega arith) e₁ in
      let one : blocks_numbered ns₁ ≡ blocks_numbered ns + 1 = ap blocks_numbered e₁ ∙ run_count ns (block_place n) 1025 n 1 (omega arith) in
      subst (λ (x : List ℕ). Numbers s (shell (of_block n) ∷ []) ns x) (sym e₂)
      (record {
        long = run_length ns₁ (2 * n + 1) 1024 first count ∙ long₁ ∙ sym long;
        stands =
            λ N h.
            values_defined s sd (of_block n) here first count run few (record { values = N.values; blocks = N.blocks ++ n ∷ [] }) ns₁ long₁
            (subst (Stands s (record { values = N.values; blocks = N.blocks ++ n ∷ [] })) (sym e₁) (block_defined s sd n (omega arith) N ns long h));
        values = omega (arith, run_count ns₁ (2 * n + 1) 1024 first count (omega arith), many, all, kept);
        blocks = run_other ns₁ (2 * n + 1) 1024 first count 1025 (λ q. omega arith) (λ q. omega arith) ∙ one;
      })
