-- An index is made row by row: a row that is entered comes before the others of its bucket, and leaves the rest. Assumes nothing.
use Prim.Native.Nat.{ℕ, ◌+◌, ◌-◌, ◌*◌, ◌<◌, ◌≤◌}
use native.Mathlib.Decide.{ℕ_discrete}
use native.Mathlib.Omega.{arith}
use mathlib.Core.List.{List, ◌++◌}
use mathlib.Core.Logic.{◌≢◌}
use mathlib.Core.Path.{◌≡◌, sym, ap, subst, ◌∙◌}
use lib.ListN.{length, get_or, set, replicate, length-set, length-append, length-replicate, get_or-replicate, get_or-append}
use lib.Seq.{get_or-set_same, get_or-set_other}
use Rattle.fragments.specs.Index.{bucket_of, old_at, now_at, link_at, head_at, Link, Entered, Adds, Rows}
use Rattle.fragments.proofs.Chains.{bucket_low}

-- ---- empty buckets

module _ (buckets rows : List ℕ) (empty : buckets ≡ replicate 64 0) where
  head_none : (b : ℕ) → b < 64 → head_at (buckets ++ rows) b ≡ 0
  head_none b l = ap (λ (x : List ℕ). get_or (x ++ rows) b 0) empty ∙ get_or-append (replicate 64 0) rows 0 b l ∙ get_or-replicate 64 b 0 0 l

  pub none_entered : Entered (buckets ++ rows) 0
  none_entered =
      record {
        room = omega (arith, length-append buckets rows, ap length empty, length-replicate {A = ℕ} 64 0);
        heads =
            λ b l.
            record {
              low = omega (arith, head_none b l);
              none = λ j from below. absurd (let x : ⊥ = omega arith in x);
              last = λ p. absurd (let x : ⊥ = omega (arith, head_none b l) in x);
            };
        links = λ i below. absurd (let x : ⊥ = omega arith in x);
        apart = λ i j l below. absurd (let x : ⊥ = omega arith in x);
      }

-- ---- one row more, in words

module _ (w : List ℕ) (k t p b : ℕ) (long : length w ≡ 256) (few : k < 64) (e : b ≡ bucket_of t) where
  abbrev first : List ℕ
  first = set w (64 + 3 * k) t

  abbrev second : List ℕ
  second = set first (64 + 3 * k + 1) p

  abbrev third : List ℕ
  third = set second (64 + 3 * k + 2) (get_or second b 0)

  abbrev fourth : List ℕ
  fourth = set third b (k + 1)

  low : b < 64
  low = subst (λ (x : ℕ). x < 64) (sym e) (bucket_low t)

  -- the word at another place
  other : (x : ℕ) → x ≢ 64 + 3 * k → x ≢ 64 + 3 * k + 1 → x ≢ 64 + 3 * k + 2 → x ≢ b → get_or fourth x 0 ≡ get_or w x 0
  other x n₁ n₂ n₃ n₄ =
      get_or-set_other third b x (k + 1) 0 n₄ ∙ get_or-set_other second (64 + 3 * k + 2) x _ 0 n₃ ∙ get_or-set_other first (64 + 3 * k + 1) x p 0 n₂
      ∙ get_or-set_other w (64 + 3 * k) x t 0 n₁

  length_first : length first ≡ 256
  length_first = length-set w (64 + 3 * k) t ∙ long

  length_second : length second ≡ 256
  length_second = length-set first (64 + 3 * k + 1) p ∙ length_first

  length_third : length third ≡ 256
  length_third = length-set second (64 + 3 * k + 2) (get_or second b 0) ∙ length_second

  at_old : get_or fourth (64 + 3 * k) 0 ≡ t
  at_old =
      let l = low in
      get_or-set_other third b (64 + 3 * k) (k + 1) 0 (λ q. omega arith)
      ∙ get_or-set_other second (64 + 3 * k + 2) (64 + 3 * k) _ 0 (λ q. omega arith)
      ∙ get_or-set_other first (64 + 3 * k + 1) (64 + 3 * k) p 0 (λ q. omega arith)
      ∙ get_or-set_same w (64 + 3 * k) t 0 (omega arith)

  at_now : get_or fourth (64 + 3 * k + 1) 0 ≡ p
  at_now =
      let l = low in
      get_or-set_other third b (64 + 3 * k + 1) (k + 1) 0 (λ q. omega arith)
      ∙ get_or-set_other second (64 + 3 * k + 2) (64 + 3 * k + 1) _ 0 (λ q. omega arith)
      ∙ get_or-set_same first (64 + 3 * k + 1) p 0 (omega (arith, length_first))

  at_link : get_or fourth (64 + 3 * k + 2) 0 ≡ head_at w b
  at_link =
      let l = low in
      get_or-set_other third b (64 + 3 * k + 2) (k + 1) 0 (λ q. omega arith)
      ∙ get_or-set_same second (64 + 3 * k + 2) (get_or second b 0) 0 (omega (arith, length_second))
      ∙ get_or-set_other first (64 + 3 * k + 1) b p 0 (λ q. omega arith)
      ∙ get_or-set_other w (64 + 3 * k) b t 0 (λ q. omega arith)

  at_head : get_or fourth b 0 ≡ k + 1
  at_head = let l = low in get_or-set_same third b (k + 1) 0 (omega (arith, length_third))

  pub added : Adds w k t p fourth
  added =
      let l = low in
      record {
        old = at_old;
        now = ap (λ (x : ℕ). get_or fourth x 0) (let q : 65 + 3 * k ≡ 64 + 3 * k + 1 = omega arith in q) ∙ at_now;
        link = ap (λ (x : ℕ). get_or fourth x 0) (let q : 66 + 3 * k ≡ 64 + 3 * k + 2 = omega arith in q) ∙ at_link ∙ ap (head_at w) e;
        head = ap (λ (x : ℕ). get_or fourth x 0) (sym e) ∙ at_head;
        heads = λ x few' ne. other x (λ q. omega arith) (λ q. omega arith) (λ q. omega arith) (λ q. ne (q ∙ e));
        rows = λ x from below. other x (λ q. omega arith) (λ q. omega arith) (λ q. omega arith) (λ q. omega arith);
      }

-- ---- one row more, in chains

-- rows below stay as they are
pub link_kept : {w w' : List ℕ} {b upto k : ℕ} → ((j : ℕ) → j < upto → old_at w' j ≡ old_at w j) → Link w b upto k → Link w' b upto k
link_kept {w} {w'} {b} {upto} {k} same l =
    record {
      low = l.low;
      none = λ j from below q. l.none j from below (sym (ap bucket_of (same j below)) ∙ q);
      last = λ pos. ap bucket_of (same (k - 1) (omega (arith, l.low))) ∙ l.last pos;
    }

-- a row of another bucket
link_past : {w : List ℕ} {b upto k : ℕ} → bucket_of (old_at w upto) ≢ b → Link w b upto k → Link w b (upto + 1) k
link_past {w} {b} {upto} {k} ne l =
    record { low = omega (arith, l.low); none = λ j from below. by j from below (ℕ_discrete j upto); last = l.last }
  where
    by : (j : ℕ) → k ≤ j → j < upto + 1 → Dec (j ≡ upto) → bucket_of (old_at w j) ≢ b
    by j from below (yes e) q = ne (subst (λ (x : ℕ). bucket_of (old_at w x) ≡ b) e q)
    by j from below (no n) q = l.none j from (omega arith) q

-- a row of this one
link_here : {w : List ℕ} {b : ℕ} (upto : ℕ) → bucket_of (old_at w upto) ≡ b → Link w b (upto + 1) (upto + 1)
link_here {w} {b} upto e =
    record {
      low = omega arith;
      none = λ j from below. absurd (let x : ⊥ = omega arith in x);
      last = λ pos. subst (λ (x : ℕ). bucket_of (old_at w x) ≡ b) (let q : upto ≡ upto + 1 - 1 = omega arith in q) e;
    }

module _ {w w' : List ℕ} {k t p : ℕ} (e : Entered w k) (a : Adds w k t p w') where
  kept_old : (j : ℕ) → j < k → old_at w' j ≡ old_at w j
  kept_old j l = a.rows (64 + 3 * j) (omega arith) (omega arith)

  kept_now : (j : ℕ) → j < k → now_at w' j ≡ now_at w j
  kept_now j l = a.rows (65 + 3 * j) (omega arith) (omega arith)

  kept_link : (j : ℕ) → j < k → link_at w' j ≡ link_at w j
  kept_link j l = a.rows (66 + 3 * j) (omega arith) (omega arith)

  heads_next : (b : ℕ) → b < 64 → Link w' b (k + 1) (head_at w' b)
  heads_next b l = by (ℕ_discrete b (bucket_of t))
    where
      by : Dec (b ≡ bucket_of t) → Link w' b (k + 1) (head_at w' b)
      by (yes q) = subst (λ (x : ℕ). Link w' b (k + 1) x) (sym (ap (head_at w') q ∙ a.head)) (link_here k (ap bucket_of a.old ∙ sym q))
      by (no ne) =
          subst (λ (x : ℕ). Link w' b (k + 1) x) (sym (a.heads b l ne))
          (link_past (λ q. ne (sym q ∙ ap bucket_of a.old)) (link_kept kept_old (e.heads b l)))

  links_next : (i : ℕ) → i < k + 1 → Link w' (bucket_of (old_at w' i)) i (link_at w' i)
  links_next i l = by (ℕ_discrete i k)
    where
      by : Dec (i ≡ k) → Link w' (bucket_of (old_at w' i)) i (link_at w' i)
      by (yes q) =
          subst (λ (x : ℕ). Link w' (bucket_of (old_at w' x)) x (link_at w' x)) (sym q)
          (subst (λ (x : ℕ). Link w' (bucket_of x) k (link_at w' k)) (sym a.old)
          (subst (λ (x : ℕ). Link w' (bucket_of t) k x) (sym a.link) (link_kept kept_old (e.heads (bucket_of t) (bucket_low t)))))
      by (no ne) =
          let below : i < k = omega arith in
          subst (λ (x : ℕ). Link w' (bucket_of x) i (link_at w' i)) (sym (kept_old i below))
          (subst (λ (x : ℕ). Link w' (bucket_of (old_at w i)) i x) (sym (kept_link i below)) (link_kept (λ j m. kept_old j (omega arith)) (e.links i below)))

  apart_next : ((j : ℕ) → j < k → old_at w j ≢ t) → (i j : ℕ) → i < j → j < k + 1 → old_at w' i ≢ old_at w' j
  apart_next new i j l m = by (ℕ_discrete j k)
    where
      by : Dec (j ≡ k) → old_at w' i ≢ old_at w' j
      by (yes q) r = new i (omega arith) (sym (kept_old i (omega arith)) ∙ r ∙ ap (old_at w') q ∙ a.old)
      by (no ne) r = e.apart i j l (omega arith) (sym (kept_old i (omega arith)) ∙ r ∙ kept_old j (omega arith))

  pub entered_next : 64 + 3 * (k + 1) ≤ length w' → ((j : ℕ) → j < k → old_at w j ≢ t) → Entered w' (k + 1)
  entered_next room new = record { room = room; heads = heads_next; links = links_next; apart = apart_next new }

pub rows_next : {types w w' : List ℕ} {k t p : ℕ} → Rows types w k → Adds w k t p w' → t ≡ get_or types (2 * k) 0 → p ≡ get_or types (2 * k + 1) 0
    → 64 + 3 * (k + 1) ≤ length w' → ((j : ℕ) → j < k → old_at w j ≢ t) → Rows types w' (k + 1)
rows_next {types} {w} {w'} {k} {t} {p} g a old now room new =
    record {
      entered = entered_next g.entered a room new;
      olds = λ i l. by_old i l (ℕ_discrete i k);
      nows = λ i l. by_now i l (ℕ_discrete i k);
    }
  where
    by_old : (i : ℕ) → i < k + 1 → Dec (i ≡ k) → old_at w' i ≡ get_or types (2 * i) 0
    by_old i l (yes q) = subst (λ (x : ℕ). old_at w' x ≡ get_or types (2 * x) 0) (sym q) (a.old ∙ old)
    by_old i l (no ne) = kept_old g.entered a i (omega arith) ∙ g.olds i (omega arith)

    by_now : (i : ℕ) → i < k + 1 → Dec (i ≡ k) → now_at w' i ≡ get_or types (2 * i + 1) 0
    by_now i l (yes q) = subst (λ (x : ℕ). now_at w' x ≡ get_or types (2 * x + 1) 0) (sym q) (a.now ∙ now)
    by_now i l (no ne) = kept_now g.entered a i (omega arith) ∙ g.nows i (omega arith)
