-- An entry made in the lent words is made in the table that it stands in, and leaves the other two as they were. Assumes nothing.
use Rattle.std.proofs.Common.{◌≡◌, ℕ, suc, ◌+◌, ◌-◌, ◌<◌, ◌≤◌, List, take, drop, set, sym, ap, ◌∙◌, ap₂, arith, drop-set-lt}
use lib.Seq.{take-set-le, take-set-lt, drop-set-add}
use Rattle.rules.specs.Mapping.{Mapping, enter_all}
use Rattle.layout.specs.Reading.{tabulate_from, consecutive}
use Rattle.equivalence.specs.MappingWords.{mapping_of, op_mapped, block_mapped, values_mapped}

-- the table of so many entries from n on, where the word that is set stands in it
table_set : (n size : ℕ) (b : List ℕ) (i v : ℕ) → i < size → take size (drop n (set b (n + i) v)) ≡ set (take size (drop n b)) i v
table_set n size b i v l = ap (take size) (drop-set-add n b i v) ∙ take-set-lt size (drop n b) i v l

-- the same, where it stands behind it
table_kept : (n size : ℕ) (b : List ℕ) (i v : ℕ) → n + size ≤ i → take size (drop n (set b i v)) ≡ take size (drop n b)
table_kept n size b i v l =
    let e : i ≡ n + (i - n) = omega arith in
    ap (λ (k : ℕ). take size (drop n (set b k v))) e ∙ ap (take size) (drop-set-add n b (i - n) v) ∙ take-set-le size (drop n b) (i - n) v (omega arith)

pub op_entered : (b : List ℕ) (l r : ℕ) → mapping_of (set b (2304 + l) r) ≡ op_mapped (mapping_of b) l r
unfolding mapping_of op_mapped
op_entered b l r = λ i. record {
  values = take-set-le 2048 b (2304 + l) r (omega arith) i;
  blocks = table_kept 2048 256 b (2304 + l) r (omega arith) i;
  ops = drop-set-add 2304 b l r i;
}

pub block_entered : (b : List ℕ) (l r : ℕ) → l < 256 → mapping_of (set b (2048 + l) r) ≡ block_mapped (mapping_of b) l r
unfolding mapping_of block_mapped
block_entered b l r h = λ i. record {
  values = take-set-le 2048 b (2048 + l) r (omega arith) i;
  blocks = table_set 2048 256 b l r h i;
  ops = drop-set-lt 2304 b (2048 + l) r (omega arith) i;
}

values_entered : (b : List ℕ) (l r n : ℕ) → l < 2048
    → values_mapped (mapping_of b) (consecutive l (suc n)) (consecutive r (suc n)) ≡ values_mapped (mapping_of (set b l r)) (consecutive (suc l) n) (consecutive (suc r) n)
unfolding mapping_of values_mapped consecutive tabulate_from enter_all
values_entered b l r n h = λ i. record {
  values = enter_all (tabulate_from (suc l) n (λ (k : ℕ). k)) (tabulate_from (suc r) n (λ (k : ℕ). k)) (sym (take-set-lt 2048 b l r h) i);
  blocks = ap (take 256) (sym (drop-set-lt 2048 b l r h)) i;
  ops = sym (drop-set-lt 2304 b l r (omega arith)) i;
}

-- what is left to enter behind the first i values: one, and then those past it
pub value_next : (b : List ℕ) (l r i n : ℕ) → i < n → l + n ≤ 2048
    → values_mapped (mapping_of b) (consecutive (l + i) (n - i)) (consecutive (r + i) (n - i))
    ≡ values_mapped (mapping_of (set b (l + i) (r + i))) (consecutive (l + (i + 1)) (n - (i + 1))) (consecutive (r + (i + 1)) (n - (i + 1)))
value_next b l r i n h f =
    let k : ℕ = n - (i + 1) in
    let e : n - i ≡ suc k = omega arith in
    let left : suc (l + i) ≡ l + (i + 1) = omega arith in
    let right : suc (r + i) ≡ r + (i + 1) = omega arith in
    ap (λ (j : ℕ). values_mapped (mapping_of b) (consecutive (l + i) j) (consecutive (r + i) j)) e
    ∙ values_entered b (l + i) (r + i) k (omega arith)
    ∙ ap₂ (λ (u v : ℕ). values_mapped (mapping_of (set b (l + i) (r + i))) (consecutive u k) (consecutive v k)) left right

pub values_over : (m : Mapping) (l r n : ℕ) → n ≡ 0 → values_mapped m (consecutive l n) (consecutive r n) ≡ m
unfolding values_mapped consecutive tabulate_from enter_all
values_over m l r n h = ap (λ (j : ℕ). values_mapped m (consecutive l j) (consecutive r j)) h
