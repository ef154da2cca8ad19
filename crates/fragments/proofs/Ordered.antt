-- A list of blocks gone through by next numbers is gone through block by block: what is left from a child on is that child and what is left
-- past it. Assumes nothing.
use Prim.Native.Nat.{ℕ, ◌<◌}
use mathlib.Core.List.Memᴰ
use mathlib.Core.List.{Memᴰ}
use mathlib.Core.Path.{◌≡◌, sym, subst}
use Rattle.rules.specs.Store.{Store, ops_of}
use Rattle.rules.proofs.Soundness.Children.{ops_in_lem, blocks_in_lem}
use Rattle.layout.specs.Columns.{Cols}
use Rattle.layout.specs.Reading.{op_count, block_count, store_of}
use Rattle.layout.specs.Children.{first_from}
use Rattle.std.specs.Prelude as std
use Rattle.layout.proofs.Tabulate.{ops_length, blocks_length}
use Rattle.layout.proofs.Seeking.{Rising, NextChild, from_found, found_at, found_in, blocks_rise}
use Rattle.fragments.specs.Order.{block_list, BlocksExist}
use Rattle.fragments.specs.declared.types.Blocks.{Blocks}
use Rattle.fragments.specs.declared.types.Blocks.TheVariants.{InRegion, Single}

-- ---- the blocks of a list

pub block_list_rises : (s : Store) (x : Blocks) → Rising (block_list s x)
unfolding block_list
block_list_rises s (InRegion r) = blocks_rise s r
block_list_rises s (Single b) = (λ y m. absurd (Memᴰ.not-nil m), tt)

pub next_in_list : (s : Store) (x : Blocks) (from b : ℕ) (r : std.Option ℕ) → r ≡ (first_from from (block_list s x)) → r ≡ std.Some b → NextChild (block_list s x) from b
next_in_list s x from b r e h =
    let f = found_at r (first_from from (block_list s x)) b e h in
    let w = found_in from b (block_list s x) f in
    record { child = w.0; later = w.1; rest = from_found from b (block_list s x) (block_list_rises s x) f }

-- they exist, and so do the operations in them
pub block_in_lem : (C : Cols) (x : Blocks) (b : ℕ) → BlocksExist C x → Memᴰ b (block_list (store_of C) x) → b < block_count C
unfolding block_list BlocksExist
block_in_lem C (InRegion r) b h m = subst (λ (n : ℕ). b < n) (blocks_length C) (blocks_in_lem (store_of C) r m).0
block_in_lem C (Single a) b h m = subst (λ (n : ℕ). n < block_count C) (sym (Memᴰ.eq_of_singleton m)) h

pub op_in_lem : (C : Cols) (b n : ℕ) → Memᴰ n (ops_of (store_of C) b) → n < op_count C
op_in_lem C b n m = subst (λ (k : ℕ). n < k) (ops_length C) (ops_in_lem (store_of C) b m).0
