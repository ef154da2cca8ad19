-- The links of operations in blocks after a new operation, and of blocks in regions after a new block: the old children and the new one are linked, by what was written. Assumes nothing.
use Prim.Native.Nat.{ℕ, suc, ◌+◌, ◌<◌}
use native.Mathlib.Numerals.{add-one}
use mathlib.Core.Bool.{true}
use mathlib.Core.Logic.{◌⊎◌, inl, inr}
use Rattle.std.specs.Prelude.{Option, None, Some}
use mathlib.Core.Path.{◌≡◌, refl, sym, ap, subst, ◌∙◌}
use Rattle.layout.specs.Columns.{Cols, at, op_parent, op_next, region_block_end, block_region, block_op_end, block_next}
use Rattle.layout.specs.Reading.{op_count, block_count, parent_from}
use Rattle.layout.specs.Soundness.{next_child, link_holds, parent_linked, op_linked, block_linked}
use Rattle.layout.proofs.Laid.{Laid}
use Rattle.layout.proofs.ChildList.{op_inside, block_inside}
use Rattle.layout.proofs.Linking.{LinkHolds, link_of, op_link_lem, block_link_lem}
use Rattle.mutation.proofs.LinksKept.{op_old}
use Rattle.mutation.specs.AddedWrites.{parent_code}
use Rattle.mutation.proofs.Rows.{old_or_last}
use Rattle.mutation.proofs.OperationAdded.{parent_read_lem}
use Rattle.mutation.proofs.NextChild.{ChildPut, old_linked, new_linked}

-- where the range of a parent ends, if there is one
unfoldable pub end_under : Cols → Option ℕ → ℕ
end_under C None = 0
end_under C (Some b) = at C block_op_end b

-- ---- a new operation

-- what was written of its place
pub record OpPut (C D : Cols) (parent : Option ℕ) : Type 0 where
  pub child : ChildPut C D op_parent op_next (op_count C) (parent_code parent) (end_under C parent)
  pub count : op_count D ≡ op_count C + 1
  pub link : (b : ℕ) → parent ≡ Some b → at D op_next (op_count C) ≡ 0
  pub end : (b : ℕ) → parent ≡ Some b → at D block_op_end b ≡ op_count C + 1
  pub ends : (b : ℕ) → b < block_count C → (parent ≡ Some b → ⊥) → at D block_op_end b ≡ at C block_op_end b

code_parent : (parent : Option ℕ) (b : ℕ) → suc b ≡ parent_code parent → parent ≡ Some b
unfolding parent_from
code_parent parent b e = sym (parent_read_lem parent) ∙ ap parent_from (sym e)

module _ (C D : Cols) (parent : Option ℕ) (h : Laid C) (p : OpPut C D parent) where
  old_op : (n b : ℕ) → n < op_count C → b < block_count C → at C op_parent n ≡ suc b → LinkHolds (next_child D op_parent (op_count C + 1) n) (at D op_next n) (at D block_op_end b) n
  unfolding end_under parent_code
  old_op n b l lb e =
      old_linked C D op_parent op_next (op_count C) (parent_code parent) (end_under C parent) p.child n (at C block_op_end b) (at D block_op_end b) l
      (λ a i li q. subst (λ (x : ℕ). i < x) (range a) (op_inside C h b i li (q ∙ sym a ∙ e)).below)
      (op_link_lem C h b n l (e ∙ sym (add-one b)))
      range
      (λ ne. p.ends b lb (λ q. ne (e ∙ code b q)))
    where
      range : at C op_parent n ≡ parent_code parent → at C block_op_end b ≡ end_under C parent
      range a = sym (ap (end_under C) (code_parent parent b (sym e ∙ a)))

      code : (k : ℕ) → parent ≡ Some k → suc k ≡ parent_code parent
      code k q = sym (ap parent_code q ∙ add-one k)

  new_op : (q : Option ℕ) → parent ≡ q → parent_linked D (op_count C) q (next_child D op_parent (op_count C + 1) (op_count C)) ≡ true
  unfolding parent_linked
  new_op None e = refl
  new_op (Some b) e =
      link_of _ _ _ (op_count C)
      (new_linked C D op_parent op_next (op_count C) (parent_code parent) (end_under C parent) p.child (at D block_op_end b) (p.link b e) (p.end b e))

  pub ops_linked : (n : ℕ) → n < op_count D → op_linked D n ≡ true
  unfolding op_linked
  ops_linked n l = go (old_or_last n (op_count C) (subst (λ (x : ℕ). n < x) p.count l))
    where
      go : (n < op_count C) ⊎ (n ≡ op_count C) → op_linked D n ≡ true
      go (inl k) =
          op_old C D h n k (p.child.kept n k)
          (λ b lb e. ap (λ (x : ℕ). link_holds (next_child D op_parent x n) (at D op_next n) (at D block_op_end b) n) p.count ∙ link_of _ _ _ n (old_op n b k lb e))
      go (inr e) =
          subst (λ (x : ℕ). op_linked D x ≡ true) (sym e)
          (ap (λ (w : ℕ). parent_linked D (op_count C) (parent_from w) (next_child D op_parent (op_count D) (op_count C))) p.child.owner
          ∙ ap (λ (q : Option ℕ). parent_linked D (op_count C) q (next_child D op_parent (op_count D) (op_count C))) (parent_read_lem parent)
          ∙ ap (λ (x : ℕ). parent_linked D (op_count C) parent (next_child D op_parent x (op_count C))) p.count
          ∙ new_op parent refl)

-- ---- a new block

pub record BlockPut (C D : Cols) (region : ℕ) : Type 0 where
  pub child : ChildPut C D block_region block_next (block_count C) region (at C region_block_end region)
  pub count : block_count D ≡ block_count C + 1
  pub link : at D block_next (block_count C) ≡ 0
  pub end : at D region_block_end region ≡ block_count C + 1
  pub ends : (r : ℕ) → (r ≡ region → ⊥) → at D region_block_end r ≡ at C region_block_end r

module _ (C D : Cols) (region : ℕ) (h : Laid C) (p : BlockPut C D region) where
  old_block : (m : ℕ) → m < block_count C
      → LinkHolds (next_child D block_region (block_count C + 1) m) (at D block_next m) (at D region_block_end (at C block_region m)) m
  old_block m l =
      let r = at C block_region m in
      old_linked C D block_region block_next (block_count C) region (at C region_block_end region) p.child m (at C region_block_end r) (at D region_block_end r) l
      (λ a i li q. (block_inside C h region i li q).below)
      (block_link_lem C h r m l refl)
      (λ a. ap (at C region_block_end) a)
      (λ ne. p.ends r ne)

  pub blocks_linked : (m : ℕ) → m < block_count D → block_linked D m ≡ true
  unfolding block_linked
  blocks_linked m l = go (old_or_last m (block_count C) (subst (λ (x : ℕ). m < x) p.count l))
    where
      holds : (k r : ℕ) → at D block_region k ≡ r → LinkHolds (next_child D block_region (block_count C + 1) k) (at D block_next k) (at D region_block_end r) k
          → link_holds (next_child D block_region (block_count D) k) (at D block_next k) (at D region_block_end (at D block_region k)) k ≡ true
      holds k r e f = (λ i. link_holds (next_child D block_region (p.count i) k) (at D block_next k) (at D region_block_end (e i)) k) ∙ link_of _ _ _ k f

      go : (m < block_count C) ⊎ (m ≡ block_count C) → link_holds (next_child D block_region (block_count D) m) (at D block_next m) (at D region_block_end (at D block_region m)) m ≡ true
      go (inl k) = holds m (at C block_region m) (p.child.kept m k) (old_block m k)
      go (inr e) =
          subst (λ (x : ℕ). link_holds (next_child D block_region (block_count D) x) (at D block_next x) (at D region_block_end (at D block_region x)) x ≡ true) (sym e)
          (holds (block_count C) region p.child.owner
          (new_linked C D block_region block_next (block_count C) region (at C region_block_end region) p.child (at D region_block_end region) p.link p.end))
