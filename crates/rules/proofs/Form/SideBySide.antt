-- What an equal comparison, begun with an empty mapping, leaves: in each of the mapping's tables what the one fragment defines and what the
-- other defines, entered side by side. So it is after each pair of shells. Assumes nothing.
use Prim.Native.Nat.{ℕ, ◌+◌}
use mathlib.Core.Bool.{true}
use mathlib.Core.List.{List}
use mathlib.Core.Path.{◌≡◌, refl, sym, ap, ap₂, ◌∙◌}
use lib.ListN.{length-append}
use Rattle.std.specs.List.{flat_map}
use Rattle.rules.specs.Store.{Store, values_of}
use Rattle.rules.specs.declared.types.Owner.{Owner}
use Rattle.rules.specs.Fragments.{op_owner, block_owner, defines_owners, defines_values, defines_blocks, fragment_ops}
use Rattle.rules.specs.declared.types.Sort.{Sort}
use Rattle.rules.specs.Shells.{same_shells}
use Rattle.rules.specs.declared.types.Ignore.{Ignore}
use Rattle.rules.specs.Mapping.{enter_all}
use Rattle.rules.specs.Comparison.{State, start}
use Rattle.rules.specs.MappingLaws.{filed, Table, values, blocks, ops, table_of, defines_of, SideBySide}
use Rattle.rules.proofs.Basics.Entries.{enter_append}
use Rattle.rules.proofs.Form.Images.{Entered}
use Rattle.rules.proofs.Form.Events.{enter_owners}
use Rattle.rules.proofs.Form.Passed.{Passed, over, pair, equal_passed}
use Rattle.rules.proofs.Form.SameShells.{shells→≡, values_count, blocks_count, ops_count}

-- what an operation or a block defines of each table
unfoldable owner_defines : Store → Table → Owner → List ℕ
owner_defines s values w = values_of s w
owner_defines s blocks w = block_owner w
owner_defines s ops w = op_owner w

by_owners : (s : Store) (f : Sort) (n : ℕ) (t : Table) → flat_map (owner_defines s t) (defines_owners s f n) ≡ defines_of s f n t
unfolding owner_defines defines_of defines_values defines_blocks fragment_ops
by_owners s f n values = refl
by_owners s f n blocks = refl
by_owners s f n ops = refl

module _ (s : Store) (ig : Ignore) where
  entered : (t : Table) (l r : Owner) (st : State) → same_shells s ig l r ≡ true
      → Entered (table_of st.mapping t) (table_of (enter_owners s l r st).mapping t) (owner_defines s t l) (owner_defines s t r)
  unfolding owner_defines table_of enter_owners
  entered values l r st h = record { made = refl; lengths = values_count s ig l r (shells→≡ s ig l r h).1 }
  entered blocks l r st h = record { made = refl; lengths = blocks_count s l r (shells→≡ s ig l r h).0 }
  entered ops l r st h = record { made = refl; lengths = ops_count s l r (shells→≡ s ig l r h).0 }

  module _ (t : Table) where
    defined : List Owner → List ℕ
    defined = flat_map (owner_defines s t)

    along : {ls rs : List Owner} {st st' : State} → Passed s ig ls rs st st'
        → Entered (table_of st.mapping t) (table_of st'.mapping t) (defined ls) (defined rs)
    unfolding enter_all defined
    along over = record { made = refl; lengths = refl }
    along (pair {l} {r} {ls} {rs} {st} e p) =
        let first = entered t l r st e in
        let rest = along p in
        record {
          made =
              rest.made
              ∙ ap (enter_all (defined ls) (defined rs)) first.made
              ∙ sym (enter_append (owner_defines s t l) (owner_defines s t r) (defined ls) (defined rs) (table_of st.mapping t) first.lengths);
          lengths = simp length-append (ap₂ ◌+◌ first.lengths rest.lengths);
        }

pub side_by_side : SideBySide
unfolding SideBySide filed start defined
side_by_side s sd ig f a b ia ib h t =
    let whole = along s ig t (equal_passed s ig f a b h) in
    rw (← by_owners s f a t, ← by_owners s f b t) (whole.made, whole.lengths)
