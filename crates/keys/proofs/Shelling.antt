-- Location, attributes, types, kind and number of regions are what an operation or a block is, in the order in which they are put. Assumes nothing.
use Prim.Native.Nat.{ℕ, ◌<◌}
use mathlib.Core.Bool.{Bool, true, false, cond}
use mathlib.Core.List.{List, [], ◌++◌, append_assoc}
use Rattle.std.specs.Prelude.{Option, None, Some}
use mathlib.Core.Path.{◌≡◌, sym, ap, ◌∙◌}
use lib.ListN.{length}
use Rattle.std.specs.List.{flat_map}
use Rattle.rules.specs.Store.{Op, op_at, regions_of}
use Rattle.rules.specs.declared.types.Owner.{Owner}
use Rattle.rules.specs.declared.types.Owner.TheVariants.{Op as of_op}
use Rattle.rules.specs.declared.types.Attribute.{Attribute}
use Rattle.rules.specs.Shells.{Shell, unignored_location}
use Rattle.rules.specs.declared.types.Ignore.{Ignore}
use Rattle.rules.specs.Types.{renamed}
use Rattle.rules.specs.Hash.{leaf, count, flag, location_bytes, attribute_bytes, head_bytes, list_bytes, shell_bytes}
use Rattle.layout.specs.Columns.{Cols, at, op_kind}
use Rattle.layout.specs.Reading.{op_count, op_of, attribute_at, store_of}
use Rattle.layout.proofs.Tabulate.{op_read}
use Rattle.fragments.specs.Options.{Options, renamed_under}
use Rattle.fragments.specs.Rows.{RowOf, row_shell}
use Rattle.fragments.specs.declared.types.ShellRow.{ShellRow}
use Rattle.keys.specs.Put.{row_kept, place_bytes, owner_bytes}

-- ---- a location

by : Bool → ℕ → Option ℕ
by t l = cond t None (Some l)

module _ (ig : Ignore) (l : ℕ) where
  pub location_ignored : ig.locations ≡ true → location_bytes (unignored_location ig l) ≡ []
  unfolding location_bytes unignored_location by
  location_ignored e = ap (λ (t : Bool). location_bytes (by t l)) e

  pub location_kept : ig.locations ≡ false → location_bytes (unignored_location ig l) ≡ leaf l
  unfolding location_bytes unignored_location by
  location_kept e = ap (λ (t : Bool). location_bytes (by t l)) e

-- ---- an attribute, and a shell

abbrev pub slot_bytes : Cols → ℕ → List ℕ
slot_bytes C i = attribute_bytes (attribute_at C i)

pub attribute_bytes_lem : (a : Attribute) {key kind content : ℕ} {yes : Bool} → key ≡ a.key → kind ≡ a.kind → content ≡ a.content → yes ≡ a.inherent
    → leaf key ++ leaf kind ++ leaf content ++ flag yes ≡ attribute_bytes a
unfolding attribute_bytes
attribute_bytes_lem a k m c y = λ i. leaf (k i) ++ leaf (m i) ++ leaf (c i) ++ flag (y i)

pub shell_bytes_lem : (C : Cols) (o : Options) (r : ShellRow) → place_bytes C o.ignore r ++ list_bytes count leaf (row_shell C o r).types ≡ shell_bytes count (row_shell C o r)
unfolding place_bytes row_shell shell_bytes
shell_bytes_lem C o r =
    let kept : List Attribute = row_kept C o.ignore r in
    ap (λ (bs : List ℕ). bs ++ list_bytes count leaf (row_shell C o r).types)
    (sym (append_assoc (location_bytes (unignored_location o.ignore r.location)) (count (length kept)) (flat_map attribute_bytes kept)))

-- ---- what an owner is

pub head_bytes_lem : (C : Cols) (o : Options) (n : ℕ) → n < op_count C → {kind regions : ℕ} → kind ≡ at C op_kind n → regions ≡ length (regions_of (store_of C) n) → leaf kind ++ count regions ≡ head_bytes (renamed_under o (store_of C)) (of_op n)
unfolding renamed head_bytes op_at op_of regions_of
head_bytes_lem C o n l k e =
    let kind = k ∙ sym (ap (λ (x : Op). x.kind) (op_read C n l)) in
    (λ i. leaf (kind i) ++ count (e i))

pub owner_bytes_lem : {C : Cols} {w : Owner} {r : ShellRow} → RowOf C w r → (o : Options) → head_bytes (renamed_under o (store_of C)) w ++ shell_bytes count (row_shell C o r) ≡ owner_bytes (store_of C) o w
unfolding owner_bytes
owner_bytes_lem {C} {w} h o = ap (λ (x : Shell). head_bytes (renamed_under o (store_of C)) w ++ shell_bytes count x) (sym (h.shell o))
