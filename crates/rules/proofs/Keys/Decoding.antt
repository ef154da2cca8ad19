-- What a key is written in can be read back: a number by its bytes, and then an attribute, a name, a list whose length stands ahead of it
-- and a shell, each with what follows it. Assumes nothing.
use Prim.Native.Nat.{ℕ, zero, suc, ◌*◌, ◌/◌, ◌%◌, ◌^◌, ◌<◌, ◌≤◌}
use native.Mathlib.Omega.{arith}
use mathlib.Core.Bool.{Bool, true, false}
use mathlib.Core.List.{List, [], ◌∷◌, ◌++◌, append_assoc, head-eq_of_cons-eq, tail-eq_of_cons-eq}
use Rattle.std.specs.Prelude.{Option, None, Some}
use mathlib.Core.Path.{◌≡◌, refl, sym, ap, ap₂, ◌∙◌}
use borrow.Author.Tests.{ltb-true, leb-true}
use lib.Dec.{leb}
use lib.ListN.{length}
use Rattle.std.specs.List.{list_all, flat_map}
use Rattle.rules.specs.declared.types.Attribute.{Attribute}
use Rattle.rules.specs.Shells.{Shell}
use Rattle.rules.specs.Hash.{bytes, leaf, count, tag, list_bytes, location_bytes, flag, attribute_bytes, shell_bytes, name_bytes}
use Rattle.rules.specs.declared.types.Name.{Name}
use Rattle.rules.specs.declared.types.Name.TheVariants.{WalkNumber as walk_number, StoreNumber as store_number}
use Rattle.rules.specs.Keys.{fits, attribute_fits}
use Rattle.rules.proofs.Basics.Tests.{and_left, and_right, passed, impossible}

-- ---- numbers

-- how many numbers so many bytes tell apart
unfoldable pub span : ℕ → ℕ
span zero = 1
span (suc k) = 256 * span k

pub bytes_read : (k a b : ℕ) {X Y : List ℕ} → a < span k → b < span k → bytes k a ++ X ≡ bytes k b ++ Y → (a ≡ b) × (X ≡ Y)
unfolding span bytes
bytes_read zero a b l m e = (omega arith, e)
bytes_read (suc k) a b l m e =
    let low : a % 256 ≡ b % 256 = head-eq_of_cons-eq e in
    let rest = bytes_read k (a / 256) (b / 256) (omega arith) (omega arith) (tail-eq_of_cons-eq e) in
    let high : a / 256 ≡ b / 256 = rest.0 in
    (omega arith, rest.1)

pub leaf_read : (a b : ℕ) {X Y : List ℕ} → fits a ≡ true → fits b ≡ true → leaf a ++ X ≡ leaf b ++ Y → (a ≡ b) × (X ≡ Y)
unfolding leaf span
leaf_read a b f g e = bytes_read 4 a b (ltb-true a (2 ^ 32) f) (ltb-true b (2 ^ 32) g) e

-- counts and walk numbers are small
pub count_read : (a b : ℕ) {X Y : List ℕ} → a ≤ 4096 → b ≤ 4096 → count a ++ X ≡ count b ++ Y → (a ≡ b) × (X ≡ Y)
unfolding count span
count_read a b l m e = bytes_read 8 a b (omega arith) (omega arith) e

-- ---- lists

module _ {A : Type 0} (f : A → List ℕ) (ok : A → Bool) (read : (a b : A) (X Y : List ℕ) → ok a ≡ true → ok b ≡ true → f a ++ X ≡ f b ++ Y → (a ≡ b) × (X ≡ Y)) where
  pub each_read : (xs ys : List A) {X Y : List ℕ} → length xs ≡ length ys → list_all ok xs ≡ true → list_all ok ys ≡ true
      → flat_map f xs ++ X ≡ flat_map f ys ++ Y → (xs ≡ ys) × (X ≡ Y)
  each_read [] [] n h k e = (refl, e)
  each_read [] (y ∷ ys) n h k e = absurd (omega arith)
  each_read (x ∷ xs) [] n h k e = absurd (omega arith)
  each_read (x ∷ xs) (y ∷ ys) {X} {Y} n h k e =
      let first = read x y (flat_map f xs ++ X) (flat_map f ys ++ Y) (and_left (ok x) (list_all ok xs) h) (and_left (ok y) (list_all ok ys) k)
      (sym (append_assoc (f x) (flat_map f xs) X) ∙ e ∙ append_assoc (f y) (flat_map f ys) Y) in
      let others = each_read xs ys (omega arith) (and_right (ok x) (list_all ok xs) h) (and_right (ok y) (list_all ok ys) k) first.1 in
      (ap₂ ◌∷◌ first.0 others.0, others.1)

  pub list_read : (xs ys : List A) {X Y : List ℕ} → length xs ≤ 4096 → length ys ≤ 4096 → list_all ok xs ≡ true → list_all ok ys ≡ true
      → list_bytes count f xs ++ X ≡ list_bytes count f ys ++ Y → (xs ≡ ys) × (X ≡ Y)
  unfolding list_bytes
  list_read xs ys {X} {Y} l m h k e =
      let n = count_read (length xs) (length ys) l m
      (sym (append_assoc (count (length xs)) (flat_map f xs) X) ∙ e ∙ append_assoc (count (length ys)) (flat_map f ys) Y) in
      each_read xs ys n.0 h k n.1

-- ---- an attribute, and a name

three : (a b c X : List ℕ) → ((a ++ b) ++ c) ++ X ≡ a ++ (b ++ (c ++ X))
three a b c X = append_assoc (a ++ b) c X ∙ append_assoc a b (c ++ X)

four : (a b c d X : List ℕ) → (((a ++ b) ++ c) ++ d) ++ X ≡ a ++ (b ++ (c ++ (d ++ X)))
four a b c d X = append_assoc ((a ++ b) ++ c) d X ∙ three a b c (d ++ X)

flag_read : (a b : Bool) {X Y : List ℕ} → flag a ++ X ≡ flag b ++ Y → (a ≡ b) × (X ≡ Y)
unfolding flag
flag_read true true e = (refl, tail-eq_of_cons-eq e)
flag_read true false e = let f : ◌≡◌ {A = ℕ} 1 0 = head-eq_of_cons-eq e in absurd (omega arith)
flag_read false true e = let f : ◌≡◌ {A = ℕ} 0 1 = head-eq_of_cons-eq e in absurd (omega arith)
flag_read false false e = (refl, tail-eq_of_cons-eq e)

pub attribute_read_lem : (a b : Attribute) {X Y : List ℕ} → attribute_fits a ≡ true → attribute_fits b ≡ true
    → attribute_bytes a ++ X ≡ attribute_bytes b ++ Y → (a ≡ b) × (X ≡ Y)
unfolding attribute_bytes attribute_fits
attribute_read_lem a b {X} {Y} f g e =
    let p = passed _ f in
    let q = passed _ g in
    let key = leaf_read a.key b.key p.0 q.0
    (sym (four (leaf a.key) (leaf a.kind) (leaf a.content) (flag a.inherent) X)
    ∙ e
    ∙ four (leaf b.key) (leaf b.kind) (leaf b.content) (flag b.inherent) Y) in
    let kind = leaf_read a.kind b.kind p.1.0 q.1.0 key.1 in
    let content = leaf_read a.content b.content p.1.1.0 q.1.1.0 kind.1 in
    let inherent = flag_read a.inherent b.inherent content.1 in
    (λ i. record { key = key.0 i; kind = kind.0 i; content = content.0 i; inherent = inherent.0 i }, inherent.1)

-- a name's number is told by its bytes
unfoldable pub name_fits : Name → Bool
name_fits (walk_number i) = leb i 4096
name_fits (store_number n) = fits n

tags_differ : (X Y : List ℕ) → tag 0 ++ X ≡ tag 1 ++ Y → ⊥
unfolding tag bytes
tags_differ X Y e = let f : ◌≡◌ {A = ℕ} 0 1 = head-eq_of_cons-eq e in omega arith

past_tag : (n : ℕ) (X Y : List ℕ) → tag n ++ X ≡ tag n ++ Y → X ≡ Y
unfolding tag bytes
past_tag n X Y e = tail-eq_of_cons-eq e

pub name_read : (a b : Name) {X Y : List ℕ} → name_fits a ≡ true → name_fits b ≡ true → name_bytes a ++ X ≡ name_bytes b ++ Y → (a ≡ b) × (X ≡ Y)
unfolding name_bytes name_fits
name_read (walk_number i) (walk_number j) {X} {Y} f g e =
    let t : count i ++ X ≡ count j ++ Y = past_tag 0 (count i ++ X) (count j ++ Y) (sym (append_assoc (tag 0) (count i) X) ∙ e ∙ append_assoc (tag 0) (count j) Y) in
    let n = count_read i j (leb-true i 4096 f) (leb-true j 4096 g) t in
    (ap walk_number n.0, n.1)
name_read (walk_number i) (store_number n) {X} {Y} f g e = absurd (tags_differ (count i ++ X) (leaf n ++ Y) (sym (append_assoc (tag 0) (count i) X) ∙ e ∙ append_assoc (tag 1) (leaf n) Y))
name_read (store_number m) (walk_number j) {X} {Y} f g e = absurd (tags_differ (count j ++ Y) (leaf m ++ X) (sym (append_assoc (tag 0) (count j) Y) ∙ sym e ∙ append_assoc (tag 1) (leaf m) X))
name_read (store_number m) (store_number n) {X} {Y} f g e =
    let t : leaf m ++ X ≡ leaf n ++ Y = past_tag 1 (leaf m ++ X) (leaf n ++ Y) (sym (append_assoc (tag 1) (leaf m) X) ∙ e ∙ append_assoc (tag 1) (leaf n) Y) in
    let k = leaf_read m n f g t in
    (ap store_number k.0, k.1)

-- ---- a shell

-- its numbers are told by their bytes, and its lists' lengths
pub record ShellFits (sh : Shell) : Type 0 where
  pub location : (l : ℕ) → sh.location ≡ Some l → fits l ≡ true
  pub attributes : list_all attribute_fits sh.attributes ≡ true
  pub types : list_all fits sh.types ≡ true
  pub few_attributes : length sh.attributes ≤ 4096
  pub few_types : length sh.types ≤ 4096

-- both have a location, or neither has
pub record BothLocated (a b : Option ℕ) : Type 0 where
  pub left : a ≡ None → b ≡ None
  pub right : b ≡ None → a ≡ None

location_read_lem : (a b : Option ℕ) {X Y : List ℕ} → BothLocated a b → ((l : ℕ) → a ≡ Some l → fits l ≡ true) → ((l : ℕ) → b ≡ Some l → fits l ≡ true)
    → location_bytes a ++ X ≡ location_bytes b ++ Y → (a ≡ b) × (X ≡ Y)
unfolding location_bytes
location_read_lem None None both f g e = (refl, e)
location_read_lem None (Some l) both f g e = impossible (let h : Some l ≡ None = both.left refl in cc)
location_read_lem (Some l) None both f g e = impossible (let h : Some l ≡ None = both.right refl in cc)
location_read_lem (Some l) (Some m) both f g e = let r = leaf_read l m (f l refl) (g m refl) e in (ap Some r.0, r.1)

-- part by part: location, attributes behind their number, types behind theirs
shell_parts : (sh : Shell) (Z : List ℕ)
    → shell_bytes count sh ++ Z ≡ location_bytes sh.location ++ (list_bytes count attribute_bytes sh.attributes ++ (list_bytes count leaf sh.types ++ Z))
unfolding shell_bytes list_bytes
shell_parts sh Z =
    let L = location_bytes sh.location in
    let C = count (length sh.attributes) in
    let A = flat_map attribute_bytes sh.attributes in
    let T = list_bytes count leaf sh.types in
    append_assoc ((L ++ C) ++ A) T Z ∙ three L C A (T ++ Z) ∙ ap (λ (l : List ℕ). L ++ l) (sym (append_assoc C A (T ++ Z)))

pub shell_read : (a b : Shell) {X Y : List ℕ} → BothLocated a.location b.location → ShellFits a → ShellFits b
    → shell_bytes count a ++ X ≡ shell_bytes count b ++ Y → (a ≡ b) × (X ≡ Y)
shell_read a b {X} {Y} both f g e =
    let location = location_read_lem a.location b.location both f.location g.location (sym (shell_parts a X) ∙ e ∙ shell_parts b Y) in
    let attributes = list_read attribute_bytes attribute_fits (λ c d Z W. attribute_read_lem c d) a.attributes b.attributes f.few_attributes g.few_attributes f.attributes g.attributes location.1 in
    let types = list_read leaf fits (λ c d Z W. leaf_read c d) a.types b.types f.few_types g.few_types f.types g.types attributes.1 in
    (λ i. record { location = location.0 i; attributes = attributes.0 i; types = types.0 i }, types.1)
