-- Bytes that go into the word one after the other go into it at once; and a list's bytes, from the first entry that is not fed yet.
-- Assumes nothing.
use Rattle.std.proofs.Common.{◌≡◌, ℕ, ◌+◌, ◌<◌, ◌≤◌, Bool, true, false, not, cond, List, [], ◌∷◌, ◌++◌, length, get_or, drop, sym, refl, ap, ◌∙◌, append_assoc, append-nil, add-one, rules, drop_of_length-le, drop-cons}
use Rattle.std.specs.Prelude.{Option, None, Some}
use Rattle.std.specs.List.{flat_map}
use Rattle.rules.specs.declared.types.Attribute.{Attribute}
use Rattle.rules.specs.Shells.{Shell, unignored_location}
use Rattle.rules.specs.declared.types.Ignore.{Ignore}
use Rattle.rules.specs.Hash.{fnv_from, leaf, count, flag, location_bytes, attribute_bytes, uncounted, list_bytes, shell_bytes}
use Rattle.rules.proofs.Form.Hashes.{fnv_append}

pub fed_after : (word : ℕ) (xs ys : List ℕ) {fed r : ℕ} → fed ≡ fnv_from word xs → r ≡ fnv_from fed ys → r ≡ fnv_from word (xs ++ ys)
fed_after word xs ys e f = f ∙ ap (λ (w : ℕ). fnv_from w ys) e ∙ sym (fnv_append word xs ys)

pub three_fed : (word : ℕ) (xs ys zs : List ℕ) {f g r : ℕ} → f ≡ fnv_from word xs → g ≡ fnv_from f ys → r ≡ fnv_from g zs → r ≡ fnv_from word (xs ++ ys ++ zs)
three_fed word xs ys zs d e h = fed_after word (xs ++ ys) zs (fed_after word xs ys d e) h

-- ---- a location

by : Bool → ℕ → Option ℕ
by t l = cond t None (Some l)

module _ (ig : Ignore) (l word : ℕ) where
  pub location_ignored : not ig.locations ≡ false → word ≡ fnv_from word (location_bytes (unignored_location ig l))
  unfolding fnv_from location_bytes unignored_location by
  location_ignored e =
      let yes : ig.locations ≡ true = search rules in
      ap (λ (t : Bool). fnv_from word (location_bytes (by t l))) (sym yes)

  pub location_fed : {r : ℕ} → not ig.locations ≡ true → r ≡ fnv_from word (leaf l) → r ≡ fnv_from word (location_bytes (unignored_location ig l))
  unfolding location_bytes unignored_location by
  location_fed e f =
      let no : ig.locations ≡ false = search rules in
      f ∙ ap (λ (t : Bool). fnv_from word (location_bytes (by t l))) (sym no)

-- ---- an attribute, and a shell

pub attribute_fed : (a : Attribute) (word : ℕ) {key kind content r : ℕ} {yes : Bool}
    → key ≡ a.key → kind ≡ a.kind → content ≡ a.content → yes ≡ a.inherent
    → r ≡ fnv_from word (leaf key ++ leaf kind ++ leaf content ++ flag yes) → r ≡ fnv_from word (attribute_bytes a)
unfolding attribute_bytes
attribute_fed a word k m c y e = e ∙ (λ i. fnv_from word (leaf (k i) ++ leaf (m i) ++ leaf (c i) ++ flag (y i)))

pub shell_fed : (sh : Shell) (word : ℕ) {f g r : ℕ}
    → f ≡ fnv_from word (location_bytes sh.location) → g ≡ fnv_from f (count (length sh.attributes) ++ flat_map attribute_bytes sh.attributes)
    → r ≡ fnv_from g (flat_map leaf sh.types) → r ≡ fnv_from word (shell_bytes uncounted sh)
unfolding shell_bytes list_bytes
shell_fed sh word d e h =
    let xs : List ℕ = count (length sh.attributes) in
    let ys : List ℕ = flat_map attribute_bytes sh.attributes in
    let ls : List ℕ = location_bytes sh.location in
    fed_after word (ls ++ xs ++ ys) (flat_map leaf sh.types) (fed_after word ls (xs ++ ys) d e ∙ ap (fnv_from word) (sym (append_assoc ls xs ys))) h

-- ---- entries that came are fed, and one more

concat_last : (bytes : ℕ → List ℕ) (xs : List ℕ) (x : ℕ) → flat_map bytes (xs ++ (x ∷ [])) ≡ flat_map bytes xs ++ bytes x
concat_last bytes [] x = append-nil (bytes x)
concat_last bytes (y ∷ xs) x = ap (λ (l : List ℕ). bytes y ++ l) (concat_last bytes xs x) ∙ sym (append_assoc (bytes y) (flat_map bytes xs) (bytes x))

pub one_more_fed : (bytes : ℕ → List ℕ) (word : ℕ) (came : List ℕ) (x : ℕ) {fed r : ℕ} → fed ≡ fnv_from word (flat_map bytes came) → r ≡ fnv_from fed (bytes x)
    → r ≡ fnv_from word (flat_map bytes (came ++ (x ∷ [])))
one_more_fed bytes word came x e f = fed_after word (flat_map bytes came) (bytes x) e f ∙ ap (fnv_from word) (sym (concat_last bytes came x))

-- ---- a list, entry by entry

module _ (bytes : ℕ → List ℕ) (list : List ℕ) (word : ℕ) where
  -- what is left to feed goes into the word as it is; the whole, into the word as it was
  abbrev pub LeftOf : ℕ → ℕ → Type 0
  LeftOf i fed = fnv_from fed (flat_map bytes (drop i list)) ≡ fnv_from word (flat_map bytes list)

  pub entry_fed : (i fed : ℕ) {r : ℕ} → i < length list → LeftOf i fed → r ≡ fnv_from fed (bytes (get_or list i 0)) → LeftOf (i + 1) r
  entry_fed i fed {r} l left e =
      let next : List ℕ = flat_map bytes (drop (i + 1) list) in
      let first : drop i list ≡ get_or list i 0 ∷ drop (i + 1) list = rw add-one (drop-cons list i 0 l) in
      fed_after fed (bytes (get_or list i 0)) next e refl ∙ ap (λ (xs : List ℕ). fnv_from fed (flat_map bytes xs)) (sym first) ∙ left

  pub entries_fed : (i fed : ℕ) → length list ≤ i → LeftOf i fed → fed ≡ fnv_from word (flat_map bytes list)
  unfolding fnv_from
  entries_fed i fed l left = ap (λ (xs : List ℕ). fnv_from fed (flat_map bytes xs)) (sym (drop_of_length-le list l)) ∙ left
