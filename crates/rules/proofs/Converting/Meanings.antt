-- A line means the same in both editions, but for `b` and `i`; and a `b` line of edition 1 means what it does in edition 2 without its third
-- field, whatever number that is. Assumes nothing.
use Prim.Native.Nat.{ℕ, ◌^◌}
use mathlib.Core.Bool.{true, false, false≢true}
use Rattle.std.specs.Prelude.{Option, None, Some, option_map, is_some}
use mathlib.Core.List.{List, [], ◌∷◌}
use mathlib.Core.Path.{◌≡◌, refl, sym, ap, subst, ◌∙◌}
use Rattle.rules.specs.Lists.{same_list}
use Rattle.rules.specs.Bytes.{text, is_text, is_digit, well_written, value_from, number_below}
use Rattle.rules.specs.Lines.{Line, Reader, and_then, ◌>>=◌, giving, field, one_of, number, label, block_line, more_letters, letter, wholly}
use Rattle.rules.specs.declared.types.Edition.{Edition}
use Rattle.rules.specs.declared.types.Edition.TheVariants.{First as edition_1, Second as edition_2}
use Rattle.rules.specs.Converting.{other, begins, relabelled}
use Rattle.rules.proofs.Basics.Tests.{numbers_same}

-- what a line's fields mean
abbrev pub meaning : Edition → List (List ℕ) → Option Line
meaning e fs = wholly ((letter e >>= λ line'. line') fs)

-- ---- other lines

in_edition_1 : (e : Edition) (fs : List (List ℕ)) → begins "b" fs ≡ false → begins "i" fs ≡ false → meaning e fs ≡ meaning edition_1 fs
unfolding begins letter field one_of more_letters
in_edition_1 edition_1 fs b i = refl
in_edition_1 edition_2 [] b i = refl
in_edition_1 edition_2 (f ∷ fs) b i = rw (b, i)

pub either_edition : (d e : Edition) (fs : List (List ℕ)) → begins "b" fs ≡ false → begins "i" fs ≡ false → meaning d fs ≡ meaning e fs
either_edition d e fs b i = in_edition_1 d fs b i ∙ sym (in_edition_1 e fs b i)

-- ---- `b` lines

block_meaning : (e : Edition) (fs : List (List ℕ)) → meaning e (text "b" ∷ fs) ≡ wholly (block_line e fs)
unfolding letter field one_of is_text same_list
block_meaning e fs = refl

-- the fields of a `b` line that means something, in either edition
pub data BlockFields : Edition → List (List ℕ) → Type 0 where
  labelled : (r x : List ℕ) (fs : List (List ℕ)) (n : ℕ) → number_below (2 ^ 32) x ≡ Some n → BlockFields edition_1 (text "b" ∷ r ∷ x ∷ fs)
  bare : (r : List ℕ) (fs : List (List ℕ)) → BlockFields edition_2 (text "b" ∷ r ∷ fs)

-- a number as second field, or none in its place
label_dropped : (r x : List ℕ) (fs : List (List ℕ)) (n : ℕ) → number_below (2 ^ 32) x ≡ Some n
    → block_line edition_1 (r ∷ x ∷ fs) ≡ block_line edition_2 (r ∷ fs)
unfolding block_line number field label
label_dropped r x fs n h = go _ (number_below (2 ^ 32) r)
  where
    go : (k : ℕ → Reader Line) (o : Option ℕ)
        → and_then (option_map (λ a. (a, x ∷ fs)) o) (λ around. label edition_1 >>= λ no_label. k around)
        ≡ and_then (option_map (λ a. (a, fs)) o) (λ around. label edition_2 >>= λ no_label. k around)
    go k None = refl
    go k (Some around) = rw h

-- what is read has these fields
label_read : (r : List ℕ) (k : Reader Line) (fs : List (List ℕ)) → is_some (wholly ((label edition_1 >>= λ no_label. k) fs)) ≡ true
    → BlockFields edition_1 (text "b" ∷ r ∷ fs)
unfolding label number field wholly
label_read r k [] h = absurd (false≢true h)
label_read r k (x ∷ fs) h = go (number_below (2 ^ 32) x) refl h
  where
    go : (o : Option ℕ) → number_below (2 ^ 32) x ≡ o
        → is_some (wholly (and_then (and_then (option_map (λ a. (a, fs)) o) (λ dropped. giving {A = Unit {0}} tt)) (λ no_label. k))) ≡ true
        → BlockFields edition_1 (text "b" ∷ r ∷ x ∷ fs)
    go None e h' = absurd (false≢true h')
    go (Some n) e h' = labelled r x fs n e

block_read : (e : Edition) (fs : List (List ℕ)) → is_some (wholly (block_line e fs)) ≡ true → BlockFields e (text "b" ∷ fs)
unfolding block_line number field wholly
block_read edition_1 [] h = absurd (false≢true h)
block_read edition_1 (r ∷ fs) h = go _ (number_below (2 ^ 32) r) h
  where
    go : (k : ℕ → Reader Line) (o : Option ℕ)
        → is_some (wholly (and_then (option_map (λ a. (a, fs)) o) (λ around. label edition_1 >>= λ no_label. k around))) ≡ true
        → BlockFields edition_1 (text "b" ∷ r ∷ fs)
    go k None h' = absurd (false≢true h')
    go k (Some around) h' = label_read r (k around) fs h'
block_read edition_2 [] h = absurd (false≢true h)
block_read edition_2 (r ∷ fs) h = bare r fs

pub block_fields : (e : Edition) (fs : List (List ℕ)) → begins "b" fs ≡ true → is_some (meaning e fs) ≡ true → BlockFields e fs
unfolding begins is_text
block_fields e [] b h = absurd (false≢true b)
block_fields e (f ∷ fs) b h =
    let q : f ≡ text "b" = (numbers_same f (text "b")).0 b in
    let m : meaning e (f ∷ fs) ≡ wholly (block_line e fs) = ap (λ (g : List ℕ). meaning e (g ∷ fs)) q ∙ block_meaning e fs in
    subst (λ (g : List ℕ). BlockFields e (g ∷ fs)) (sym q) (block_read e fs (ap is_some (sym m) ∙ h))

pub number_0 : number_below (2 ^ 32) (text "0") ≡ Some 0
unfolding number_below well_written is_digit value_from
number_0 = refl

-- converted, they mean the same in the other edition
pub same_meaning : (e : Edition) (fs : List (List ℕ)) → BlockFields e fs → meaning (other e) (relabelled e fs) ≡ meaning e fs
unfolding other relabelled
same_meaning edition_1 fs (labelled r x more n h) =
    block_meaning edition_2 (r ∷ more)
    ∙ ap wholly (sym (label_dropped r x more n h))
    ∙ sym (block_meaning edition_1 (r ∷ x ∷ more))
same_meaning edition_2 fs (bare r more) =
    block_meaning edition_1 (r ∷ text "0" ∷ more)
    ∙ ap wholly (label_dropped r (text "0") more 0 number_0)
    ∙ sym (block_meaning edition_2 (r ∷ more))
