-- A first line that says an edition is that edition's header, byte for byte. Assumes nothing.
use Prim.Native.Nat.{ℕ}
use mathlib.Core.Bool.{Bool, true, false, cond}
use Rattle.std.specs.Prelude.{None, Some}
use Rattle.std.proofs.lemmas.Option.{same_Some, none-some}
use mathlib.Core.List.{List}
use mathlib.Core.Path.{◌≡◌, refl, subst}
use lib.ListN.{length}
use Rattle.rules.specs.Lists.{same_list}
use Rattle.rules.specs.Bytes.{text, is_text}
use Rattle.rules.specs.Lines.{one_of}
use Rattle.rules.specs.declared.types.Edition.{Edition}
use Rattle.rules.specs.declared.types.Edition.TheVariants.{First as edition_1, Second as edition_2}
use Rattle.rules.specs.Listings.{edition_of}
use Rattle.rules.specs.Converting.{header}
use Rattle.rules.proofs.Basics.Tests.{numbers_same}

pub header_edition : (e : Edition) → edition_of (header e) ≡ Some e
unfolding header edition_of one_of is_text same_list
header_edition edition_1 = refl
header_edition edition_2 = refl

pub header_length : (e : Edition) → length (header e) ≡ 9
unfolding header
header_length edition_1 = refl
header_length edition_2 = refl

pub edition_header : (line : List ℕ) (e : Edition) → edition_of line ≡ Some e → line ≡ header e
unfolding edition_of one_of is_text header
edition_header line e h = go (is_text "opstore,1" line) refl (is_text "opstore,2" line) refl h
  where
    go : (a : Bool) → is_text "opstore,1" line ≡ a → (b : Bool) → is_text "opstore,2" line ≡ b
        → cond a (Some edition_1) (cond b (Some edition_2) None) ≡ Some e → line ≡ header e
    go true p b q r = subst (λ (d : Edition). line ≡ header d) (same_Some _ _ r) ((numbers_same line (text "opstore,1")).0 p)
    go false p true q r = subst (λ (d : Edition). line ≡ header d) (same_Some _ _ r) ((numbers_same line (text "opstore,2")).0 q)
    go false p false q r = absurd (none-some _ r)
