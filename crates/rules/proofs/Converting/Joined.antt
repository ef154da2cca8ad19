-- A line is its fields, joined by commas; and fields without commas, joined so, are the fields of their line. No field has a comma, nor a byte
-- that the line has not. Assumes nothing.
use Prim.Native.Nat.{ℕ, suc}
use Prim.Native.String.{String}
use native.Mathlib.Omega.{arith}
use mathlib.Core.Bool.{Bool, true, false, cond, not, ◌||◌, false≢true}
use mathlib.Core.List.{List, [], ◌∷◌, ◌++◌, append_assoc}
use mathlib.Core.Path.{◌≡◌, refl, sym, ap, ◌∙◌}
use lib.Dec.{eqb}
use lib.ListN.{length, length-append}
use Rattle.std.specs.List.{list_all}
use Rattle.rules.specs.Bytes.{comma, line_feed, Pieces, new_piece, longer_by, cut_at}
use Rattle.rules.specs.Lines.{fields_of}
use Rattle.rules.specs.Listings.{printed}
use Rattle.rules.specs.Converting.{begins}
use Rattle.rules.proofs.Basics.Tests.{and_left, and_right, and_both, or_right, all_of}
use Rattle.rules.proofs.Basics.Appended.{all_append, all_imp}
use Rattle.rules.proofs.Listings.Cut.{other_than, Without, each, ended, ended_cut, cut_first, cut_none, weight}
use Rattle.rules.proofs.Listings.Written.{printed_length}

-- ---- a byte of a piece is one of the bytes that were cut, and not the byte at which they were

one_more_each : (p : ℕ → Bool) (x : ℕ) (t : Bool) (q : Pieces) → (t || p x) ≡ true → each p q.whole ≡ true → list_all p q.rest ≡ true
    → (each p (cond t (new_piece q) (longer_by x q.whole q.rest)).whole ≡ true)
    × (list_all p (cond t (new_piece q) (longer_by x q.whole q.rest)).rest ≡ true)
unfolding new_piece longer_by
one_more_each p x true q h w r = (w, r)
one_more_each p x false q h w r = go q.whole w
  where
    go : (ps : List (List ℕ)) → each p ps ≡ true → (each p (longer_by x ps q.rest).whole ≡ true) × (list_all p (longer_by x ps q.rest).rest ≡ true)
    go [] e = (refl, and_both (p x) _ h r)
    go (f ∷ fs) e = (and_both _ _ (and_both (p x) _ h (and_left (list_all p f) _ e)) (and_right (list_all p f) _ e), r)

cut_each : (c : ℕ) (p : ℕ → Bool) (xs : List ℕ) → list_all (λ (x : ℕ). eqb x c || p x) xs ≡ true
    → (each p (cut_at c xs).whole ≡ true) × (list_all p (cut_at c xs).rest ≡ true)
unfolding cut_at
cut_each c p [] h = (refl, refl)
cut_each c p (x ∷ xs) h =
    let more = cut_each c p xs (and_right (eqb x c || p x) _ h) in
    one_more_each p x (eqb x c) (cut_at c xs) (and_left (eqb x c || p x) _ h) more.0 more.1

either : (t : Bool) → (t || not t) ≡ true
either true = refl
either false = refl

pub cut_without : (b : ℕ) (xs : List ℕ) → (each (other_than b) (cut_at b xs).whole ≡ true) × (list_all (other_than b) (cut_at b xs).rest ≡ true)
cut_without b xs = cut_each b (other_than b) xs (all_of _ xs (λ x m. either (eqb x b)))

-- ---- fields: pieces of a line that are parted by commas

abbrev pub joined : List (List ℕ) → List ℕ
joined [] = []
joined (f ∷ []) = f
joined (f ∷ g ∷ fs) = f ++ comma ∷ joined (g ∷ fs)

pub printed_joined : (fs : List (List ℕ)) → printed fs ≡ joined fs ++ line_feed ∷ []
unfolding printed
printed_joined [] = refl
printed_joined (f ∷ []) = refl
printed_joined (f ∷ g ∷ fs) =
    ap (λ (l : List ℕ). f ++ comma ∷ l) (printed_joined (g ∷ fs)) ∙ sym (append_assoc f (comma ∷ joined (g ∷ fs)) (line_feed ∷ []))

pub joined_length : (w : String) (fs : List (List ℕ)) → begins w fs ≡ true → suc (length (joined fs)) ≡ weight fs
unfolding begins
joined_length w [] h = absurd (false≢true h)
joined_length w (f ∷ fs) h =
    let e : length (printed (f ∷ fs)) ≡ length (joined (f ∷ fs) ++ line_feed ∷ []) = ap length (printed_joined (f ∷ fs)) in
    omega (arith, printed_length f fs, length-append (joined (f ∷ fs)) (line_feed ∷ []))

pub joined_each : (p : ℕ → Bool) (fs : List (List ℕ)) → p comma ≡ true → each p fs ≡ true → list_all p (joined fs) ≡ true
joined_each p [] c h = refl
joined_each p (f ∷ []) c h = and_left (list_all p f) true h
joined_each p (f ∷ g ∷ fs) c h =
    all_append p f (comma ∷ joined (g ∷ fs)) (and_left (list_all p f) _ h) (and_both (p comma) _ c (joined_each p (g ∷ fs) c (and_right (list_all p f) _ h)))

-- fields without commas are the fields of the line that they are joined to
more_fields_joined : (f : List ℕ) (fs : List (List ℕ)) → each (other_than comma) (f ∷ fs) ≡ true → fields_of (joined (f ∷ fs)) ≡ f ∷ fs
unfolding fields_of
more_fields_joined f [] h = rw (cut_none comma f (and_left _ true h))
more_fields_joined f (g ∷ fs) h =
    ap (λ (p : Pieces). p.whole ++ (p.rest ∷ [])) (cut_first comma f (joined (g ∷ fs)) (and_left _ _ h))
    ∙ ap (λ (l : List (List ℕ)). f ∷ l) (more_fields_joined g fs (and_right (list_all (other_than comma) f) _ h))

pub fields_joined : (w : String) (fs : List (List ℕ)) → begins w fs ≡ true → each (other_than comma) fs ≡ true → fields_of (joined fs) ≡ fs
unfolding begins
fields_joined w [] b h = absurd (false≢true b)
fields_joined w (f ∷ fs) b h = more_fields_joined f fs h

-- and a line is its fields, joined
one_more_joined : (p : List ℕ) (ps : List (List ℕ)) (rest : List ℕ) → joined (p ∷ (ps ++ (rest ∷ []))) ≡ p ++ comma ∷ joined (ps ++ (rest ∷ []))
one_more_joined p [] rest = refl
one_more_joined p (q ∷ ps) rest = refl

joined_ended : (ps : List (List ℕ)) (rest : List ℕ) → joined (ps ++ (rest ∷ [])) ≡ ended comma ps ++ rest
joined_ended [] rest = refl
joined_ended (p ∷ ps) rest =
    one_more_joined p ps rest
    ∙ ap (λ (l : List ℕ). p ++ comma ∷ l) (joined_ended ps rest)
    ∙ sym (append_assoc p (comma ∷ ended comma ps) rest)

pub joined_fields : (line : List ℕ) → joined (fields_of line) ≡ line
unfolding fields_of
joined_fields line = joined_ended (cut_at comma line).whole (cut_at comma line).rest ∙ ended_cut comma line

fields_each : (p : ℕ → Bool) (line : List ℕ) → (each p (cut_at comma line).whole ≡ true) × (list_all p (cut_at comma line).rest ≡ true)
    → each p (fields_of line) ≡ true
unfolding fields_of
fields_each p line h = all_append _ (cut_at comma line).whole ((cut_at comma line).rest ∷ []) h.0 (and_both _ true h.1 refl)

pub fields_without : (b : ℕ) (line : List ℕ) → Without b line → each (other_than b) (fields_of line) ≡ true
fields_without b line h = fields_each (other_than b) line (cut_each comma _ line (all_imp _ _ line (λ x e. or_right (eqb x comma) _ e) h))

pub no_commas : (line : List ℕ) → each (other_than comma) (fields_of line) ≡ true
no_commas line = fields_each (other_than comma) line (cut_without comma line)
