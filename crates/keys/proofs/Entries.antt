-- A list is put entry by entry: what is put so far are the bytes of the entries up to the next one. Assumes nothing.
use Prim.Native.Nat.{ℕ, ◌+◌, ◌^◌, ◌<◌, ◌≤◌}
use native.Mathlib.Numerals.{add-one}
use mathlib.Core.List.{List, [], ◌∷◌, ◌++◌, map, append-nil}
use mathlib.Core.Path.{◌≡◌, refl, sym, ap, ap₂, ◌∙◌}
use lib.ListN.{length, length-map, get_or, take}
use lib.Seq.{take-suc, take_all}
use Rattle.std.specs.List.{flat_map}
use Rattle.rules.specs.Hash.{count, list_bytes}
use Rattle.rules.proofs.Basics.Distinct.{concat_map_append}
use Rattle.keys.specs.Put.{Put}
use Rattle.keys.proofs.Putting.{PutAt, puts_none, puts_then, puts_as, puts_first, put_all}

module _ (bytes : ℕ → List ℕ) where
  pub none_put : (a : List ℕ) (i : ℕ) → PutAt (flat_map bytes []) a i a i
  none_put a i = puts_none a i

  pub more_put : (came : List ℕ) (x : ℕ) {a b c : List ℕ} {i j l : ℕ} → PutAt (flat_map bytes came) a i b j → PutAt (bytes x) b j c l → PutAt (flat_map bytes (came ++ x ∷ [])) a i c l
  more_put came x f g =
      puts_as (ap (λ (bs : List ℕ). flat_map bytes came ++ bs) (sym (append-nil (bytes x))) ∙ sym (concat_map_append bytes came (x ∷ [])))
      (puts_then (flat_map bytes came) (bytes x) f g)

  module _ (list : List ℕ) (n : ℕ) where
    pub entries_next : {a b c : List ℕ} {i j l : ℕ} → n < length list → PutAt (flat_map bytes (take n list)) a i b j → PutAt (bytes (get_or list n 0)) b j c l
        → PutAt (flat_map bytes (take (n + 1) list)) a i c l
    entries_next l f g =
        puts_as (ap (flat_map bytes) (sym (take-suc list n 0 l) ∙ ap (λ (k : ℕ). take k list) (sym (add-one n))))
        (more_put (take n list) (get_or list n 0) f g)

    -- behind how many there are
    pub counted_list : {a b c : List ℕ} {i j : ℕ} → length a < 2 ^ 64 → length list ≤ n → Put (count (length list)) a b i → PutAt (flat_map bytes (take n list)) b i c j
        → Put (list_bytes count bytes list) a c j
    unfolding list_bytes
    counted_list short l f g =
        put_all short (puts_then (count (length list)) (flat_map bytes list) (puts_first f) (puts_as (ap (flat_map bytes) (take_all n list l)) g))

-- a list of which each is put through f is put as the list of what f gives
pub each_mapped : {A : Type 0} (bytes : A → List ℕ) (f : ℕ → A) (list : List ℕ) → flat_map (λ (n : ℕ). bytes (f n)) list ≡ flat_map bytes (map f list)
each_mapped bytes f [] = refl
each_mapped bytes f (x ∷ xs) = ap (λ (bs : List ℕ). bytes (f x) ++ bs) (each_mapped bytes f xs)

pub list_mapped : (bytes : ℕ → List ℕ) (f : ℕ → ℕ) (list : List ℕ) → list_bytes count (λ (n : ℕ). bytes (f n)) list ≡ list_bytes count bytes (map f list)
unfolding list_bytes
list_mapped bytes f list = ap₂ ◌++◌ (ap count (sym (length-map list f))) (each_mapped bytes f list)
