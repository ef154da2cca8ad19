-- Two walks side by side, under a list of renamed types: they stay so, and so do names that are kept. Assumes nothing.
use Prim.Native.Nat.{ℕ, zero, suc, ◌<◌}
use mathlib.Core.List.{List, [], ◌∷◌, map}
use mathlib.Core.Path.{◌≡◌, refl, sym, ap, subst, ◌∙◌}
use lib.ListN.{length}
use Rattle.rules.specs.Store.{Store, op_at, ops_of, blocks_of, regions_of}
use Rattle.rules.specs.declared.types.Owner.{Owner}
use Rattle.rules.specs.declared.types.Owner.TheVariants.{Op as of_op, Block as of_block}
use Rattle.rules.specs.Fragments.{levels, shell, names, counted}
use Rattle.rules.specs.declared.types.Sort.TheVariants.{Op as op}
use Rattle.rules.specs.Shells.{counts_of}
use Rattle.rules.specs.Hash.{Numbering}
use Rattle.rules.specs.Types.{present, renamed}
use Rattle.rules.specs.Form.{Event, step, more, done, op_events, blocks_events, region_events, events, numbered_by}
use Rattle.rules.proofs.RenamedTypes.Renamed.{values_length, values_renamed, numbered_renamed, type_renamed, shell_renamed, shell_renamed_lem}
use Rattle.rules.proofs.Copying.Named.{OwnerPair, NamesPair, Carries, shelled, named, begun, mores, dones, Renaming, EventKept, Kept}

module _ (types : List ℕ) (s : Store) where
  abbrev other : Store
  other = renamed types s

  region_events_lem : (k r : ℕ) → region_events other k r ≡ region_events s k r
  unfolding renamed region_events blocks_events op_events ops_of blocks_of regions_of
  region_events_lem zero r = refl
  region_events_lem (suc k) r = λ i. blocks_events s (op_events s (λ (q : ℕ). region_events_lem k q i)) (blocks_of s r)

  pub events_renamed : (n : ℕ) → events other op n ≡ events s op n
  unfolding renamed events op_events regions_of
  events_renamed n = λ i. step (shell (of_op n)) ∷ op_events s (λ (q : ℕ). region_events_lem levels q i) n

  counts_renamed : (w : Owner) → counts_of other w ≡ counts_of s w
  unfolding renamed counts_of op_at regions_of
  counts_renamed (of_op n) =
      ap (λ (l : List ℕ). (op_at s n).kind ∷ length (regions_of s n) ∷ length (op_at s n).successors ∷ length (op_at s n).operands ∷ length l ∷ []) (values_renamed types s (of_op n))
  counts_renamed (of_block b) = ap (λ (l : List ℕ). length l ∷ []) (values_renamed types s (of_block b))

  numbers_renamed : (e : Event) (N : Numbering) → numbered_by other e N ≡ numbered_by s e N
  unfolding numbered_by
  numbers_renamed (step x) N = numbered_renamed types s x N
  numbers_renamed more N = refl
  numbers_renamed done N = refl

module _ (types : List ℕ) (s t : Store) (vc bc : ℕ → ℕ) (wc : Owner → Owner) where
  abbrev s' : Store
  s' = renamed types s

  abbrev t' : Store
  t' = renamed types t

  owners_under : (w w' : Owner) → OwnerPair s t vc bc wc w w' → OwnerPair s' t' vc bc wc w w'
  unfolding renamed
  owners_under w w' p =
      record {
        owner = p.owner;
        values = values_renamed types t w' ∙ p.values ∙ ap (map vc) (sym (values_renamed types s w));
        blocks = p.blocks;
        blocks_in = p.blocks_in;
        counts = counts_renamed types t w' ∙ p.counts ∙ sym (counts_renamed types s w);
        shells = λ ig. shell_renamed_lem types t ig w' ∙ ap (shell_renamed types) (p.shells ig) ∙ sym (shell_renamed_lem types s ig w);
      }

  names_under : (m m' : ℕ) → NamesPair s t vc bc wc m m' → NamesPair s' t' vc bc wc m m'
  unfolding renamed op_at
  names_under m m' p =
      record {
        counts = counts_renamed types t (of_op m') ∙ p.counts ∙ sym (counts_renamed types s (of_op m));
        operands = p.operands;
        operands_in = λ v k. subst (λ (j : ℕ). v < j) (sym (values_length types s)) (p.operands_in v k);
        successors = p.successors;
        successors_in = p.successors_in;
      }

  pub carries_under : (e e' : Event) → Carries s t vc bc wc e e' → Carries s' t' vc bc wc e e'
  carries_under e e' (shelled {w = w} {w' = w'} p) = shelled (owners_under w w' p)
  carries_under e e' (named {m = m} {m' = m'} p) = named (names_under m m' p)
  carries_under e e' begun = begun
  carries_under e e' mores = mores
  carries_under e e' dones = dones

  pub renaming_under : Renaming s t vc bc wc → Renaming s' t' vc bc wc
  unfolding renamed
  renaming_under r =
      record {
        types = λ v l.
            let h : v < length s.values = subst (λ (j : ℕ). v < j) (values_length types s) l in
            type_renamed types t (vc v) (r.typed v h) ∙ ap (present types) (r.types v h) ∙ sym (type_renamed types s v h);
        typed = λ v l. subst (λ (j : ℕ). vc v < j) (sym (values_length types t)) (r.typed v (subst (λ (j : ℕ). v < j) (values_length types s) l));
        values_once = λ a b la lb. r.values_once a b (subst (λ (j : ℕ). a < j) (values_length types s) la) (subst (λ (j : ℕ). b < j) (values_length types s) lb);
        blocks_once = r.blocks_once;
      }

  event_under : (e : Event) (N : Numbering) → EventKept s t vc bc wc e N → EventKept s' t' vc bc wc e N
  unfolding EventKept renamed op_at
  event_under (step (shell w)) N k = tt
  event_under (step (names m)) N k = k
  event_under (step (counted j)) N k = tt
  event_under more N k = tt
  event_under done N k = tt

  pub kept_under : (es : List Event) (N : Numbering) → Kept s t vc bc wc es N → Kept s' t' vc bc wc es N
  unfolding Kept
  kept_under [] N k = tt
  kept_under (e ∷ es) N k = (event_under e N k.0, subst (Kept s' t' vc bc wc es) (sym (numbers_renamed types s e N)) (kept_under es (numbered_by s e N) k.1))
