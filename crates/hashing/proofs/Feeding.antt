-- To feed steps one after the other is to feed them all: each takes up the word and the numbering where the one before left them. A shell
-- feeds what its owner is, and an operation's names feed its operands and then its successors. Assumes nothing.
use Rattle.std.proofs.Common.{◌≡◌, ℕ, List, [], ◌∷◌, ◌++◌, sym, refl, ap, ◌∙◌, append_assoc, append-nil}
use Rattle.std.specs.List.{flat_map}
use Rattle.rules.specs.Store.{Store, op_at, regions_of}
use Rattle.rules.specs.declared.types.Owner.{Owner}
use Rattle.rules.specs.declared.types.Owner.TheVariants.{Op as of_op, Block as of_block}
use Rattle.rules.specs.Fragments.{Step, shell, names, counted, steps, step_defines}
use Rattle.rules.specs.declared.types.Sort.{Sort}
use Rattle.rules.specs.Shells.{shell_of}
use Rattle.rules.specs.declared.types.Ignore.{Ignore}
use Rattle.rules.specs.Types.{renamed}
use Rattle.rules.specs.Hash.{fnv_start, fnv_from, fnv, Numbering, no_numbers, numbered, head_bytes, shell_bytes, feeds, uncounted, list_bytes, all_bytes, hash}
use Rattle.rules.proofs.RenamedTypes.Renamed.{numbered_renamed, steps_renamed}
use Rattle.rules.proofs.Form.Hashes.{fnv_append}
use Rattle.fragments.specs.Options.{Options, renamed_under}
use Rattle.fragments.specs.Words.{Stands}
use Rattle.fragments.specs.Numbered.{numbered_all, values_in, blocks_in, Numbers}
use Rattle.hashing.specs.Walked.{Feeds, owner_bytes, value_bytes, block_bytes, FeedsOperands, FeedsSuccessors}
use Rattle.fragments.proofs.Counting.{numbers_none, numbers_then, numbers_counted}

bytes_append : (s : Store) (ig : Ignore) (xs ys : List Step) (N : Numbering) → all_bytes uncounted s ig (xs ++ ys) N ≡ all_bytes uncounted s ig xs N ++ all_bytes uncounted s ig ys (numbered_all s xs N)
unfolding numbered_all all_bytes
bytes_append s ig [] ys N = refl
bytes_append s ig (x ∷ xs) ys N =
    ap (λ (l : List ℕ). feeds uncounted s ig x N ++ l) (bytes_append s ig xs ys (numbered s x N))
    ∙ sym (append_assoc (feeds uncounted s ig x N) (all_bytes uncounted s ig xs (numbered s x N)) (all_bytes uncounted s ig ys (numbered_all s xs (numbered s x N))))

module _ (s : Store) (o : Options) where
  -- ---- what is numbered and what heads feed doesn't depend on types

  all_numbered : (xs : List Step) (N : Numbering) → numbered_all (renamed_under o s) xs N ≡ numbered_all s xs N
  unfolding numbered_all
  all_numbered [] N = refl
  all_numbered (x ∷ xs) N = all_numbered xs (numbered (renamed_under o s) x N) ∙ ap (numbered_all s xs) (numbered_renamed o.types s x N)

  head_bytes_lem : (own : Owner) → head_bytes (renamed_under o s) own ≡ head_bytes s own
  unfolding renamed head_bytes op_at regions_of
  head_bytes_lem (of_op n) = refl
  head_bytes_lem (of_block b) = refl

  -- ---- steps one after the other

  -- what steps feed, from a numbering on
  abbrev fed_by : List Step → Numbering → List ℕ
  fed_by xs N = all_bytes uncounted (renamed_under o s) o.ignore xs N

  steps_append : (xs ys : List Step) (N : Numbering) → fed_by (xs ++ ys) N ≡ fed_by xs N ++ fed_by ys (numbered_all s xs N)
  steps_append xs ys N = bytes_append (renamed_under o s) o.ignore xs ys N ∙ ap (λ (M : Numbering). fed_by xs N ++ fed_by ys M) (all_numbered xs N)

  pub fed_none : (ns : List ℕ) (w : ℕ) → Feeds s o [] ns ns w w
  unfolding all_bytes fnv_from
  fed_none ns w = record { numbers = numbers_none s ns; word = λ N h. refl }

  pub fed_then : (xs ys : List Step) {a b c : List ℕ} {w w₁ w₂ : ℕ} → Feeds s o xs a b w w₁ → Feeds s o ys b c w₁ w₂ → Feeds s o (xs ++ ys) a c w w₂
  fed_then xs ys {a} {b} {c} {w} {w₁} {w₂} f g =
      record {
        numbers = numbers_then s xs ys f.numbers g.numbers;
        word =
            λ N h.
            g.word (numbered_all s xs N) (f.numbers.stands N h)
            ∙ ap (λ (k : ℕ). fnv_from k (fed_by ys (numbered_all s xs N))) (f.word N h)
            ∙ sym (fnv_append w (fed_by xs N) (fed_by ys (numbered_all s xs N)))
            ∙ ap (fnv_from w) (sym (steps_append xs ys N));
      }

  -- ---- one step

  -- a shell: what its owner is goes into the word, and what it defines is numbered
  pub fed_shell : (own : Owner) {a b : List ℕ} {w w' : ℕ} → Numbers s (shell own ∷ []) a b → w' ≡ fnv_from w (owner_bytes s o own) → Feeds s o (shell own ∷ []) a b w w'
  unfolding all_bytes feeds owner_bytes
  fed_shell own {a} {b} {w} {w'} f e =
      let types : List ℕ = shell_bytes uncounted (shell_of (renamed_under o s) o.ignore own) in
      record { numbers = f; word = λ N h. e ∙ ap (λ (bs : List ℕ). fnv_from w (bs ++ types)) (sym (head_bytes_lem own)) ∙ ap (fnv_from w) (sym (append-nil (head_bytes (renamed_under o s) own ++ types))) }

  -- an operation's names: its operands, then its successors
  pub fed_names : (n : ℕ) {a : List ℕ} {w w₁ w₂ : ℕ} → FeedsOperands s a (op_at s n).operands w w₁ → FeedsSuccessors a (op_at s n).successors w₁ w₂ → Feeds s o (names n ∷ []) a a w w₂
  unfolding renamed op_at all_bytes feeds list_bytes numbered_all numbered values_in blocks_in step_defines
  fed_names n {a} {w} {w₁} {w₂} operands successors =
      record {
        numbers = record { long = refl; stands = λ N h. h; values = (numbers_none s a).values; blocks = (numbers_none s a).blocks };
        word = λ N h. word N h;
      }
    where
      word : (N : Numbering) → Stands s N a → w₂ ≡ fnv_from w (feeds uncounted (renamed_under o s) o.ignore (names n) N ++ [])
      word N h =
          let vs : List ℕ = flat_map (value_bytes N) (op_at s n).operands in
          let bs : List ℕ = flat_map (block_bytes N) (op_at s n).successors in
          successors s N h
          ∙ ap (λ (k : ℕ). fnv_from k bs) (operands N h)
          ∙ sym (fnv_append w vs bs)
          ∙ ap (fnv_from w) (sym (append-nil (vs ++ bs)))

  -- where a list begins nothing is fed and nothing numbered
  pub fed_counted : (k : ℕ) (xs : List Step) {a b : List ℕ} {w w' : ℕ} → Feeds s o xs a b w w' → Feeds s o (counted k ∷ xs) a b w w'
  unfolding all_bytes feeds numbered
  fed_counted k xs f = record { numbers = numbers_counted s k xs f.numbers; word = λ N h. f.word N h }

  -- ---- the whole

  pub fed_hash : (f : Sort) (n : ℕ) {a b : List ℕ} {v w : ℕ} → Stands s no_numbers a → v ≡ fnv_start → Feeds s o (steps s f n) a b v w → w ≡ hash (renamed_under o s) o.ignore f n
  unfolding hash fnv
  fed_hash f n h e d = d.word no_numbers h ∙ (λ i. fnv_from (e i) (fed_by (sym (steps_renamed o.types s f n) i) no_numbers))
