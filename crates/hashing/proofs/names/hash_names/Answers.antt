-- `hash_names` meets its contract: the operands and then the successors go into the word, and nothing is numbered. Assumes nothing.
use Rattle.std.proofs.Common.{◌≡◌, ℕ, ◌<◌, true, ltb, List, length, get_or, sym, ap, ◌∙◌, subst, rules}
use Rattle.std.specs.List.{list_all, flat_map}
use Rattle.rules.specs.Store.{Store, op_at}
use Rattle.rules.specs.Hash.{fnv_from, Numbering, name_of, name_bytes}
use Rattle.layout.specs.Reading.{value_count, store_in}
use Rattle.layout.specs.Columns.{columns}
use Rattle.layout.proofs.Tabulate.{ops_length, values_length}
use Rattle.fragments.specs.Words.{Stands, NamesValue, NamesBlock}
use Rattle.rules.specs.declared.types.Name.{Name}
use Rattle.hashing.specs.Walked.{value_bytes, block_bytes}
use Rattle.hashing.proofs.Feeding.{fed_names}
use Rattle.hashing.proofs.Naming.{entries_below}
use Rattle.fragments.proofs.Rounds.{operands_there, successors_few}
use Rattle.hashing.proofs.names.hash_names.Goals as goal

named_block : (s : Store) (N : Numbering) {numbers : List ℕ} → Stands s N numbers → (n : ℕ) (r x : Name) → NamesBlock numbers n r → x ≡ r → x ≡ name_of N.blocks n
named_block s N h n r x named e = e ∙ named s N h

pub hash_uses-requires : goal.hash_uses-requires
hash_uses-requires c =
    let C = columns c.args.store.now in
    let S = store_in c.args.store.now in
    let n = c.args.n in
    let l : n < length S.ops = subst (λ (k : ℕ). n < k) (sym (ops_length C)) c.requires.n_bound in
    let there : list_all (λ (v : ℕ). ltb v (value_count C)) (op_at S n).operands ≡ true =
    subst (λ (k : ℕ). list_all (λ (v : ℕ). ltb v k) (op_at S n).operands ≡ true) (values_length C) (operands_there S c.requires.sound.ruled n l) in
    let here : (k d : ℕ) → k < length c.operands_of.result.now → get_or c.operands_of.result.now k d < value_count C =
    rw c.operands_of.ensures (entries_below (value_count C) (op_at S n).operands there) in
    search rules

pub hash_uses-requires-2 : goal.hash_uses-requires-2
hash_uses-requires-2 c =
    let S = store_in c.args.store.now in
    let n = c.args.n in
    let l : n < length S.ops = subst (λ (k : ℕ). n < k) (sym (ops_length (columns c.args.store.now))) c.requires.n_bound in
    let here : (k d : ℕ) → k < length c.successors_of.result.now → get_or c.successors_of.result.now k d < 256 =
    rw c.successors_of.ensures (entries_below 256 (op_at S n).successors (successors_few S c.requires.sound.ruled n l)) in
    search rules

pub returns : goal.returns
returns c =
    let S = store_in c.args.store.now in
    λ o. fed_names S o c.args.n
    (λ N h. c.hash_uses.ensures (value_bytes N) (λ n x p. let named : NamesValue S c.args.numbers.now n x = search rules in ap name_bytes (named N h)) ∙ ap (λ (xs : List ℕ). fnv_from c.args.state.now.word (flat_map (value_bytes N) xs)) c.operands_of.ensures)
    (λ s N h. c.hash_uses-2.ensures (block_bytes N) (λ n x p. let named : x ≡ name_of N.blocks n = search (rules, named_block s N h) in ap name_bytes named) ∙ ap (λ (xs : List ℕ). fnv_from c.hash_uses.new.state.word (flat_map (block_bytes N) xs)) c.successors_of.ensures)
