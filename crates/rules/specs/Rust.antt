-- pliron 0.20.0's src/irbuild/equivalence.rs as it stands, function by function, to be held beside the Rust text (rust/oracle/pliron). It
-- is in the Rust's order, but that what is called stands before what calls it.
-- Stand-ins: `Context` is the store, a `Ptr` or a `Value` a number; the three hash maps of `IrMapping` are the entries of a mapping;
-- `IgnoreConfig` is the ignore rule; `FxHasher` is FNV-1a. What a function is lent by `&mut` it takes, and gives back as it leaves it.
-- The Rust's recursion ends because the regions do; here the number of regions, one in another, that may still be entered falls.
-- Its agreement with 01 is stated in `Agreement`.
use Rattle.std.specs.Prelude.{ℕ, zero, suc, Bool, true, false, cond, not, ◌&&◌, ◌||◌, List, [], ◌∷◌, ◌++◌, eqb, leb, length, get_or, set, Option, None, Some}
use Rattle.rules.specs.Lists.{every, same_bool}
use Rattle.std.specs.List.{list_all, list_any, filter}
use Rattle.rules.specs.Store.{Store, op_at, block_at, type_of, ops_of, blocks_of, regions_of, results_of, arguments_of}
use Rattle.rules.specs.declared.types.Attribute.{Attribute}
use Rattle.rules.specs.Fragments.{levels}
use Rattle.rules.specs.declared.types.Sort.{Sort}
use Rattle.rules.specs.declared.types.Sort.TheVariants.{Op as op, Block as block, Region as region}
use Rattle.rules.specs.Shells.{ignored}
use Rattle.rules.specs.declared.types.Ignore.{Ignore}
use Rattle.rules.specs.Mapping.{Mapping, image}
use Rattle.rules.specs.Hash.{fnv_start, fnv_from, leaf, count, tag, flag}

-- ---- iterators

-- what `next` gives
unfoldable pub next : List ℕ → Option ℕ
next [] = None
next (x ∷ xs) = Some x

-- `l.by_ref().zip(r.by_ref())`, run to its end: the pairs that it gives, and what it leaves on each side
pub record Zipped : Type 0 where
  pub pairs : List (ℕ × ℕ)
  pub left : List ℕ
  pub right : List ℕ

-- an item is taken from the left, then one from the right; where the right has none, the item from the left is gone
unfoldable pub zip : List ℕ → List ℕ → Zipped
zip [] rs = record { pairs = []; left = []; right = rs }
zip (l ∷ ls) [] = record { pairs = []; left = ls; right = [] }
zip (l ∷ ls) (r ∷ rs) = record { pairs = (l, r) ∷ (zip ls rs).pairs; left = (zip ls rs).left; right = (zip ls rs).right }

-- `a != b` of two that `next` gave
unfoldable pub differ : Option ℕ → Option ℕ → Bool
differ None None = false
differ None (Some b) = true
differ (Some a) None = true
differ (Some a) (Some b) = not (eqb a b)

-- so many numbers from a on
unfoldable pub count_from : ℕ → ℕ → List ℕ
count_from a zero = []
count_from a (suc n) = a ∷ count_from (suc a) n

-- `0..n`
unfoldable pub up_to : ℕ → List ℕ
up_to n = count_from 0 n

-- ---- EqResult

-- the last is no answer of the Rust's: it stands for a panic, and for recursion that doesn't end
pub data EqResult : Type 0 where
  Eq : EqResult
  FirstNEQOps : ℕ → ℕ → EqResult
  FirstNEQRegions : ℕ → ℕ → EqResult
  FirstNEQBlocks : ℕ → ℕ → EqResult
  no_answer : EqResult

-- what a comparison answers, and the mapper as it leaves it
pub record Returned : Type 0 where
  pub result : EqResult
  pub mapper : Mapping

unfoldable pub answers : EqResult → Mapping → Returned
answers r m = record { result = r; mapper = m }

-- `match .. { EqResult::Eq => {} neq => return neq }`, and then the rest
unfoldable pub or_return : EqResult → Mapping → (Mapping → Returned) → Returned
or_return Eq m rest = rest m
or_return (FirstNEQOps l r) m rest = answers (FirstNEQOps l r) m
or_return (FirstNEQRegions l r) m rest = answers (FirstNEQRegions l r) m
or_return (FirstNEQBlocks l r) m rest = answers (FirstNEQBlocks l r) m
or_return no_answer m rest = answers no_answer m

unfoldable pub and_then : Returned → (Mapping → Returned) → Returned
and_then c rest = or_return c.result c.mapper rest

-- `for (l, r) in pairs { match f(l, r) { EqResult::Eq => {} neq => return neq } }`, and then `Eq`
unfoldable pub for_each : (ℕ → ℕ → Mapping → Returned) → List (ℕ × ℕ) → Mapping → Returned
for_each f [] m = answers Eq m
for_each f (p ∷ ps) m = and_then (f p.0 p.1 m) (for_each f ps)

-- ---- attributes_eq

-- `!(ignore_config.ignore_attr)(attr)`: "The oracle counts an inherent attribute as one of a kind that its ignore function never ignores."
unfoldable pub is_relevant : Ignore → Attribute → Bool
is_relevant ig a = not (ignored ig a)

-- `rhs_relevant.get(lhs_id)`
unfoldable pub get : ℕ → List Attribute → Option Attribute
get key [] = None
get key (a ∷ as') = cond (eqb key a.key) (Some a) (get key as')

-- `.is_some_and(|rhs_attr| lhs_attr == rhs_attr)`: an attribute "is its kind and content", and its flag
unfoldable pub is_some_and_equal : Attribute → Option Attribute → Bool
is_some_and_equal a None = false
is_some_and_equal a (Some b) = every (eqb a.kind b.kind ∷ eqb a.content b.content ∷ same_bool a.inherent b.inherent ∷ [])

unfoldable pub attributes_eq : Ignore → List Attribute → List Attribute → Bool
attributes_eq ig lhs rhs =
    let lhs_relevant = filter (is_relevant ig) lhs in
    let rhs_relevant = filter (is_relevant ig) rhs in
    cond (not (eqb (length lhs_relevant) (length rhs_relevant))) false
    (list_all (λ (a : Attribute). is_some_and_equal a (get a.key rhs_relevant)) lhs_relevant)

-- ---- op_eq_map

-- `mapper.map_value(l, r)` for each pair
unfoldable pub map_values : List (ℕ × ℕ) → List ℕ → List ℕ
map_values [] values = values
map_values (p ∷ ps) values = map_values ps (set values p.0 p.1)

-- `.any(|(l, r)| l.get_type(ctx) != r.get_type(ctx))`
unfoldable pub types_differ : Store → List (ℕ × ℕ) → Bool
types_differ s ps = list_any (λ (p : ℕ × ℕ). not (eqb (type_of s p.0) (type_of s p.1))) ps

unfoldable pub op_eq_map : Store → Ignore → ℕ → ℕ → Mapping → Returned
op_eq_map s ig lhs rhs mapper =
    let neq = answers (FirstNEQOps lhs rhs) mapper in
    let results = (zip (results_of s lhs) (results_of s rhs)).pairs in
    cond
    (not (eqb (op_at s lhs).kind (op_at s rhs).kind)
    || not (eqb (length (regions_of s lhs)) (length (regions_of s rhs)))
    || not (eqb (length (op_at s lhs).successors) (length (op_at s rhs).successors))
    || not (eqb (length (op_at s lhs).operands) (length (op_at s rhs).operands))
    || not (eqb (length (results_of s lhs)) (length (results_of s rhs))))
    neq
    (cond (not ig.locations && not (eqb (op_at s lhs).location (op_at s rhs).location)) neq
    (cond (not (attributes_eq ig (op_at s lhs).attributes (op_at s rhs).attributes)) neq
    (cond (types_differ s results) neq
    (answers Eq
    (record {
      values = map_values results mapper.values;
      blocks = mapper.blocks;
      ops = set mapper.ops lhs rhs;
    })))))

-- ---- op_eq_mapped, with what compares two regions

-- `mapper.lookup_value_or_default(l_opd) != r_opd || l_opd.get_type(ctx) != r_opd.get_type(ctx)`, of any pair
unfoldable pub operands_differ : Store → Mapping → List (ℕ × ℕ) → Bool
operands_differ s mapper ps =
    list_any (λ (p : ℕ × ℕ). not (eqb (image mapper.values p.0) p.1) || not (eqb (type_of s p.0) (type_of s p.1))) ps

-- `mapper.lookup_block_or_default(l_succ) != r_succ`, of any pair
unfoldable pub successors_differ : Mapping → List (ℕ × ℕ) → Bool
successors_differ mapper ps = list_any (λ (p : ℕ × ℕ). not (eqb (image mapper.blocks p.0) p.1)) ps

-- `get_region(region_idx)`; none past the end of an operation's regions, where it panics
unfoldable pub get_region : List ℕ → ℕ → Option ℕ
get_region [] i = None
get_region (r ∷ rs) zero = Some r
get_region (r ∷ rs) (suc i) = get_region rs i

unfoldable pub with_both : (ℕ → ℕ → Mapping → Returned) → Option ℕ → Option ℕ → Mapping → Returned
with_both f None r mapper = answers no_answer mapper
with_both f (Some l) None mapper = answers no_answer mapper
with_both f (Some l) (Some r) mapper = f l r mapper

-- `for region_idx in indices { match region_eq(lhs.get_region(region_idx), rhs.get_region(region_idx)) { .. } }`, and then `Eq`
unfoldable pub for_regions : (ℕ → ℕ → Mapping → Returned) → List ℕ → List ℕ → List ℕ → Mapping → Returned
for_regions region_eq lhs rhs [] mapper = answers Eq mapper
for_regions region_eq lhs rhs (i ∷ is) mapper =
    and_then (with_both region_eq (get_region lhs i) (get_region rhs i) mapper) (for_regions region_eq lhs rhs is)

unfoldable pub op_eq_mapped : Store → (ℕ → ℕ → Mapping → Returned) → ℕ → ℕ → Mapping → Returned
op_eq_mapped s region_eq lhs rhs mapper =
    let neq = answers (FirstNEQOps lhs rhs) mapper in
    cond (operands_differ s mapper (zip (op_at s lhs).operands (op_at s rhs).operands).pairs) neq
    (cond (successors_differ mapper (zip (op_at s lhs).successors (op_at s rhs).successors).pairs) neq
    (for_regions region_eq (regions_of s lhs) (regions_of s rhs) (up_to (length (regions_of s lhs))) mapper))

-- ---- block_eq_map

unfoldable pub block_eq_map : Store → Ignore → ℕ → ℕ → Mapping → Returned
block_eq_map s ig lhs rhs mapper =
    let neq = answers (FirstNEQBlocks lhs rhs) mapper in
    let args = (zip (arguments_of s lhs) (arguments_of s rhs)).pairs in
    cond (not (eqb (length (arguments_of s lhs)) (length (arguments_of s rhs)))) neq
    (cond (not ig.locations && not (eqb (block_at s lhs).location (block_at s rhs).location)) neq
    (cond (not (attributes_eq ig (block_at s lhs).attributes (block_at s rhs).attributes)) neq
    (cond (types_differ s args) neq
    (answers Eq
    (record {
      values = map_values args mapper.values;
      blocks = set mapper.blocks lhs rhs;
      ops = mapper.ops;
    })))))

-- ---- blocks_eq

-- `Result<EqResult, ()>`: "Returns `Err` only if the lists length differs."
pub data Result : Type 0 where
  Ok : EqResult → Result
  Err : Result

-- what it answers, and the mapper as it leaves it
pub record BlocksReturned : Type 0 where
  pub result : Result
  pub mapper : Mapping

unfoldable pub ok : Returned → BlocksReturned
ok c = record { result = Ok c.result; mapper = c.mapper }

-- `match .. { EqResult::Eq => {} neq => return Ok(neq) }`, and then the rest
unfoldable pub or_return_ok : EqResult → Mapping → (Mapping → BlocksReturned) → BlocksReturned
or_return_ok Eq m rest = rest m
or_return_ok (FirstNEQOps l r) m rest = ok (answers (FirstNEQOps l r) m)
or_return_ok (FirstNEQRegions l r) m rest = ok (answers (FirstNEQRegions l r) m)
or_return_ok (FirstNEQBlocks l r) m rest = ok (answers (FirstNEQBlocks l r) m)
or_return_ok no_answer m rest = ok (answers no_answer m)

-- "Pass 2: every block's ops and their results.": of one pair of blocks; `if l_ops.next() != r_ops.next()`, "Unequal lengths"
unfoldable pub ops_of_blocks : Store → Ignore → ℕ → ℕ → Mapping → Returned
ops_of_blocks s ig l r mapper =
    let z = zip (ops_of s l) (ops_of s r) in
    and_then (for_each (op_eq_map s ig) z.pairs mapper)
    (λ (m : Mapping). cond (differ (next z.left) (next z.right)) (answers (FirstNEQBlocks l r) m) (answers Eq m))

-- "Pass 3: full comparison of every op (operands, successors, regions).": of one pair of blocks
unfoldable pub full_ops_of_blocks : Store → (ℕ → ℕ → Mapping → Returned) → ℕ → ℕ → Mapping → Returned
full_ops_of_blocks s region_eq l r = for_each (op_eq_mapped s region_eq) (zip (ops_of s l) (ops_of s r)).pairs

-- "Pass 1: blocks and their arguments."; `if lhs_blocks_clone.next() != rhs_blocks_clone.next() { return Err(()); }`; passes 2 and 3
unfoldable pub blocks_eq : Store → Ignore → (ℕ → ℕ → Mapping → Returned) → List ℕ → List ℕ → Mapping → BlocksReturned
blocks_eq s ig region_eq lhs rhs mapper =
    let z = zip lhs rhs in
    let pass1 = for_each (block_eq_map s ig) z.pairs mapper in
    or_return_ok pass1.result pass1.mapper
    (λ (m : Mapping). cond (differ (next z.left) (next z.right)) (record { result = Err; mapper = m })
    (ok (and_then (for_each (ops_of_blocks s ig) z.pairs m) (for_each (full_ops_of_blocks s region_eq) z.pairs))))

-- ---- region_eq, basic_block_eq, operation_eq

-- `match blocks_eq(..) { Ok(eq) => eq, Err(()) => .. }`
unfoldable pub or_else : EqResult → Result → EqResult
or_else err (Ok r) = r
or_else err Err = err

unfoldable pub resolved : EqResult → BlocksReturned → Returned
resolved err c = answers (or_else err c.result) c.mapper

-- `Err(()) => EqResult::FirstNEQRegions((lhs, rhs))`
unfoldable pub region_eq : ℕ → Store → Ignore → ℕ → ℕ → Mapping → Returned
region_eq zero s ig lhs rhs mapper = answers no_answer mapper
region_eq (suc k) s ig lhs rhs mapper =
    resolved (FirstNEQRegions lhs rhs) (blocks_eq s ig (region_eq k s ig) (blocks_of s lhs) (blocks_of s rhs) mapper)

-- `once(lhs)`, `once(rhs)`; `.expect("blocks_eq only fails when the blocks list length differs")`
unfoldable pub basic_block_eq : Store → Ignore → ℕ → ℕ → Mapping → Returned
basic_block_eq s ig lhs rhs mapper = resolved no_answer (blocks_eq s ig (region_eq levels s ig) (lhs ∷ []) (rhs ∷ []) mapper)

unfoldable pub operation_eq : Store → Ignore → ℕ → ℕ → Mapping → Returned
operation_eq s ig lhs rhs mapper = and_then (op_eq_map s ig lhs rhs mapper) (op_eq_mapped s (region_eq levels s ig) lhs rhs)

-- by sort of fragment
unfoldable pub rust_eq : Store → Ignore → Sort → ℕ → ℕ → Mapping → Returned
rust_eq s ig op = operation_eq s ig
rust_eq s ig block = basic_block_eq s ig
rust_eq s ig region = region_eq levels s ig

-- ---- HashNumbering

-- a hash map from values or blocks to walk numbers, in order of insertion; `insert` overwrites the entry of a key that is there
unfoldable pub insert : ℕ → ℕ → List (ℕ × ℕ) → List (ℕ × ℕ)
insert k v [] = (k, v) ∷ []
insert k v (e ∷ es) = cond (eqb k e.0) ((k, v) ∷ es) (e ∷ insert k v es)

unfoldable pub lookup : ℕ → List (ℕ × ℕ) → Option ℕ
lookup k [] = None
lookup k (e ∷ es) = cond (eqb k e.0) (Some e.1) (lookup k es)

pub record HashNumbering : Type 0 where
  pub values : List (ℕ × ℕ)
  pub blocks : List (ℕ × ℕ)

-- `let id = self.values.len(); self.values.insert(v, id);`, and likewise of blocks
unfoldable pub define : List (ℕ × ℕ) → ℕ → List (ℕ × ℕ)
define entries k = insert k (length entries) entries

unfoldable pub define_all : List (ℕ × ℕ) → List ℕ → List (ℕ × ℕ)
define_all entries [] = entries
define_all entries (k ∷ ks) = define_all (define entries k) ks

-- what the hash functions are lent: `numbering` and `state`
pub record HashState : Type 0 where
  pub numbering : HashNumbering
  pub state : ℕ

-- `x.hash(state)`
unfoldable pub feed : List ℕ → HashState → HashState
feed bs h = record { numbering = h.numbering; state = fnv_from h.state bs }

-- `Some(id) => (0u8, id).hash(state)`, `None => (1u8, v).hash(state)`
unfoldable pub use_bytes : Option ℕ → ℕ → List ℕ
use_bytes None n = tag 1 ++ leaf n
use_bytes (Some id) n = tag 0 ++ count id

unfoldable pub hash_value : ℕ → HashState → HashState
hash_value v h = feed (use_bytes (lookup v h.numbering.values) v) h

unfoldable pub hash_block : ℕ → HashState → HashState
hash_block b h = feed (use_bytes (lookup b h.numbering.blocks) b) h

-- `for x in xs { f(x) }`
unfoldable pub for_in : {A : Type 0} → (A → HashState → HashState) → List A → HashState → HashState
for_in f [] h = h
for_in f (x ∷ xs) h = for_in f xs (f x h)

-- ---- attributes_hash

-- `relevant.sort_by_key(|(k, _)| *k)`
unfoldable pub insert_by_key : Attribute → List Attribute → List Attribute
insert_by_key a [] = a ∷ []
insert_by_key a (b ∷ bs) = cond (leb a.key b.key) (a ∷ b ∷ bs) (b ∷ insert_by_key a bs)

unfoldable pub sort_by_key : List Attribute → List Attribute
sort_by_key [] = []
sort_by_key (a ∷ as') = insert_by_key a (sort_by_key as')

-- `k.hash(state); attr.stable_hash(ctx, state);`
unfoldable pub hash_attribute : Attribute → HashState → HashState
hash_attribute a h = feed (leaf a.kind ++ leaf a.content ++ flag a.inherent) (feed (leaf a.key) h)

unfoldable pub attributes_hash : Ignore → List Attribute → HashState → HashState
attributes_hash ig attributes h =
    let relevant = sort_by_key (filter (is_relevant ig) attributes) in
    for_in hash_attribute relevant (feed (count (length relevant)) h)

-- ---- hash_op_shell, hash_op_full, hash_block_shell, hash_blocks_full

-- `if !ignore_config.ignore_loc { loc.stable_hash(ctx, state); }`
unfoldable pub hash_loc : Ignore → ℕ → HashState → HashState
hash_loc ig loc h = cond ig.locations h (feed (leaf loc) h)

unfoldable pub hash_type : Store → ℕ → HashState → HashState
hash_type s v h = feed (leaf (type_of s v)) h

unfoldable pub defining : List ℕ → List ℕ → HashState → HashState
defining bs vs h =
    record {
      numbering = record { values = define_all h.numbering.values vs; blocks = define_all h.numbering.blocks bs };
      state = h.state;
    }

unfoldable pub hash_op_shell : Store → Ignore → ℕ → HashState → HashState
hash_op_shell s ig n h =
    defining [] (results_of s n)
    (for_in (hash_type s) (results_of s n)
    (attributes_hash ig (op_at s n).attributes
    (hash_loc ig (op_at s n).location
    (feed (count (length (regions_of s n)))
    (feed (leaf (op_at s n).kind) h)))))

-- with what hashes the blocks of a region
unfoldable pub hash_op_full : Store → (List ℕ → HashState → HashState) → ℕ → HashState → HashState
hash_op_full s hash_blocks n h =
    for_in (λ (i : ℕ). hash_blocks (blocks_of s (get_or (regions_of s n) i 0))) (up_to (length (regions_of s n)))
    (for_in hash_block (op_at s n).successors
    (for_in hash_value (op_at s n).operands h))

unfoldable pub hash_block_shell : Store → Ignore → ℕ → HashState → HashState
hash_block_shell s ig b h =
    defining (b ∷ []) (arguments_of s b)
    (for_in (hash_type s) (arguments_of s b)
    (attributes_hash ig (block_at s b).attributes
    (hash_loc ig (block_at s b).location h)))

unfoldable pub hash_blocks_full : ℕ → Store → Ignore → List ℕ → HashState → HashState
hash_blocks_full zero s ig bs h = h
hash_blocks_full (suc k) s ig bs h =
    for_in (λ (b : ℕ). for_in (hash_op_full s (hash_blocks_full k s ig)) (ops_of s b)) bs
    (for_in (λ (b : ℕ). for_in (hash_op_shell s ig) (ops_of s b)) bs
    (for_in (hash_block_shell s ig) bs h))

-- ---- operation_hash, region_hash, basic_block_hash

unfoldable pub new_hash_state : HashState
new_hash_state = record { numbering = record { values = []; blocks = [] }; state = fnv_start }

unfoldable pub rust_hash : Store → Ignore → Sort → ℕ → ℕ
rust_hash s ig op n = (hash_op_full s (hash_blocks_full levels s ig) n (hash_op_shell s ig n new_hash_state)).state
rust_hash s ig block n = (hash_blocks_full (suc levels) s ig (n ∷ []) new_hash_state).state
rust_hash s ig region n = (hash_blocks_full levels s ig (blocks_of s n) new_hash_state).state
