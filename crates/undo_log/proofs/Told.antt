-- An entry that can't be undone leaves the buffer as it was; one that can is undone by what the rules do with it. Assumes nothing.
use Rattle.rules.specs.declared.types.Cause.TheVariants.{UnknownKind}
use Prim.Native.Nat.{ℕ}
use mathlib.Core.Bool.{Bool, true, false, cond, ◌&&◌}
use mathlib.Core.List.{List, [], ◌∷◌, map}
use Rattle.std.specs.Prelude.{Option, None, Some}
use mathlib.Core.Path.{◌≡◌, refl, sym, ap, ◌∙◌}
use lib.Dec.{leb}
use Rattle.std.specs.Prelude as std
use Rattle.std.specs.Result.{is_ok}
use Rattle.rules.specs.Lists.{every}
use Rattle.rules.specs.Store.{Store, max_attribute_kind}
use Rattle.rules.specs.declared.types.Attribute.{Attribute}
use Rattle.rules.specs.declared.types.Owner.{Owner}
use Rattle.rules.specs.Building.{Call, set_attribute, set_operand, accepted, refused, tests, first_failed, acceptance, answer_by, store_by, answer, built}
use Rattle.rules.proofs.Basics.Tests.{passed, clash, impossible}
use Rattle.layout.specs.Columns.{columns}
use Rattle.layout.specs.Reading.{store_in}
use Rattle.layout.specs.Soundness.{IsSound}
use Rattle.layout.proofs.Scans.{and_false}
use Rattle.rules.specs.declared.types.Cause.{Cause}
use Rattle.mutation.specs.Types.{done_of}
use Rattle.mutation.specs.Doing.{Behind, Performs}
use Rattle.layout.specs.Journal.{Entry, operand_was, attribute_was, key_was_none, undone, undoable}
use Rattle.undo_log.specs.Undoing.{Undid}

and_true : (t : Bool) → (t && true) ≡ t
and_true true = refl
and_true false = refl

pub undid_not : (b : List ℕ) → IsSound b → (e : Entry) → undoable e (store_in b) ≡ false → Undid b b e false
undid_not b h e q =
    record {
      told = sym q;
      reads = λ t. clash t refl;
      unchanged = λ t. refl;
      sound = h;
      behind = record { words = λ k l. refl; marks = refl; regions = λ n l. refl; results = λ n l. refl; arguments = λ m l. refl };
    }

pub undid_done : (b exit : List ℕ) (e : Entry) → undoable e (store_in b) ≡ true → store_in exit ≡ undone e (store_in b) → IsSound exit
    → Behind (columns b) (columns exit) → Undid b exit e true
undid_done b exit e can reads sound behind =
    record { told = sym can; reads = λ t. reads; unchanged = λ t. clash refl t; sound = sound; behind = behind }

-- ---- operands

-- the call was accepted
accepted_is : (r : std.Result (Unit {0}) Cause) → done_of r ≡ accepted → is_ok r ≡ true
unfolding done_of
accepted_is (std.Ok u) e = refl
accepted_is (std.Err k) e = impossible cc

refused_is : (r : std.Result (Unit {0}) Cause) (cause : Cause) → done_of r ≡ refused cause → is_ok r ≡ false
unfolding done_of
refused_is (std.Ok u) k e = impossible cc
refused_is (std.Err k') k e = refl

abbrev all_pass : List (Bool × Cause) → Bool
all_pass ts = every (map (λ (t : Bool × Cause). t.0) ts)

none_fails : (ts : List (Bool × Cause)) → first_failed ts ≡ None → all_pass ts ≡ true
unfolding first_failed every
none_fails [] e = refl
none_fails (t ∷ ts) e = go t.0 e (none_fails ts)
  where
    go : (b : Bool) → cond b (first_failed ts) (Some t.1) ≡ None → (first_failed ts ≡ None → all_pass ts ≡ true) → (b && all_pass ts) ≡ true
    go true q rest = rest q
    go false q rest = impossible cc

one_fails : (ts : List (Bool × Cause)) (cause : Cause) → first_failed ts ≡ Some cause → all_pass ts ≡ false
unfolding first_failed every
one_fails [] k e = impossible cc
one_fails (t ∷ ts) k e = go t.0 e (one_fails ts k)
  where
    go : (b : Bool) → cond b (first_failed ts) (Some t.1) ≡ Some k → (first_failed ts ≡ Some k → all_pass ts ≡ false) → (b && all_pass ts) ≡ false
    go true q rest = rest q
    go false q rest = refl

module _ (b exit : List ℕ) (n i v : ℕ) (r : std.Result (Unit {0}) Cause) where
  abbrev call : Call
  call = set_operand (record { operation = n; index = i; value = v })

  pub operand_undid : Performs b exit call (done_of r) → Undid b exit (operand_was n i v) (is_ok r)
  unfolding undoable undone answer built answer_by store_by acceptance
  operand_undid d = go (first_failed (tests (store_in b) call)) refl
    where
      ts : List (Bool × Cause)
      ts = tests (store_in b) call

      go : (o : Option Cause) → first_failed ts ≡ o → Undid b exit (operand_was n i v) (is_ok r)
      go None e =
          let yes : is_ok r ≡ true = accepted_is r (d.answered ∙ ap (λ (o : Option Cause). answer_by o (store_in b) call) e) in
          record {
            told = yes ∙ sym (none_fails ts e);
            reads = λ t. d.reads ∙ ap (λ (o : Option Cause). store_by o (store_in b) call) e;
            unchanged = λ t. clash yes t;
            sound = d.sound;
            behind = d.behind;
          }
      go (Some cause) e =
          let why : done_of r ≡ refused cause = d.answered ∙ ap (λ (o : Option Cause). answer_by o (store_in b) call) e in
          record {
            told = refused_is r cause why ∙ sym (one_fails ts cause e);
            reads = λ t. clash t (refused_is r cause why);
            unchanged = λ t. d.unchanged cause why;
            sound = d.sound;
            behind = d.behind;
          }

-- ---- attributes

module _ (b : List ℕ) (w : Owner) (a : Attribute) where
  abbrev s : Store
  s = store_in b

  -- without the key it can't be undone
  pub key_lacks : undoable (key_was_none w a.key) s ≡ false → undoable (attribute_was w a) s ≡ false
  unfolding undoable every
  key_lacks e = and_false (leb a.kind max_attribute_kind) _ e

  module _ (can : undoable (key_was_none w a.key) s ≡ true) where
    -- with it, whether it can is told by its kind alone
    by_kind : undoable (attribute_was w a) s ≡ leb a.kind max_attribute_kind
    unfolding undoable every
    by_kind = ap (λ (t : Bool). leb a.kind max_attribute_kind && t) can ∙ and_true (leb a.kind max_attribute_kind)

    tests_told : first_failed (tests s (set_attribute w a)) ≡ cond (leb a.kind max_attribute_kind) None (Some UnknownKind)
    unfolding undoable tests first_failed
    tests_told = let p = passed _ can in simp (p.0, p.1.0)

    pub attribute_undid : (exit : List ℕ) (r : std.Result (Unit {0}) Cause) → Performs b exit (set_attribute w a) (done_of r) → Undid b exit (attribute_was w a) (is_ok r)
    unfolding undone answer built answer_by store_by acceptance
    attribute_undid exit r d = go (leb a.kind max_attribute_kind) refl
      where
        go : (t : Bool) → leb a.kind max_attribute_kind ≡ t → Undid b exit (attribute_was w a) (is_ok r)
        go true e =
            let clear : first_failed (tests s (set_attribute w a)) ≡ None = tests_told ∙ ap (λ (t : Bool). cond t None (Some UnknownKind)) e in
            let yes : is_ok r ≡ true = accepted_is r (d.answered ∙ ap (λ (o : Option Cause). answer_by o s (set_attribute w a)) clear) in
            record {
              told = yes ∙ sym (by_kind ∙ e);
              reads = λ t. d.reads ∙ ap (λ (o : Option Cause). store_by o s (set_attribute w a)) clear;
              unchanged = λ t. clash yes t;
              sound = d.sound;
              behind = d.behind;
            }
        go false e =
            let fails : first_failed (tests s (set_attribute w a)) ≡ Some UnknownKind = tests_told ∙ ap (λ (t : Bool). cond t None (Some UnknownKind)) e in
            let why : done_of r ≡ refused UnknownKind = d.answered ∙ ap (λ (o : Option Cause). answer_by o s (set_attribute w a)) fails in
            record {
              told = refused_is r UnknownKind why ∙ sym (by_kind ∙ e);
              reads = λ t. clash t (refused_is r UnknownKind why);
              unchanged = λ t. d.unchanged UnknownKind why;
              sound = d.sound;
              behind = d.behind;
            }
