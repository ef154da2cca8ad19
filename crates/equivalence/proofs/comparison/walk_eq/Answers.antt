-- `walk_eq` meets its contract, sort by sort. Assumes nothing.
use mathlib.Core.Bool.{true}
use mathlib.Core.Path.{◌≡◌, sym, subst}
use Rattle.rules.specs.Fragments.{exists}
use Rattle.rules.specs.declared.types.Sort.TheVariants.{Op as op, Block as block, Region as region}
use Rattle.rules.specs.Comparison.{Walk}
use Rattle.layout.specs.Columns.{columns}
use Rattle.layout.specs.Reading.{store_in}
use Rattle.fragments.specs.Order.{BlocksExist}
use Rattle.fragments.specs.View.{options_in}
use Rattle.fragments.proofs.There.{there}
use Rattle.equivalence.specs.Compares.{state_of, PairedFits}
use Rattle.equivalence.specs.Compares.{Compares}
use Rattle.equivalence.specs.Walked.{left_of, right_of}
use Rattle.equivalence.proofs.Answering.{few_walk, block_walk, region_walk_lem}
use Rattle.equivalence.proofs.comparison.walk_eq.Goals as goal

pub ops_eq-requires : goal.ops_eq-requires
ops_eq-requires c =
    let a = c.args in
    let b = a.view.now.store.now in
    let sort = c.in-Op.is in
    let el = subst (λ x. exists (store_in b) x a.of.lhs ≡ true) sort c.requires.lhs_value in
    let er = subst (λ x. exists (store_in b) x a.of.rhs ≡ true) sort c.requires.rhs_value in
    let few = few_walk (store_in b) c.args.view.now.readable.sound.ruled (options_in a.view.now) op a.of.lhs a.of.rhs el a.mapping.now in
    record {
      lhs_bound = there (columns b) op a.of.lhs el;
      rhs_bound = there (columns b) op a.of.rhs er;
      paired_fits = few;
    }

pub blocks_eq-requires : goal.blocks_eq-requires
unfolding BlocksExist left_of right_of
blocks_eq-requires c =
    let a = c.args in
    let b = a.view.now.store.now in
    let o = options_in a.view.now in
    let sort = c.in-Block.is in
    let el = subst (λ x. exists (store_in b) x a.of.lhs ≡ true) sort c.requires.lhs_value in
    let er = subst (λ x. exists (store_in b) x a.of.rhs ≡ true) sort c.requires.rhs_value in
    let few = few_walk (store_in b) c.args.view.now.readable.sound.ruled o block a.of.lhs a.of.rhs el a.mapping.now in
    record {
      lists_exist = (there (columns b) block a.of.lhs el, there (columns b) block a.of.rhs er);
      paired_fits = subst (λ (w : Walk). PairedFits w) (block_walk (store_in b) o a.of.lhs a.of.rhs (state_of a.mapping.now 0)) few;
    }

pub region_eq-requires : goal.region_eq-requires
region_eq-requires c =
    let a = c.args in
    let b = a.view.now.store.now in
    let o = options_in a.view.now in
    let sort = c.in-Region.is in
    let el = subst (λ x. exists (store_in b) x a.of.lhs ≡ true) sort c.requires.lhs_value in
    let er = subst (λ x. exists (store_in b) x a.of.rhs ≡ true) sort c.requires.rhs_value in
    let few = few_walk (store_in b) c.args.view.now.readable.sound.ruled o region a.of.lhs a.of.rhs el a.mapping.now in
    record {
      lhs_bound = there (columns b) region a.of.lhs el;
      rhs_bound = there (columns b) region a.of.rhs er;
      paired_fits = subst (λ (w : Walk). PairedFits w) (region_walk_lem (store_in b) o a.of.lhs a.of.rhs (state_of a.mapping.now 0)) few;
    }

pub returns-in-Op : goal.returns-in-Op
returns-in-Op c = rw c.in-Op.is c.ops_eq.ensures

pub returns-in-Block : goal.returns-in-Block
returns-in-Block c =
    let a = c.args in
    let r = c.blocks_eq in
    rw c.in-Block.is
    (subst (λ (w : Walk). Compares w r.result r.new.mapping) (sym (block_walk (store_in a.view.now.store.now) (options_in a.view.now) a.of.lhs a.of.rhs (state_of a.mapping.now 0))) r.ensures)

pub returns-in-Region : goal.returns-in-Region
returns-in-Region c =
    let a = c.args in
    let r = c.region_eq in
    rw c.in-Region.is
    (subst (λ (w : Walk). Compares w r.result r.new.mapping) (sym (region_walk_lem (store_in a.view.now.store.now) (options_in a.view.now) a.of.lhs a.of.rhs (state_of a.mapping.now 0))) r.ensures)
