-- A key that fits is written: the fragment exists, so no test fails. Assumes nothing.
use mathlib.Core.Bool.{true}
use Rattle.std.specs.Prelude.{None}
use mathlib.Core.Path.{◌≡◌, refl}
use borrow.Author.Tests.{le-leb}
use lib.ListN.{length}
use Rattle.rules.specs.Building.{first_failed}
use Rattle.rules.specs.Keys.{key, key_tests, keyed_by, keyed}
use Rattle.rules.specs.Types.{renamed}
use Rattle.rules.specs.KeyLaws.{KeyedIs}
use Rattle.rules.proofs.Soundness.Accepted.{all_passed}

pub keyed_is : KeyedIs
unfolding KeyedIs keyed keyed_by key_tests
keyed_is s sd types th ig f n bytes e l =
    let t : first_failed (key_tests true s types ig f n (length bytes)) ≡ None =
    all_passed _ (refl, (th, (e, (le-leb (length (key (renamed types s) ig f n)) (length bytes) l, tt)))) in
    rw t
