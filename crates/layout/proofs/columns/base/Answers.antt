-- `base` meets its contract: each arm has where its column begins, by computation. Assumes nothing.
-- it is none of the numbers below n
use Prim.Native.Nat.{ℕ, zero, suc, ◌+◌, ◌<◌}
use native.Mathlib.Decide.{ℕ_discrete}
use native.Mathlib.Omega.{arith}
use mathlib.Core.Path.{◌≡◌, refl, sym, ap, ◌∙◌}
use Rattle.rules.specs.Lists.{sum}
use Rattle.layout.specs.Columns.{base}
use Rattle.layout.proofs.columns.base.Goals as goal

Rest : ℕ → ℕ → Type 0
Rest column zero = Unit {0}
Rest column (suc n) = Rest column n × (column ≡ n → ⊥)

only_left : (column n : ℕ) → Rest column n → column < n + 1 → column ≡ n
unfolding Rest
only_left column zero r l = omega arith
only_left column (suc n) r l = go (ℕ_discrete column (suc n)) (λ m. only_left column n r.0 m)
  where
    go : Dec (column ≡ suc n) → (column < n + 1 → column ≡ n) → column ≡ suc n
    go (yes e) below = e
    go (no ne) below = absurd (r.1 (below (omega arith)))

-- the column is k, which begins at b
begins : (column k b : ℕ) → column ≡ k → base k ≡ b → b ≡ base column
begins column k b e q = sym (ap base e ∙ q)

pub returns-in-0 : goal.returns-in-0
unfolding base sum
returns-in-0 c = begins c.args.column 0 0 c.in-0.is refl

pub returns-in-1 : goal.returns-in-1
unfolding base sum
returns-in-1 c = begins c.args.column 1 8 c.in-1.is refl

pub returns-in-2 : goal.returns-in-2
unfolding base sum
returns-in-2 c = begins c.args.column 2 520 c.in-2.is refl

pub returns-in-3 : goal.returns-in-3
unfolding base sum
returns-in-3 c = begins c.args.column 3 1032 c.in-3.is refl

pub returns-in-4 : goal.returns-in-4
unfolding base sum
returns-in-4 c = begins c.args.column 4 1544 c.in-4.is refl

pub returns-in-5 : goal.returns-in-5
unfolding base sum
returns-in-5 c = begins c.args.column 5 2056 c.in-5.is refl

pub returns-in-6 : goal.returns-in-6
unfolding base sum
returns-in-6 c = begins c.args.column 6 2568 c.in-6.is refl

pub returns-in-7 : goal.returns-in-7
unfolding base sum
returns-in-7 c = begins c.args.column 7 3080 c.in-7.is refl

pub returns-in-8 : goal.returns-in-8
unfolding base sum
returns-in-8 c = begins c.args.column 8 3592 c.in-8.is refl

pub returns-in-9 : goal.returns-in-9
unfolding base sum
returns-in-9 c = begins c.args.column 9 4104 c.in-9.is refl

pub returns-in-10 : goal.returns-in-10
unfolding base sum
returns-in-10 c = begins c.args.column 10 4616 c.in-10.is refl

pub returns-in-11 : goal.returns-in-11
unfolding base sum
returns-in-11 c = begins c.args.column 11 5128 c.in-11.is refl

pub returns-in-12 : goal.returns-in-12
unfolding base sum
returns-in-12 c = begins c.args.column 12 5640 c.in-12.is refl

pub returns-in-13 : goal.returns-in-13
unfolding base sum
returns-in-13 c = begins c.args.column 13 6152 c.in-13.is refl

pub returns-in-14 : goal.returns-in-14
unfolding base sum
returns-in-14 c = begins c.args.column 14 6664 c.in-14.is refl

pub returns-in-15 : goal.returns-in-15
unfolding base sum
returns-in-15 c = begins c.args.column 15 6920 c.in-15.is refl

pub returns-in-16 : goal.returns-in-16
unfolding base sum
returns-in-16 c = begins c.args.column 16 7176 c.in-16.is refl

pub returns-in-17 : goal.returns-in-17
unfolding base sum
returns-in-17 c = begins c.args.column 17 7432 c.in-17.is refl

pub returns-in-18 : goal.returns-in-18
unfolding base sum
returns-in-18 c = begins c.args.column 18 7688 c.in-18.is refl

pub returns-in-19 : goal.returns-in-19
unfolding base sum
returns-in-19 c = begins c.args.column 19 7944 c.in-19.is refl

pub returns-in-20 : goal.returns-in-20
unfolding base sum
returns-in-20 c = begins c.args.column 20 8200 c.in-20.is refl

pub returns-in-21 : goal.returns-in-21
unfolding base sum
returns-in-21 c = begins c.args.column 21 8456 c.in-21.is refl

pub returns-in-22 : goal.returns-in-22
unfolding base sum
returns-in-22 c = begins c.args.column 22 8712 c.in-22.is refl

pub returns-in-23 : goal.returns-in-23
unfolding base sum
returns-in-23 c = begins c.args.column 23 8968 c.in-23.is refl

pub returns-in-24 : goal.returns-in-24
unfolding base sum
returns-in-24 c = begins c.args.column 24 9224 c.in-24.is refl

pub returns-in-25 : goal.returns-in-25
unfolding base sum
returns-in-25 c = begins c.args.column 25 11272 c.in-25.is refl

pub returns-in-26 : goal.returns-in-26
unfolding base sum
returns-in-26 c = begins c.args.column 26 13320 c.in-26.is refl

pub returns-in-27 : goal.returns-in-27
unfolding base sum
returns-in-27 c = begins c.args.column 27 15368 c.in-27.is refl

pub returns-in-28 : goal.returns-in-28
unfolding base sum
returns-in-28 c = begins c.args.column 28 15880 c.in-28.is refl

pub returns-in-29 : goal.returns-in-29
unfolding base sum
returns-in-29 c = begins c.args.column 29 22024 c.in-29.is refl

pub returns-in-30 : goal.returns-in-30
unfolding base sum
returns-in-30 c = begins c.args.column 30 28168 c.in-30.is refl

pub returns-in-31 : goal.returns-in-31
unfolding base sum
returns-in-31 c = begins c.args.column 31 34312 c.in-31.is refl

pub returns-in-32 : goal.returns-in-32
unfolding base sum
returns-in-32 c = begins c.args.column 32 34824 c.in-32.is refl

pub returns-in-33 : goal.returns-in-33
unfolding base sum
returns-in-33 c = begins c.args.column 33 35080 c.in-33.is refl

pub returns-in-34 : goal.returns-in-34
unfolding base sum
returns-in-34 c = begins c.args.column 34 35088 c.in-34.is refl

pub returns-in-35 : goal.returns-in-35
unfolding base sum
returns-in-35 c = begins c.args.column 35 35096 c.in-35.is refl

pub returns-in-36 : goal.returns-in-36
unfolding base sum
returns-in-36 c = begins c.args.column 36 35160 c.in-36.is refl

pub returns-in-37 : goal.returns-in-37
unfolding base sum
returns-in-37 c = begins c.args.column 37 35168 c.in-37.is refl

pub returns-in-38 : goal.returns-in-38
unfolding base sum
returns-in-38 c = begins c.args.column 38 37216 c.in-38.is refl

pub returns-in-39 : goal.returns-in-39
unfolding base sum
returns-in-39 c = begins c.args.column 39 39264 c.in-39.is refl

pub returns-in-40 : goal.returns-in-40
unfolding base sum
returns-in-40 c = begins c.args.column 40 41312 c.in-40.is refl

pub returns-in_default : goal.returns-in_default
unfolding base sum Rest
returns-in_default c = begins c.args.column 41 43360 (only_left c.args.column 41 c.in_default.in_default-own.rest c.requires) refl
