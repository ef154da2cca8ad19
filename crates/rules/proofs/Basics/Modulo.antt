-- A factor may be taken modulo m before a product is. Assumes nothing.
use Prim.Native.Nat.{ℕ, ◌+◌, ◌*◌, ◌/◌, ◌%◌}
use native.Mathlib.Nat.{mul_assoc, mul_comm, add-mul, div-add-mod', mul-add-mod_self_right, mod-add-mod}
use mathlib.Core.Path.{◌≡◌, sym, ap, ◌∙◌}

pub left_mod : (a b m : ℕ) → (a % m * b) % m ≡ (a * b) % m
left_mod a b m =
    let q = a / m in
    let turned : q * b * m ≡ q * m * b = mul_assoc q b m ∙ ap (λ (n : ℕ). q * n) (mul_comm b m) ∙ sym (mul_assoc q m b) in
    let whole : q * b * m + a % m * b ≡ a * b =
    ap (λ (n : ℕ). n + a % m * b) turned ∙ sym (add-mul (q * m) (a % m) b) ∙ ap (λ (n : ℕ). n * b) (div-add-mod' a m) in
    sym (mul-add-mod_self_right (q * b) m (a % m * b)) ∙ ap (λ (n : ℕ). n % m) whole

pub right_mod : (a b m : ℕ) → (a * (b % m)) % m ≡ (a * b) % m
right_mod a b m = ap (λ (n : ℕ). n % m) (mul_comm a (b % m)) ∙ left_mod b a m ∙ ap (λ (n : ℕ). n % m) (mul_comm b a)

-- one product and one sum
pub step_mod : (x p w m : ℕ) → (x % m * p + w) % m ≡ (x * p + w) % m
step_mod x p w m = sym (mod-add-mod (x % m * p) m w) ∙ ap (λ (n : ℕ). (n + w) % m) (left_mod x p m) ∙ mod-add-mod (x * p) m w
