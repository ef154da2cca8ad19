-- The product of two words modulo 2^64 is made from products of their halves. Assumes nothing.
use Rattle.std.proofs.Common.{◌≡◌, ℕ, ◌+◌, ◌*◌, ◌/◌, ◌%◌, sym, refl, ap, ◌∙◌, add_assoc, mul_assoc, mul_comm, add-mul, add_comm, div-add-mod', mul-add, mul_left_comm}
use native.Mathlib.Nat.{add_left_comm, add-mod-mod, mul-add-mod_self_right}
use Rattle.rules.proofs.Basics.Modulo.{left_mod}

-- of two numbers with the digits h, l and i, k to the base P
digits : (P h l i k : ℕ) → h * i * (P * P) + (l * k + (l * i + h * k) * P) ≡ (h * P + l) * (i * P + k)
digits P h l i k = simp (mul-add, add-mul, mul_assoc, mul_comm, mul_left_comm, add_assoc, add_comm, add_left_comm) refl

pub by_halves : (P a b : ℕ)
    → (a % P * (b % P) + ((a % P * (b / P) + a / P * (b % P)) % (P * P) * P) % (P * P)) % (P * P) ≡ (a * b) % (P * P)
by_halves P a b =
    let bottom : ℕ = a % P * (b % P) in
    let mixed : ℕ = a % P * (b / P) + a / P * (b % P) in
    let whole : a / P * (b / P) * (P * P) + (bottom + mixed * P) ≡ a * b =
    digits P (a / P) (a % P) (b / P) (b % P) ∙ simp (div-add-mod' a P, div-add-mod' b P) in
    ap (λ (n : ℕ). (bottom + n) % (P * P)) (left_mod mixed P (P * P))
    ∙ add-mod-mod bottom (mixed * P) (P * P)
    ∙ sym (mul-add-mod_self_right (a / P * (b / P)) (P * P) (bottom + mixed * P))
    ∙ ap (λ (n : ℕ). n % (P * P)) whole
