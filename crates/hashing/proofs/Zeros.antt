-- A byte that is 0 only multiplies the word. So to feed a number below 256 is to xor it in and to multiply once, by a power of the prime; and
-- the power may be taken modulo 2^64. Assumes nothing.
use Rattle.std.proofs.Common.{◌≡◌, ℕ, zero, suc, ◌*◌, ◌/◌, ◌%◌, ◌^◌, ◌<◌, sym, ap, ◌∙◌, mul_assoc, mul_comm, pow-suc, mul-one, arith}
use lib.Bits.{bit_xor, xor_zero_r}
use Rattle.rules.specs.Hash.{fnv_prime, fnv_from, fnv_byte, bytes}
use Rattle.rules.proofs.Basics.Modulo.{left_mod, right_mod}
use Rattle.hashing.proofs.Halves.{fed_in_two}

-- k bytes that are 0
zeros : (k x : ℕ) → fnv_from (x % 2 ^ 64) (bytes k 0) ≡ (x * fnv_prime ^ k) % 2 ^ 64
unfolding fnv_from fnv_byte bytes
zeros zero x = ap (λ (n : ℕ). n % 2 ^ 64) (sym (mul-one x))
zeros (suc k) x =
    let fed : (bit_xor (x % 2 ^ 64) 0 * fnv_prime) % 2 ^ 64 ≡ (x * fnv_prime) % 2 ^ 64 = ap (λ (n : ℕ). (n * fnv_prime) % 2 ^ 64) (xor_zero_r (x % 2 ^ 64)) ∙ left_mod x fnv_prime (2 ^ 64) in
    let power : x * fnv_prime * fnv_prime ^ k ≡ x * fnv_prime ^ suc k = mul_assoc x fnv_prime (fnv_prime ^ k) ∙ ap (λ (n : ℕ). x * n) (mul_comm fnv_prime (fnv_prime ^ k) ∙ sym (pow-suc fnv_prime k)) in
    ap (λ (w : ℕ). fnv_from w (bytes k 0)) fed ∙ zeros k (x * fnv_prime) ∙ ap (λ (n : ℕ). n % 2 ^ 64) power

-- a number below 256, and k bytes that are 0 behind it
pub small : (k w n : ℕ) → n < 256 → fnv_from w (bytes (suc k) n) ≡ (bit_xor w n * (fnv_prime ^ suc k % 2 ^ 64)) % 2 ^ 64
unfolding fnv_from fnv_byte bytes
small k w n h =
    let low : n % 256 ≡ n = omega arith in
    let high : n / 256 ≡ 0 = omega arith in
    let power : bit_xor w n * fnv_prime * fnv_prime ^ k ≡ bit_xor w n * fnv_prime ^ suc k = mul_assoc (bit_xor w n) fnv_prime (fnv_prime ^ k) ∙ ap (λ (m : ℕ). bit_xor w n * m) (mul_comm fnv_prime (fnv_prime ^ k) ∙ sym (pow-suc fnv_prime k)) in
    rw (low, high) (zeros k (bit_xor w n * fnv_prime) ∙ ap (λ (m : ℕ). m % 2 ^ 64) power ∙ sym (right_mod (bit_xor w n) (fnv_prime ^ suc k) (2 ^ 64)))

-- a number of two bytes, and k bytes that are 0 behind them
pub two : (k w n : ℕ) {fed : ℕ} → n < 65536 → fed ≡ fnv_from w (bytes 1 (n % 256)) → fnv_from w (bytes (suc (suc k)) n) ≡ (bit_xor fed (n / 256) * (fnv_prime ^ suc k % 2 ^ 64)) % 2 ^ 64
unfolding fnv_from bytes
two k w n {fed} h e =
    let byte : n % 256 % 256 ≡ n % 256 = omega arith in
    let first : fed ≡ fnv_byte w (n % 256) = e ∙ ap (λ (b : ℕ). fnv_byte w b) byte in
    small k (fnv_byte w (n % 256)) (n / 256) (omega arith) ∙ ap (λ (x : ℕ). (bit_xor x (n / 256) * (fnv_prime ^ suc k % 2 ^ 64)) % 2 ^ 64) (sym first)

-- a number of four bytes, and four bytes that are 0 behind it
pub upper : (w n : ℕ) {fed r : ℕ} → n < 4294967296 → fed ≡ fnv_from w (bytes 4 n) → r ≡ (fed * (fnv_prime ^ 4 % 2 ^ 64)) % 2 ^ 64 → r ≡ fnv_from w (bytes 8 n)
upper w n {fed} {r} h e q =
    let low : n % 256 ^ 4 ≡ n = omega arith in
    let high : n / 256 ^ 4 ≡ 0 = omega arith in
    let none : r ≡ fnv_from fed (bytes 4 0) = q ∙ ap (λ (x : ℕ). (x * (fnv_prime ^ 4 % 2 ^ 64)) % 2 ^ 64) (sym (xor_zero_r fed)) ∙ sym (small 3 fed 0 (omega arith)) in
    fed_in_two 4 w n (e ∙ ap (λ (k : ℕ). fnv_from w (bytes 4 k)) (sym low)) (none ∙ ap (λ (k : ℕ). fnv_from fed (bytes 4 k)) (sym high))
