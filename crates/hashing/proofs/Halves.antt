-- To feed a number's low bytes and then its high bytes is to feed all its bytes, since the lowest byte goes first. Assumes nothing.
use Rattle.std.proofs.Common.{◌≡◌, ℕ, zero, suc, ◌+◌, ◌*◌, ◌/◌, ◌%◌, ◌^◌, ◌<◌, sym, ap, ◌∙◌, mod-lt, mul_assoc, suc-add, pow-suc, div-add-mod', arith}
use native.Mathlib.Nat.{one-le-pow}
use Rattle.rules.specs.Hash.{fnv_from, fnv_byte, bytes}

-- a number of j low bytes and k high ones
low_first : (j k w high low : ℕ) → low < 256 ^ j → fnv_from w (bytes (j + k) (high * 256 ^ j + low)) ≡ fnv_from (fnv_from w (bytes j low)) (bytes k high)
unfolding bytes fnv_from
low_first zero k w high low h =
    let none : zero + k ≡ k = omega arith in
    let whole : high * 256 ^ zero + low ≡ high = omega arith in
    rw (none, whole)
low_first (suc j) k w high low h =
    let above : high * 256 ^ suc j ≡ high * 256 ^ j * 256 = ap (λ (p : ℕ). high * p) (pow-suc 256 j) ∙ sym (mul_assoc high (256 ^ j) 256) in
    let one_byte : (high * 256 ^ suc j + low) % 256 ≡ low % 256 = omega arith in
    let others : (high * 256 ^ suc j + low) / 256 ≡ high * 256 ^ j + low / 256 = omega arith in
    let fewer : low / 256 < 256 ^ j = omega (arith, pow-suc 256 j) in
    rw (suc-add, one_byte, others) (low_first j k (fnv_byte w (low % 256)) high (low / 256) fewer)

-- a number fed as its low half and then its high half, each of k bytes
pub fed_in_two : (k word n : ℕ) {fed r : ℕ} → fed ≡ fnv_from word (bytes k (n % 256 ^ k)) → r ≡ fnv_from fed (bytes k (n / 256 ^ k)) → r ≡ fnv_from word (bytes (k + k) n)
fed_in_two k word n {fed} {r} e f =
    f ∙ ap (λ (w : ℕ). fnv_from w (bytes k (n / 256 ^ k))) e
    ∙ sym (low_first k k word (n / 256 ^ k) (n % 256 ^ k) (mod-lt n (one-le-pow k 256 (omega arith))))
    ∙ ap (λ (m : ℕ). fnv_from word (bytes (k + k) m)) (div-add-mod' n (256 ^ k))
