-- `integer::signs::sign_bits` meets its contract: the highest bits of a small number are those of its sign.
use Rattle.std.proofs.Common.{◌≡◌, ℕ, suc, ◌+◌, ◌-◌, ◌*◌, ◌/◌, ◌^◌, ◌<◌, ◌≤◌, Bool, true, false, cond, refl, sym, ap, ◌∙◌, ℤ, pos, nat_abs, arith, w64, SFits, of_z, to_z-of_z}
use lib.IntN.{negsuc}
use lib.Pow.{pow_pos, pow_mono, pow-add}
use lib.Dec.{leb-suc-zero}
use lib.Signed.{lt_z}
use mir.ValLaws.{to_z_pos}
use Rattle.std.proofs.lemmas.Nat.{div-mul-add, div_below}
use Rattle.integer.proofs.signs.sign_bits.Goals as goal

-- the whole part of a number a little below j + 1 times d
below : (d j a : ℕ) → suc j * d ≡ 2 ^ 64 → a < d → (2 ^ 64 - suc a) / d ≡ j
below d j a e h =
    let s : 2 ^ 64 - suc a ≡ j * d + (d - suc a) = omega arith in
    rw s (div-mul-add j d (d - suc a) (omega arith))

high : (z : ℤ) (k : ℕ) → 1 ≤ k → k ≤ 21 → nat_abs z ≤ 2 ^ 42
    → of_z w64 z / 2 ^ (64 - k) ≡ cond (lt_z z (pos 0)) (2 ^ k - 1) 0
high (pos a) k l m h =
    let least = pow_mono {i = 43} {j = 64 - k} (omega arith) in
    let none : a / 2 ^ (64 - k) ≡ 0 =
    omega (arith, div_below a (2 ^ (64 - k)) 1 (pow_pos (64 - k)) (omega (arith, least))) in
    rw (none, leb-suc-zero a) refl
high (negsuc a) k l m h =
    let least = pow_mono {i = 43} {j = 64 - k} (omega arith) in
    let one : suc (2 ^ k - 1) ≡ 2 ^ k = omega (arith, pow_pos k) in
    let sum : k + (64 - k) ≡ 64 = omega arith in
    let whole : suc (2 ^ k - 1) * 2 ^ (64 - k) ≡ 2 ^ 64 =
    ap (λ (x : ℕ). x * 2 ^ (64 - k)) one ∙ sym (pow-add 2 k (64 - k)) ∙ ap (λ (x : ℕ). 2 ^ x) sum in
    below (2 ^ (64 - k)) (2 ^ k - 1) a whole (omega (arith, least))

few : (n k : ℕ) → n < 2 ^ 64 → k ≤ 21 → n / 2 ^ (64 - k) < 2 ^ 63
few n k h m =
    let least = pow_mono {i = 1} {j = 64 - k} (omega arith) in
    div_below n (2 ^ (64 - k)) (2 ^ 63) (pow_pos (64 - k)) (omega (arith, least))

shown : (below_zero : Bool) (x b : ℕ) → b ≡ cond below_zero x 0 → pos b ≡ cond below_zero (pos x) (pos 0)
shown true x b e = ap pos e
shown false x b e = ap pos e

pub overflow_cast-result-2 : goal.overflow_cast-result-2
overflow_cast-result-2 g c = record { sfits = few c.cast_unsigned.result g.row.BITS (omega arith) (omega arith) }

pub returns : goal.returns
returns g c =
    let u = c.args.u.n in
    let k = g.row.BITS in
    let n = c.cast_unsigned.result in
    let f : SFits w64 u = record { sfits = omega arith } in
    let e = rw (to_z-of_z f) at c.cast_unsigned.ensures in
    rw (to_z_pos w64 (n / 2 ^ (64 - k)) (few n k (omega arith) (omega arith)))
    (shown (lt_z u (pos 0)) (2 ^ k - 1) (n / 2 ^ (64 - k))
    (ap (λ (x : ℕ). x / 2 ^ (64 - k)) e ∙ high u k (omega arith) (omega arith) (omega arith)))
