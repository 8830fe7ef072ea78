-- `octets::get` meets its contract: from the last byte to the first, n is what the bytes passed make.
use Rattle.std.proofs.Common.{◌≡◌, ℕ, ◌+◌, ◌-◌, ◌*◌, ◌≤◌, ◌<◌, ◌^◌, List, length, take, drop, length-drop, ◌∙◌, arith}
use native.Mathlib.Nat.{lt_of_lt_of_le}
use lib.Pow.{pow_mono}
use lib.ListN.{get_or, length-take}
use lib.Seq.{get_or-take, get_or-drop}
use Rattle.octets.specs.Octets.{number}
use Rattle.octets.specs.Theorems.{Bytes}
use Rattle.octets.proofs.Laws.{number-under, taken-under, taken-bytes, dropped-bytes}
use Rattle.octets.proofs.Laws.{none_left, one_more}
use Rattle.octets.proofs.get.Goals as goal

abbrev part : List ℕ → ℕ → ℕ → List ℕ
part s at width = take width (drop at s)

part_length : (s : List ℕ) (at width : ℕ) → at + width ≤ length s → length (part s at width) ≡ width
part_length s at width h = omega (arith, length-take width (drop at s), length-drop at s)

part_at : (s : List ℕ) (at width k : ℕ) → k < width → get_or (part s at width) k 0 ≡ get_or s (at + k) 0
part_at s at width k h = get_or-take width (drop at s) k 0 h ∙ get_or-drop at s k 0

-- what seven bytes make is below 2^56
small : (s : List ℕ) (at width k n : ℕ) → Bytes s → width ≤ 8 → at + width ≤ length s → 0 < k
    → n ≡ number (drop k (part s at width)) → n < 2 ^ 56
small s at width k n b w l h e =
    let xs = drop k (part s at width) in
    let r : 8 * length xs ≤ 56 = omega (arith, length-drop k (part s at width), part_length s at width l) in
    let under = number-under xs (dropped-bytes k _ (taken-bytes width (drop at s) (dropped-bytes at s b))) in
    rw e (lt_of_lt_of_le under (pow_mono r))

pub loop-k-init : goal.loop-k-init
loop-k-init c =
    let a = c.args in
    let l = part_length a.s.now a.at a.width c.requires.1 in
    none_left (part a.s.now a.at a.width) a.width (omega (arith, l))

pub overflow_mul-n : goal.overflow_mul-n
overflow_mul-n c =
    let a = c.args in
    let l = c.loop-k in
    let b : Bytes a.s.now = λ i. omega (arith, c.type_inv.s i) in
    omega (arith, small a.s.now a.at a.width l.k l.n b c.requires.0 c.requires.1 c.loop-k-test.true l.invariant)

pub overflow_add-n : goal.overflow_add-n
overflow_add-n c =
    let a = c.args in
    let l = c.loop-k in
    let b : Bytes a.s.now = λ i. omega (arith, c.type_inv.s i) in
    omega (
      arith,
      small a.s.now a.at a.width l.k l.n b c.requires.0 c.requires.1 c.loop-k-test.true l.invariant,
      c.type_inv.s (a.at + (l.k - 1)),
    )

pub loop-k-preserved : goal.loop-k-preserved
loop-k-preserved c =
    let l = c.loop-k in
    let a = c.args in
    let xs = part a.s.now a.at a.width in
    let b = part_at a.s.now a.at a.width (l.k - 1) (omega arith) in
    let n = part_length a.s.now a.at a.width c.requires.1 in
    let more = one_more xs l.k l.n (omega arith) (omega (arith, n)) l.invariant in
    rw (c.from.ensures, ← b) more

pub returns : goal.returns
returns c =
    let a = c.args in
    let z : c.loop-k.k ≡ 0 = omega arith in
    let e = rw z at c.loop-k.invariant in
    let b = dropped-bytes a.at a.s.now (λ i. omega (arith, c.type_inv.s i)) in
    (e, rw e (taken-under a.width (drop a.at a.s.now) b))
