-- Integers as differences of naturals, for `omega`, which reads ℕ alone: z is `up z` less `dn z`.
-- `+v a b`, `-v a b`, `*v a b` tell the parts of an operation's result; by `Zs` omega reads facts of ℤ.
-- Assumes nothing.
use mathlib.Core.Path.{◌≡◌, refl, sym, ap, subst, ◌∙◌}
use mathlib.Core.Bool.{Bool, true, false, not, cond}
use Prim.Native.Nat.{ℕ, zero, suc, ◌+◌, ◌*◌, ◌-◌, ◌^◌, ◌≤◌, ◌<◌}
use native.Mathlib.Omega.{arith}
use lib.IntN.{ℤ, pos, negsuc, neg_ℤ, nat_abs, sub_ℕ, ◌+ℤ◌, ◌-ℤ◌, ◌*ℤ◌}
use lib.Signed.{mag, non_neg, ◌≤ℤ◌, ◌<ℤ◌, le_z, lt_z, lt_z_yes, lt_z_no, le_z_yes, nat_abs-le}
use lib.Dec.{T, ltb, ltb→lt, lt→ltb, leb→le, le→leb}
use borrow.Author.Tests.{ltb-true, ltb-false, leb-false}
use mir.Syntax.{Width}
use mir.Val.{SFits, hbits, to_z, of_z}
use mir.Facts.{to_z-of_z}
use Rattle.integer.specs.Parts.{up, dn}

-- ---- the operations
subv' : (t : Bool) (a b : ℕ) → ltb a b ≡ t
    → up (cond t (negsuc (b - suc a)) (pos (a - b))) + b ≡ dn (cond t (negsuc (b - suc a)) (pos (a - b))) + a
subv' true a b e = omega (arith, ltb-true)
subv' false a b e = omega (arith, ltb-false)

pub subv : (a b : ℕ) → up (sub_ℕ a b) + b ≡ dn (sub_ℕ a b) + a
subv a b = subv' (ltb a b) a b refl

pub negv : (z : ℤ) → (up (neg_ℤ z) ≡ dn z) × (dn (neg_ℤ z) ≡ up z)
negv (pos zero) = (refl, refl)
negv (pos (suc n)) = (refl, refl)
negv (negsuc n) = (refl, refl)

pub +v : (a b : ℤ) → up (a +ℤ b) + (dn a + dn b) ≡ dn (a +ℤ b) + (up a + up b)
+v (pos a) (pos b) = omega arith
+v (pos a) (negsuc b) = omega (arith, subv a (suc b))
+v (negsuc a) (pos b) = omega (arith, subv b (suc a))
+v (negsuc a) (negsuc b) = omega arith

pub -v : (a b : ℤ) → up (a -ℤ b) + (dn a + up b) ≡ dn (a -ℤ b) + (up a + dn b)
-v a b = omega (arith, +v a (neg_ℤ b), negv b)

pub *v : (a b : ℤ) → up (a *ℤ b) + (up a * dn b + dn a * up b) ≡ dn (a *ℤ b) + (up a * up b + dn a * dn b)
*v (pos a) (pos b) = omega arith
*v (pos a) (negsuc b) = omega (arith, negv (pos (a * suc b)))
*v (negsuc a) (pos b) = omega (arith, negv (pos (suc a * b)))
*v (negsuc a) (negsuc b) = omega arith

-- ---- the orders and equations
pub ≤v : {a b : ℤ} → a ≤ℤ b → up a + dn b ≤ up b + dn a
≤v {a = pos a} {b = pos b} h = omega (arith, leb→le a b h.le)
≤v {a = pos a} {b = negsuc b} h = absurd h.le
≤v {a = negsuc a} {b = pos b} h = omega arith
≤v {a = negsuc a} {b = negsuc b} h = omega (arith, leb→le b a h.le)

pub v≤ : (a b : ℤ) → up a + dn b ≤ up b + dn a → a ≤ℤ b
v≤ (pos a) (pos b) h = record { le = le→leb a b (omega arith) }
v≤ (pos a) (negsuc b) h = absurd (omega arith)
v≤ (negsuc a) (pos b) h = record { le = tt }
v≤ (negsuc a) (negsuc b) h = record { le = le→leb b a (omega arith) }

pub <v : {a b : ℤ} → a <ℤ b → up a + dn b < up b + dn a
<v {a = pos a} {b = pos b} h = omega (arith, ltb→lt a b h.lt)
<v {a = pos a} {b = negsuc b} h = absurd h.lt
<v {a = negsuc a} {b = pos b} h = omega arith
<v {a = negsuc a} {b = negsuc b} h = omega (arith, ltb→lt b a h.lt)

pub v< : (a b : ℤ) → up a + dn b < up b + dn a → a <ℤ b
v< (pos a) (pos b) h = record { lt = lt→ltb a b (omega arith) }
v< (pos a) (negsuc b) h = absurd (omega arith)
v< (negsuc a) (pos b) h = record { lt = tt }
v< (negsuc a) (negsuc b) h = record { lt = lt→ltb b a (omega arith) }

pub ≡v : (a b : ℤ) → a ≡ b → up a + dn b ≡ up b + dn a
≡v a b e = subst (λ (z : ℤ). up a + dn z ≡ up z + dn a) e refl

pub v≡ : (a b : ℤ) → up a + dn b ≡ up b + dn a → a ≡ b
v≡ (pos a) (pos b) h = ap pos (omega arith)
v≡ (pos a) (negsuc b) h = absurd (omega arith)
v≡ (negsuc a) (pos b) h = absurd (omega arith)
v≡ (negsuc a) (negsuc b) h = ap negsuc (omega arith)

-- ---- sizes and ranges
pub absv : (z : ℤ) → nat_abs z ≡ up z + dn z
absv (pos n) = omega arith
absv (negsuc n) = omega arith

-- one of the two parts is 0: for where `near` does not serve. It costs `omega` a split
pub onev : (z : ℤ) → up z - dn z ≡ up z
onev (pos n) = omega arith
onev (negsuc n) = omega arith

-- a bound on a size, from two bounds that `omega` proves with no split
pub near : (z : ℤ) {B : ℕ} → (up z ≤ dn z + B) × (dn z ≤ up z + B) → nat_abs z ≤ B
near (pos n) h = omega arith
near (negsuc n) h = omega arith

pub fitv : {w : Width} {z : ℤ} → SFits w z → (up z < 2 ^ hbits w) × (dn z ≤ 2 ^ hbits w)
fitv {w} {z = pos n} h = (h.sfits, omega arith)
fitv {w} {z = negsuc n} h = (omega (arith, h.sfits), h.sfits)

-- the same as two rules: a rule's result is one statement
pub fit-up : {w : Width} {z : ℤ} → SFits w z → up z < 2 ^ hbits w
fit-up f = (fitv f).0

pub fit-dn : {w : Width} {z : ℤ} → SFits w z → dn z ≤ 2 ^ hbits w
fit-dn f = (fitv f).1

pub vfit : (w : Width) (z : ℤ) → (up z < dn z + 2 ^ hbits w) × (dn z ≤ up z + 2 ^ hbits w) → SFits w z
vfit w (pos n) h = record { sfits = omega arith }
vfit w (negsuc n) h = record { sfits = omega arith }

-- the same by sizes, for products
pub fits_abs : {w : Width} {z : ℤ} → SFits w z → nat_abs z ≤ 2 ^ hbits w
fits_abs {w} {z} f = nat_abs-le z f.sfits

pub abs_fits : (w : Width) (z : ℤ) → nat_abs z < 2 ^ hbits w → SFits w z
abs_fits w z h = vfit w z (omega (arith, absv z))

-- what the machine reads back of a number z in its range, where z is t
pub read : (w : Width) (z : ℤ) {t : ℤ} → mag z < 2 ^ hbits w → z ≡ t → to_z w (of_z w z) ≡ t
read w z h e = to_z-of_z (record { sfits = h }) ∙ e

-- ---- what a branch's test on signed numbers tells
pub lt_z_true : (a b : ℤ) → lt_z a b ≡ true → up a + dn b < up b + dn a
lt_z_true a b e = <v {a = a} {b = b} (lt_z_yes {a = a} {b = b} (subst T (sym e) tt))

pub lt_z_false : (a b : ℤ) → lt_z a b ≡ false → up b + dn a ≤ up a + dn b
lt_z_false a b e = ≤v {a = b} {b = a} (lt_z_no {a = a} {b = b} (subst (λ (t : Bool). T (not t)) (sym e) tt))

pub le_z_true : (a b : ℤ) → le_z a b ≡ true → up a + dn b ≤ up b + dn a
le_z_true a b e = ≤v {a = a} {b = b} (le_z_yes {a = a} {b = b} (subst T (sym e) tt))

pub le_z_false : (a b : ℤ) → le_z a b ≡ false → up b + dn a < up a + dn b
le_z_false (pos a) (pos b) e = omega (arith, leb-false)
le_z_false (pos a) (negsuc b) e = omega arith
le_z_false (negsuc a) (pos b) e = absurd (subst T e tt)
le_z_false (negsuc a) (negsuc b) e = omega (arith, leb-false)

pub ruleset Zs = (arith, ≤v, v≤, <v, v<, ≡v, v≡, lt_z_true, lt_z_false, le_z_true, le_z_false, fit-up, fit-dn)

-- a number that is not below 0
pub not_below : (z : ℤ) → lt_z z (pos 0) ≡ false → T (non_neg z)
not_below (pos n) e = tt
not_below (negsuc n) e = absurd (omega Zs)
