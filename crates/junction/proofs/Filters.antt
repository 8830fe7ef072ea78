-- The filters of a junction: their states are within 2M, and how near one from rest is to the new filter.
--
use mathlib.Core.Path.{◌≡◌, refl, sym, ap, ◌∙◌}
use mathlib.Core.List.{List, [], ◌∷◌, ◌++◌}
use Prim.Native.Nat.{ℕ, zero, suc, ◌-◌, ◌/◌, ◌≤◌, ◌<◌}
use native.Mathlib.Omega.{arith}
use native.Mathlib.Nat.{le_trans}
use lib.IntN.{ℤ, pos, nat_abs, ◌-ℤ◌}
use lib.ListN.{length, get_or, take, drop, length-drop, take-append-drop}
use Rattle.integer.specs.Rounding.{M}
use Rattle.refusal.specs.Limits.{Between}
use Rattle.refusal.specs.Orders.{Takes}
use Rattle.thiran.specs.Coefficients.{norm}
use Rattle.thiran.proofs.Theorems.{theorem}
use Rattle.allpass.specs.Allpass.{rest, next, out, run}
use Rattle.allpass.specs.Bounds.{Within, none, more}
use Rattle.allpass.proofs.Bounds.{next-within, rest-within, next-rest, length-next}
use Rattle.allpass.proofs.Contraction.{length_run, run-within, run-append}
use Rattle.rule.specs.Click.{figure}
use Rattle.rule.specs.Valid.{Filled}
use Rattle.rule.proofs.OwnFigure.{own_laws}
use Rattle.allpass.proofs.Contraction.{contracts}
use Rattle.junction.specs.Junction.{Side, from_left, from_right, delay, A}

-- "d is 2,049 to 6,143, so 8,192 − d is too"
pub delay-takes : (s : Side) {d : ℕ} → Between 2049 d 6143 → Takes 1 (delay s d)
delay-takes from_left b =
    record { least = omega arith; most = omega arith; low = omega (arith, b.least); high = omega (arith, b.most) }
delay-takes from_right b = record {
  least = omega arith;
  most = omega arith;
  low = omega (arith, b.least, b.most);
  high = omega (arith, b.least, b.most);
}

pub norm-fit : (s : Side) {d : ℕ} → Between 2049 d 6143 → norm (A s d) ≤ 32768
norm-fit s {d} b = (theorem 1 (delay s d) (delay-takes s b)).small

-- ---- states
pub rest-filled : Filled 1 (rest 1)
rest-filled = record { many = refl; within = rest-within 1 }

pub next-filled : (s : Side) {d : ℕ} {v : List ℤ} (f : ℤ) → Between 2049 d 6143 → Filled 1 v → nat_abs f ≤ M
    → Filled 1 (next (A s d) v f)
next-filled s {d} {v} f b h k =
    record { many = length-next (A s d) v f ∙ h.many; within = next-within (A s d) (norm-fit s b) f h.within k }

pub take_within : {B : ℕ} {l : List ℤ} (n : ℕ) → Within B l → Within B (take n l)
take_within zero h = none
take_within (suc n) none = none
take_within (suc n) (more p h) = more p (take_within n h)

pub snoc_within : {B : ℕ} {l : List ℤ} (x : ℤ) → nat_abs x ≤ B → Within B l → Within B (l ++ (x ∷ []))
snoc_within x k none = more k none
snoc_within x k (more p h) = more p (snoc_within x k h)

-- a filter that took zeros alone is at rest
silent : (A : List ℤ) (c : ℕ) (xs : List ℤ) → ((i : ℕ) → i < c → get_or xs i (pos 0) ≡ pos 0)
    → run A (rest 1) (take c xs) ≡ rest 1
silent A zero xs z = refl
silent A (suc c) [] z = refl
silent A (suc c) (x ∷ xs) z =
    let e : x ≡ pos 0 = z 0 (omega arith) in
    rw (e, next-rest A 1) (silent A c xs (λ i l. z (suc i) (omega arith)))

-- ---- a filter at rest before step c, that took xs from there on, beside one at rest before step 0
module _ (s : Side) (d c : ℕ) (xs : List ℤ) (x : ℤ) where
  abbrev late : List ℤ
  late = run (A s d) (rest 1) (drop c xs)

  abbrev whole : List ℤ
  whole = run (A s d) (rest 1) xs

  split : whole ≡ run (A s d) (run (A s d) (rest 1) (take c xs)) (drop c xs)
  split =
      ap (λ (l : List ℤ). run (A s d) (rest 1) l) (sym (take-append-drop c xs))
      ∙ run-append (A s d) (rest 1) (take c xs) (drop c xs)

  pub late-near : Between 2049 d 6143 → Within M xs
      → nat_abs (out (A s d) late x -ℤ out (A s d) whole x) ≤ figure (length xs - c)
  late-near b h =
      let n = norm-fit s b in
      let u = run (A s d) (rest 1) (take c xs) in
      let f : Filled 1 u
      = record {
        many = length_run (A s d) (rest 1) (take c xs);
        within = run-within (A s d) n (take c xs) (rest-within 1) (take_within c h);
      } in
      let k : length (drop c xs) / 1 ≡ length xs - c = omega (arith, length-drop c xs) in
      let law = (contracts (A s d) (omega arith)).figure 1 u (drop c xs) x f.many f.within in
      rw split (le_trans (rw k at law) (own_laws.under (norm (A s d)) (length xs - c) n))

  pub late-same : ((i : ℕ) → i < c → get_or xs i (pos 0) ≡ pos 0) → out (A s d) late x ≡ out (A s d) whole x
  late-same z = rw (split, silent (A s d) c xs z)
