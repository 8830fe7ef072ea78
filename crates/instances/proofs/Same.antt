-- The instances of "It does not differ at all": the lines by computation, the samples by the theorem.
use mathlib.Core.Path.{◌≡◌, refl, ap, ◌∙◌}
use mathlib.Core.Bool.{Bool, true, false, cond}
use mathlib.Core.List.{List, [], ◌∷◌, ◌++◌}
use Prim.Native.Nat.{ℕ, zero, suc, ◌-◌, ◌≤◌, ◌<◌}
use native.Mathlib.Omega.{arith}
use lib.Dec.{leb}
use lib.IntN.{ℤ, pos, negsuc}
use lib.ListN.{get_or, replicate}
use Rattle.integer.specs.Rounding.{floor, nearest, clip}
use Rattle.integer.specs.Cut.{cut, R, Q}
use Rattle.thiran.specs.Formula.{factor, a}
use Rattle.thiran.specs.Coefficients.{coefficient, coefficients}
use Rattle.allpass.specs.Allpass.{inner, next, out}
use Rattle.rule.specs.Voice.{Tuning, tuning, noise, spent, output, written, settled, stepped}
use Rattle.rule.specs.Calls.{Call, Opening, instant, commit, number, opened, done}
use Rattle.rule.specs.History.{steps, read, step, call, after, new}
use Rattle.rule.specs.State as State
use Rattle.rule.specs.State.{fresh, puts}
use Rattle.rule.specs.Click.{Change, instantly, committing, NoneBy}
use Rattle.rule.proofs.Click.{click}
use Rattle.rule.proofs.Ruling.{none-block}
use Rattle.instances.specs.Same.{list, Same, low, asking, four, high, sounding, three, Exact}

zeros-at : (n k : ℕ) (ys : List ℤ) → k < n → get_or (replicate n (pos 0) ++ ys) k (pos 0) ≡ pos 0
zeros-at zero k ys h = absurd (omega arith)
zeros-at (suc n) zero ys h = refl
zeros-at (suc n) (suc k) ys h = zeros-at n k ys (omega arith)

-- a line that begins with n zeros is read so, before step n
zeros-read : (n : ℕ) {s : List ℤ} (ys : List ℤ) (L : ℕ) → s ≡ replicate n (pos 0) ++ ys → (i : ℕ) → i < n
    → read s i L ≡ pos 0
unfolding read
zeros-read n {s} ys L e i h = rw e (go (leb L i))
  where
    go : (b : Bool) → cond b (get_or (replicate n (pos 0) ++ ys) (i - L) (pos 0)) (pos 0) ≡ pos 0
    go true = zeros-at n (i - L) ys (omega arith)
    go false = refl

given : (o : Opening) (pre : List Call) (c : Call) (post : List Call) (t : Tuning) (a e m : ℕ) {y : ℤ}
    → Change (after o pre) c t a e
    → NoneBy m (call (after o pre) c) post
    → e ≤ m → m < steps (after o (list o pre c post))
    → ((i : ℕ) → i < e - a → read (after o (list o pre c post)).s i t.L ≡ pos 0)
    → get_or (puts (fresh o) (list o pre c post)) m (pos 0) ≡ y
    → Same o pre c post t a e m y
given o pre c post t a e m k n l b z p = record {
  change = k;
  until = n;
  since = l;
  before = b;
  zero = z;
  equal = (click o (list o pre c post) pre post c t a e m refl k n l b).same z;
  voice = p;
}

late-line :
    (after low (list low asking commit four)).s
    ≡ replicate 101 (pos 0) ++ (pos 5000 ∷ pos 7 ∷ pos 0 ∷ pos 63 ∷ negsuc 212 ∷ pos 1974 ∷ pos 2545 ∷ [])
unfolding
    floor nearest cut R Q clip factor a coefficient coefficients inner next out noise spent output written settled
    stepped number opened done read step call
late-line = refl

early-line :
    (after high (list high sounding (instant (tuning 1 1 3000)) three)).s
    ≡ replicate 4 (pos 0) ++ (pos 5000 ∷ pos 7 ∷ pos 2234 ∷ pos 2050 ∷ pos 1011 ∷ [])
unfolding
    floor nearest cut R Q clip factor a coefficient coefficients inner next out noise spent output written settled
    stepped number opened done read step call
early-line = refl

pub exact : Exact
unfolding
    floor nearest cut R Q clip factor a coefficient coefficients inner next out noise spent output written settled
    stepped number opened done read step call State.step State.sounds State.call State.put State.silence
exact = record {
  committed =
      given low asking commit four (tuning 3 2 13000) 3 104 106 (committing refl refl) (none-block 106 _ _ _, tt)
      (omega arith) (omega arith) (zeros-read 101 _ 2 late-line) refl;
  committed-line = late-line;
  instantly =
      given high sounding (instant (tuning 1 1 3000)) three (tuning 1 1 3000) 2 6 7 (instantly refl)
      (none-block 7 _ _ _, tt) (omega arith) (omega arith) (zeros-read 4 _ 1 early-line) refl;
  instant-line = early-line;
}
