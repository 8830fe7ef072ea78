-- The instances of demand 3: what it asks, and the outputs, by computation; what it says, by the theorem.
-- Assumes nothing.
use mathlib.Core.Path.{◌≡◌, refl}
use mathlib.Core.List.{List, [], ◌∷◌}
use Prim.Native.Nat.{ℕ, zero, suc, ◌≤◌, ◌<◌}
use native.Mathlib.Omega.{arith}
use lib.IntN.{ℤ, pos}
use lib.ListN.{get_or}
use Rattle.integer.specs.Rounding.{floor, nearest, clip}
use Rattle.integer.specs.Cut.{cut, R, Q}
use Rattle.thiran.specs.Formula.{factor, a}
use Rattle.thiran.specs.Coefficients.{coefficient, coefficients}
use Rattle.allpass.specs.Allpass.{inner, next, out}
use Rattle.rule.specs.Voice.{Tuning, tuning, noise, spent, output, written, settled, stepped}
use Rattle.rule.specs.Calls.{Call, announce, instant, ask, commit, number, opened, done}
use Rattle.rule.specs.History.{History, steps, read, step, call, after, new}
use Rattle.rule.specs.State as State
use Rattle.rule.specs.State.{fresh, puts}
use Rattle.rule.specs.Click.{Change, announcing, instantly, committing, NoneBy}
use Rattle.rule.proofs.Click.{click, own_click}
use Rattle.rule.proofs.Ruling.{none-block}
use Rattle.figures.specs.Instances.{o, list, Instance, loud, zeros, quiet, late, lately, t}
use Rattle.figures.specs.Instances.{Instances}

-- an instance from what demand 3 asks, and the two outputs
given : (pre : List Call) (c : Call) (post : List Call) (t : Tuning) (a e m : ℕ) {y z : ℤ}
    → Change (after o pre) c t a e
    → NoneBy m (call (after o pre) c) post
    → e ≤ m → m < steps (after o (list pre c post))
    → get_or (puts (fresh o) (list pre c post)) m (pos 0) ≡ y
    → new t (after o (list pre c post)).s m ≡ z
    → Instance pre c post t a e m y z
given pre c post t a e m k n l b p q = record {
  change = k;
  until = n;
  since = l;
  before = b;
  figure = click o (list pre c post) pre post c t a e m refl k n l b;
  own = own_click o (list pre c post) pre post c t a e m refl k n l b;
  voice = p;
  filter = q;
}

-- the instant change is called before step 6, and in force from then on
called : {h : History} {to t : Tuning} {a e : ℕ} → Change h (instant to) t a e → steps h ≡ e
called (instantly z) = refl

after_5 : {e : ℕ} → 6 ≡ e → 5 < e
after_5 p = omega arith

silence : (i : ℕ) → i < 2 → read (after o lately).s i 1 ≡ pos 0
unfolding
    floor nearest cut R Q clip factor a coefficient coefficients inner next out noise spent output written settled
    stepped number opened done read step call
silence zero l = refl
silence (suc zero) l = refl
silence (suc (suc i)) l = absurd (omega arith)

last : Instance (quiet ∷ []) (announce t) (late ∷ []) t 2 4 5 (pos 4886) (pos 4886)
unfolding
    floor nearest cut R Q clip factor a coefficient coefficients inner next out noise spent output written settled
    stepped number opened done read step call new State.step State.sounds State.call State.put State.silence
last =
    given (quiet ∷ []) (announce t) (late ∷ []) t 2 4 5 (announcing refl) (none-block 5 _ _ _, tt)
    (omega arith) (omega arith) refl refl

pub instances : Instances
unfolding
    floor nearest cut R Q clip factor a coefficient coefficients inner next out noise spent output written settled
    stepped number opened done read step call new State.step State.sounds State.call State.put State.silence
instances = record {
  announced =
      given (loud ∷ []) (announce (tuning 2 2 9159)) (zeros ∷ instant (tuning 2 1 7000) ∷ zeros ∷ []) _ 2 5 5
      (announcing refl) (none-block 5 _ _ _, (λ t a e k. after_5 (called k), (none-block 5 _ _ _, tt)))
      (omega arith) (omega arith) refl refl;
  instantly =
      given (loud ∷ announce (tuning 2 2 9159) ∷ zeros ∷ []) (instant (tuning 2 1 7000)) (zeros ∷ []) _ 2 6 8
      (instantly refl) (none-block 8 _ _ _, tt) (omega arith) (omega arith) refl refl;
  committed =
      given (loud ∷ ask (tuning 2 2 9159) ∷ zeros ∷ []) commit (zeros ∷ []) _ 3 6 6 (committing refl refl)
      (none-block 6 _ _ _, tt) (omega arith) (omega arith) refl refl;
  up =
      given (loud ∷ []) (announce (tuning 3 1 12000)) (zeros ∷ instant (tuning 1 2 3000) ∷ zeros ∷ []) _ 2 5 5
      (announcing refl) (none-block 5 _ _ _, (λ t a e k. after_5 (called k), (none-block 5 _ _ _, tt)))
      (omega arith) (omega arith) refl refl;
  down =
      given (loud ∷ announce (tuning 3 1 12000) ∷ zeros ∷ []) (instant (tuning 1 2 3000)) (zeros ∷ []) _ 2 6 8
      (instantly refl) (none-block 8 _ _ _, tt) (omega arith) (omega arith) refl refl;
  committed-down =
      given (loud ∷ ask (tuning 1 2 3000) ∷ zeros ∷ []) commit (zeros ∷ []) _ 3 6 7 (committing refl refl)
      (none-block 7 _ _ _, tt) (omega arith) (omega arith) refl refl;
  same = last;
  line = refl;
  zero = silence;
  equal = last.figure.same silence;
}
