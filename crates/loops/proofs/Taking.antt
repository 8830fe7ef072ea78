-- A sample that a loop takes at a place of the line with no end of the ring before it: what the rule's own
-- sample of the loop is then. Assumes nothing.
use mathlib.Core.Path.{◌≡◌, sym, ap, subst, ◌∙◌}
use mathlib.Core.List.{List, ◌∷◌}
use Prim.Native.Nat.{ℕ, ◌+◌, ◌-◌, ◌%◌, ◌≤◌, ◌<◌}
use native.Mathlib.Omega.{arith}
use lib.IntN.{ℤ, pos, nat_abs, ◌+ℤ◌, ◌*ℤ◌}
use lib.ListN.{length, take, get_or, set}
use Rattle.integer.specs.Rounding.{M, clip}
use Rattle.integer.specs.Cut.{Q}
use Rattle.integer.specs.declared.Value.{Value}
use Rattle.integer.proofs.Rounding.{clip-kept}
use Rattle.allpass.specs.Allpass.{next, out}
use Rattle.allpass.specs.Bounds.{Within}
use Rattle.allpass.specs.Stored.{stored}
use Rattle.allpass.specs.declared.State.{State}
use Rattle.line.specs.Ring.{ring}
use Rattle.line.proofs.Ring.{ring-read, ring_write}
use Rattle.rule.specs.State.{back}
use Rattle.voice.specs.declared.Filter.{Filter}
use Rattle.voice.specs.Struct.{filter_of}
use Rattle.voice.specs.Valid.{Tuned}
use Rattle.voice.proofs.Within.{read-within}
use Rattle.step.specs.Sample.{Moved, Hears, Circulates}
use Rattle.step.proofs.Filters.{taps_of, state_to, tuned-hears, tuned-moved}

-- i samples after place at, where there is no end of the ring before the last of n: the place read at
pub from_on : (at L from n i : ℕ) → at + n ≤ 2112 → (at + 2112 - L) % 2112 + n ≤ 2112 → i < n
    → from ≡ (at + 2112 - L) % 2112 → 1 ≤ L → L ≤ 2048 → from + i ≡ ((at + i) % 2112 + 2112 - L) % 2112
from_on at L from n i h k l e s m = let on : (at + i) % 2112 ≡ at + i = omega arith in rw on (omega arith)

-- p is the place that f reads at, where the next sample goes to place at
module _ (l : List ℤ) (at : ℕ) (long : length l ≡ 2112) (a : at < 2112) {f : Filter} (t : Tuned f)
    {p : ℕ} (e : p ≡ (at + 2112 - f.tuning.length) % 2112) {x : ℤ} (i : x ≡ get_or l p (pos 0)) where
  is-back : x ≡ back (ring at l) f.tuning.length
  is-back = i ∙ sym (ring-read l at long f.tuning.length p a t.short (omega (arith, t.long)) e)

  pub taken-small : Within M (ring at l) → nat_abs x ≤ M
  taken-small w = read-within (f.tuning.length - 1) w is-back

  module _ (k : nat_abs x ≤ M) {s : State} (j : s ≡ stored (next (taps_of f) (filter_of f) x)) where
    pub taken-moved : Moved f (back (ring at l) f.tuning.length) (state_to f s)
    taken-moved = subst (λ (x : ℤ). Moved f x (state_to f s)) is-back (tuned-moved t k j)

    -- y is the output, which is within the limits before it is clipped
    module _ {y : Value} (m : nat_abs y.n ≤ M) (o : clip y.n ≡ out (taps_of f) (filter_of f) x) where
      hears : Hears f (back (ring at l) f.tuning.length) (record { y = y; filter = state_to f s })
      hears =
          subst (λ (x : ℤ). Hears f x (record { y = y; filter = state_to f s })) is-back
          (tuned-hears t k (sym (clip-kept y.n m) ∙ o) j)

      -- z is s(n), and goes to place w, which is at; n is the next
      pub taken_circulates : (G : ℕ) (last g : ℤ) {noise z : ℤ} {w n : ℕ} {c : List ℤ}
          → z ≡ clip ((g +ℤ noise) +ℤ Q (pos G *ℤ (y.n +ℤ last))) → w ≡ at → n ≡ (at + 1) % 2112
          → c ≡ set l w z
          → Circulates f G last at l g noise (record { y = y; filter = state_to f s; at = n }) c
      taken_circulates G last g {z = z} {w} {n} q u v b = record {
        hears = hears;
        place = omega arith;
        line =
            ap (ring n) (b ∙ ap (λ (w : ℕ). set l w z) u)
            ∙ ring_write l at long n z a v
            ∙ ap (λ (z : ℤ). z ∷ take 2111 (ring at l)) q;
      }
