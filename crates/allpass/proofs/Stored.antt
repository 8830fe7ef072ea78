-- A list of at most as many numbers as there are orders, and the struct that holds it: what is read back, and
-- a filter that is fed. Assumes nothing.
use mathlib.Core.Path.{◌≡◌, refl, sym, ap, ◌∙◌}
use mathlib.Core.List.{List, [], ◌∷◌}
use Prim.Native.Nat.{ℕ, zero, suc, ◌≤◌}
use native.Mathlib.Omega.{arith}
use lib.IntN.{ℤ, pos, nat_abs}
use lib.ListN.{length, take, get_or, length-take, length-replicate}
use Rattle.integer.specs.Rounding.{M}
use Rattle.refusal.specs.Orders.{orders}
use Rattle.thiran.specs.Coefficients.{norm}
use Rattle.thiran.specs.Answers.{padded, listed, taps}
use Rattle.thiran.specs.declared.formula.Coefficients.{Coefficients}
use Rattle.allpass.specs.Allpass.{rest, inner, next}
use Rattle.allpass.specs.Stored.{stored, entries, held, Fed}
use Rattle.allpass.specs.declared.State.{State}
use Rattle.allpass.proofs.Bounds.{next-within, length-next, rest-within}

-- ---- the first n numbers of a list, with 0 past its end
abbrev pub pad : ℕ → List ℤ → List ℤ
pad zero v = []
pad (suc n) [] = pos 0 ∷ pad n []
pad (suc n) (x ∷ v) = x ∷ pad n v

take_pad : (n : ℕ) (v : List ℤ) → length v ≤ n → take (length v) (pad n v) ≡ v
take_pad n [] h = refl
take_pad zero (x ∷ v) h = absurd (omega arith)
take_pad (suc n) (x ∷ v) h = ap (λ (u : List ℤ). x ∷ u) (take_pad n v (omega arith))

-- ---- a struct that holds a list holds it with 0 past its end
listed-padded : (A : List ℤ) → listed (padded A) ≡ pad orders A
unfolding padded
listed-padded [] = refl
listed-padded (x ∷ []) = refl
listed-padded (x ∷ y ∷ []) = refl
listed-padded (x ∷ y ∷ z ∷ A) = refl

entries-stored : (v : List ℤ) → entries (stored v) ≡ pad orders v
unfolding stored
entries-stored [] = refl
entries-stored (x ∷ []) = refl
entries-stored (x ∷ y ∷ []) = refl
entries-stored (x ∷ y ∷ z ∷ v) = refl

-- ---- what is read back of it
pub length-held : (N : ℕ) (v : State) → N ≤ orders → length (held N v) ≡ N
length-held N v h = omega (arith, length-take N (entries v))

take-of : (N : ℕ) (v : List ℤ) → length v ≡ N → N ≤ orders → take N (pad orders v) ≡ v
take-of N v e h = rw (← e) (take_pad orders v (omega arith))

pub taps-padded : (N : ℕ) (A : List ℤ) → length A ≡ N → N ≤ orders → taps N (padded A) ≡ A
taps-padded N A e h = ap (λ (u : List ℤ). take N u) (listed-padded A) ∙ take-of N A e h

pub held-stored : (N : ℕ) (v : List ℤ) → length v ≡ N → N ≤ orders → held N (stored v) ≡ v
held-stored N v e h = ap (λ (u : List ℤ). take N u) (entries-stored v) ∙ take-of N v e h

-- the first number of the next state is w
pub first_next : (A v : List ℤ) (f : ℤ) → 1 ≤ length v → (stored (next A v f)).v1 ≡ inner A v f
unfolding stored next
first_next A [] f h = absurd (omega arith)
first_next A (x ∷ v) f h = refl

-- ---- a filter that is fed: its next state can be fed again
module _ {N : ℕ} {c : Coefficients} {v : State} {f : ℤ} (h : Fed N c v f) where
  pub fed-held : held N (stored (next (taps N c) (held N v) f)) ≡ next (taps N c) (held N v) f
  fed-held =
      held-stored N (next (taps N c) (held N v) f)
      (length-next (taps N c) (held N v) f ∙ length-held N v h.most) h.most

  pub fed-next : (g : ℤ) → nat_abs g ≤ M → Fed N c (stored (next (taps N c) (held N v) f)) g
  fed-next g k = record {
    least = h.least;
    most = h.most;
    taps_small = h.taps_small;
    state_within = rw fed-held (next-within (taps N c) h.taps_small f h.state_within h.sample);
    sample = k;
  }

-- ---- a filter at rest
zero-at : (N i : ℕ) → get_or (rest N) i (pos 0) ≡ pos 0
zero-at zero i = refl
zero-at (suc N) zero = refl
zero-at (suc N) (suc i) = zero-at N i

pub stored-rest : (N : ℕ) → stored (rest N) ≡ stored []
unfolding stored
stored-rest N = rw (zero-at N 0, zero-at N 1, zero-at N 2)

pub held-rest : (N : ℕ) → N ≤ orders → held N (stored []) ≡ rest N
held-rest N h =
    ap (λ (s : State). held N s) (sym (stored-rest N))
    ∙ held-stored N (rest N) (length-replicate N (pos 0)) h

pub fed-rest : {N : ℕ} {c : Coefficients} (f : ℤ) → 1 ≤ N → N ≤ orders → norm (taps N c) ≤ 32768 → nat_abs f ≤ M
    → Fed N c (stored []) f
fed-rest {N} f l m n k = record {
  least = l;
  most = m;
  taps_small = n;
  state_within = rw (held-rest N m) (rest-within N);
  sample = k;
}
