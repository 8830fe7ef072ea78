-- The new filter, from rest since opening: more samples do not alter its earlier steps, and its state is a
-- run over a window from where it stood. Assumes nothing.
use mathlib.Core.Path.{◌≡◌, refl, sym, ap, ◌∙◌}
use mathlib.Core.List.{List, ◌++◌}
use Prim.Native.Nat.{ℕ, zero, suc, ◌+◌, ◌-◌, ◌≤◌, ◌<◌}
use native.Mathlib.Omega.{arith}
use native.Mathlib.Decide.{dec_lt}
use lib.IntN.{ℤ, pos}
use lib.ListN.{length}
use Rattle.integer.specs.Rounding.{M}
use Rattle.allpass.specs.Allpass.{next, run}
use Rattle.allpass.specs.Bounds.{Within}
use Rattle.allpass.proofs.Bounds.{next-rest}
use Rattle.rule.specs.Voice.{Tuning, A, rest}
use Rattle.rule.specs.Calls.{window}
use Rattle.rule.specs.History.{read, new_state, new}
use Rattle.rule.specs.Valid.{Tunable, Filled}
use Rattle.rule.proofs.Read.{read-before, read-append, read-less, read-within}
use Rattle.rule.proofs.Filters.{rest-filled, next-filled}

module _ (t : Tuning) (s : List ℤ) where
  state-append : (u : List ℤ) (m : ℕ) → m ≤ length s → 1 ≤ t.L → new_state t (s ++ u) m ≡ new_state t s m
  state-append u zero h k = refl
  state-append u (suc m) h k = rw (state-append u m (omega arith) k, read-append s u m t.L (omega arith) k)

  pub new-append : (u : List ℤ) (m : ℕ) → m ≤ length s → 1 ≤ t.L → new t (s ++ u) m ≡ new t s m
  unfolding new
  new-append u m h k = rw (state-append u m h k, read-append s u m t.L h k)

  -- before step m − a it stands somewhere, and takes the last a samples from there.
  -- Before step 0 it stands at rest, and takes zeros
  pub state-window : (m a : ℕ)
      → new_state t s m ≡ run (A t) (new_state t s (m - a)) (window (read s m) t.L a)
  state-window m zero = let e : m ≡ m - 0 = omega arith in ap (λ (i : ℕ). new_state t s i) e
  state-window m (suc a) =
      state-window m a ∙ ap (λ (v : List ℤ). run (A t) v (window (read s m) t.L a)) (go (dec_lt a m))
    where
      go : Dec (a < m)
          → new_state t s (m - a) ≡ next (A t) (new_state t s (m - suc a)) (read s m (t.L + suc a))
      go (yes p) =
          let e : m - a ≡ suc (m - suc a) = omega arith in
          ap (λ (i : ℕ). new_state t s i) e ∙ rw (read-less s m t.L (suc a) (omega arith))
      go (no p) =
          let e : m - a ≡ 0 = omega arith in
          let e' : m - suc a ≡ 0 = omega arith in
          rw (e, e', read-before s m (t.L + suc a) (omega arith)) (sym (next-rest (A t) t.N))

  -- if all that it took is 0, it is at rest
  pub state-silent : (m : ℕ) → ((i : ℕ) → i < m → read s i t.L ≡ pos 0) → new_state t s m ≡ rest t
  state-silent zero h = refl
  state-silent (suc m) h =
      rw (state-silent m (λ i p. h i (omega arith)), h m (omega arith)) (next-rest (A t) t.N)

  pub state-filled : (m : ℕ) → Tunable t → Within M s → Filled t.N (new_state t s m)
  state-filled zero f h = rest-filled t
  state-filled (suc m) f h =
      next-filled t (new_state t s m) (read s m t.L) f (state-filled m f h) (read-within m t.L h)
