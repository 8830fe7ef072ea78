-- Two filters of one tuning over one window, one of them from rest: how near their outputs are.
use mathlib.Core.Path.{◌≡◌}
use mathlib.Core.List.{List}
use Prim.Native.Nat.{ℕ, ◌-◌, ◌/◌, ◌≤◌, ◌<◌}
use native.Mathlib.Omega.{arith}
use lib.IntN.{ℤ, pos, nat_abs, ◌-ℤ◌}
use Rattle.integer.specs.Rounding.{M}
use Rattle.thiran.specs.Coefficients.{norm}
use Rattle.allpass.specs.Allpass.{out, run}
use Rattle.allpass.specs.Bounds.{Within, own_figure}
use Rattle.allpass.proofs.Contraction.{contracts}
use Rattle.rule.specs.Voice.{Tuning, A, rest}
use Rattle.rule.specs.Calls.{window}
use Rattle.rule.specs.History.{read, new_state, new}
use Rattle.rule.specs.Valid.{Tunable}
use Rattle.rule.proofs.Read.{length-window}
use Rattle.rule.proofs.Filters.{norm-fit}
use Rattle.rule.proofs.New.{state-window, state-silent, state-filled}

-- a state v of t's filter at step m, which was at rest a steps ago
module _ (t : Tuning) (s : List ℤ) (m a : ℕ) (v : List ℤ)
    (e : v ≡ run (A t) (rest t) (window (read s m) t.L a)) where
  pub figure-near : Tunable t → Within M s
      → nat_abs (out (A t) v (read s m t.L) -ℤ new t s m) ≤ own_figure (norm (A t)) (a / t.N)
  unfolding new
  figure-near f h =
      let u = new_state t s (m - a) in
      let g = state-filled t s (m - a) f h in
      let law = (contracts (A t) (omega (arith, norm-fit f))).figure t.N u (window (read s m) t.L a)
      (read s m t.L) g.many g.within in
      rw (e, state-window t s m a) (rw (length-window (read s m) t.L a) at law)

  pub figure-same : ((i : ℕ) → i < m - a → read s i t.L ≡ pos 0)
      → out (A t) v (read s m t.L) ≡ new t s m
  unfolding new
  figure-same z = rw (e, state-window t s m a, state-silent t s (m - a) z)
