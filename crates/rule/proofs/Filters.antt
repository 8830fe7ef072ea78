-- The filters of a voice: what their states are of, and what they put out.
-- Assumes nothing.
use mathlib.Core.Path.{◌∙◌}
use mathlib.Core.List.{List}
use Prim.Native.Nat.{ℕ, ◌≤◌}
use lib.IntN.{ℤ, pos, nat_abs}
use lib.ListN.{length-replicate}
use Rattle.integer.specs.Rounding.{M}
use Rattle.integer.proofs.Rounding.{clip_abs}
use Rattle.thiran.specs.Coefficients.{norm}
use Rattle.thiran.proofs.Theorems.{theorem}
use Rattle.allpass.specs.Allpass.{next, run}
use Rattle.allpass.specs.Bounds.{Within}
use Rattle.allpass.proofs.Bounds.{next-within, rest-within, out_within, length-next}
use Rattle.allpass.proofs.Contraction.{length_run, run-within}
use Rattle.rule.specs.Voice.{Tuning, Voice, A, rest, output, written}
use Rattle.rule.specs.Valid.{Tunable, Filled}

-- "the limit 32,768 on the sum of magnitudes"
pub norm-fit : {t : Tuning} → Tunable t → norm (A t) ≤ 32768
norm-fit {t} f = (theorem t.N t.d f.takes).small

-- ---- states
pub rest-filled : (t : Tuning) → Filled t.N (rest t)
rest-filled t = record { many = length-replicate t.N (pos 0); within = rest-within t.N }

pub next-filled : (t : Tuning) (v : List ℤ) (f : ℤ) → Tunable t → Filled t.N v → nat_abs f ≤ M
    → Filled t.N (next (A t) v f)
next-filled t v f g h k =
    record { many = length-next (A t) v f ∙ h.many; within = next-within (A t) (norm-fit g) f h.within k }

pub run-filled : (t : Tuning) (v : List ℤ) {fs : List ℤ} → Tunable t → Filled t.N v → Within M fs
    → Filled t.N (run (A t) v fs)
run-filled t v {fs} g h k =
    record { many = length_run (A t) v fs ∙ h.many; within = run-within (A t) (norm-fit g) fs h.within k }

-- ---- samples
pub output-within : (v : Voice) (r : ℕ → ℤ) → nat_abs (output v r) ≤ M
unfolding output
output-within v r = out_within (A v.tuning) v.state (r v.tuning.L)

pub written-within : (v : Voice) (r : ℕ → ℤ) (x : ℤ) → nat_abs (written v r x) ≤ M
unfolding written
written-within v r x = clip_abs _
