-- Numbers within their limits are of 32 bits, and so are those of Open's refusal voice.

use mathlib.Core.Path.{◌≡◌, refl, sym, ap, ◌∙◌}
use mathlib.Core.List.{List, [], ◌∷◌, ◌++◌, map, reverse}
use Prim.Native.Nat.{ℕ, zero, suc, ◌+◌, ◌*◌, ◌^◌, ◌≤◌, ◌<◌}
use native.Mathlib.Omega.{arith}
use lib.IntN.{ℤ, pos, nat_abs}
use lib.ListN.{length}
use Rattle.integer.specs.Rounding.{M}
use Rattle.refusal.specs.Limits.{Limit}
use Rattle.refusal.specs.Returned.{Kept, AllKept, none, more}
use Rattle.samples.specs.Samples.{loudest}
use Rattle.allpass.specs.Bounds.{Within}
use Rattle.allpass.specs.Stored.{entries}
use Rattle.allpass.specs.declared.State.{State as Three}
use Rattle.rule.specs.Voice.{Tuning, Pluck}
use Rattle.form.specs.Numbers.{Change, Numbers}
use Rattle.form.specs.Limits.{filter_limits, change_limits, pluck_limits, limits}
use Rattle.form.specs.Parts.{word}
use Rattle.form.proofs.Packing.{Words, none, more}
use Rattle.form.proofs.Limits.{parted, quiet, four, four-parts}
use Rattle.form.proofs.Numbers.{Small, words-under}

next : (n : ℕ) {ns : List ℕ} → n < 2 ^ 32 → Words ns → Words (n ∷ ns)
next n h w = more h w

-- a filter's
filter-words : (t : Tuning) (v : Three) → AllKept (filter_limits t v)
    → Words (t.N ∷ t.L ∷ t.d ∷ []) × Within (2 * M) (entries v)
filter-words t v (more o (more l (more d (more w (more p none))))) = (
  next t.N (omega (arith, o.most))
      (next t.L (omega (arith, l.most)) (next t.d (omega (arith, o.most, d.most)) none)),
  quiet (entries v) w.most,
)

-- a change's
abbrev all : ℕ → Change → List ℕ
all k c = k ∷ c.tuning.N ∷ c.tuning.L ∷ c.tuning.d ∷ c.taken ∷ map word (entries c.state)

with_filter : (k Na : ℕ) (c : Change) → k ≤ 2 → c.taken ≤ Na → Na ≤ 64 → AllKept (filter_limits c.tuning c.state)
    → Words (all k c) × Within (2 * M) (entries c.state)
with_filter k Na c h n a f = go (filter-words c.tuning c.state f)
  where
    go : Words (c.tuning.N ∷ c.tuning.L ∷ c.tuning.d ∷ []) × Within (2 * M) (entries c.state)
        → Words (all k c) × Within (2 * M) (entries c.state)
    go (more N (more L (more d none)), w) =
        (next k (omega arith) (more N (more L (more d (next c.taken (omega arith) (words-under w))))), w)

change-words : (Na k : ℕ) (c : Change) → Na ≤ 64 → AllKept (change_limits Na k c)
    → Words (all k c) × Within (2 * M) (entries c.state)
change-words Na zero c a (more z none) =
    let w : Within (2 * M) (entries c.state) = quiet (entries c.state) (omega (arith, z.most)) in
    let t = c.tuning in (
      next 0 (omega arith)
          (next t.N (omega (arith, z.most))
          (next t.L (omega (arith, z.most))
          (next t.d (omega (arith, z.most)) (next c.taken (omega (arith, z.most)) (words-under w))))),
      w,
    )
change-words Na (suc zero) c a (more n f) = with_filter 1 Na c (omega arith) (omega (arith, n.most)) a f
change-words Na (suc (suc k)) c a (more z (more n f)) =
    with_filter (suc (suc k)) Na c (omega (arith, z.most)) n.most a f

pluck-words : (p : Pluck) → AllKept (pluck_limits p) → p.noise < 2 ^ 32 → Words (p.amplitude ∷ p.left ∷ p.noise ∷ [])
pluck-words p (more a (more l (more n none))) h =
    next p.amplitude (omega (arith, a.most)) (next p.left (omega (arith, l.most)) (more h none))

pub small : (i : Numbers) → AllKept (limits i) → i.pluck.noise < 2 ^ 32 → Small i
unfolding limits
small i ks z =
    let f = filter_limits i.tuning i.state in
    let u = pluck_limits i.pluck in
    let p = parted (f ++ four i ++ u) ks in
    let q = parted (f ++ four i) p.0 in
    let r = parted f q.0 in
    let (t, v) = filter-words i.tuning i.state r.0 in
    let (g, (a, (y, l))) = four-parts i r.1 in
    let (c, d) = change-words i.Na i.change.kind i.change a.most p.1 in
    record {
      tuning = t;
      G = omega (arith, g.most);
      Na = omega (arith, a.most);
      last = omega arith;
      state = v;
      change = c;
      change-state = d;
      pluck = pluck-words i.pluck q.1 z;
      line = quiet i.line (omega arith);
    }
