-- Numbers within their limits are those of the voice that they make.

use mathlib.Core.Path.{◌≡◌, refl, sym, ap, ◌∙◌}
use mathlib.Core.List.{List, [], ◌∷◌, ◌++◌, reverse, reverse-reverse}
use mathlib.Core.Option.{Option, none, some}
use Prim.Native.Nat.{ℕ, zero, suc, ◌+◌, ◌*◌, ◌≤◌, ◌<◌}
use native.Mathlib.Omega.{arith}
use lib.IntN.{ℤ, pos, negsuc, nat_abs}
use lib.ListN.{length, drop}
use Rattle.refusal.specs.Limits.{Limit}
use Rattle.refusal.specs.Returned.{AllKept, none, more}
use Rattle.samples.specs.Samples.{loudest}
use Rattle.allpass.specs.Stored.{stored, entries, held}
use Rattle.allpass.specs.declared.State.{State as Three}
use Rattle.rule.specs.Voice.{Tuning, tuning}
use Rattle.form.specs.Numbers.{Change, Numbers, change_of, numbers_of, waiting_of, state_of}
use Rattle.form.specs.Limits.{filter_limits, amount, change_limits, pluck_limits, limits}
use Rattle.form.proofs.Limits.{parted, four}

zero-only : (x : ℤ) → nat_abs x ≤ 0 → pos 0 ≡ x
zero-only (pos zero) h = refl
zero-only (pos (suc n)) h = absurd (omega arith)
zero-only (negsuc n) h = absurd (omega arith)

-- ---- records by their fields
same-three : (v : Three) {a b c : ℤ} → a ≡ v.v1 → b ≡ v.v2 → c ≡ v.v3
    → ◌≡◌ {A = Three} (record { v1 = a; v2 = b; v3 = c }) v
same-three v a b c = rw (a, b, c)

same-tuning : (t : Tuning) {N L d : ℕ} → N ≡ t.N → L ≡ t.L → d ≡ t.d → tuning N L d ≡ t
same-tuning t N L d = rw (N, L, d)

same-change : (c : Change) {k n : ℕ} {t : Tuning} {v : Three} → k ≡ c.kind → t ≡ c.tuning → n ≡ c.taken
    → v ≡ c.state → ◌≡◌ {A = Change} (record { kind = k; tuning = t; taken = n; state = v }) c
same-change c k t n v = rw (k, t, n, v)

-- ---- a state, "zero past the order"
past-order : (N : ℕ) (v : Three) → N ≤ 3 → loudest (drop N (entries v)) ≤ 0 → stored (held N v) ≡ v
unfolding stored
past-order zero v n h =
    same-three v (zero-only v.v1 (omega arith)) (zero-only v.v2 (omega arith))
    (zero-only v.v3 (omega arith))
past-order (suc zero) v n h =
    same-three v refl (zero-only v.v2 (omega arith)) (zero-only v.v3 (omega arith))
past-order (suc (suc zero)) v n h = same-three v refl refl (zero-only v.v3 (omega arith))
past-order (suc (suc (suc zero))) v n h = refl
past-order (suc (suc (suc (suc N)))) v n h = absurd (omega arith)

filter-back : (t : Tuning) (v : Three) → AllKept (filter_limits t v) → stored (held t.N v) ≡ v
filter-back t v (more o (more l (more d (more w (more p none))))) = past-order t.N v o.most p.most

-- ---- a change
all-zero : (c : Change) → 0 ≡ c.kind → amount c ≤ 0 → change_of none ≡ c
unfolding stored
all-zero c e h =
    let v = c.state in
    let t = c.tuning in
    let N : 0 ≡ t.N = omega arith in
    let L : 0 ≡ t.L = omega arith in
    let d : 0 ≡ t.d = omega arith in
    same-change c e (same-tuning t N L d) (omega arith) (past-order 0 v (omega arith) (omega arith))

change-back : (Na k : ℕ) (c : Change) → k ≡ c.kind → AllKept (change_limits Na k c) → change_of (waiting_of k c) ≡ c
change-back Na zero c e (more z none) = all-zero c e z.most
change-back Na (suc zero) c e (more n f) = same-change c e refl refl (filter-back c.tuning c.state f)
change-back Na (suc (suc k)) c e (more z (more n f)) =
    same-change c (omega (arith, z.most)) refl refl (filter-back c.tuning c.state f)

pub kept_back : (i : Numbers) → AllKept (limits i) → numbers_of (state_of i) ≡ i
unfolding limits
kept_back i ks =
    let f = filter_limits i.tuning i.state in
    let u = pluck_limits i.pluck in
    let p = parted (f ++ four i ++ u) ks in
    let q = parted (f ++ four i) p.0 in
    let r = parted f q.0 in
    rw (
      filter-back i.tuning i.state r.0,
      change-back i.Na i.change.kind i.change refl p.1,
      reverse-reverse i.line,
    )
