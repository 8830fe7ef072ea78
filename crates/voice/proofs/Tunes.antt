-- What an opening or a change that passes its tests has: a tuning within the limits.
-- Assumes nothing.
use Prim.Native.Nat.{ℕ, ◌≤◌}
use Rattle.refusal.specs.Orders.{Takes}
use Rattle.refusal.specs.Returned.{AllKept, none, more}
use Rattle.rule.specs.Voice.{Tuning, Voice}
use Rattle.rule.specs.Calls.{Opening, open_limits, change_limits}

abbrev pub Tunes : ℕ → ℕ → ℕ → Type 0
Tunes N L d = Takes N d × (1 ≤ L) × (L ≤ 2048)

pub opening_tunes : {o : Opening} → AllKept (open_limits o)
    → Tunes o.N o.L o.d × (o.G ≤ 65535) × (o.Na ≤ 64)
opening_tunes (more n (more l (more d (more g (more a none))))) = (
  (record { least = n.least; most = n.most; low = d.least; high = d.most }, l.least, l.most),
  g.most,
  a.most,
)

pub change_tunes : (v : Voice) (t : Tuning) → AllKept (change_limits v t) → Tunes t.N t.L t.d
change_tunes v t (more n (more l (more d (more w none)))) =
    (record { least = n.least; most = n.most; low = d.least; high = d.most }, l.least, l.most)
