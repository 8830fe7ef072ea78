-- The voice that Open returns, by a refusal too: at rest, and within document 01's limits.
-- Assumes nothing.
use mathlib.Core.Path.{◌≡◌, refl, sym, ◌∙◌}
use mathlib.Core.Option.{none}
use Prim.Native.Nat.{ℕ, ◌≤◌}
use native.Mathlib.Omega.{arith}
use native.Mathlib.Decide.{ℕ_discrete}
use lib.IntN.{pos}
use Rattle.refusal.specs.Limits.{Between, refusal}
use Rattle.refusal.specs.Orders.{Takes}
use Rattle.rule.specs.Voice.{Tuning, Voice, rest}
use Rattle.rule.specs.Calls.{Opening, open_limits, opened, resting}
use Rattle.rule.specs.Valid.{Tunable, Valid}
use Rattle.rule.specs.Refusals.{Resting}
use Rattle.rule.proofs.Refusals.{refuses}
use Rattle.rule.proofs.Filters.{rest-filled}
use Rattle.rule.proofs.Keeps.{none-some}

-- at rest, and nothing waits
pub record Rested (v : Voice) : Type 0 where
  pub valid : Valid v
  pub state : v.state ≡ rest v.tuning
  pub last : v.last ≡ pos 0
  pub idle : v.waiting ≡ none

rested : {v : Voice} (N L d G Na : ℕ) → Resting N L d G Na v → Takes N d → Between 1 L 2048 → G ≤ 65535
    → Na ≤ 64 → Rested v
rested {v} N L d G Na r k l g a =
    let t : Tuning = record { N = N; L = L; d = d } in
    let f : Tunable t = record { takes = k; short = l.least; long = l.most } in
    record {
      valid = record {
        fit = rw r.tuning f;
        loss = rw r.loss g;
        advance = rw r.advance a;
        state = rw (r.tuning, r.state) (rest-filled t);
        last = rw r.last (omega arith);
        waiting = λ w p. absurd (none-some (sym r.waiting ∙ p));
        pluck = rw r.pluck (record { amplitude = omega arith; left = omega arith; over = λ i. refl });
      };
      state = rw r.tuning r.state;
      last = r.last;
      idle = r.waiting;
    }

pub opened_rested : (o : Opening) → Rested (opened o)
opened_rested o = go (ℕ_discrete (refusal (open_limits o)) 0)
  where
    go : Dec (refusal (open_limits o) ≡ 0) → Rested (opened o)
    go (yes e) =
        let (n, (l, (d, (g, a)))) = (refuses.opens o).accepted.0 e in
        let k : Takes o.N o.d
        = record { least = n.least; most = n.most; low = d.least; high = d.most } in
        rested o.N o.L o.d o.G o.Na (refuses.resting o e) k l g.most a.most
    go (no f) =
        let k : Takes 1 4096
        = record { least = omega arith; most = omega arith; low = omega arith; high = omega arith } in
        let l : Between 1 1 2048 = record { least = omega arith; most = omega arith } in
        rested 1 1 4096 0 0 (refuses.resting_refused o f) k l (omega arith) (omega arith)

pub opened-valid : (o : Opening) → Valid (opened o)
opened-valid o = (opened_rested o).valid
