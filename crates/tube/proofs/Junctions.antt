-- What the parts of a call leave is what the rule of crate `junction` says.
use mathlib.Core.Path.{◌≡◌, refl}
use mathlib.Core.Bool.{Bool, true, false, cond}
use mathlib.Core.Option.{none, some}
use Prim.Native.Nat.{ℕ, ◌≤◌}
use native.Mathlib.Omega.{arith}
use borrow.Author.Tests.{eq-eqb, ne_eqb}
use lib.IntN.{ℤ}
use Rattle.refusal.specs.Limits.{outside, refusal}
use Rattle.junction.specs.Junction as Rule
use Rattle.junction.specs.Junction.{Two, reflection, take_inputs, feed_waiting, settle, step}
use Rattle.junction.specs.Calls.{area_outside}
use Rattle.junction.specs.Calls.{Call, Opening, Outputs, open_limits, number, junction_at_rest, open_junction}
use Rattle.junction.specs.Calls.{nothing, outputs, accept, call, put, answer, open_answer}
use Rattle.tube.specs.declared.filters.Pair.{Pair}
use Rattle.tube.specs.declared.Junction.{Junction}
use Rattle.tube.specs.Struct.{pair_of, junction_of, next_filters, take_of}
use Rattle.tube.specs.Valid.{Samples, Valid}
use Rattle.tube.proofs.Tuned.{next_tunes, next-states}

-- ---- settling
pub settle-none : (j : Rule.Junction) → settle j none ≡ j
unfolding settle
settle-none j = refl

pub settle-now : (j : Rule.Junction) (w : Rule.Move) → w.taken ≡ j.Na
    → settle j (some w) ≡ Rule.with_delay j w.d w.states none
unfolding settle
settle-now j w e = rw (eq-eqb w.taken j.Na e)

pub settle-later : (j : Rule.Junction) (w : Rule.Move) → (w.taken ≡ j.Na → ⊥)
    → settle j (some w) ≡ Rule.with_delay j j.d j.states (some w)
unfolding settle
settle-later j w e = rw (ne_eqb w.taken j.Na e)

-- ---- a sample
pub take-valid : {j : Junction} {x : Pair} → Valid j → Samples x → Valid (take_of j x (next_filters j.filters x))
take-valid h s = record {
  r = h.r;
  filters = next_tunes h.filters s;
  advance = h.advance;
  last = s;
  waiting = tt;
}

pub take-is : (j : Junction) (x : Pair) → Valid j
    → junction_of (take_of j x (next_filters j.filters x)) ≡ take_inputs (junction_of j) (pair_of x)
take-is j x h = rw (next-states x h.filters)

pub step_is : (j : Rule.Junction) (x : Two ℤ) → settle (take_inputs j x) (feed_waiting j.waiting x) ≡ step j x
unfolding step
step_is j x = refl

-- ---- a call, refused and accepted
pub answer-refused : (j : Rule.Junction) (c : Call) (n : ℕ) → n ≡ number j c → (n ≡ 0 → ⊥)
    → record { number = n; outputs = nothing; junction = j } ≡ answer j c
unfolding answer call put
answer-refused j c n e h = rw (← e, ne_eqb n 0 h)

pub answer-accepted : (j : Rule.Junction) (c : Call) (o : Outputs) (k : Rule.Junction)
    → number j c ≡ 0 → o ≡ outputs j c → k ≡ accept j c
    → record { number = 0; outputs = o; junction = k } ≡ answer j c
unfolding answer call put
answer-accepted j c o k e p q = rw (e, p, q)

pub open_refused : (o : Opening) (n : ℕ) → n ≡ refusal (open_limits o) → (n ≡ 0 → ⊥)
    → record { number = n; outputs = nothing; junction = junction_at_rest (reflection 1 1) 4096 0 } ≡ open_answer o
unfolding open_answer open_junction
open_refused o n e h = rw (← e, ne_eqb n 0 h)

pub open_accepted : (o : Opening) → refusal (open_limits o) ≡ 0
    → record { number = 0; outputs = nothing; junction = junction_at_rest (reflection o.left o.right) o.d o.Na }
    ≡ open_answer o
unfolding open_answer open_junction
open_accepted o e = rw e

-- ---- an area
pub area_small : (n : ℕ) → area_outside n ≤ 1
area_small n = go (outside n 1 65535)
  where
    go : (b : Bool) → cond b 1 0 ≤ 1
    go true = omega arith
    go false = omega arith
