-- Open and the calls on one voice, what each turns down, and what an accepted one does: document 01.
-- Definitions alone. Assumes nothing.
use Rattle.std.specs.Prelude.{cond, List, [], ◌∷◌, ℕ, zero, suc, ◌+◌, eqb, ℤ, pos, length}
use Rattle.std.proofs.Math.Option.{Option, none, some}
use Rattle.refusal.specs.Limits.{Limit, refusal}
use Rattle.refusal.specs.Orders.{order, delay}
use Rattle.allpass.specs.Allpass.{run}
use Rattle.rule.specs.Tests.{long, lossy, early, idle, asking, ready, strong, lasting, matched, loud}
use Rattle.rule.specs.Voice.{Tuning, Kind, announced, asked, Waiting, Pluck, Voice, A, rest, silent}
use Rattle.rule.specs.Voice.{settled, tuned}

-- "Calls take samples as 32-bit signed numbers, all else as 32-bit unsigned"; here no value is too large
pub data Call : Type 0 where
  -- the input, and the length of the lent output
  block : List ℤ → ℕ → Call
  loss : ℕ → Call
  -- amplitude, count, seed
  pluck : ℕ → ℕ → ℕ → Call
  -- a change to N', L' and d' ("every change names" the order: L6), whose eliminator runs first and waits:
  -- announced, or asked for (L3)
  prepare : Kind → Tuning → Call
  instant : Tuning → Call
  commit : Call
  withdraw : Call

abbrev pub announce : Tuning → Call
announce = prepare announced

abbrev pub ask : Tuning → Call
ask = prepare asked

pub record Opening : Type 0 where
  pub N : ℕ
  pub L : ℕ
  pub d : ℕ
  pub G : ℕ
  pub Na : ℕ

-- ---- what each call turns down: "Tests run in the order listed"
-- "Open: 1 order, 2 L, 3 d, 4 G, 5 Na"
abbrev pub open_limits : Opening → List Limit
open_limits o = order o.N ∷ long o.L ∷ delay o.N o.d ∷ lossy o.G ∷ early o.Na ∷ []

-- "Announced and instant change: 2, 3, then 6"; L3: "Asking tests what a change tests"; L6: "A change now tests
-- 1 before 2"
abbrev pub change_limits : Voice → Tuning → List Limit
change_limits v to = order to.N ∷ long to.L ∷ delay to.N to.d ∷ idle v.waiting ∷ []

-- "Loss: 4"; L3: "20 commit before Na samples were taken; 21 commit or withdraw with nothing asked; 21 is
-- tested first"
abbrev pub limits : Voice → Call → List Limit
limits v (block xs n) = matched xs n ∷ loud xs ∷ []
limits v (loss G) = lossy G ∷ []
limits v (pluck a n z) = strong a ∷ lasting n ∷ []
limits v (prepare k to) = change_limits v to
limits v (instant to) = change_limits v to
limits v commit = asking v.waiting ∷ ready v.Na v.waiting ∷ []
limits v withdraw = asking v.waiting ∷ []

-- the number that a call returns
unfoldable pub number : Voice → Call → ℕ
number v c = refusal (limits v c)

-- ---- what Open returns
abbrev pub resting : Tuning → ℕ → ℕ → Voice
resting t G Na =
    record { tuning = t; G = G; Na = Na; state = rest t; last = pos 0; waiting = none; pluck = silent }

-- "It returns a resting voice of order 1 with L 1, d 4,096, G 0, Na 0" where it refuses
unfoldable pub opened : Opening → Voice
opened o =
    cond (eqb (refusal (open_limits o)) 0)
    (resting (record { N = o.N; L = o.L; d = o.d }) o.G o.Na)
    (resting (record { N = 1; L = 1; d = 4096 }) 0 0)

-- ---- what an accepted call does, but for the steps of a block
-- s(n − L − a), .. , s(n − L − 1): what a filter of length L takes at the steps from n − a to n − 1
abbrev pub window : (ℕ → ℤ) → ℕ → ℕ → List ℤ
window r L zero = []
window r L (suc a) = r (L + suc a) ∷ window r L a

-- v with another loss and pluck
abbrev pub played : Voice → ℕ → Pluck → Voice
played v G p = record {
  tuning = v.tuning;
  G = G;
  Na = v.Na;
  state = v.state;
  last = v.last;
  waiting = v.waiting;
  pluck = p;
}

-- "An announced change starts its eliminator at rest"; L3: "Asking starts the eliminator"
abbrev pub start : Kind → Tuning → Waiting
start k t = record { kind = k; tuning = t; taken = 0; state = rest t }

-- "with Na = 0 it takes effect in the call, from rest, and never waits"; L3: an ask "waits even with Na 0"
abbrev pub prepared : Voice → Kind → Tuning → Voice
prepared v k t = settled v (some (start k t))

-- "An instant change before step n runs a resting eliminator over s(k − L') for k = n − Na to n − 1,
-- then replaces L, d and the state"
abbrev pub retuned : Voice → (ℕ → ℤ) → Tuning → Voice
retuned v r t = tuned v t (run (A t) (rest t) (window r t.L v.Na)) none

-- L3: "committing switches before the next sample"
abbrev pub committed : Voice → Option Waiting → Voice
committed v none = v
committed v (some w) = tuned v w.tuning w.state none

-- L3: "withdrawing drops it"
abbrev pub withdrawn : Voice → Voice
withdrawn v = tuned v v.tuning v.state none

unfoldable pub done : Voice → (ℕ → ℤ) → Call → Voice
done v r (block xs n) = v
done v r (loss G) = played v G v.pluck
done v r (pluck a n z) = played v v.G (record { amplitude = a; left = n; noise = z })
done v r (prepare k to) = prepared v k to
done v r (instant to) = retuned v r to
done v r commit = committed v v.waiting
done v r withdraw = withdrawn v

-- "an accepted block of b samples is b steps, every other call .. none"
abbrev pub inputs : Call → List ℤ
inputs (block xs n) = xs
inputs (loss G) = []
inputs (pluck a n z) = []
inputs (prepare k to) = []
inputs (instant to) = []
inputs commit = []
inputs withdraw = []

-- "it also returns the number of samples run": as many as its eliminator takes; "the instant change counts 0"
-- where it is refused
unfoldable pub count : Voice → (ℕ → ℤ) → Call → ℕ
count v r (block xs n) = 0
count v r (loss G) = 0
count v r (pluck a n z) = 0
count v r (prepare k to) = 0
count v r (instant to) = cond (eqb (number v (instant to)) 0) (length (window r to.L v.Na)) 0
count v r commit = 0
count v r withdraw = 0
