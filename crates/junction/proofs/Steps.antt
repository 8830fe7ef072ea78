-- What a sample and a move do to a junction, by what waits there.
--
use mathlib.Core.Path.{◌≡◌, refl}
use mathlib.Core.Option.{Option, none, some}
use Prim.Native.Nat.{ℕ}
use native.Mathlib.Omega.{arith}
use native.Mathlib.Decide.{ℕ_discrete}
use borrow.Author.Tests.{eq-eqb, ne_eqb}
use lib.IntN.{ℤ}
use Rattle.junction.specs.Junction.{Two, Move, Junction, rest_states, feed, take_inputs, with_delay, settle, step}
use Rattle.junction.specs.Calls.{move, accept}

pub none-some : {w : Move} → none ≡ some w → ⊥
none-some e = let z : ◌≡◌ {A = ℕ} 0 1 = cc in omega arith

pub same_some : {w u : Move} → some w ≡ some u → w ≡ u
same_some e = cc

-- settling
pub data Settles (j : Junction) (w : Move) (k : Junction) : Type 0 where
  switches : w.taken ≡ j.Na → k ≡ with_delay j w.d w.states none → Settles j w k
  holds : (w.taken ≡ j.Na → ⊥) → k ≡ with_delay j j.d j.states (some w) → Settles j w k

pub settles : (j : Junction) (w : Move) → Settles j w (settle j (some w))
unfolding settle
settles j w = go (ℕ_discrete w.taken j.Na)
  where
    go : Dec (w.taken ≡ j.Na) → Settles j w (settle j (some w))
    go (yes e) = switches e (rw (eq-eqb w.taken j.Na e))
    go (no n) = holds n (rw (ne_eqb w.taken j.Na n))

-- a step: nothing waits, or a move does
pub data Goes (j : Junction) (x : Two ℤ) (k : Junction) : Type 0 where
  idle : j.waiting ≡ none → k ≡ take_inputs j x → Goes j x k
  waits : (w : Move) → j.waiting ≡ some w → Settles (take_inputs j x) (feed w x) k → Goes j x k

pub goes : (j : Junction) (x : Two ℤ) → Goes j x (step j x)
unfolding step settle
goes j x = go j.waiting refl
  where
    go : (o : Option Move) → j.waiting ≡ o → Goes j x (step j x)
    go none p = idle p (rw p)
    go (some w) p = waits w p (rw p (settles (take_inputs j x) (feed w x)))

-- a move
pub moves : (j : Junction) (d : ℕ) → Settles j (record { d = d; taken = 0; states = rest_states }) (accept j (move d))
unfolding accept
moves j d = settles j (record { d = d; taken = 0; states = rest_states })
