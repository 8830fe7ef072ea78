-- The calls that a record of a score makes on a voice. A record r is the nine numbers that reading it gives.
-- Definitions alone. Assumes nothing.
use Rattle.std.specs.Prelude.{◌≡◌, Bool, cond, List, [], ◌∷◌, ◌++◌, ℕ, ◌+◌, eqb, pos, get_or, replicate}
use Rattle.rule.specs.Voice.{Tuning, tuning}
use Rattle.rule.specs.Calls.{Call, block, loss, pluck, announce, instant}
use Rattle.rule.specs.State.{State, numbers, from}
use Rattle.record.specs.Record.{bit}

-- its field k, and whether bit k is absent
abbrev pub value : List ℕ → ℕ → ℕ
value r k = get_or r (k + 2) 0

abbrev pub stands : List ℕ → ℕ → ℕ
stands r k = bit (get_or r 1 0) k

abbrev pub absent : List ℕ → ℕ → Bool
absent r k = eqb (stands r k) 0

-- ---- the calls of a record on the voice v
-- "renders its wait with input 0"
abbrev pub wait_calls : List ℕ → State → List Call
wait_calls r v = block (replicate (value r 0) (pos 0)) (value r 0) ∷ []

-- "G as it was" where it is absent
abbrev pub loss_calls : List ℕ → State → List Call
loss_calls r v = cond (absent r 3) [] (loss (value r 3) ∷ [])

-- "an absent L or d beside the other is the one in force"
abbrev pub length_to : List ℕ → State → ℕ
length_to r v = cond (absent r 1) v.voice.tuning.L (value r 1)

abbrev pub delay_to : List ℕ → State → ℕ
delay_to r v = cond (absent r 2) v.voice.tuning.d (value r 2)

-- "Score changes keep the order in force" (document 02, L6)
abbrev pub change_to : List ℕ → State → Tuning
change_to r v = tuning v.voice.tuning.N (length_to r v) (delay_to r v)

-- "Bit 7 has no field and makes the change instant"
abbrev pub change : List ℕ → State → Call
change r v = cond (absent r 7) (announce (change_to r v)) (instant (change_to r v))

-- "no bit 1 or 2, no change"
abbrev pub change_calls : List ℕ → State → List Call
change_calls r v = cond (eqb (stands r 1 + stands r 2) 0) [] (change r v ∷ [])

-- a change, announced, and nothing else beside the wait, by the bits: no G, no pluck, and not instant
pub record Announces (r : List ℕ) : Type 0 where
  pub changes : stands r 1 + stands r 2 ≡ 0 → ⊥
  pub no_loss : stands r 3 ≡ 0
  pub no_pluck : stands r 4 ≡ 0
  pub announced : stands r 7 ≡ 0

-- an absent count means "100 samples" (document 02, L2; document 01 had the L in force)
abbrev pub count_of : List ℕ → ℕ
count_of r = cond (absent r 5) 100 (value r 5)

-- "no bit 4, no pluck"
abbrev pub pluck_calls : List ℕ → State → List Call
pluck_calls r v = cond (absent r 4) [] (pluck (value r 4) (count_of r) (value r 6) ∷ [])

-- the first of some numbers that is not 0, else 0
abbrev pub first : List ℕ → ℕ
first [] = 0
first (n ∷ ns) = cond (eqb n 0) (first ns) n

-- the number by which the calls cs on v end, 0 where each is accepted
abbrev pub result : State → List Call → ℕ
result v cs = first (numbers v cs)

-- the calls f, and then, unless one was refused, the calls g on the voice that f left
unfoldable pub then : (State → List Call) → (State → List Call) → State → List Call
then f g v = f v ++ cond (eqb (result v (f v)) 0) (g (from v (f v))) []

-- "then sets G, then changes, then plucks"
unfoldable pub act_calls : List ℕ → State → List Call
act_calls r = then (loss_calls r) (then (change_calls r) (pluck_calls r))

unfoldable pub record_calls : List ℕ → State → List Call
record_calls r = then (wait_calls r) (act_calls r)
