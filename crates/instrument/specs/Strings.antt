-- Six strings in one instrument: the calls, what each turns down, leaves and puts out. Document 02, L11.
-- Definitions alone.
use Rattle.std.specs.Prelude.{cond, List, [], ◌∷◌, ◌++◌, ℕ, zero, suc, eqb, ltb, ℤ, pos, ◌+ℤ◌, length}
use Rattle.integer.specs.Rounding.{clip}
use Rattle.refusal.specs.Limits.{Limit, refusal}
use Rattle.rule.specs.Tests.{matched, loud}
use Rattle.rule.specs.Calls as C
use Rattle.rule.specs.Calls.{Call, block, Opening, open_limits, limits}
use Rattle.rule.specs.State.{State, back, step, sounds, call, put, fresh}
use Rattle.form.specs.Numbers.{refused}
use Rattle.form.specs.Parts.{held_in}
use Rattle.form.specs.Loads.{length_limit, part_limit, loads, room_limit, store_length, left}

-- ---- the calls
-- a string's own: Open, the calls of a voice, a store into a lent slice, a load of bytes. L11 has no block on
-- one string; what is stated here holds of one too
pub data Own : Type 0 where
  opens : Opening → Own
  calls : Call → Own
  store : List ℕ → Own
  load : List ℕ → Own

-- on string k; and the block of all, with the input and the length of the lent output
pub data Play : Type 0 where
  on : ℕ → Own → Play
  mix : List ℤ → ℕ → Play

-- string k is s k, for k from 0 to 5; no statement speaks of s k for k above 5
abbrev pub Strings : Type 0
Strings = ℕ → State

-- "Each string starts as Open's refusal voice"
abbrev pub silent : Strings
silent k = refused

-- ---- what each turns down
-- "24 string number above 5, ahead of the call's own tests"
abbrev pub string_limit : ℕ → Limit
string_limit k = record { number = 24; low = 0; value = k; high = 5 }

-- those of document 01 and of L10
abbrev pub own_limits : State → Own → List Limit
own_limits v (opens o) = open_limits o
own_limits v (calls c) = limits v.voice c
own_limits v (store old) = room_limit v (length old) ∷ []
own_limits v (load bytes) = length_limit bytes ∷ part_limit (held_in bytes) ∷ []

-- a block's: 9, then 10
abbrev pub mix_limits : List ℤ → ℕ → List Limit
mix_limits xs n = matched xs n ∷ loud xs ∷ []

abbrev pub play_limits : Strings → Play → List Limit
play_limits s (on k a) = string_limit k ∷ own_limits (s k) a
play_limits s (mix xs n) = mix_limits xs n

-- the number that a call returns
unfoldable pub number : Strings → Play → ℕ
number s p = refusal (play_limits s p)

-- ---- what each leaves
-- by a refused Open, and by a refused load, Open's refusal voice
abbrev pub own : State → Own → State
own v (opens o) = fresh o
own v (calls c) = call v c
own v (store old) = v
own v (load bytes) = (loads bytes).state

abbrev pub set : Strings → ℕ → State → Strings
set s k v j = cond (eqb j k) v (s j)

-- 24: "nothing changed"; "a block feeds its one input to all six"
unfoldable pub play : Strings → Play → Strings
play s (on k a) j = cond (ltb 5 k) (s j) (set s k (own (s k) a) j)
play s (mix xs n) j = call (s j) (block xs n)

-- after a list, and the numbers that it returns
abbrev pub plays : Strings → List Play → Strings
plays s [] = s
plays s (p ∷ ps) = plays (play s p) ps

abbrev pub numbers : Strings → List Play → List ℕ
numbers s [] = []
numbers s (p ∷ ps) = number s p ∷ numbers (play s p) ps

-- ---- what each puts out
abbrev pub total : (ℕ → ℤ) → ℕ → ℤ
total f zero = pos 0
total f (suc n) = total f n +ℤ f n

-- "one output: the clipped sum of the six"
abbrev pub mixed : Strings → List ℤ → List ℤ
mixed s [] = []
mixed s (x ∷ xs) = clip (total (λ k. sounds (s k)) 6) ∷ mixed (λ k. step (s k) x) xs

abbrev pub own_out : State → Own → List ℤ
own_out v (opens o) = []
own_out v (calls c) = put v c
own_out v (store old) = []
own_out v (load bytes) = []

unfoldable pub out : Strings → Play → List ℤ
out s (on k a) = cond (ltb 5 k) [] (own_out (s k) a)
out s (mix xs n) = cond (eqb (refusal (mix_limits xs n)) 0) (mixed s xs) []

abbrev pub outs : Strings → List Play → List ℤ
outs s [] = []
outs s (p ∷ ps) = out s p ++ outs (play s p) ps

-- ---- what else comes back
-- the count of an instant change, the length of a store
abbrev pub own_count : State → Own → ℕ
own_count v (opens o) = 0
own_count v (calls c) = C.count v.voice (back v.line) c
own_count v (store old) = store_length v (length old)
own_count v (load bytes) = 0

-- 24: "counts and lengths 0"
unfoldable pub counted : Strings → ℕ → Own → ℕ
counted s k a = cond (ltb 5 k) 0 (own_count (s k) a)

-- ---- slices afterwards that were old
-- the bytes lent to a store on string k: by 24 untouched
unfoldable pub lent : Strings → ℕ → List ℕ → List ℕ
lent s k old = cond (ltb 5 k) old (left (s k) old)

-- the output lent to a mix: untouched where it is refused
unfoldable pub mix_into : Strings → List ℤ → List ℤ → List ℤ
mix_into s xs old =
    let p = mix xs (length old) in
    cond (eqb (number s p) 0) (out s p) old
