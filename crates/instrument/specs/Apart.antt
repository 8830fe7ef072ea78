-- "No call on one string alters another's outputs or stored voice": document 02, L11.
-- Statements alone: proofs/Apart.antt proves `Apart`.
use Rattle.std.specs.Prelude.{◌≡◌, cond, List, [], ◌∷◌, ℕ, ◌≤◌, eqb, ℤ}
use Rattle.refusal.specs.Limits.{refusal}
use Rattle.rule.specs.Calls.{block}
use Rattle.rule.specs.State.{State, put}
use Rattle.form.specs.Parts.{stored}
use Rattle.form.specs.Loads.{left}
use Rattle.instrument.specs.Strings.{Own, opens, calls, store, load, Play, on, mix, Strings, number}
use Rattle.instrument.specs.Strings.{own_limits, own, play, plays, out, own_out, own_count, counted, lent}

-- ---- string k's own calls, and every mix as a block
abbrev pub its : ℕ → List Play → List Own
its k [] = []
its k (on j a ∷ ps) = cond (eqb k j) (a ∷ its k ps) (its k ps)
its k (mix xs n ∷ ps) = calls (block xs n) ∷ its k ps

-- ---- all that comes back by a call: its number, its count or length, the samples that the string puts out,
-- and the slice lent to a store
pub record Answer : Type 0 where
  pub number : ℕ
  pub count : ℕ
  pub samples : List ℤ
  pub slice : List ℕ

abbrev pub answer : ℕ → ℕ → List ℤ → List ℕ → Answer
answer n c ys bs = record { number = n; count = c; samples = ys; slice = bs }

abbrev pub slice : Strings → ℕ → Own → List ℕ
slice s k (opens o) = []
slice s k (calls c) = []
slice s k (store old) = lent s k old
slice s k (load bytes) = []

-- of string k's own calls, and of the mixes, what it puts into them
abbrev pub answers : Strings → ℕ → List Play → List Answer
answers s k [] = []
answers s k (on j a ∷ ps) =
    let p = on j a in
    cond (eqb k j) (answer (number s p) (counted s j a) (out s p) (slice s j a) ∷ answers (play s p) k ps)
    (answers (play s p) k ps)
answers s k (mix xs n ∷ ps) =
    let p = mix xs n in
    answer (number s p) 0 (put (s k) (block xs n)) [] ∷ answers (play s p) k ps

-- ---- the same of one string alone
abbrev pub owns : State → List Own → State
owns v [] = v
owns v (a ∷ us) = owns (own v a) us

abbrev pub own_slice : State → Own → List ℕ
own_slice v (opens o) = []
own_slice v (calls c) = []
own_slice v (store old) = left v old
own_slice v (load bytes) = []

abbrev pub own_answers : State → List Own → List Answer
own_answers v [] = []
own_answers v (a ∷ us) =
    answer (refusal (own_limits v a)) (own_count v a) (own_out v a) (own_slice v a) ∷ own_answers (own v a) us

pub record Apart : Type 0 where
  pub others : (s : Strings) (k j : ℕ) (a : Own) → (j ≡ k → ⊥) → play s (on k a) j ≡ s j
  pub forms : (s : Strings) (k j : ℕ) (a : Own) → (j ≡ k → ⊥) → stored (play s (on k a) j) ≡ stored (s j)
  -- what a string is, and what comes back by it, depends on its own calls and on the mixes alone
  pub alone : (s : Strings) (ps : List Play) (k : ℕ) → k ≤ 5 → plays s ps k ≡ owns (s k) (its k ps)
  pub answers_alone : (s : Strings) (ps : List Play) (k : ℕ) → k ≤ 5
      → answers s k ps ≡ own_answers (s k) (its k ps)
  -- lists that are alike in these, from instruments that are alike in string k alone
  pub alike : (s u : Strings) (ps qs : List Play) (k : ℕ) → k ≤ 5 → s k ≡ u k → its k ps ≡ its k qs
      → (plays s ps k ≡ plays u qs k) × (answers s k ps ≡ answers u k qs)
