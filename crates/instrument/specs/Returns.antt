-- Demand 1 of the calls on an instrument, from outside in ≤: 24 first, then each call's own numbers; and what
-- a call leaves. Document 02, L11. Statements alone: proofs/Returns.antt proves them.
use Rattle.std.specs.Prelude.{◌≡◌, ◌↔◌, List, [], ℕ, ◌≤◌, ◌<◌, ℤ, length}
use Rattle.refusal.specs.Limits.{refusal}
use Rattle.rule.specs.Voice.{Kind, Tuning}
use Rattle.rule.specs.Calls.{Call, block, loss, pluck, prepare, instant, commit, withdraw, Opening}
use Rattle.rule.specs.Refusals.{OpenReturns, ChangeReturns, CommitReturns, WithdrawReturns, LossReturns}
use Rattle.rule.specs.Refusals.{PluckReturns, BlockReturns}
use Rattle.form.specs.Numbers.{refused}
use Rattle.form.specs.Parts.{held_in}
use Rattle.form.specs.Loads.{loads, left}
use Rattle.form.specs.Refusals.{LoadReturns, StoreReturns}
use Rattle.instrument.specs.Strings.{Own, opens, calls, store, load, on, mix, Strings, own_limits}
use Rattle.instrument.specs.Strings.{number, own, play, out, own_out, own_count, counted, lent, mix_into}
use Rattle.instrument.specs.Share.{Refused}

pub record Returns : Type 0 where
  -- "24 string number above 5, ahead of the call's own tests"
  pub above : (s : Strings) (k : ℕ) (a : Own) → (number s (on k a) ≡ 24) ↔ (5 < k)
  -- every other number is the call's own, on a string from 0 to 5
  pub within : (s : Strings) (k : ℕ) (a : Own) (n : ℕ) → (n ≡ 24 → ⊥)
      → (number s (on k a) ≡ n) ↔ ((k ≤ 5) × (refusal (own_limits (s k) a) ≡ n))
  -- so on these strings
  pub opening : (s : Strings) (k : ℕ) (o : Opening) → k ≤ 5
      → OpenReturns o.N o.L o.d o.G o.Na (number s (on k (opens o)))
  pub preparing : (s : Strings) (k : ℕ) (i : Kind) (to : Tuning) → k ≤ 5
      → ChangeReturns (s k).voice to.N to.L to.d (number s (on k (calls (prepare i to))))
  pub retuning : (s : Strings) (k : ℕ) (to : Tuning) → k ≤ 5
      → ChangeReturns (s k).voice to.N to.L to.d (number s (on k (calls (instant to))))
  pub committing : (s : Strings) (k : ℕ) → k ≤ 5 → CommitReturns (s k).voice (number s (on k (calls commit)))
  pub withdrawing : (s : Strings) (k : ℕ) → k ≤ 5
      → WithdrawReturns (s k).voice (number s (on k (calls withdraw)))
  pub losing : (s : Strings) (k G : ℕ) → k ≤ 5 → LossReturns G (number s (on k (calls (loss G))))
  pub plucking : (s : Strings) (k a n z : ℕ) → k ≤ 5
      → PluckReturns a n (number s (on k (calls (pluck a n z))))
  pub storing : (s : Strings) (k : ℕ) (old : List ℕ) → k ≤ 5
      → StoreReturns (s k) old (number s (on k (store old)))
  pub loading : (s : Strings) (k : ℕ) (bytes : List ℕ) → k ≤ 5
      → LoadReturns bytes (held_in bytes) (number s (on k (load bytes)))
  -- a mix: 9, then 10, of the whole input
  pub mixing : (s : Strings) (xs : List ℤ) (n : ℕ) → BlockReturns xs n (number s (mix xs n))

-- ---- "nothing changed, counts and lengths 0"
pub record Leaves : Type 0 where
  pub nothing : (s : Strings) (k : ℕ) (a : Own) → 5 < k → (j : ℕ) → play s (on k a) j ≡ s j
  pub silent : (s : Strings) (k : ℕ) (a : Own) → 5 < k → out s (on k a) ≡ []
  pub uncounted : (s : Strings) (k : ℕ) (a : Own) → 5 < k → counted s k a ≡ 0
  pub untouched : (s : Strings) (k : ℕ) (old : List ℕ) → 5 < k → lent s k old ≡ old
  -- a refused mix steps no string and leaves the output
  pub unmixed : (s : Strings) (xs : List ℤ) (n : ℕ) → (number s (mix xs n) ≡ 0 → ⊥)
      → ((k : ℕ) → play s (mix xs n) k ≡ s k) × (out s (mix xs n) ≡ [])
  pub unwritten : (s : Strings) (xs old : List ℤ) → (number s (mix xs (length old)) ≡ 0 → ⊥)
      → mix_into s xs old ≡ old
  pub written : (s : Strings) (xs old : List ℤ) → number s (mix xs (length old)) ≡ 0
      → mix_into s xs old ≡ out s (mix xs (length old))
  -- on a string from 0 to 5, what the call itself leaves, puts out and counts
  pub itself : (s : Strings) (k : ℕ) (a : Own) → k ≤ 5
      → (play s (on k a) k ≡ own (s k) a) × (out s (on k a) ≡ own_out (s k) a)
      × (counted s k a ≡ own_count (s k) a)
  pub bytes : (s : Strings) (k : ℕ) (old : List ℕ) → k ≤ 5 → lent s k old ≡ left (s k) old
  -- a refused Open, or a refused load, leaves Open's refusal voice
  pub unopened : (s : Strings) (k : ℕ) (o : Opening) → k ≤ 5 → Refused o → play s (on k (opens o)) k ≡ refused
  pub unloaded : (s : Strings) (k : ℕ) (bytes : List ℕ) → k ≤ 5 → ((loads bytes).refusal ≡ 0 → ⊥)
      → play s (on k (load bytes)) k ≡ refused
