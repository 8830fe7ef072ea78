-- Demand 1, call by call: "returns the refusal that document 01 lists for that condition, and under no other
-- condition", in ≤. Statements alone: proofs/Refusals.antt proves `Refuses`. Assumes nothing.
use Rattle.std.specs.Prelude.{◌≡◌, ◌↔◌, List, [], ℕ, ◌≤◌, ◌<◌, ℤ, pos, length, replicate}
use Rattle.std.proofs.Math.Option.{none, some}
use Rattle.integer.specs.Rounding.{M}
use Rattle.refusal.specs.Limits.{Between, refusal}
use Rattle.refusal.specs.Orders.{orders, lowest, highest}
use Rattle.allpass.specs.Bounds.{Within}
use Rattle.rule.specs.Voice.{Kind, asked, Tuning, Waiting, Voice}
use Rattle.rule.specs.Calls.{Call, block, loss, pluck, prepare, instant, commit, withdraw, Opening}
use Rattle.rule.specs.Calls.{open_limits, number, opened, count}
use Rattle.rule.specs.State.{State, call, put}

-- ---- the number n of each call: "Tests run in the order listed"
-- the limits of N, L, d
abbrev Ordered : ℕ → Type 0
Ordered N = Between 1 N orders

abbrev Long : ℕ → Type 0
Long L = Between 1 L 2048

abbrev Delayed : ℕ → ℕ → Type 0
Delayed N d = Between (lowest N) d (highest N)

-- "Open: 1 order, 2 L, 3 d, 4 G, 5 Na outside the limits"
pub record OpenReturns (N L d G Na n : ℕ) : Type 0 where
  pub order : (n ≡ 1) ↔ (Ordered N → ⊥)
  pub long : (n ≡ 2) ↔ (Ordered N × (Long L → ⊥))
  pub delay : (n ≡ 3) ↔ (Ordered N × (Long L × (Delayed N d → ⊥)))
  pub loss : (n ≡ 4) ↔ (Ordered N × (Long L × (Delayed N d × (Between 0 G 65535 → ⊥))))
  pub advance : (n ≡ 5) ↔ (Ordered N × (Long L × (Delayed N d × (Between 0 G 65535 × (Between 0 Na 64 → ⊥)))))
  pub accepted : (n ≡ 0) ↔ (Ordered N × (Long L × (Delayed N d × (Between 0 G 65535 × Between 0 Na 64))))

-- "Announced and instant change: 2, 3, then 6 a change waits"; L3: "Asking tests what a change tests"; "A change
-- that was asked for counts as waiting"; L6: "A change now tests 1 before 2", and 3 with the order that it names
pub record ChangeReturns (v : Voice) (N L d n : ℕ) : Type 0 where
  pub order : (n ≡ 1) ↔ (Ordered N → ⊥)
  pub long : (n ≡ 2) ↔ (Ordered N × (Long L → ⊥))
  pub delay : (n ≡ 3) ↔ (Ordered N × (Long L × (Delayed N d → ⊥)))
  pub waits : (n ≡ 6) ↔ (Ordered N × (Long L × (Delayed N d × (v.waiting ≡ none → ⊥))))
  pub accepted : (n ≡ 0) ↔ (Ordered N × (Long L × (Delayed N d × (v.waiting ≡ none))))

-- L3: a change that was asked for waits in v; P is said of how many samples it has taken
pub record Asked (v : Voice) (P : ℕ → Type 0) : Type 0 where
  pub w : Waiting
  pub held : v.waiting ≡ some w
  pub kind : w.kind ≡ asked
  pub taken : P w.taken

abbrev pub Any : ℕ → Type 0
Any k = Unit {0}

-- L3: "20 commit before Na samples were taken; 21 commit or withdraw with nothing asked; 21 is tested first"
pub record CommitReturns (v : Voice) (n : ℕ) : Type 0 where
  pub nothing : (n ≡ 21) ↔ (Asked v Any → ⊥)
  pub before : (n ≡ 20) ↔ Asked v (λ k. k < v.Na)
  pub accepted : (n ≡ 0) ↔ Asked v (λ k. v.Na ≤ k)

pub record WithdrawReturns (v : Voice) (n : ℕ) : Type 0 where
  pub nothing : (n ≡ 21) ↔ (Asked v Any → ⊥)
  pub accepted : (n ≡ 0) ↔ Asked v Any

-- "Loss: 4."
pub record LossReturns (G n : ℕ) : Type 0 where
  pub loss : (n ≡ 4) ↔ (Between 0 G 65535 → ⊥)
  pub accepted : (n ≡ 0) ↔ Between 0 G 65535

-- "Pluck: 7 amplitude above 255, 8 count 0 or above 2,048."
pub record PluckReturns (a k n : ℕ) : Type 0 where
  pub amplitude : (n ≡ 7) ↔ (Between 0 a 255 → ⊥)
  pub count : (n ≡ 8) ↔ (Between 0 a 255 × (Between 1 k 2048 → ⊥))
  pub accepted : (n ≡ 0) ↔ (Between 0 a 255 × Between 1 k 2048)

-- "Block: 9 input and output differ in length, 10 an input outside −M to M."
pub record BlockReturns (xs : List ℤ) (room n : ℕ) : Type 0 where
  pub differ : (n ≡ 9) ↔ (length xs ≡ room → ⊥)
  pub input : (n ≡ 10) ↔ ((length xs ≡ room) × (Within M xs → ⊥))
  pub accepted : (n ≡ 0) ↔ ((length xs ≡ room) × Within M xs)

-- ---- what comes back
-- a voice of these numbers, at rest: all else is 0, and nothing waits
pub record Resting (N L d G Na : ℕ) (v : Voice) : Type 0 where
  pub tuning : v.tuning ≡ record { N = N; L = L; d = d }
  pub loss : v.G ≡ G
  pub advance : v.Na ≡ Na
  pub state : v.state ≡ replicate N (pos 0)
  pub last : v.last ≡ pos 0
  pub waiting : v.waiting ≡ none
  pub pluck : v.pluck ≡ record { amplitude = 0; left = 0; noise = 0 }

pub record Refuses : Type 0 where
  pub opens : (o : Opening) → OpenReturns o.N o.L o.d o.G o.Na (refusal (open_limits o))
  pub prepares : (v : Voice) (k : Kind) (to : Tuning)
      → ChangeReturns v to.N to.L to.d (number v (prepare k to))
  pub instants : (v : Voice) (to : Tuning) → ChangeReturns v to.N to.L to.d (number v (instant to))
  pub commits : (v : Voice) → CommitReturns v (number v commit)
  pub withdraws : (v : Voice) → WithdrawReturns v (number v withdraw)
  pub losses : (v : Voice) (G : ℕ) → LossReturns G (number v (loss G))
  pub plucks : (v : Voice) (a k z : ℕ) → PluckReturns a k (number v (pluck a k z))
  pub blocks : (v : Voice) (xs : List ℤ) (n : ℕ) → BlockReturns xs n (number v (block xs n))
  -- what Open returns
  pub resting : (o : Opening) → refusal (open_limits o) ≡ 0
      → Resting o.N o.L o.d o.G o.Na (opened o)
  -- "It returns a resting voice of order 1 with L 1, d 4,096, G 0, Na 0"
  pub resting_refused : (o : Opening) → (refusal (open_limits o) ≡ 0 → ⊥) → Resting 1 1 4096 0 0 (opened o)
  -- "The voice is unchanged", "Output and voice are unchanged"
  pub unchanged : (v : State) (c : Call) → (number v.voice c ≡ 0 → ⊥) → (call v c ≡ v) × (put v c ≡ [])
  -- "the instant change counts 0"
  pub uncounted : (v : Voice) (r : ℕ → ℤ) (to : Tuning) → (number v (instant to) ≡ 0 → ⊥)
      → count v r (instant to) ≡ 0
