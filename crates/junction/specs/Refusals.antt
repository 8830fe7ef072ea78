-- What each call of a junction returns, each number if and only if, in ≤ and literals; and what a refused one
-- leaves. Statements alone: proofs/Refusals.antt proves `Refuses`.
use Rattle.std.specs.Prelude.{◌≡◌, ◌↔◌, [], ◌∷◌, ℕ, ◌≤◌, ℤ, pos, nat_abs}
use Rattle.std.proofs.Math.Option.{none}
use Rattle.refusal.specs.Limits.{Between, refusal}
use Rattle.junction.specs.Junction.{Two, reflection, Junction}
use Rattle.junction.specs.Calls.{Opening, Call, move, sample, open_limits, number, open_junction, call, put}

abbrev pub Areas : ℕ → ℕ → Type 0
Areas left right = Between 1 left 65535 × Between 1 right 65535

-- "at opening 25 an area outside its limits, then 3, 5"
pub record OpenReturns (left right d Na n : ℕ) : Type 0 where
  pub area : (n ≡ 25) ↔ (Areas left right → ⊥)
  pub delay : (n ≡ 3) ↔ (Areas left right × (Between 2049 d 6143 → ⊥))
  pub advance : (n ≡ 5) ↔ (Areas left right × (Between 2049 d 6143 × (Between 0 Na 64 → ⊥)))
  pub accepted : (n ≡ 0) ↔ (Areas left right × (Between 2049 d 6143 × Between 0 Na 64))

-- "for a move 3, then 6 while one waits"
pub record MoveReturns (j : Junction) (d n : ℕ) : Type 0 where
  pub delay : (n ≡ 3) ↔ (Between 2049 d 6143 → ⊥)
  pub waits : (n ≡ 6) ↔ (Between 2049 d 6143 × (j.waiting ≡ none → ⊥))
  pub accepted : (n ≡ 0) ↔ (Between 2049 d 6143 × (j.waiting ≡ none))

-- "for a sample 10": M is 8,388,607
abbrev pub Quiet : Two ℤ → Type 0
Quiet x = (nat_abs x.a ≤ 8388607) × (nat_abs x.b ≤ 8388607)

pub record SampleReturns (x : Two ℤ) (n : ℕ) : Type 0 where
  pub input : (n ≡ 10) ↔ (Quiet x → ⊥)
  pub accepted : (n ≡ 0) ↔ Quiet x

-- at rest: all else is 0, and nothing waits
pub record Resting (r : ℤ) (d Na : ℕ) (j : Junction) : Type 0 where
  pub reflects : j.r ≡ r
  pub delay : j.d ≡ d
  pub advance : j.Na ≡ Na
  pub states : j.states ≡ record { a = pos 0 ∷ []; b = pos 0 ∷ [] }
  pub last : j.last ≡ record { a = pos 0; b = pos 0 }
  pub waiting : j.waiting ≡ none

pub record Refuses : Type 0 where
  pub opens : (o : Opening) → OpenReturns o.left o.right o.d o.Na (refusal (open_limits o))
  pub moves : (j : Junction) (d : ℕ) → MoveReturns j d (number j (move d))
  pub samples : (j : Junction) (x : Two ℤ) → SampleReturns x (number j (sample x))
  pub resting : (o : Opening) → refusal (open_limits o) ≡ 0
      → Resting (reflection o.left o.right) o.d o.Na (open_junction o)
  -- "a refused opening gives areas 1 and 1, d 4,096, Na 0, at rest"
  pub resting_refused : (o : Opening) → (refusal (open_limits o) ≡ 0 → ⊥)
      → Resting (reflection 1 1) 4096 0 (open_junction o)
  -- "the junction is unchanged, the outputs are 0"
  pub unchanged : (j : Junction) (c : Call) → (number j c ≡ 0 → ⊥)
      → (call j c ≡ j) × (put j c ≡ record { right = pos 0; left = pos 0 })
