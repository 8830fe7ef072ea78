-- How a run ends: each number, with its place and its count of samples, if and only if its condition holds
-- and no earlier one does. Statements alone: proofs/Answered.antt proves `Answered`. Assumes nothing.
use Rattle.std.specs.Prelude.{◌≡◌, ◌↔◌, List, ℕ, ◌-◌, ◌≤◌, ◌<◌, length, get_or, drop}
use Rattle.std.proofs.Math.Option.{none}
use Rattle.refusal.specs.Limits.{Between}
use Rattle.rule.specs.State.{State}
use Rattle.record.specs.Record.{map_of, field}
use Rattle.record.specs.Returns.{IllFormed}
use Rattle.score.specs.Played.{Played}
use Rattle.score.specs.Reached.{OrderIn, LengthIn, DelayIn, LossIn, AdvanceIn, Has, size}
use Rattle.score.specs.Reached.{Readable, waited, SetsLoss, Given, AsksChange, Delayed, MakesChange}
use Rattle.score.specs.Reached.{Reached}

-- "14 in the header, then Open's"
pub data HeaderRefused (s : List ℕ) : ℕ → Type 0 where
  cut : length s < 8 → HeaderRefused s 14
  order : 8 ≤ length s → (OrderIn s → ⊥) → HeaderRefused s 1
  long : 8 ≤ length s → OrderIn s → (LengthIn s → ⊥) → HeaderRefused s 2
  delay : 8 ≤ length s → OrderIn s → LengthIn s → (DelayIn s → ⊥) → HeaderRefused s 3
  loss : 8 ≤ length s → OrderIn s → LengthIn s → DelayIn s → (LossIn s → ⊥) → HeaderRefused s 4
  advance : 8 ≤ length s → OrderIn s → LengthIn s → DelayIn s → LossIn s → (AdvanceIn s → ⊥)
      → HeaderRefused s 5

-- "for each record 14, 15, 16 the wait doesn't fit the output left"
pub data RecordRefused (t : List ℕ) (left : ℕ) : ℕ → Type 0 where
  cut : length t < size t → RecordRefused t left 14
  ill_formed : size t ≤ length t → IllFormed (map_of t) → RecordRefused t left 15
  full : size t ≤ length t → (IllFormed (map_of t) → ⊥) → left < field t 0 → RecordRefused t left 16

-- "then those of change and pluck", and of the loss
pub data LossRefused (t : List ℕ) : ℕ → Type 0 where
  loss_outside : Has t 3 → (Between 0 (field t 3) 65535 → ⊥) → LossRefused t 4

pub data ChangeRefused (t : List ℕ) (v : State) : ℕ → Type 0 where
  long : {L d : ℕ} → AsksChange t v L d → (Between 1 L 2048 → ⊥) → ChangeRefused t v 2
  delay : {L d : ℕ} → AsksChange t v L d → Between 1 L 2048 → (Delayed v d → ⊥) → ChangeRefused t v 3
  waits : {L d : ℕ} → AsksChange t v L d → Between 1 L 2048 → Delayed v d → (v.voice.waiting ≡ none → ⊥)
      → ChangeRefused t v 6

pub data PluckRefused (t : List ℕ) : ℕ → Type 0 where
  amplitude : Has t 4 → (Between 0 (field t 4) 255 → ⊥) → PluckRefused t 7
  count : {n : ℕ} → Has t 4 → Between 0 (field t 4) 255 → Given t 5 100 n → (Between 1 n 2048 → ⊥)
      → PluckRefused t 8

-- ---- the run of the score s over so many places ends with this number, place and count of samples
pub data Ends (s : List ℕ) (places : ℕ) : ℕ → ℕ → ℕ → Type 0 where
  -- "0 for the header"
  unopened : {n : ℕ} → HeaderRefused s n → Ends s places n 0 0
  -- "14, 15 and 16 come before any sample of the record"
  record_refused : {n k left at : ℕ} {v : State} → Reached s places k v left at → at < length s
      → RecordRefused (drop at s) left n → Ends s places n k (places - left)
  -- "the others come after its wait"
  lossless : {n k left at : ℕ} {v : State} → Reached s places k v left at → at < length s
      → Readable (drop at s) left → LossRefused (drop at s) n
      → Ends s places n k (places - (left - field (drop at s) 0))
  unchanged : {n k left at : ℕ} {v a : State} → Reached s places k v left at → at < length s
      → Readable (drop at s) left → SetsLoss (drop at s) (waited (drop at s) v) a
      → ChangeRefused (drop at s) a n → Ends s places n k (places - (left - field (drop at s) 0))
  unplucked : {n k left at : ℕ} {v a b : State} → Reached s places k v left at → at < length s
      → Readable (drop at s) left → SetsLoss (drop at s) (waited (drop at s) v) a
      → MakesChange (drop at s) a b → PluckRefused (drop at s) n
      → Ends s places n k (places - (left - field (drop at s) 0))
  -- "ends with the bytes": every record was accepted; "on success the record count"
  success : {k left at : ℕ} {v : State} → Reached s places k v left at → at ≡ length s
      → Ends s places 0 k (places - left)

-- r is what the run of s over so many places returned
pub record Answered (s : List ℕ) (places : ℕ) (r : Played) : Type 0 where
  pub ends : (n k w : ℕ) → ((r.refusal ≡ n) × (r.place ≡ k) × (r.written ≡ w)) ↔ Ends s places n k w
  -- a score is bytes: G has 16 bits, so 4 is never returned, nor is the number of another routine
  pub never : ((i : ℕ) → get_or s i 0 < 256) → (n : ℕ) → r.refusal ≡ n
      → (n ≡ 4 → ⊥) × (9 ≤ n → n ≤ 13 → ⊥) × (n ≤ 16)
