-- When a record of a score is reached, and on which voice, in bits, bytes and ≤: the outside of a run, beside
-- the definitions of specs/Run.antt, of which it uses none. Definitions alone. Assumes nothing.
use Rattle.std.specs.Prelude.{◌≡◌, List, ℕ, ◌+◌, ◌*◌, ◌-◌, ◌≤◌, pos, length, get_or, drop, replicate}
use Rattle.std.proofs.Math.Option.{none}
use Rattle.refusal.specs.Limits.{Between}
use Rattle.refusal.specs.Orders.{orders, lowest, highest}
use Rattle.rule.specs.Voice.{Tuning, tuning}
use Rattle.rule.specs.Calls.{Call, Opening, block, loss, pluck, announce, instant}
use Rattle.rule.specs.State.{State, call, fresh}
use Rattle.record.specs.Record.{map_of, field}
use Rattle.record.specs.Returns.{Stands, IllFormed, field_bytes}

-- ---- the header
-- "Header, 8 bytes: order and Na, a byte each, then L, d, G as 16-bit numbers, low byte first"
abbrev pub header : List ℕ → Opening
header s = record {
  N = get_or s 0 0;
  Na = get_or s 1 0;
  L = get_or s 2 0 + 256 * get_or s 3 0;
  d = get_or s 4 0 + 256 * get_or s 5 0;
  G = get_or s 6 0 + 256 * get_or s 7 0;
}

-- its numbers are within Open's limits
abbrev pub OrderIn : List ℕ → Type 0
OrderIn s = Between 1 (header s).N orders

abbrev pub LengthIn : List ℕ → Type 0
LengthIn s = Between 1 (header s).L 2048

abbrev pub DelayIn : List ℕ → Type 0
DelayIn s = Between (lowest (header s).N) (header s).d (highest (header s).N)

abbrev pub LossIn : List ℕ → Type 0
LossIn s = Between 0 (header s).G 65535

abbrev pub AdvanceIn : List ℕ → Type 0
AdvanceIn s = Between 0 (header s).Na 64

-- it is whole, and opens a voice
pub record HeaderOpens (s : List ℕ) : Type 0 where
  pub whole : 8 ≤ length s
  pub order : OrderIn s
  pub long : LengthIn s
  pub delay : DelayIn s
  pub loss : LossIn s
  pub advance : AdvanceIn s

-- ---- a record, in the bytes t
-- its bit k stands, or is absent
abbrev pub Has : List ℕ → ℕ → Type 0
Has t k = Stands (map_of t) k

abbrev pub Lacks : List ℕ → ℕ → Type 0
Lacks t k = Has t k → ⊥

-- its bytes: the bit map, and two for each of the bits 0 to 6 that stand
abbrev pub size : List ℕ → ℕ
size t = 1 + field_bytes (map_of t)

-- it is whole and well formed, and its wait fits the places left
pub record Readable (t : List ℕ) (left : ℕ) : Type 0 where
  pub whole : size t ≤ length t
  pub formed : IllFormed (map_of t) → ⊥
  pub fits : field t 0 ≤ left

-- ---- what it does: the voice v becomes u
-- "A record renders its wait with input 0"
abbrev pub waited : List ℕ → State → State
waited t v = call v (block (replicate (field t 0) (pos 0)) (field t 0))

-- "then sets G"; "G as it was" where it is absent
pub data SetsLoss (t : List ℕ) (v u : State) : Type 0 where
  as_it_was : Lacks t 3 → u ≡ v → SetsLoss t v u
  set : Has t 3 → Between 0 (field t 3) 65535 → u ≡ call v (loss (field t 3)) → SetsLoss t v u

-- x is field k, and y where that is absent
pub data Given (t : List ℕ) (k y x : ℕ) : Type 0 where
  present : Has t k → x ≡ field t k → Given t k y x
  absent : Lacks t k → x ≡ y → Given t k y x

-- "an absent L or d beside the other is the one in force": it asks for a change to L and d
pub record AsksChange (t : List ℕ) (v : State) (L d : ℕ) : Type 0 where
  pub some : (Lacks t 1 → Lacks t 2 → ⊥)
  pub long : Given t 1 v.voice.tuning.L L
  pub delay : Given t 2 v.voice.tuning.d d

-- "Bit 7 .. makes the change instant"
pub data Manner (t : List ℕ) (to : Tuning) (c : Call) : Type 0 where
  announced : Lacks t 7 → c ≡ announce to → Manner t to c
  instantly : Has t 7 → c ≡ instant to → Manner t to c

-- "Score changes keep the order in force" (document 02, L6)
abbrev pub keeping : State → ℕ → ℕ → Tuning
keeping v L d = tuning v.voice.tuning.N L d

-- d is a delay that the order in force takes
abbrev pub Delayed : State → ℕ → Type 0
Delayed v d = Between (lowest v.voice.tuning.N) d (highest v.voice.tuning.N)

-- "then changes"; "no bit 1 or 2, no change"
pub data MakesChange (t : List ℕ) (v u : State) : Type 0 where
  no_change : Lacks t 1 → Lacks t 2 → u ≡ v → MakesChange t v u
  changed : {L d : ℕ} {c : Call} → AsksChange t v L d → Between 1 L 2048 → Delayed v d
      → v.voice.waiting ≡ none → Manner t (keeping v L d) c → u ≡ call v c → MakesChange t v u

-- "then plucks"; "no bit 4, no pluck; .. seed 0"; an absent count means "100 samples" (document 02, L2)
pub data MakesPluck (t : List ℕ) (v u : State) : Type 0 where
  no_pluck : Lacks t 4 → u ≡ v → MakesPluck t v u
  plucked : {n : ℕ} → Has t 4 → Between 0 (field t 4) 255 → Given t 5 100 n
      → Between 1 n 2048 → u ≡ call v (pluck (field t 4) n (field t 6)) → MakesPluck t v u

-- ---- record k of the score s is reached, on this voice, with this many of the places left, at this byte
pub data Reached (s : List ℕ) (places : ℕ) : ℕ → State → ℕ → ℕ → Type 0 where
  first : HeaderOpens s → Reached s places 0 (fresh (header s)) places 8
  later : {k : ℕ} {v a b u : State} {left at : ℕ} → Reached s places k v left at
      → Readable (drop at s) left → SetsLoss (drop at s) (waited (drop at s) v) a
      → MakesChange (drop at s) a b → MakesPluck (drop at s) b u
      → Reached s places (k + 1) u (left - field (drop at s) 0) (at + size (drop at s))
