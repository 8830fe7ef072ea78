-- Demand 1 of loading and storing, from outside: each number under its condition and under no other, in bits,
-- bytes and ≤. Document 02, L10. Statements alone: proofs/Refusals.antt proves `Refuses`.
use Rattle.std.specs.Prelude.{◌≡◌, cond, ◌↔◌, List, [], ◌∷◌, ◌++◌, ℕ, zero, suc, ◌+◌, ◌-◌, ◌*◌, ◌/◌, ◌%◌, ◌^◌, ◌≤◌, ◌<◌, eqb, ℤ, pos, nat_abs, length, take, drop, get_or}
use Rattle.refusal.specs.Limits.{Between}
use Rattle.refusal.specs.Ranges.{InRange}
use Rattle.octets.specs.Octets.{number, signed}
use Rattle.octets.specs.Theorems.{Bytes}
use Rattle.allpass.specs.Bounds.{Within}
use Rattle.allpass.specs.declared.State.{State as Three}
use Rattle.rule.specs.Voice.{Tuning, tuning}
use Rattle.rule.specs.State.{State, back}
use Rattle.form.specs.Numbers.{Change, Numbers, state_of, refused}
use Rattle.form.specs.Parts.{stored, held_in}
use Rattle.form.specs.Loads.{loads, store_number, store_length, left}

-- ---- the numbers that bytes hold
-- how many bytes each part has: tuning, loss, advance, last output, state, waiting change, pluck, line
abbrev pub sizes : List ℕ
sizes = 12 ∷ 4 ∷ 4 ∷ 4 ∷ 12 ∷ 32 ∷ 12 ∷ 8448 ∷ []

-- of the parts ahead of part j, those that a bit map m has: "Bits follow that order, lowest first"
abbrev pub ahead : List ℕ → ℕ → ℕ → ℕ
ahead [] m j = 0
ahead (n ∷ ns) m zero = 0
ahead (n ∷ ns) m (suc j) = n * (m % 2) + ahead ns (m / 2) j

-- "22 bytes missing or left over": the bytes of the form with that bit map
abbrev pub form_size : ℕ → ℕ
form_size m = 1 + ahead sizes m 8

-- number k of part j, where the bit stands, "32 bits, low byte first"; else the one of Open's refusal voice
abbrev pub found : List ℕ → ℕ → ℕ → ℕ → ℕ
found s j k other =
    let m = get_or s 0 0 in
    cond (eqb (m / 2 ^ j % 2) 1) (number (take 4 (drop (1 + ahead sizes m j + 4 * k) s))) other

-- as a number that can be below zero
abbrev pub found_z : List ℕ → ℕ → ℕ → ℤ
found_z s j k = signed (2 ^ 31) (found s j k 0)

pub record Reads (s : List ℕ) (i : Numbers) : Type 0 where
  -- "Tuning is order, L, d"
  pub N : i.tuning.N ≡ found s 0 0 1
  pub L : i.tuning.L ≡ found s 0 1 1
  pub d : i.tuning.d ≡ found s 0 2 4096
  pub G : i.G ≡ found s 1 0 0
  pub Na : i.Na ≡ found s 2 0 0
  pub last : i.last ≡ found_z s 3 0
  -- "a state is v1, v2, v3"
  pub v1 : i.state.v1 ≡ found_z s 4 0
  pub v2 : i.state.v2 ≡ found_z s 4 1
  pub v3 : i.state.v3 ≡ found_z s 4 2
  -- "a waiting change is kind .., tuning, samples taken .. and state"
  pub kind : i.change.kind ≡ found s 5 0 0
  pub N' : i.change.tuning.N ≡ found s 5 1 0
  pub L' : i.change.tuning.L ≡ found s 5 2 0
  pub d' : i.change.tuning.d ≡ found s 5 3 0
  pub taken : i.change.taken ≡ found s 5 4 0
  pub w1 : i.change.state.v1 ≡ found_z s 5 5
  pub w2 : i.change.state.v2 ≡ found_z s 5 6
  pub w3 : i.change.state.v3 ≡ found_z s 5 7
  -- "a pluck is amplitude, steps left, noise state"
  pub amplitude : i.pluck.amplitude ≡ found s 6 0 0
  pub left : i.pluck.left ≡ found s 6 1 0
  pub noise : i.pluck.noise ≡ found s 6 2 0
  -- "the line runs oldest first"
  pub many : length i.line ≡ 2112
  pub line : (k : ℕ) → k < 2112 → get_or i.line k (pos 0) ≡ found_z s 7 k

-- ---- not "23 a part outside its limits or not in this form"
-- a tuning; "Each number of either state lies within −2M to 2M"; "zero past the order"
pub record FilterIn (t : Tuning) (v : Three) : Type 0 where
  pub tuned : InRange t.N t.d
  pub long : Between 1 t.L 2048
  pub v1 : nat_abs v.v1 ≤ 16777214
  pub v2 : nat_abs v.v2 ≤ 16777214
  pub v3 : nat_abs v.v3 ≤ 16777214
  pub second : t.N ≤ 1 → v.v2 ≡ pos 0
  pub third : t.N ≤ 2 → v.v3 ≡ pos 0

-- "No change .. is all zeros"
pub record AllZero (c : Change) : Type 0 where
  pub kind : c.kind ≡ 0
  pub tuned : c.tuning ≡ tuning 0 0 0
  pub taken : c.taken ≡ 0
  pub state : c.state ≡ record { v1 = pos 0; v2 = pos 0; v3 = pos 0 }

-- "samples taken (counted to Na, below it in kind 1)"
pub data ChangeIn (Na : ℕ) (c : Change) : Type 0 where
  none : AllZero c → ChangeIn Na c
  announced : c.kind ≡ 1 → c.taken < Na → FilterIn c.tuning c.state → ChangeIn Na c
  asked : c.kind ≡ 2 → c.taken ≤ Na → FilterIn c.tuning c.state → ChangeIn Na c

pub record InLimits (i : Numbers) : Type 0 where
  pub filter : FilterIn i.tuning i.state
  pub loss : i.G ≤ 65535
  pub advance : i.Na ≤ 64
  pub last : nat_abs i.last ≤ 8388607
  pub change : ChangeIn i.Na i.change
  pub amplitude : i.pluck.amplitude ≤ 255
  pub left : i.pluck.left ≤ 2048
  -- "no steps left, is all zeros"
  pub over : i.pluck.left ≡ 0 → (i.pluck.amplitude ≡ 0) × (i.pluck.noise ≡ 0)
  pub line : Within 8388607 i.line

-- ---- the number n of loading the bytes s, which hold the numbers i: "22 first"
pub record LoadReturns (s : List ℕ) (i : Numbers) (n : ℕ) : Type 0 where
  pub missing : (n ≡ 22) ↔ (length s ≡ form_size (get_or s 0 0) → ⊥)
  pub outside : (n ≡ 23) ↔ ((length s ≡ form_size (get_or s 0 0)) × (InLimits i → ⊥))
  pub accepted : (n ≡ 0) ↔ ((length s ≡ form_size (get_or s 0 0)) × InLimits i)

-- of storing the voice v into a slice that was old: "a lent slice too short is 18"
pub record StoreReturns (v : State) (old : List ℕ) (n : ℕ) : Type 0 where
  pub short : (n ≡ 18) ↔ (length old < length (stored v))
  pub accepted : (n ≡ 0) ↔ (length (stored v) ≤ length old)

pub record Refuses : Type 0 where
  pub reads : (s : List ℕ) → Reads s (held_in s)
  pub loading : (s : List ℕ) → LoadReturns s (held_in s) (loads s).refusal
  pub loaded : (s : List ℕ) → (loads s).refusal ≡ 0 → (loads s).state ≡ state_of (held_in s)
  pub nothing : (s : List ℕ) → ((loads s).refusal ≡ 0 → ⊥) → (loads s).state ≡ refused
  -- "the line runs oldest first": number k of it is s(n − 2,112 + k)
  pub oldest : (i : Numbers) → length i.line ≡ 2112 → (k : ℕ) → k < 2112
      → back (state_of i).line (2112 - k) ≡ get_or i.line k (pos 0)
  pub storing : (v : State) (old : List ℕ) → StoreReturns v old (store_number v (length old))
  -- "untouched, with length 0"
  pub untouched : (v : State) (old : List ℕ) → (store_number v (length old) ≡ 0 → ⊥)
      → (store_length v (length old) ≡ 0) × (left v old ≡ old)
  -- "Storing returns the length and touches nothing past it"
  pub wrote : (v : State) (old : List ℕ) → store_number v (length old) ≡ 0
      → let n = store_length v (length old) in
      (n ≡ length (stored v)) × (take n (left v old) ≡ stored v) × (drop n (left v old) ≡ drop n old)
