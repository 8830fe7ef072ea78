-- The run of a score: the calls that its records make on a voice opened from its header, and what it returns.
-- Definitions alone. Assumes nothing.
use Rattle.std.specs.Prelude.{cond, List, [], ◌∷◌, ◌++◌, ℕ, zero, suc, ◌+◌, ◌-◌, eqb, length, get_or, drop}
use Rattle.refusal.specs.Limits.{Limit, refusal}
use Rattle.rule.specs.Calls.{Call, Opening, open_limits}
use Rattle.rule.specs.State.{State, from, fresh}
use Rattle.record.specs.Record.{word, record_limits, fields, rest}
use Rattle.follow.specs.Follow.{value, result, record_calls}

-- "a number (0 for success), a place .. and the samples written": those that the calls put out
pub record Outcome : Type 0 where
  pub number : ℕ
  pub place : ℕ
  pub calls : List Call

abbrev pub ends : ℕ → ℕ → List Call → Outcome
ends n k cs = record { number = n; place = k; calls = cs }

-- the calls cs, and then what o does
abbrev pub joined : List Call → Outcome → Outcome
joined cs o = ends o.number o.place (cs ++ o.calls)

-- "16 the wait doesn't fit the output left", of which there is room for so many samples
abbrev pub fits : List ℕ → ℕ → Limit
fits r room = record { number = 16; low = 0; value = value r 0; high = room }

-- "for each record 14, 15, 16"
abbrev pub play_limits : List ℕ → ℕ → List Limit
play_limits s room = record_limits s ++ fits (fields s) room ∷ []

-- what comes of a record that has the number n and makes the calls cs, and of the records after it
unfoldable pub played : ℕ → State → List Call → ℕ → Outcome → Outcome
played n v cs k o =
    cond (eqb n 0) (cond (eqb (result v cs) 0) (joined cs o) (ends (result v cs) k cs)) (ends n k [])

-- the records in the bytes s, of which the first has index k, on the voice v; each takes a byte at least,
-- so that there are at most as many as bytes
unfoldable pub records : ℕ → State → List ℕ → ℕ → ℕ → Outcome
records zero v s room k = ends 0 k []
records (suc n) v s room k =
    cond (eqb (length s) 0)
    (ends 0 k [])
    (played (refusal (play_limits s room)) v (record_calls (fields s) v) k
    (records n (from v (record_calls (fields s) v)) (rest s) (room - value (fields s) 0) (k + 1)))

abbrev pub all_records : State → List ℕ → ℕ → Outcome
all_records v s room = records (length s) v s room 0

-- "Header, 8 bytes: order and Na, a byte each, then L, d, G as 16-bit numbers, low byte first"
abbrev pub opening : List ℕ → Opening
opening s = record { N = get_or s 0 0; L = word s 2; d = word s 4; G = word s 6; Na = get_or s 1 0 }

-- "14 in the header, then Open's"
abbrev pub header_limits : List ℕ → List Limit
header_limits s = record { number = 14; low = 8; value = length s; high = length s } ∷ open_limits (opening s)

-- the run of the score s with an output of room samples
unfoldable pub run : List ℕ → ℕ → Outcome
run s room =
    cond (eqb (refusal (header_limits s)) 0)
    (all_records (fresh (opening s)) (drop 8 s) room)
    (ends (refusal (header_limits s)) 0 [])
