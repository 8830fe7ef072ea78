-- What storing, loading and the panel turn down and return: document 02, L10.
-- Definitions alone.
use Rattle.std.specs.Prelude.{cond, List, [], ◌∷◌, ◌++◌, ℕ, suc, ◌+◌, ◌-◌, eqb, length, drop}
use Rattle.refusal.specs.Limits.{Limit, refusal}
use Rattle.samples.specs.Samples.{over}
use Rattle.rule.specs.State.{State}
use Rattle.form.specs.Numbers.{Numbers, state_of, refused}
use Rattle.form.specs.Limits.{limits}
use Rattle.form.specs.Parts.{refused_parts, size, stored, map_of, held_in}

-- ---- loading
-- "22 bytes missing or left over": a bit map byte and the parts whose bit stands
abbrev pub length_limit : List ℕ → Limit
length_limit s =
    let n = suc (size (map_of s) refused_parts) in
    record { number = 22; low = n; value = length s; high = n }

-- "23 a part outside its limits or not in this form"
abbrev pub part_limit : Numbers → Limit
part_limit i = record { number = 23; low = 0; value = refusal (limits i); high = 0 }

-- "22 first"
unfoldable pub load_number : List ℕ → ℕ
load_number s = refusal (length_limit s ∷ part_limit (held_in s) ∷ [])

pub record Loaded : Type 0 where
  pub refusal : ℕ
  pub state : State

-- "Nothing is loaded: Open's refusal voice comes back"
unfoldable pub loads : List ℕ → Loaded
loads s =
    let n = load_number s in
    record { refusal = n; state = cond (eqb n 0) (state_of (held_in s)) refused }

-- ---- "the wall panel is given length, delay and loss only"
pub record Panel : Type 0 where
  pub refusal : ℕ
  pub L : ℕ
  pub d : ℕ
  pub G : ℕ

abbrev pub shown : ℕ → ℕ → ℕ → ℕ → Panel
shown n L d G = record { refusal = n; L = L; d = d; G = G }

unfoldable pub panel : List ℕ → Panel
panel s =
    let r = loads s in
    let v = r.state.voice in
    shown r.refusal v.tuning.L v.tuning.d v.G

-- ---- storing into a slice that is old
-- "a lent slice too short is 18": how many bytes it is short
abbrev pub room_limit : State → ℕ → Limit
room_limit v room = record { number = 18; low = 0; value = length (stored v) - room; high = 0 }

unfoldable pub store_number : State → ℕ → ℕ
store_number v room = refusal (room_limit v room ∷ [])

-- "Storing returns the length and touches nothing past it"; "untouched, with length 0"
unfoldable pub store_length : State → ℕ → ℕ
store_length v room = cond (eqb (store_number v room) 0) (length (stored v)) 0

unfoldable pub left : State → List ℕ → List ℕ
left v old = cond (eqb (store_number v (length old)) 0) (over (stored v) old) old
