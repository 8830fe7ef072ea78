-- A string's share of a list of calls on an instrument: an opening, and the calls since, from which the click
-- figure of that string counts. Document 02, L11: "Each string .. takes its own calls, Open among them".
-- Definitions alone.
use Rattle.std.specs.Prelude.{◌≡◌, cond, List, [], ◌∷◌, ◌++◌, ℕ, eqb, ℤ}
use Rattle.std.proofs.Math.Option.{Option, none, some}
use Rattle.refusal.specs.Limits.{refusal}
use Rattle.rule.specs.Calls.{Call, block, Opening, open_limits}
use Rattle.rule.specs.State.{fresh, from}
use Rattle.form.specs.Parts.{stored}
use Rattle.form.specs.Loads.{loads}
use Rattle.form.specs.Theorems.{Seeds}
use Rattle.instrument.specs.Strings.{Own, opens, calls, store, load, Play, on, mix}

-- an opening that Open refuses
abbrev pub Refused : Opening → Type 0
Refused o = refusal (open_limits o) ≡ 0 → ⊥

-- after the calls ps string k is the voice that the calls cs leave after the opening o
pub data Share (k : ℕ) : List Play → Opening → List Call → Type 0 where
  -- "Each string starts as Open's refusal voice"
  first : {o : Opening} → Refused o → Share k [] o []
  -- Open begins anew, by a refusal too
  opening : (ps : List Play) {o : Opening} → Share k (ps ++ on k (opens o) ∷ []) o []
  -- its own calls are added, and every mix as a block
  calling : {ps : List Play} {o : Opening} {cs : List Call} (c : Call) → Share k ps o cs
      → Share k (ps ++ on k (calls c) ∷ []) o (cs ++ c ∷ [])
  mixing : {ps : List Play} {o : Opening} {cs : List Call} (xs : List ℤ) (n : ℕ) → Share k ps o cs
      → Share k (ps ++ mix xs n ∷ []) o (cs ++ block xs n ∷ [])
  -- stores add nothing, nor do calls on other strings, those that 24 refuses among them
  storing : {ps : List Play} {o : Opening} {cs : List Call} (old : List ℕ) → Share k ps o cs
      → Share k (ps ++ on k (store old) ∷ []) o cs
  other : {ps : List Play} {o : Opening} {cs : List Call} (j : ℕ) (a : Own) → (j ≡ k → ⊥) → Share k ps o cs
      → Share k (ps ++ on j a ∷ []) o cs
  -- bytes that the voice of o, cs stores: goes on from there, whichever string stored them
  resuming : (ps : List Play) (o : Opening) (cs : List Call) (bytes : List ℕ) → Seeds cs
      → bytes ≡ stored (from (fresh o) cs)
      → Share k (ps ++ on k (load bytes) ∷ []) o cs
  -- L10: "Open's refusal voice comes back, from which the figure counts anew"
  refusing : (ps : List Play) {o : Opening} (bytes : List ℕ) → ((loads bytes).refusal ≡ 0 → ⊥) → Refused o
      → Share k (ps ++ on k (load bytes) ∷ []) o []

-- ---- the bytes that string k was loaded from, where neither an Open nor a refused load came after
abbrev pub loaded_by : Option (List ℕ) → Own → Option (List ℕ)
loaded_by u (opens o) = none
loaded_by u (calls c) = u
loaded_by u (store old) = u
loaded_by u (load bytes) = cond (eqb (loads bytes).refusal 0) (some bytes) none

abbrev pub loaded_since : ℕ → Option (List ℕ) → List Play → Option (List ℕ)
loaded_since k u [] = u
loaded_since k u (on j a ∷ ps) = loaded_since k (cond (eqb j k) (loaded_by u a) u) ps
loaded_since k u (mix xs n ∷ ps) = loaded_since k u ps

abbrev pub loaded : ℕ → List Play → Option (List ℕ)
loaded k ps = loaded_since k none ps
