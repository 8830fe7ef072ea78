-- What is stored loads as it was, what loads is valid, and the panel: document 02, L10.
-- Statements alone: proofs/Theorems.antt and proofs/Resumed.antt prove them.
use Rattle.std.specs.Prelude.{◌≡◌, Bool, true, false, List, [], ◌∷◌, ◌++◌, ℕ, ◌^◌, ◌≤◌, ◌<◌, ℤ, length, get_or}
use Rattle.octets.specs.Theorems.{Bytes}
use Rattle.rule.specs.Calls.{Call, block, loss, pluck, prepare, instant, commit, withdraw, Opening, opened, open_limits}
use Rattle.rule.specs.State.{State, fresh, from, puts, numbers, counts}
use Rattle.rule.specs.Valid.{Whole}
use Rattle.rule.specs.Click.{ClickFigure}
use Rattle.refusal.specs.Limits.{refusal}
use Rattle.refusal.specs.Returned.{AllKept}
use Rattle.form.specs.Numbers.{Numbers, numbers_of, state_of, refused}
use Rattle.form.specs.Limits.{limits}
use Rattle.form.specs.Parts.{parts, refused_parts, form, stored}
use Rattle.form.specs.Loads.{Loaded, loads, Panel, shown, panel}

-- a voice within document 01's limits, whose noise state is a number of 32 bits
pub record Storable (v : State) : Type 0 where
  pub whole : Whole v
  pub noise : v.voice.pluck.noise < 2 ^ 32

-- ---- the one list of limits is the invariant
pub record OneList : Type 0 where
  pub kept : (v : State) → Whole v → AllKept (limits (numbers_of v))
  pub whole : (i : Numbers) → AllKept (limits i) → length i.line ≡ 2112 → Whole (state_of i)
  -- a voice has the numbers that it was made of, and no other
  pub state_back : (v : State) → Whole v → state_of (numbers_of v) ≡ v
  pub numbers_back : (i : Numbers) → AllKept (limits i) → numbers_of (state_of i) ≡ i

-- ---- storing and loading
pub record RoundTrip : Type 0 where
  -- "A stored and resumed voice goes on as if never stopped": it is the same voice
  pub back : (v : State) → Storable v → loads (stored v) ≡ record { refusal = 0; state = v }
  pub alike : (v u : State) → Storable v → Storable u → stored v ≡ stored u → v ≡ u
  -- what loads, by a refusal too
  pub valid : (s : List ℕ) → Bytes s → Storable (loads s).state
  -- "Nothing is loaded: Open's refusal voice comes back"
  pub nothing : (s : List ℕ) → ((loads s).refusal ≡ 0 → ⊥) → (loads s).state ≡ refused
  pub refused_opens : (o : Opening) → (refusal (open_limits o) ≡ 0 → ⊥) → fresh o ≡ refused
  pub in_bytes : (v : State) → Storable v → Bytes (stored v)
  pub longest : (v : State) → Storable v → length (stored v) ≤ 8529
  -- "A part is absent when it equals that of Open's refusal voice"
  pub shortest : stored refused ≡ 0 ∷ []
  -- "one present all the same is taken up": any bit map that leaves out no part that differs
  pub needless : (v : State) → Storable v → (bs : List Bool) → length bs ≡ 8
      → ((j : ℕ) → get_or bs j true ≡ false → get_or (parts (numbers_of v)) j [] ≡ get_or refused_parts j [])
      → loads (form bs (numbers_of v)) ≡ record { refusal = 0; state = v }

-- ---- "the wall panel is given length, delay and loss only"
pub record Shows : Type 0 where
  pub shows : (v : State) → Storable v
      → panel (stored v) ≡ shown 0 v.voice.tuning.L v.voice.tuning.d v.voice.G
  -- "two valid stored voices that agree on these show it the same"
  pub alike : (v u : State) → Storable v → Storable u → v.voice.tuning.L ≡ u.voice.tuning.L
      → v.voice.tuning.d ≡ u.voice.tuning.d → v.voice.G ≡ u.voice.G → panel (stored v) ≡ panel (stored u)
  -- "Open's refusal voice comes back .. and the panel shows that"
  pub nothing : (s : List ℕ) → ((loads s).refusal ≡ 0 → ⊥) → panel s ≡ shown (loads s).refusal 1 4096 0

-- ---- resumed
-- "all else as 32-bit unsigned" (document 01): the seeds of the plucks
abbrev pub Seed : Call → Type 0
Seed (block xs n) = Unit {0}
Seed (loss G) = Unit {0}
Seed (pluck a n z) = z < 2 ^ 32
Seed (prepare k to) = Unit {0}
Seed (instant to) = Unit {0}
Seed commit = Unit {0}
Seed withdraw = Unit {0}

abbrev pub Seeds : List Call → Type 0
Seeds [] = Unit {0}
Seeds (c ∷ cs) = Seed c × Seeds cs

-- "A stored and resumed voice goes on as if never stopped, and the click figure then counts history from the
-- original opening": the voice that the calls cs leave, stored and loaded, and then the calls post
pub record Goes (o : Opening) (cs post : List Call) (v : State) : Type 0 where
  pub state : from v post ≡ from (fresh o) (cs ++ post)
  pub codes : numbers (fresh o) cs ++ numbers v post ≡ numbers (fresh o) (cs ++ post)
  pub counted : counts (fresh o) cs ++ counts v post ≡ counts (fresh o) (cs ++ post)
  pub samples : puts (fresh o) cs ++ puts v post ≡ puts (fresh o) (cs ++ post)
  pub click : ClickFigure o (cs ++ post) (puts (fresh o) cs ++ puts v post)

pub record Resumed : Type 0 where
  -- every voice that calls reach can be stored
  pub reached : (o : Opening) (cs : List Call) → Seeds cs → Storable (from (fresh o) cs)
  pub goes : (o : Opening) (cs post : List Call) → Seeds cs → Goes o cs post (loads (stored (from (fresh o) cs))).state
