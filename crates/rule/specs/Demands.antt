-- Demand 2 over lists of calls, when a change waits, and that demand 3 speaks of every sample.
-- Statements alone: proofs/ proves each for every opening and list. Assumes nothing.
use Rattle.std.specs.Prelude.{◌≡◌, ◌↔◌, List, [], ◌∷◌, ◌++◌, reverse, ℕ, suc, ◌+◌, ◌-◌, ◌≤◌, ◌<◌, min, ℤ, pos, ◌+ℤ◌, ◌*ℤ◌, length, take, get_or}
use Rattle.std.proofs.Math.Option.{none, some}
use Rattle.integer.specs.Rounding.{clip}
use Rattle.integer.specs.Cut.{cut}
use Rattle.allpass.specs.Allpass.{next, out}
use Rattle.rule.specs.Voice.{Tuning, Kind, announced, asked, Waiting, Voice, A, noise, spent}
use Rattle.rule.specs.Calls.{Call, block, loss, pluck, announce, ask, prepare, instant, commit, withdraw}
use Rattle.rule.specs.Calls.{Opening, number, opened}
use Rattle.rule.specs.History.{History, read, steps, ago, step, call, from, fresh, after, new}
use Rattle.rule.specs.State as S
use Rattle.rule.specs.State.{silence, puts}
use Rattle.rule.specs.Click.{Change, NoneBy, Figure}
use Rattle.rule.specs.Keeps.{InForce}

-- ---- "a change waits": an accepted announced one that has not taken effect yet, or an accepted ask that was
-- neither committed nor withdrawn; and it is that one
pub record Awaited (v : Voice) (k : Kind) (t : Tuning) : Type 0 where
  pub w : Waiting
  pub held : v.waiting ≡ some w
  pub kind : w.kind ≡ k
  pub tuning : w.tuning ≡ t

-- the calls that end an ask
abbrev pub Ends : Call → Type 0
Ends (block xs n) = ⊥
Ends (loss G) = ⊥
Ends (pluck a n z) = ⊥
Ends (prepare k to) = ⊥
Ends (instant to) = ⊥
Ends commit = Unit {0}
Ends withdraw = Unit {0}

-- no commit and no withdrawal among the calls cs, made from h on, is accepted
abbrev pub Kept : History → List Call → Type 0
Kept h [] = Unit {0}
Kept h (c ∷ cs) = (Ends c → number h.voice c ≡ 0 → ⊥) × Kept (call h c) cs

pub data Pending (o : Opening) (cs : List Call) : Kind → Tuning → Type 0 where
  announcement : (pre post : List Call) {to : Tuning} → cs ≡ pre ++ announce to ∷ post
      → number (after o pre).voice (announce to) ≡ 0
      → steps (after o cs) < steps (after o pre) + (after o pre).voice.Na
      → Pending o cs announced to
  request : (pre post : List Call) {to : Tuning} → cs ≡ pre ++ ask to ∷ post
      → number (after o pre).voice (ask to) ≡ 0
      → Kept (call (after o pre) (ask to)) post
      → Pending o cs asked to

abbrev pub Waits : Opening → List Call → Type 0
Waits o cs = (k : Kind) (t : Tuning) → Awaited (after o cs).voice k t ↔ Pending o cs k t

-- ---- demand 2: what the calls leave and put out is what the history yields
-- the newest 2,112 samples, newest first, with zeros from before opening
unfoldable pub newest : List ℤ → List ℤ
newest s = take 2112 (reverse s ++ silence)

pub record Agrees (o : Opening) (cs : List Call) : Type 0 where
  pub state : S.from (S.fresh o) cs ≡ record { voice = (after o cs).voice; line = newest (after o cs).s }
  pub outputs : puts (S.fresh o) cs ≡ (after o cs).y
  pub count : length (puts (S.fresh o) cs) ≡ steps (after o cs)

-- ---- "One sample of the voice": step n, from the history h, with the caller's input x
module _ (h : History) (x : ℤ) where
  abbrev n : ℕ
  n = steps h

  abbrev v : Voice
  v = h.voice

  -- "p(n) is the caller's input plus the noise sample, if a pluck is sounding"
  abbrev p : ℤ
  p = x +ℤ noise v.pluck

  -- the filter and the eliminator, when they have taken s(n − L) and s(n − L')
  abbrev filtered : List ℤ
  filtered = next (A v.tuning) v.state (ago h v.tuning.L)

  abbrev eliminated : Waiting → List ℤ
  eliminated w = next (A w.tuning) w.state (ago h w.tuning.L)

  -- after the step: the voice, s(i) and y(i)
  abbrev u : Voice
  u = (step h x).voice

  abbrev s : ℕ → ℤ
  s i = get_or (step h x).s i (pos 0)

  abbrev y : ℕ → ℤ
  y i = get_or (step h x).y i (pos 0)

  pub record Sample : Type 0 where
    -- "1. f = s(n − L). The filter gives the output y(n)"
    pub output : y n ≡ out (A v.tuning) v.state (read h.s n v.tuning.L)
    -- step 3, by document 02's L7: s(n) = clip(p(n) + G·(y(n) + y(n − 1))/131,072), "where y(−1) = 0", "the loop's
    -- division" cut "toward zero instead of rounding"
    pub sample :
        s n
        ≡ clip (p +ℤ cut (pos v.G *ℤ (y n +ℤ read h.y n 1)) 131072)
    -- "4. s(n) goes into the line", behind those before it
    pub more : steps (step h x) ≡ suc n
    pub before : (i : ℕ) → i < n → (s i ≡ get_or h.s i (pos 0)) × (y i ≡ get_or h.y i (pos 0))
    pub kept : (u.G ≡ v.G) × (u.Na ≡ v.Na)
    pub last : u.last ≡ y n
    pub pluck : u.pluck ≡ spent v.pluck
    pub idle : v.waiting ≡ none → InForce u v.tuning filtered none
    -- "2. If a change to L', d' waits, its eliminator takes s(n − L')"; L3: it "keeps running"
    pub waits : (w : Waiting) → v.waiting ≡ some w → (w.kind ≡ announced → suc w.taken ≡ v.Na → ⊥)
        → InForce u v.tuning filtered
        (some (record {
          kind = w.kind;
          tuning = w.tuning;
          taken = min (suc w.taken) v.Na;
          state = eliminated w;
        }))
    -- "4. .. If the eliminator has now taken Na samples, L', d' and its state replace the voice's"
    pub switches : (w : Waiting) → v.waiting ≡ some w → w.kind ≡ announced → suc w.taken ≡ v.Na
        → InForce u w.tuning (eliminated w) none

-- ---- demand 3 speaks of every sample that a list puts out
-- of the calls cs, made from h on, c is the change in force at step m: it took effect, and no later one did
pub record Rules (m : ℕ) (h : History) (cs pre : List Call) (c : Call) (post : List Call) : Type 0 where
  pub t : Tuning
  pub a : ℕ
  pub e : ℕ
  pub split : cs ≡ pre ++ c ∷ post
  pub change : Change (from h pre) c t a e
  pub since : e ≤ m
  pub until : NoneBy m (call (from h pre) c) post

-- at each step m a sample is exactly the opening filter's, as long as no change took effect,
-- or the figure holds of the change in force
pub data Spoken (o : Opening) (cs : List Call) (m : ℕ) : Type 0 where
  exact : NoneBy m (fresh o) cs
      → get_or (puts (S.fresh o) cs) m (pos 0) ≡ new (opened o).tuning (after o cs).s m
      → Spoken o cs m
  figured : (pre : List Call) (c : Call) (post : List Call) (k : Rules m (fresh o) cs pre c post)
      → Figure (puts (S.fresh o) cs) (after o cs).s k.t k.a k.e m
      → Spoken o cs m

-- there is but one
abbrev pub Single : Opening → List Call → ℕ → Type 0
Single o cs m =
    (pre pre' post post' : List Call) (c c' : Call)
    → Rules m (fresh o) cs pre c post
    → Rules m (fresh o) cs pre' c' post'
    → pre ≡ pre'
