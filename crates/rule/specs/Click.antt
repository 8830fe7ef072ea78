-- Demand 3, the click figure: "a single claim about the list as a whole".
-- A statement alone: proofs/Click.antt proves `Click o cs` for every o and cs. Assumes nothing.
use Rattle.std.specs.Prelude.{◌≡◌, cond, List, [], ◌∷◌, ◌++◌, ℕ, ◌+◌, ◌*◌, ◌-◌, ◌/◌, ◌^◌, ◌≤◌, ◌<◌, leb, ℤ, pos, nat_abs, ◌-ℤ◌, get_or}
use Rattle.std.proofs.Math.Option.{some}
use Rattle.rule.specs.Voice.{Tuning, Waiting}
use Rattle.rule.specs.Calls.{Call, announce, instant, commit, Opening, number}
use Rattle.rule.specs.History.{History, steps, read, call, after, new}
use Rattle.rule.specs.State.{fresh, puts}

-- "3 × 2^(23 − k), where .. k is at most 23, and .. 2 where k is larger"
unfoldable pub figure : ℕ → ℕ
figure k = cond (leb k 23) (3 * 2 ^ (23 - k)) 2

-- "An accepted change called before step c takes effect before step e, where e is c + Na if it is announced
-- and c if it is instant": the call c at h is a change to the tuning t, whose second copy takes a samples
-- and so "begins at step e − Na"
pub data Change (h : History) : Call → Tuning → ℕ → ℕ → Type 0 where
  announcing : {to : Tuning} → number h.voice (announce to) ≡ 0
      → Change h (announce to) to h.voice.Na (steps h + h.voice.Na)
  instantly : {to : Tuning} → number h.voice (instant to) ≡ 0
      → Change h (instant to) to h.voice.Na (steps h)
  -- L3: "the number of samples the eliminator actually took, those put out between asking and committing, in
  -- place of Na"
  committing : {w : Waiting} → number h.voice commit ≡ 0 → h.voice.waiting ≡ some w
      → Change h commit w.tuning (steps h - h.began) (steps h)

-- "before a later one does": no change among the calls cs, made from h on, takes effect at step m or before.
-- "Where two have the same e, the one called later is in force": an equal e ends the claim of the earlier
abbrev pub NoneBy : ℕ → History → List Call → Type 0
NoneBy m h [] = Unit {0}
NoneBy m h (c ∷ cs) = ((t : Tuning) (a e : ℕ) → Change h c t a e → m < e) × NoneBy m (call h c) cs

-- "What is compared is y at step m: the sample that the block writes, and the new filter's";
-- "At step m, j is m − e"
pub record Figure (y s : List ℤ) (t : Tuning) (a e m : ℕ) : Type 0 where
  pub near : nat_abs (get_or y m (pos 0) -ℤ new t s m) ≤ figure ((a + (m - e)) / t.N)
  -- "It does not differ at all if everything the new filter read before the second copy began is zero":
  -- "s(i − L') for i from 0 to e − Na − 1, and nothing where e is at most Na"
  pub same : ((i : ℕ) → i < e - a → read s i t.L ≡ pos 0) → get_or y m (pos 0) ≡ new t s m

-- "Take any sample that the list puts out after a change with advance Na took effect and before a later one
-- does." y are the samples that the calls put out one after the other; s is "never read from the voice that
-- the calls pass on"
abbrev pub ClickFigure : Opening → List Call → List ℤ → Type 0
ClickFigure o cs y =
    (pre post : List Call) (c : Call) (t : Tuning) (a e m : ℕ)
    → cs ≡ pre ++ c ∷ post
    → Change (after o pre) c t a e
    → NoneBy m (call (after o pre) c) post
    → e ≤ m → m < steps (after o cs)
    → Figure y (after o cs).s t a e m

-- of a list: of what it puts out
abbrev pub Click : Opening → List Call → Type 0
Click o cs = ClickFigure o cs (puts (fresh o) cs)
