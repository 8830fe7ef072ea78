-- All that was written and put out since opening, "worked out by the sample rule from what Open returned and
-- the list alone": s(0), .. , s(n − 1) and the outputs, before step n. Definitions alone. Assumes nothing.
use Rattle.std.specs.Prelude.{cond, List, [], ◌∷◌, ◌++◌, ℕ, zero, suc, ◌-◌, leb, eqb, ℤ, pos, length, get_or}
use Rattle.allpass.specs.Allpass.{next, out}
use Rattle.rule.specs.Voice.{Tuning, Voice, A, rest, output, written, stepped}
use Rattle.rule.specs.Calls.{Call, block, loss, pluck, prepare, instant, commit, withdraw, Opening}
use Rattle.rule.specs.Calls.{number, done, inputs, opened}

-- "s(n) is the sample written to the line at step n; before opening it is 0": s(m − L)
unfoldable pub read : List ℤ → ℕ → ℕ → ℤ
read s m L = cond (leb L m) (get_or s (m - L) (pos 0)) (pos 0)

pub record History : Type 0 where
  pub voice : Voice
  -- the step before which the newest announced or asked change was called
  pub began : ℕ
  pub s : List ℤ
  pub y : List ℤ

-- "Steps count from 0 at opening": the step that comes next
abbrev pub steps : History → ℕ
steps h = length h.s

-- s(n − k), at that step
abbrev pub ago : History → ℕ → ℤ
ago h = read h.s (steps h)

unfoldable pub step : History → ℤ → History
step h x = record {
  voice = stepped h.voice (ago h);
  began = h.began;
  s = h.s ++ (written h.voice (ago h) x ∷ []);
  y = h.y ++ (output h.voice (ago h) ∷ []);
}

abbrev pub through : History → List ℤ → History
through h [] = h
through h (x ∷ xs) = through (step h x) xs

abbrev pub begun : History → Call → ℕ
begun h (block xs n) = h.began
begun h (loss G) = h.began
begun h (pluck a n z) = h.began
begun h (prepare k to) = steps h
begun h (instant to) = h.began
begun h commit = h.began
begun h withdraw = h.began

-- what a call does at once
abbrev pub told : History → Call → History
told h c = record { voice = done h.voice (ago h) c; began = begun h c; s = h.s; y = h.y }

unfoldable pub call : History → Call → History
call h c = cond (eqb (number h.voice c) 0) (through (told h c) (inputs c)) h

abbrev pub from : History → List Call → History
from h [] = h
from h (c ∷ cs) = from (call h c) cs

-- "Freshly opened is a voice as Open returns it, by a refusal too"
abbrev pub fresh : Opening → History
fresh o = record { voice = opened o; began = 0; s = []; y = [] }

abbrev pub after : Opening → List Call → History
after o cs = from (fresh o) cs

-- "The new filter has the change's L' and d', is at rest before step 0 and takes s(m − L') at every step m
-- from 0"
abbrev pub new_state : Tuning → List ℤ → ℕ → List ℤ
new_state t s zero = rest t
new_state t s (suc m) = next (A t) (new_state t s m) (read s m t.L)

-- its y at step m
unfoldable pub new : Tuning → List ℤ → ℕ → ℤ
new t s m = out (A t) (new_state t s m) (read s m t.L)
