-- r in numbers, and the outputs after every list of calls, refused ones included: the two formulas, of r of the
-- opening, of the accepted inputs and of the filters. Statements alone: proofs/Outputs.antt proves them.
--
use Rattle.std.specs.Prelude.{◌≡◌, List, [], ◌∷◌, ℕ, ◌+◌, ◌-◌, ◌≤◌, ◌<◌, ℤ, pos, nat_abs, ◌+ℤ◌, ◌-ℤ◌, ◌*ℤ◌, length, get_or}
use Rattle.integer.specs.Rounding.{Nearest, clip}
use Rattle.integer.specs.Cut.{cut}
use Rattle.thiran.specs.Coefficients.{coefficients}
use Rattle.allpass.specs.Allpass.{out}
use Rattle.junction.specs.Junction.{Two, Junction, reflection}
use Rattle.junction.specs.Calls.{Opening, Call, sample, number, open_junction, put}
use Rattle.junction.specs.Calls as C
use Rattle.junction.specs.History.{History, call, after}
use Rattle.junction.specs.Refusals.{Areas}

pub record Reflects : Type 0 where
  pub nearest : (left right : ℕ) → 0 < left + right
      → Nearest (pos 32768 *ℤ (pos left -ℤ pos right)) (left + right) (reflection left right)
  -- and no other number is
  pub only : (left right : ℕ) (r : ℤ) → 0 < left + right
      → Nearest (pos 32768 *ℤ (pos left -ℤ pos right)) (left + right) r → r ≡ reflection left right
  -- below 1 in magnitude, where the areas are within their limits
  pub small : (left right : ℕ) → Areas left right → nat_abs (reflection left right) ≤ 32767

-- the newest of them, 0 before there is one
abbrev pub newest : List ℤ → ℤ
newest xs = get_or xs (length xs - 1) (pos 0)

-- at h, after an opening o: x is accepted, and these are the outputs
pub record Formulas (o : Opening) (h : History) (x : Two ℤ) : Type 0 where
  -- "fa the allpass of delay d over a, fb that of 8,192 − d over b (the voice's filter of order 1 ..)"
  pub over_a : newest (call h (sample x)).filters.a
      ≡ out (coefficients 1 h.junction.d) h.junction.states.a x.a
  pub over_b : newest (call h (sample x)).filters.b
      ≡ out (coefficients 1 (8192 - h.junction.d)) h.junction.states.b x.b
  -- "to the right: clip(cut((32,768 + r)·a' − r·fb, 32,768))"
  pub right : (put h.junction (sample x)).right
      ≡ clip (cut ((pos 32768 +ℤ (open_junction o).r) *ℤ newest h.inputs.a
      -ℤ (open_junction o).r *ℤ newest (call h (sample x)).filters.b) 32768)
  -- "to the left: clip(cut(r·fa + (32,768 − r)·b', 32,768))"
  pub left : (put h.junction (sample x)).left
      ≡ clip (cut ((open_junction o).r *ℤ newest (call h (sample x)).filters.a
      +ℤ (pos 32768 -ℤ (open_junction o).r) *ℤ newest h.inputs.b) 32768)

-- of every list of calls, and any accepted sample after it
abbrev pub Outputs : Opening → List Call → Type 0
Outputs o cs = (x : Two ℤ) → number (after o cs).junction (sample x) ≡ 0 → Formulas o (after o cs) x

-- the junction of a history is the one that the calls pass on
abbrev pub call_all : Junction → List Call → Junction
call_all j [] = j
call_all j (c ∷ cs) = call_all (C.call j c) cs

abbrev pub Agrees : Opening → List Call → Type 0
Agrees o cs = (after o cs).junction ≡ call_all (open_junction o) cs
