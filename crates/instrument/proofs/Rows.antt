-- Calls on an instrument in numbers: `Rows`, by computation.
use mathlib.Core.Path.{◌≡◌, refl}
use mathlib.Core.List.{[], ◌∷◌}
use lib.IntN.{pos, negsuc}
use Rattle.integer.specs.Rounding.{clip, floor, nearest}
use Rattle.integer.specs.Cut.{cut, R, Q}
use Rattle.thiran.specs.Formula.{a, factor}
use Rattle.thiran.specs.Coefficients.{coefficient, coefficients}
use Rattle.allpass.specs.Allpass.{inner, next}
use Rattle.allpass.specs.Allpass as Filter
use Rattle.rule.specs.Voice.{tuning, noise, spent, output, written, settled, stepped}
use Rattle.rule.specs.Calls as C
use Rattle.rule.specs.Calls.{instant}
use Rattle.rule.specs.State.{step, sounds, call, put, silence}
use Rattle.form.specs.Parts.{parts, refused_parts, flags, size}
use Rattle.form.specs.Loads.{store_number, store_length, left, load_number, loads}
use Rattle.form.proofs.Theorems as Trip
use Rattle.instrument.specs.Strings.{calls, store, mix, silent, number, play, numbers, out, counted}
use Rattle.instrument.specs.Strings.{lent}
use Rattle.instrument.specs.Rows.{wrong, opened, Rows}

refused : numbers silent wrong
    ≡ 24 ∷ 1 ∷ 24 ∷ 4 ∷ 24 ∷ 7 ∷ 24 ∷ 21 ∷ 24 ∷ 18 ∷ 24 ∷ 22 ∷ 9 ∷ 10 ∷ 24 ∷ 0 ∷ 0 ∷ []
unfolding number play call C.number C.opened C.done loads load_number parts refused_parts flags size
refused = rw (Trip.shortest) refl

first : out silent (mix (pos 1000000 ∷ pos 5 ∷ pos 0 ∷ pos 0 ∷ []) 4)
    ≡ pos 0 ∷ pos 0 ∷ pos 6000000 ∷ pos 30 ∷ []
unfolding number play out C.number C.opened C.done C.count step sounds call put silence
    stepped settled output written Q noise spent coefficients coefficient a factor nearest floor cut R clip
    inner next Filter.out
first = refl

clips : out silent (mix (pos 2000000 ∷ negsuc 1999999 ∷ pos 0 ∷ pos 0 ∷ []) 4)
    ≡ pos 0 ∷ pos 0 ∷ pos 8388607 ∷ negsuc 8388606 ∷ []
unfolding number play out C.number C.opened C.done C.count step sounds call put silence
    stepped settled output written Q noise spent coefficients coefficient a factor nearest floor cut R clip
    inner next Filter.out
clips = refl

one_later : out opened (mix (pos 1000000 ∷ pos 0 ∷ pos 0 ∷ pos 0 ∷ []) 4)
    ≡ pos 0 ∷ pos 0 ∷ pos 5000000 ∷ pos 1000000 ∷ []
unfolding number play out C.number C.opened C.done C.count step sounds call put silence
    stepped settled output written Q noise spent coefficients coefficient a factor nearest floor cut R clip
    inner next Filter.out
one_later = refl

counts : (counted opened 5 (calls (instant (tuning 1 1 4096))) ≡ 3)
    × (counted opened 6 (calls (instant (tuning 1 1 4096))) ≡ 0)
unfolding counted play C.number C.opened C.count
counts = (refl, refl)

lengths : (counted silent 0 (store (9 ∷ 9 ∷ [])) ≡ 1) × (counted silent 6 (store (9 ∷ 9 ∷ [])) ≡ 0)
unfolding counted store_length store_number
lengths = (rw (Trip.shortest) refl, refl)

slices : (lent silent 0 (9 ∷ 9 ∷ []) ≡ 0 ∷ 9 ∷ []) × (lent silent 6 (9 ∷ 9 ∷ []) ≡ 9 ∷ 9 ∷ [])
unfolding lent left store_number
slices = (rw (Trip.shortest) refl, refl)

pub rows : Rows
rows = record {
  refused = refused;
  first = first;
  clips = clips;
  one_later = one_later;
  counts = counts;
  lengths = lengths;
  slices = slices;
}
