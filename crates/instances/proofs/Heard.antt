-- The instance of L9 call by call: the announced list's voice by computation, what is equal by crate list's theorem.
use mathlib.Core.Path.{◌≡◌, refl}
use mathlib.Core.List.{List, [], ◌∷◌}
use native.Mathlib.Omega.{arith}
use lib.IntN.{ℤ, pos, negsuc}
use Rattle.integer.specs.Rounding.{M, floor, nearest, clip}
use Rattle.integer.specs.Cut.{cut, R, Q}
use Rattle.thiran.specs.Formula.{factor, a}
use Rattle.thiran.specs.Coefficients.{coefficient, coefficients}
use Rattle.allpass.specs.Allpass.{inner, next, out}
use Rattle.allpass.specs.Bounds.{Within, none, more}
use Rattle.allpass.proofs.Bounds.{rest-within}
use Rattle.line.specs.Ring.{ring}
use Rattle.rule.specs.Voice.{noise, spent, output, written, settled, stepped}
use Rattle.rule.specs.Calls.{number, count, opened, done}
use Rattle.rule.specs.State.{step, sounds, call, put, silence, fresh, from, puts, numbers, counts}
use Rattle.rule.specs.Live.{Ahead}
use Rattle.rule.proofs.Click.{click, own_click}
use Rattle.voice.specs.Struct.{state_of}
use Rattle.list.specs.Chain.{Chained}
use Rattle.list.proofs.Live.{chains}
use Rattle.instances.specs.Chain as C
use Rattle.instances.specs.Chain.{o, t, pre, mid, post}
use Rattle.instances.specs.Heard.{announced, end, line, Hearing}
use Rattle.instances.proofs.Links.{r₄, at, high-fit, fits}
use Rattle.instances.proofs.Chain.{chaining}

turned : ring 0 line ≡ r₄
unfolding ring
turned = refl

within : Within M (ring 0 line)
within =
    rw turned
    (more {x = pos 330522} (omega arith)
    (more {x = pos 499992} (omega arith)
    (more {x = negsuc 499999} (omega arith) (more {x = pos 1000000} (omega arith) (rest-within 2108)))))

left : state_of end line ≡ from (fresh o) announced
unfolding
    floor nearest cut R Q clip factor a coefficient coefficients inner next out noise spent output written settled
    stepped number opened done step call silence
left = at end line turned

ahead : Ahead o pre t mid
unfolding
    floor nearest cut R Q clip factor a coefficient coefficients inner next out noise spent output written settled
    stepped number opened done step sounds call put silence
ahead = record { accepted = refl; between = tt; many = refl }

chained :
    Chained o announced (numbers (fresh o) announced) (counts (fresh o) announced) (puts (fresh o) announced) end line
chained = record {
  codes = refl;
  runs = refl;
  samples = refl;
  state = left;
  valid = record { fit = fits (high-fit _ (omega arith)) (omega arith) (omega arith) (omega arith); line = within };
  click = click o announced;
  own_click = own_click o announced;
}

pub hearing : Hearing
hearing =
    let h =
    chains o pre t mid post ahead (numbers (fresh o) announced) C.codes (counts (fresh o) announced) C.runs
    (puts (fresh o) announced) C.samples end C.end line C.line chained chaining.chained in
    record {
      ahead = ahead;
      chained = chained;
      samples = h.samples;
      voices = h.voices;
      codes = h.codes;
      runs = h.runs;
    }
