-- All accepted inputs since opening, and what the two filters put out: worked out from what opening returned and
-- the list of calls alone. Definitions alone.
use Rattle.std.specs.Prelude.{cond, List, [], ◌∷◌, ◌++◌, ℕ, eqb, ℤ, pos, length, get_or, take}
use Rattle.allpass.specs.Allpass.{rest, run, out}
use Rattle.junction.specs.Junction.{Side, Two, at, both, A, Junction, filter_output}
use Rattle.junction.specs.Calls.{Call, move, sample, Opening, number, open_junction, accept}

pub record History : Type 0 where
  pub junction : Junction
  -- the accepted inputs, and the filter's outputs, of each side
  pub inputs : Two (List ℤ)
  pub filters : Two (List ℤ)

-- steps count the accepted samples from 0 at opening: the step that comes next
abbrev pub steps : History → ℕ
steps h = length h.inputs.a

-- an accepted call
abbrev pub extend : History → Call → History
extend h (move d) = record { junction = accept h.junction (move d); inputs = h.inputs; filters = h.filters }
extend h (sample x) = record {
  junction = accept h.junction (sample x);
  inputs = both (λ s. at s h.inputs ++ (at s x ∷ []));
  filters = both (λ s. at s h.filters ++ (filter_output h.junction x s ∷ []));
}

unfoldable pub call : History → Call → History
call h c = cond (eqb (number h.junction c) 0) (extend h c) h

abbrev pub from : History → List Call → History
from h [] = h
from h (c ∷ cs) = from (call h c) cs

abbrev pub fresh : Opening → History
fresh o = record { junction = open_junction o; inputs = both (λ s. []); filters = both (λ s. []) }

abbrev pub after : Opening → List Call → History
after o cs = from (fresh o) cs

-- the output at step m of a filter of the delay d over the side s, at rest before step 0 and fed every input
unfoldable pub new : Side → ℕ → List ℤ → ℕ → ℤ
new s d xs m = out (A s d) (run (A s d) (rest 1) (take m xs)) (get_or xs m (pos 0))
