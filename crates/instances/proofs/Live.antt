-- The instances of L9: what it says by its theorems, what the lists give by computation.
use mathlib.Core.Path.{◌≡◌, refl, sym, ap, ◌∙◌}
use mathlib.Core.List.{List, [], ◌∷◌, ◌++◌}
use Prim.Native.Nat.{ℕ, ◌≤◌}
use native.Mathlib.Omega.{arith}
use lib.IntN.{ℤ, pos, negsuc}
use lib.ListN.{length}
use Rattle.integer.specs.Rounding.{clip, floor, nearest}
use Rattle.integer.specs.Cut.{cut, R, Q}
use Rattle.thiran.specs.Formula.{a, factor}
use Rattle.thiran.specs.Coefficients.{coefficient, coefficients}
use Rattle.allpass.specs.Allpass.{inner, next, out}
use Rattle.allpass.specs.Bounds.{none, more}
use Rattle.allpass.proofs.Bounds.{rest-within}
use Rattle.noise.specs.Noise as Noise
use Rattle.rule.specs.Voice.{Tuning, tuning, Voice, noise, spent, output, written, settled, stepped}
use Rattle.rule.specs.Calls.{Opening, Call, announce, instant, number, count, opened, done}
use Rattle.rule.specs.State.{State, step, sounds, call, put, silence, fresh, numbers, counts}
use Rattle.rule.specs.Valid.{Tunable, Whole}
use Rattle.rule.specs.Live.{without, announcing, living, Ahead, Due}
use Rattle.rule.proofs.Keeps.{none-some}
use Rattle.rule.proofs.Live.{lives, meeting}
use Rattle.instances.specs.Live.{Gives, Instance, loud, zeros, two, bass, plucked, between, nothing}
use Rattle.instances.specs.Live.{silently, stored, one, three, Stored, Lives}

module _ (o : Opening) (pre : List Call) (to : Tuning) (mid post : List Call) where
  -- the samples and the voice of the one list are those of the other, by the theorem
  given : {ys : List ℤ} {ns ms ks js : List ℕ} {u : Voice} → Ahead o pre to mid
      → Gives (fresh o) (announcing o pre to mid post) ys ns ks u
      → numbers (fresh o) (living o pre to mid post) ≡ ms
      → counts (fresh o) (living o pre to mid post) ≡ js
      → Instance o pre to mid post ys ns ms ks js u
  given h y c r =
      let e = lives o pre to mid h post in
      record {
        ahead = h;
        live = e;
        announced = y;
        instantly = record {
          outputs = sym e.outputs ∙ y.outputs;
          codes = c;
          runs = r;
          voice = sym (ap (λ (v : State). v.voice) e.state) ∙ y.voice;
        };
        same_codes =
            ap (without (length pre)) (sym y.codes) ∙ e.codes ∙ ap (without (length (pre ++ mid))) c;
        same_runs = ap (without (length pre)) (sym y.runs) ∙ e.runs ∙ ap (without (length (pre ++ mid))) r;
      }

-- ---- the voice that no list is said to have reached
within-limits : Whole stored
within-limits = record {
  voice = record {
    fit = record {
      takes = record { least = omega arith; most = omega arith; low = omega arith; high = omega arith };
      short = omega arith;
      long = omega arith;
    };
    loss = omega arith;
    advance = omega arith;
    state = record { many = refl; within = more {x = pos 900} (omega arith) (more {x = negsuc 400} (omega arith) none) };
    last = omega arith;
    waiting = λ w e. absurd (none-some e);
    pluck = record { amplitude = omega arith; left = omega arith; over = λ e. refl };
  };
  many = refl;
  within = more {x = pos 1000000} (omega arith) (rest-within 2111);
}

ahead : (to : Tuning) → Due stored to one
unfolding call put number
ahead to = record { whole = within-limits; idle = refl; between = tt; many = refl }

from-stored : (to : Tuning) {ys : List ℤ} {ns ms ks js : List ℕ} {u : Voice}
    → Gives stored (announce to ∷ (one ++ three)) ys ns ks u
    → numbers stored (one ++ instant to ∷ three) ≡ ms
    → counts stored (one ++ instant to ∷ three) ≡ js
    → Stored to ys ns ms ks js u
from-stored to y c r =
    let e = meeting stored to one (ahead to) three in
    record {
      due = ahead to;
      meets = e;
      announced = y;
      instantly = record {
        outputs = sym e.outputs ∙ y.outputs;
        codes = c;
        runs = r;
        voice = sym (ap (λ (v : State). v.voice) e.state) ∙ y.voice;
      };
      same_codes = ap (without 0) (sym y.codes) ∙ e.codes ∙ ap (without 1) c;
      same_runs = ap (without 0) (sym y.runs) ∙ e.runs ∙ ap (without 1) r;
    }

pub live_instances : Lives
unfolding
    call step put sounds silence number count opened done stepped settled output written Q noise spent Noise.next
    Noise.value coefficients coefficient a factor nearest floor cut R clip inner next out
live_instances = record {
  orders =
      given two loud bass between zeros (record { accepted = refl; between = tt; many = refl })
      (record { outputs = refl; codes = refl; runs = refl; voice = refl }) refl refl;
  at_once =
      given nothing loud (tuning 1 1 4400) silently zeros (record { accepted = refl; between = tt; many = refl })
      (record { outputs = refl; codes = refl; runs = refl; voice = refl }) refl refl;
  fewer-announced = refl;
  fewer-instant = refl;
  accepted =
      from-stored (tuning 1 1 4400) (record { outputs = refl; codes = refl; runs = refl; voice = refl }) refl refl;
  refused =
      from-stored (tuning 1 0 4400) (record { outputs = refl; codes = refl; runs = refl; voice = refl }) refl refl;
}
