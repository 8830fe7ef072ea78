-- `voice::resting` meets its contract: a state of zeros is the filter's rest.
-- Assumes nothing.
use mathlib.Core.Path.{refl, sym, ap, ◌∙◌}
use Rattle.allpass.specs.Stored.{held}
use Rattle.allpass.specs.declared.State.{State}
use Rattle.allpass.proofs.Bounds.{rest-within}
use Rattle.allpass.proofs.Stored.{stored-rest, held-rest}
use Rattle.voice.proofs.resting.Goals as goal

pub returns : goal.returns
returns c =
    let s = c.before.before in
    let N = s.args.tuning.order in
    let e = c.at_rest.ensures in
    let rests = ap (λ (v : State). held N v) e ∙ held-rest N s.requires.0.most in
    record {
      tuning = refl;
      state = rests;
      tuned = record {
        takes = s.requires.0;
        short = s.requires.1;
        long = s.requires.2;
        coefficients_are = c.set.ensures;
        past = rw rests (e ∙ sym (stored-rest N));
        within = rw rests (rest-within N);
      };
    }
