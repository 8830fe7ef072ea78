-- The instances of `Keeps`: what the lists give by computation, the distance by the theorem.
use mathlib.Core.Path.{refl}
use native.Mathlib.Omega.{arith}
use Rattle.integer.specs.Rounding.{floor, nearest, clip}
use Rattle.integer.specs.Cut.{cut, R, Q}
use Rattle.thiran.specs.Formula.{factor, a}
use Rattle.thiran.specs.Coefficients.{coefficient, coefficients}
use Rattle.allpass.specs.Allpass.{inner, next, out}
use Rattle.allpass.specs.Bounds.{distance, own_figure}
use Rattle.rule.specs.Voice.{noise, spent, output, written, settled, stepped}
use Rattle.rule.specs.Calls.{announce, commit, number, opened, done}
use Rattle.rule.specs.History as History
use Rattle.rule.specs.History.{read, new}
use Rattle.rule.specs.State.{step, sounds, call, put, silence}
use Rattle.rule.specs.Click as Click
use Rattle.rule.specs.Demands.{Rules}
use Rattle.rule.specs.History.{fresh}
use Rattle.rule.proofs.Ruling.{none-block}
use Rattle.advance.specs.Least.{first, least_advance}
use Rattle.advance.specs.Instances.{t, o, loud, zeros, announcing, asking, committing, Keeping}
use Rattle.advance.proofs.Keeps.{keeps}

announced-rules : Rules 8 (fresh o) announcing loud (announce t) (zeros 6)
unfolding
    floor nearest cut R Q clip factor a coefficient coefficients inner next out noise spent output written settled
    stepped number opened done read History.step History.call
announced-rules = record {
  t = t;
  a = 4;
  e = 7;
  split = refl;
  change = Click.announcing refl;
  since = omega arith;
  until = (none-block 8 _ _ _, tt);
}

committed-rules : Rules 8 (fresh o) committing asking commit (zeros 2)
unfolding
    floor nearest cut R Q clip factor a coefficient coefficients inner next out noise spent output written settled
    stepped number opened done read History.step History.call
committed-rules = record {
  t = t;
  a = 5;
  e = 8;
  split = refl;
  change = Click.committing refl refl;
  since = omega arith;
  until = (none-block 8 _ _ _, tt);
}

pub keeping : Keeping
unfolding
    floor nearest cut R Q clip factor a coefficient coefficients inner next out noise spent output written settled
    stepped number opened done read History.step History.call new step sounds call put silence
    least_advance first own_figure distance announced-rules committed-rules
keeping = record {
  least = refl;
  closer = refl;
  announced = record {
    rules = announced-rules;
    to = refl;
    took = refl;
    before = omega arith;
    near =
        keeps o announcing 2 7075 985738 loud (zeros 6) (announce t) 8 announced-rules (omega arith) refl refl refl
        (omega arith);
    voice = refl;
    filter = refl;
  };
  committed = record {
    rules = committed-rules;
    to = refl;
    took = refl;
    before = omega arith;
    near =
        keeps o committing 2 7075 985738 asking (zeros 2) commit 8 committed-rules (omega arith) refl refl refl
        (omega arith);
    voice = refl;
    filter = refl;
  };
}
