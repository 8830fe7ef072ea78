-- `step::sound::sound` meets its contract: by whether no step, one step or more are left.
-- Assumes nothing.
use mathlib.Core.Path.{◌≡◌, refl, ap, ◌∙◌}
use Prim.Native.Nat.{◌<◌}
use native.Mathlib.Omega.{arith}
use borrow.Author.Tests.{ne_eqb, lt-leb}
use lib.IntN.{pos, ◌*ℤ◌}
use Rattle.noise.specs.Noise.{next, value}
use Rattle.noise.specs.declared.Drawn.{Drawn}
use Rattle.noise.proofs.Sizes.{next-size, value-size}
use Rattle.rule.specs.Voice.{noise, spent}
use Rattle.voice.specs.declared.Pluck.{Pluck}
use Rattle.voice.specs.Struct.{pluck_of}
use Rattle.step.proofs.Silent.{sounds-none}
use Rattle.step.proofs.sound.sound.Goals.{After-scaled-noise}
use Rattle.step.proofs.sound.sound.Goals as goal

pub returns-then-p-eq0 : goal.returns-then-p-eq0
returns-then-p-eq0 c = sounds-none c.requires c.if-p-eq0.true

pub scaled-noise-requires : goal.scaled-noise-requires
scaled-noise-requires c =
    let z = next c.args.p.noise in
    (c.requires.amplitude, rw c.draw-d.ensures (value-size z (next-size c.args.p.noise)))

-- with a step left
sounding : (p : Pluck) → (p.left ≡ 0 → ⊥) → pos p.amplitude *ℤ value (next p.noise) ≡ noise (pluck_of p)
unfolding noise
sounding p h = rw (ne_eqb p.left 0 h)

value-is : (c : After-scaled-noise) → c.scaled-noise.result.n ≡ noise (pluck_of c.args.p)
value-is c =
    c.scaled-noise.ensures.0
    ∙ ap (λ (d : Drawn). pos c.args.p.amplitude *ℤ d.value) c.draw-d.ensures
    ∙ sounding c.args.p c.if-p-eq0.false

pub returns-then-p-eq1 : goal.returns-then-p-eq1
unfolding spent
returns-then-p-eq1 c =
    let e = c.if-p-eq1.true in
    record {
      value = value-is (goal.at.returns-then-p-eq1 c).After-scaled-noise;
      small = c.scaled-noise.ensures.1;
      rest = rw e;
      plucked = record {
        amplitude = omega arith;
        left = omega arith;
        noise = omega arith;
        none_left = λ _. (refl, refl);
      };
    }

pub returns : goal.returns
unfolding spent
returns c =
    let p = c.args.p in
    let h : 1 < p.left = omega arith in
    let e = c.draw-d.ensures in
    record {
      value = value-is (goal.at.returns c).After-scaled-noise;
      small = c.scaled-noise.ensures.1;
      rest = rw (lt-leb p.left 1 h, e);
      plucked = record {
        amplitude = c.requires.amplitude;
        left = omega (arith, c.requires.left);
        noise = rw e (next-size p.noise);
        none_left = λ z. absurd (omega arith);
      };
    }
