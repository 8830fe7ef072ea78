-- `render::sounding` meets its contract: the invariant is `Rendered`, with a voice that stays valid.
-- Assumes nothing.
use mathlib.Core.Path.{◌≡◌, refl, ap, subst, ◌∙◌}
use Prim.Native.Nat.{ℕ, ◌+◌, ◌<◌}
use native.Mathlib.Omega.{arith}
use lib.ListN.{length}
use Rattle.loops.specs.Fed.{fed_of}
use Rattle.loops.specs.Rendered.{Went}
use Rattle.loops.proofs.Fed.{length-fed, input-fed, set-fed}
use Rattle.loops.proofs.Passes.{started, reads, more}
use Rattle.render.proofs.sounding.Goals.{After-write}
use Rattle.render.proofs.sounding.Goals as goal

pub loop-i-init : goal.loop-i-init
loop-i-init c = started refl c.requires.1 c.requires.0

pub step-r-requires : goal.step-r-requires
step-r-requires c =
    let l = c.loop-i in
    let s = c.args in
    let left : l.i < length (fed_of s.fed l.i l.buffer) = omega (arith, length-fed s.fed l.i l.buffer) in
    (l.invariant.1, reads l.invariant left (c.input-x.ensures ∙ input-fed s.fed l.buffer l.i))

pub write-requires : goal.write-requires
write-requires c = (omega arith, c.step-r.ensures.small)

-- a pass of the loop, once its output is stored
further : (c : After-write) → Went c.args.fed c.args.buffer.now c.args.head c.args.line.now
    c.write.new.s c.step-r.result.head c.step-r.new.line (c.loop-i.i + 1)
further c =
    let l = c.loop-i in
    let s = c.args in
    let here : l.i < length l.buffer = omega arith in
    let left : l.i < length (fed_of s.fed l.i l.buffer) = omega (arith, length-fed s.fed l.i l.buffer) in
    more l.invariant left (c.input-x.ensures ∙ input-fed s.fed l.buffer l.i) c.step-r.ensures
    (ap (fed_of s.fed (l.i + 1)) c.write.ensures ∙ set-fed s.fed l.i l.buffer c.step-r.result.y.n here)
    refl

pub returns-then-head-eq0 : goal.returns-then-head-eq0
returns-then-head-eq0 c =
    record { went = further (goal.at.returns-then-head-eq0 c).After-write; done_nonzero = λ h. omega arith }

pub loop-i-preserved : goal.loop-i-preserved
loop-i-preserved c = further (goal.at.loop-i-preserved c).After-write

pub returns : goal.returns
returns c =
    let l = c.loop-i in
    let s = c.args in
    let all : l.i ≡ length l.buffer = omega arith in
    record {
      went = subst (λ (n : ℕ). Went s.fed s.buffer.now s.head s.line.now l.buffer l.head l.line n) all l.invariant;
      done_nonzero = λ h. omega arith;
    }
