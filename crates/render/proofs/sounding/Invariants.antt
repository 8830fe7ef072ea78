-- `render::sounding` meets its contract: the invariant is `Rendered`, with a voice that stays valid.
-- Assumes nothing.
use Rattle.loops.specs.Rendered.{Went}
use Rattle.render.proofs.sounding.Given as goal

abbrev pub invariant-loop-i : goal.invariant-loop-i
invariant-loop-i l = Went l.fed l.initial.buffer l.initial.head l.initial.line l.buffer l.head l.line l.i
