-- `render::rest` meets its contract: what was rendered before, and what the rest of the buffer makes of it.
-- Assumes nothing.
use mathlib.Core.Path.{sym, subst}
use mathlib.Core.List.{List}
use Prim.Native.Nat.{◌-◌}
use borrow.Author.Rules.{part_to_end}
use lib.IntN.{ℤ}
use lib.ListN.{length, drop, take}
use Rattle.loops.specs.Rendered.{Unfed}
use Rattle.render.proofs.Joined.{back, zeros-quiet}
use Rattle.render.proofs.Unfed.{unfed_rest}
use Rattle.render.proofs.rest.Goals as goal

pub through-requires : goal.through-requires
through-requires c =
    let b = c.args.buffer.now in
    let i = c.args.from in
    (c.requires.0, zeros-quiet (take (length b - i) (drop i b)))

pub returns : goal.returns
returns c b h l w =
    let t = c.through in
    let a = c.args in
    let i = a.from in
    let e = rw (part_to_end a.buffer.now i) at t.ensures in
    subst (λ (x : List ℤ). Unfed b h l x t.result t.new.line)
    (sym (back i a.buffer.now t.new.buffer c.requires.1))
    (unfed_rest b h l a.buffer.now a.head a.line.now i w e.line_after e.buffer_after e.valid)
