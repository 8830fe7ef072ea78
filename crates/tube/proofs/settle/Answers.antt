-- `tube::settle` meets its contract: by what waits, and whether it has taken as many inputs as the advance.
use native.Mathlib.Omega.{arith}
use Rattle.junction.specs.Junction.{Move}
use Rattle.tube.specs.Struct.{junction_of, states_of}
use Rattle.tube.proofs.Junctions.{settle-none, settle-now, settle-later}
use Rattle.tube.proofs.settle.Goals as goal

pub returns-in-None : goal.returns-in-None
returns-in-None c = (rw (c.in-None.is, settle-none (junction_of c.args.j)), c.requires.0)

pub returns-in-Some : goal.returns-in-Some
returns-in-Some c =
    let w = c.in-Some.m in
    let h = rw c.in-Some.is at c.requires.1 in
    let g = c.requires.0 in
    let m : Move = record { d = w.d; taken = w.taken; states = states_of w.filters } in (
      rw (c.in-Some.is, settle-now (junction_of c.args.j) m c.if-m-j.true),
      record { r = g.r; filters = h.filters; advance = g.advance; last = g.last; waiting = tt },
    )

pub returns-in-Some-2 : goal.returns-in-Some-2
returns-in-Some-2 c =
    let w = c.in-Some.m in
    let h = rw c.in-Some.is at c.requires.1 in
    let g = c.requires.0 in
    let m : Move = record { d = w.d; taken = w.taken; states = states_of w.filters } in (
      rw (c.in-Some.is, settle-later (junction_of c.args.j) m c.if-m-j.false),
      record {
        r = g.r;
        filters = g.filters;
        advance = g.advance;
        last = g.last;
        waiting = record { filters = h.filters; early = omega (arith, h.counted, c.if-m-j.false) };
      },
    )
