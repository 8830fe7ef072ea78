-- `load::tested` meets its contract: 22, then 23.
-- Assumes nothing.
use Rattle.load.proofs.Loading.{by_22, by_23, by_0, head-limits, limits-head, line-room, line-limits, limits-line}
use Rattle.load.proofs.Said.{granted, refuted}
use Rattle.form.specs.Parts.{held_in}
use Rattle.load.proofs.tested.Goals as goal

-- src/lib.rt:45:9
pub returns-then-s-p : goal.returns-then-s-p
returns-then-s-p c =
    by_22 c.args.s.now c.map_of-m.result c.map_of-m.ensures.0 c.places-p.result
    c.places-p.ensures c.if-s-p.true

-- src/lib.rt:48:9
pub returns-then-not-head_in : goal.returns-then-not-head_in
returns-then-not-head_in c =
    let s = c.args.s.now in
    by_23 s c.map_of-m.result c.map_of-m.ensures.0 c.places-p.result c.places-p.ensures c.if-s-p.false
    (λ i. refuted c.head_in.ensures c.if-not-head_in.true (head-limits c.words_of.result (held_in s) c.words_of.ensures i))

-- src/lib.rt:50:9
pub line_in-requires : goal.line_in-requires
line_in-requires c =
    line-room c.args.s.now c.map_of-m.result c.map_of-m.ensures.0 c.places-p.result
    c.places-p.ensures c.if-s-p.false

-- src/lib.rt:51:9
pub returns-then-not-line_in : goal.returns-then-not-line_in
returns-then-not-line_in c =
    let s = c.args.s.now in
    by_23 s c.map_of-m.result c.map_of-m.ensures.0 c.places-p.result c.places-p.ensures c.if-s-p.false
    (λ i. refuted c.line_in.ensures c.if-not-line_in.true
    (line-limits s c.map_of-m.result c.map_of-m.ensures.0 c.places-p.result c.places-p.ensures i.line))

-- src/lib.rt:38:1
pub returns : goal.returns
returns c =
    let s = c.args.s.now in
    let line = limits-line s c.map_of-m.result c.map_of-m.ensures.0 c.places-p.result c.places-p.ensures
    (granted c.line_in.ensures c.if-not-line_in.false) in
    by_0 s c.map_of-m.result c.map_of-m.ensures.0 c.places-p.result c.places-p.ensures c.if-s-p.false
    (limits-head c.words_of.result (held_in s) c.words_of.ensures (granted c.head_in.ensures c.if-not-head_in.false) line)
