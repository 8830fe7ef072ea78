use Rattle.load.proofs.Said.{taken-early, taken-late}
use Rattle.load.proofs.Heads.{announced_waits, asked_waits}
use Rattle.load.proofs.build.prepared.Goals as goal

-- src/build.rt:68:9
pub returns-then-c-eq1 : goal.returns-then-c-eq1
returns-then-c-eq1 c =
    announced_waits c.args.advance c.args.c c.filter_of-e.result c.if-c-eq1.true
    (taken-early c.requires.taken c.if-c-eq1.true) c.filter_of-e.ensures

-- src/build.rt:62:1
pub returns : goal.returns
returns c =
    let t = taken-late c.requires.taken c.if-c-eq1.false in
    asked_waits c.args.advance c.args.c c.filter_of-e.result t.0 t.1 c.filter_of-e.ensures
