use Rattle.load.proofs.Said.{says_no, granted, refuted, idle, early-or-late, by_filter}
use Rattle.load.proofs.limits.change_in.Goals as goal

-- src/limits.rt:99:9
pub returns-then-c-eq0 : goal.returns-then-c-eq0
returns-then-c-eq0 c =
    let s = c.args in
    idle s.advance s.c c.all_zero.result c.if-c-eq0.true c.all_zero.ensures

-- src/limits.rt:102:9
pub returns-then-not-taken_in : goal.returns-then-not-taken_in
returns-then-not-taken_in c =
    let s = c.args in
    let t = c.taken_in in
    says_no (early-or-late s.advance s.c c.if-c-eq0.false (refuted t.ensures c.if-not-taken_in.true))

-- src/limits.rt:95:1
pub returns : goal.returns
returns c =
    let s = c.args in
    by_filter s.advance s.c c.filter_in.result c.if-c-eq0.false
    (granted c.taken_in.ensures c.if-not-taken_in.false) c.filter_in.ensures
