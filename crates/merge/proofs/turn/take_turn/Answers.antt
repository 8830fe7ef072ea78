-- `merge::turn::take_turn` meets its contract: a turn of the first score, or one of the second.
use native.Mathlib.Omega.{arith}
use Rattle.merge.proofs.Taking.{choosable, first_fits, second_fits, took-first, took-second}
use Rattle.merge.proofs.turn.take_turn.Goals as goal

pub turn-requires : goal.turn-requires
turn-requires c =
    let s = c.args in
    choosable s.order s.advance s.first.now s.second.now s.p c.requires

pub later-requires : goal.later-requires
later-requires c =
    let s = c.args in
    let o = c.in-First.ensures in
    λ h. second_fits s.order s.advance s.first.now s.second.now s.p c.requires.left h (o.2 h)

pub later-requires-in-Second : goal.later-requires-in-Second
later-requires-in-Second c =
    let s = c.args in
    let o = c.in-Second.ensures in
    λ h. let l = o.2 h in first_fits s.order s.advance s.first.now s.second.now s.p c.requires.left h (omega (arith, l))

pub returns-in-First : goal.returns-in-First
returns-in-First c =
    λ ls h.
    let s = c.args in
    let o = c.in-First.ensures in
    took-first s.order s.advance s.first.now s.second.now s.p h c.step-x.result c.later.result c.step-x.new.q o.0 o.1 o.2
    c.step-x.ensures c.later.ensures

pub returns-in-Second : goal.returns-in-Second
returns-in-Second c =
    λ ls h.
    let s = c.args in
    let o = c.in-Second.ensures in
    took-second s.order s.advance s.first.now s.second.now s.p h c.later-in-Second.result c.step-y.result c.step-y.new.q
    o.0 o.1 o.2 c.later-in-Second.ensures c.step-y.ensures
