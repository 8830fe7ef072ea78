-- `outline::after_change` meets its contract: at once without an advance or by bit 7, else after the advance.
use Rattle.outline.specs.Struct.{outline_of}
use Rattle.outline.proofs.Parts.{without-advance, at_once, ahead}
use Rattle.outline.proofs.after_change.Goals as goal

pub returns-then-advance-eq0 : goal.returns-then-advance-eq0
unfolding outline_of
returns-then-advance-eq0 c =
    let s = c.args in
    without-advance s.advance (outline_of s.c) s.to.length s.to.delay s.instant c.if-advance-eq0.true

pub returns-then-instant-ne0 : goal.returns-then-instant-ne0
unfolding outline_of
returns-then-instant-ne0 c =
    let s = c.args in
    at_once s.advance (outline_of s.c) s.to.length s.to.delay s.instant c.if-instant-ne0.true

pub returns : goal.returns
unfolding outline_of
returns c =
    let e = c.before in
    let s = e.args in
    ahead s.advance (outline_of s.c) s.to.length s.to.delay s.instant e.if-advance-eq0.false
    e.if-instant-ne0.false
