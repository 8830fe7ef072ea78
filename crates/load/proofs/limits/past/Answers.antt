use Rattle.load.proofs.Said.{says_no, last-past}
use Rattle.load.proofs.limits.past.Goals as goal

-- src/limits.rt:35:9
pub returns-then-z-ne0 : goal.returns-then-z-ne0
returns-then-z-ne0 c = says_no (λ p. c.if-z-ne0.true (p.third c.if-order-gt2.false))

-- src/limits.rt:28:1
pub returns : goal.returns
returns c =
    let s = c.args in
    last-past s.order s.y s.z c.if-order-gt1.false c.if-z-ne0.false
