-- `refusal::outside` meets its contract: by which half of the test came out.
-- Assumes nothing.
use borrow.Author.Tests.{lt-ltb, le-ltb}
use Rattle.refusal.proofs.outside.Goals as goal

pub returns-then-n-low : goal.returns-then-n-low
returns-then-n-low c = simp (lt-ltb _ _ c.if-n-low.true)

pub returns-else-n-low : goal.returns-else-n-low
returns-else-n-low c = simp (le-ltb _ _ c.if-n-low.false)
