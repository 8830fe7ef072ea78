-- `loops::run::heard` meets its contract: what is clipped is a sample, and is clipped no further.
-- Assumes nothing.
use Rattle.integer.specs.Rounding.{clip}
use Rattle.integer.proofs.Rounding.{clip_abs, clip-kept}
use Rattle.loops.proofs.run.heard.Goals as goal

pub returns-then-order-eq1 : goal.returns-then-order-eq1
returns-then-order-eq1 c =
    let y = c.args.y.n in
    rw c.clip.ensures (clip-kept (clip y) (clip_abs y), λ _. clip_abs y)
