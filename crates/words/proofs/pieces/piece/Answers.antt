-- `words::pieces::piece` meets its contract: one piece less is asked for of what is left.
use Rattle.std.proofs.Common.{◌-◌, ◌≡◌, ◌+◌, ◌∙◌, arith}
use Rattle.words.proofs.Cuts.{piece-first, piece-less}
use Rattle.words.proofs.pieces.piece.Goals as goal

pub loop-preserved : goal.loop-preserved
loop-preserved c =
    let l = c.loop in
    let b = c.args.b in
    let n = c.args.k - l.counter in
    let e : c.args.k - (l.counter + 1) ≡ n - 1 = omega arith in
    rw (e, c.after-rest.ensures) (piece-less b n l.rest.now (omega arith) ∙ l.invariant)

pub returns : goal.returns
returns c =
    let l = c.loop in
    c.ahead.ensures ∙ piece-first _ (c.args.k - l.counter) l.rest.now (omega arith) ∙ l.invariant
