-- `request::kinds::named` meets its contract: the word is the name of none of the kinds that the loop has passed, and
-- the rest is what is left of the table behind their rows.
use Rattle.std.proofs.Common.{ap, ◌∙◌, arith}
use Rattle.words.specs.Pieces.{piece}
use Rattle.request.proofs.Calls.{found, passed, named, others}
use Rattle.request.proofs.kinds.named.Goals as goal

pub returns-then-eq : goal.returns-then-eq
returns-then-eq c =
    let l = c.loop-kind in
    let names = named _ l.kind-index l.invariant.rows c.ahead-row.ensures c.ahead.ensures (omega arith) in
    found _ _ _ l.kind-index (omega arith) l.invariant.none names c.eq.ensures c.if-eq.true

pub loop-kind-preserved : goal.loop-kind-preserved
loop-kind-preserved c =
    let l = c.loop-kind in
    let names = named _ l.kind-index l.invariant.rows c.ahead-row.ensures c.ahead.ensures (omega arith) in
    record {
      rows = λ j. ap (piece 10 j) c.after-rest.ensures ∙ others _ l.kind-index l.invariant.rows j;
      none = passed _ _ _ l.kind-index (omega arith) l.invariant.none names c.eq.ensures c.if-eq.false;
    }
