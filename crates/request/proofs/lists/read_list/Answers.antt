-- `request::lists::read_list` meets its contract: what the words that were read spell stands at the front of the array.
use Rattle.std.proofs.Common.{arith, sym, ◌∙◌}
use Rattle.std.proofs.lemmas.Bool.{eqb-true}
use Rattle.std.proofs.lemmas.List.{take_all, take-set}
use Rattle.request.specs.Rest.{word}
use Rattle.request.proofs.Words.{no_word, last, another}
use Rattle.request.proofs.lists.read_list.Goals as goal

pub returns-then-is_empty-clause-spelt : goal.returns-then-is_empty-clause-spelt
returns-then-is_empty-clause-spelt g c =
    let l = c.loop-count in
    last _ _ _ _ _ l.invariant
    (no_word c.split_word.ensures.split (eqb-true _ _ (sym c.is_empty.ensures ∙ c.if-is_empty.true)))
    (take-set l.place-items l.count _)

pub loop-count-preserved : goal.loop-count-preserved
loop-count-preserved g c =
    let l = c.loop-count in
    let p = word c.split_word.ensures.split (sym c.read.ensures ∙ c.in_ok-place.was) in
    another _ _ _ _ l.place-items l.count _ (omega arith) l.invariant p

pub returns-then-ended-clause-spelt : goal.returns-then-ended-clause-spelt
returns-then-ended-clause-spelt g c =
    let l = c.loop-count in
    last _ _ _ _ _ l.invariant (c.ended.ensures c.if-ended.true) (sym (take_all l.count l.place-items (omega arith)))
