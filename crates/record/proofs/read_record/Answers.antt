-- `record::read_record` meets its contract: refused, or the fields and the part after them.
use Rattle.std.proofs.Common.{ap, ◌∙◌, ℕ, List, ◌∷◌, drop, arith}
use borrow.Author.Rules.{part_to_end}
use Rattle.octets.specs.Theorems.{Bytes}
use Rattle.refusal.proofs.Numbers.{refused-above}
use Rattle.record.specs.Record.{bytes}
use Rattle.record.proofs.Words.{cuts-of, cut-fields}
use Rattle.record.proofs.Reading.{refused-fields, refused-rest, taken-rest}
use Rattle.record.proofs.read_record.Goals as goal

pub bounds-s-0 : goal.bounds-s-0
bounds-s-0 c = omega (arith, c.in-Ok.ensures.whole)

pub returns-in-Ok-clause-fields_after : goal.returns-in-Ok-clause-fields_after
returns-in-Ok-clause-fields_after c =
    let s = c.args.s.now in
    let a = c.in-Ok.ensures in
    let known : Bytes s = λ j. omega (arith, c.type_inv.s j) in
    c.fill.ensures
    ∙ ap (λ (l : List ℕ). 0 ∷ l) (cuts-of s c.from-map.ensures c.words_of.ensures.0 c.words_of.ensures.1)
    ∙ cut-fields s known a.number

pub returns-in-Ok-clause-result_value : goal.returns-in-Ok-clause-result_value
returns-in-Ok-clause-result_value c =
    let s = c.args.s.now in
    let a = c.in-Ok.ensures in
    part_to_end s c.bytes-n.result
    ∙ ap (λ (n : ℕ). drop n s) (c.bytes-n.ensures ∙ ap bytes c.from-map.ensures)
    ∙ taken-rest s a.number

pub returns-in-Err-clause-fields_after : goal.returns-in-Err-clause-fields_after
returns-in-Err-clause-fields_after c =
    c.refuse.ensures ∙ refused-fields c.args.s.now c.in-Err.ensures.number (refused-above c.in-Err.refusal)

pub returns-in-Err-clause-result_value : goal.returns-in-Err-clause-result_value
returns-in-Err-clause-result_value c =
    refused-rest c.args.s.now c.in-Err.ensures.number (refused-above c.in-Err.refusal)
