-- `record::read` meets its contract: refused, or the fields and how many bytes they take.
use Rattle.std.proofs.Common.{ap, ◌∙◌, ℕ, List, ◌∷◌, drop, arith}
use Rattle.octets.specs.Theorems.{Bytes}
use Rattle.refusal.proofs.Numbers.{refused-above}
use Rattle.record.specs.Record.{bytes}
use Rattle.record.proofs.Words.{cuts-of, cut-fields}
use Rattle.record.proofs.Reading.{refused-fields, refused-rest, taken-rest}
use Rattle.record.proofs.read.Goals as goal

pub bounds-s-0 : goal.bounds-s-0
bounds-s-0 c = omega (arith, c.in-Ok.ensures.whole)

pub returns-in-Ok-clause-fields_after : goal.returns-in-Ok-clause-fields_after
returns-in-Ok-clause-fields_after c =
    let s = c.args.s.now in
    let a = c.in-Ok.ensures in
    let known : Bytes s = λ j. omega (arith, c.type_inv.s j) in
    c.fill.ensures
    ∙ ap (λ (l : List ℕ). 0 ∷ l) (cuts-of s c.from-map.ensures c.words_of.ensures.0 c.words_of.ensures.1)
    ∙ cut-fields s known a.number

pub returns-in-Ok-clause-upper_bound : goal.returns-in-Ok-clause-upper_bound
returns-in-Ok-clause-upper_bound c =
    let s = c.args.s.now in
    let a = c.in-Ok.ensures in
    let e = c.bytes.ensures ∙ ap bytes c.from-map.ensures in
    (rw e (omega (arith, a.whole)), ap (λ (n : ℕ). drop n s) e ∙ taken-rest s a.number)

pub returns-in-Err-clause-fields_after : goal.returns-in-Err-clause-fields_after
returns-in-Err-clause-fields_after c =
    c.refuse.ensures ∙ refused-fields c.args.s.now c.in-Err.ensures.number (refused-above c.in-Err.refusal)

pub returns-in-Err-clause-upper_bound : goal.returns-in-Err-clause-upper_bound
returns-in-Err-clause-upper_bound c =
    (omega arith, refused-rest c.args.s.now c.in-Err.ensures.number (refused-above c.in-Err.refusal))
