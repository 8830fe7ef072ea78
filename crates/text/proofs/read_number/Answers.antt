-- `text::read_number` meets its contract: the digits left, after the number n, spell the word's number.
use Rattle.std.proofs.Common.{◌∙◌, arith}
use Rattle.std.proofs.lemmas.Bool.Decides.{nat_tests}
use Rattle.text.proofs.Digits.{decimal_least, number_of-read, number_of-large}
use Rattle.text.proofs.read_number.Goals as goal

pub returns-in_err-checked_mul : goal.returns-in_err-checked_mul
returns-in_err-checked_mul c =
    let s = c.args.word.now in
    let least = decimal_least s c.loop-b.b-index c.loop-b.n c.loop-b-test.true in
    c.from_residual.ensures
    ∙ number_of-large s (omega (arith, least, c.in_err-checked_mul.ensures))

pub returns-in_err-n : goal.returns-in_err-n
returns-in_err-n c =
    let s = c.args.word.now in
    let least = decimal_least s c.loop-b.b-index c.loop-b.n c.loop-b-test.true in
    c.from_residual-in_err-n.ensures
    ∙ number_of-large s (omega (arith, least, c.in_err-n.ensures, c.in_ok-checked_mul.ensures))

pub returns : goal.returns
returns c =
    number_of-read c.args.word.now c.loop-b.b-index c.loop-b.n
    (grind (arith, nat_tests, c.if-is_empty.ensures)) c.loop-b-test.false
    c.loop-b.invariant.digits c.loop-b.invariant.decimal c.loop-b.invariant.below
