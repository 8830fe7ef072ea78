-- `octets::word::four` meets its contract: the front of the rest of the slice is four bytes.
use Rattle.std.proofs.Common.{◌≡◌, length, length-drop, drop, take, arith, ◌∙◌, ap}
use lib.ListN.{length-take}
use Rattle.octets.specs.Octets.{number}
use Rattle.octets.proofs.Words.{number_4}
use Rattle.octets.proofs.word.four.Goals as goal

pub returns : goal.returns
returns c =
    let rest = drop c.args.at c.args.s.now in
    let bytes = c.unwrap.result.now in
    let e : bytes ≡ take 4 rest = grind arith in
    let l : length bytes ≡ 4 =
    ap length e ∙ omega (arith, length-take 4 rest, length-drop c.args.at c.args.s.now) in
    (c.from.ensures ∙ c.from_le_bytes.ensures ∙ number_4 bytes l ∙ ap number e, omega arith)
