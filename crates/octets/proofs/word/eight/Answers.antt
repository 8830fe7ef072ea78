-- `octets::word::eight` meets its contract: the front of the rest of the slice is eight bytes.
use Rattle.std.proofs.Common.{◌≡◌, length, length-drop, drop, take, arith, ◌∙◌, ap}
use lib.ListN.{length-take}
use Rattle.octets.specs.Octets.{number}
use Rattle.octets.proofs.Words.{number_8}
use Rattle.octets.proofs.word.eight.Goals as goal

pub returns : goal.returns
returns c =
    let rest = drop c.args.at c.args.s.now in
    let bytes = c.unwrap.result.now in
    let e : bytes ≡ take 8 rest = grind arith in
    let l : length bytes ≡ 8 =
    ap length e ∙ omega (arith, length-take 8 rest, length-drop c.args.at c.args.s.now) in
    c.from_le_bytes.ensures ∙ number_8 bytes l ∙ ap number e
