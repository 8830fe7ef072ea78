-- `mix::parts::through` meets its contract: part after part, what is left makes what the whole makes.
use Rattle.std.proofs.Common.{◌≤◌, length, refl, arith, rules}
use Rattle.mix.proofs.Went.{begins, part-quiet, went_on, ends}
use Rattle.mix.proofs.parts.through.Goals as goal

pub loop-i-init : goal.loop-i-init
loop-i-init c = (begins c.args.fed c.args.buffer.now c.requires.0 c.requires.1, refl, refl)

pub part-requires-clause-voices : goal.part-requires-clause-voices
part-requires-clause-voices c =
    let w = c.loop-i.invariant.0 in
    (w.voices, part-quiet w c.min-end.result (omega (arith, c.min-end.ensures)))

pub loop-i-preserved : goal.loop-i-preserved
loop-i-preserved c =
    let w = c.loop-i.invariant.0 in
    let e = c.min-end.result in
    let g : e ≤ length c.loop-i.buffer = omega (arith, c.min-end.ensures) in
    (went_on w e (omega (arith, c.min-end.ensures)) g c.part.ensures, search rules, search rules)

pub returns : goal.returns
returns c =
    let l = c.loop-i in
    ends l.invariant.0 (omega (arith, c.loop-i-test.false))
