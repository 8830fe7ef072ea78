-- `print::Printer::number` meets its contract: a blank, and then the digits.
use Rattle.std.proofs.Common.{◌<◌, length, refl, ap, arith, rules}
use Rattle.write.proofs.Places.{spelled_within, spelled_past}
use Rattle.print.specs.Printer.{place}
use Rattle.print.proofs.Texts.{numbered}
use Rattle.print.proofs.Printer.number.Goals as goal

pub returns-in-Some : goal.returns-in-Some
returns-in-Some g c =
    let b = c.bytes.ensures in
    let e = ap place c.in-Some.is in (
      c.into-n.result,
      c.into-n.ensures,
      record {
        does = numbered (search rules) b.does (omega (arith, e)) c.number.ensures;
        within = spelled_within 4097 c.number.ensures (omega (arith, e, b.within)) (search rules);
        out = b.out;
      },
    )

pub returns-in_default : goal.returns-in_default
returns-in_default g c =
    let n = c.into-n.result in
    let b = c.bytes.ensures in
    let q = c.bytes.new.self in
    let k = place q.held in
    let all : length q.buffer < 4097 = search rules in
    let past : length q.buffer < k = omega (arith, ap place c.in_default.is, all) in (
      n,
      c.into-n.ensures,
      record {
        does = numbered (search rules) b.does refl (spelled_past n q.buffer k c.into-n.type_inv past);
        within = b.within;
        out = b.out;
      },
    )
