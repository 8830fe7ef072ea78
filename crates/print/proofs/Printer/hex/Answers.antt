-- `print::Printer::hex` meets its contract: a blank, and then the two digits.
use Rattle.std.proofs.Common.{◌<◌, length, refl, ap, arith, rules}
use Rattle.write.proofs.Places.{wrote-within, wrote_past}
use Rattle.print.specs.Printer.{place}
use Rattle.print.proofs.Texts.{hexed}
use Rattle.print.proofs.Printer.hex.Goals as goal

pub returns-in-Some : goal.returns-in-Some
returns-in-Some c =
    let b = c.bytes.ensures in
    let e = ap place c.in-Some.is in
    record {
      does = hexed c.args.b (search rules) b.does (omega (arith, e)) c.hex.ensures;
      within = wrote-within c.hex.ensures 4097 (omega (arith, e, b.within)) (search rules);
      out = b.out;
    }

pub returns-in_default : goal.returns-in_default
returns-in_default c =
    let b = c.bytes.ensures in
    let q = c.bytes.new.self in
    let k = place q.held in
    let all : length q.buffer < 4097 = search rules in
    let past : length q.buffer < k = omega (arith, ap place c.in_default.is, all) in
    record {
      does = hexed c.args.b (search rules) b.does refl (wrote_past _ q.buffer k past);
      within = b.within;
      out = b.out;
    }
