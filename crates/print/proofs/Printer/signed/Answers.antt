-- `print::Printer::signed` meets its contract: a blank, and then the sign and the digits.
use Rattle.std.proofs.Common.{◌<◌, length, refl, ap, arith, rules}
use mir.Facts.{to_z-of_z}
use mir.Syntax.{w64}
use mir.Val.{SFits}
use Rattle.write.proofs.Places.{signed-within, signed_past}
use Rattle.print.specs.Printer.{place}
use Rattle.print.proofs.Texts.{signed}
use Rattle.print.proofs.Printer.signed.Goals as goal

pub returns-in-Some : goal.returns-in-Some
returns-in-Some g c =
    let y = c.into-x.result in
    let fits : SFits w64 y = record { sfits = c.into-x.type_inv } in
    let b = c.bytes.ensures in
    let e = ap place c.in-Some.is in
    let s = rw (to_z-of_z fits) at c.signed.ensures in (
      y,
      c.into-x.ensures,
      record {
        does = signed y (search rules) b.does (omega (arith, e)) s;
        within = signed-within y c.bytes.new.self.buffer c.signed.new.buffer 4097 s (omega (arith, e, b.within)) (search rules);
        out = b.out;
      },
    )

pub returns-in_default : goal.returns-in_default
returns-in_default g c =
    let y = c.into-x.result in
    let fits : SFits w64 y = record { sfits = c.into-x.type_inv } in
    let b = c.bytes.ensures in
    let q = c.bytes.new.self in
    let k = place q.held in
    let all : length q.buffer < 4097 = search rules in
    let past : length q.buffer < k = omega (arith, ap place c.in_default.is, all) in (
      y,
      c.into-x.ensures,
      record {
        does = signed y (search rules) b.does refl (signed_past y q.buffer k fits past);
        within = b.within;
        out = b.out;
      },
    )
