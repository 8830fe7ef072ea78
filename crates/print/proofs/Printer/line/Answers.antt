-- `print::Printer::line` meets its contract: where room was made, the number and the end of the line.
use Rattle.std.proofs.Common.{◌<◌, List, ℕ, length, ap, subst, arith, rules}
use mir.Facts.{to_z-of_z}
use mir.Syntax.{w64}
use mir.Val.{SFits}
use Rattle.write.proofs.Places.{wrote-within, wrote_past, signed-within, signed_past}
use Rattle.print.specs.Printed.{Line}
use Rattle.print.specs.Printer.{place}
use Rattle.print.proofs.Texts.{lined}
use Rattle.print.proofs.Printer.line.Goals as goal

pub returns-in-Some : goal.returns-in-Some
returns-in-Some g c =
    let y = c.into-x.result in
    let fits : SFits w64 y = record { sfits = c.into-x.type_inv } in
    let p = c.args.self.now in
    let q = c.room.new.self in
    let w = c.bytes in
    let m = c.room.ensures in
    let e = ap place c.in-Some.is in
    let s = rw (to_z-of_z fits) at c.signed-last.ensures in
    let past = signed-within y q.buffer c.signed-last.new.buffer 4097 s (omega (arith, e, m.within)) (search rules) in
    let l = lined y (search rules) (rw e at m.does.1) s w.ensures in (
      y,
      c.into-x.ensures,
      record {
        does = subst (λ (b : List ℕ). Line y b (place p.held) w.new.buffer w.result) m.does.0 l;
        within = wrote-within w.ensures 4097 past (search rules);
        out = m.out;
      },
    )

pub returns-in_default : goal.returns-in_default
returns-in_default g c =
    let y = c.into-x.result in
    let fits : SFits w64 y = record { sfits = c.into-x.type_inv } in
    let p = c.args.self.now in
    let q = c.room.new.self in
    let m = c.room.ensures in
    let k = place q.held in
    let all : length q.buffer < 4097 = search rules in
    let past : length q.buffer < k = omega (arith, ap place c.in_default.is, all) in
    let l = lined y (search rules) m.does.1 (signed_past y q.buffer k fits past) (wrote_past _ q.buffer k past) in (
      y,
      c.into-x.ensures,
      record {
        does = subst (λ (b : List ℕ). Line y b (place p.held) q.buffer k) m.does.0 l;
        within = m.within;
        out = m.out;
      },
    )
