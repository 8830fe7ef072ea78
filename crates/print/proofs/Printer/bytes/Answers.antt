-- `print::Printer::bytes` meets its contract: the text is put where room was made.
use Rattle.std.proofs.Common.{◌<◌, length, ap, refl, arith, rules}
use Rattle.write.proofs.Places.{wrote-within, wrote_past}
use Rattle.print.specs.Printer.{place}
use Rattle.print.proofs.Printers.{put}
use Rattle.print.proofs.Printer.bytes.Goals as goal

pub returns-in-Some : goal.returns-in-Some
returns-in-Some c =
    let at = ap place c.in-Some.is in
    record {
      does = put c.in-Some.at c.room.ensures at c.bytes.ensures;
      within = wrote-within c.bytes.ensures 4097 (omega (arith, at, c.room.ensures.within)) (search rules);
      out = c.room.ensures.out;
    }

pub returns-in_default : goal.returns-in_default
returns-in_default c =
    let q = c.room.new.self in
    let k = place q.held in
    let all : length q.buffer < 4097 = search rules in
    let past : length q.buffer < k = omega (arith, ap place c.in_default.is, all) in
    record {
      does = put k c.room.ensures refl (wrote_past c.args.s.now q.buffer k past);
      within = c.room.ensures.within;
      out = c.room.ensures.out;
    }
