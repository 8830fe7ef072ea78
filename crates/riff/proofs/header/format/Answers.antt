-- `riff::header::format` meets its contract: its eight fields, one after the other.
use Rattle.std.proofs.Common.{arith}
use Rattle.octets.specs.Octets.{bytes}
use Rattle.octets.proofs.Fields.{puts-laid}
use Rattle.riff.proofs.Format.{format_fields}
use Rattle.riff.proofs.header.format.Goals as goal

pub returns : goal.returns
unfolding bytes
returns c =
    rw (c.put-8.ensures, c.put-7.ensures, c.put-6.ensures, c.put-5.ensures, c.put-4.ensures, c.put-3.ensures, c.put-2.ensures, c.put.ensures)
    (puts-laid c.args.file.now 12 (format_fields c.args.rate) (omega (arith, c.requires.0)))
