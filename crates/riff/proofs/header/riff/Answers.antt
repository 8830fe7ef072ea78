-- `riff::header::riff` meets its contract: its three fields, one after the other.
use Rattle.std.proofs.Common.{arith}
use Rattle.octets.specs.Octets.{bytes}
use Rattle.octets.proofs.Fields.{puts-laid}
use Rattle.riff.proofs.Format.{riff_fields}
use Rattle.riff.proofs.header.riff.Goals as goal

pub returns : goal.returns
unfolding bytes
returns c =
    rw (c.put-3.ensures, c.put-2.ensures, c.put.ensures)
    (puts-laid c.args.file.now 0 (riff_fields c.args.size) (omega (arith, c.requires)))
