-- `riff::header::data_head` meets its contract: its two fields, one after the other.
use Rattle.std.proofs.Common.{arith}
use Rattle.octets.specs.Octets.{bytes}
use Rattle.octets.proofs.Fields.{puts-laid}
use Rattle.riff.proofs.Format.{data_fields}
use Rattle.riff.proofs.header.data_head.Goals as goal

pub returns : goal.returns
unfolding bytes
returns c =
    rw (c.put-2.ensures, c.put.ensures)
    (puts-laid c.args.file.now 36 (data_fields c.args.size) (omega (arith, c.requires)))
