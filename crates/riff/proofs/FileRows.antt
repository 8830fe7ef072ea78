-- The rows of files from another implementation, all by computation.
-- Assumes nothing.
use mathlib.Core.Path.{refl}
use Rattle.octets.specs.Octets.{bytes, stored}
use Rattle.riff.specs.Format.{header, file}
use Rattle.riff.specs.FileRows.{FileRows}

pub file-rows : FileRows
unfolding file header stored bytes
file-rows = record { odd = refl; even = refl }
