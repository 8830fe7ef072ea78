-- specs/GatherRows.antt: the rows that another implementation printed, by computation.
-- Assumes nothing.
use mathlib.Core.Path.{refl}
use Rattle.octets.specs.Octets.{number}
use Rattle.octets.specs.GatherRows.{GatherRows}

pub gather_rows : GatherRows
unfolding number
gather_rows = record { first = refl; seven = refl; end = refl; greatest = refl; empty = refl }
