-- The rows of records from another implementation, all by computation.
-- Assumes nothing.
use mathlib.Core.Path.{refl}
use Rattle.record.specs.Record.{field, record_number, fields, rest}
use Rattle.figures.specs.RecordRows.{RecordRows}

pub record-rows : RecordRows
unfolding field record_number fields rest
record-rows = record { limits = refl }
