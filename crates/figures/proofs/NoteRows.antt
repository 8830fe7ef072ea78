-- The rows of notes from another implementation, all by computation.
-- Assumes nothing.
use mathlib.Core.Path.{refl}
use Rattle.integer.specs.Rounding.{floor, nearest}
use Rattle.pitch.specs.Pitch.{octave, period, split_l, split_d, pitch}
use Rattle.figures.specs.NoteRows.{NoteRows}

pub note-rows : NoteRows
unfolding floor nearest octave period split_l split_d pitch
note-rows = record { limits = refl }
