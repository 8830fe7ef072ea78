-- The rows of specs/FormRows.antt, by computation.
use mathlib.Core.Path.{refl}
use Rattle.octets.specs.Octets as Octets
use Rattle.allpass.specs.Stored.{stored}
use Rattle.rule.specs.State.{silence}
use Rattle.form.specs.Limits.{limits}
use Rattle.form.specs.Parts.{decoded, parts, numbers_in, refused_parts, flags, size, unpacked, held_in}
use Rattle.form.specs.Loads.{load_number, loads}
use Rattle.form.specs.FormRows.{FormRows}

pub form-rows : FormRows
unfolding
    stored silence Octets.number limits decoded parts numbers_in refused_parts flags size unpacked held_in load_number loads
form-rows = record { accepted = refl; refused = refl; cut = refl; lowest = refl; oldest = refl; below = refl }
