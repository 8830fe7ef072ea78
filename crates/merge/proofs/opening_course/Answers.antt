-- `merge::opening_course` meets its contract.
use mathlib.Core.Path.{refl}
use Rattle.outline.specs.Struct.{outline_of}
use Rattle.merge.proofs.opening_course.Goals as goal

pub returns : goal.returns
unfolding outline_of
returns c = refl
