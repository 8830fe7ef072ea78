-- The rows of scores from another implementation, all by computation.
-- Assumes nothing.
use mathlib.Core.Path.{refl}
use Rattle.integer.specs.Rounding.{floor, nearest, clip}
use Rattle.integer.specs.Cut.{cut, R, Q}
use Rattle.thiran.specs.Formula.{factor, a}
use Rattle.thiran.specs.Coefficients.{coefficient, coefficients}
use Rattle.allpass.specs.Allpass.{inner, next, out}
use Rattle.noise.specs.Noise as Noise
use Rattle.rule.specs.Voice.{noise, spent, output, written, settled, stepped}
use Rattle.rule.specs.Calls.{number, opened, done}
use Rattle.rule.specs.State.{step, sounds, call, put, silence}
use Rattle.record.specs.Record.{field, record_number, fields, rest}
use Rattle.follow.specs.Follow.{then, act_calls, record_calls}
use Rattle.score.specs.Run.{played, records, run}
use Rattle.figures.specs.ScoreRows.{ScoreRows}

pub score_rows : ScoreRows
unfolding
    floor nearest cut R Q clip factor a coefficient coefficients inner next out Noise.next Noise.value
    noise spent output written settled stepped number opened done step sounds call put silence
    field record_number fields rest then act_calls record_calls played records run
score_rows = record { limits = refl }
