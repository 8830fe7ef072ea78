-- `mix::parts::mix_part` meets its contract: the sums of all six, clipped once.
use mathlib.Core.Path.{ap, ◌∙◌}
use mathlib.Core.List.{List, map}
use lib.IntN.{ℤ}
use Rattle.integer.specs.Rounding.{clip}
use Rattle.loops.specs.Fed.{fed_of}
use Rattle.strings.specs.Rows.{strings_of}
use Rattle.mix.proofs.Added.{sums-clipped}
use Rattle.mix.proofs.parts.mix_part.Goals as goal

pub returns : goal.returns
returns c =
    let s = c.args in
    let r = c.sum_strings.ensures in
    record {
      after = r.after;
      out =
          c.clip.ensures
          ∙ ap (λ (l : List ℤ). map clip l) r.out
          ∙ sums-clipped (strings_of s.heads.now s.lines.now) (fed_of s.fed 0 s.buffer.now);
    }
