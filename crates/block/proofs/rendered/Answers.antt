-- `block::rendered` meets its contract: the input is copied to the output, and rendered there.
-- Assumes nothing.
use mathlib.Core.Path.{sym, ap, subst, ◌∙◌}
use mathlib.Core.List.{List}
use Prim.Native.Nat.{◌≤◌}
use lib.IntN.{ℤ}
use Rattle.integer.specs.Rounding.{M}
use Rattle.samples.specs.Samples.{loudest}
use Rattle.rule.specs.State.{block_after, block_out}
use Rattle.voice.specs.Struct.{state_of}
use Rattle.block.proofs.rendered.Goals as goal

pub render-requires : goal.render-requires
render-requires c =
    (c.requires.valid.0, subst (λ (l : List ℤ). loudest l ≤ M) (sym c.copy.ensures) c.requires.input_bound)

pub returns : goal.returns
returns c =
    let v = state_of c.args.head c.args.line.now in
    let r = c.render.ensures in
    record {
      line_after = r.line_after ∙ ap (λ (l : List ℤ). block_after v l) c.copy.ensures;
      output_after = r.buffer_after ∙ ap (λ (l : List ℤ). block_out v l) c.copy.ensures;
      valid_2 = r.valid;
    }
