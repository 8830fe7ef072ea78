-- `list::one::play` meets its contract: a block of zeros is never refused, and is what is rendered where 0 comes in.
-- Assumes nothing.
use mathlib.Core.Path.{sym, ap, ◌∙◌}
use mathlib.Core.List.{List}
use native.Mathlib.Omega.{arith}
use borrow.Author.Tests.{ltb-false}
use lib.IntN.{ℤ}
use lib.ListN.{length}
use Rattle.samples.specs.Samples.{loudest}
use Rattle.rule.specs.State.{block_after, block_out}
use Rattle.voice.specs.Struct.{voice_of, state_of}
use Rattle.block.proofs.Blocks.{plays, zeros, block_on, block-lent}
use Rattle.list.proofs.one.play.Goals as goal

pub returns-then-not-sounds : goal.returns-then-not-sounds
returns-then-not-sounds c =
    let s = c.args in
    let h = s.head.now in
    let l = s.line.now in
    let xs = s.input.now in
    let n = length s.output.now in
    let q = ltb-false 0 (loudest xs) (sym c.sounds.ensures ∙ c.if-not-sounds.true) in
    let z = zeros xs n c.if-input-output.true q in
    let e = plays (voice_of h) xs n c.if-input-output.true (omega arith) in
    let f = c.unfed.ensures in
    let k = c.unfed.new in
    record {
      on = block_on h l xs n e k.head k.line f.valid (f.after ∙ ap (λ (y : List ℤ). block_after (state_of h l) y) z);
      output_after =
          block-lent h l xs n e k.output s.output.now (f.out ∙ ap (λ (y : List ℤ). block_out (state_of h l) y) z);
    }
