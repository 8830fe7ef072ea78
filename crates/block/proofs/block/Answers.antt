-- `block::block` meets its contract: each refusal leaves everything, and an accepted block is rendered.
-- Assumes nothing.
use mathlib.Core.Path.{sym, ap, ◌∙◌}
use mathlib.Core.List.{List}
use native.Mathlib.Omega.{arith}
use borrow.Author.Tests.{ltb-false, leb-true, leb-false}
use lib.IntN.{ℤ}
use lib.ListN.{length}
use Rattle.integer.specs.Rounding.{M}
use Rattle.samples.specs.Samples.{loudest}
use Rattle.rule.specs.Calls.{block}
use Rattle.rule.specs.State.{block_after, block_out}
use Rattle.voice.specs.Struct.{voice_of, state_of}
use Rattle.block.proofs.Blocks.{differ, too_loud, plays, zeros, refused-on}
use Rattle.block.proofs.Blocks.{refused-lent, block_on, block-lent}
use Rattle.block.proofs.block.Goals as goal

pub returns-then-input-output : goal.returns-then-input-output
returns-then-input-output c =
    let s = c.args in
    let e = differ (voice_of s.head) s.input.now (length s.output.now) c.if-input-output.true in
    let b = block s.input.now (length s.output.now) in
    record {
      on = refused-on s.head s.line.now b c.requires e (λ z. omega arith);
      output_after = refused-lent s.head s.line.now b e (λ z. omega arith) s.output.now;
    }

pub returns-then-not-sounds : goal.returns-then-not-sounds
returns-then-not-sounds c =
    let s = c.args in
    let xs = s.input.now in
    let n = length s.output.now in
    let v = state_of s.head s.line.now in
    let q = ltb-false 0 (loudest xs) (sym c.sounds.ensures ∙ c.if-not-sounds.true) in
    let z = zeros xs n c.if-input-output.false q in
    let e = plays (voice_of s.head) xs n c.if-input-output.false (omega arith) in
    let f = c.silent.ensures in
    let k = c.silent.new in
    record {
      on =
          block_on s.head s.line.now xs n e c.silent.result k.line f.valid
          (f.line_after ∙ ap (λ (l : List ℤ). block_after v l) z);
      output_after =
          block-lent s.head s.line.now xs n e k.buffer s.output.now
          (f.buffer_after ∙ ap (λ (l : List ℤ). block_out v l) z);
    }

pub returns-then-not-all_samples : goal.returns-then-not-all_samples
returns-then-not-all_samples c =
    let s = c.args in
    let xs = s.input.now in
    let n = length s.output.now in
    let q = leb-false (loudest xs) M (sym c.all_samples.ensures ∙ c.if-not-all_samples.true) in
    let e = too_loud (voice_of s.head) xs n c.if-input-output.false q in
    record {
      on = refused-on s.head s.line.now (block xs n) c.requires e (λ z. omega arith);
      output_after = refused-lent s.head s.line.now (block xs n) e (λ z. omega arith) s.output.now;
    }

pub rendered-requires : goal.rendered-requires
rendered-requires c =
    record {
      valid = (c.requires, omega arith);
      input_bound = leb-true _ M (sym c.all_samples.ensures ∙ c.if-not-all_samples.false);
    }

pub returns : goal.returns
returns c =
    let s = c.args in
    let xs = s.input.now in
    let n = length s.output.now in
    -- what is not refused is of samples alone
    let small = leb-true _ M (sym c.all_samples.ensures ∙ c.if-not-all_samples.false) in
    let e = plays (voice_of s.head) xs n c.if-input-output.false small in
    let f = c.rendered.ensures in
    let k = c.rendered.new in
    record {
      on = block_on s.head s.line.now xs n e c.rendered.result k.line f.valid_2 f.line_after;
      output_after = block-lent s.head s.line.now xs n e k.output s.output.now f.output_after;
    }
