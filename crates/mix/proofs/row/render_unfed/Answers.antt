-- `mix::row::render_unfed` meets its contract: a block of zeros is not refused.
use mathlib.Core.Path.{refl, sym, ◌∙◌}
use lib.IntN.{pos}
use lib.ListN.{length, replicate, length-replicate}
use Rattle.rule.specs.Calls.{block, done}
use Rattle.rule.specs.State.{block_out}
use Rattle.voice.specs.Struct.{voice_of, state_of}
use Rattle.voice.proofs.Called.{call-accepted}
use Rattle.loops.proofs.Fed.{cleared-zeros}
use Rattle.render.proofs.Joined.{zeros-quiet}
use Rattle.block.proofs.Blocks.{plays, block-lent}
use Rattle.packed.specs.Words.{head_of}
use Rattle.mix.proofs.row.render_unfed.Goals as goal

pub returns : goal.returns
unfolding done
returns c =
    let s = c.args in
    let h = head_of s.head.now in
    let l = s.line.now in
    let b = s.buffer.now in
    let n = length b in
    let xs = replicate n (pos 0) in
    let e = plays (voice_of h) xs n (length-replicate n (pos 0)) (rw (← cleared-zeros b) (zeros-quiet b)) in
    let r = c.play.ensures in
    record {
      after = record {
        state = r.on.state ∙ call-accepted (state_of h l) (block xs n) (sym e);
        valid = r.on.valid;
      };
      out = r.output_after ∙ sym (block-lent h l xs n e (block_out (state_of h l) xs) b refl);
    }
