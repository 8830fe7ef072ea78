-- `kept::blocks::play` meets its contract: a block of zeros is never refused, and is what is rendered where
-- 0 comes in at each sample.
use Prim.Native.Nat.{ℕ, zero, suc, ◌≤◌}
use native.Mathlib.Omega.{arith}
use lib.IntN.{pos}
use lib.ListN.{length, replicate, length-replicate}
use Rattle.integer.specs.Rounding.{M}
use Rattle.samples.specs.Samples.{loudest}
use Rattle.voice.specs.Struct.{voice_of}
use Rattle.block.proofs.Blocks.{plays, block_on, block-lent}
use Rattle.kept.proofs.blocks.play.Goals as goal

zeros-quiet : (n : ℕ) → loudest (replicate n (pos 0)) ≤ M
zeros-quiet zero = omega arith
zeros-quiet (suc n) = omega (arith, zeros-quiet n)

pub returns : goal.returns
returns c =
    let s = c.args in
    let h = c.unpack.result in
    let l = s.line.now in
    let n = length s.output.now in
    let xs = replicate n (pos 0) in
    let e = plays (voice_of h) xs n (length-replicate n (pos 0)) (zeros-quiet n) in
    let f = c.unfed.ensures in
    let k = c.unfed.new in
    rw (← c.unpack.ensures, c.pack.ensures) (record {
      on = block_on h l xs n e c.unfed.result k.line f.valid f.after;
      output_after = block-lent h l xs n e k.output s.output.now f.out;
    })
