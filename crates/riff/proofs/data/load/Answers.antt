-- `riff::data::load` meets its contract: the samples below i are read.
use Rattle.std.proofs.Common.{◌≡◌, List, ℕ, ◌<◌, length, drop, refl, sym, ◌∙◌, arith}
use lib.ListN.{length-map}
use Rattle.integer.specs.Rounding.{clip}
use Rattle.integer.proofs.Rounding.{clip_abs}
use Rattle.samples.proofs.Taken.{one_more, all-taken}
use Rattle.octets.specs.Octets.{loaded}
use Rattle.octets.proofs.Lists.{loaded-length}
use Rattle.riff.proofs.Samples.{all, sample-at}
use Rattle.riff.proofs.data.load.Goals as goal

all-length : (s : List ℕ) (n : ℕ) → length (all s n) ≡ n
all-length s n = length-map (loaded 3 n (drop 44 s)) clip ∙ loaded-length 3 n (drop 44 s)

pub loop-i-init : goal.loop-i-init
loop-i-init c =
    let a = c.args in
    let l = all-length a.file.now (length a.samples.now) in
    record { within = omega arith; long = sym l; same = refl }

pub write-requires : goal.write-requires
write-requires c = (omega arith, rw c.sample.ensures (clip_abs _))

pub loop-i-preserved : goal.loop-i-preserved
loop-i-preserved c =
    let l = c.loop-i in
    let s = c.args.file.now in
    let n = length c.args.samples.now in
    let h : l.i < n = omega arith in
    let y = c.sample.result.n in
    rw c.write.ensures
    (one_more (all s n) l.samples l.i l.invariant y (omega (arith, all-length s n))
    (c.sample.ensures ∙ sym (sample-at s n l.i h)))

pub returns : goal.returns
returns c =
    let l = c.loop-i in
    let a = c.args in
    let s = a.file.now in
    let n = length a.samples.now in
    all-taken (all s n) l.samples l.i l.invariant (omega (arith, all-length s n))
