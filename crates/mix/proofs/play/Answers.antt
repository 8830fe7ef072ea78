-- `mix::play` meets its contract: a mix of zeros is accepted.
use mathlib.Core.Path.{subst}
use mathlib.Core.List.{List}
use lib.IntN.{ℤ, pos}
use lib.ListN.{length, replicate, length-replicate}
use Rattle.loops.proofs.Fed.{cleared-zeros}
use Rattle.render.proofs.Joined.{zeros-quiet}
use Rattle.mix.specs.Rendered.{Mixes}
use Rattle.mix.proofs.Mixed.{accepted}
use Rattle.mix.proofs.play.Goals as goal

pub through-requires : goal.through-requires
through-requires c =
    (c.requires, zeros-quiet c.args.output.now)

pub returns : goal.returns
returns c =
    let r = c.through in
    let s = c.args in
    let b = s.output.now in
    let n = length b in
    let xs = replicate n (pos 0) in
    let k = r.new in
    let a = accepted xs b (length-replicate n (pos 0)) (rw (← cleared-zeros b) (zeros-quiet b))
    (subst (λ (ys : List ℤ). Mixes s.heads.now s.lines.now ys k.heads k.lines k.buffer)
    (cleared-zeros b) r.ensures) in
    record { played = a.0; output_after = a.1 }
