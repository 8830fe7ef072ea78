-- `riff::header::header` meets its contract: its three parts, one after the other.
use Rattle.std.proofs.Common.{◌≡◌, List, ◌++◌, ℕ, ◌+◌, ◌*◌, refl, ap, ◌∙◌, arith}
use Rattle.octets.specs.Octets.{bytes, laid}
use Rattle.octets.proofs.Laws.{laid_next}
use Rattle.riff.specs.Format.{data_size, riff_size, riff, format, data_head, header}
use Rattle.riff.proofs.header.header.Goals as goal

pub returns : goal.returns
unfolding header bytes
returns c =
    let d = c.args.file.now in
    let n = c.args.count in
    let r = riff (riff_size n) in
    let f = format c.args.rate in
    let t = data_head (data_size n) in
    let e : 36 + (3 * n + c.padding.result) ≡ riff_size n = omega (arith, c.padding.ensures.0) in
    rw (c.data_head.ensures, c.format.ensures, c.riff.ensures, e)
    (ap (λ (l : List ℕ). laid l 36 t) (laid_next d 0 r (omega (arith, c.requires)) 12 f refl)
    ∙ laid_next d 0 (r ++ f) (omega (arith, c.requires)) 36 t refl)
