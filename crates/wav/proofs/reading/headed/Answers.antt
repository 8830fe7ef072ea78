-- `wav::reading::headed` meets its contract: the header that is expected fills its 44 places.
-- Assumes nothing.
use mathlib.Core.Path.{◌≡◌, sym, ap, ◌∙◌}
use mathlib.Core.List.{List, ◌++◌, append-nil}
use Prim.Native.Nat.{ℕ, ◌+◌}
use native.Mathlib.Omega.{arith}
use lib.ListN.{length, drop_of_length-le}
use lib.Seq.{length-take-le}
use Rattle.octets.specs.Octets.{laid}
use Rattle.riff.specs.Format.{header}
use Rattle.riff.proofs.Format.{header-length}
use Rattle.wav.proofs.reading.headed.Goals as goal

-- a list laid over one that is as long
over : (d p : List ℕ) → length d ≡ length p → laid d 0 p ≡ p
over d p e =
    ap (λ (r : List ℕ). p ++ r) (drop_of_length-le d {i = 0 + length p} (omega arith)) ∙ append-nil p

pub slice_bounds-same-end : goal.slice_bounds-same-end
slice_bounds-same-end c = sym (length-take-le 44 c.args.file.now c.requires.0)

pub returns : goal.returns
returns c =
    let a = c.args in
    let h = header a.rate a.count in
    let e : c.header.new.file ≡ h = rw c.from.ensures at c.header.ensures ∙ over _ h (sym (header-length a.rate a.count)) in
    rw e at c.same.ensures
