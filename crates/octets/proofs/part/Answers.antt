-- `octets::part` meets its contract: what is missing adds nothing.
use Rattle.std.proofs.Common.{◌≡◌, ℕ, ◌-◌, ◌*◌, ◌≤◌, List, length, take, drop, length-drop, sym, ap, ◌∙◌, arith}
use native.Mathlib.Nat.{lt_of_lt_of_le}
use lib.Pow.{pow_pos, pow_mono}
use lib.Seq.{take_all}
use Rattle.octets.specs.Octets.{number}
use Rattle.octets.proofs.Gathers.{none-there}
use Rattle.octets.proofs.part.Goals as goal

some : (s : List ℕ) (at width : ℕ) → length s - at ≤ width
    → take (length s - at) (drop at s) ≡ take width (drop at s)
some s at width h =
    let n = length-drop at s in
    take_all (length s - at) (drop at s) (omega arith) ∙ sym (take_all width (drop at s) (omega arith))

pub returns-then-s-at : goal.returns-then-s-at
returns-then-s-at c =
    let a = c.args in (none-there a.width a.s.now a.at c.if-s-at.true, pow_pos (8 * a.width))

pub returns-then-left-width : goal.returns-then-left-width
returns-then-left-width c =
    let a = c.args in
    let h = c.if-left-width.true in
    let e : 8 * (length a.s.now - a.at) ≤ 8 * a.width = omega arith in (
      c.get.ensures.0 ∙ ap number (some a.s.now a.at a.width (omega arith)),
      lt_of_lt_of_le c.get.ensures.1 (pow_mono e),
    )
