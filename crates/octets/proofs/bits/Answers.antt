-- `octets::bits` meets its contract: full more than x is not below zero, and has the same lowest bytes.
use mathlib.Core.Path.{◌≡◌, ap, ◌∙◌}
use Prim.Native.Nat.{ℕ, ◌+◌, ◌*◌, ◌-◌, ◌≤◌, ◌^◌, suc}
use native.Mathlib.Omega.{arith}
use lib.IntN.{ℤ, pos, negsuc, nat_abs, ◌+ℤ◌}
use mir.Syntax.{w64}
use mir.Val.{SFits}
use mir.Facts.{to_z-of_z}
use mir.ValLaws.{to_z_pos}
use Rattle.integer.proofs.View.{+v, absv, onev, vfit}
use Rattle.octets.specs.Octets.{bytes, bits}
use Rattle.octets.proofs.Laws.{bytes_beyond}
use Rattle.octets.proofs.bits.Goals as goal

low : (z : ℤ) (full w : ℕ) → nat_abs z ≤ full → full ≡ 2 ^ (8 * w)
    → bytes w (nat_abs (z +ℤ pos full)) ≡ bytes w (bits w z)
low (pos n) full w h e =
    let s = pos n +ℤ pos full in
    let t : nat_abs s ≡ n + 2 ^ (8 * w) * 1 = omega (arith, +v (pos n) (pos full), absv s, onev s) in
    ap (λ (k : ℕ). bytes w k) t ∙ bytes_beyond w n 1
low (negsuc n) full w h e =
    let s = negsuc n +ℤ pos full in
    let t : nat_abs s ≡ 2 ^ (8 * w) - suc n = omega (arith, +v (negsuc n) (pos full), absv s, onev s) in
    ap (λ (k : ℕ). bytes w k) t

pub returns : goal.returns
returns c =
    let x = c.args.x.n in
    let full = c.args.full in
    let f : SFits w64 x = record { sfits = omega arith } in
    let sum : SFits w64 (x +ℤ pos full) =
    vfit w64 (x +ℤ pos full) (omega (arith, +v x (pos full), absv x, c.requires)) in
    rw (to_z-of_z f, to_z_pos w64 full (omega (arith, c.requires)), to_z-of_z sum)
    (λ w e. low x full w c.requires.0 e)
