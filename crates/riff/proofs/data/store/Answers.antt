-- `riff::data::store` meets its contract: what is left, laid from the next place on, makes the whole.
use Rattle.std.proofs.Common.{◌≡◌, List, ℕ, ◌+◌, ◌*◌, ◌≤◌, ◌<◌, length, drop, refl, sym, ap, ◌∙◌, arith, ℤ, pos, nat_abs, w32, w64, to_z, of_z, to_z-of_z}
use lib.ListN.{get_or}
use Rattle.integer.proofs.View.{abs_fits}
use Rattle.integer.specs.Rounding.{M}
use Rattle.samples.specs.Samples.{loudest}
use Rattle.samples.proofs.Samples.{loud}
use Rattle.octets.specs.Octets.{bytes, bits, stored, laid}
use Rattle.octets.proofs.Laws.{bytes-length, laid_nil, laid_next}
use Rattle.octets.proofs.Lists.{stored-step, stored-end}
use Rattle.riff.proofs.data.store.Goals as goal

small : (xs : List ℤ) (i : ℕ) → loudest xs ≤ M → nat_abs (get_or xs i (pos 0)) ≤ M
small xs i h = omega (arith, loud xs i)

-- a sample, as the machine holds it at 32 bits and at 64
shown : (x : ℤ) {r : ℤ} → nat_abs x ≤ M → r ≡ to_z w32 (of_z w32 x) → to_z w64 (of_z w64 r) ≡ x
shown x {r} h e =
    let s : r ≡ x = e ∙ to_z-of_z (abs_fits w32 x (omega arith)) in
    rw s (to_z-of_z (abs_fits w64 x (omega arith)))

pub bits-requires : goal.bits-requires
bits-requires c =
    let xs = c.args.samples.now in
    let h = small xs c.loop-i.i c.requires.1 in
    rw (shown (get_or xs c.loop-i.i (pos 0)) h c.from.ensures) (omega (arith, h), omega arith)

pub loop-i-preserved : goal.loop-i-preserved
loop-i-preserved c =
    let l = c.loop-i in
    let xs = c.args.samples.now in
    let z = get_or xs l.i (pos 0) in
    let x = bytes 3 (bits 3 z) in
    let q = stored 3 (drop (l.i + 1) xs) in
    let n = bytes-length 3 (bits 3 z) in
    let long : length l.file ≡ length c.args.file.now = omega arith in
    let inside : l.i < length xs = omega arith in
    let room : 44 + 3 * l.i + length x ≤ length l.file = omega (arith, n, c.requires.0) in
    let lay : List ℕ → List ℕ = λ (t : List ℕ). laid l.file (44 + 3 * l.i) t in
    let r = shown z (small xs l.i c.requires.1) c.from.ensures in
    let e : c.put.new.out ≡ lay x =
    c.put.ensures ∙ ap lay (c.bits.ensures 3 refl) ∙ ap (λ (y : ℤ). lay (bytes 3 (bits 3 y))) r in
    ap (λ (d : List ℕ). laid d (44 + 3 * (l.i + 1)) q) e
    ∙ laid_next l.file (44 + 3 * l.i) x room (44 + 3 * (l.i + 1)) q (omega (arith, n))
    ∙ ap lay (sym (stored-step 3 xs l.i inside))
    ∙ l.invariant

pub returns : goal.returns
returns c =
    let l = c.loop-i in
    let xs = c.args.samples.now in
    sym
    (ap (λ (t : List ℕ). laid l.file (44 + 3 * l.i) t) (stored-end 3 xs l.i (omega arith))
    ∙ laid_nil l.file (44 + 3 * l.i))
    ∙ l.invariant
