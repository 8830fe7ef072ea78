-- `store::store` meets its contract: nothing is stored where the slice is too short, else the voice's form.
use mathlib.Core.Path.{◌≡◌, ap, ◌∙◌}
use Prim.Native.Nat.{ℕ}
use lib.ListN.{length}
use native.Mathlib.Omega.{arith}
use Rattle.octets.specs.Octets.{bytes, laid}
use Rattle.form.specs.Parts.{refused_parts}
use Rattle.form.proofs.Packing.{size-most}
use Rattle.form.proofs.Numbers.{refused-total}
use Rattle.store.specs.Puts.{flags_of}
use Rattle.store.proofs.Whole.{body_long, too_short, fits_in}
use Rattle.store.proofs.store.Goals as goal

pub overflow_add-n : goal.overflow_add-n
overflow_add-n c =
    record {
      fits = omega (arith, c.size-n.ensures, size-most (flags_of c.bits_of-b.result) refused_parts, refused-total);
    }

pub returns-then-out-n : goal.returns-then-out-n
returns-then-out-n c =
    let long : length c.args.line.now ≡ 2112 = omega arith in
    too_short c.args.head c.args.line.now c.requires long c.words_of-w.result c.bits_of-b.result
    c.sounds-sounds.ensures c.words_of-w.ensures c.bits_of-b.ensures c.args.out.now
    (omega (arith, c.size-n.ensures, c.if-out-n.true))

pub fill-requires : goal.fill-requires
fill-requires c =
    let long : length c.args.line.now ≡ 2112 = omega arith in
    let l = body_long c.args.head c.args.line.now c.requires long c.words_of-w.result c.bits_of-b.result
    c.sounds-sounds.ensures c.words_of-w.ensures c.bits_of-b.ensures in (
      omega (arith, l, c.size-n.ensures, c.if-out-n.false, c.put.auto.out),
      c.requires.fit.at,
      c.requires.line,
    )

pub returns : goal.returns
returns c =
    let long : length c.args.line.now ≡ 2112 = omega arith in
    let m = c.put.ensures ∙ ap (λ (k : ℕ). laid c.args.out.now 0 (bytes 1 k)) c.map_byte.ensures in
    fits_in c.args.head c.args.line.now c.requires long c.words_of-w.result c.bits_of-b.result
    c.sounds-sounds.ensures c.words_of-w.ensures c.bits_of-b.ensures c.args.out.now c.put.new.out c.fill.new.out
    c.fill.result (omega (arith, c.size-n.ensures, c.if-out-n.false)) m c.fill.ensures
