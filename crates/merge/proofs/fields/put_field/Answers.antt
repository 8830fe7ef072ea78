-- `merge::fields::put_field` meets its contract: nothing, or two bytes.
use mathlib.Core.Path.{◌≡◌, refl, sym, ap, ◌∙◌}
use mathlib.Core.List.{List}
use Prim.Native.Nat.{ℕ, zero, suc}
use native.Mathlib.Omega.{arith}
use Rattle.octets.specs.Octets.{bytes, laid}
use Rattle.octets.proofs.Laws.{laid_nil}
use Rattle.timeline.specs.Merged.{field_bytes}
use Rattle.merge.proofs.fields.put_field.Goals as goal

none : (d : List ℕ) (at b n : ℕ) → b ≡ 0 → d ≡ laid d at (field_bytes b n)
none d at b n e = rw e (sym (laid_nil d at))

two : (b n : ℕ) → (b ≡ 0 → ⊥) → bytes 2 n ≡ field_bytes b n
two zero n f = absurd (f refl)
two (suc b) n f = refl

pub returns-then-bit-eq0 : goal.returns-then-bit-eq0
returns-then-bit-eq0 c =
    let s = c.args in
    (none s.out.now s.at s.bit s.n c.if-bit-eq0.true, omega (arith, c.if-bit-eq0.true))

pub returns : goal.returns
returns c =
    let p = c.before.before in
    let e = p.before.before in
    let s = e.before.before in (
      p.put.ensures ∙ ap (λ (x : List ℕ). laid s.args.out.now s.args.at x) (two s.args.bit s.args.n e.if-bit-eq0.false),
      omega (arith, s.requires.0, e.if-bit-eq0.false),
    )
