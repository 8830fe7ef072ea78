-- `tube::sample::sample` meets its contract: refused, or a step.
use mathlib.Core.Path.{◌≡◌, refl, sym, ◌∙◌}
use mathlib.Core.List.{[], ◌∷◌}
use Prim.Native.Nat.{◌≤◌, ◌<◌}
use native.Mathlib.Omega.{arith}
use borrow.Author.Tests.{leb-true, leb-false}
use lib.IntN.{ℤ}
use mir.Syntax.{w32, w64}
use mir.Val.{SFits}
use mir.Facts.{to_z-of_z, sfits_widen}
use Rattle.integer.specs.Rounding.{M}
use Rattle.refusal.specs.Limits.{refusal}
use Rattle.refusal.proofs.Returned.{here, past, is-met, kept-is}
use Rattle.samples.specs.Samples.{loudest}
use Rattle.junction.specs.Junction.{Two}
use Rattle.junction.specs.Calls.{sample, accept, answer, outputs, sample_limit}
use Rattle.junction.specs.Calls as Rule
use Rattle.tube.specs.Struct.{junction_of}
use Rattle.tube.proofs.Junctions.{answer-refused, answer-accepted}
use Rattle.tube.proofs.sample.sample.Goals as goal

wide : {z : ℤ} → SFits w32 z → SFits w64 z
wide f = sfits_widen tt f

abbrev both : ℤ → ℤ → Two ℤ
both a b = record { a = a; b = b }

loud : (a b : ℤ) → M < loudest (a ∷ b ∷ []) → 10 ≡ refusal (sample_limit (both a b) ∷ [])
loud a b l = sym (here (sample_limit (both a b)) [] (is-met (sample_limit (both a b)) (λ k. omega (arith, k.most))))

soft : (a b : ℤ) → loudest (a ∷ b ∷ []) ≤ M → refusal (sample_limit (both a b) ∷ []) ≡ 0
soft a b l =
    sym (past (sample_limit (both a b)) [] (kept-is (sample_limit (both a b)) (record { least = omega arith; most = l })) refl)

pub returns-then-not-all_samples : goal.returns-then-not-all_samples
unfolding Rule.number
returns-then-not-all_samples c =
    let s = c.args in
    let e = rw (to_z-of_z c.ranges.a, to_z-of_z c.ranges.b) at c.all_samples.ensures in
    let l = leb-false (loudest (s.a ∷ s.b ∷ [])) M (sym e ∙ c.if-not-all_samples.true) in
    (answer-refused (junction_of s.j) (sample (both s.a s.b)) 10 (loud s.a s.b l) (λ z. cc), tt)

pub returns : goal.returns
unfolding Rule.number accept
returns c =
    let s = c.args in
    let e = rw (to_z-of_z c.ranges.a, to_z-of_z c.ranges.b) at c.all_samples.ensures in
    let l = leb-true (loudest (s.a ∷ s.b ∷ [])) M (sym e ∙ c.if-not-all_samples.false) in
    let a = c.from.ensures ∙ to_z-of_z c.ranges.a in
    let b = c.from-2.ensures ∙ to_z-of_z c.ranges.b in
    let t = rw (a, b, to_z-of_z (wide c.ranges.a), to_z-of_z (wide c.ranges.b)) at c.accept.ensures in
    let j = junction_of s.j in
    let x = both s.a s.b in (
      rw (t.0, t.1)
          (answer-accepted j (sample x) (outputs j (sample x)) (junction_of c.accept.result.junction) (soft s.a s.b l)
          refl t.2),
      t.3,
    )
