-- `thiran::coefficients` meets its contract: the refusal, or the filter's own set, whose numbers fit 32 bits.
-- Assumes nothing.
use mathlib.Core.Path.{◌≡◌, sym, ap, ◌∙◌}
use Rattle.std.proofs.Common.{rules}
use Rattle.std.specs.Prelude.{Ok, Err}
use Prim.Native.Nat.{ℕ, ◌≤◌}
use native.Mathlib.Omega.{arith}
use lib.IntN.{ℤ, pos, nat_abs}
use lib.ListN.{get_or}
use mir.Syntax.{w32, w64}
use mir.Val.{SFits, to_z, of_z}
use mir.Facts.{to_z-of_z}
use Rattle.integer.proofs.View.{abs_fits}
use Rattle.refusal.specs.Orders.{Takes}
use Rattle.refusal.specs.Limits.{refusal}
use Rattle.refusal.specs.Numbers.{number_of}
use Rattle.thiran.specs.declared.formula.Coefficients.{Coefficients}
use Rattle.thiran.specs.Coefficients.{coefficients}
use Rattle.thiran.specs.Answers.{Design, limits, design, padded}
use Rattle.thiran.proofs.Lists.{coefficient-small}
use Rattle.thiran.proofs.Refusals.{takes, designed-err, design-taken}
use Rattle.thiran.proofs.coefficients.Goals as goal

-- z, read as 64 bits, fits 32, and is A read as those
abbrev Cast : ℤ → ℤ → Type 0
Cast z A = SFits w32 (to_z w64 (of_z w64 z)) × (to_z w32 (of_z w32 (to_z w64 (of_z w64 z))) ≡ A)

cast : (z A : ℤ) → nat_abs A ≤ 32768 → z ≡ A → Cast z A
cast z A h e =
    let f = abs_fits w64 A (omega arith) in
    let g = abs_fits w32 A (omega arith) in
    rw (e, to_z-of_z f) (g, to_z-of_z g)

-- the numbers of the filter's own set k
module _ {N d : ℕ} (t : Takes N d) {k : Coefficients} (e : k ≡ padded (coefficients N d)) where
  abbrev A : ℕ → ℤ
  A i = get_or (coefficients N d) i (pos 0)

  first : Cast k.a1 (A 0)
  unfolding padded
  first = cast k.a1 (A 0) (coefficient-small N d 0 t) (ap (λ (r : Coefficients). r.a1) e)

  second : Cast k.a2 (A 1)
  unfolding padded
  second = cast k.a2 (A 1) (coefficient-small N d 1 t) (ap (λ (r : Coefficients). r.a2) e)

  third : Cast k.a3 (A 2)
  unfolding padded
  third = cast k.a3 (A 2) (coefficient-small N d 2 t) (ap (λ (r : Coefficients). r.a3) e)

  passed : ◌≡◌ {A = Design} (record {
    refusal = 0;
    a1 = to_z w32 (of_z w32 (to_z w64 (of_z w64 k.a1)));
    a2 = to_z w32 (of_z w32 (to_z w64 (of_z w64 k.a2)));
    a3 = to_z w32 (of_z w32 (to_z w64 (of_z w64 k.a3)));
  }) (design N d)
  passed = rw (first.1, second.1, third.1) (sym (design-taken N d t))

pub returns-in_err-refused : goal.returns-in_err-refused
returns-in_err-refused c =
    let s = c.args in
    let r = c.in_err-refused.field-0.0 in
    let i : c.from_residual.result ≡ Err r = search rules in
    let e : number_of r ≡ refusal (limits s.order s.d) = search rules in
    rw i (designed-err s.order s.d r e)

pub set-c-requires : goal.set-c-requires
set-c-requires c =
    let z : 0 ≡ refusal (limits c.args.order c.args.d) = search rules in
    takes c.args.order c.args.d (sym z)

pub overflow_cast-result : goal.overflow_cast-result
overflow_cast-result c =
    let z : 0 ≡ refusal (limits c.args.order c.args.d) = search rules in
    let t = takes c.args.order c.args.d (sym z) in (first t c.set-c.ensures).0

pub overflow_cast-result-2 : goal.overflow_cast-result-2
overflow_cast-result-2 c =
    let z : 0 ≡ refusal (limits c.args.order c.args.d) = search rules in
    let t = takes c.args.order c.args.d (sym z) in (second t c.set-c.ensures).0

pub overflow_cast-result-3 : goal.overflow_cast-result-3
overflow_cast-result-3 c =
    let z : 0 ≡ refusal (limits c.args.order c.args.d) = search rules in
    let t = takes c.args.order c.args.d (sym z) in (third t c.set-c.ensures).0

pub returns : goal.returns
returns c =
    let z : 0 ≡ refusal (limits c.args.order c.args.d) = search rules in
    let t = takes c.args.order c.args.d (sym z) in passed t c.set-c.ensures
