-- `follow::announces` meets its contract: where an announced change stands alone, it is the one call.
use mathlib.Core.Path.{◌≡◌, sym, ap, ap₂, ◌∙◌}
use mathlib.Core.Bool.{not, false≢true}
use mathlib.Core.List.{[], ◌∷◌}
use Prim.Native.Nat.{ℕ, ◌+◌}
use native.Mathlib.Omega.{arith}
use borrow.Author.Tests.{eqb-false, ne_eqb, not-true}
use Rattle.rule.specs.Calls.{Call}
use Rattle.follow.specs.Follow.{stands}
use Rattle.follow.proofs.Following.{none_of, change-alone, announced}
use Rattle.follow.proofs.announces.Goals as goal

pub returns-then-beside-bit-ne0 : goal.returns-then-beside-bit-ne0
returns-then-beside-bit-ne0 c =
    record {
      variant = (
        λ z. absurd (false≢true z),
        λ k. absurd (c.if-beside-bit-ne0.true (omega (
          arith,
          c.bit-3.ensures ∙ k.no_loss,
          c.bit-4.ensures ∙ k.no_pluck,
          c.bit-5.ensures ∙ k.announced,
        ))),
      );
      v_value = λ z. absurd (false≢true z);
    }

pub returns : goal.returns
returns c =
    let r = c.args.r.now in
    let change : c.bit.result + c.bit-2.result ≡ stands r 1 + stands r 2
    = ap₂ (λ (x y : ℕ). x + y) c.bit.ensures c.bit-2.ensures in
    let no = none_of c.bit-3.result c.bit-4.result c.bit-5.result c.if-beside-bit-ne0.false in
    let no_loss = sym c.bit-3.ensures ∙ no.0 in
    let no_pluck = sym c.bit-4.ensures ∙ no.1 in
    let waits = sym c.bit-5.ensures ∙ no.2 in record {
      variant = (
        λ z.
            let some = eqb-false (c.bit.result + c.bit-2.result) 0 (not-true _ z) in
            record { changes = λ n. some (change ∙ n); no_loss = no_loss; no_pluck = no_pluck; announced = waits },
        λ k. ap not (ne_eqb (c.bit.result + c.bit-2.result) 0 (λ n. k.changes (sym change ∙ n))),
      );
      v_value = λ z v.
          let some = eqb-false (c.bit.result + c.bit-2.result) 0 (not-true _ z) in
          sym (change-alone r v no_loss (λ n. some (change ∙ n)) no_pluck)
          ∙ ap (λ (x : Call). x ∷ []) (sym (announced r v waits));
    }
