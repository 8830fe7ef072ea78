-- `merge::fields::merge_record` meets its contract: number by number.
use mathlib.Core.Path.{◌≡◌, refl, ap, ap₂, ◌∙◌}
use mathlib.Core.Bool.{cond}
use mathlib.Core.List.{[], ◌∷◌}
use Prim.Native.Nat.{ℕ, zero, suc}
use native.Mathlib.Omega.{arith}
use borrow.Author.Tests.{ne_eqb}
use lib.Dec.{eqb}
use Rattle.record.specs.Record.{present}
use Rattle.follow.specs.Follow.{value}
use Rattle.timeline.specs.Merged.{merge_record}
use Rattle.merge.proofs.fields.merge_record.Goals as goal

same : {a b c d x y z i w G A S : ℕ} → a ≡ x → b ≡ y → c ≡ z → d ≡ i
    → 0 ∷ a ∷ w ∷ b ∷ c ∷ G ∷ A ∷ d ∷ S ∷ [] ≡ 0 ∷ x ∷ w ∷ y ∷ z ∷ G ∷ A ∷ i ∷ S ∷ []
same e f g h = cc

-- a number where a bit stands, else 0
chosen-present : (b n : ℕ) → cond (eqb b 0) 0 n ≡ present b n
chosen-present zero n = refl
chosen-present (suc b) n = rw (ne_eqb (suc b) 0 (λ z. omega arith)) refl

pub returns : goal.returns
unfolding merge_record
returns c =
    λ m.
    let s = c.args in
    let r = s.r.now in
    let x = c.changes-change.ensures in
    let h = c.changes-change.result in
    let b = c.bit-2.result in
    let e2 = c.chosen.ensures ∙ chosen-present h s.to.length ∙ ap (λ (n : ℕ). present n s.to.length) x in
    let e3 = c.chosen-2.ensures ∙ chosen-present h s.to.delay ∙ ap (λ (n : ℕ). present n s.to.delay) x in
    let k = c.chosen-count.ensures ∙ ap (λ (n : ℕ). cond (eqb n 0) 100 (value r 5)) c.bit.ensures in
    let e4 = c.chosen-3.ensures
    ∙ chosen-present b c.chosen-count.result
    ∙ ap₂ (λ (n v : ℕ). present n v) c.bit-2.ensures k in
    same c.merged_map.ensures e2 e3 e4
