-- `allpass::response::last_loud` meets its contract. The loop's invariant: the state can be fed 0, and what was
-- found, with what is still to come, is what is found of all values. Assumes nothing.
use mathlib.Core.Path.{◌≡◌, ap, ◌∙◌}
use mathlib.Core.List.{List, ◌∷◌}
use Prim.Native.Nat.{ℕ, suc, ◌+◌, ◌-◌}
use native.Mathlib.Omega.{arith}
use lib.IntN.{ℤ, pos}
use lib.ListN.{replicate}
use Rattle.thiran.specs.Answers.{taps}
use Rattle.allpass.specs.Allpass.{inners}
use Rattle.allpass.specs.Length.{response, last_above}
use Rattle.allpass.specs.Stored.{held}
use Rattle.allpass.proofs.Last.{found, found_all, found-next}
use Rattle.allpass.proofs.Stored.{fed-next, fed-rest, held-rest}
use Rattle.allpass.proofs.response.last_loud.Goals as goal

pub eliminate-v-requires : goal.eliminate-v-requires
eliminate-v-requires c =
    let r = c.requires in
    rw c.at_rest.ensures (fed-rest (pos 1000000) r.0 r.1 r.2 (omega arith))

pub loop-index-init : goal.loop-index-init
unfolding response
loop-index-init c =
    let r = c.requires in
    let N = c.args.order in
    let A = taps N c.args.c in
    let t = c.args.threshold in
    let v = c.eliminate-v.result in
    let e = rw c.at_rest.ensures at c.eliminate-v.ensures in
    let h = fed-rest (pos 1000000) r.0 r.1 r.2 (omega arith) in
    let zeros = replicate 63 (pos 0) in (
      rw e (fed-next h (pos 0) (omega arith)),
      rw c.later-last.ensures
          (found-next t 0 0 zeros v h e
          ∙ ap (λ (u : List ℤ). found t 0 0 (inners A u (pos 1000000 ∷ zeros))) (held-rest N r.1)
          ∙ found_all t (response A N)),
    )

pub loop-index-preserved : goal.loop-index-preserved
loop-index-preserved c =
    let l = c.loop-index in
    let N = c.args.order in
    let A = taps N c.args.c in
    let t = c.args.threshold in
    let v = c.eliminate-v-in-loop-index.result in
    let e = c.eliminate-v-in-loop-index.ensures in
    let i : suc (64 - (l.index + 1)) ≡ 64 - l.index = omega arith in (
      rw e (fed-next l.invariant.0 (pos 0) (omega arith)),
      rw c.later-last-in-loop-index.ensures
          (found-next t l.index l.last (replicate (64 - (l.index + 1)) (pos 0)) v l.invariant.0 e
          ∙ ap (λ (n : ℕ). found t l.index l.last (inners A (held N l.v) (replicate n (pos 0)))) i
          ∙ l.invariant.1),
    )

pub returns : goal.returns
unfolding last_above
returns c =
    let l = c.loop-index in
    let i : 64 - l.index ≡ 0 = omega arith in
    rw i at l.invariant.1
