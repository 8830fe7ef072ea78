-- What a loop over samples keeps from pass to pass: its start, and one sample more.
-- Assumes nothing.
use mathlib.Core.Path.{◌≡◌, sym, ap, subst, ◌∙◌}
use mathlib.Core.List.{List}
use Prim.Native.Nat.{ℕ, ◌+◌, ◌≤◌, ◌<◌}
use lib.IntN.{ℤ, pos, nat_abs}
use lib.ListN.{length, get_or, set}
use Rattle.integer.specs.Rounding.{M}
use Rattle.samples.specs.Samples.{loudest}
use Rattle.rule.specs.State.{State, step}
use Rattle.voice.specs.declared.Head.{Head}
use Rattle.voice.specs.Struct.{state_of}
use Rattle.voice.specs.Valid.{Valid}
use Rattle.step.specs.declared.Stepped.{Stepped}
use Rattle.step.specs.Sample.{Steps}
use Rattle.loops.specs.Rendered.{Rendered}
use Rattle.loops.proofs.Rendered.{begun, sample, rendered}

-- the head h and the line l are valid, and reached once i samples of the buffer are rendered
abbrev pub Passed : List ℤ → State → List ℤ → Head → List ℤ → ℕ → Type 0
Passed xs v b h l i = Rendered xs v b (state_of h l) i × Valid h l

pub started : {h k : Head} {l xs : List ℤ} → k ≡ h → loudest xs ≤ M → Valid h l
    → Passed xs (state_of h l) xs k l 0
started {h} {l} {xs} e q g =
    subst (λ (k : Head). Passed xs (state_of h l) xs k l 0) (sym e) (begun xs (state_of h l) q, g)

module _ {xs : List ℤ} {v : State} {b : List ℤ} {h : Head} {l : List ℤ} {i : ℕ}
    (t : Passed xs v b h l i) where
  -- x is the sample that comes next
  module _ (o : i < length b) {x : ℤ} (e : x ≡ get_or b i (pos 0)) where
    pub reads : nat_abs x ≤ M
    reads = subst (λ (z : ℤ). nat_abs z ≤ M) (sym e) (sample xs v b (state_of h l) i t.0 o)

    -- it is stepped, and its output stored in its place
    pub more : {r : Stepped} {m c : List ℤ} {k : Head} → Steps h l x r m → c ≡ set b i r.y.n
        → r.head ≡ k → Passed xs v c k m (i + 1)
    more {r} {m} {c} s f j =
        let w = state_of r.head m in
        let n = s.state ∙ ap (λ (x : ℤ). step (state_of h l) x) e in
        let p = rendered xs v b (state_of h l) i t.0 o w r.y.n n s.y in
        subst (λ (k : Head). Passed xs v c k m (i + 1)) j
        (subst (λ (c : List ℤ). Rendered xs v c w (i + 1)) (sym f) p, s.valid)
