-- The numbers that a list of calls returns, one for each call, and what is left of them without one.
-- Assumes nothing.
use mathlib.Core.Path.{◌≡◌, refl, sym, ap, ap₂, ◌∙◌}
use mathlib.Core.List.{List, [], ◌∷◌, ◌++◌, append_assoc}
use Prim.Native.Nat.{ℕ, zero, suc, ◌+◌}
use native.Mathlib.Omega.{arith}
use lib.ListN.{length, length-append}
use Rattle.rule.specs.Calls.{Call}
use Rattle.rule.specs.State.{State, call, from}
use Rattle.rule.specs.Live.{without}
use Rattle.rule.proofs.Puts.{from-append}

without-one : (p q : List ℕ) (n : ℕ) → without (length p) (p ++ n ∷ q) ≡ p ++ q
without-one [] q n = refl
without-one (x ∷ p) q n = ap (λ (ns : List ℕ). x ∷ ns) (without-one p q n)

without-behind : (p q : List ℕ) (k m : ℕ) → m ≡ length p + k → without m (p ++ q) ≡ p ++ without k q
without-behind [] q k m e = let i : m ≡ k = omega arith in ap (λ (n : ℕ). without n q) i
without-behind (x ∷ p) q k zero e = absurd (omega arith)
without-behind (x ∷ p) q k (suc m) e =
    ap (λ (ns : List ℕ). x ∷ ns) (without-behind p q k m (omega arith))

-- of the numbers F, one for each call
module _ (F : State → List Call → List ℕ) (f : State → Call → ℕ) (end : (v : State) → F v [] ≡ [])
    (more : (v : State) (c : Call) (cs : List Call) → F v (c ∷ cs) ≡ f v c ∷ F (call v c) cs) where
  each_append : (v : State) (cs ds : List Call) → F v (cs ++ ds) ≡ F v cs ++ F (from v cs) ds
  each_append v [] ds = ap (λ (ns : List ℕ). ns ++ F v ds) (sym (end v))
  each_append v (c ∷ cs) ds =
      more v c (cs ++ ds)
      ∙ ap (λ (ns : List ℕ). f v c ∷ ns) (each_append (call v c) cs ds)
      ∙ ap (λ (ns : List ℕ). ns ++ F (from (call v c) cs) ds) (sym (more v c cs))

  pub each-length : (v : State) (cs : List Call) → length (F v cs) ≡ length cs
  each-length v [] = ap length (end v)
  each-length v (c ∷ cs) = ap length (more v c cs) ∙ ap suc (each-length (call v c) cs)

  but_one : (v : State) (cs ds : List Call) (c : Call)
      → without (length cs) (F v (cs ++ c ∷ ds)) ≡ F v cs ++ F (call (from v cs) c) ds
  but_one v cs ds c =
      ap₂ without (sym (each-length v cs))
      (each_append v cs (c ∷ ds) ∙ ap (λ (ns : List ℕ). F v cs ++ ns) (more (from v cs) c ds))
      ∙ without-one (F v cs) (F (call (from v cs) c) ds) (f (from v cs) c)

  -- with c before mid, and d after it
  pub moved : (v : State) (mid post : List Call) (c d : Call)
      → F (call v c) mid ≡ F v mid
      → from (call v c) mid ≡ call (from v mid) d
      → without 0 (F v (c ∷ (mid ++ post))) ≡ without (length mid) (F v (mid ++ d ∷ post))
  moved v mid post c d e m =
      but_one v [] (mid ++ post) c
      ∙ ap (λ (ns : List ℕ). ns ++ F (call v c) (mid ++ post)) (end v)
      ∙ each_append (call v c) mid post
      ∙ ap₂ (λ (ns : List ℕ) (x : State). ns ++ F x post) e m
      ∙ sym (but_one v mid post d)

  -- calls in front of both lists
  front : (v : State) (pre cs : List Call) (k : ℕ)
      → without (length pre + k) (F v (pre ++ cs)) ≡ F v pre ++ without k (F (from v pre) cs)
  front v pre cs k =
      ap₂ (λ (n : ℕ) (ns : List ℕ). without (n + k) ns) (sym (each-length v pre)) (each_append v pre cs)
      ∙ without-behind (F v pre) (F (from v pre) cs) k (length (F v pre) + k) refl

  pub behind : (v : State) (pre mid cs ds : List Call)
      → without 0 (F (from v pre) cs) ≡ without (length mid) (F (from v pre) ds)
      → without (length pre) (F v (pre ++ cs)) ≡ without (length (pre ++ mid)) (F v (pre ++ ds))
  behind v pre mid cs ds e =
      let i : length pre ≡ length pre + 0 = omega arith in
      ap (λ (n : ℕ). without n (F v (pre ++ cs))) i
      ∙ front v pre cs 0
      ∙ ap (λ (ns : List ℕ). F v pre ++ ns) e
      ∙ sym (front v pre ds (length mid))
      ∙ ap (λ (n : ℕ). without n (F v (pre ++ ds))) (sym (length-append pre mid))
