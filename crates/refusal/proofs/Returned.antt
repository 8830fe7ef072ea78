-- What number a list of tests gives, and demand 1 of every list: `returned`.
-- Assumes nothing.
use mathlib.Core.Path.{◌≡◌, refl, sym, ap, subst, ◌∙◌}
use mathlib.Core.Bool.{Bool, true, false, not, cond, ◌&&◌, ◌||◌}
use mathlib.Core.List.{List, [], ◌∷◌, ◌++◌}
use Prim.Native.Nat.{ℕ, ◌<◌}
use native.Mathlib.Omega.{arith}
use lib.Dec.{T, T_not, ltb, eqb, ltb→lt}
use borrow.Author.Tests.{ltb-false, le-ltb, eq-eqb}
use Rattle.refusal.specs.Limits.{Limit, met, refusal}
use Rattle.refusal.specs.Returned.{Kept, AllKept, none, more, Returned, absent, numbered}

-- ---- for a routine that runs the tests one after the other
pub here : (l : Limit) (ls : List Limit) → met l ≡ true → refusal (l ∷ ls) ≡ l.number
here l ls e = ap (λ (b : Bool). cond b l.number (refusal ls)) e

pub past : (l : Limit) (ls : List Limit) {n : ℕ} → met l ≡ false → n ≡ refusal ls → n ≡ refusal (l ∷ ls)
past l ls e i = i ∙ sym (ap (λ (b : Bool). cond b l.number (refusal ls)) e)

-- ---- a test in ≤
or-false : (a b : Bool) → (a || b) ≡ false → (a ≡ false) × (b ≡ false)
or-false true b e = absurd (subst T e tt)
or-false false b e = (refl, e)

pub is-kept : (l : Limit) → met l ≡ false → Kept l
is-kept l e =
    let p = or-false (ltb l.value l.low) (ltb l.high l.value) e in
    record { least = ltb-false l.value l.low p.0; most = ltb-false l.high l.value p.1 }

pub kept-is : (l : Limit) → Kept l → met l ≡ false
kept-is l k = rw (le-ltb l.value l.low k.least) (le-ltb l.high l.value k.most)

pub is-met : (l : Limit) → (Kept l → ⊥) → met l ≡ true
is-met l f = go (met l) refl
  where
    go : (b : Bool) → met l ≡ b → b ≡ true
    go true e = refl
    go false e = absurd (f (is-kept l e))

-- ---- the numbers of a list
and_left : (a b : Bool) → T (a && b) → T a
and_left true b t = tt
and_left false b t = t

and_right : (a b : Bool) → T (a && b) → T b
and_right true b t = t
and_right false b t = absurd t

module _ (l : Limit) (ls : List Limit) (t : T (numbered (l ∷ ls))) where
  above : 0 < l.number
  above = ltb→lt 0 l.number (and_left (ltb 0 l.number) (absent l.number ls && numbered ls) t)

  lone : T (absent l.number ls)
  lone = and_left (absent l.number ls) (numbered ls) (and_right (ltb 0 l.number) _ t)

  others : T (numbered ls)
  others = and_right (absent l.number ls) (numbered ls) (and_right (ltb 0 l.number) _ t)

differs : (n m : ℕ) → T (not (eqb n m)) → n ≡ m → ⊥
differs n m t e = T_not (eqb n m) t (subst T (sym (eq-eqb n m e)) tt)

-- a number that no test of the list has
module _ (n : ℕ) (l : Limit) (ls : List Limit) (t : T (absent n (l ∷ ls))) where
  unlike : n ≡ l.number → ⊥
  unlike = differs n l.number (and_left (not (eqb n l.number)) (absent n ls) t)

  unlikes : T (absent n ls)
  unlikes = and_right (not (eqb n l.number)) (absent n ls) t

not-returned : (n : ℕ) (ls : List Limit) → 0 < n → T (absent n ls) → refusal ls ≡ n → ⊥
not-returned n [] h t e = omega arith
not-returned n (l ∷ ls) h t e = go (met l) refl (not-returned n ls h (unlikes n l ls t))
  where
    go : (b : Bool) → met l ≡ b → (refusal ls ≡ n → ⊥) → ⊥
    go true i f = unlike n l ls t (sym e ∙ here l ls i)
    go false i f = f (past l ls i refl ∙ e)

other : (n : ℕ) (pre post : List Limit) (l : Limit) → T (absent n (pre ++ l ∷ post)) → n ≡ l.number → ⊥
other n [] post l t e = unlike n l post t e
other n (k ∷ pre) post l t e = other n pre post l (unlikes n k (pre ++ l ∷ post) t) e

-- ---- success
pub passed : (ls : List Limit) → T (numbered ls) → refusal ls ≡ 0 → AllKept ls
passed [] t e = none
passed (l ∷ ls) t e = go (met l) refl (passed ls (others l ls t))
  where
    go : (b : Bool) → met l ≡ b → (refusal ls ≡ 0 → AllKept ls) → AllKept (l ∷ ls)
    go true i f = absurd (omega (arith, sym (here l ls i) ∙ e, above l ls t))
    go false i f = more (is-kept l i) (f (past l ls i refl ∙ e))

none-met : {ls : List Limit} → AllKept ls → 0 ≡ refusal ls
none-met none = refl
none-met (more {l} {ls} k ks) = past l ls (kept-is l k) (none-met ks)

-- ---- each test's own number
module _ (post : List Limit) (l : Limit) where
  named : (pre : List Limit) → T (numbered (pre ++ l ∷ post)) → refusal (pre ++ l ∷ post) ≡ l.number
      → AllKept pre × (Kept l → ⊥)
  named [] t e = (
    none,
    λ k. not-returned l.number post (above l post t) (lone l post t) (past l post (kept-is l k) refl ∙ e),
  )
  named (k ∷ pre) t e = go (met k) refl (named pre (others k (pre ++ l ∷ post) t))
    where
      go : (b : Bool) → met k ≡ b → (refusal (pre ++ l ∷ post) ≡ l.number → AllKept pre × (Kept l → ⊥))
          → AllKept (k ∷ pre) × (Kept l → ⊥)
      go true i f =
          absurd
          (other k.number pre post l (lone k (pre ++ l ∷ post) t) (sym (here k (pre ++ l ∷ post) i) ∙ e))
      go false i f =
          let p = f (past k (pre ++ l ∷ post) i refl ∙ e) in
          (more (is-kept k i) p.0, p.1)

  tells : {pre : List Limit} → AllKept pre → (Kept l → ⊥) → l.number ≡ refusal (pre ++ l ∷ post)
  tells none f = sym (here l post (is-met l f))
  tells (more {l = k} {ls = pre} p ps) f = past k (pre ++ l ∷ post) (kept-is k p) (tells ps f)

-- demand 1, for every list of tests
pub returned : (ls : List Limit) → T (numbered ls) → Returned ls
returned ls t = record {
  refused = λ pre post l e. (
    λ i. named post l pre (subst (λ (xs : List Limit). T (numbered xs)) e t) (ap refusal (sym e) ∙ i),
    λ p. ap refusal e ∙ sym (tells post l p.0 p.1),
  );
  accepted = (passed ls t, λ ks. sym (none-met ks));
}
