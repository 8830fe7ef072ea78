-- Calls on a head and a line: none, one, and some after others.
-- Assumes nothing.
use mathlib.Core.Path.{◌≡◌, refl, sym, ap, subst, ◌∙◌}
use mathlib.Core.Bool.{Bool, true, false, cond}
use mathlib.Core.List.{List, [], ◌∷◌, ◌++◌}
use Prim.Native.Nat.{ℕ, ◌+◌}
use native.Mathlib.Omega.{arith}
use native.Mathlib.Decide.{ℕ_discrete}
use borrow.Author.Tests.{eq-eqb, ne_eqb}
use lib.Dec.{eqb}
use lib.IntN.{ℤ}
use Rattle.rule.specs.Calls.{Call, announce, instant}
use Rattle.rule.specs.State.{State, from}
use Rattle.voice.specs.declared.Head.{Head}
use Rattle.voice.specs.Called.{Answer}
use Rattle.voice.specs.Struct.{state_of}
use Rattle.voice.specs.Valid.{Valid}
use Rattle.voice.specs.Called.{On}
use Rattle.follow.specs.Follow.{stands, change_to, change, result, then, act_calls}
use Rattle.follow.specs.Does.{Does}
use Rattle.rule.proofs.Puts.{from-append}
use Rattle.follow.proofs.Sequence.{result-past, result-one, then-past, then-stops}

pub does-none : {h : Head} {l : List ℤ} → Valid h l → Does h l [] (record { refusal = 0; head = h }) l
does-none g = record { number = refl; state = refl; valid = g }

pub does-one : (h : Head) (l : List ℤ) {c : Call} {a : Answer} {k : List ℤ} → On h l c a k
    → Does h l (c ∷ []) a k
does-one h l {c} e = record {
  number = e.number ∙ result-one (state_of h l) c;
  state = e.state;
  valid = e.valid;
}

module _ (f g : State → List Call) (h : Head) (l : List ℤ) (a : Answer) (k : List ℤ)
    (d : Does h l (f (state_of h l)) a k) where
  v : State
  v = state_of h l

  pub does-stops : (a.refusal ≡ 0 → ⊥) → Does h l (then f g (state_of h l)) a k
  unfolding v
  does-stops n =
      let e : f v ≡ then f g v = then-stops f g v (λ z. n (d.number ∙ z)) in
      record {
        number = d.number ∙ ap (λ (cs : List Call). result v cs) e;
        state = d.state ∙ ap (λ (cs : List Call). from v cs) e;
        valid = d.valid;
      }

  module _ (z : a.refusal ≡ 0) (b : Answer) (m : List ℤ)
      (e : Does a.head k (g (state_of a.head k)) b m) where
    pub does-then : Does h l (then f g (state_of h l)) b m
    unfolding v
    does-then =
        let r : result v (f v) ≡ 0 = sym d.number ∙ z in
        let w = from v (f v) in
        let t : f v ++ g w ≡ then f g v = then-past f g v r in
        record {
          number = e.number
              ∙ ap (λ (u : State). result u (g u)) d.state
              ∙ sym (result-past v (f v) (g w) r)
              ∙ ap (λ (cs : List Call). result v cs) t;
          state = e.state
              ∙ ap (λ (u : State). from u (g u)) d.state
              ∙ sym (from-append v (f v) (g w))
              ∙ ap (λ (cs : List Call). from v cs) t;
          valid = e.valid;
        }

-- ---- a part of a record: a call where some bits stand, else none
module _ (h : Head) (l : List ℤ) (n : ℕ) (c : Call) where
  pub part_none : Valid h l → n ≡ 0
      → Does h l (cond (eqb n 0) [] (c ∷ [])) (record { refusal = 0; head = h }) l
  part_none g e = rw (eq-eqb n 0 e) (does-none g)

  pub part-one : (n ≡ 0 → ⊥) → {a : Answer} → On h l c a l → Does h l (cond (eqb n 0) [] (c ∷ [])) a l
  part-one f o = rw (ne_eqb n 0 f) (does-one h l o)

-- nothing to set
pub no-calls : (r : List ℕ) (v : State) → stands r 3 ≡ 0 → stands r 1 + stands r 2 ≡ 0 → stands r 4 ≡ 0
    → act_calls r v ≡ []
unfolding act_calls then
no-calls r v e i j =
    rw (eq-eqb (stands r 3) 0 e, eq-eqb (stands r 1 + stands r 2) 0 i, eq-eqb (stands r 4) 0 j)

-- something to set: a call comes first, whichever bit stands
not_none : {c : Call} {cs : List Call} → ◌≡◌ {A = List Call} (c ∷ cs) [] → ⊥
not_none e = let z : ◌≡◌ {A = ℕ} 1 0 = cc (ap shape e) in omega arith
  where
    shape : List Call → ℕ
    shape [] = 0
    shape (c ∷ cs) = 1

pub some-call : (r : List ℕ) (v : State) → act_calls r v ≡ []
    → (stands r 3 ≡ 0) × (stands r 1 + stands r 2 ≡ 0) × (stands r 4 ≡ 0)
unfolding act_calls then
some-call r v e = loss-first (ℕ_discrete (stands r 3) 0)
  where
    pluck-last : stands r 3 ≡ 0 → stands r 1 + stands r 2 ≡ 0 → Dec (stands r 4 ≡ 0)
        → (stands r 3 ≡ 0) × (stands r 1 + stands r 2 ≡ 0) × (stands r 4 ≡ 0)
    pluck-last i j (yes k) = (i, j, k)
    pluck-last i j (no f) =
        absurd (not_none (rw (
          eq-eqb (stands r 3) 0 i,
          eq-eqb (stands r 1 + stands r 2) 0 j,
          ne_eqb (stands r 4) 0 f,
        ) at e))

    change-next : stands r 3 ≡ 0 → Dec (stands r 1 + stands r 2 ≡ 0)
        → (stands r 3 ≡ 0) × (stands r 1 + stands r 2 ≡ 0) × (stands r 4 ≡ 0)
    change-next i (yes j) = pluck-last i j (ℕ_discrete (stands r 4) 0)
    change-next i (no f) =
        absurd (not_none (rw (eq-eqb (stands r 3) 0 i, ne_eqb (stands r 1 + stands r 2) 0 f) at e))

    loss-first : Dec (stands r 3 ≡ 0) → (stands r 3 ≡ 0) × (stands r 1 + stands r 2 ≡ 0) × (stands r 4 ≡ 0)
    loss-first (yes i) = change-next i (ℕ_discrete (stands r 1 + stands r 2) 0)
    loss-first (no f) = absurd (not_none (rw (ne_eqb (stands r 3) 0 f) at e))

-- sums that are 0
pub none_both : (a b : ℕ) → a + b ≡ 0 → (a ≡ 0) × (b ≡ 0)
none_both a b e = (omega (arith, e), omega (arith, e))

pub none_of : (a b c : ℕ) → a + b + c ≡ 0 → (a ≡ 0) × (b ≡ 0) × (c ≡ 0)
none_of a b c e = (omega (arith, e), omega (arith, e), omega (arith, e))

-- a change alone
pub change-alone : (r : List ℕ) (v : State) → stands r 3 ≡ 0 → (stands r 1 + stands r 2 ≡ 0 → ⊥)
    → stands r 4 ≡ 0
    → change r v ∷ [] ≡ act_calls r v
unfolding act_calls then
change-alone r v e f j =
    rw (eq-eqb (stands r 3) 0 e, ne_eqb (stands r 1 + stands r 2) 0 f, eq-eqb (stands r 4) 0 j)
    (ap (λ (cs : List Call). change r v ∷ cs) (none (eqb (result v (change r v ∷ [])) 0)))
  where
    none : (b : Bool) → ◌≡◌ {A = List Call} [] (cond b [] [])
    none true = refl
    none false = refl

-- a change, announced or instant
module _ (r : List ℕ) (v : State) where
  pub announced : stands r 7 ≡ 0 → announce (change_to r v) ≡ change r v
  announced z = rw (eq-eqb (stands r 7) 0 z)

  pub at_once : (stands r 7 ≡ 0 → ⊥) → instant (change_to r v) ≡ change r v
  at_once f = rw (ne_eqb (stands r 7) 0 f)

pub on_as : {h : Head} {l : List ℤ} {c b : Call} {a : Answer} {k : List ℤ} → On h l c a k → c ≡ b
    → On h l b a k
on_as {h} {l} {a} {k} o e = subst (λ (x : Call). On h l x a k) e o
