-- Laws of the tests of a stored voice's numbers.
use mathlib.Core.Path.{◌≡◌, refl, sym, ap, ◌∙◌}
use mathlib.Core.Bool.{Bool, true, false}
use mathlib.Core.List.{[], ◌∷◌}
use Prim.Native.Nat.{ℕ, zero, suc, ◌+◌, ◌-◌, ◌^◌, ◌≤◌, ◌<◌}
use native.Mathlib.Omega.{arith}
use lib.IntN.{ℤ, pos, negsuc, nat_abs}
use borrow.Author.Tests.{lt-ltb, le-ltb, le-leb, ltb-true, leb-true, eqb-true, eq-eqb}
use native.Mathlib.Decide.{dec_lt}
use lib.Dec.{eqb, ltb, leb}
use Rattle.refusal.specs.Limits.{refusal}
use Rattle.refusal.specs.Orders.{order, delay}
use Rattle.refusal.proofs.Ranges.{in_range, ordered, delayed}
use Rattle.refusal.proofs.Tests.{accepted}
use Rattle.rule.specs.Tests.{long}
use Rattle.rule.specs.Voice.{Tuning, tuning}
use Rattle.allpass.specs.declared.State.{State as Three}
use Rattle.form.specs.Parts.{value}
use Rattle.form.specs.Refusals.{FilterIn, AllZero, ChangeIn, none, announced, asked}
use Rattle.load.specs.declared.words.Change.{Change as Words}
use Rattle.load.specs.Says.{Says, Past}
use Rattle.load.specs.Words.{three_of, change_of, TakenIn, announced, asked, Comes, PluckIn}

pub says_no : {P : Type 0} → (P → ⊥) → Says false P
says_no f = record { yes = λ e. let z : ◌≡◌ {A = ℕ} 0 1 = cc in absurd (omega arith); no = λ p. absurd (f p) }

pub says_yes : {P : Type 0} → P → Says true P
says_yes p = record { yes = λ e. p; no = λ q. refl }

pub granted : {r : Bool} {P : Type 0} → Says r P → r ≡ true → P
granted s e = s.yes e

pub refuted : {r : Bool} {P : Type 0} → Says r P → r ≡ false → P → ⊥
refuted s e p = let z : ◌≡◌ {A = Bool} true false = sym (s.no p) ∙ e in cc

-- ---- magnitudes
pub low : (w : ℕ) → w < 2147483648 → w ≡ nat_abs (value w)
low w h = rw (lt-ltb w 2147483648 h)

pub high : (w : ℕ) → 2147483648 ≤ w → w < 2 ^ 32 → 4294967295 - w + 1 ≡ nat_abs (value w)
high w h l = rw (le-ltb w 2147483648 h) (omega arith)

pub last-past : (N y z : ℕ) → N ≤ 1 → z ≡ 0 → Says (eqb y 0) (Past N y z)
last-past N y z n e = record {
  yes = λ t. record { second = λ i. eqb-true y 0 t; third = λ i. e };
  no = λ p. eq-eqb y 0 (p.second n);
}

zero-only : (x : ℤ) → nat_abs x ≡ 0 → x ≡ pos 0
zero-only (pos zero) h = refl
zero-only (pos (suc n)) h = absurd (omega arith)
zero-only (negsuc n) h = absurd (omega arith)

only_zero : (x : ℤ) → x ≡ pos 0 → nat_abs x ≡ 0
only_zero x e = rw e

-- ---- a filter
module _ (t : Tuning) (v : Three) where
  pub tuned : FilterIn t v → refusal (order t.N ∷ long t.L ∷ delay t.N t.d ∷ []) ≡ 0
  tuned f =
      (accepted (order t.N) (long t.L ∷ delay t.N t.d ∷ []) tt).1
      (ordered f.tuned, (f.long, delayed f.tuned))

  pub all_said : (r : Bool) → refusal (order t.N ∷ long t.L ∷ delay t.N t.d ∷ []) ≡ 0
      → nat_abs v.v1 ≤ 16777214 → nat_abs v.v2 ≤ 16777214 → nat_abs v.v3 ≤ 16777214
      → Says r (Past t.N (nat_abs v.v2) (nat_abs v.v3)) → Says r (FilterIn t v)
  all_said r e a b c s =
      let (o, (l, d)) = (accepted (order t.N) (long t.L ∷ delay t.N t.d ∷ []) tt).0 e in
      record {
        yes = λ i.
            let p = s.yes i in
            record {
              tuned = in_range t.N t.d o d;
              long = l;
              v1 = a;
              v2 = b;
              v3 = c;
              second = λ n. zero-only v.v2 (p.second n);
              third = λ n. zero-only v.v3 (p.third n);
            };
        no = λ f.
            s.no
            (record {
              second = λ n. only_zero v.v2 (f.second n);
              third = λ n. only_zero v.v3 (f.third n);
            });
      }

-- ---- what waits
value-zero : (w : ℕ) → value w ≡ pos 0 → w ≡ 0
value-zero w e = go (dec_lt w 2147483648)
  where
    go : Dec (w < 2147483648) → w ≡ 0
    go (yes h) = low w h ∙ only_zero (value w) e
    go (no h) =
        let i : value w ≡ negsuc (4294967296 - suc w) = rw (le-ltb w 2147483648 (omega arith)) in
        let z : suc (4294967296 - suc w) ≡ 0 = ap nat_abs (sym i ∙ e) in
        absurd (omega arith)

pub none-waits : (c : Words) (n : ℕ)
    → n ≡ c.kind + (c.tuning.order + c.tuning.length + c.tuning.delay) + c.taken + (c.state.a + c.state.b + c.state.c)
    → Says (eqb n 0) (AllZero (change_of c))
none-waits c n e = record {
  yes = λ t.
      let z : n ≡ 0 = eqb-true n 0 t in
      let N : c.tuning.order ≡ 0 = omega arith in
      let L : c.tuning.length ≡ 0 = omega arith in
      let d : c.tuning.delay ≡ 0 = omega arith in
      let a : c.state.a ≡ 0 = omega arith in
      let b : c.state.b ≡ 0 = omega arith in
      let v : c.state.c ≡ 0 = omega arith in
      record { kind = omega arith; tuned = rw (N, L, d); taken = omega arith; state = rw (a, b, v) };
  no = λ z.
      let t = z.tuned in
      let v = z.state in
      let N : c.tuning.order ≡ 0 = ap (λ (u : Tuning). u.N) t in
      let L : c.tuning.length ≡ 0 = ap (λ (u : Tuning). u.L) t in
      let d : c.tuning.delay ≡ 0 = ap (λ (u : Tuning). u.d) t in
      let x = value-zero c.state.a (ap (λ (u : Three). u.v1) v) in
      let y = value-zero c.state.b (ap (λ (u : Three). u.v2) v) in
      let w = value-zero c.state.c (ap (λ (u : Three). u.v3) v) in
      eq-eqb n 0 (omega (arith, z.kind, z.taken));
}

module _ (Na : ℕ) (c : Words) where
  pub idle : (r : Bool) → c.kind ≡ 0 → Says r (AllZero (change_of c)) → Says r (ChangeIn Na (change_of c))
  idle r e s = record { yes = λ t. none (s.yes t); no = λ h. s.no (zero h) }
    where
      zero : ChangeIn Na (change_of c) → AllZero (change_of c)
      zero (none z) = z
      zero (announced i n f) = absurd (omega (arith, i))
      zero (asked i n f) = absurd (omega (arith, i))

  pub comes : (c.kind ≡ 0 → ⊥) → ChangeIn Na (change_of c) → Comes Na c
  comes k (none z) = absurd (k z.kind)
  comes k (announced i n f) = record { taken = announced i n; filter = f }
  comes k (asked i n f) = record { taken = asked i n; filter = f }

  pub coming : Comes Na c → ChangeIn Na (change_of c)
  coming h = go h.taken
    where
      go : TakenIn Na c.kind c.taken → ChangeIn Na (change_of c)
      go (announced i n) = announced i n h.filter
      go (asked i n) = asked i n h.filter

  pub early-or-late : (c.kind ≡ 0 → ⊥) → (TakenIn Na c.kind c.taken → ⊥) → ChangeIn Na (change_of c) → ⊥
  early-or-late k t h = t (comes k h).taken

  pub by_filter : (r : Bool) → (c.kind ≡ 0 → ⊥) → TakenIn Na c.kind c.taken
      → Says r (FilterIn (tuning c.tuning.order c.tuning.length c.tuning.delay) (three_of c.state.a c.state.b c.state.c))
      → Says r (ChangeIn Na (change_of c))
  by_filter r k t s = record {
    yes = λ e. coming (record { taken = t; filter = s.yes e });
    no = λ h. s.no (comes k h).filter;
  }

-- ---- samples taken
pub taken-before : (Na kind taken : ℕ) → kind ≡ 1 → Says (ltb taken Na) (TakenIn Na kind taken)
taken-before Na kind taken e = record { yes = λ t. announced e (ltb-true taken Na t); no = go }
  where
    go : TakenIn Na kind taken → ltb taken Na ≡ true
    go (announced i n) = lt-ltb taken Na n
    go (asked i n) = absurd (omega arith)

pub taken-up-to : (Na kind taken : ℕ) → kind ≡ 2 → Says (leb taken Na) (TakenIn Na kind taken)
taken-up-to Na kind taken e = record { yes = λ t. asked e (leb-true taken Na t); no = go }
  where
    go : TakenIn Na kind taken → leb taken Na ≡ true
    go (announced i n) = absurd (omega arith)
    go (asked i n) = le-leb taken Na n

pub no_kind : (Na kind taken : ℕ) → (kind ≡ 1 → ⊥) → (kind ≡ 2 → ⊥) → TakenIn Na kind taken → ⊥
no_kind Na kind taken f g (announced i n) = f i
no_kind Na kind taken f g (asked i n) = g i

pub taken-early : {Na kind taken : ℕ} → TakenIn Na kind taken → kind ≡ 1 → taken < Na
taken-early (announced i n) e = n
taken-early (asked i n) e = absurd (omega arith)

pub taken-late : {Na kind taken : ℕ} → TakenIn Na kind taken → (kind ≡ 1 → ⊥) → (kind ≡ 2) × (taken ≤ Na)
taken-late (announced i n) f = absurd (f i)
taken-late (asked i n) f = (i, n)

-- ---- a pluck
pub no_steps : (a l n : ℕ) → a ≡ 0 → l ≡ 0
    → Says (eqb n 0) (PluckIn (record { amplitude = a; left = l; noise = n }))
no_steps a l n e i = record {
  yes = λ t. record { amplitude = omega arith; left = omega arith; over = λ z. (e, eqb-true n 0 t) };
  no = λ p. eq-eqb n 0 (p.over i).1;
}
