-- Numbers of two or three tests, one after the other: each if and only if its test is the first to fail.
use Rattle.std.proofs.Common.{◌≡◌, ℕ, Bool, true, false, cond, ◌↔◌, refl, true≢false, arith}
use mathlib.Core.Bool.{false≢true}
use Rattle.refusal.specs.Limits.{Between, Limit, met}
use Rattle.refusal.proofs.Returned.{is-kept, kept-is}

-- a test lets pass what is within its limits
pub met-is : (l : Limit) → (met l ≡ false) ↔ Between l.low l.value l.high
met-is l = (
  λ e. let k = is-kept l e in record { least = k.least; most = k.most },
  λ b. kept-is l (record { least = b.least; most = b.most }),
)

-- ---- two tests, one after the other
abbrev pub code : Bool → Bool → ℕ
code b o = cond b 26 (cond o 27 0)

pub first : {F : Type 0} (b o : Bool) → (b ≡ true) ↔ F → (code b o ≡ 26) ↔ F
first true o f = (λ e. f.0 refl, λ e. refl)
first false true f = (λ e. absurd (omega arith), λ e. absurd (false≢true (f.1 e)))
first false false f = (λ e. absurd (omega arith), λ e. absurd (false≢true (f.1 e)))

module _ {F I : Type 0} where
  pub second : (b o : Bool) → (b ≡ true) ↔ F → (o ≡ false) ↔ I
      → (code b o ≡ 27) ↔ ((F → ⊥) × (I → ⊥))
  second true o f i = (λ e. absurd (omega arith), λ e. absurd (e.0 (f.0 refl)))
  second false true f i = (λ e. (λ p. false≢true (f.1 p), λ q. true≢false (i.1 q)), λ e. refl)
  second false false f i = (λ e. absurd (omega arith), λ e. absurd (e.1 (i.0 refl)))

  pub neither : (b o : Bool) → (b ≡ true) ↔ F → (o ≡ false) ↔ I
      → (code b o ≡ 0) ↔ ((F → ⊥) × I)
  neither true o f i = (λ e. absurd (omega arith), λ e. absurd (e.0 (f.0 refl)))
  neither false true f i = (λ e. absurd (omega arith), λ e. absurd (true≢false (i.1 e.1)))
  neither false false f i = (λ e. (λ p. false≢true (f.1 p), i.0 refl), λ e. refl)

-- ---- three tests, one after the other
abbrev pub order-code : Bool → Bool → Bool → ℕ
order-code a b o = cond a 1 (cond b 26 (cond o 13 0))

pub order-first : {K : Type 0} (a b o : Bool) → (a ≡ false) ↔ K → (order-code a b o ≡ 1) ↔ (K → ⊥)
order-first true b o k = (λ e q. true≢false (k.1 q), λ f. refl)
order-first false true o k = (λ e. absurd (omega arith), λ f. absurd (f (k.0 refl)))
order-first false false true k = (λ e. absurd (omega arith), λ f. absurd (f (k.0 refl)))
order-first false false false k = (λ e. absurd (omega arith), λ f. absurd (f (k.0 refl)))

pub order-second : {K F : Type 0} (a b o : Bool) → (a ≡ false) ↔ K → (b ≡ true) ↔ F
    → (order-code a b o ≡ 26) ↔ (K × F)
order-second true b o k f = (λ e. absurd (omega arith), λ p. absurd (true≢false (k.1 p.0)))
order-second false true o k f = (λ e. (k.0 refl, f.0 refl), λ p. refl)
order-second false false true k f = (λ e. absurd (omega arith), λ p. absurd (false≢true (f.1 p.1)))
order-second false false false k f = (λ e. absurd (omega arith), λ p. absurd (false≢true (f.1 p.1)))

module _ {K F P : Type 0} where
  pub order-third : (a b o : Bool) → (a ≡ false) ↔ K → (b ≡ true) ↔ F → (o ≡ false) ↔ P
      → (order-code a b o ≡ 13) ↔ (K × ((F → ⊥) × (P → ⊥)))
  order-third true b o k f p = (λ e. absurd (omega arith), λ q. absurd (true≢false (k.1 q.0)))
  order-third false true o k f p = (λ e. absurd (omega arith), λ q. absurd (q.1.0 (f.0 refl)))
  order-third false false true k f p =
      (λ e. (k.0 refl, (λ y. false≢true (f.1 y), λ z. true≢false (p.1 z))), λ q. refl)
  order-third false false false k f p = (λ e. absurd (omega arith), λ q. absurd (q.1.1 (p.0 refl)))

  pub order-none : (a b o : Bool) → (a ≡ false) ↔ K → (b ≡ true) ↔ F → (o ≡ false) ↔ P
      → (order-code a b o ≡ 0) ↔ (K × ((F → ⊥) × P))
  order-none true b o k f p = (λ e. absurd (omega arith), λ q. absurd (true≢false (k.1 q.0)))
  order-none false true o k f p = (λ e. absurd (omega arith), λ q. absurd (q.1.0 (f.0 refl)))
  order-none false false true k f p = (λ e. absurd (omega arith), λ q. absurd (true≢false (p.1 q.1.1)))
  order-none false false false k f p = (λ e. (k.0 refl, (λ y. false≢true (f.1 y), p.0 refl)), λ q. refl)
