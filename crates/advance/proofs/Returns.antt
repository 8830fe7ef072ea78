-- What `least` returns: the number of the three tests, and the advance that `first` is.
use mathlib.Core.Path.{◌≡◌, sym, ap, subst, ◌∙◌}
use mathlib.Core.Logic.{◌↔◌}
use mathlib.Core.List.{[], ◌∷◌}
use Prim.Native.Nat.{ℕ, ◌/◌, ◌≤◌, ◌<◌}
use native.Mathlib.Omega.{arith}
use native.Mathlib.Decide.{ℕ_discrete, dec_lt}
use Rattle.refusal.specs.Limits.{Between, refusal}
use Rattle.refusal.specs.Orders.{order, delay}
use Rattle.refusal.specs.Ranges.{InRange}
use Rattle.refusal.proofs.Tests.{refused, accepted}
use Rattle.refusal.proofs.Ranges.{in_range, ordered, delayed}
use Rattle.thiran.specs.Coefficients.{coefficients, norm}
use Rattle.allpass.specs.Bounds.{own_figure}
use Rattle.advance.specs.Least.{first, enough, limits, least_advance}
use Rattle.advance.specs.Returns.{Does, Least, Advances, Returns}
use Rattle.advance.specs.Least.{Advance}
use Rattle.advance.proofs.First.{Stands, first-stands, first-is}
use Rattle.advance.proofs.Refusals.{taken, turned}

module _ (N d wanted : ℕ) where
  abbrev n : ℕ
  n = norm (coefficients N d)

  abbrev F : ℕ
  F = first n N wanted

  abbrev number : ℕ
  number = refusal (limits N d wanted)

  abbrev r : Advance
  r = least_advance N d wanted

  number_is : number ≡ r.refusal
  number_is = go (ℕ_discrete number 0)
    where
      go : Dec (number ≡ 0) → number ≡ r.refusal
      go (yes e) = e ∙ sym (ap (λ (s : Advance). s.refusal) (taken N d wanted e))
      go (no f) = sym (ap (λ (s : Advance). s.refusal) (turned N d wanted f))

  -- a statement about the number is one about what is returned
  told : {A : Type 0} (j : ℕ) → (number ≡ j) ↔ A → (r.refusal ≡ j) ↔ A
  told j i = (λ e. i.0 (number_is ∙ e), λ a. sym number_is ∙ i.1 a)

  three : (number ≡ 3) ↔ (Between 1 N 3 × (InRange N d → ⊥))
  three =
      let i = refused (order N ∷ []) (delay N d) (enough F ∷ []) tt in (
        λ e. let k = i.0 e in (k.0, λ j. k.1 (delayed j)),
        λ k. i.1 (k.0, λ b. k.1 (in_range N d k.0 b)),
      )

  none : (number ≡ 32) ↔ (InRange N d × ((a : ℕ) → a ≤ 64 → Does N d wanted a → ⊥))
  none =
      let i = refused (order N ∷ delay N d ∷ []) (enough F) [] tt in
      let s = first-stands n N wanted in (
        λ e. let k = i.0 e in (
          in_range N d k.0 k.1.0,
          λ a h does. go s k.1.1 a h does (dec_lt a F),
        ),
        λ k. i.1 (ordered k.0, (delayed k.0, λ b. k.1 F b.most (s.does (omega (arith, b.most))))),
      )
    where
      go : Stands n N wanted 65 F → (Between 0 F 64 → ⊥) → (a : ℕ) → a ≤ 64 → Does N d wanted a → Dec (a < F) → ⊥
      go s f a h does (yes l) = omega (arith, s.before a l)
      go s f a h does (no l) = f (record { least = omega arith; most = omega arith })

  zeroth : (number ≡ 0) ↔ (InRange N d × (F ≤ 64))
  zeroth =
      let i = accepted (order N) (delay N d ∷ enough F ∷ []) tt in (
        λ e. let k = i.0 e in (in_range N d k.0 k.1.0, k.1.1.most),
        λ k. i.1 (ordered k.0, (delayed k.0, record { least = omega arith; most = k.1 })),
      )

  least : (Na : ℕ) → ((r.refusal ≡ 0) × (r.na ≡ Na)) ↔ (InRange N d × Least N d wanted Na)
  least Na = (
    λ p.
        let e = number_is ∙ p.0 in
        let k = zeroth.0 e in
        let s = first-stands n N wanted in
        let l : Least N d wanted F = record {
          most = k.1;
          does = s.does (omega (arith, k.1));
          before = λ a h does. omega (arith, s.before a h);
        } in
        let i : F ≡ Na = sym (ap (λ (s : Advance). s.na) (taken N d wanted e)) ∙ p.1 in
        (k.0, subst (Least N d wanted) i l),
    λ p.
        let l = p.1 in
        let i : Na ≡ F = first-is n N wanted Na (omega (arith, l.most)) (λ h. l.does)
        (λ a h. over a (l.before a h)) in
        let e = zeroth.1 (p.0, omega (arith, l.most)) in
        (sym number_is ∙ e, ap (λ (s : Advance). s.na) (taken N d wanted e) ∙ sym i),
  )
    where
      over : (a : ℕ) → (Does N d wanted a → ⊥) → wanted < own_figure n (a / N)
      over a f = go (dec_lt wanted (own_figure n (a / N)))
        where
          go : Dec (wanted < own_figure n (a / N)) → wanted < own_figure n (a / N)
          go (yes h) = h
          go (no h) = absurd (f (omega arith))

  refused-is : (r.refusal ≡ 0 → ⊥) → r.na ≡ 0
  refused-is f = ap (λ (s : Advance). s.na) (turned N d wanted (λ z. f (sym number_is ∙ z)))

  advances : Advances N d wanted r
  advances = record {
    order = told 1 (refused [] (order N) (delay N d ∷ enough F ∷ []) tt);
    delay = told 3 three;
    none = told 32 none;
    least = least;
    refused = refused-is;
  }

pub returns : Returns
returns = record { advances = advances }
