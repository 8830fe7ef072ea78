-- The line of a voice holds samples alone, wherever its ring begins.
use mathlib.Core.Path.{sym, subst}
use mathlib.Core.Logic.{◌↔◌}
use mathlib.Core.List.{List, [], ◌∷◌, ◌++◌, reverse, reverse-cons, reverse-reverse}
use Prim.Native.Nat.{ℕ, zero, suc, ◌≤◌}
use lib.IntN.{ℤ, pos, nat_abs}
use lib.ListN.{take, drop, get_or, take-append-drop}
use Rattle.integer.specs.Rounding.{M}
use Rattle.samples.specs.Samples.{loudest}
use Rattle.allpass.specs.Bounds.{Within, none, more}
use Rattle.line.specs.Ring.{ring}
use Rattle.rule.proofs.Read.{get_d_within}
use Rattle.rule.proofs.Refusals.{quiet, unquiet}
use Rattle.packed.proofs.Limits.{bounds}
use Rattle.kept.specs.Limits.{Voices}

append-within : {B : ℕ} {v u : List ℤ} → Within B v → Within B u → Within B (v ++ u)
append-within none k = k
append-within (more p h) k = more p (append-within h k)

front_within : {B : ℕ} (v u : List ℤ) → Within B (v ++ u) → Within B v
front_within [] u h = none
front_within (x ∷ v) u (more p h) = more p (front_within v u h)

back-within : {B : ℕ} (v u : List ℤ) → Within B (v ++ u) → Within B u
back-within [] u h = h
back-within (x ∷ v) u (more p h) = back-within v u h

reverse-within : {B : ℕ} {v : List ℤ} → Within B v → Within B (reverse v)
reverse-within none = none
reverse-within {B} (more {x = x} {v = v} p h) =
    subst (λ (q : List ℤ). Within B q) (sym (reverse-cons x v)) (append-within (reverse-within h) (more p none))

unreversed : {B : ℕ} (v : List ℤ) → Within B (reverse v) → Within B v
unreversed {B} v h = subst (λ (q : List ℤ). Within B q) (reverse-reverse v) (reverse-within h)

module _ (at : ℕ) (l : List ℤ) where
  ring-within : Within M l → Within M (ring at l)
  unfolding ring
  ring-within h =
      let w = subst (λ (q : List ℤ). Within M q) (sym (take-append-drop at l)) h in
      append-within (reverse-within (front_within (take at l) (drop at l) w))
      (reverse-within (back-within (take at l) (drop at l) w))

  line-within : Within M (ring at l) → Within M l
  unfolding ring
  line-within h =
      let a = reverse (take at l) in
      let b = reverse (drop at l) in
      subst (λ (q : List ℤ). Within M q) (take-append-drop at l)
      (append-within (unreversed (take at l) (front_within a b h)) (unreversed (drop at l) (back-within a b h)))

  pub line-is : (loudest l ≤ M) ↔ Within M (ring at l)
  line-is = ((λ h. ring-within (quiet l h)), (λ w. unquiet (line-within w)))

each_within : (l : List ℤ) → ((i : ℕ) → nat_abs (get_or l i (pos 0)) ≤ 8388607) → Within M l
each_within [] f = none
each_within (x ∷ l) f = more (f zero) (each_within l (λ i. f (suc i)))

pub voices : Voices
voices h l = (
  (λ p. record { fit = (bounds h).0 p.0; line = ring-within h.at l (each_within l p.1) }),
  (λ v. ((bounds h).1 v.fit, λ i. get_d_within i (line-within h.at l v.line))),
)
