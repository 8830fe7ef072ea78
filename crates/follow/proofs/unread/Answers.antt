-- `follow::unread` meets its contract: a record is refused by 14 or by 15, and by no other number.
-- Assumes nothing.
use mathlib.Core.Path.{◌≡◌, refl, sym, ap, ◌∙◌}
use mathlib.Core.Bool.{Bool, true, false, cond}
use mathlib.Core.List.{List}
use Prim.Native.Nat.{ℕ}
use lib.ListN.{get_or}
use Rattle.refusal.specs.Limits.{met}
use Rattle.record.specs.Record.{whole, formed, map_of, record_number, fields}
use Rattle.follow.proofs.unread.Goals as goal

number-is : (s : List ℕ) {r : List ℕ} → r ≡ fields s → get_or r 0 0 ≡ record_number s
unfolding fields
number-is s e = ap (λ (l : List ℕ). get_or l 0 0) e

one_of : (s : List ℕ) → (record_number s ≡ 0 → ⊥) → (◌≡◌ {A = ℕ} (record_number s) 14 → ⊥) → ◌≡◌ {A = ℕ} 15 (record_number s)
unfolding record_number
one_of s = go (met (whole s)) (met (formed (map_of s)))
  where
    go : (a b : Bool) → (◌≡◌ {A = ℕ} (cond a 14 (cond b 15 0)) 0 → ⊥) → (◌≡◌ {A = ℕ} (cond a 14 (cond b 15 0)) 14 → ⊥)
        → ◌≡◌ {A = ℕ} 15 (cond a 14 (cond b 15 0))
    go true b f g = absurd (g refl)
    go false true f g = refl
    go false false f g = absurd (f refl)

pub returns-then-r-eq0 : goal.returns-then-r-eq0
returns-then-r-eq0 c = λ s e. sym c.if-r-eq0.true ∙ number-is s e

pub returns-then-r-number : goal.returns-then-r-number
returns-then-r-number c = λ s e. sym c.number.ensures ∙ sym c.if-r-number.true ∙ number-is s e

pub returns : goal.returns
returns c =
    λ s e. one_of s (λ z. c.if-r-eq0.false (number-is s e ∙ z))
    (λ z. c.if-r-number.false (number-is s e ∙ z ∙ sym c.number.ensures))
