-- Flags that are true or not, and two lists of bytes told to be the same.
-- Assumes nothing.
use mathlib.Core.Path.{◌≡◌, refl, sym, subst, ◌∙◌}
use mathlib.Core.Bool.{Bool, true, false, ◌&&◌}
use mathlib.Core.List.{List, [], ◌∷◌}
use Prim.Native.Nat.{ℕ}
use lib.Dec.{T, eqb}
use borrow.Author.Tests.{eqb-true, eq-eqb}
use Rattle.wav.specs.Recorded.{same}

pub clash : {b : Bool} → b ≡ false → b ≡ true → ⊥
clash e f = subst T (sym f ∙ e) tt

pub not_so : (b : Bool) → (b ≡ true → ⊥) → false ≡ b
not_so true f = absurd (f refl)
not_so false f = refl

pub alike : (a b : Bool) → (a ≡ true → b ≡ true) → (b ≡ true → a ≡ true) → a ≡ b
alike true b f g = sym (f refl)
alike false b f g = not_so b (λ e. clash refl (g e))

pub both : {a b : Bool} → (a && b) ≡ true → (a ≡ true) × (b ≡ true)
both {a = true} {b} e = (refl, e)
both {a = false} {b} e = absurd (subst T (sym e) tt)

pub joined : {a b : Bool} → a ≡ true → b ≡ true → (a && b) ≡ true
joined {a} {b} e f = rw (e, f)

pub same-is : (s t : List ℕ) → same s t ≡ true → s ≡ t
same-is [] [] e = refl
same-is [] (b ∷ t) e = absurd (subst T (sym e) tt)
same-is (a ∷ s) [] e = absurd (subst T (sym e) tt)
same-is (a ∷ s) (b ∷ t) e =
    let p = both {a = eqb a b} {b = same s t} e in
    rw (eqb-true a b p.0, same-is s t p.1)

pub is_same : (s : List ℕ) → same s s ≡ true
is_same [] = refl
is_same (a ∷ s) = joined {a = eqb a a} {b = same s s} (eq-eqb a a refl) (is_same s)
