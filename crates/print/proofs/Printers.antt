-- A text put where a printer made room, and what is printed of a list.
use Rattle.std.proofs.Common.{◌≡◌, ℕ, ◌+◌, ◌<◌, List, [], ◌∷◌, ◌++◌, length, get_or, take, refl, subst, ◌∙◌, arith}
use Rattle.std.proofs.lemmas.List.{take_more}
use Rattle.write.specs.Written.{Wrote}
use Rattle.print.specs.declared.Printer.{Printer}
use Rattle.print.specs.Printed.{MadeRoom, Printed, none}
use Rattle.print.specs.Printer.{place, Prints, PrintsEach}
use Rattle.print.proofs.Texts.{another}

pub put : {p q : Printer} {t after : List ℕ} {r : ℕ} (k : ℕ)
    → Prints (λ before at after r. (after ≡ before) × MadeRoom at r) p q → place q.held ≡ k
    → Wrote t q.buffer k after r → Printed t p.buffer (place p.held) after r
put {p} {q} {t} {after} {r} k room at w = record {
  place = k;
  room = subst (λ (n : ℕ). MadeRoom (place p.held) n) at room.does.1;
  wrote = subst (λ (b : List ℕ). Wrote t b k after r) room.does.0 w;
}

module _ {X : Type 0} {One : X → List ℕ → ℕ → List ℕ → ℕ → Type 0} where
  pub each_none : (p : Printer) → PrintsEach One [] p p
  each_none p = record { each = none; some = λ h. absurd (omega arith); within = λ h. h; out = refl }

  pub each_more : {xs : List X} {p q r : Printer} (x : X) → PrintsEach One xs p q → Prints (One x) q r
      → PrintsEach One (xs ++ x ∷ []) p r
  each_more x before last = record {
    each = another x before.each last.does;
    some = λ h. last.within;
    within = λ h. last.within;
    out = last.out ∙ before.out;
  }

  -- the step of a loop that prints each of xs
  pub each_step : {p q r : Printer} (xs : List X) (i : ℕ) (d : X) → i < length xs
      → PrintsEach One (take i xs) p q → Prints (One (get_or xs i d)) q r → PrintsEach One (take (i + 1) xs) p r
  each_step xs i d inside before last = rw (take_more xs i d inside) (each_more (get_or xs i d) before last)
