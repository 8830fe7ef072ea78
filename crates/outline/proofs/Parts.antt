-- The change of a record, in the code's structs.
use Rattle.std.specs.Prelude.{Result, Ok, Err}
use mathlib.Core.Path.{◌≡◌, refl, sym, ap, subst, ◌∙◌}
use mathlib.Core.Bool.{Bool, true, false, cond}
use Prim.Native.Nat.{ℕ, zero, suc, ◌+◌}
use borrow.Author.Tests.{eq-eqb, ne_eqb}
use lib.Dec.{eqb}
use mathlib.Core.List.{List}
use mathlib.Core.Option.{some}
use Rattle.refusal.specs.declared.Refusal.{Refusal}
use Rattle.refusal.specs.Numbers.{number_of}
use Rattle.refusal.specs.Limits.{refusal}
use Rattle.refusal.proofs.Numbers.{refused-above}
use Rattle.rule.specs.Voice.{Tuning, tuning}
use Rattle.rule.specs.Calls.{announce, instant}
use Rattle.follow.specs.Follow.{stands}
use Rattle.outline.specs.declared.Course.{Course}
use Rattle.outline.specs.declared.Span.{Span}
use Rattle.outline.specs.Outline.{Outline, in_force, change_tests, told, from, result, length_to, delay_to}
use Rattle.outline.specs.Outline.{change_calls, loss_calls, pluck_calls, act_calls}
use Rattle.outline.specs.Struct.{ahead_of, outline_of, Asks, after_change, Comes, Changes, Acts}
use Rattle.outline.proofs.Calls.{no_change, change-result, change-from, act_loss, act_change, act_pluck, act_from}

module _ (Na : ℕ) (o : Outline) (L d i : ℕ) where
  pub without-advance : Na ≡ 0 → in_force L d ≡ after_change Na o L d i
  without-advance e = rw (eq-eqb 0 Na (sym e)) (go (eqb i 0))
    where
      go : (b : Bool) → in_force L d ≡ cond b (in_force L d) (in_force L d)
      go true = refl
      go false = refl

  pub at_once : (i ≡ 0 → ⊥) → in_force L d ≡ after_change Na o L d i
  at_once f = rw (ne_eqb i 0 f) refl

  pub ahead : (Na ≡ 0 → ⊥) → i ≡ 0 → record { L = o.L; d = o.d; ahead = ahead_of L d Na } ≡ after_change Na o L d i
  ahead f e = rw (eq-eqb i 0 e, ne_eqb 0 Na (λ z. f (sym z))) (go Na f)
    where
      go : (n : ℕ) → (n ≡ 0 → ⊥)
          → ◌≡◌ {A = Outline} (record { L = o.L; d = o.d; ahead = ahead_of L d n })
          (record { L = o.L; d = o.d; ahead = some (record { L = L; d = d; left = n }) })
      go zero f = absurd (f refl)
      go (suc n) f = refl

changing-told : (b : Bool) (Na : ℕ) (o : Outline) (to : Tuning)
    → told Na o (cond b (announce to) (instant to))
    ≡ cond b (told Na o (announce to)) (told Na o (instant to))
changing-told true Na o to = refl
changing-told false Na o to = refl

module _ (N Na : ℕ) (r : List ℕ) (o : Outline) (x : Span) (a : Asks o r x) where
  to_is : tuning N x.length x.delay ≡ tuning N (length_to r o) (delay_to r o)
  to_is = rw (a.length_is, a.delay_is) refl

  pub kept : (c : Course) → o ≡ outline_of c → stands r 1 + stands r 2 ≡ 0 → Changes N Na o r (Ok c)
  kept c h e = (
    sym (ap (λ cs. result Na o cs) (no_change N Na r o e)),
    sym h ∙ sym (ap (λ cs. from Na o cs) (no_change N Na r o e)),
  )

  module _ (f : stands r 1 + stands r 2 ≡ 0 → ⊥) {n : ℕ}
      (i : n ≡ refusal (change_tests o (tuning N x.length x.delay))) where
    number_is : n ≡ refusal (change_tests o (tuning N (length_to r o) (delay_to r o)))
    number_is = i ∙ ap (λ (to : Tuning). refusal (change_tests o to)) to_is

    pub refused : n ≡ result Na o (change_calls N r o)
    refused = number_is ∙ sym (change-result N Na r o f)

    pub accepted : (c : Course) → 0 ≡ n → outline_of c ≡ after_change Na o x.length x.delay (stands r 7)
        → Changes N Na o r (Ok c)
    accepted c g h = (
      g ∙ refused,
      h
          ∙ ap (λ (to : Tuning). after_change Na o to.L to.d (stands r 7)) to_is
          ∙ sym (changing-told (eqb (stands r 7) 0) Na o (tuning N (length_to r o) (delay_to r o)))
          ∙ sym (change-from N Na r o f (sym (g ∙ number_is))),
    )

-- ---- with the loss before it and the pluck behind it
module _ (N Na : ℕ) (r : List ℕ) (o : Outline) where
  pub stops-loss : (k : Refusal) → number_of k ≡ result Na o (loss_calls r o) → Acts N Na o r (Err k)
  stops-loss k i = i ∙ sym (act_loss N Na r o (λ z. refused-above k (i ∙ z)))

  module _ (e : 0 ≡ result Na o (loss_calls r o)) where
    pub stops-change : (k : Refusal) → Changes N Na o r (Err k) → Acts N Na o r (Err k)
    stops-change k h = h ∙ sym (act_change N Na r o (sym e) (λ z. refused-above k (h ∙ z)))

    module _ (c : Course) (h : Changes N Na o r (Ok c)) where
      plucks : {n : ℕ} → ((u : Outline) → n ≡ result Na u (pluck_calls r u)) → n ≡ result Na o (act_calls N Na r o)
      plucks i = i (from Na o (change_calls N r o)) ∙ sym (act_pluck N Na r o (sym e) (sym h.0))

      pub stops-pluck : (k : Refusal) → ((u : Outline) → number_of k ≡ result Na u (pluck_calls r u))
          → Acts N Na o r (Err k)
      stops-pluck k i = plucks i

      pub reaches_pluck : ((u : Outline) → 0 ≡ result Na u (pluck_calls r u)) → Acts N Na o r (Ok c)
      reaches_pluck i = (plucks i, h.1 ∙ sym (act_from N Na r o (sym e) (sym h.0)))

-- ---- the same by another number and outline
pub comes_as : {n m : ℕ} {w v : Outline} (x : Result Course Refusal) → n ≡ m → w ≡ v → Comes n w x → Comes m v x
comes_as {n} {m} {w} {v} x e i h =
    subst (λ (u : Outline). Comes m u x) i (subst (λ (k : ℕ). Comes k w x) e h)
