-- A fact that every step keeps, and every accepted call but for its steps, holds after any call and any list.
-- Assumes nothing.
use mathlib.Core.Path.{◌≡◌, refl, ap, ◌∙◌}
use mathlib.Core.Bool.{Bool, true, false, cond}
use mathlib.Core.List.{List, [], ◌∷◌, ◌++◌}
use lib.Dec.{eqb}
use lib.IntN.{ℤ}
use borrow.Author.Tests.{eqb-true, eq-eqb}
use Rattle.rule.specs.Calls.{Call, Opening, number, inputs}
use Rattle.rule.specs.History.{History, step, through, told, call, from, fresh, after}

module _ (P : History → Type 0) (stepping : (h : History) (x : ℤ) → P h → P (step h x)) where
  pub through_keeps : (xs : List ℤ) (h : History) → P h → P (through h xs)
  through_keeps [] h p = p
  through_keeps (x ∷ xs) h p = through_keeps xs (step h x) (stepping h x p)

  pub call_keeps : (h : History) (c : Call) → (number h.voice c ≡ 0 → P (told h c)) → P h → P (call h c)
  unfolding call
  call_keeps h c f p = go (eqb (number h.voice c) 0) refl
    where
      go : (b : Bool) → eqb (number h.voice c) 0 ≡ b → P (cond b (through (told h c) (inputs c)) h)
      go true e = through_keeps (inputs c) (told h c) (f (eqb-true (number h.voice c) 0 e))
      go false e = p

  pub from_keeps : ((h : History) (c : Call) → number h.voice c ≡ 0 → P h → P (told h c))
      → (cs : List Call) (h : History) → P h → P (from h cs)
  from_keeps f [] h p = p
  from_keeps f (c ∷ cs) h p = from_keeps f cs (call h c) (call_keeps h c (λ e. f h c e p) p)

pub from-append : (p q : List Call) (h : History) → from h (p ++ q) ≡ from (from h p) q
from-append [] q h = refl
from-append (c ∷ p) q h = from-append p q (call h c)

pub after-split : (o : Opening) {cs : List Call} (pre post : List Call) (c : Call) → cs ≡ pre ++ c ∷ post
    → after o cs ≡ from (call (after o pre) c) post
after-split o pre post c s = ap (λ (x : List Call). after o x) s ∙ from-append pre (c ∷ post) (fresh o)

pub call-accepted : (h : History) (c : Call) → number h.voice c ≡ 0
    → call h c ≡ through (told h c) (inputs c)
unfolding call
call-accepted h c e = rw (eq-eqb (number h.voice c) 0 e)
