-- The chain of literal structs: each call's contract by computation, the rest by crate list's theorem.
use mathlib.Core.Path.{◌≡◌, refl, sym, ap, ◌∙◌}
use mathlib.Core.List.{List, [], ◌∷◌, ◌++◌}
use Prim.Native.Nat.{ℕ, ◌≤◌, ◌<◌}
use native.Mathlib.Omega.{arith}
use lib.IntN.{ℤ, pos, negsuc}
use lib.ListN.{replicate}
use Rattle.integer.specs.Rounding.{floor, nearest, clip}
use Rattle.integer.specs.Cut.{cut, R, Q}
use Rattle.thiran.specs.Formula.{factor, a}
use Rattle.thiran.specs.Coefficients.{coefficient, coefficients}
use Rattle.allpass.specs.Allpass.{inner, next, out}
use Rattle.line.proofs.Ring.{ring-silent}
use Rattle.rule.specs.Voice.{noise, spent, output, written, settled, stepped}
use Rattle.rule.specs.Calls.{Call, block, loss, instant, number, count, opened, done}
use Rattle.rule.specs.History as History
use Rattle.rule.specs.History.{read, new}
use Rattle.rule.specs.State.{State, step, sounds, call, put, silence}
use Rattle.rule.specs.Click.{instantly}
use Rattle.rule.proofs.Ruling.{none-block}
use Rattle.voice.specs.declared.Head.{Head}
use Rattle.voice.specs.Called.{Answer}
use Rattle.voice.specs.Struct.{voice_of, state_of}
use Rattle.voice.specs.Valid.{Fit, Valid}
use Rattle.voice.specs.Called.{Called, On, lent}
use Rattle.std.specs.Prelude.{Ok}
use Rattle.open.specs.Opened.{Opens}
use Rattle.list.specs.Makes.{Makes}
use Rattle.list.specs.Chain as Chain
use Rattle.list.proofs.Chain.{chained}
use Rattle.instances.specs.Chain as C
use Rattle.instances.specs.Chain.{o, t, pre, mid, post, cs, head, end, line, Chaining}
use Rattle.instances.proofs.Links.{zeros, h₀, hₐ, h₁, h₂, h₃, lₐ, l₁, rₐ, r₁, r₄, ringₐ, ring₁, ring₄, at}
use Rattle.instances.proofs.Links.{low-fit, high-fit, fits, in₀, inₐ, in₁, in₄}

abbrev first : Call
first = block (pos 1000000 ∷ negsuc 499999 ∷ []) 2

abbrev last : Call
last = block (pos 0 ∷ []) 1

abbrev pub lends : ℕ → List ℤ
lends n = replicate n (pos 77)

-- on a line with the newest first
abbrev on_line : Head → List ℤ → State
on_line h k = record { voice = voice_of h; line = k }

first-is : call (on_line h₀ (zeros 2112)) first ≡ on_line hₐ rₐ
unfolding
    floor nearest cut R Q clip factor a coefficient coefficients inner next out noise spent output written settled
    stepped number done step call
first-is = refl

second_is : call (on_line hₐ rₐ) last ≡ on_line h₁ r₁
unfolding
    floor nearest cut R Q clip factor a coefficient coefficients inner next out noise spent output written settled
    stepped number done step call
second_is = refl

instant-is : call (on_line h₂ r₁) (instant t) ≡ on_line h₃ r₁
unfolding
    floor nearest cut R Q clip factor a coefficient coefficients inner next out noise spent output written settled
    stepped number done step call
instant-is = refl

last-is : call (on_line h₃ r₁) last ≡ on_line end r₄
unfolding
    floor nearest cut R Q clip factor a coefficient coefficients inner next out noise spent output written settled
    stepped number done step call
last-is = refl

pub first_on : On h₀ (zeros 2112) first (record { refusal = 0; head = hₐ }) lₐ
unfolding number
first_on = record {
  number = refl;
  state = at hₐ lₐ ringₐ ∙ sym first-is ∙ ap (λ (v : State). call v first) (sym (at h₀ (zeros 2112) ring-silent));
  valid = record { fit = fits (low-fit _ (omega arith)) (omega arith) (omega arith) (omega arith); line = inₐ };
}

pub second-on : On hₐ lₐ last (record { refusal = 0; head = h₁ }) l₁
unfolding number
second-on = record {
  number = refl;
  state = at h₁ l₁ ring₁ ∙ sym second_is ∙ ap (λ (v : State). call v last) (sym (at hₐ lₐ ringₐ));
  valid = record { fit = fits (low-fit _ (omega arith)) (omega arith) (omega arith) (omega arith); line = in₁ };
}

pub loss-called : Called h₁ (loss 60000) (record { refusal = 0; head = h₂ })
unfolding number call done
loss-called = record {
  number = refl;
  state = λ l. refl;
  fit = fits (low-fit _ (omega arith)) (omega arith) (omega arith) (omega arith);
  place = refl;
}

pub loss-uncounted : Chain.Uncounted (loss 60000)
unfolding count
loss-uncounted v r = refl

pub instant-made : Makes h₂ l₁ (instant t) (Ok (record { head = h₃; count = 1 }))
unfolding number count
instant-made = record {
  made = record {
    number = refl;
    state = at h₃ l₁ ring₁ ∙ sym instant-is ∙ ap (λ (v : State). call v (instant t)) (sym (at h₂ l₁ ring₁));
    valid = record { fit = fits (high-fit _ (omega arith)) (omega arith) (omega arith) (omega arith); line = in₁ };
  };
  count = refl;
}

pub last_on : On h₃ l₁ last (record { refusal = 0; head = end }) line
unfolding number
last_on = record {
  number = refl;
  state = at end line ring₄ ∙ sym last-is ∙ ap (λ (v : State). call v last) (sym (at h₃ l₁ ring₁));
  valid = record { fit = fits (high-fit _ (omega arith)) (omega arith) (omega arith) (omega arith); line = in₄ };
}

-- what the blocks leave in the lent output
pub first_out : pos 0 ∷ pos 0 ∷ [] ≡ lent h₀ (zeros 2112) first (lends 2)
unfolding
    floor nearest cut R Q clip factor a coefficient coefficients inner next out noise spent output written settled
    stepped number done step sounds put
first_out = ap (λ (v : State). put v first) (sym (at h₀ (zeros 2112) ring-silent))

pub second-out : pos 1000000 ∷ [] ≡ lent hₐ lₐ last (lends 1)
unfolding
    floor nearest cut R Q clip factor a coefficient coefficients inner next out noise spent output written settled
    stepped number done step sounds put
second-out = ap (λ (v : State). put v last) (sym (at hₐ lₐ ringₐ))

pub last_out : negsuc 277962 ∷ [] ≡ lent h₃ l₁ last (lends 1)
unfolding
    floor nearest cut R Q clip factor a coefficient coefficients inner next out noise spent output written settled
    stepped number done step sounds put
last_out = ap (λ (v : State). put v last) (sym (at h₃ l₁ ring₁))

pub opens : Opens o C.opened
unfolding number opened silence
opens = record {
  number = refl;
  state = at h₀ (zeros 2112) ring-silent;
  valid = record { fit = fits (low-fit _ (omega arith)) (omega arith) (omega arith) (omega arith); line = in₀ };
}

chain : Chain.Chain h₀ (zeros 2112) cs C.codes C.runs C.samples end line
chain =
    Chain.rendered (pos 1000000 ∷ negsuc 499999 ∷ []) (lends 2) first_on first_out
    (Chain.rendered (pos 0 ∷ []) (lends 1) second-on second-out
    (Chain.called refl loss-uncounted loss-called
    (Chain.changed instant-made.made instant-made.count (Chain.rendered (pos 0 ∷ []) (lends 1) last_on last_out Chain.none))))

pub chaining : Chaining
unfolding
    floor nearest cut R Q clip factor a coefficient coefficients inner next out noise spent output written settled
    stepped number opened done read History.step History.call new
chaining =
    let k = chained o C.opened opens chain in
    record {
      opens = opens;
      chain = chain;
      chained = k;
      figure =
          k.click (pre ++ mid) post (instant t) t 1 3 3 refl (instantly refl)
          (none-block 3 _ _ _, tt) (omega arith) (omega arith);
      new_filter = refl;
    }
