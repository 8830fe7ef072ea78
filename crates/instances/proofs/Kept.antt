-- The instances of the kept voice: its calls by the contracts of proofs/Chain.antt, the rest by crate kept's theorems.
use mathlib.Core.Path.{◌≡◌, refl, sym, ◌∙◌}
use mathlib.Core.List.{List, [], ◌∷◌, ◌++◌}
use Prim.Native.Nat.{ℕ, ◌<◌}
use native.Mathlib.Omega.{arith}
use lib.IntN.{ℤ, pos, negsuc}
use Rattle.integer.specs.Rounding.{floor, nearest, clip}
use Rattle.integer.specs.Cut.{cut, R, Q}
use Rattle.thiran.specs.Formula.{factor, a}
use Rattle.thiran.specs.Coefficients.{coefficient, coefficients}
use Rattle.allpass.specs.Allpass.{inner, next, out}
use Rattle.rule.specs.Voice.{Waiting, asked, noise, spent, output, written, settled, stepped}
use Rattle.rule.specs.Calls.{Call, block, loss, instant, number, count, opened, done}
use Rattle.rule.specs.History as History
use Rattle.rule.specs.History.{read}
use Rattle.rule.specs.State.{step, call, silence, fresh}
use Rattle.rule.specs.Click.{instantly}
use Rattle.rule.proofs.Ruling.{none-block}
use Rattle.voice.specs.Valid.{Fit}
use Rattle.packed.specs.Words.{head_of}
use Rattle.kept.specs.Since as Since
use Rattle.kept.specs.Since.{Since}
use Rattle.kept.proofs.Since.{lists}
use Rattle.kept.proofs.Awaited.{awaits}
use Rattle.instances.specs.Chain.{o, t, pre, mid, post, cs, codes, runs, samples, line}
use Rattle.instances.specs.Kept.{words, left, Hosting, start, later, two, five, announcing, Awaiting}
use Rattle.instances.proofs.Links.{zeros, lₐ, l₁, low-fit, high-fit}
use Rattle.instances.proofs.Chain.{lends, first_on, first_out, second-on, second-out, loss-uncounted}
use Rattle.instances.proofs.Chain.{loss-called, instant-made, last_on, last_out, opens}

-- ---- the calls, one after the other
since₀ : Since o [] [] [] [] (words 4096 2147483648 2147483648 65535 2147483648 0) (zeros 2112)
unfolding head_of
since₀ = Since.opened {n = 0} opens

since₁ : Since o pre (0 ∷ []) (0 ∷ []) (pos 0 ∷ pos 0 ∷ []) (words 4096 2147483648 2148483648 65535 2147483648 2) lₐ
unfolding head_of
since₁ = Since.rendered since₀ (pos 1000000 ∷ negsuc 499999 ∷ []) (lends 2) first_on first_out

since₂ :
    Since o (pre ++ block (pos 0 ∷ []) 1 ∷ []) (0 ∷ 0 ∷ []) (0 ∷ 0 ∷ []) (pos 0 ∷ pos 0 ∷ pos 1000000 ∷ [])
    (words 4096 2147483648 2146983648 65535 2148483648 3) l₁
unfolding head_of
since₂ = Since.rendered since₁ (pos 0 ∷ []) (lends 1) second-on second-out

since₃ :
    Since o (pre ++ mid) (0 ∷ 0 ∷ 0 ∷ []) (0 ∷ 0 ∷ 0 ∷ []) (pos 0 ∷ pos 0 ∷ pos 1000000 ∷ [])
    (words 4096 2147483648 2146983648 60000 2148483648 3) l₁
unfolding head_of
since₃ = Since.called since₂ refl loss-uncounted loss-called

since₄ :
    Since o (pre ++ (mid ++ instant t ∷ [])) (0 ∷ 0 ∷ 0 ∷ 0 ∷ []) (0 ∷ 0 ∷ 0 ∷ 1 ∷ []) (pos 0 ∷ pos 0 ∷ pos 1000000 ∷ [])
    (words 2049 2147505479 2146983648 60000 2148483648 3) l₁
unfolding head_of
since₄ = Since.changed since₃ instant-made.made instant-made.count

since : Since o cs codes runs samples left line
unfolding head_of
since = Since.rendered since₄ (pos 0 ∷ []) (lends 1) last_on last_out

pub hosting : Hosting
unfolding
    floor nearest cut R Q clip factor a coefficient coefficients inner next out noise spent output written settled
    stepped number opened done read History.step History.call
hosting =
    let k = lists.chained since in
    record {
      since = since;
      returned = k.codes;
      counted = k.runs;
      heard = k.samples;
      state = k.state;
      valid = k.valid;
      figure =
          k.click (pre ++ mid) post (instant t) t 1 3 3 refl (instantly refl) (none-block 3 _ _ _, tt) (omega arith)
          (omega arith);
      own_figure_lem =
          k.own_click (pre ++ mid) post (instant t) t 1 3 3 refl (instantly refl) (none-block 3 _ _ _, tt)
          (omega arith) (omega arith);
    }

-- ---- how long changes wait
fit : Fit announcing
fit = record {
  filter = low-fit (pos 0) (omega arith);
  loss = omega arith;
  advance = omega arith;
  last = omega arith;
  waiting = record {
    tuned = high-fit (pos 666549) (omega arith);
    counted = omega arith;
    early = λ e. omega arith;
  };
  pluck = record {
    amplitude = omega arith;
    left = omega arith;
    noise = omega arith;
    none_left = λ e. (refl, refl);
  };
  at = omega arith;
}

pub awaiting : Awaiting
unfolding
    floor nearest cut R Q clip factor a coefficient coefficients inner next out noise spent output written settled
    stepped number opened done step call silence
awaiting =
    let one = awaits.sample start two in
    let none = awaits.sample start five in
    record {
      at_first = refl;
      one = one;
      none = none;
      early = λ z. let e = (awaits.ask (later two).voice _ refl refl).0 z in omega (arith, one, e);
      accepted = (awaits.ask (later five).voice _ refl refl).1 none;
      fit = fit;
      announced = awaits.announce announcing fit _ refl refl;
      lacks = refl;
    }
