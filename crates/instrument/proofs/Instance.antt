-- The instance of the mix's figures, with every hypothesis met: `Instance`.
use mathlib.Core.Path.{◌≡◌, refl}
use mathlib.Core.List.{List, [], ◌∷◌}
use Prim.Native.Nat.{ℕ, zero, suc, ◌<◌}
use native.Mathlib.Omega.{arith}
use lib.IntN.{pos}
use Rattle.integer.specs.Rounding.{clip, floor, nearest}
use Rattle.integer.specs.Cut.{cut, R, Q}
use Rattle.thiran.specs.Formula.{a, factor}
use Rattle.thiran.specs.Coefficients.{coefficient, coefficients}
use Rattle.allpass.specs.Allpass.{inner, next, out}
use Rattle.rule.specs.Voice.{noise, spent, output, written, settled, stepped}
use Rattle.rule.specs.Calls as C
use Rattle.rule.specs.Calls.{block, instant}
use Rattle.rule.specs.History as H
use Rattle.rule.specs.History.{read}
use Rattle.rule.specs.Click.{figure, instantly}
use Rattle.rule.proofs.Ruling.{none-block}
use Rattle.instrument.specs.Strings.{number}
use Rattle.instrument.specs.Mix.{Retuned, Zeros, Member, apart, retunes, zeros}
use Rattle.instrument.specs.Instance.{o₁, o₂, o₃, t₁, t₂, t₃, x₁, x₂, x₃, zs, xs, ps, cs₀, cs₁, cs₂}
use Rattle.instrument.specs.Instance.{cs₄, line, Instance}
use Rattle.instrument.proofs.InstanceShares.{share₀, share₁, share₂, share₃, share₄, resumed-state}
use Rattle.instrument.proofs.Mix.{mix-figure}

-- ---- the changes in force
string₀ : Retuned ps xs 2 1 0
unfolding H.call H.step C.number C.opened C.done stepped settled
string₀ = record {
  o = o₁;
  cs = cs₀;
  share = share₀;
  pre = block x₁ 1 ∷ block x₂ 2 ∷ block x₃ 1 ∷ block zs 70 ∷ [];
  c = instant t₁;
  post = block xs 2 ∷ [];
  rule = record {
    t = t₁;
    a = 64;
    e = 74;
    split = refl;
    change = instantly refl;
    since = omega arith;
    until = (none-block 75 _ _ _, tt);
  };
}

string₁ : Retuned ps xs 2 1 1
unfolding H.call H.step C.number C.opened C.done stepped settled
string₁ = record {
  o = o₂;
  cs = cs₁;
  share = share₁;
  pre = block x₂ 2 ∷ block x₃ 1 ∷ block zs 70 ∷ [];
  c = instant t₂;
  post = block xs 2 ∷ [];
  rule = record {
    t = t₂;
    a = 64;
    e = 73;
    split = refl;
    change = instantly refl;
    since = omega arith;
    until = (none-block 74 _ _ _, tt);
  };
}

string₂ : Retuned ps xs 2 1 2
unfolding H.call H.step C.number C.opened C.done stepped settled
string₂ = record {
  o = o₃;
  cs = cs₂;
  share = share₂;
  pre = block x₃ 1 ∷ block zs 70 ∷ [];
  c = instant t₃;
  post = block xs 2 ∷ [];
  rule = record {
    t = t₃;
    a = 64;
    e = 71;
    split = refl;
    change = instantly refl;
    since = omega arith;
    until = (none-block 72 _ _ _, tt);
  };
}

-- the same change at the same step as in string 0
string₃ : Retuned ps xs 2 1 3
unfolding string₀
string₃ = record {
  o = o₁;
  cs = cs₀;
  share = share₃;
  pre = string₀.pre;
  c = instant t₁;
  post = string₀.post;
  rule = string₀.rule;
}

string₄ : Retuned ps xs 2 1 4
unfolding H.call H.step C.number C.opened C.done stepped settled
string₄ = record {
  o = o₁;
  cs = cs₄;
  share = share₄;
  pre = block zs 70 ∷ [];
  c = instant t₁;
  post = block xs 2 ∷ [];
  rule = record {
    t = t₁;
    a = 64;
    e = 70;
    split = refl;
    change = instantly refl;
    since = omega arith;
    until = (none-block 71 _ _ _, tt);
  };
}

-- what the new filter of string 4 read before its second copy began
quiet : (j : ℕ) → j < 6 → read (line o₁ cs₄) j 3 ≡ pos 0
unfolding read H.call H.step C.number C.opened C.done stepped settled output written Q noise spent
    coefficients coefficient a factor nearest floor cut R clip inner next out
quiet zero l = refl
quiet (suc zero) l = refl
quiet (suc (suc zero)) l = refl
quiet (suc (suc (suc zero))) l = refl
quiet (suc (suc (suc (suc zero)))) l = refl
quiet (suc (suc (suc (suc (suc zero))))) l = refl
quiet (suc (suc (suc (suc (suc (suc j)))))) l = absurd (omega arith)

zeros₄ : Zeros string₄
unfolding string₄
zeros₄ = quiet

K : (k : ℕ) → Member ps xs 2 1 k
K zero = retunes string₀
K (suc zero) = retunes string₁
K (suc (suc zero)) = retunes string₂
K (suc (suc (suc zero))) = retunes string₃
K (suc (suc (suc (suc zero)))) = zeros string₄ zeros₄
K (suc (suc (suc (suc (suc k))))) = apart

pub instance : Instance
unfolding K string₀ string₁ string₂ string₃ string₄ number figure H.call H.step C.number C.opened C.done
    stepped settled
instance =
    record { resumed = resumed-state; accepted = refl; near = mix-figure ps xs 2 1 K (omega arith) refl }
