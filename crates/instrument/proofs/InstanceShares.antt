-- The shares of strings 0 to 4 in the instance of the mix's figures.
use mathlib.Core.Path.{◌≡◌, refl}
use mathlib.Core.List.{List, [], ◌∷◌}
use Prim.Native.Nat.{ℕ}
use native.Mathlib.Omega.{arith}
use Rattle.rule.specs.Calls.{block, instant}
use Rattle.rule.specs.State.{fresh, from}
use Rattle.form.specs.Parts.{stored}
use Rattle.instrument.specs.Strings.{opens, calls, load, on, mix}
use Rattle.instrument.specs.Share.{Share, opening, calling, mixing, other, resuming}
use Rattle.instrument.specs.Instance.{o₁, o₂, o₃, t₁, t₂, t₃, x₁, x₂, x₃, zs, ps, cs₀, cs₁, cs₂, cs₄}
use Rattle.instrument.specs.Instance.{strings}
use Rattle.instrument.proofs.Share.{held}

abbrev bytes : List ℕ
bytes = stored (from (fresh o₁) (block x₁ 1 ∷ []))

pub share₀ : Share 0 ps o₁ cs₀
share₀ =
    other 4 (calls (instant t₁)) (λ e. omega arith)
    (other 3 (calls (instant t₁)) (λ e. omega arith)
    (other 2 (calls (instant t₃)) (λ e. omega arith)
    (other 1 (calls (instant t₂)) (λ e. omega arith)
    (calling (instant t₁)
    (mixing zs 70
    (other 4 (opens o₁) (λ e. omega arith)
    (mixing x₃ 1
    (other 2 (opens o₃) (λ e. omega arith)
    (mixing x₂ 2
    (other 1 (opens o₂) (λ e. omega arith)
    (other 3 (load bytes) (λ e. omega arith)
    (mixing x₁ 1
    (opening [])))))))))))))

pub share₁ : Share 1 ps o₂ cs₁
share₁ =
    other 4 (calls (instant t₁)) (λ e. omega arith)
    (other 3 (calls (instant t₁)) (λ e. omega arith)
    (other 2 (calls (instant t₃)) (λ e. omega arith)
    (calling (instant t₂)
    (other 0 (calls (instant t₁)) (λ e. omega arith)
    (mixing zs 70
    (other 4 (opens o₁) (λ e. omega arith)
    (mixing x₃ 1
    (other 2 (opens o₃) (λ e. omega arith)
    (mixing x₂ 2
    (opening (on 0 (opens o₁) ∷ mix x₁ 1 ∷ on 3 (load bytes) ∷ [])))))))))))

pub share₂ : Share 2 ps o₃ cs₂
share₂ =
    other 4 (calls (instant t₁)) (λ e. omega arith)
    (other 3 (calls (instant t₁)) (λ e. omega arith)
    (calling (instant t₃)
    (other 1 (calls (instant t₂)) (λ e. omega arith)
    (other 0 (calls (instant t₁)) (λ e. omega arith)
    (mixing zs 70
    (other 4 (opens o₁) (λ e. omega arith)
    (mixing x₃ 1
    (opening (on 0 (opens o₁) ∷ mix x₁ 1 ∷ on 3 (load bytes) ∷ on 1 (opens o₂) ∷ mix x₂ 2 ∷ [])))))))))

pub share₃ : Share 3 ps o₁ cs₀
share₃ =
    other 4 (calls (instant t₁)) (λ e. omega arith)
    (calling (instant t₁)
    (other 2 (calls (instant t₃)) (λ e. omega arith)
    (other 1 (calls (instant t₂)) (λ e. omega arith)
    (other 0 (calls (instant t₁)) (λ e. omega arith)
    (mixing zs 70
    (other 4 (opens o₁) (λ e. omega arith)
    (mixing x₃ 1
    (other 2 (opens o₃) (λ e. omega arith)
    (mixing x₂ 2
    (other 1 (opens o₂) (λ e. omega arith)
    (resuming (on 0 (opens o₁) ∷ mix x₁ 1 ∷ []) o₁ (block x₁ 1 ∷ []) bytes (tt, tt) refl)))))))))))

pub share₄ : Share 4 ps o₁ cs₄
share₄ =
    calling (instant t₁)
    (other 3 (calls (instant t₁)) (λ e. omega arith)
    (other 2 (calls (instant t₃)) (λ e. omega arith)
    (other 1 (calls (instant t₂)) (λ e. omega arith)
    (other 0 (calls (instant t₁)) (λ e. omega arith)
    (mixing zs 70
    (opening
    (on 0 (opens o₁) ∷ mix x₁ 1 ∷ on 3 (load bytes) ∷ on 1 (opens o₂) ∷ mix x₂ 2
    ∷ on 2 (opens o₃) ∷ mix x₃ 1 ∷ [])))))))

-- string 3 has the history of string 0
pub resumed-state : strings 3 ≡ from (fresh o₁) cs₀
resumed-state = held 3 (omega arith) share₃
