-- A list of calls that is performed call by call: what was put out and returned so far, with what is left,
-- is the whole. Assumes nothing.
use mathlib.Core.Path.{◌≡◌, refl, sym, ap, ◌∙◌}
use mathlib.Core.Bool.{true}
use mathlib.Core.List.{List, [], ◌++◌, append-nil}
use Prim.Native.Nat.{ℕ, ◌-◌, ◌≤◌, ◌<◌}
use native.Mathlib.Omega.{arith}
use native.Mathlib.Nat.{sub-zero}
use lib.IntN.{ℤ}
use lib.ListN.{length, drop}
use Rattle.rule.specs.Calls.{Call}
use Rattle.rule.specs.State.{State, puts, numbers}
use Rattle.list.specs.Words.{calls, formed}
use Rattle.samples.specs.Samples.{over}
use Rattle.list.proofs.Form.{none-left}
use Rattle.list.proofs.Over.{over-long}

-- ws are the words, xs the input, o and p the lent output and numbers, before any call on the voice v.
-- After the calls so far, out and nums are the lent output and numbers, and u is the voice; rest is the words that
-- are left, and used, written and k say how many inputs, outputs and numbers are done.
pub record Running (ws : List ℕ) (xs o : List ℤ) (p : List ℕ) (v : State)
    (out : List ℤ) (nums : List ℕ) (u : State) (rest : List ℕ) (used written k : ℕ) : Type 0 where
  pub outs : List ℤ
  pub codes : List ℕ
  pub used_within : used ≤ length xs
  pub written_is : written ≡ length outs
  pub written-within : written ≤ length o
  pub k-is : k ≡ length codes
  pub k-within : k ≤ length p
  pub form : formed rest (length xs - used) (length o - written) (length p - k) ≡ true
  pub out-is : out ≡ over outs o
  pub nums_is : nums ≡ over codes p
  pub out-all : outs ++ puts u (calls rest (drop used xs)) ≡ puts v (calls ws xs)
  pub nums_all : codes ++ numbers u (calls rest (drop used xs)) ≡ numbers v (calls ws xs)

pub begun : (ws : List ℕ) (xs o : List ℤ) (p : List ℕ) (v : State)
    → formed ws (length xs) (length o) (length p) ≡ true → Running ws xs o p v o p v ws 0 0 0
begun ws xs o p v e = record {
  outs = [];
  codes = [];
  used_within = omega arith;
  written_is = refl;
  written-within = omega arith;
  k-is = refl;
  k-within = omega arith;
  form = simp sub-zero e;
  out-is = refl;
  nums_is = refl;
  out-all = refl;
  nums_all = refl;
}

module _ {ws : List ℕ} {xs o : List ℤ} {p : List ℕ} {v : State}
    {out : List ℤ} {nums : List ℕ} {u : State} {rest : List ℕ} {used written k : ℕ}
    (r : Running ws xs o p v out nums u rest used written k) where
  -- ---- what is as long as it was
  pub out-long : length out ≡ length o
  out-long = over-long r.outs o out r.out-is (omega arith)

  pub nums_long : length nums ≡ length p
  nums_long = over-long r.codes p nums r.nums_is (omega arith)

  -- ---- no call is left
  module _ (h : length rest < 4) where
    none : calls rest (drop used xs) ≡ []
    unfolding calls
    none = rw (none-left rest _ _ _ h r.form)

    outs-all : r.outs ≡ puts v (calls ws xs)
    outs-all =
        sym (append-nil r.outs) ∙ ap (λ (cs : List Call). r.outs ++ puts u cs) (sym none) ∙ r.out-all

    codes_all : r.codes ≡ numbers v (calls ws xs)
    codes_all =
        sym (append-nil r.codes)
        ∙ ap (λ (cs : List Call). r.codes ++ numbers u cs) (sym none)
        ∙ r.nums_all

    pub all-out : out ≡ over (puts v (calls ws xs)) o
    all-out = r.out-is ∙ ap (λ (l : List ℤ). over l o) outs-all

    pub all-written : written ≡ length (puts v (calls ws xs))
    all-written = r.written_is ∙ ap length outs-all

    pub all-numbers : nums ≡ over (numbers v (calls ws xs)) p
    all-numbers = r.nums_is ∙ ap (λ (l : List ℕ). over l p) codes_all
