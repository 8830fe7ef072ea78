-- L3: two voices beside each other, one with an ask and one without: apart by what waits alone, and joined from
-- a withdrawal on. Steps and plain calls keep them so. Assumes nothing.
use mathlib.Core.Path.{◌≡◌, refl, sym, ap, ap₂, subst, ◌∙◌}
use mathlib.Core.Bool.{Bool, true, false, cond}
use mathlib.Core.List.{List, [], ◌∷◌, ◌++◌, append_assoc}
use mathlib.Core.Option.{none, some}
use Prim.Native.Nat.{ℕ}
use borrow.Author.Tests.{eq-eqb, ne_eqb}
use lib.Dec.{eqb}
use lib.IntN.{ℤ}
use Rattle.rule.specs.Voice.{asked, Waiting, Voice, fed, output, written, settled, stepped}
use Rattle.rule.specs.Calls.{Call, block, loss, pluck, prepare, ask, instant, commit, withdraw, Opening}
use Rattle.rule.specs.Calls.{number, start, withdrawn, done, inputs}
use Rattle.rule.specs.State.{State, back, step, sounds, block_after, block_out, told, call, put, fresh, from, puts}
use Rattle.rule.specs.Asked.{Plain, AllPlain, Withdrawn, Withdraws}
use Rattle.rule.proofs.Refusals.{refuses}
use Rattle.rule.proofs.Keeps.{none-some, announced-asked}
use Rattle.rule.proofs.Puts.{put-none}
use Rattle.rule.proofs.Steps.{stepped-idle, stepped-waits}

-- v without what waits
abbrev pub dropped : State → State
dropped v = record { voice = withdrawn v.voice; line = v.line }

pub data Twin (v u : State) : Type 0 where
  apart : (w : Waiting) → v.voice.waiting ≡ some w → w.kind ≡ asked → u ≡ dropped v → Twin v u
  joined : v ≡ u → u.voice.waiting ≡ none → Twin v u

-- ---- a step
stepped-dropped : (v : Voice) (r : ℕ → ℤ) (w : Waiting) → v.waiting ≡ some w → w.kind ≡ asked
    → stepped (withdrawn v) r ≡ withdrawn (stepped v r)
unfolding stepped settled output
stepped-dropped v r w p κ = rw (p, κ)

step-dropped : (v : State) (x : ℤ) (w : Waiting) → v.voice.waiting ≡ some w → w.kind ≡ asked
    → step (dropped v) x ≡ dropped (step v x)
unfolding step written output
step-dropped v x w p κ =
    ap (λ (u : Voice). record { voice = u; line = (step v x).line })
    (stepped-dropped v.voice (back v.line) w p κ)

step-apart : (v : State) (x : ℤ) (w : Waiting) → v.voice.waiting ≡ some w → w.kind ≡ asked
    → (step v x).voice.waiting ≡ some (fed v.voice.Na w (back v.line))
unfolding step
step-apart v x w p κ =
    (stepped-waits v.voice (back v.line) w p (λ i. absurd (announced-asked i κ))).waiting

step-idle : (v : State) (x : ℤ) → v.voice.waiting ≡ none → (step v x).voice.waiting ≡ none
unfolding step
step-idle v x p = (stepped-idle v.voice (back v.line) p).waiting

twin_step : {v u : State} (x : ℤ) → Twin v u → Twin (step v x) (step u x)
twin_step {v} x (apart w p κ e) =
    apart (fed v.voice.Na w (back v.line)) (step-apart v x w p κ) κ
    (ap (λ (u : State). step u x) e ∙ step-dropped v x w p κ)
twin_step {v} {u} x (joined e i) = joined (ap (λ (u : State). step u x) e) (step-idle u x i)

twin_sounds : {v u : State} → Twin v u → sounds v ≡ sounds u
unfolding sounds output
twin_sounds {v} (apart w p κ e) = sym (ap sounds e)
twin_sounds (joined e i) = ap sounds e

twin_block : (xs : List ℤ) {v u : State} → Twin v u → Twin (block_after v xs) (block_after u xs)
twin_block [] t = t
twin_block (x ∷ xs) t = twin_block xs (twin_step x t)

twin_out : (xs : List ℤ) {v u : State} → Twin v u → block_out v xs ≡ block_out u xs
twin_out [] t = refl
twin_out (x ∷ xs) t = ap₂ (λ (y : ℤ) (ys : List ℤ). y ∷ ys) (twin_sounds t) (twin_out xs (twin_step x t))

-- ---- a call
-- a loss and a pluck are told to both alike
twin_loss : {v u : State} (G : ℕ) → Twin v u → Twin (told v (loss G)) (told u (loss G))
unfolding done
twin_loss G (apart w p κ e) = apart w p κ (ap (λ (u : State). told u (loss G)) e)
twin_loss G (joined e i) = joined (ap (λ (u : State). told u (loss G)) e) i

twin_pluck : {v u : State} (a n z : ℕ) → Twin v u → Twin (told v (pluck a n z)) (told u (pluck a n z))
unfolding done
twin_pluck a n z (apart w p κ e) = apart w p κ (ap (λ (u : State). told u (pluck a n z)) e)
twin_pluck a n z (joined e i) = joined (ap (λ (u : State). told u (pluck a n z)) e) i

pub record Same (v u : State) (c : Call) : Type 0 where
  pub twin : Twin (call v c) (call u c)
  pub put : put v c ≡ put u c

-- a call that both take alike
twin_alike : {v u : State} (c : Call) → number v.voice c ≡ number u.voice c → Twin v u
    → Twin (told v c) (told u c) → Same v u c
unfolding call put
twin_alike {v} {u} c e t s =
    record { twin = rw e (left (eqb (number u.voice c) 0)); put = rw e (out (eqb (number u.voice c) 0)) }
  where
    left : (b : Bool)
        → Twin (cond b (block_after (told v c) (inputs c)) v) (cond b (block_after (told u c) (inputs c)) u)
    left true = twin_block (inputs c) s
    left false = t

    out : (b : Bool)
        → cond b (block_out (told v c) (inputs c)) [] ≡ cond b (block_out (told u c) (inputs c)) []
    out true = twin_out (inputs c) s
    out false = refl

pub withdraws-none : (u : State) → u.voice.waiting ≡ none → call u withdraw ≡ u
withdraws-none u p =
    (refuses.unchanged u withdraw
    (λ z. let k = (refuses.withdraws u.voice).accepted.0 z in none-some (sym p ∙ k.held))).0

pub withdraws-asked : (v : State) (w : Waiting) → v.voice.waiting ≡ some w → w.kind ≡ asked
    → call v withdraw ≡ dropped v
unfolding call done
withdraws-asked v w p κ =
    rw (eq-eqb (number v.voice withdraw) 0
    ((refuses.withdraws v.voice).accepted.1 (record { w = w; held = p; kind = κ; taken = tt })))

twin_withdraw : {v u : State} → Twin v u → Twin (call v withdraw) (call u withdraw)
twin_withdraw {v} {u} (apart w p κ e) =
    let i : u.voice.waiting ≡ none = ap (λ (u : State). u.voice.waiting) e in
    let j = withdraws-none u i in
    joined (withdraws-asked v w p κ ∙ sym e ∙ sym j) (ap (λ (u : State). u.voice.waiting) j ∙ i)
twin_withdraw {u = u} (joined e i) =
    joined (ap (λ (u : State). call u withdraw) e)
    (ap (λ (u : State). u.voice.waiting) (withdraws-none u i) ∙ i)

-- nothing asked waits in u, so both refuse a commit
twin_commit : {v u : State} → (number v.voice commit ≡ 0 → ⊥) → Twin v u → Same v u commit
twin_commit {v} {u} f t =
    let p = refuses.unchanged v commit f in
    let q = refuses.unchanged u commit (idle_refuses t) in
    record {
      twin = subst (Twin (call v commit)) (sym q.0) (subst (λ (x : State). Twin x u) (sym p.0) t);
      put = p.1 ∙ sym q.1;
    }
  where
    idle_refuses : {v u : State} → Twin v u → number u.voice commit ≡ 0 → ⊥
    idle_refuses {u = u} (apart w p κ e) z =
        none-some (sym (ap (λ (u : State). u.voice.waiting) e) ∙ ((refuses.commits u.voice).accepted.0 z).held)
    idle_refuses {u = u} (joined e i) z = none-some (sym i ∙ ((refuses.commits u.voice).accepted.0 z).held)

twin_call : {v u : State} (c : Call) → Plain v c → Twin v u → Same v u c
unfolding number done
twin_call (block xs n) k t = twin_alike (block xs n) refl t t
twin_call (loss G) k t = twin_alike (loss G) refl t (twin_loss G t)
twin_call (pluck a n z) k t = twin_alike (pluck a n z) refl t (twin_pluck a n z t)
twin_call (prepare i to) k t = absurd k
twin_call (instant to) k t = absurd k
twin_call commit k t = twin_commit k t
twin_call {v} {u} withdraw k t =
    record { twin = twin_withdraw t; put = put-none v withdraw refl ∙ sym (put-none u withdraw refl) }

-- ---- calls
pub twin_from : (cs : List Call) {v u : State} → AllPlain v cs → Twin v u → Twin (from v cs) (from u cs)
twin_from [] k t = t
twin_from (c ∷ cs) k t = twin_from cs k.1 (twin_call c k.0 t).twin

pub twin_puts : (cs : List Call) {v u : State} → AllPlain v cs → Twin v u → puts v cs ≡ puts u cs
twin_puts [] k t = refl
twin_puts (c ∷ cs) k t =
    let s = twin_call c k.0 t in
    ap₂ (λ (x y : List ℤ). x ++ y) s.put (twin_puts cs k.1 s.twin)
