-- What a record does that is accepted: its wait, then its loss, change and pluck, at one step.
-- Assumes nothing.
use mathlib.Core.Path.{◌≡◌, refl, ap, subst, ◌∙◌}
use mathlib.Core.Bool.{Bool, true, false, cond}
use mathlib.Core.List.{List, [], ◌∷◌, ◌++◌}
use Prim.Native.Nat.{ℕ, ◌+◌}
use native.Mathlib.Omega.{arith}
use lib.Dec.{eqb}
use lib.IntN.{pos}
use lib.ListN.{replicate, length-replicate}
use Rattle.rule.specs.Voice.{Kind, Tuning}
use Rattle.rule.specs.Calls.{Call, block, loss, pluck, prepare, announce, instant}
use Rattle.follow.specs.Follow.{value, stands, absent}
use Rattle.outline.specs.Outline.{Outline, passed, from, result, then}
use Rattle.outline.specs.Outline.{wait_calls, loss_calls, change_calls, pluck_calls, act_calls, record_calls}
use Rattle.outline.proofs.Calls.{both, wait_passes, loss_keeps}
use Rattle.timeline.specs.Timed.{Timed, timed}
use Rattle.timeline.proofs.Spread.{stamp}

-- ---- an accepted record
abbrev pub all : ℕ → List ℕ → Outline → List Call
all N r o = loss_calls r o ++ (change_calls N r o ++ pluck_calls r o)

abbrev pub waiting : ℕ → Call
waiting w = block (replicate w (pos 0)) w

pub record Accepted (N Na : ℕ) (r : List ℕ) (o : Outline) : Type 0 where
  pub calls : record_calls N Na r o ≡ waiting (value r 0) ∷ all N r (passed (value r 0) o)
  pub loss-taken : result Na (passed (value r 0) o) (loss_calls r (passed (value r 0) o)) ≡ 0
  pub change : result Na (passed (value r 0) o) (change_calls N r (passed (value r 0) o)) ≡ 0
  pub pluck-taken :
      let u = from Na (passed (value r 0) o) (change_calls N r (passed (value r 0) o)) in
      result Na u (pluck_calls r u) ≡ 0

pub accepts : (N Na : ℕ) (r : List ℕ) (o : Outline) → result Na o (record_calls N Na r o) ≡ 0 → Accepted N Na r o
unfolding record_calls act_calls
accepts N Na r o e =
    let f = then Na (change_calls N r) (pluck_calls r) in
    let q = wait_passes Na o (value r 0) in
    let u = passed (value r 0) o in
    let p = both Na (wait_calls r) (then Na (loss_calls r) f) o e in
    let b = both Na (loss_calls r) f u
    (subst (λ (x : Outline). result Na x (then Na (loss_calls r) f x) ≡ 0) q p.second) in
    let c = both Na (change_calls N r) (pluck_calls r) u
    (subst (λ (x : Outline). result Na x (f x) ≡ 0) (loss_keeps Na u r) b.second) in
    record {
      calls =
          p.calls
          ∙ ap (λ (x : Outline). waiting (value r 0) ∷ then Na (loss_calls r) f x) q
          ∙ ap (λ (cs : List Call). waiting (value r 0) ∷ cs) (b.calls
          ∙ ap (λ (x : Outline). loss_calls r u ++ f x) (loss_keeps Na u r)
          ∙ ap (λ (cs : List Call). loss_calls r u ++ cs) c.calls);
      loss-taken = b.first;
      change = c.first;
      pluck-taken = c.second;
    }

-- ---- calls that are no blocks
pub data Deed : Call → Type 0 where
  loses : {G : ℕ} → Deed (loss G)
  plucks : {a n z : ℕ} → Deed (pluck a n z)
  prepares : {k : Kind} {to : Tuning} → Deed (prepare k to)
  changes : {to : Tuning} → Deed (instant to)

pub data Deeds : List Call → Type 0 where
  none : Deeds []
  more : {c : Call} {cs : List Call} → Deed c → Deeds cs → Deeds (c ∷ cs)

deeds_append : {cs ds : List Call} → Deeds cs → Deeds ds → Deeds (cs ++ ds)
deeds_append none t = t
deeds_append (more s ss) t = more s (deeds_append ss t)

deeds_cond : (b : Bool) {cs ds : List Call} → Deeds cs → Deeds ds → Deeds (cond b cs ds)
deeds_cond true s t = s
deeds_cond false s t = t

changing_deed : (b : Bool) (to : Tuning) → Deed (cond b (announce to) (instant to))
changing_deed true to = prepares
changing_deed false to = changes

pub all_deeds : (N : ℕ) (r : List ℕ) (o : Outline) → Deeds (all N r o)
all_deeds N r o =
    deeds_append (deeds_cond (absent r 3) none (more loses none))
    (deeds_append (deeds_cond (eqb (stands r 1 + stands r 2) 0) none (more (changing_deed (absent r 7) _) none))
    (deeds_cond (absent r 4) none (more plucks none)))

-- ---- their steps
deed_timed : (n : ℕ) {c : Call} (cs : List Call) → Deed c → timed n (c ∷ cs) ≡ record { step = n; call = c } ∷ timed n cs
deed_timed n cs (loses {G}) = (let z : n + 0 ≡ n = omega arith in ap (λ (m : ℕ). record { step = n; call = loss G } ∷ timed m cs) z)
deed_timed n cs (plucks {a} {n = k} {z}) = (let i : n + 0 ≡ n = omega arith in ap (λ (m : ℕ). record { step = n; call = pluck a k z } ∷ timed m cs) i)
deed_timed n cs (prepares {k} {to}) = (let z : n + 0 ≡ n = omega arith in ap (λ (m : ℕ). record { step = n; call = prepare k to } ∷ timed m cs) z)
deed_timed n cs (changes {to}) = (let z : n + 0 ≡ n = omega arith in ap (λ (m : ℕ). record { step = n; call = instant to } ∷ timed m cs) z)

deeds_timed : (n : ℕ) {cs : List Call} (ds : List Call) → Deeds cs → timed n (cs ++ ds) ≡ stamp n cs ++ timed n ds
deeds_timed n ds none = refl
deeds_timed n ds (more {c} {cs} d s) =
    deed_timed n (cs ++ ds) d ∙ ap (λ (ts : List Timed). record { step = n; call = c } ∷ ts) (deeds_timed n ds s)

pub record-timed : (n w : ℕ) {cs : List Call} (ds : List Call) → Deeds cs
    → timed n ((waiting w ∷ cs) ++ ds) ≡ stamp (n + w) cs ++ timed (n + w) ds
record-timed n w {cs} ds d = rw (length-replicate w (pos 0)) (deeds_timed (n + w) ds d)
