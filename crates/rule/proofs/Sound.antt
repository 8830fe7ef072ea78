-- What holds of every history that calls reach. In chief: a waiting change's eliminator is the filter that
-- was at rest when the change was called. Assumes nothing.
use mathlib.Core.Path.{◌≡◌, refl, sym, ap, subst, ◌∙◌}
use mathlib.Core.List.{List, [], ◌∷◌, ◌++◌}
use mathlib.Core.Option.{none, some}
use Prim.Native.Nat.{ℕ, suc, ◌-◌, ◌≤◌, min}
use native.Mathlib.Omega.{arith}
use lib.IntN.{ℤ, pos, nat_abs}
use lib.ListN.{length, get_or, length-append}
use lib.Seq.{get_or_at}
use Rattle.integer.specs.Rounding.{M}
use Rattle.allpass.specs.Allpass.{next, run}
use Rattle.allpass.specs.Bounds.{Within, none, more}
use Rattle.allpass.proofs.Contraction.{run-append}
use Rattle.rule.specs.Voice.{Tuning, Waiting, Voice, A, rest, output, written}
use Rattle.rule.specs.Calls.{Call, block, loss, pluck, prepare, instant, commit, withdraw, Opening}
use Rattle.rule.specs.Calls.{number, done, window}
use Rattle.rule.specs.History.{History, read, steps, ago, step, told, call, fresh, after}
use Rattle.rule.specs.Valid.{Valid, Samples}
use Rattle.rule.proofs.Read.{read_at, read_step, read-before, read-within, window_grows}
use Rattle.rule.proofs.Filters.{written-within}
use Rattle.rule.proofs.Refusals.{refuses}
use Rattle.rule.proofs.Keeps.{none-some, same_some, keeps, prepared-waits}
use Rattle.rule.proofs.Walk.{call_keeps, from_keeps}
use Rattle.rule.proofs.Steps.{step-steps, step-began, step_keeps, Goes, idle, holds, switches, step-goes}
use Rattle.rule.proofs.Voices.{stepped-valid, done-valid}
use Rattle.rule.proofs.Opened.{opened_rested}

-- at h, v is the state of t's filter that was at rest a steps ago
abbrev pub Ran : History → Tuning → ℕ → List ℤ → Type 0
Ran h t a v = v ≡ run (A t) (rest t) (window (ago h) t.L a)

-- w waits at h: it has taken all the samples since it was called, and counts them up to Na
pub record Runs (h : History) (w : Waiting) : Type 0 where
  pub since : h.began ≤ steps h
  pub taken : w.taken ≡ min (steps h - h.began) h.voice.Na
  pub ran : Ran h w.tuning (steps h - h.began) w.state

pub record Sound (h : History) : Type 0 where
  pub valid : Valid h.voice
  pub waiting : (w : Waiting) → h.voice.waiting ≡ some w → Runs h w
  pub even : length h.y ≡ length h.s
  pub small : Within M h.s
  pub last : h.voice.last ≡ read h.y (steps h) 1

pub samples : (h : History) → Sound h → Samples (ago h)
samples h g k = read-within (steps h) k g.small

-- a step later the filter has taken s(n − L), and was at rest a + 1 steps ago
pub ran_step : (h : History) (x : ℤ) (t : Tuning) (a b : ℕ) (v : List ℤ) → 1 ≤ t.L → b ≡ suc a → Ran h t a v
    → Ran (step h x) t b (next (A t) v (ago h t.L))
unfolding step
ran_step h x t a b v l i e =
    rw (
      i,
      window_grows (ago h) (ago (step h x)) t.L a l (read_step h.s (written h.voice (ago h) x)),
      run-append (A t) (rest t) (window (ago h) t.L a) (ago h t.L ∷ []),
      e,
    )

within_snoc : {B : ℕ} {s : List ℤ} (x : ℤ) → nat_abs x ≤ B → Within B s → Within B (s ++ (x ∷ []))
within_snoc x p none = more p none
within_snoc x p (more q h) = more q (within_snoc x p h)

-- ---- a step
waiting-step : (h : History) (x : ℤ) → Sound h → (w : Waiting) → (step h x).voice.waiting ≡ some w
    → Runs (step h x) w
waiting-step h x g w p = go (step-goes h x) (step-steps h x) (step-began h x)
  where
    go : Goes h.voice (ago h) (step h x).voice → steps (step h x) ≡ suc (steps h)
        → (step h x).began ≡ h.began → Runs (step h x) w
    go (idle q k) n b = absurd (none-some (sym k.waiting ∙ p))
    go (switches u q e l k) n b = absurd (none-some (sym k.waiting ∙ p))
    go (holds u q f k) n b =
        let i = g.waiting u q in
        subst (Runs (step h x)) (same_some (sym k.waiting ∙ p))
        (record {
          since = omega (arith, i.since);
          taken = omega (arith, i.since, i.taken, (step_keeps h x).advance);
          ran =
              ran_step h x u.tuning (steps h - h.began) (steps (step h x) - (step h x).began) u.state
              (g.valid.waiting u q).fit.short (omega (arith, i.since)) i.ran;
        })

-- the newest output stands one step back
last_step : (h : History) (x : ℤ) → length h.y ≡ length h.s
    → (step h x).voice.last ≡ read (step h x).y (steps (step h x)) 1
unfolding step
last_step h x e =
    let n = step-steps h x in
    let y' = output h.voice (ago h) in
    let i : steps (step h x) - 1 ≡ steps h = omega arith in
    (step_keeps h x).last
    ∙ sym
    (read_at (step h x).y (steps (step h x)) 1 (omega arith)
    ∙ ap (λ (j : ℕ). get_or (step h x).y j (pos 0)) i
    ∙ get_or_at h.y y' [] (pos 0) (steps h) e)

pub step_sound : (h : History) (x : ℤ) → Sound h → Sound (step h x)
unfolding step
step_sound h x g =
    let s' = written h.voice (ago h) x in
    let y' = output h.voice (ago h) in
    record {
      valid = stepped-valid h.voice (ago h) (samples h g) g.valid;
      waiting = waiting-step h x g;
      even = omega (arith, g.even, length-append h.y (y' ∷ []), length-append h.s (s' ∷ []));
      small = within_snoc s' (written-within h.voice (ago h) x) g.small;
      last = last_step h x g.even;
    }

-- ---- a call
ran_none : (h : History) (t : Tuning) (a : ℕ) → a ≡ 0 → Ran h t a (rest t)
ran_none h t a e = rw e refl

waiting-told : (h : History) (c : Call) → number h.voice c ≡ 0 → Sound h
    → (w : Waiting) → (told h c).voice.waiting ≡ some w → Runs (told h c) w
unfolding done
waiting-told h (block xs n) e g w p = g.waiting w p
waiting-told h (loss G) e g w p =
    let i = g.waiting w p in record { since = i.since; taken = i.taken; ran = i.ran }
waiting-told h (pluck a n z) e g w p =
    let i = g.waiting w p in record { since = i.since; taken = i.taken; ran = i.ran }
waiting-told h (prepare k to) e g w p =
    subst (Runs (told h (prepare k to))) (prepared-waits h.voice (ago h) k to p)
    (record {
      since = omega arith;
      taken = omega arith;
      ran = ran_none h to (steps h - steps h) (omega arith);
    })
waiting-told h (instant to) e g w p = absurd (none-some p)
waiting-told h commit e g w p =
    let k = (refuses.commits h.voice).accepted.0 e in
    absurd (none-some (sym ((keeps h.voice (ago h)).commit_now k.w k.held).waiting ∙ p))
waiting-told h withdraw e g w p = absurd (none-some p)

last-told : (v : Voice) (r : ℕ → ℤ) (c : Call) → (done v r c).last ≡ v.last
unfolding done
last-told v r (block xs n) = refl
last-told v r (loss G) = refl
last-told v r (pluck a n z) = refl
last-told v r (prepare k to) = ((keeps v r).prepare_rest k to).last
last-told v r (instant to) = refl
last-told v r commit = (keeps v r).commit_rest.last
last-told v r withdraw = refl

pub told_sound : (h : History) (c : Call) → number h.voice c ≡ 0 → Sound h → Sound (told h c)
told_sound h c e g = record {
  valid = done-valid h.voice (ago h) c e (samples h g) g.valid;
  waiting = waiting-told h c e g;
  even = g.even;
  small = g.small;
  last = last-told h.voice (ago h) c ∙ g.last;
}

-- ---- any call, and any list
pub call_sound : (h : History) (c : Call) → Sound h → Sound (call h c)
call_sound h c g = call_keeps Sound step_sound h c (λ e. told_sound h c e g) g

pub fresh_sound : (o : Opening) → Sound (fresh o)
fresh_sound o =
    let r = opened_rested o in
    record {
      valid = r.valid;
      waiting = λ w p. absurd (none-some (sym r.idle ∙ p));
      even = refl;
      small = none;
      last = r.last ∙ sym (read-before [] 0 1 (omega arith));
    }

pub after_sound : (o : Opening) (cs : List Call) → Sound (after o cs)
after_sound o cs = from_keeps Sound step_sound told_sound cs (fresh o) (fresh_sound o)

-- ---- the advance is that of opening
advance-told : (h : History) (c : Call) → (told h c).voice.Na ≡ h.voice.Na
unfolding done
advance-told h (block xs n) = refl
advance-told h (loss G) = refl
advance-told h (pluck a n z) = refl
advance-told h (prepare k to) = ((keeps h.voice (ago h)).prepare_rest k to).advance
advance-told h (instant to) = refl
advance-told h commit = (keeps h.voice (ago h)).commit_rest.advance
advance-told h withdraw = refl

pub advance : (o : Opening) (cs : List Call) → (after o cs).voice.Na ≡ (fresh o).voice.Na
advance o cs =
    from_keeps (λ h. h.voice.Na ≡ (fresh o).voice.Na) (λ h x p. (step_keeps h x).advance ∙ p)
    (λ h c e p. advance-told h c ∙ p) cs (fresh o) refl
