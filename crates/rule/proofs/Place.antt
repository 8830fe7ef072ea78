-- A change up to and past step m: the figure holds of step m once it lies behind, and stays.
-- Assumes nothing.
use mathlib.Core.Path.{◌≡◌, sym, subst, ◌∙◌}
use mathlib.Core.List.{List, [], ◌∷◌}
use mathlib.Core.Option.{some}
use Prim.Native.Nat.{ℕ, suc, ◌+◌, ◌-◌, ◌≤◌, ◌<◌}
use native.Mathlib.Omega.{arith}
use native.Mathlib.Decide.{dec_lt}
use lib.IntN.{ℤ, pos}
use lib.ListN.{get_or, get_or-append}
use lib.Seq.{get_or_at}
use Rattle.thiran.specs.Coefficients.{norm}
use Rattle.allpass.specs.Allpass.{out}
use Rattle.rule.specs.Voice.{Tuning, announced, Waiting, A, output, written}
use Rattle.rule.specs.Calls.{Call, announce, instant, commit, number}
use Rattle.rule.specs.History.{History, read, steps, ago, step, told, call, from, new}
use Rattle.rule.specs.Click.{Change, announcing, instantly, committing, NoneBy}
use Rattle.rule.specs.OwnFigure.{OwnFigure}
use Rattle.rule.specs.Valid.{Tunable}
use Rattle.rule.proofs.Refusals.{refuses}
use Rattle.rule.proofs.Read.{read-append}
use Rattle.rule.proofs.New.{new-append}
use Rattle.rule.proofs.Nearness.{figure-near, figure-same}
use Rattle.rule.proofs.Accepted.{accepted-fit}
use Rattle.rule.proofs.Walk.{call_keeps, call-accepted}
use Rattle.rule.proofs.Steps.{step-steps}
use Rattle.rule.proofs.Sound.{Ran, Sound, step_sound, told_sound}
use Rattle.rule.proofs.Course.{Course, coming, ruling, course_step, Late, course_told}
use Rattle.rule.proofs.Course.{begins_instant, begins_announced, begins_committed}

module _ (t : Tuning) (f : Tunable t) (a e m : ℕ) (due : e ≤ m) where
  -- what is claimed of the sample at step i
  abbrev Own : List ℤ → List ℤ → ℕ → Type 0
  Own y s i = OwnFigure (norm (A t)) y s t a e i

  -- step m is ahead, or lies behind, and then what is claimed of it holds
  pub data Place (h : History) : Type 0 where
    ahead : steps h ≤ m → Course t f a e m due h → Place h
    behind : m < steps h → Own h.y h.s m → Place h

  -- ---- more samples and outputs
  module _ (h : History) (x : ℤ) (g : Sound h) where
    abbrev s' : List ℤ
    s' = (step h x).s

    read-on : (i : ℕ) → i ≤ steps h → read s' i t.L ≡ read h.s i t.L
    unfolding step
    read-on i l = read-append h.s (written h.voice (ago h) x ∷ []) i t.L l f.short

    new-on : (i : ℕ) → i ≤ steps h → new t s' i ≡ new t h.s i
    unfolding step
    new-on i l = new-append t h.s (written h.voice (ago h) x ∷ []) i l f.short

    output_on : (i : ℕ) → i < steps h → get_or (step h x).y i (pos 0) ≡ get_or h.y i (pos 0)
    unfolding step
    output_on i l =
        get_or-append h.y (output h.voice (ago h) ∷ []) (pos 0) i (omega (arith, g.even))

    output-now : h.voice.tuning ≡ t
        → get_or (step h x).y (steps h) (pos 0) ≡ out (A t) h.voice.state (ago h t.L)
    unfolding step output
    output-now q = get_or_at h.y (output h.voice (ago h)) [] (pos 0) (steps h) g.even ∙ rw q

    -- step m is the one that the step takes
    arrives : h.voice.tuning ≡ t → e ≤ steps h → Ran h t (a + (steps h - e)) h.voice.state
        → Own (step h x).y s' (steps h)
    arrives q b r =
        let n = steps h in
        let k = a + (n - e) in
        let v = h.voice.state in
        record {
          near = rw (output-now q, new-on n (omega arith)) (figure-near t h.s n k v r f g.small);
          same =
              λ z. rw (output-now q, new-on n (omega arith))
              (figure-same t h.s n k v r (λ i l. sym (read-on i (omega arith)) ∙ z i (omega arith)));
        }

    -- or lies behind
    stays : m < steps h → Own h.y h.s m → Own (step h x).y s' m
    stays l p = record {
      near = rw (output_on m l, new-on m (omega arith)) p.near;
      same =
          λ z. rw (output_on m l, new-on m (omega arith))
          (p.same (λ i k. sym (read-on i (omega arith)) ∙ z i k));
    }

  -- ---- steps and calls
  abbrev Going : History → Type 0
  Going h = Sound h × Place h

  place-step : (h : History) (x : ℤ) → Sound h → Place h → Place (step h x)
  place-step h x g p = go (step-steps h x) (dec_lt (steps h) m) p
    where
      -- what waits takes effect by step m, and so after this step
      waits : (w : Waiting) → h.voice.waiting ≡ some w → w.kind ≡ announced → w.tuning ≡ t
          → h.voice.Na ≡ a → h.began + a ≡ e → (steps h < m → ⊥) → ⊥
      waits w p κ q i b k =
          let r = g.waiting w p in
          omega (arith, r.since, r.taken, (g.valid.waiting w p).early κ)

      go : steps (step h x) ≡ suc (steps h) → Dec (steps h < m) → Place h → Place (step h x)
      go n d (behind l p) = behind (omega arith) (stays h x g l p)
      go n (yes k) (ahead l c) = ahead (omega arith) (course_step t f a e m due h x g k c)
      go n (no k) (ahead l (coming w p κ q i b)) = absurd (waits w p κ q i b k)
      go n (no k) (ahead l (ruling q b r z)) =
          let i : steps h ≡ m = omega arith in
          behind (omega arith)
          (subst (λ (j : ℕ). Own (step h x).y (step h x).s j) i (arrives h x g q b r))

  going_step : (h : History) (x : ℤ) → Going h → Going (step h x)
  going_step h x p = (step_sound h x p.0, place-step h x p.0 p.1)

  place-told : (h : History) (c : Call) → Sound h → number h.voice c ≡ 0 → Late t f a e m due h c
      → Place h → Place (told h c)
  place-told h c g z late (behind l p) = behind l p
  place-told h c g z late (ahead l k) = ahead l (course_told t f a e m due h c g z late l k)

  pub place-from : (cs : List Call) (h : History) → Sound h → NoneBy m h cs → Place h → Place (from h cs)
  place-from [] h g l p = p
  place-from (c ∷ cs) h g l p =
      let next = call_keeps Going going_step h c
      (λ z. (told_sound h c z g, place-told h c g z (λ t' a' e' k. omega (arith, l.0 t' a' e' k)) p))
      (g, p) in
      place-from cs (call h c) next.0 l.1 next.1

  pub passed : (h : History) → m < steps h → Place h → Own h.y h.s m
  passed h l (ahead k c) = absurd (omega arith)
  passed h l (behind k p) = p

-- ---- what a change's course needs: its tuning is fit, it was accepted, and it begins
pub record Begun (h : History) (c : Call) (t : Tuning) (a e m : ℕ) (due : e ≤ m) : Type 0 where
  pub fit : Tunable t
  pub place : Place t fit a e m due (call h c)

pub begins : (h : History) {c : Call} {t : Tuning} {a e m : ℕ} → Sound h → Change h c t a e → (due : e ≤ m)
    → Begun h c t a e m due
begins h {m} g (announcing {to} z) due =
    let f = accepted-fit to (refuses.prepares h.voice announced to) z in
    record {
      fit = f;
      place = rw (call-accepted h (announce to) z) (ahead (omega arith) (begins_announced h to m f due));
    }
begins h {m} g (instantly {to} z) due =
    let f = accepted-fit to (refuses.instants h.voice to) z in
    record {
      fit = f;
      place = rw (call-accepted h (instant to) z) (ahead (omega arith) (begins_instant h to m f due));
    }
begins h {m} g (committing {w} z p) due =
    let f = (g.valid.waiting w p).fit in
    record {
      fit = f;
      place = rw (call-accepted h commit z) (ahead (omega arith) (begins_committed h m w f g p due));
    }
