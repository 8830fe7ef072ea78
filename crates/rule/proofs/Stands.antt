-- A change that waits, call by call: an ask until it is committed or withdrawn, an announced one until it takes
-- effect. Assumes nothing.
use mathlib.Core.Path.{◌≡◌, refl, sym, ap, ◌∙◌}
use mathlib.Core.List.{List, [], ◌∷◌}
use mathlib.Core.Option.{some}
use Prim.Native.Nat.{ℕ, suc, ◌+◌, ◌≤◌}
use native.Mathlib.Omega.{arith}
use native.Mathlib.Decide.{ℕ_discrete}
use lib.IntN.{ℤ}
use Rattle.rule.specs.Voice.{Tuning, announced, asked, Waiting, fed}
use Rattle.rule.specs.Calls.{Call, block, loss, pluck, announce, ask, prepare, instant, commit, withdraw}
use Rattle.rule.specs.Calls.{number, start, done}
use Rattle.rule.specs.History.{History, steps, ago, step, told, call, from}
use Rattle.rule.specs.Demands.{Ends, Kept}
use Rattle.rule.proofs.Refusals.{refuses}
use Rattle.rule.proofs.Keeps.{none-some, same_some, keeps, announced-asked}
use Rattle.rule.proofs.Accepted.{not_while, not-announced}
use Rattle.rule.proofs.Walk.{call_keeps, from_keeps, call-accepted}
use Rattle.rule.proofs.Steps.{Goes, idle, holds, switches}
use Rattle.rule.proofs.Steps.{step-steps, step-began, step_keeps, step-goes}
use Rattle.rule.proofs.Sound.{Sound, step_sound, told_sound}

-- ---- an ask to the tuning t, called before step b, that waits
pub record Stands (t : Tuning) (b : ℕ) (h : History) : Type 0 where
  pub w : Waiting
  pub held : h.voice.waiting ≡ some w
  pub kind : w.kind ≡ asked
  pub tuning : w.tuning ≡ t
  pub began : h.began ≡ b

module _ (t : Tuning) (b : ℕ) where
  stands-step : (h : History) (x : ℤ) → Stands t b h → Stands t b (step h x)
  stands-step h x s = go (step-goes h x) (step-began h x)
    where
      go : Goes h.voice (ago h) (step h x).voice → (step h x).began ≡ h.began → Stands t b (step h x)
      go (idle q k) e = absurd (none-some (sym q ∙ s.held))
      go (switches u q κ l k) e =
          let i = same_some (sym q ∙ s.held) in
          absurd (announced-asked κ (ap (λ (y : Waiting). y.kind) i ∙ s.kind))
      go (holds u q l k) e =
          let i = same_some (sym q ∙ s.held) in
          record {
            w = fed h.voice.Na u (ago h);
            held = k.waiting;
            kind = ap (λ (y : Waiting). y.kind) i ∙ s.kind;
            tuning = ap (λ (y : Waiting). y.tuning) i ∙ s.tuning;
            began = e ∙ s.began;
          }

  stands-told : (h : History) (c : Call) → (Ends c → number h.voice c ≡ 0 → ⊥) → number h.voice c ≡ 0
      → Stands t b h → Stands t b (told h c)
  unfolding done
  stands-told h (block xs n) f z s = s
  stands-told h (loss G) f z s =
      record { w = s.w; held = s.held; kind = s.kind; tuning = s.tuning; began = s.began }
  stands-told h (pluck a n y) f z s =
      record { w = s.w; held = s.held; kind = s.kind; tuning = s.tuning; began = s.began }
  stands-told h (prepare k to) f z s =
      absurd (not_while to (refuses.prepares h.voice k to) z s.held)
  stands-told h (instant to) f z s = absurd (not_while to (refuses.instants h.voice to) z s.held)
  stands-told h commit f z s = absurd (f tt z)
  stands-told h withdraw f z s = absurd (f tt z)

  pub stands-kept : (cs : List Call) (h : History) → Kept h cs → Stands t b h → Stands t b (from h cs)
  stands-kept [] h k s = s
  stands-kept (c ∷ cs) h k s =
      stands-kept cs (call h c) k.1
      (call_keeps (Stands t b) stands-step h c (λ z. stands-told h c k.0 z s) s)

pub stands-ask : (h : History) (to : Tuning) → number h.voice (ask to) ≡ 0
    → Stands to (steps h) (call h (ask to))
stands-ask h to z =
    rw (call-accepted h (ask to) z)
    (record {
      w = start asked to;
      held = ((keeps h.voice (ago h)).ask_waits to).waiting;
      kind = refl;
      tuning = refl;
      began = refl;
    })

-- ---- an announced change to t, called before step b with advance n: it waits, or has taken effect
module _ (t : Tuning) (b n : ℕ) where
  pub data Holds (h : History) : Type 0 where
    still : (w : Waiting) → h.voice.waiting ≡ some w → w.kind ≡ announced → w.tuning ≡ t → h.began ≡ b
        → h.voice.Na ≡ n → Holds h
    gone : b + n ≤ steps h → Holds h

  abbrev Goes_on : History → Type 0
  Goes_on h = Sound h × Holds h

  on_step : (h : History) (x : ℤ) → Goes_on h → Goes_on (step h x)
  on_step h x p = (step_sound h x p.0, go p.1)
    where
      go : Holds h → Holds (step h x)
      go (gone l) = gone (omega (arith, step-steps h x))
      go (still w q κ τ e a) = at (step-goes h x) (step-steps h x) (step-began h x)
        where
          at : Goes h.voice (ago h) (step h x).voice → steps (step h x) ≡ suc (steps h)
              → (step h x).began ≡ h.began → Holds (step h x)
          at (idle z k) s β = absurd (none-some (sym z ∙ q))
          at (switches u z y l k) s β =
              let r = p.0.waiting u z in gone (omega (arith, r.since, r.taken))
          at (holds u z l k) s β =
              let i = same_some (sym z ∙ q) in
              still (fed h.voice.Na u (ago h)) k.waiting (ap (λ (y : Waiting). y.kind) i ∙ κ)
              (ap (λ (y : Waiting). y.tuning) i ∙ τ) (β ∙ e) ((step_keeps h x).advance ∙ a)

  on-told : (h : History) (c : Call) → number h.voice c ≡ 0 → Goes_on h → Goes_on (told h c)
  unfolding done
  on-told h c z p = (told_sound h c z p.0, go c z p.1)
    where
      go : (c : Call) → number h.voice c ≡ 0 → Holds h → Holds (told h c)
      go c z (gone l) = gone l
      go (block xs m) z (still w q κ τ e a) = still w q κ τ e a
      go (loss G) z (still w q κ τ e a) = still w q κ τ e a
      go (pluck i j s) z (still w q κ τ e a) = still w q κ τ e a
      go (prepare k to) z (still w q κ τ e a) =
          absurd (not_while to (refuses.prepares h.voice k to) z q)
      go (instant to) z (still w q κ τ e a) = absurd (not_while to (refuses.instants h.voice to) z q)
      go commit z (still w q κ τ e a) = absurd (not-announced ((refuses.commits h.voice).accepted.0 z) q κ)
      go withdraw z (still w q κ τ e a) =
          absurd (not-announced ((refuses.withdraws h.voice).accepted.0 z) q κ)

  pub holds_from : (cs : List Call) (h : History) → Sound h → Holds h → Holds (from h cs)
  holds_from cs h g p = (from_keeps Goes_on on_step on-told cs h (g, p)).1

pub holds_announce : (h : History) (to : Tuning) → number h.voice (announce to) ≡ 0
    → Holds to (steps h) h.voice.Na (call h (announce to))
holds_announce h to z = rw (call-accepted h (announce to) z) (go (ℕ_discrete h.voice.Na 0))
  where
    go : Dec (h.voice.Na ≡ 0)
        → Holds to (steps h) h.voice.Na (told h (announce to))
    go (yes e) = gone (omega arith)
    go (no f) =
        let k = keeps h.voice (ago h) in
        still (start announced to) (k.announce_waits to (omega arith)).waiting refl refl
        refl (k.prepare_rest announced to).advance
