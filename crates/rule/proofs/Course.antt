-- The course of one accepted change, by steps and calls, as far as step m: it waits, then it rules.
-- Assumes nothing.
use mathlib.Core.Path.{◌≡◌, refl, sym, ap, subst, ◌∙◌}
use mathlib.Core.List.{List}
use mathlib.Core.Option.{some}
use Prim.Native.Nat.{ℕ, suc, ◌+◌, ◌-◌, ◌≤◌, ◌<◌}
use native.Mathlib.Omega.{arith}
use native.Mathlib.Decide.{ℕ_discrete}
use lib.IntN.{ℤ}
use Rattle.allpass.specs.Allpass.{next, run}
use Rattle.rule.specs.Voice.{Tuning, announced, asked, Waiting, A, rest, fed}
use Rattle.rule.specs.Calls.{Call, block, loss, pluck, announce, prepare, instant, commit, withdraw}
use Rattle.rule.specs.Calls.{number, start, done, window}
use Rattle.rule.specs.History.{History, steps, ago, step, told}
use Rattle.rule.specs.Click.{Change, announcing, instantly, committing}
use Rattle.rule.specs.Valid.{Tunable}
use Rattle.rule.proofs.Refusals.{refuses}
use Rattle.rule.proofs.Keeps.{none-some, same_some, keeps, prepared-waits, announced-asked}
use Rattle.rule.proofs.Accepted.{not_while, not-announced}
use Rattle.rule.proofs.Steps.{filtered, Goes, idle, holds, switches}
use Rattle.rule.proofs.Steps.{step-steps, step-began, step_keeps, step-goes}
use Rattle.rule.proofs.Sound.{Ran, Runs, Sound, ran_step}

-- a change to the tuning t that takes effect before step e; its second copy takes a samples; as far as step m
module _ (t : Tuning) (f : Tunable t) (a e m : ℕ) (due : e ≤ m) where
  pub data Course (h : History) : Type 0 where
    -- it was announced a steps before e, and waits
    coming : (w : Waiting) → h.voice.waiting ≡ some w → w.kind ≡ announced → w.tuning ≡ t
        → h.voice.Na ≡ a → h.began + a ≡ e
        → Course h
    -- it is in force, and was at rest a steps before e; an announced change that waits takes effect after m
    ruling : h.voice.tuning ≡ t → e ≤ steps h → Ran h t (a + (steps h - e)) h.voice.state
        → ((w : Waiting) → h.voice.waiting ≡ some w → w.kind ≡ announced → m < h.began + h.voice.Na)
        → Course h

  -- ---- a step
  ran_on : (h : History) (x : ℤ) (b c : ℕ) (t' : Tuning) (v : List ℤ) → t' ≡ t → c ≡ suc b → Ran h t b v
      → Ran (step h x) t c (next (A t') v (ago h t'.L))
  ran_on h x b c t' v q i r = rw q (ran_step h x t b c v f.short i r)

  pub course_step : (h : History) (x : ℤ) → Sound h → steps h < m → Course h → Course (step h x)
  course_step h x g l (coming w p κ q n b) = go (step-goes h x) (step-steps h x) (step-began h x)
    where
      r : Runs h w
      r = g.waiting w p

      early : w.taken < h.voice.Na
      early = (g.valid.waiting w p).early κ

      go : Goes h.voice (ago h) (step h x).voice → steps (step h x) ≡ suc (steps h)
          → (step h x).began ≡ h.began → Course (step h x)
      go (idle z k) s β = absurd (none-some (sym z ∙ p))
      go (switches u z y i k) s β =
          let v : u ≡ w = same_some (sym z ∙ p) in
          let k' = rw v at k in
          let i' : h.voice.Na ≤ suc w.taken = rw v at i in
          let r' : Ran h t (steps h - h.began) w.state = rw q at r.ran in
          let e' : e ≡ suc (steps h) = omega (arith, r.since, r.taken, early) in
          ruling (k'.tuning ∙ q) (omega arith)
          (k'.state
          ∙ ran_on h x (steps h - h.began) (a + (steps (step h x) - e)) w.tuning w.state q
          (omega (arith, r.since)) r')
          (λ w' z' y'. absurd (none-some (sym k'.waiting ∙ z')))
      go (holds u z f k) s β =
          let v : u ≡ w = same_some (sym z ∙ p) in
          coming (fed h.voice.Na u (ago h)) k.waiting (ap (λ (y : Waiting). y.kind) v ∙ κ)
          (ap (λ (y : Waiting). y.tuning) v ∙ q) ((step_keeps h x).advance ∙ n) (omega arith)
  course_step h x g l (ruling q b r late) = go (step-goes h x) (step-steps h x) (step-began h x)
    where
      on : steps (step h x) ≡ suc (steps h)
          → Ran (step h x) t (a + (steps (step h x) - e)) (filtered h.voice (ago h))
      on s =
          ran_on h x (a + (steps h - e)) (a + (steps (step h x) - e)) h.voice.tuning h.voice.state q
          (omega arith) r

      go : Goes h.voice (ago h) (step h x).voice → steps (step h x) ≡ suc (steps h)
          → (step h x).began ≡ h.began → Course (step h x)
      go (idle p k) s β =
          ruling (k.tuning ∙ q) (omega arith) (k.state ∙ on s)
          (λ w z y. absurd (none-some (sym k.waiting ∙ z)))
      go (switches w p y i k) s β =
          let j = g.waiting w p in
          absurd (omega (arith, late w p y, j.since, j.taken, (g.valid.waiting w p).early y))
      go (holds w p j k) s β = ruling (k.tuning ∙ q) (omega arith) (k.state ∙ on s) still
        where
          still : (w' : Waiting) → (step h x).voice.waiting ≡ some w' → w'.kind ≡ announced
              → m < (step h x).began + (step h x).voice.Na
          still w' z y =
              let i : w.kind ≡ w'.kind
              = ap (λ (u : Waiting). u.kind) (same_some (sym k.waiting ∙ z)) in
              omega (arith, late w p (i ∙ y), (step_keeps h x).advance)

  -- ---- a call, which takes effect after step m if it is a change
  abbrev pub Late : History → Call → Type 0
  Late h c = (t' : Tuning) (a' e' : ℕ) → Change h c t' a' e' → m < e'

  pub course_told : (h : History) (c : Call) → Sound h → number h.voice c ≡ 0 → Late h c → steps h ≤ m
      → Course h → Course (told h c)
  unfolding done
  course_told h (block xs n) g z late l c = c
  course_told h (loss G) g z late l (coming w p κ q n b) = coming w p κ q n b
  course_told h (loss G) g z late l (ruling q b r k) = ruling q b r k
  course_told h (pluck i j s) g z late l (coming w p κ q n b) = coming w p κ q n b
  course_told h (pluck i j s) g z late l (ruling q b r k) = ruling q b r k
  course_told h (instant to) g z late l c = let k = late _ _ _ (instantly z) in absurd (omega arith)
  course_told h (prepare k to) g z late l (coming w p κ q n b) =
      absurd (not_while to (refuses.prepares h.voice k to) z p)
  course_told h (prepare asked to) g z late l (ruling q b r k) =
      let i = (keeps h.voice (ago h)).ask_waits to in
      ruling (i.tuning ∙ q) b (i.state ∙ r)
      (λ w p y. absurd
      (announced-asked y (sym (ap (λ (u : Waiting). u.kind) (prepared-waits h.voice (ago h) asked to p)))))
  course_told h (prepare announced to) g z late l (ruling q b r k) =
      let j : m < steps h + h.voice.Na = omega (arith, late _ _ _ (announcing z)) in
      let i = (keeps h.voice (ago h)).announce_waits to (omega arith) in
      ruling (i.tuning ∙ q) b (i.state ∙ r)
      (λ w p y. omega (arith, ((keeps h.voice (ago h)).prepare_rest announced to).advance))
  course_told h commit g z late l (coming w p κ q n b) =
      absurd (not-announced ((refuses.commits h.voice).accepted.0 z) p κ)
  course_told h commit g z late l (ruling q b r k) =
      let i = (refuses.commits h.voice).accepted.0 z in
      let j = late _ _ _ (committing z i.held) in
      absurd (omega arith)
  course_told h withdraw g z late l (coming w p κ q n b) =
      absurd (not-announced ((refuses.withdraws h.voice).accepted.0 z) p κ)
  course_told h withdraw g z late l (ruling q b r k) =
      ruling q b r (λ w p y. absurd (none-some p))

-- ---- its start
module _ (h : History) (t : Tuning) (m : ℕ) (f : Tunable t) where
  ran_now : (b c : ℕ) → b ≡ c → Ran h t c (run (A t) (rest t) (window (ago h) t.L b))
  ran_now b c i = ap (λ (j : ℕ). run (A t) (rest t) (window (ago h) t.L j)) i

  pub begins_instant : (due : steps h ≤ m) → Course t f h.voice.Na (steps h) m due (told h (instant t))
  begins_instant due =
      let k = (keeps h.voice (ago h)).instant_now t in
      ruling k.tuning (omega arith)
      (k.state ∙ ran_now h.voice.Na (h.voice.Na + (steps h - steps h)) (omega arith))
      (λ w z y. absurd (none-some (sym k.waiting ∙ z)))

  pub begins_announced : (due : steps h + h.voice.Na ≤ m)
      → Course t f h.voice.Na (steps h + h.voice.Na) m due (told h (announce t))
  begins_announced due = go (ℕ_discrete h.voice.Na 0)
    where
      go : Dec (h.voice.Na ≡ 0)
          → Course t f h.voice.Na (steps h + h.voice.Na) m due (told h (announce t))
      go (yes i) =
          let k = (keeps h.voice (ago h)).announce_now t i in
          ruling k.tuning (omega arith)
          (k.state ∙ ran_now 0 (h.voice.Na + (steps h - (steps h + h.voice.Na))) (omega arith))
          (λ w z y. absurd (none-some (sym k.waiting ∙ z)))
      go (no i) =
          let k = (keeps h.voice (ago h)).announce_waits t (omega arith) in
          coming (start announced t) k.waiting refl refl
          ((keeps h.voice (ago h)).prepare_rest announced t).advance refl

-- a commit puts in force what has run since the ask
pub begins_committed : (h : History) (m : ℕ) (w : Waiting) (f : Tunable w.tuning) → Sound h
    → h.voice.waiting ≡ some w → (due : steps h ≤ m)
    → Course w.tuning f (steps h - h.began) (steps h) m due (told h commit)
begins_committed h m w f g p due =
    let k = (keeps h.voice (ago h)).commit_now w p in
    let i : steps h - h.began ≡ steps h - h.began + (steps h - steps h) = omega arith in
    ruling k.tuning (omega arith)
    (k.state ∙ subst (λ (j : ℕ). Ran h w.tuning j w.state) i (g.waiting w p).ran)
    (λ w z y. absurd (none-some (sym k.waiting ∙ z)))
