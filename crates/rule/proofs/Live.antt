-- L9: live equals announced. At the moment the voice in which the change was announced is the other after the
-- instant change; before it they put out the same, after it they are one voice. Assumes nothing.
use mathlib.Core.Path.{◌≡◌, refl, sym, ap, ap₂, ◌∙◌}
use mathlib.Core.List.{List, [], ◌∷◌, ◌++◌}
use mathlib.Core.Option.{none}
use Prim.Native.Nat.{ℕ, ◌+◌, ◌≤◌}
use native.Mathlib.Omega.{arith}
use native.Mathlib.Decide.{ℕ_discrete}
use lib.IntN.{ℤ}
use lib.ListN.{length}
use Rattle.rule.specs.Voice.{Tuning, tuning, Voice, announced}
use Rattle.rule.specs.Calls.{Call, announce, instant, Opening, number, count, done}
use Rattle.rule.specs.State.{State, back, call, fresh, from, puts, numbers, counts}
use Rattle.rule.specs.Valid.{Tunable, Whole}
use Rattle.rule.specs.Live.{NoChanges, Due, Meets, Meet, Ahead, Live, Lives}
use Rattle.rule.proofs.Refusals.{refuses}
use Rattle.rule.proofs.Accepted.{accepted-fit}
use Rattle.rule.proofs.States.{fresh-whole, from-whole}
use Rattle.rule.proofs.Puts.{put-none, from-append, puts-append}
use Rattle.rule.proofs.Announced.{Idle, beside, due}
use Rattle.rule.proofs.Told.{accepts}
use Rattle.rule.proofs.Beside.{Through, through}
use Rattle.rule.proofs.Numbers.{moved, behind}

-- a change is tested alike in two voices in which nothing waits
tested : (v u : Voice) (to : Tuning) → v.waiting ≡ none → u.waiting ≡ none
    → number v (announce to) ≡ number u (instant to)
unfolding number
tested v u to p q = rw (p, q)

-- ---- from a voice v within its limits
module _ (v : State) (to : Tuning) (mid : List Call) (h : Due v to mid) where
  -- the voice in which the change was announced, and the voice in which it was not
  abbrev w : State
  w = call v (announce to)

  abbrev u : State
  u = from v mid

  abbrev Na : ℕ
  Na = v.voice.Na

  start : Idle Na v
  start = record { waiting = h.idle; advance = refl }

  -- whatever change is announced, nothing waits in the voice in which it was not
  idle : u.voice.waiting ≡ none
  idle =
      (through (tuning 1 1 4096) (omega arith) Na (omega (arith, h.whole.voice.advance)) mid v 0 h.between
      start (omega (arith, h.many))).runs.idle.waiting

  pub same_code : number v.voice (announce to) ≡ number u.voice (instant to)
  same_code = tested v.voice u.voice to h.idle idle

  record Core : Type 0 where
    meet : from w mid ≡ call u (instant to)
    puts : puts w mid ≡ puts v mid
    numbers : numbers w mid ≡ numbers v mid
    counts : counts w mid ≡ counts v mid

  -- a refused change leaves both voices as they were
  refused : (number v.voice (announce to) ≡ 0 → ⊥) → Core
  refused f =
      let e = (refuses.unchanged v (announce to) f).0 in
      let i = (refuses.unchanged u (instant to) (λ z. f (same_code ∙ z))).0 in
      record {
        meet = ap (λ (x : State). from x mid) e ∙ sym i;
        puts = ap (λ (x : State). puts x mid) e;
        numbers = ap (λ (x : State). numbers x mid) e;
        counts = ap (λ (x : State). counts x mid) e;
      }

  module _ (z : number v.voice (announce to) ≡ 0) where
    fit : Tunable to
    fit = accepted-fit to (refuses.prepares v.voice announced to) z

    -- the line reaches back far enough
    deep : to.L + Na ≤ 2112
    deep = omega (arith, fit.long, h.whole.voice.advance)

    beginning : w ≡ beside announced to v 0
    unfolding done
    beginning = (accepts v (announce to) z).0

    ran : Through to fit.short Na deep v 0 mid
    ran = through to fit.short Na deep mid v 0 h.between start (omega (arith, h.many))

    accepted : Core
    accepted =
        let e : 0 + length (puts v mid) ≡ u.voice.Na = omega (arith, ran.runs.idle.advance, h.many) in
        record {
          meet =
              ap (λ (x : State). from x mid) beginning
              ∙ ran.runs.left
              ∙ ap (beside announced to u) e
              ∙ due to u
              ∙ sym (accepts u (instant to) (sym same_code ∙ z)).0;
          puts = ap (λ (x : State). puts x mid) beginning ∙ ran.runs.puts;
          numbers = ap (λ (x : State). numbers x mid) beginning ∙ ran.numbers;
          counts = ap (λ (x : State). counts x mid) beginning ∙ ran.counts;
        }

  core : Core
  core = go (ℕ_discrete (number v.voice (announce to)) 0)
    where
      go : Dec (number v.voice (announce to) ≡ 0) → Core
      go (yes z) = accepted z
      go (no f) = refused f

  pub joined : from (call v (announce to)) mid ≡ call (from v mid) (instant to)
  joined = core.meet

  pub same-puts : puts (call v (announce to)) mid ≡ puts v mid
  same-puts = core.puts

  pub meets : (post : List Call) → Meets v to mid post
  meets post = record {
    outputs =
        ap (λ (ys : List ℤ). ys ++ puts w (mid ++ post)) (put-none v (announce to) refl)
        ∙ puts-append w mid post
        ∙ ap₂ (λ (ys : List ℤ) (x : State). ys ++ puts x post) same-puts joined
        ∙ ap (λ (ys : List ℤ). puts v mid ++ (ys ++ puts (call u (instant to)) post))
        (sym (put-none u (instant to) refl))
        ∙ sym (puts-append v mid (instant to ∷ post));
    state =
        from-append w mid post
        ∙ ap (λ (x : State). from x post) joined
        ∙ sym (from-append v mid (instant to ∷ post));
    code = same_code;
    codes =
        moved numbers (λ v c. number v.voice c) (λ v. refl) (λ v c cs. refl) v mid post
        (announce to) (instant to) core.numbers joined;
    runs =
        moved counts (λ v c. count v.voice (back v.line) c) (λ v. refl) (λ v c cs. refl) v mid post
        (announce to) (instant to) core.counts joined;
  }

pub meeting : (v : State) (to : Tuning) (mid : List Call) → Meet v to mid
meeting = meets

-- ---- from an opening: the voice that pre leaves
module _ (o : Opening) (pre : List Call) (to : Tuning) (mid : List Call) (h : Ahead o pre to mid) where
  abbrev before : State
  before = from (fresh o) pre

  ahead : Due before to mid
  ahead = record {
    whole = from-whole pre (fresh o) (fresh-whole o);
    idle = ((refuses.prepares before.voice announced to).accepted.0 h.accepted).1.1.1;
    between = h.between;
    many = omega (arith, h.many);
  }

  live : (post : List Call) → Live o pre to mid post
  live post =
      let m = meets before to mid ahead post in
      record {
        outputs =
            puts-append (fresh o) pre (announce to ∷ (mid ++ post))
            ∙ ap (λ (ys : List ℤ). puts (fresh o) pre ++ ys) m.outputs
            ∙ sym (puts-append (fresh o) pre (mid ++ instant to ∷ post));
        state =
            from-append (fresh o) pre (announce to ∷ (mid ++ post))
            ∙ m.state
            ∙ sym (from-append (fresh o) pre (mid ++ instant to ∷ post));
        accepted = rw (from-append (fresh o) pre mid) (sym m.code ∙ h.accepted);
        codes =
            behind numbers (λ v c. number v.voice c) (λ v. refl) (λ v c cs. refl) (fresh o) pre mid
            (announce to ∷ (mid ++ post)) (mid ++ instant to ∷ post) m.codes;
        runs =
            behind counts (λ v c. count v.voice (back v.line) c) (λ v. refl) (λ v c cs. refl) (fresh o)
            pre mid (announce to ∷ (mid ++ post)) (mid ++ instant to ∷ post) m.runs;
      }

pub lives : (o : Opening) (pre : List Call) (to : Tuning) (mid : List Call) → Lives o pre to mid
lives = live
