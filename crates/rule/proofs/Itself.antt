-- L3: "An announced change acts as an ask that commits itself": by L9 both are the instant change at the moment.
-- Assumes nothing.
use mathlib.Core.Path.{◌≡◌, refl, sym, ap, ap₂, subst, ◌∙◌}
use mathlib.Core.List.{List, [], ◌∷◌, ◌++◌}
use mathlib.Core.Option.{none, some}
use Prim.Native.Nat.{ℕ, ◌+◌, ◌≤◌}
use native.Mathlib.Omega.{arith}
use lib.IntN.{ℤ}
use lib.ListN.{length}
use Rattle.rule.specs.Voice.{Tuning, announced, asked, settled}
use Rattle.rule.specs.Calls.{Call, block, loss, pluck, prepare, announce, ask, instant, commit, withdraw}
use Rattle.rule.specs.Calls.{number, done}
use Rattle.rule.specs.State.{State, told, call, from, puts}
use Rattle.rule.specs.Valid.{Tunable, Whole}
use Rattle.rule.specs.Live.{NoChanges, Due}
use Rattle.rule.specs.Asked.{Still, AllStill, Itself, CommitsItself}
use Rattle.rule.proofs.Refusals.{refuses}
use Rattle.rule.proofs.Accepted.{accepted-fit}
use Rattle.rule.proofs.Puts.{put-none, from-append, puts-append}
use Rattle.rule.proofs.Announced.{eliminator, beside, due}
use Rattle.rule.proofs.Told.{accepts}
use Rattle.rule.proofs.Beside.{Runs, waits-through}
use Rattle.rule.proofs.Live.{joined, same-puts}

unchanging : (cs : List Call) (v : State) → AllStill v cs → NoChanges cs
unchanging [] v k = tt
unchanging (block xs n ∷ cs) v k = unchanging cs (call v (block xs n)) k.1
unchanging (loss G ∷ cs) v k = unchanging cs (call v (loss G)) k.1
unchanging (pluck a n z ∷ cs) v k = unchanging cs (call v (pluck a n z)) k.1
unchanging (prepare i t ∷ cs) v k = absurd k.0
unchanging (instant t ∷ cs) v k = absurd k.0
unchanging (commit ∷ cs) v k = unchanging cs (call v commit) k.1
unchanging (withdraw ∷ cs) v k = unchanging cs (call v withdraw) k.1

-- ---- the moment: an ask with Na samples taken is committed, and is then the instant change
ready : (to : Tuning) (u : State) → number (beside asked to u u.voice.Na).voice commit ≡ 0
unfolding settled
ready to u =
    let b = beside asked to u u.voice.Na in
    (refuses.commits b.voice).accepted.1
    (record { w = eliminator asked to u.line u.voice.Na; held = refl; kind = refl; taken = omega arith })

committed-is : (to : Tuning) (u : State)
    → call (beside asked to u u.voice.Na) commit ≡ beside announced to u u.voice.Na
unfolding settled done
committed-is to u = (accepts (beside asked to u u.voice.Na) commit (ready to u)).0 ∙ sym (due to u)

module _ (v : State) (to : Tuning) (mid : List Call) (g : Whole v) (z : number v.voice (announce to) ≡ 0)
    (k : AllStill (call v (ask to)) mid) (n : length (puts v mid) ≡ v.voice.Na) where
  abbrev w : State
  w = call v (ask to)

  abbrev u : State
  u = from v mid

  abbrev Na : ℕ
  Na = v.voice.Na

  -- an ask is tested as an announced change is
  taken : number v.voice (ask to) ≡ 0
  unfolding number
  taken = z

  fit : Tunable to
  fit = accepted-fit to (refuses.prepares v.voice announced to) z

  deep : to.L + Na ≤ 2112
  deep = omega (arith, fit.long, g.voice.advance)

  idle : v.voice.waiting ≡ none
  idle = ((refuses.prepares v.voice announced to).accepted.0 z).1.1.1

  beginning : w ≡ beside asked to v 0
  unfolding done
  beginning = (accepts v (ask to) taken).0

  ran : Runs asked to fit.short Na deep v 0 mid
  ran =
      waits-through to fit.short Na deep mid v 0 (subst (λ (x : State). AllStill x mid) beginning k)
      (record { waiting = idle; advance = refl }) (omega arith)

  at-moment : from w mid ≡ beside asked to u u.voice.Na
  at-moment =
      let e : 0 + length (puts v mid) ≡ u.voice.Na = omega (arith, ran.idle.advance) in
      ap (λ (x : State). from x mid) beginning ∙ ran.left ∙ ap (beside asked to u) e

  ahead : Due v to mid
  ahead = record { whole = g; idle = idle; between = unchanging mid w k; many = n }

  -- what the commit leaves is what the announced change has become
  end : call (from w mid) commit ≡ from (call v (announce to)) mid
  end =
      let e = joined v to mid ahead in
      ap (λ (x : State). call x commit) at-moment
      ∙ committed-is to u
      ∙ due to u
      ∙ sym (accepts u (instant to) (instantly)).0
      ∙ sym e
    where
      instantly : number u.voice (instant to) ≡ 0
      instantly =
          let (order, (long, (delay, e))) = (refuses.prepares v.voice announced to).accepted.0 z in
          (refuses.instants u.voice to).accepted.1 (order, (long, (delay, ran.idle.waiting)))

  sounds-same : puts (call v (announce to)) mid ≡ puts w mid
  sounds-same =
      same-puts v to mid ahead
      ∙ sym (ap (λ (x : State). puts x mid) beginning ∙ ran.puts)

  itself : (post : List Call) → Itself v to mid post
  itself post = record {
    accepted = rw at-moment (ready to u);
    outputs =
        ap (λ (ys : List ℤ). ys ++ puts (call v (announce to)) (mid ++ post)) (put-none v (announce to) refl)
        ∙ puts-append (call v (announce to)) mid post
        ∙ ap₂ (λ (ys : List ℤ) (x : State). ys ++ puts x post) sounds-same (sym end)
        ∙ ap (λ (ys : List ℤ). puts w mid ++ (ys ++ puts (call (from w mid) commit) post))
        (sym (put-none (from w mid) commit refl))
        ∙ sym (puts-append w mid (commit ∷ post))
        ∙ ap (λ (ys : List ℤ). ys ++ puts w (mid ++ commit ∷ post)) (sym (put-none v (ask to) refl));
    state =
        from-append (call v (announce to)) mid post
        ∙ ap (λ (x : State). from x post) (sym end)
        ∙ sym (from-append w mid (commit ∷ post));
  }

pub commits-itself : (v : State) (to : Tuning) (mid : List Call) → CommitsItself v to mid
commits-itself v to mid g z k n = itself v to mid g z k n
