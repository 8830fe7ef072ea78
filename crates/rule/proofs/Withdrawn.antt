-- L3: a withdrawn ask leaves nothing behind: the voice with the ask and the voice without go beside each other.
-- Assumes nothing.
use mathlib.Core.Path.{◌≡◌, refl, sym, ap, ap₂, ◌∙◌}
use mathlib.Core.List.{List, [], ◌∷◌, ◌++◌}
use mathlib.Core.Option.{Option}
use Prim.Native.Nat.{ℕ}
use borrow.Author.Tests.{eq-eqb}
use lib.IntN.{ℤ}
use Rattle.rule.specs.Voice.{Tuning, asked, Waiting, tuned, settled}
use Rattle.rule.specs.Calls.{Call, ask, withdraw, Opening, number, start, done}
use Rattle.rule.specs.State.{State, call, put, fresh, from, puts}
use Rattle.rule.specs.Asked.{AllPlain, Withdrawn, Withdraws}
use Rattle.rule.proofs.Refusals.{refuses}
use Rattle.rule.proofs.Puts.{put-none, from-append, puts-append}
use Rattle.rule.proofs.Twins.{dropped, Twin, apart, joined, withdraws-none, withdraws-asked}
use Rattle.rule.proofs.Twins.{twin_from, twin_puts}

-- an accepted ask, and the voice without it
asks : (v : State) (to : Tuning) → number v.voice (ask to) ≡ 0 → Twin (call v (ask to)) v
unfolding call done settled
asks v to z =
    let idle = ((refuses.prepares v.voice asked to).accepted.0 z).1.1.1 in
    rw (eq-eqb (number v.voice (ask to)) 0 z)
    (apart (start asked to) refl refl
    (ap (λ (w : Option Waiting). record {
      voice = tuned v.voice v.voice.tuning v.voice.state w;
      line = v.line;
    })
    idle))

-- and its withdrawal
ends : {v u : State} → Twin v u → call v withdraw ≡ u
ends {v} (apart w p κ e) = withdraws-asked v w p κ ∙ sym e
ends {u = u} (joined e i) = ap (λ (v : State). call v withdraw) e ∙ withdraws-none u i

-- what the rest of the list makes of the one is what it makes of the other
module _ (o : Opening) (pre mid post : List Call) (to : Tuning)
    (z : number (from (fresh o) pre).voice (ask to) ≡ 0)
    (k : AllPlain (call (from (fresh o) pre) (ask to)) mid) where
  abbrev u : State
  u = from (fresh o) pre

  abbrev v : State
  v = call u (ask to)

  twin : Twin v u
  twin = asks u to z

  end : call (from v mid) withdraw ≡ from u mid
  end = ends (twin_from mid k twin)

  abbrev rest : List Call
  rest = withdraw ∷ post

  without : puts u (ask to ∷ (mid ++ rest)) ≡ puts u (mid ++ post)
  without =
      ap (λ (ys : List ℤ). ys ++ puts v (mid ++ rest)) (put-none u (ask to) refl)
      ∙ puts-append v mid rest
      ∙ ap (λ (ys : List ℤ). puts v mid ++ (ys ++ puts (call (from v mid) withdraw) post))
      (put-none (from v mid) withdraw refl)
      ∙ ap₂ (λ (ys : List ℤ) (x : State). ys ++ puts x post) (twin_puts mid k twin) end
      ∙ sym (puts-append u mid post)

  withdrawn : Withdrawn o pre mid post to
  withdrawn = record {
    outputs =
        puts-append (fresh o) pre (ask to ∷ (mid ++ rest))
        ∙ ap (λ (ys : List ℤ). puts (fresh o) pre ++ ys) without
        ∙ sym (puts-append (fresh o) pre (mid ++ post));
    state =
        from-append (fresh o) pre (ask to ∷ (mid ++ rest))
        ∙ from-append v mid rest
        ∙ ap (λ (x : State). from x post) end
        ∙ sym (from-append u mid post)
        ∙ sym (from-append (fresh o) pre (mid ++ post));
  }

pub withdraws : (o : Opening) → Withdraws o
withdraws o pre mid post to z k = withdrawn o pre mid post to z k
