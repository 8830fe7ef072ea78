-- The calls that are no block, and what a call puts over the front of a lent output.
-- Assumes nothing.
use mathlib.Core.Path.{◌≡◌, refl, sym, ap, ap₂, ◌∙◌}
use mathlib.Core.Bool.{Bool, true, false, cond}
use mathlib.Core.List.{List, [], ◌++◌}
use Prim.Native.Nat.{ℕ}
use lib.Dec.{eqb}
use lib.IntN.{ℤ}
use lib.ListN.{length, take, drop, take-append-drop}
use Rattle.std.specs.Prelude.{Result, Ok, Err}
use Rattle.refusal.specs.declared.Refusal.{Refusal}
use Rattle.allpass.specs.Bounds.{Within}
use Rattle.integer.specs.Rounding.{M}
use Rattle.line.specs.Ring.{ring}
use Rattle.rule.specs.Calls as Rule
use Rattle.rule.specs.Calls.{inputs, number, count}
use Rattle.rule.specs.State.{State, told, block_out, put}
use Rattle.rule.specs.Voice.{Voice}
use Rattle.rule.proofs.Puts.{put-none}
use Rattle.voice.specs.declared.Head.{Head}
use Rattle.voice.specs.Struct.{state_of, voice_of}
use Rattle.voice.specs.Called.{Called, lent, answered}
use Rattle.voice.proofs.Called.{on}
use Rattle.change.specs.declared.Changed.{Changed}
use Rattle.list.specs.declared.words.Call.{Call}
use Rattle.list.specs.declared.words.Call.TheVariants.{Loss, Pluck, Announce, Instant, Ask, Commit, Withdraw}
use Rattle.list.specs.Items.{made_of}
use Rattle.list.specs.Makes.{Makes}
use Rattle.samples.specs.Samples.{over}

-- a call that is no block makes no step
pub still : (c : Call) → inputs (made_of c) ≡ []
still (Loss g) = refl
still (Pluck p) = refl
still (Announce t) = refl
still (Instant t) = refl
still (Ask t) = refl
still Commit = refl
still Withdraw = refl

pub over-still : (v : State) (c : Call) (before : List ℤ) → before ≡ over (put v (made_of c)) before
over-still v c before = sym (ap (λ (p : List ℤ). over p before) (put-none v (made_of c) (still c)))

-- a call c that counts nothing, and that gave x
pub record Uncounted (h : Head) (c : Call) (x : Result Head Refusal) : Type 0 where
  pub made : Called h (made_of c) (answered h x)
  pub none : (v : Voice) (q : ℕ → ℤ) → count v q (made_of c) ≡ 0

pub uncounted : {h : Head} {c d : Call} {x y : Result Head Refusal} → c ≡ d → x ≡ y
    → Called h (made_of d) (answered h y) → ((v : Voice) (q : ℕ → ℤ) → count v q (made_of d) ≡ 0) → Uncounted h c x
uncounted e i k z = rw (e, i) (record { made = k; none = z })

module _ {h : Head} {l : List ℤ} {c : Call} (w : Within M (ring h.at l)) where
  pub makes-none : {x : Result Head Refusal} {y : Result Changed Refusal} (r : Refusal) → x ≡ Err r → y ≡ Err r
      → Uncounted h c x → Makes h l (made_of c) y
  makes-none r e i u = rw i (record { made = on l (rw e at u.made) w; count = sym (u.none _ _) })

  pub makes : {x : Result Head Refusal} (k : Head) → x ≡ Ok k → Uncounted h c x
      → Makes h l (made_of c) (Ok (record { head = k; count = 0 }))
  makes k e u = record { made = on l (rw e at u.made) w; count = sym (u.none _ _) }

-- ---- a part of the output that was lent to a call, back in its place
placed : (t : Bool) (p part before : List ℤ) (b : ℕ) → length part ≡ b
    → part ≡ cond t (cond t p []) (take b before)
    → part ++ drop b before ≡ over (cond t p []) before
placed true p part before b e j =
    ap₂ (λ (x : List ℤ) (n : ℕ). x ++ drop n before) j (sym e ∙ ap length j)
placed false p part before b e j =
    ap (λ (x : List ℤ). x ++ drop b before) j ∙ take-append-drop b before

pub over-lent : (h : Head) (l : List ℤ) (c : Rule.Call) (b : ℕ) (part before : List ℤ) → length part ≡ b
    → part ≡ lent h l c (take b before) → part ++ drop b before ≡ over (put (state_of h l) c) before
unfolding put
over-lent h l c b part before e i =
    placed (eqb (number (voice_of h) c) 0) (block_out (told (state_of h l) c) (inputs c)) part before b e i
