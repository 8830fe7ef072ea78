-- The merge of a score with its own header alone.
-- Assumes nothing.
use mathlib.Core.Path.{◌≡◌, refl, sym, ap, subst, ◌∙◌}
use mathlib.Core.List.{List, [], ◌∷◌, ◌++◌}
use Prim.Native.Nat.{ℕ, ◌+◌, ◌-◌}
use native.Mathlib.Omega.{arith}
use borrow.Author.Tests.{eq-eqb}
use lib.ListN.{length, take, drop, drop_of_length-le}
use lib.Seq.{length-take-le, take-take}
use Rattle.octets.specs.Theorems.{Bytes}
use Rattle.octets.proofs.Laws.{taken-bytes}
use Rattle.refusal.specs.Limits.{refusal}
use Rattle.rule.specs.Calls.{Call, Opening}
use Rattle.follow.specs.Follow.{value}
use Rattle.score.specs.Run.{Outcome, opening, header_limits}
use Rattle.score.specs.Run as Score
use Rattle.outline.specs.Outline.{Outline, passed, result, from, then, wait_calls, loss_calls, change_calls, pluck_calls}
use Rattle.outline.specs.Outline.{in_force, act_calls, record_calls, records, opened, run}
use Rattle.timeline.specs.Merge.{merge}
use Rattle.timeline.specs.Events.{Event, event, records_in, events, events_of}
use Rattle.timeline.specs.Merged.{merge_record, merged_from, both, merged_records, merge_of}
use Rattle.timeline.specs.Theorems.{Plays, Itself}
use Rattle.timeline.specs.Order.{at}
use Rattle.outline.proofs.Calls.{then-calls, wait-accepted, wait_passes, loss_keeps}
use Rattle.timeline.proofs.Acts.{accepts, all, waiting}
use Rattle.timeline.specs.Ends.{Ends, done, next}
use Rattle.timeline.proofs.Listing.{listed}
use Rattle.timeline.proofs.Doings.{merged-loss, merged-change, merged_doings}
use Rattle.timeline.proofs.Merging.{N, Na, Ended, ended, eight, merging, alone}
use Rattle.timeline.proofs.Six.{opens_as, same-opening}
use Rattle.timeline.proofs.Whole.{ends-plays}

-- ---- calls that are accepted are made
module _ (n na : ℕ) (r : List ℕ) (o : Outline) where
  abbrev u : Outline
  u = passed (value r 0) o

  made : result na u (loss_calls r u) ≡ 0 → result na u (change_calls n r u) ≡ 0
      → record_calls n na r o ≡ waiting (value r 0) ∷ all n r u
  unfolding record_calls act_calls
  made p q =
      let f = then na (change_calls n r) (pluck_calls r) in
      then-calls na (wait_calls r) (then na (loss_calls r) f) o (rw (wait-accepted o (value r 0)) refl)
      ∙ ap (λ (x : Outline). waiting (value r 0) ∷ then na (loss_calls r) f x) (wait_passes na o (value r 0))
      ∙ ap (λ (cs : List Call). waiting (value r 0) ∷ cs) (then-calls na (loss_calls r) f u p
      ∙ ap (λ (x : Outline). loss_calls r u ++ f x) (loss_keeps na u r)
      ∙ ap (λ (cs : List Call). loss_calls r u ++ cs) (then-calls na (change_calls n r) (pluck_calls r) u q))

-- ---- a record with its fields written out makes the same calls
same-calls : (n na m : ℕ) (r : List ℕ) (o : Outline) → result na o (record_calls n na r o) ≡ 0
    → record_calls n na (merge_record (value r 0) (event m r o)) o ≡ record_calls n na r o
unfolding merge_record
same-calls n na m r o e =
    let p = accepts n na r o e in
    let x = event m r o in
    let w = value r 0 in
    let v = passed w o in
    made n na (merge_record w x) o
    (ap (λ (cs : List Call). result na v cs) (merged-loss n w x v) ∙ p.loss-taken)
    (ap (λ (cs : List Call). result na v cs) (merged-change n w x v) ∙ p.change)
    ∙ ap (λ (cs : List Call). waiting w ∷ cs) (merged_doings n w x v)
    ∙ sym p.calls

module _ (n na : ℕ) where
  same-record : (m : ℕ) (r : List ℕ) (o : Outline) → result na o (record_calls n na r o) ≡ 0
      → record_calls n na (merge_record (m + value r 0 - m) (event m r o)) o ≡ record_calls n na r o
  same-record m r o e =
      let i : m + value r 0 - m ≡ value r 0 = omega arith in
      ap (λ (w : ℕ). record_calls n na (merge_record w (event m r o)) o) i ∙ same-calls n na m r o e

  same-listed : (m : ℕ) {o : Outline} {rs : List (List ℕ)} → Ends n na o rs
      → listed n na o (merged_from m (events n na m o rs)) ≡ listed n na o rs
  unfolding events merged_from
  same-listed m done = refl
  same-listed m (next {o} {r} {rs} z s) =
      rw (same-record m r o z)
      (ap (λ (cs : List Call). record_calls n na r o ++ cs) (same-listed (m + value r 0) s))

  same_ends : (m : ℕ) {o : Outline} {rs : List (List ℕ)} → Ends n na o rs
      → Ends n na o (merged_from m (events n na m o rs))
  unfolding events merged_from
  same_ends m done = done
  same_ends m (next {o} {r} {rs} z s) =
      next {o = o} {r = merge_record (m + value r 0 - m) (event m r o)}
      {rs = merged_from (m + value r 0) (events n na (m + value r 0) (from na o (record_calls n na r o)) rs)} (rw (same-record m r o z) z)
      (rw (same-record m r o z) (same_ends (m + value r 0) s))

-- ---- the header alone
merge_none : (es : List Event) → merge at es [] ≡ es
merge_none [] = refl
merge_none (e ∷ es) = ap (λ (fs : List Event). e ∷ fs) (merge_none es)

module _ (a : List ℕ) (ha : Bytes a) (pa : Plays a) where
  abbrev b : List ℕ
  b = take 8 a

  abbrev m : List ℕ
  m = merge_of a b

  e₀ : Ended a pa.room
  e₀ = ended a pa.room pa.ends

  same : take 8 a ≡ take 8 b
  same = sym (take-take 8 8 a (omega arith))

  b-long : length b ≡ 8
  b-long = length-take-le 8 a (eight a pa.room e₀)

  b-none : drop 8 b ≡ []
  b-none = drop_of_length-le b {i = 8} (omega (arith, b-long))

  hb : Bytes b
  hb = taken-bytes 8 a ha

  b-ends : (run b).number ≡ 0
  unfolding run records
  b-ends =
      rw (eq-eqb (refusal (header_limits b)) 0 (opens_as b a (sym same) (omega (arith, b-long)) e₀.header), b-none)
      refl

  pb : Plays b
  pb = (alone b).outlined.1 b-ends

  no-events : events_of b ≡ []
  unfolding events_of events records_in
  no-events = rw b-none refl

  both_are : both a b ≡ events_of a
  both_are = ap (λ (es : List Event). merge at (events_of a) es) no-events ∙ merge_none (events_of a)

  records_are : merged_records a b ≡ merged_from 0 (events_of a)
  unfolding merged_records
  records_are = ap (λ (es : List Event). merged_from 0 es) both_are

  here : opening m ≡ opening a
  here = same-opening a b ha hb same pa pb

  ends-here : Ends (N a) (Na a) (opened a) (merged_records a b)
  unfolding events_of
  ends-here = subst (λ (rs : List (List ℕ)). Ends (N a) (Na a) (opened a) rs) (sym records_are)
      (same_ends (N a) (Na a) 0 e₀.whole.ends)

  calls_are : (i j : ℕ) → (Score.run a i).number ≡ 0 → (Score.run m j).number ≡ 0
      → (Score.run m j).calls ≡ (Score.run a i).calls
  unfolding events_of
  calls_are i j x y =
      (ended m j y).whole.calls
      ∙ ap (λ (rs : List (List ℕ)). listed (N m) (Na m) (opened m) rs)
      ((merging a b ha hb same pa pb).0.read_back ∙ records_are)
      ∙ ap (λ (o : Opening). listed o.N o.Na (in_force o.L o.d) (merged_from 0 (events_of a))) here
      ∙ same-listed (N a) (Na a) 0 e₀.whole.ends
      ∙ sym (ended a i x).whole.calls

pub itself : Itself
itself a ha pa =
    let b = take 8 a in
    (ends-plays a b ha (hb a ha pa) (same a ha pa) pa (pb a ha pa) (ends-here a ha pa), calls_are a ha pa)
