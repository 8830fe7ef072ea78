-- A record in the loop of `score::play`, once it was followed: the run ends with it or goes on.
-- Assumes nothing.
use mathlib.Core.Path.{◌≡◌, refl, sym, ap, subst, ◌∙◌}
use mathlib.Core.List.{List, [], ◌∷◌}
use Prim.Native.Nat.{ℕ, ◌+◌, ◌-◌, ◌<◌}
use borrow.Rule.Slice.PartMut.{put_mid}
use lib.IntN.{ℤ}
use lib.ListN.{length}
use Rattle.rule.specs.Calls.{Call, announce}
use Rattle.rule.specs.State.{puts}
use Rattle.voice.specs.Called.{Answer}
use Rattle.voice.specs.declared.Head.{Head}
use Rattle.voice.specs.Struct.{state_of}
use Rattle.voice.specs.Called.{On}
use Rattle.record.specs.Record.{fields}
use Rattle.follow.specs.Follow.{value, change_to, act_calls, record_calls}
use Rattle.follow.specs.Does.{Does}
use Rattle.follow.proofs.Following.{does-one}
use Rattle.follow.proofs.Record.{record-heard, record-acts}
use Rattle.score.specs.Played.{PlaysAll}
use Rattle.score.proofs.Playing.{Playing}
use Rattle.score.proofs.Turns.{still-long, stopped, shorter, goes_on}
use Rattle.score.proofs.play.Answers.Loop.{Waits-read, Rendered, bytes, opened, lent, head, line, voice, left}
use Rattle.score.proofs.play.Answers.Loop.{index, done, output, playing, some, read, taken, wait-is}
use Rattle.score.proofs.play.Answers.Waited.{began, wait, ends_at, part, long, at, samples, waited}

-- ---- a record whose wait was rendered
module _ (c : Rendered) where
  abbrev wait-read : Waits-read
  wait-read = wait (began c.before)

  abbrev pub ends : ℕ
  ends = ends_at (began c.before)

  abbrev pub g : Head
  g = c.if-n-wait.head

  abbrev pub k : List ℤ
  k = c.if-n-wait.line

  -- its nine numbers
  abbrev pub numbers : List ℕ
  numbers = (at c).read_record-rest.new.fields

  value-long : length (part (began c.before)) ≡ value (fields (left (at c))) 0
  value-long = long (began c.before) ∙ wait-is wait-read

  heard : samples c ≡ puts (voice (at c)) (record_calls (fields (left (at c))) (voice (at c)))
  heard = record-heard (fields (left (at c))) (head (at c)) (line (at c)) value-long refl

  ends_is : ends ≡ done (at c) + value (fields (left (at c))) 0
  ends_is = ap (λ (n : ℕ). done (at c) + n) (wait-is wait-read)

  pub same : length c.if-n-wait.output ≡ length (lent (at c))
  same =
      let p = at c in
      ap (λ (o : List ℤ). length o) (waited c).2
      ∙ still-long (bytes p) (opened p) (lent p) (voice p) (left p) (index p) (done p) (output p) (playing p)
      (some p) (taken wait-read) (samples c) heard ends_is

  pub fewer : length (at c).read_record-rest.result.now < length (left (at c))
  fewer =
      let p = at c in
      subst (λ (t : List ℕ). length t < length (left p)) (sym p.read_record-rest.ensures.result_value)
      (shorter (bytes p) (opened p) (lent p) (voice p) (left p) (index p) (done p) (output p) (playing p)
      (some p) (taken wait-read) (samples c) heard ends_is)

  -- it made its calls, with this answer
  abbrev pub Follows : Answer → Type 0
  Follows a = Does (head (at c)) (line (at c)) (record_calls (fields (left (at c))) (voice (at c))) a k

  pub acts : {a : Answer} → Does g k (act_calls numbers (state_of g k)) a k → Follows a
  acts {a} d =
      record-acts (fields (left (at c))) (head (at c)) (line (at c)) value-long g k (waited c).0 (waited c).1
      (subst (λ (r : List ℕ). Does g k (act_calls r (state_of g k)) a k) (read (at c)) d)

  -- it made an announced change alone
  pub announced : act_calls numbers (state_of g k) ≡ announce (change_to numbers (state_of g k)) ∷ [] → {a : Answer}
      → On g k (announce (change_to numbers (state_of g k))) a k → Follows a
  announced e {a} o = acts (subst (λ (cs : List Call). Does g k cs a k) (sym e) (does-one g k o))

  pub ends_with : {a : Answer} → Follows a → (a.refusal ≡ 0 → ⊥)
      → PlaysAll (bytes (at c)) (opened (at c)) (lent (at c))
      (record { refusal = a.refusal; place = index (at c); written = ends }) c.if-n-wait.output
  ends_with {a} f n =
      let p = at c in
      subst (λ (o : List ℤ). PlaysAll (bytes p) (opened p) (lent p)
      (record { refusal = a.refusal; place = index p; written = ends }) o) (sym (waited c).2)
      (stopped (bytes p) (opened p) (lent p) (voice p) (left p) (index p) (done p) (output p) (playing p)
      (some p) (taken wait-read) (samples c) heard ends_is f.number n)

  pub plays-on : {a : Answer} → Follows a → a.refusal ≡ 0
      → Playing (bytes (at c)) (opened (at c)) (lent (at c)) (state_of a.head k)
      (at c).read_record-rest.result.now (index (at c) + 1) ends c.if-n-wait.output
  plays-on {a} f z =
      let p = at c in
      let v = state_of a.head k in
      subst (λ (o : List ℤ). Playing (bytes p) (opened p) (lent p) v
      p.read_record-rest.result.now (index p + 1) ends o) (sym (waited c).2)
      (subst (λ (t : List ℕ). Playing (bytes p) (opened p) (lent p) v t (index p + 1) ends
      (put_mid (done p) (ends - done p) (output p) (samples c)))
      (sym p.read_record-rest.ensures.result_value)
      (goes_on (bytes p) (opened p) (lent p) (voice p) (left p) (index p) (done p) (output p) (playing p)
      (some p) (taken wait-read) (samples c) heard ends_is (sym f.number ∙ z) f.state))
