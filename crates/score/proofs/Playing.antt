-- A run between two records: what it has done, and what is left of it.
-- Assumes nothing.
use mathlib.Core.Path.{◌≡◌, refl, sym, ap, subst, ◌∙◌}
use mathlib.Core.List.{List, [], append-nil}
use Prim.Native.Nat.{ℕ, zero, suc, ◌+◌, ◌-◌, ◌≤◌, ◌<◌}
use native.Mathlib.Omega.{arith}
use borrow.Author.Tests.{eq-eqb, ne_eqb}
use lib.IntN.{ℤ}
use lib.ListN.{length}
use Rattle.refusal.specs.Limits.{refusal}
use Rattle.refusal.specs.Returned.{AllKept, none, more, Returned}
use Rattle.refusal.proofs.Returned.{returned}
use Rattle.rule.specs.Calls.{Call}
use Rattle.rule.specs.State.{State, from, puts}
use Rattle.record.specs.Record.{record_limits, record_number, fields, rest}
use Rattle.follow.specs.Follow.{value, result, record_calls}
use Rattle.score.specs.Run.{Outcome, ends, joined, play_limits, played, records}
use Rattle.score.specs.Run.{all_records}
use Rattle.samples.specs.Samples.{over}
use Rattle.score.specs.Played.{Plays}
use Rattle.record.proofs.Reading.{record-returned}

-- the records s on the voice u with the output out: left are the bytes t on the voice v, from index k on
pub record Playing (s : List ℕ) (u : State) (out : List ℤ) (v : State) (t : List ℕ) (k done : ℕ)
    (now : List ℤ) : Type 0 where
  pub most : ℕ
  pub enough : length t ≤ most
  pub calls : List Call
  pub left : joined calls (records most v t (length out - done) k) ≡ all_records u s (length out)
  pub state : from u calls ≡ v
  pub few : k + length t ≤ length s
  pub count : done ≡ length (puts u calls)
  pub within : done ≤ length out
  pub output : now ≡ over (puts u calls) out

pub begun : (s : List ℕ) (u : State) (out : List ℤ) → Playing s u out u s 0 0 out
begun s u out = let none_done : length out - 0 ≡ length out = omega arith in record {
  most = length s;
  enough = omega arith;
  calls = [];
  left = ap (λ (n : ℕ). records (length s) u s n 0) none_done;
  state = refl;
  few = omega arith;
  count = refl;
  within = omega arith;
  output = refl;
}

-- ---- the number of a record in a run
-- demand 1 of a record in a run: 14, 15, then 16, each where its condition holds and no earlier one does
pub play-returned : (t : List ℕ) (room : ℕ) → Returned (play_limits t room)
play-returned t room = returned (play_limits t room) tt

pub has_room : (t : List ℕ) (room : ℕ) → refusal (play_limits t room) ≡ 0
    → (record_number t ≡ 0) × (value (fields t) 0 ≤ room)
unfolding record_number
has_room t room e = go ((play-returned t room).accepted.0 e)
  where
    go : AllKept (play_limits t room) → (refusal (record_limits t) ≡ 0) × (value (fields t) 0 ≤ room)
    go (more a (more b (more k none))) = ((record-returned t).accepted.1 (more a (more b none)), k.most)

-- ---- one record
pub no_record : (n : ℕ) (v : State) (t : List ℕ) (room k : ℕ) → length t ≡ 0 → records n v t room k
    ≡ ends 0 k []
unfolding records
no_record zero v t room k e = refl
no_record (suc n) v t room k e = rw (eq-eqb (length t) 0 e)

pub one-record : (n : ℕ) (v : State) (t : List ℕ) (room k : ℕ) → 0 < length t → length t ≤ n
    → records n v t room k ≡ played (refusal (play_limits t room)) v (record_calls (fields t) v) k
    (records (n - 1) (from v (record_calls (fields t) v)) (rest t) (room - value (fields t) 0) (k + 1))
unfolding records
one-record zero v t room k h i = absurd (omega arith)
one-record (suc n) v t room k h i =
    let e : n ≡ suc n - 1 = omega arith in
    let cs = record_calls (fields t) v in
    rw (ne_eqb (length t) 0 (λ z. omega arith))
    (ap (λ (m : ℕ). played (refusal (play_limits t room)) v cs k
    (records m (from v cs) (rest t) (room - value (fields t) 0) (k + 1))) e)

module _ {n : ℕ} (v : State) (cs : List Call) (k : ℕ) (o : Outcome) where
  played_bad : (n ≡ 0 → ⊥) → played n v cs k o ≡ ends n k []
  unfolding played
  played_bad f = rw (ne_eqb n 0 f)

  pub played-stops : n ≡ 0 → (result v cs ≡ 0 → ⊥) → played n v cs k o ≡ ends (result v cs) k cs
  unfolding played
  played-stops e f = rw (eq-eqb n 0 e, ne_eqb (result v cs) 0 f)

  pub played-all : n ≡ 0 → result v cs ≡ 0 → played n v cs k o ≡ joined cs o
  unfolding played
  played-all e i = rw (eq-eqb n 0 e, eq-eqb (result v cs) 0 i)

-- ---- a run that ends, and one that goes on
pub plays_as : {o : Outcome} (u : State) (out : List ℤ) {n k : ℕ} (cs : List Call) {d : ℕ} {now : List ℤ}
    → o ≡ ends n k cs → d ≡ length (puts u cs) → now ≡ over (puts u cs) out
    → Plays o u out (record { refusal = n; place = k; written = d }) now
plays_as u out {n} {k} cs {d} {now} e i j =
    subst (λ (o : Outcome). Plays o u out (record { refusal = n; place = k; written = d }) now) (sym e)
    (record { number = refl; place = refl; count = i; output_is = j })

module _ (s : List ℕ) (u : State) (out : List ℤ) (v : State) (t : List ℕ) (k done : ℕ) (now : List ℤ)
    (p : Playing s u out v t k done now) where
  ended : (n : ℕ) → joined p.calls (ends n k []) ≡ all_records u s (length out)
      → Plays (all_records u s (length out)) u out (record { refusal = n; place = k; written = done }) now
  ended n e =
      plays_as u out p.calls
      (sym e ∙ ap (λ (cs : List Call). ends n k cs) (append-nil p.calls)) p.count p.output

  pub all-played : length t ≤ 0 → Plays (all_records u s (length out)) u out
      (record { refusal = 0; place = k; written = done }) now
  all-played h =
      let e : length t ≡ 0 = omega arith in
      ended 0
      (ap (λ (o : Outcome). joined p.calls o) (sym (no_record p.most v t (length out - done) k e))
      ∙ p.left)

  module _ (h : 0 < length t) where
    abbrev pub n : ℕ
    n = refusal (play_limits t (length out - done))

    abbrev pub cs : List Call
    cs = record_calls (fields t) v

    abbrev pub later : Outcome
    later = records (p.most - 1) (from v cs) (rest t) (length out - done - value (fields t) 0) (k + 1)

    pub opens : {o : Outcome} → played n v cs k later ≡ o → joined p.calls o ≡ all_records u s (length out)
    opens e =
        ap (λ (o : Outcome). joined p.calls o) (sym e)
        ∙ ap (λ (o : Outcome). joined p.calls o) (sym (one-record p.most v t (length out - done) k h
        p.enough))
        ∙ p.left

    pub refused : {m : ℕ} → m ≡ refusal (play_limits t (length out - done)) → (m ≡ 0 → ⊥)
        → Plays (all_records u s (length out)) u out (record { refusal = m; place = k; written = done }) now
    refused {m} e f =
        ended m (opens (played_bad v cs k later (λ z. f (e ∙ z)) ∙ ap (λ (i : ℕ). ends i k []) (sym e)))
