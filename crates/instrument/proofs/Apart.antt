-- A call on one string leaves the others: `Apart`.
use mathlib.Core.Path.{◌≡◌, refl, sym, ap, ◌∙◌}
use mathlib.Core.Bool.{Bool, true, false, cond}
use mathlib.Core.List.{List, [], ◌∷◌}
use Prim.Native.Nat.{ℕ, ◌≤◌, ◌<◌}
use lib.Dec.{eqb, ltb}
use borrow.Author.Tests.{eqb-true, eqb-false, eq-eqb, ne_eqb, le-ltb, lt-ltb}
use Rattle.refusal.specs.Limits.{refusal}
use Rattle.rule.specs.Calls.{block}
use Rattle.rule.specs.Calls as C
use Rattle.rule.specs.State.{State, put}
use Rattle.form.specs.Parts.{stored}
use Rattle.form.specs.Loads.{left}
use Rattle.instrument.specs.Strings.{Own, opens, calls, store, load, Play, on, mix, Strings}
use Rattle.instrument.specs.Strings.{own_limits, number, own, set, play, plays, out, own_out}
use Rattle.instrument.specs.Strings.{own_count, counted, lent}
use Rattle.instrument.specs.Apart.{its, Answer, answer, slice, answers, owns, own_slice, own_answers}
use Rattle.instrument.specs.Apart.{Apart}
use Rattle.instrument.proofs.Numbers.{own_number}

-- ---- a call on a string above 5
pub nothing : (s : Strings) (k : ℕ) (a : Own) → 5 < k → (j : ℕ) → play s (on k a) j ≡ s j
unfolding play
nothing s k a h j = ap (λ (b : Bool). cond b (s j) (set s k (own (s k) a) j)) (lt-ltb 5 k h)

pub quiet : (s : Strings) (k : ℕ) (a : Own) → 5 < k → out s (on k a) ≡ []
unfolding out
quiet s k a h = ap (λ (b : Bool). cond b [] (own_out (s k) a)) (lt-ltb 5 k h)

pub others : (s : Strings) (k j : ℕ) (a : Own) → (j ≡ k → ⊥) → play s (on k a) j ≡ s j
unfolding play
others s k j a f = go (ltb 5 k)
  where
    go : (b : Bool) → cond b (s j) (set s k (own (s k) a) j) ≡ s j
    go true = refl
    go false = ap (λ (b : Bool). cond b (own (s k) a) (s j)) (ne_eqb j k f)

-- ---- on a string from 0 to 5
module _ (k : ℕ) (h : k ≤ 5) where
  pub itself : (s : Strings) (a : Own) → play s (on k a) k ≡ own (s k) a
  unfolding play
  itself s a = rw (le-ltb 5 k h, eq-eqb k k refl)

  pub out-itself : (s : Strings) (a : Own) → out s (on k a) ≡ own_out (s k) a
  unfolding out
  out-itself s a = rw (le-ltb 5 k h)

  pub number-itself : (s : Strings) (a : Own) → number s (on k a) ≡ refusal (own_limits (s k) a)
  number-itself s a = own_number k h s a

  pub count-itself : (s : Strings) (a : Own) → counted s k a ≡ own_count (s k) a
  unfolding counted
  count-itself s a = rw (le-ltb 5 k h)

  pub lent-itself : (s : Strings) (old : List ℕ) → lent s k old ≡ left (s k) old
  unfolding lent
  lent-itself s old = ap (λ (b : Bool). cond b old (left (s k) old)) (le-ltb 5 k h)

  slice-itself : (s : Strings) (a : Own) → slice s k a ≡ own_slice (s k) a
  slice-itself s (opens o) = refl
  slice-itself s (calls c) = refl
  slice-itself s (store old) = lent-itself s old
  slice-itself s (load bytes) = refl

  answer-itself : (s : Strings) (a : Own)
      → answer (number s (on k a)) (counted s k a) (out s (on k a)) (slice s k a)
      ≡ answer (refusal (own_limits (s k) a)) (own_count (s k) a) (own_out (s k) a) (own_slice (s k) a)
  answer-itself s a = rw (number-itself s a, count-itself s a, out-itself s a, slice-itself s a)

  -- the same of a string j that is k
  answer-own : (s : Strings) (a : Own) (j : ℕ) → k ≡ j
      → answer (number s (on j a)) (counted s j a) (out s (on j a)) (slice s j a)
      ≡ answer (refusal (own_limits (s k) a)) (own_count (s k) a) (own_out (s k) a) (own_slice (s k) a)
  answer-own s a j i =
      let f : (n : ℕ) → Answer = λ n. answer (number s (on n a)) (counted s n a) (out s (on n a)) (slice s n a) in
      sym (ap f i) ∙ answer-itself s a

  play-own : (s : Strings) (a : Own) (j : ℕ) → k ≡ j → play s (on j a) k ≡ own (s k) a
  play-own s a j i = sym (ap (λ (n : ℕ). play s (on n a) k) i) ∙ itself s a

  -- ---- a list of calls
  pub alone : (ps : List Play) (s : Strings) → plays s ps k ≡ owns (s k) (its k ps)
  unfolding play
  alone [] s = refl
  alone (on j a ∷ ps) s = alone ps (play s (on j a)) ∙ go (eqb k j) refl
    where
      go : (b : Bool) → eqb k j ≡ b
          → owns (play s (on j a) k) (its k ps) ≡ owns (s k) (cond b (a ∷ its k ps) (its k ps))
      go true e =
          let i : k ≡ j = eqb-true k j e in
          ap (λ (v : State). owns v (its k ps)) (rw (← i) (itself s a))
      go false e = ap (λ (v : State). owns v (its k ps)) (others s j k a (eqb-false k j e))
  alone (mix xs n ∷ ps) s = alone ps (play s (mix xs n))

  answers_alone : (ps : List Play) (s : Strings) → answers s k ps ≡ own_answers (s k) (its k ps)
  unfolding play number C.number C.count
  answers_alone [] s = refl
  answers_alone (on j a ∷ ps) s = go (eqb k j) refl (answers_alone ps (play s (on j a)))
    where
      go : (b : Bool) → eqb k j ≡ b
          → answers (play s (on j a)) k ps ≡ own_answers (play s (on j a) k) (its k ps)
          → cond b
          (answer (number s (on j a)) (counted s j a) (out s (on j a)) (slice s j a)
          ∷ answers (play s (on j a)) k ps)
          (answers (play s (on j a)) k ps)
          ≡ own_answers (s k) (cond b (a ∷ its k ps) (its k ps))
      go true e rest =
          let i : k ≡ j = eqb-true k j e in
          rw (answer-own s a j i)
          (ap (◌∷◌ (answer (refusal (own_limits (s k) a)) (own_count (s k) a) (own_out (s k) a) (own_slice (s k) a)))
          (rest ∙ ap (λ (v : State). own_answers v (its k ps)) (play-own s a j i)))
      go false e rest = rest ∙ ap (λ (v : State). own_answers v (its k ps)) (others s j k a (eqb-false k j e))
  answers_alone (mix xs n ∷ ps) s =
      ap (λ (r : List Answer). answer (number s (mix xs n)) 0 (put (s k) (block xs n)) [] ∷ r)
      (answers_alone ps (play s (mix xs n)))

pub apart : Apart
apart = record {
  others = others;
  forms = λ s k j a f. ap stored (others s k j a f);
  alone = λ s ps k h. alone k h ps s;
  answers_alone = λ s ps k h. answers_alone k h ps s;
  alike = λ s u ps qs k h e i. (
    alone k h ps s ∙ rw (e, i) refl ∙ sym (alone k h qs u),
    answers_alone k h ps s ∙ rw (e, i) refl ∙ sym (answers_alone k h qs u),
  );
}
