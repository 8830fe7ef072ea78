-- One law for all rows: a call on string k that leaves a voice in row k leaves the other five as they
-- were; 24 leaves all six.
use mathlib.Core.Path.{◌≡◌, sym, ap, ap₂, subst, ◌∙◌}
use mathlib.Core.List.{List, []}
use Prim.Native.Nat.{ℕ, ◌≤◌, ◌<◌}
use native.Mathlib.Omega.{arith}
use native.Mathlib.Decide.{ℕ_discrete}
use borrow.Author.Tests.{lt-ltb}
use lib.IntN.{ℤ}
use lib.ListN.{length, get_or, set, length-set}
use lib.Seq.{get_or-set_same, get_or-set_other, set-get_or}
use Rattle.std.specs.Prelude.{Ok}
use Rattle.refusal.specs.Limits.{refusal}
use Rattle.refusal.specs.Returned.{Kept}
use Rattle.refusal.proofs.Returned.{is-met}
use Rattle.rule.specs.Calls as C
use Rattle.rule.specs.Calls.{Call}
use Rattle.form.specs.Loads.{left}
use Rattle.voice.specs.Struct.{state_of}
use Rattle.voice.specs.Valid.{Valid}
use Rattle.voice.specs.Called as Voice
use Rattle.voice.proofs.Called as Calls
use Rattle.packed.specs.Words.{head_of}
use Rattle.kept.specs.Lent.{answer_of}
use Rattle.instrument.specs.Strings.{Own, calls, on, Strings, string_limit, own_limits, number, own}
use Rattle.instrument.specs.Strings.{play, own_count, counted, lent}
use Rattle.instrument.proofs.Apart.{nothing, others, itself, number-itself, count-itself, lent-itself}
use Rattle.strings.specs.Rows.{strings_of, Heads, Voices, RowOf, Called, Played}

-- ---- 24
pub number-above : (s : Strings) (k : ℕ) (a : Own) → 5 < k → 24 ≡ number s (on k a)
unfolding number
number-above s k a h = rw (is-met (string_limit k) (λ (p : Kept (string_limit k)). omega (arith, p.most)))

pub none-counted : (s : Strings) (k : ℕ) (a : Own) → 5 < k → 0 ≡ counted s k a
unfolding counted
none-counted s k a h = rw (lt-ltb 5 k h)

pub none_lent : (s : Strings) (k : ℕ) (old : List ℕ) → 5 < k → old ≡ lent s k old
unfolding lent
none_lent s k old h = rw (lt-ltb 5 k h)

pub played_above : {hs : List (List ℕ)} {ls : List (List ℤ)} {k n : ℕ} {a : Own} → Voices hs ls → n ≡ 24 → 5 < k
    → Played hs ls (on k a) n hs ls
played_above {hs} {ls} {k} {n} {a} v e h = record {
  number = e ∙ number-above (strings_of hs ls) k a h;
  states = λ j l. sym (nothing (strings_of hs ls) k a h j);
  voices = v;
}

pub called_above : {hs : List (List ℕ)} {k n : ℕ} {a : Own} → n ≡ 24 → 5 < k → Called hs k a n hs
called_above {hs} {k} {n} {a} e h = record {
  number = λ ls. e ∙ number-above (strings_of hs ls) k a h;
  states = λ ls j l. sym (nothing (strings_of hs ls) k a h j);
  voices = λ ls v. v;
}

-- ---- a string at its row
module _ (s : Strings) {k i : ℕ} where
  pub number-row : (a : Own) → RowOf k (Ok i) → refusal (own_limits (s i) a) ≡ number s (on k a)
  number-row a h = rw (← h.0) (sym (number-itself i (omega (arith, h.0, h.1)) s a))

  pub count-row : (a : Own) → RowOf k (Ok i) → own_count (s i) a ≡ counted s k a
  count-row a h = rw (← h.0) (sym (count-itself i (omega (arith, h.0, h.1)) s a))

  pub lent-row : (old : List ℕ) → RowOf k (Ok i) → left (s i) old ≡ lent s k old
  lent-row old h = rw (← h.0) (sym (lent-itself i (omega (arith, h.0, h.1)) s old))

-- ---- a row that is set
module _ (hs : List (List ℕ)) (ls : List (List ℤ)) (k : ℕ) (w : List ℕ) (m : List ℤ) where
  pub other_row : (j : ℕ) → (j ≡ k → ⊥) → strings_of (set hs k w) (set ls k m) j ≡ strings_of hs ls j
  other_row j f =
      ap₂ (λ (u : List ℕ) (l : List ℤ). state_of (head_of u) l) (get_or-set_other hs k j w [] f)
      (get_or-set_other ls k j m [] f)

module _ (hs : List (List ℕ)) (ls : List (List ℤ)) (k : ℕ) (w : List ℕ) (m : List ℤ) (p : k < length hs)
    (q : get_or (set ls k m) k [] ≡ m) where
  pub same_row : strings_of (set hs k w) (set ls k m) k ≡ state_of (head_of w) m
  same_row = ap₂ (λ (u : List ℕ) (l : List ℤ). state_of (head_of u) l) (get_or-set_same hs k w [] p) q

  states : (a : Own) → k ≤ 5 → state_of (head_of w) m ≡ own (strings_of hs ls k) a
      → (j : ℕ) → strings_of (set hs k w) (set ls k m) j ≡ play (strings_of hs ls) (on k a) j
  states a h e j = go (ℕ_discrete j k)
    where
      go : Dec (j ≡ k) → strings_of (set hs k w) (set ls k m) j ≡ play (strings_of hs ls) (on k a) j
      go (yes i) = rw i (same_row ∙ e ∙ sym (itself k h (strings_of hs ls) a))
      go (no f) = other_row hs ls k w m j f ∙ sym (others (strings_of hs ls) k j a f)

  pub voices : Voices hs ls → Valid (head_of w) m → Voices (set hs k w) (set ls k m)
  voices v g = record {
    heads = length-set hs k w ∙ v.heads;
    lines = length-set ls k m ∙ v.lines;
    valid = λ j l. go j l (ℕ_discrete j k);
  }
    where
      go : (j : ℕ) → j ≤ 5 → Dec (j ≡ k) → Valid (head_of (get_or (set hs k w) j [])) (get_or (set ls k m) j [])
      go j l (yes i) = rw (i, get_or-set_same hs k w [] p, q) g
      go j l (no f) = rw (get_or-set_other hs k j w [] f, get_or-set_other ls k j m [] f) (v.valid j l)

-- ---- a call on row k, which is at i
module _ {hs : List (List ℕ)} {ls : List (List ℤ)} {k i : ℕ} (a : Own) (w : List ℕ) (v : Voices hs ls)
    (h : RowOf k (Ok i)) where
  pub played : {n : ℕ} (m : List ℤ) → n ≡ refusal (own_limits (strings_of hs ls i) a)
      → state_of (head_of w) m ≡ own (strings_of hs ls i) a → Valid (head_of w) m
      → Played hs ls (on k a) n (set hs i w) (set ls i m)
  played {n} m e s g =
      let p : i < length hs = omega (arith, h.0, h.1, v.heads) in
      let q = get_or-set_same ls i m [] (omega (arith, h.0, h.1, v.lines)) in
      rw (← h.0) (record {
        number = e ∙ sym (number-itself i (omega (arith, h.0, h.1)) (strings_of hs ls) a);
        states = λ j l. states hs ls i w m p q a (omega (arith, h.0, h.1)) s j;
        voices = voices hs ls i w m p q v g;
      })

  -- that leaves its line
  pub played-still : {n : ℕ} → n ≡ refusal (own_limits (strings_of hs ls i) a)
      → state_of (head_of w) (get_or ls i []) ≡ own (strings_of hs ls i) a → Valid (head_of w) (get_or ls i [])
      → Played hs ls (on k a) n (set hs i w) ls
  played-still {n} e s g =
      subst (λ (ks : List (List ℤ)). Played hs ls (on k a) n (set hs i w) ks) (set-get_or ls i [])
      (played {n = n} (get_or ls i []) e s g)

-- on its words alone
module _ {hs : List (List ℕ)} {k i : ℕ} (c : Call) {n : ℕ} (w : List ℕ) (f : Heads hs) (h : RowOf k (Ok i))
    (r : Voice.Called (head_of (get_or hs i [])) c (answer_of n w)) where
  place : i < length hs
  place = omega (arith, h.0, h.1, f.six)

  least : i ≤ 5
  least = omega (arith, h.0, h.1)

  kept : (ls : List (List ℤ)) → get_or (set ls i (get_or ls i [])) i [] ≡ get_or ls i []
  kept ls = ap (λ (ks : List (List ℤ)). get_or ks i []) (set-get_or ls i [])

  own-call : Called hs i (calls c) n (set hs i w)
  unfolding C.number
  own-call = record {
    number = λ ls. r.number ∙ sym (number-itself i least (strings_of hs ls) (calls c));
    states = λ ls j l.
        subst (λ (ks : List (List ℤ)). strings_of (set hs i w) ks j ≡ play (strings_of hs ls) (on i (calls c)) j)
        (set-get_or ls i [])
        (states hs ls i w (get_or ls i []) place (kept ls) (calls c) least (r.state (get_or ls i [])) j);
    voices = λ ls v.
        subst (λ (ks : List (List ℤ)). Voices (set hs i w) ks) (set-get_or ls i [])
        (voices hs ls i w (get_or ls i []) place (kept ls) v
        (Calls.on (get_or ls i []) r (v.valid i least).line).valid);
  }

  pub called : Called hs k (calls c) n (set hs i w)
  called = subst (λ (j : ℕ). Called hs j (calls c) n (set hs i w)) h.0 own-call
