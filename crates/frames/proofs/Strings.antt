-- A string's step in its row leaves the other rows; three of them are a side, and two sides are all six.
use mathlib.Core.Path.{◌≡◌, sym, ap, ap₂, ◌∙◌}
use mathlib.Core.List.{List, []}
use Prim.Native.Nat.{ℕ, ◌+◌, ◌≤◌, ◌<◌}
use native.Mathlib.Omega.{arith}
use native.Mathlib.Decide.{ℕ_discrete, dec_lt}
use borrow.Author.Tests.{lt-ltb, le-ltb}
use lib.IntN.{ℤ, ◌+ℤ◌}
use lib.ListN.{get_or, set, length-set}
use lib.Seq.{get_or-set_same, get_or-set_other}
use Rattle.integer.specs.Rounding.{clip}
use Rattle.rule.specs.State.{State, step, sounds}
use Rattle.voice.specs.Struct.{state_of}
use Rattle.voice.specs.Valid.{Valid}
use Rattle.packed.specs.Words.{head_of}
use Rattle.instrument.specs.Strings.{Strings}
use Rattle.strings.specs.Rows.{strings_of, Voices}
use Rattle.frames.specs.Steps.{Row, OneString, three, side, Side}

-- ---- one row
module _ (hs : List (List ℕ)) (ls : List (List ℤ)) (k : ℕ) (x : ℤ) (w : List ℕ) (m : List ℤ) (v : Voices hs ls)
    (h : k ≤ 5) where
  words : get_or (set hs k w) k [] ≡ w
  words = get_or-set_same hs k w [] (omega (arith, v.heads))

  line : get_or (set ls k m) k [] ≡ m
  line = get_or-set_same ls k m [] (omega (arith, v.lines))

  pub one-string : {y : ℤ} → Row (get_or hs k []) (get_or ls k []) x y w m
      → OneString hs ls k x y (set hs k w) (set ls k m)
  one-string r = record {
    value = r.value;
    small = r.small;
    own = ap₂ (λ (u : List ℕ) (l : List ℤ). state_of (head_of u) l) words line ∙ r.state;
    others = λ j f.
        ap₂ (λ (u : List ℕ) (l : List ℤ). state_of (head_of u) l) (get_or-set_other hs k j w [] f)
        (get_or-set_other ls k j m [] f);
    voices = record {
      heads = length-set hs k w ∙ v.heads;
      lines = length-set ls k m ∙ v.lines;
      valid = λ j l. go j l (ℕ_discrete j k);
    };
  }
    where
      go : (j : ℕ) → j ≤ 5 → Dec (j ≡ k) → Valid (head_of (get_or (set hs k w) j [])) (get_or (set ls k m) j [])
      go j l (yes i) = rw (i, words, line) r.valid
      go j l (no f) = rw (get_or-set_other hs k j w [] f, get_or-set_other ls k j m [] f) (v.valid j l)

-- ---- strings that stand outside of the three, or among them
module _ (s : Strings) (k : ℕ) (x : ℤ) (j : ℕ) where
  before : j < k → three s k x j ≡ s j
  before h = rw (lt-ltb j k h)

  past : k + 2 < j → three s k x j ≡ s j
  past h = rw (le-ltb j k (omega arith), lt-ltb (k + 2) j h)

  among : k ≤ j → j ≤ k + 2 → three s k x j ≡ step (s j) x
  among h l = rw (le-ltb j k h, le-ltb (k + 2) j l)

-- ---- three strings
module _ {hs hs1 hs2 hs3 : List (List ℕ)} {ls ls1 ls2 ls3 : List (List ℤ)} (k : ℕ) (x : ℤ) {a b c : ℤ}
    (p : OneString hs ls k x a hs1 ls1) (q : OneString hs1 ls1 (k + 1) x b hs2 ls2)
    (r : OneString hs2 ls2 (k + 2) x c hs3 ls3) where
  abbrev s : Strings
  s = strings_of hs ls

  second : strings_of hs1 ls1 (k + 1) ≡ s (k + 1)
  second = p.others (k + 1) (λ e. omega arith)

  third : strings_of hs2 ls2 (k + 2) ≡ s (k + 2)
  third = q.others (k + 2) (λ e. omega arith) ∙ p.others (k + 2) (λ e. omega arith)

  pub sum_is : clip ((a +ℤ b) +ℤ c) ≡ side s k
  sum_is =
      rw (
        p.value,
        q.value ∙ ap sounds second,
        r.value ∙ ap sounds third,
      )

  pub three_are : (j : ℕ) → strings_of hs3 ls3 j ≡ three s k x j
  three_are j = go (ℕ_discrete j k) (ℕ_discrete j (k + 1)) (ℕ_discrete j (k + 2)) (dec_lt j k)
    where
      at : (i : ℕ) → j ≡ i → k ≤ i → i ≤ k + 2 → strings_of hs3 ls3 i ≡ step (s i) x
          → strings_of hs3 ls3 j ≡ three s k x j
      at i e l g f = rw e (f ∙ sym (among s k x i l g))

      go : Dec (j ≡ k) → Dec (j ≡ k + 1) → Dec (j ≡ k + 2) → Dec (j < k) → strings_of hs3 ls3 j ≡ three s k x j
      go (yes e) f g d =
          at k e (omega arith) (omega arith)
          (r.others k (λ z. omega arith) ∙ q.others k (λ z. omega arith) ∙ p.own)
      go (no n) (yes e) g d =
          at (k + 1) e (omega arith) (omega arith)
          (r.others (k + 1) (λ z. omega arith) ∙ q.own ∙ ap (λ (v : State). step v x) second)
      go (no n) (no f) (yes e) d =
          at (k + 2) e (omega arith) (omega arith) (r.own ∙ ap (λ (v : State). step v x) third)
      go (no n) (no f) (no g) (yes l) =
          r.others j g ∙ q.others j f ∙ p.others j n ∙ sym (before s k x j l)
      go (no n) (no f) (no g) (no l) =
          r.others j g ∙ q.others j f ∙ p.others j n ∙ sym (past s k x j (omega arith))

-- ---- all six
module _ {hs hs1 hs2 : List (List ℕ)} {ls ls1 ls2 : List (List ℤ)} (x : ℤ) {a b : ℤ}
    (p : Side hs ls 0 x a hs1 ls1) (q : Side hs1 ls1 3 x b hs2 ls2) where
  abbrev t : Strings
  t = strings_of hs ls

  abbrev u : Strings
  u = strings_of hs1 ls1

  stays : (j : ℕ) → 2 < j → u j ≡ t j
  stays j h = p.states j ∙ past t 0 x j h

  pub right_is : b ≡ side t 3
  right_is = q.value ∙ rw (stays 3 (omega arith), stays 4 (omega arith), stays 5 (omega arith))

  pub six_are : (j : ℕ) → j ≤ 5 → strings_of hs2 ls2 j ≡ step (t j) x
  six_are j l = go (dec_lt j 3)
    where
      go : Dec (j < 3) → strings_of hs2 ls2 j ≡ step (t j) x
      go (yes h) =
          q.states j ∙ before u 3 x j h ∙ p.states j ∙ among t 0 x j (omega arith) (omega arith)
      go (no h) =
          q.states j
          ∙ among u 3 x j (omega arith) (omega arith)
          ∙ ap (λ (v : State). step v x) (stays j (omega arith))
