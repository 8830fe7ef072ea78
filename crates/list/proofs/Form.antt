-- Laws of the words of a list of calls: the next call's words, and what is in form with more output left.
-- Assumes nothing.
use mathlib.Core.Path.{◌≡◌, refl, sym, ap, subst, ◌∙◌}
use mathlib.Core.Bool.{Bool, true, false, ◌&&◌, true≢false}
use mathlib.Core.List.{List, [], ◌∷◌}
use Prim.Native.Nat.{ℕ, suc, ◌-◌, ◌≤◌, ◌<◌}
use native.Mathlib.Omega.{arith}
use borrow.Author.Tests.{leb-true, ltb-true, le-leb, lt-leb, lt-ltb, ne_eqb}
use lib.Dec.{T, leb, ltb, eqb}
use lib.IntN.{ℤ}
use lib.ListN.{length, drop, get_or}
use Rattle.list.specs.declared.words.Item.{Item}
use Rattle.list.specs.Words.{takes, lends, last_kind, calls, fits, formed}
use Rattle.list.specs.Items.{item_of, inputs_of, outputs_of, Reads}

-- ---- the words of the next call, and what is behind them
pub four : (ws : List ℕ) → 4 ≤ length ws
    → ws ≡ get_or ws 0 0 ∷ get_or ws 1 0 ∷ get_or ws 2 0 ∷ get_or ws 3 0 ∷ drop 4 ws
four [] h = absurd (omega arith)
four (a ∷ []) h = absurd (omega arith)
four (a ∷ b ∷ []) h = absurd (omega arith)
four (a ∷ b ∷ c ∷ []) h = absurd (omega arith)
four (a ∷ b ∷ c ∷ d ∷ ws) h = refl

-- ---- the next call, w by its words
module _ {k a b c : ℕ} (ws : List ℕ) {w : Item} (e : Reads k a b c w) where
  pub formed-next : (i o n : ℕ)
      → formed (k ∷ a ∷ b ∷ c ∷ ws) i o n
      ≡ (fits k (inputs_of w) (outputs_of w) i o n
      && formed ws (i - inputs_of w) (o - outputs_of w) (n - 1))
  unfolding formed
  formed-next i o n = rw (e.inputs, e.outputs)

  -- its kind is one that there is
  pub formed-known : (i o n : ℕ)
      → formed (k ∷ a ∷ b ∷ c ∷ ws) i o n
      ≡ ((leb (inputs_of w) i && (leb (outputs_of w) o && ltb 0 n))
      && formed ws (i - inputs_of w) (o - outputs_of w) (n - 1))
  formed-known i o n =
      formed-next i o n
      ∙ ap (λ (t : Bool). (t && (leb (inputs_of w) i && (leb (outputs_of w) o && ltb 0 n)))
      && formed ws (i - inputs_of w) (o - outputs_of w) (n - 1)) (le-leb k last_kind e.known)

  pub calls-next : (xs : List ℤ)
      → calls (k ∷ a ∷ b ∷ c ∷ ws) xs ≡ item_of w xs ∷ calls ws (drop (inputs_of w) xs)
  unfolding calls
  calls-next xs = rw (e.inputs, e.call xs)

-- a kind that there is not
pub formed-unknown : (k a b c : ℕ) (ws : List ℕ) (i o n : ℕ) → last_kind < k
    → formed (k ∷ a ∷ b ∷ c ∷ ws) i o n ≡ false
unfolding formed
formed-unknown k a b c ws i o n h = rw (lt-leb k last_kind h)

-- what fits
pub and_left : (a b : Bool) → (a && b) ≡ true → a ≡ true
and_left true b e = refl
and_left false b e = e

pub and_right : (a b : Bool) → (a && b) ≡ true → b ≡ true
and_right true b e = e
and_right false b e = absurd (subst T (sym e) tt)

pub record Fits (kind taken lent inputs outputs numbers : ℕ) : Type 0 where
  pub known : kind ≤ last_kind
  pub input : taken ≤ inputs
  pub output : lent ≤ outputs
  pub place : 0 < numbers

pub fits_are : (k t l i o n : ℕ) → fits k t l i o n ≡ true → Fits k t l i o n
fits_are k t l i o n e =
    let e1 = and_right (leb k last_kind) (leb t i && (leb l o && ltb 0 n)) e in
    let e2 = and_right (leb t i) (leb l o && ltb 0 n) e1 in
    record {
      known = leb-true k last_kind (and_left (leb k last_kind) (leb t i && (leb l o && ltb 0 n)) e);
      input = leb-true t i (and_left (leb t i) (leb l o && ltb 0 n) e1);
      output = leb-true l o (and_left (leb l o) (ltb 0 n) e2);
      place = ltb-true 0 n (and_right (leb l o) (ltb 0 n) e2);
    }

-- ---- no whole call
pub formed-end : (ws : List ℕ) (i o n : ℕ) → length ws < 4 → formed ws i o n ≡ eqb (length ws) 0
unfolding formed
formed-end [] i o n k = refl
formed-end (a ∷ []) i o n k = refl
formed-end (a ∷ b ∷ []) i o n k = refl
formed-end (a ∷ b ∷ c ∷ []) i o n k = refl
formed-end (a ∷ b ∷ c ∷ d ∷ ws) i o n k = absurd (omega arith)

-- the words that are left of a list in form
pub none-left : (ws : List ℕ) (i o n : ℕ) → length ws < 4 → formed ws i o n ≡ true → ws ≡ []
none-left [] i o n k e = refl
none-left (a ∷ ws) i o n k e =
    absurd (true≢false (sym e ∙ formed-end (a ∷ ws) i o n k ∙ ne_eqb (suc (length ws)) 0 (λ z. omega arith)))

-- ---- more output left
pub formed-more : (ws : List ℕ) (i o p n : ℕ) → o ≤ p → formed ws i o n ≡ true → formed ws i p n ≡ true
unfolding formed
formed-more [] i o p n h e = refl
formed-more (k ∷ []) i o p n h e = e
formed-more (k ∷ a ∷ []) i o p n h e = e
formed-more (k ∷ a ∷ b ∷ []) i o p n h e = e
formed-more (k ∷ a ∷ b ∷ c ∷ ws) i o p n h e =
    let t = takes k a in
    let l = lends k b in
    let b = fits k t l i o n in
    let d = formed ws (i - t) (o - l) (n - 1) in
    let f = fits_are k t l i o n (and_left b d e) in
    let r = formed-more ws (i - t) (o - l) (p - l) (n - 1) (omega arith) (and_right b d e) in
    let g : l ≤ p = omega (arith, f.output) in
    rw (le-leb k last_kind f.known, le-leb t i f.input, le-leb l p g, lt-ltb 0 n f.place) r

-- the kind of a call that is in form
pub known-kind : (k a b c : ℕ) (ws : List ℕ) (i o n : ℕ) → formed (k ∷ a ∷ b ∷ c ∷ ws) i o n ≡ true → k ≤ last_kind
unfolding formed
known-kind k a b c ws i o n e =
    (fits_are k (takes k a) (lends k b) i o n
    (and_left (fits k (takes k a) (lends k b) i o n) (formed ws (i - takes k a) (o - lends k b) (n - 1)) e)).known
