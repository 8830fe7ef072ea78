-- The kinds that a word names stand in the order of their numbers, from 1 on, as the rows of the table do.
use Rattle.std.proofs.Common.{◌≡◌, refl, Bool, true, false, ℕ, suc, ◌+◌, ◌-◌, ◌<◌, ◌≤◌, List, map, get_or, sym, ap, ◌∙◌, arith}
use Rattle.std.proofs.lemmas.Bool.Decides.{Decides-eqb}
use Rattle.std.proofs.lemmas.List.{get_or-map}
use Rattle.std.proofs.lemmas.List.FromFn.{get_or-range_with_len}
use Rattle.std.proofs.lemmas.Slice.Eq.{slice_eq-Decides}
use Rattle.std.specs.Cmp.Lexicographic.{pointwise}
use Rattle.std.specs.List.{range_with_len}
use borrow.Author.Count.{below_more}
use lib.Dec.{eqb}
use lib.ListN.{length}
use mathlib.Core.Bool.{false≢true}
use Rattle.words.specs.Pieces.{cut, past, piece}
use Rattle.request.specs.declared.kinds.Kind.TheVariants.{Empty}
use Rattle.request.specs.declared.kinds.TheConstants.{CALLS}
use Rattle.request.specs.Kinds.{number_of}
use Rattle.request.specs.Table.{table, name, Named}

numbers : map number_of CALLS ≡ range_with_len 1 31
numbers = refl

count : length CALLS ≡ 31
count = refl

pub call-number : (i : ℕ) → i < 31 → number_of (get_or CALLS i Empty) ≡ suc i
call-number i h =
    let n : 1 + i ≡ suc i = omega arith in
    sym (get_or-map number_of CALLS i Empty 0 (omega (arith, count)))
    ∙ ap (λ (xs : List ℕ). get_or xs i 0) numbers ∙ get_or-range_with_len 1 31 i 0 h ∙ n

-- t is what is left of the table, from the row of the kind at i on
module _ (t : List ℕ) (i : ℕ) (rows : (j : ℕ) → piece 10 j t ≡ piece 10 (i + j) table) where
  pub named : {r n : List ℕ} → r ≡ cut 10 t → n ≡ cut 32 r → i < 31
      → n ≡ name table (number_of (get_or CALLS i Empty))
  unfolding piece
  named p q h =
      let m : i + 0 ≡ number_of (get_or CALLS i Empty) - 1 = omega (arith, call-number i h) in
      q ∙ ap (cut 32) (p ∙ rows 0 ∙ ap (λ (k : ℕ). piece 10 k table) m)

  pub others : (j : ℕ) → piece 10 j (past 10 t) ≡ piece 10 (i + 1 + j) table
  unfolding piece
  others j =
      let m : i + suc j ≡ i + 1 + j = omega arith in
      rows (suc j) ∙ ap (λ (k : ℕ). piece 10 k table) m

-- r is whether w is n, the name of the kind at i, and the kinds before it have other names
module _ (w n : List ℕ) (r : Bool) (i : ℕ) (h : i < 31) (none : (k : ℕ) → 1 ≤ k → k ≤ i → w ≡ name table k → ⊥)
    (names : n ≡ name table (number_of (get_or CALLS i Empty))) (tested : r ≡ pointwise eqb w n) where
  pub found : r ≡ true → Named table w (number_of (get_or CALLS i Empty))
  found t =
      let m : number_of (get_or CALLS i Empty) ≡ suc i = call-number i h in
      record {
        least = omega arith;
        most = omega arith;
        here = λ _. (slice_eq-Decides Decides-eqb w n r tested).0 t ∙ names;
        none = λ k a b. none k a (omega arith);
      }

  other : r ≡ false → w ≡ name table (i + 1) → ⊥
  other f q =
      let m : i + 1 ≡ suc i = omega arith in
      let same : w ≡ n = q ∙ ap (name table) (m ∙ sym (call-number i h)) ∙ sym names in
      false≢true (sym f ∙ (slice_eq-Decides Decides-eqb w n r tested).1 same)

  pub passed : r ≡ false → (k : ℕ) → 1 ≤ k → k ≤ i + 1 → w ≡ name table k → ⊥
  passed f k a b =
      below_more
      (λ (j : ℕ). 1 ≤ j → w ≡ name table j → ⊥)
      (i + 1)
      (λ j m a. none j a (omega arith))
      (λ _. other f)
      k
      (omega arith)
      a
