-- Where the first word of a text stands: behind its blanks; it is not empty where it starts before the end.
use Rattle.std.proofs.Common.{◌≡◌, ℕ, ◌+◌, ◌-◌, ◌≤◌, ◌<◌, true, List, length, get_or, drop, sym, ◌∙◌, ap, arith, length-drop, below_more}
use Rattle.std.proofs.lemmas.Bool.{false≢true}
use Rattle.std.proofs.lemmas.List.{get_or-drop}
use Rattle.words.specs.Words.{blank, Starts, Stops, FirstWord}

module _ {s : List ℕ} {a n : ℕ} (before : Starts s a) (letters : Stops (drop a s) 0 n) where
  -- the letters, by their places in the whole text
  blank-at : (k : ℕ) → blank (get_or (drop a s) k 0) ≡ blank (get_or s (a + k) 0)
  blank-at k = ap blank (get_or-drop a s k 0)

  stops : Stops s a (a + n)
  stops = record {
    order = omega arith;
    within = omega (arith, letters.within, before.within, length-drop a s);
    letters = λ k h l.
        let e : a + (k - a) ≡ k = omega arith in
        ap (λ (j : ℕ). blank (get_or s j 0)) (sym e)
        ∙ sym (blank-at (k - a))
        ∙ letters.letters (k - a) (omega arith) (omega arith);
    here = λ h. sym (blank-at n) ∙ letters.here (omega (arith, h, length-drop a s));
  }

  empty : a < length s → n ≡ 0 → ⊥
  empty h e =
      let at : blank (get_or s (a + n) 0) ≡ true = stops.here (omega arith) in
      let start : a + n ≡ a = omega arith in
      false≢true (sym (before.here h) ∙ ap (λ (j : ℕ). blank (get_or s j 0)) (sym start) ∙ at)

  pub first_word : FirstWord s a (a + n)
  first_word = record { starts = before; stops = stops; some = λ h. omega (arith, empty h) }
