-- Six strings of which the first k have rendered an input: the sums, and the rows that are left.
use mathlib.Core.Path.{◌≡◌, ap, ap₂, ◌∙◌}
use mathlib.Core.List.{List, []}
use Prim.Native.Nat.{ℕ, ◌+◌, ◌*◌, ◌≤◌, ◌<◌}
use native.Mathlib.Omega.{arith}
use native.Mathlib.Decide.{ℕ_discrete}
use lib.IntN.{ℤ}
use lib.ListN.{length, get_or, set}
use lib.Seq.{get_or-set_same}
use Rattle.integer.specs.Rounding.{M}
use Rattle.samples.specs.Samples.{loudest}
use Rattle.rule.specs.State.{State, block_after, block_out}
use Rattle.voice.specs.Struct.{state_of}
use Rattle.voice.specs.Valid.{Valid}
use Rattle.packed.specs.Words.{head_of}
use Rattle.instrument.specs.Strings.{Strings}
use Rattle.strings.specs.Rows.{strings_of, Voices}
use Rattle.strings.proofs.Rows.{same_row, other_row, voices}
use Rattle.mix.specs.Sums.{plus, sums}
use Rattle.mix.specs.Rendered.{Rendered, Adds, SumsUp}
use Rattle.mix.proofs.Added.{sums_first, sums-more, sums-quiet, length-sums}

-- the rows hs and ls, of which the first k have taken the input xs, began as the strings s; ys are their sums
pub record Firsts (s : Strings) (xs : List ℤ) (k : ℕ) (hs : List (List ℕ)) (ls : List (List ℤ))
    (ys : List ℤ) : Type 0 where
  pub voices : Voices hs ls
  pub rendered : (j : ℕ) → j < k → j ≤ 5 → strings_of hs ls j ≡ block_after (s j) xs
  pub waiting : (j : ℕ) → k ≤ j → strings_of hs ls j ≡ s j
  pub out : ys ≡ sums k s xs

pub firsts_quiet : {s : Strings} {xs : List ℤ} {k : ℕ} {hs : List (List ℕ)} {ls : List (List ℤ)} {ys : List ℤ}
    → Firsts s xs k hs ls ys → k ≤ 5
    → loudest ys ≤ 5 * M
firsts_quiet {s} {xs} {k} f h = rw f.out (omega (arith, sums-quiet k s xs))

pub firsts_long : {s : Strings} {xs : List ℤ} {k : ℕ} {hs : List (List ℕ)} {ls : List (List ℤ)} {ys : List ℤ}
    → Firsts s xs k hs ls ys → length ys ≡ length xs
firsts_long {s} {xs} {k} f = ap length f.out ∙ length-sums k s xs

-- row k anew
module _ {hs : List (List ℕ)} {ls : List (List ℤ)} (v : Voices hs ls) (k : ℕ) (h : k ≤ 5) (w : List ℕ)
    (m : List ℤ) where
  place : k < length hs
  place = omega (arith, v.heads)

  line : get_or (set ls k m) k [] ≡ m
  line = get_or-set_same ls k m [] (omega (arith, v.lines))

  same : strings_of (set hs k w) (set ls k m) k ≡ state_of (head_of w) m
  same = same_row hs ls k w m place line

  all-voices : Valid (head_of w) m → Voices (set hs k w) (set ls k m)
  all-voices g = voices hs ls k w m place line v g

pub firsts_one : {hs : List (List ℕ)} {ls : List (List ℤ)} {xs : List ℤ} {w : List ℕ} {m ys : List ℤ}
    → Voices hs ls
    → Rendered (get_or hs 0 []) (get_or ls 0 []) xs w m ys
    → Firsts (strings_of hs ls) xs 1 (set hs 0 w) (set ls 0 m) ys
firsts_one {hs} {ls} {xs} {w} {m} v r = record {
  voices = all-voices v 0 (omega arith) w m r.after.valid;
  rendered = λ j i l.
      let e : j ≡ 0 = omega arith in
      rw e (same v 0 (omega arith) w m ∙ r.after.state);
  waiting = λ j l. other_row hs ls 0 w m j (λ e. omega arith);
  out = r.out ∙ sums_first (strings_of hs ls) xs;
}

pub firsts_more : {s : Strings} {xs : List ℤ} {k : ℕ} {hs : List (List ℕ)} {ls : List (List ℤ)}
    {ys zs : List ℤ} {w : List ℕ} {m : List ℤ}
    → Firsts s xs k hs ls ys → k ≤ 5
    → Adds (get_or hs k []) (get_or ls k []) xs ys w m zs
    → Firsts s xs (k + 1) (set hs k w) (set ls k m) zs
firsts_more {s} {xs} {k} {hs} {ls} {ys} {zs} {w} {m} f h r = record {
  voices = all-voices f.voices k h w m r.after.valid;
  rendered = λ j i l. go j i l (ℕ_discrete j k);
  waiting = λ j l. other_row hs ls k w m j (λ e. omega arith) ∙ f.waiting j (omega arith);
  out =
      r.added
      ∙ ap₂ (λ (y : List ℤ) (v : State). plus y (block_out v xs)) f.out (f.waiting k (omega arith))
      ∙ sums-more k s xs;
}
  where
    go : (j : ℕ) → j < k + 1 → j ≤ 5 → Dec (j ≡ k)
        → strings_of (set hs k w) (set ls k m) j ≡ block_after (s j) xs
    go j i l (yes e) =
        rw e
        (same f.voices k h w m
        ∙ r.after.state
        ∙ ap (λ (v : State). block_after v xs) (f.waiting k (omega arith)))
    go j i l (no d) = other_row hs ls k w m j d ∙ f.rendered j (less d) l
      where
        less : (j ≡ k → ⊥) → j < k
        less d = omega (arith, d)

pub firsts_all : {hs₀ : List (List ℕ)} {ls₀ : List (List ℤ)} {xs : List ℤ} {k : ℕ}
    {hs : List (List ℕ)} {ls : List (List ℤ)} {ys : List ℤ} → Firsts (strings_of hs₀ ls₀) xs k hs ls ys
    → k ≡ 6 → SumsUp hs₀ ls₀ xs hs ls ys
firsts_all {hs₀} {ls₀} {xs} f e = record {
  after = record { states = λ j l. f.rendered j (omega (arith, e)) l; voices = f.voices };
  out = f.out ∙ ap (λ (n : ℕ). sums n (strings_of hs₀ ls₀) xs) e;
}
