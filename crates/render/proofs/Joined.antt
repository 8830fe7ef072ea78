-- Parts of a buffer that are rendered one after the other, and what they are together.
-- Assumes nothing.
use mathlib.Core.Path.{◌≡◌, refl, sym, ap, ap₂, subst, ◌∙◌}
use mathlib.Core.Bool.{Bool}
use mathlib.Core.List.{List, [], ◌∷◌, ◌++◌, append_assoc, append-nil}
use Prim.Native.Nat.{ℕ, zero, suc, ◌+◌, ◌-◌, ◌≤◌}
use native.Mathlib.Omega.{arith}
use lib.IntN.{ℤ}
use lib.ListN.{length, take, drop, length-append, length-drop, take-append-drop}
use borrow.Rule.Slice.PartMut.{put_mid, Post-is}
use lib.Seq.{drop-length, length-take-le, take-append-add, drop-append-add}
use Rattle.integer.specs.Rounding.{M}
use Rattle.samples.specs.Samples.{loudest}
use Rattle.rule.specs.State.{State, step, sounds, block_after, block_out}
use Rattle.loops.specs.Fed.{cleared, fed_of}
use Rattle.loops.specs.Rendered.{Rendered}
use Rattle.loops.proofs.Fed.{length-fed, fed-append}

-- a part that was lent to the end, back in its place
pub back : (a : ℕ) (l m : List ℤ) → a ≤ length l → put_mid a (length l - a) l m ≡ take a l ++ m
back a l m h =
    ap (λ (z : List ℤ). take a l ++ (m ++ z)) (Post-is a (length l) l h ∙ drop-length l)
    ∙ ap (λ (z : List ℤ). take a l ++ z) (append-nil m)

-- ---- inputs one after the other
after-append : (v : State) (xs ys : List ℤ) → block_after v (xs ++ ys) ≡ block_after (block_after v xs) ys
after-append v [] ys = refl
after-append v (x ∷ xs) ys = after-append (step v x) xs ys

out-append : (v : State) (xs ys : List ℤ) → block_out v (xs ++ ys)
    ≡ block_out v xs ++ block_out (block_after v xs) ys
out-append v [] ys = refl
out-append v (x ∷ xs) ys = ap (λ (l : List ℤ). sounds v ∷ l) (out-append (step v x) xs ys)

loudest-append : (b c : List ℤ) → loudest b ≤ M → loudest c ≤ M → loudest (b ++ c) ≤ M
loudest-append [] c h k = k
loudest-append (x ∷ b) c h k = let l = loudest-append b c (omega arith) k in omega (arith, l)

take-append : (j : ℕ) (b c : List ℤ) → j ≤ length b → take j (b ++ c) ≡ take j b
take-append zero b c h = refl
take-append (suc j) [] c h = absurd (omega arith)
take-append (suc j) (x ∷ b) c h = ap (λ (l : List ℤ). x ∷ l) (take-append j b c (omega arith))

drop-append : (j : ℕ) (b c : List ℤ) → j ≤ length b → drop j (b ++ c) ≡ drop j b ++ c
drop-append zero b c h = refl
drop-append (suc j) [] c h = absurd (omega arith)
drop-append (suc j) (x ∷ b) c h = drop-append j b c (omega arith)

-- ---- what comes in, in two parts
loud-parts : (a b : List ℤ) → loudest (a ++ b) ≤ M → (loudest a ≤ M) × (loudest b ≤ M)
loud-parts [] b h = (omega arith, h)
loud-parts (x ∷ a) b h = let p = loud-parts a b (omega arith) in (omega (arith, p.0), p.1)

pub zeros-quiet : (b : List ℤ) → loudest (cleared 0 b) ≤ M
zeros-quiet [] = omega arith
zeros-quiet (x ∷ b) = omega (arith, zeros-quiet b)

module _ (fed : Bool) (n : ℕ) (b : List ℤ) where
  fed-split : fed_of fed 0 b ≡ fed_of fed 0 (take n b) ++ fed_of fed 0 (drop n b)
  fed-split =
      ap (λ (l : List ℤ). fed_of fed 0 l) (sym (take-append-drop n b))
      ∙ fed-append fed 0 (take n b) (drop n b) (omega arith)

  fed-parts : loudest (fed_of fed 0 b) ≤ M
      → (loudest (fed_of fed 0 (take n b)) ≤ M) × (loudest (fed_of fed 0 (drop n b)) ≤ M)
  fed-parts h = loud-parts (fed_of fed 0 (take n b)) (fed_of fed 0 (drop n b)) (rw fed-split at h)

  pub fed-quiet : loudest (fed_of fed 0 b) ≤ M → loudest (fed_of fed 0 (take n b)) ≤ M
  fed-quiet h = (fed-parts h).0

-- ---- samples of the first part of a buffer, and the rest as it was
module _ {xs b : List ℤ} {v u : State} {j : ℕ} (t : Rendered xs v b u j) (ys : List ℤ) (quiet : loudest ys ≤ M)
  where
    within : j ≤ length b
    within = omega (arith, t.within, t.long)

    pub rendered-first : Rendered (xs ++ ys) v (b ++ ys) u j
    rendered-first = record {
      within = rw length-append (omega (arith, t.within));
      long = rw (length-append, length-append) (omega (arith, t.long));
      left =
          ap (λ (l : List ℤ). block_after u l) (drop-append j b ys within)
          ∙ after-append u (drop j b) ys
          ∙ ap (λ (s : State). block_after s ys) t.left
          ∙ sym (after-append v xs ys);
      out =
          ap₂ (λ (x y : List ℤ). x ++ block_out u y) (take-append j b ys within) (drop-append j b ys within)
          ∙ ap (λ (l : List ℤ). take j b ++ l) (out-append u (drop j b) ys)
          ∙ sym (append_assoc (take j b) (block_out u (drop j b)) (block_out (block_after u (drop j b)) ys))
          ∙ ap₂ (λ (x : List ℤ) (s : State). x ++ block_out s ys) t.out t.left
          ∙ sym (out-append v xs ys);
      quiet = rw (drop-append j b ys within) (loudest-append (drop j b) ys t.quiet quiet);
    }

pub fed-first : (fed : Bool) (n : ℕ) (b c : List ℤ) {v u : State} {j : ℕ} → loudest (fed_of fed 0 b) ≤ M
    → Rendered (fed_of fed 0 (take n b)) v (fed_of fed j c) u j
    → Rendered (fed_of fed 0 b) v (fed_of fed j (c ++ drop n b)) u j
fed-first fed n b c {v} {u} {j} q t =
    let o : j ≤ length c = omega (arith, t.within, t.long, length-fed fed j c) in
    subst (λ (x : List ℤ). Rendered x v (fed_of fed j (c ++ drop n b)) u j) (sym (fed-split fed n b))
    (subst (λ (y : List ℤ). Rendered (fed_of fed 0 (take n b) ++ fed_of fed 0 (drop n b)) v y u j)
    (sym (fed-append fed j c (drop n b) o))
    (rendered-first t (fed_of fed 0 (drop n b)) (fed-parts fed n b q).1))

-- ---- i samples, and n of the rest of the buffer, which is then c
module _ {xs b c : List ℤ} {v u w : State} {i n : ℕ} (s : Rendered xs v b u i)
    (t : Rendered (drop i b) u c w n) where
  here : length (take i b) ≡ i
  here = length-take-le i b (omega (arith, s.within, s.long))

  then-rest : drop (i + n) (take i b ++ c) ≡ drop n c
  then-rest = subst (λ (m : ℕ). drop (m + n) (take i b ++ c) ≡ drop n c) here (drop-append-add (take i b) c n)

  then-done : take (i + n) (take i b ++ c) ≡ take i b ++ take n c
  then-done =
      subst (λ (m : ℕ). take (m + n) (take i b ++ c) ≡ take i b ++ take n c) here
      (take-append-add (take i b) c n)

  pub rendered-then : Rendered xs v (take i b ++ c) w (i + n)
  rendered-then = record {
    within = omega (arith, t.within, length-drop i b, s.long, s.within);
    long = rw length-append (omega (arith, here, t.long, length-drop i b, s.long, s.within));
    left = ap (λ (l : List ℤ). block_after w l) then-rest ∙ t.left ∙ s.left;
    out =
        ap₂ (λ (x y : List ℤ). x ++ block_out w y) then-done then-rest
        ∙ append_assoc (take i b) (take n c) (block_out w (drop n c))
        ∙ ap (λ (l : List ℤ). take i b ++ l) t.out
        ∙ s.out;
    quiet = rw then-rest t.quiet;
  }

-- no sample, and then some
pub rendered-none : {xs b c : List ℤ} {v u w : State} {n : ℕ} → Rendered xs v b u 0 → Rendered b u c w n
    → Rendered xs v c w n
rendered-none {xs} {c = c} {v} {w = w} {n} s t =
    let e : 0 + n ≡ n = omega arith in
    subst (λ (i : ℕ). Rendered xs v c w i) e (rendered-then s t)
