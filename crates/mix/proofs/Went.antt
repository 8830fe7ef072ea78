-- A buffer that is mixed in place part by part: what is left makes what the whole makes.
use mathlib.Core.Path.{◌≡◌, refl, sym, ap, ap₂, ◌∙◌}
use mathlib.Core.Bool.{Bool, true, false}
use mathlib.Core.List.{List, [], ◌∷◌, ◌++◌, append_assoc, append-nil}
use Prim.Native.Nat.{ℕ, zero, suc, ◌+◌, ◌-◌, ◌≤◌, ◌<◌}
use native.Mathlib.Omega.{arith}
use lib.IntN.{ℤ, ◌+ℤ◌}
use lib.ListN.{length, take, drop, take-append-drop, length-append}
use lib.Seq.{take_at, take_all, drop-length, length-take-le}
use borrow.Rule.Slice.PartMut.{put_mid, mid_of, Post-is, mid_len, same_len_mid, drop_put}
use Rattle.integer.specs.Rounding.{M, clip}
use Rattle.samples.specs.Samples.{loudest}
use Rattle.rule.specs.State.{State, step, sounds, block_after}
use Rattle.loops.specs.Fed.{fed_of}
use Rattle.loops.proofs.Fed.{length-fed, fed-append}
use Rattle.instrument.specs.Strings.{Strings, total, mixed}
use Rattle.instrument.proofs.Sums.{mixed-append}
use Rattle.strings.specs.Rows.{strings_of, Voices}
use Rattle.mix.specs.Rendered.{Mixes}

-- ---- strings that are alike from 0 to 5
total-alike : (f g : ℕ → ℤ) (n : ℕ) → ((k : ℕ) → k < n → f k ≡ g k) → total f n ≡ total g n
total-alike f g zero h = refl
total-alike f g (suc n) h = ap₂ ◌+ℤ◌ (total-alike f g n (λ k l. h k (omega arith))) (h n (omega arith))

mixed-alike : (xs : List ℤ) (s t : Strings) → ((k : ℕ) → k ≤ 5 → s k ≡ t k) → mixed s xs ≡ mixed t xs
mixed-alike [] s t h = refl
mixed-alike (x ∷ xs) s t h =
    ap₂ (λ (y : ℤ) (l : List ℤ). clip y ∷ l)
    (total-alike (λ k. sounds (s k)) (λ k. sounds (t k)) 6 (λ k l. ap sounds (h k (omega arith))))
    (mixed-alike xs (λ k. step (s k) x) (λ k. step (t k) x) (λ k l. ap (λ (v : State). step v x) (h k l)))

-- ---- inputs one after the other
after-append : (v : State) (xs ys : List ℤ) → block_after v (xs ++ ys) ≡ block_after (block_after v xs) ys
after-append v [] ys = refl
after-append v (x ∷ xs) ys = after-append (step v x) xs ys

loud-parts : (a b : List ℤ) → loudest (a ++ b) ≤ M → (loudest a ≤ M) × (loudest b ≤ M)
loud-parts [] b h = (omega arith, h)
loud-parts (x ∷ a) b h = let p = loud-parts a b (omega arith) in (omega (arith, p.0), p.1)

length-mixed : (xs : List ℤ) (s : Strings) → length (mixed s xs) ≡ length xs
length-mixed [] s = refl
length-mixed (x ∷ xs) s = ap suc (length-mixed xs (λ k. step (s k) x))

-- ---- once i samples of the buffer, which was b₀ and is b, are mixed
pub record Went (fed : Bool) (hs₀ : List (List ℕ)) (ls₀ : List (List ℤ)) (b₀ : List ℤ) (hs : List (List ℕ))
    (ls : List (List ℤ)) (b : List ℤ) (i : ℕ) : Type 0 where
  pub within : i ≤ length b
  pub long : length b ≡ length b₀
  pub states : (j : ℕ) → j ≤ 5
      → block_after (strings_of hs ls j) (fed_of fed 0 (drop i b))
      ≡ block_after (strings_of hs₀ ls₀ j) (fed_of fed 0 b₀)
  pub out : take i b ++ mixed (strings_of hs ls) (fed_of fed 0 (drop i b))
      ≡ mixed (strings_of hs₀ ls₀) (fed_of fed 0 b₀)
  pub quiet : loudest (fed_of fed 0 (drop i b)) ≤ M
  pub voices : Voices hs ls

-- what comes in, in two parts
split : (fed : Bool) (b : List ℤ) (i e : ℕ) → i ≤ e
    → fed_of fed 0 (drop i b) ≡ fed_of fed 0 (mid_of i (e - i) b) ++ fed_of fed 0 (drop e b)
split fed b i e h =
    ap (λ (l : List ℤ). fed_of fed 0 l)
    (sym (take-append-drop (e - i) (drop i b))
    ∙ ap (λ (l : List ℤ). mid_of i (e - i) b ++ l) (Post-is i e b h))
    ∙ fed-append fed 0 (mid_of i (e - i) b) (drop e b) (omega arith)

module _ {fed : Bool} {hs₀ : List (List ℕ)} {ls₀ : List (List ℤ)} {b₀ : List ℤ} {hs : List (List ℕ)}
    {ls : List (List ℤ)} {b : List ℤ} {i : ℕ} (w : Went fed hs₀ ls₀ b₀ hs ls b i) where
  module _ (e : ℕ) (h : i ≤ e) where
    abbrev part : List ℤ
    part = fed_of fed 0 (mid_of i (e - i) b)

    abbrev rest : List ℤ
    rest = fed_of fed 0 (drop e b)

    pub part-quiet : loudest part ≤ M
    part-quiet = (loud-parts part rest (rw (split fed b i e h) at w.quiet)).0

    module _ (g : e ≤ length b) {gs : List (List ℕ)} {ks : List (List ℤ)} {ys : List ℤ}
        (m : Mixes hs ls part gs ks ys) where
      many : length ys ≡ e - i
      many =
          ap length m.out
          ∙ length-mixed part (strings_of hs ls)
          ∙ length-fed fed 0 (mid_of i (e - i) b)
          ∙ mid_len i e b g

      left : drop e (put_mid i (e - i) b ys) ≡ drop e b
      left = drop_put i e b ys h g many

      done : take e (put_mid i (e - i) b ys) ≡ take i b ++ ys
      done =
          let n : length (take i b) ≡ i = length-take-le i b w.within in
          ap (λ (l : List ℤ). take e l) (sym (append_assoc (take i b) ys (drop (e - i) (drop i b))))
          ∙ take_at (take i b ++ ys) (drop (e - i) (drop i b)) e
          (length-append (take i b) ys
          ∙ (let k : length (take i b) + length ys ≡ e = omega (arith, n, many) in k))

      pub went_on : Went fed hs₀ ls₀ b₀ gs ks (put_mid i (e - i) b ys) e
      went_on =
          let l = same_len_mid i (e - i) b ys (many ∙ sym (mid_len i e b g)) in
          let s = strings_of hs ls in
          record {
            within = omega (arith, l);
            long = l ∙ w.long;
            states = λ j k.
                ap₂ (λ (v : State) (x : List ℤ). block_after v (fed_of fed 0 x)) (m.after.states j k) left
                ∙ sym (after-append (s j) part rest)
                ∙ ap (λ (x : List ℤ). block_after (s j) x) (sym (split fed b i e h))
                ∙ w.states j k;
            out =
                ap₂ (λ (x y : List ℤ). x ++ mixed (strings_of gs ks) (fed_of fed 0 y)) done left
                ∙ append_assoc (take i b) ys (mixed (strings_of gs ks) rest)
                ∙ ap (λ (x : List ℤ). take i b ++ x)
                (ap₂ ◌++◌ m.out
                (mixed-alike rest (strings_of gs ks) (λ k. block_after (s k) part) m.after.states)
                ∙ sym (mixed-append part rest s)
                ∙ ap (λ (x : List ℤ). mixed s x) (sym (split fed b i e h)))
                ∙ w.out;
            quiet = rw left (loud-parts part rest (rw (split fed b i e h) at w.quiet)).1;
            voices = m.after.voices;
          }

pub begins : (fed : Bool) {hs : List (List ℕ)} {ls : List (List ℤ)} (b : List ℤ) → Voices hs ls
    → loudest (fed_of fed 0 b) ≤ M
    → Went fed hs ls b hs ls b 0
begins fed b v q = record {
  within = omega arith;
  long = refl;
  states = λ j k. refl;
  out = refl;
  quiet = q;
  voices = v;
}

fed-none : (fed : Bool) → fed_of fed 0 [] ≡ []
fed-none true = refl
fed-none false = refl

pub ends : {fed : Bool} {hs₀ : List (List ℕ)} {ls₀ : List (List ℤ)} {b₀ : List ℤ}
    {hs : List (List ℕ)} {ls : List (List ℤ)} {b : List ℤ} {i : ℕ} → Went fed hs₀ ls₀ b₀ hs ls b i
    → length b ≤ i → Mixes hs₀ ls₀ (fed_of fed 0 b₀) hs ls b
ends {fed} {hs₀} {ls₀} {b₀} {hs} {ls} {b} {i} w h =
    let n : i ≡ length b = omega (arith, w.within) in
    let z : fed_of fed 0 (drop i b) ≡ []
    = ap (λ (k : ℕ). fed_of fed 0 (drop k b)) n
    ∙ ap (λ (l : List ℤ). fed_of fed 0 l) (drop-length b)
    ∙ fed-none fed in
    record {
      after = record {
        states = λ j k. ap (λ (l : List ℤ). block_after (strings_of hs ls j) l) (sym z) ∙ w.states j k;
        voices = w.voices;
      };
      out =
          sym (take_all i b h)
          ∙ sym (append-nil (take i b))
          ∙ ap (λ (l : List ℤ). take i b ++ mixed (strings_of hs ls) l) (sym z)
          ∙ w.out;
    }
