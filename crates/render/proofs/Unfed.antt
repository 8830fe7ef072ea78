-- A buffer in which nothing comes in, rendered at once or in two parts, and where it stands in a longer one.
-- Assumes nothing.
use mathlib.Core.Path.{◌≡◌, sym, ap, ap₂, subst, ◌∙◌}
use mathlib.Core.Bool.{false}
use mathlib.Core.List.{List, ◌++◌}
use Prim.Native.Nat.{ℕ, ◌-◌, ◌≤◌}
use native.Mathlib.Omega.{arith}
use borrow.Rule.Slice.PartMut.{put_mid, post_of, mid_len, same_len_mid, take_put, drop_put, Post-is}
use lib.IntN.{ℤ}
use lib.ListN.{length, take, drop}
use lib.Seq.{length-take-le, take_at, drop_at}
use Rattle.rule.specs.State.{block_after, block_out}
use Rattle.voice.specs.declared.Head.{Head}
use Rattle.voice.specs.Struct.{state_of}
use Rattle.voice.specs.Valid.{Valid}
use Rattle.loops.specs.Fed.{fed_of}
use Rattle.loops.specs.Rendered.{Unfed, Went}
use Rattle.loops.proofs.Fed.{length-fed, as_long, cleared-zeros, all-fed, fed-drop, fed-take}
use Rattle.loops.proofs.Rendered.{all_after, all-out}

module _ (b : List ℤ) (h : Head) (l c : List ℤ) (k : Head) (m : List ℤ) (i : ℕ) (w : Went false b h l c k m i)
  where
    -- all of it at once
    pub unfed_all : length b ≤ i → Unfed b h l c k m
    unfed_all n =
        let xs = fed_of false 0 b in
        let long = as_long false i c b w.0.long in
        let o : length (fed_of false i c) ≤ i = omega (arith, n, long, length-fed false i c) in
        record {
          after =
              all_after xs (state_of h l) (fed_of false i c) (state_of k m) i w.0 o
              ∙ ap (λ (z : List ℤ). block_after (state_of h l) z) (cleared-zeros b);
          out =
              sym (all-fed false i c (omega (arith, n, long)))
              ∙ all-out xs (state_of h l) (fed_of false i c) (state_of k m) i w.0 o
              ∙ ap (λ (z : List ℤ). block_out (state_of h l) z) (cleared-zeros b);
          valid = w.1;
        }

    -- and then the rest of it
    pub unfed_rest : {g : Head} {n x : List ℤ}
        → state_of g n ≡ block_after (state_of k m) (fed_of false 0 (drop i c))
        → x ≡ block_out (state_of k m) (fed_of false 0 (drop i c)) → Valid g n → Unfed b h l (take i c ++ x) g n
    unfed_rest {g} {n} {x} after out valid =
        let u = state_of k m in
        let d = fed-drop false i c in
        record {
          after =
              after
              ∙ ap (λ (z : List ℤ). block_after u z) (sym d)
              ∙ w.0.left
              ∙ ap (λ (z : List ℤ). block_after (state_of h l) z) (cleared-zeros b);
          out =
              ap₂ (λ (x y : List ℤ). x ++ y) (sym (fed-take false i c))
              (out ∙ ap (λ (z : List ℤ). block_out u z) (sym d))
              ∙ w.0.out
              ∙ ap (λ (z : List ℤ). block_out (state_of h l) z) (cleared-zeros b);
          valid = valid;
        }

-- ---- a part of an output that is lent once more, after it was put back with x in it
module _ (a e : ℕ) (out x : List ℤ) (o : a ≤ e) (p : e ≤ length out) (n : length x ≡ e - a) where
  part_again : take (e - a) (drop a (put_mid a (e - a) out x)) ≡ x
  part_again =
      ap (λ (z : List ℤ). take (e - a) z)
      (drop_at (take a out) (x ++ post_of a (e - a) out) a (length-take-le a out (omega (arith, o, p))))
      ∙ take_at x (post_of a (e - a) out) (e - a) n

  put_again : (y : List ℤ) → put_mid a (e - a) (put_mid a (e - a) out x) y ≡ put_mid a (e - a) out y
  put_again y =
      ap₂ (λ (p q : List ℤ). p ++ (y ++ q)) (take_put a (e - a) out x (omega (arith, o, p)))
      (Post-is a e (put_mid a (e - a) out x) o ∙ drop_put a e out x o p n ∙ sym (Post-is a e out o))

-- the part of an output from a to e once its first stretch, i samples, is rendered: with them it is x
pub record Stretched (a e : ℕ) (out : List ℤ) (h : Head) (l x : List ℤ) (k : Head) (m : List ℤ) (i : ℕ) : Type 0
  where
    -- there is no rest
    pub all : e - a ≤ i → Unfed (take (e - a) (drop a out)) h l x k m
    -- for the rest the part is lent again
    pub again : Went false (take (e - a) (drop a out)) h l (take (e - a) (drop a (put_mid a (e - a) out x))) k m i
    pub within : i ≤ length (take (e - a) (drop a (put_mid a (e - a) out x)))
    pub long : length (put_mid a (e - a) out x) ≡ length out
    pub put : (y : List ℤ) → put_mid a (e - a) (put_mid a (e - a) out x) y ≡ put_mid a (e - a) out y

pub stretched : (a e : ℕ) (out : List ℤ) (h : Head) (l x : List ℤ) (k : Head) (m : List ℤ) (i : ℕ) → a ≤ e
    → e ≤ length out → Went false (take (e - a) (drop a out)) h l x k m i → Stretched a e out h l x k m i
stretched a e out h l x k m i o p w =
    let part = take (e - a) (drop a out) in
    let still = as_long false i x part w.0.long in
    let many = still ∙ mid_len a e out p in
    let same = part_again a e out x o p many in
    let count = ap (λ (l : List ℤ). length l) same in
    record {
      all = λ n. unfed_all part h l x k m i w (omega (arith, mid_len a e out p, n));
      again = subst (λ (b : List ℤ). Went false part h l b k m i) (sym same) w;
      within = omega (arith, w.0.within, length-fed false 0 part, still, count);
      long = same_len_mid a (e - a) out x still;
      put = put_again a e out x o p many;
    }
