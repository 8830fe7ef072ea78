-- Where the numbers of a stored form stand, as the code looks for them.
use mathlib.Core.Path.{◌≡◌, refl, sym, ap, subst, ◌∙◌}
use mathlib.Core.List.{List, [], ◌∷◌}
use Prim.Native.Nat.{ℕ, ◌+◌, ◌*◌, ◌/◌, ◌%◌, ◌^◌}
use native.Mathlib.Omega.{arith}
use lib.ListN.{take, drop, get_or}
use borrow.Author.Tests.{eq-eqb, ne_eqb}
use Rattle.octets.specs.Octets.{number}
use Rattle.form.specs.Numbers.{Numbers}
use Rattle.form.specs.Parts.{value, held_in}
use Rattle.form.specs.Refusals.{sizes, ahead, found, Reads}
use Rattle.form.proofs.Refusals.{refuses}
use Rattle.load.specs.declared.words.Offsets.{Offsets}
use Rattle.load.specs.declared.words.Change.{Change as ChangeWords}
use Rattle.load.specs.declared.words.Words.{Words}
use Rattle.load.specs.Words.{read, Placed, ChangeRead, numbers_of}

-- ---- the bit map
pub first : (s : List ℕ) → number (take 1 (drop 0 s)) ≡ get_or s 0 0
unfolding number
first [] = refl
first (b ∷ s) = omega arith

-- ---- one number
pub is-there : (s : List ℕ) (at there other : ℕ) → there ≡ 1 → number (take 4 (drop at s)) ≡ read s at there other
unfolding read
is-there s at there other e = rw (eq-eqb there 1 e)

pub not_there : (s : List ℕ) (at there other : ℕ) → (there ≡ 1 → ⊥) → other ≡ read s at there other
unfolding read
not_there s at there other f = rw (ne_eqb there 1 f)

-- ---- the places
pub placed : (m : ℕ) → Placed m (record {
  loss = 1 + 12 * (m % 2);
  advance = 1 + 12 * (m % 2) + 4 * (m / 2 % 2);
  last = 1 + 12 * (m % 2) + 4 * (m / 2 % 2) + 4 * (m / 4 % 2);
  state = 1 + 12 * (m % 2) + 4 * (m / 2 % 2) + 4 * (m / 4 % 2) + 4 * (m / 8 % 2);
  change = 1 + 12 * (m % 2) + 4 * (m / 2 % 2) + 4 * (m / 4 % 2) + 4 * (m / 8 % 2) + 12 * (m / 16 % 2);
  pluck = 1 + 12 * (m % 2) + 4 * (m / 2 % 2) + 4 * (m / 4 % 2) + 4 * (m / 8 % 2) + 12 * (m / 16 % 2) + 32 * (m / 32 % 2);
  line = 1 + 12 * (m % 2) + 4 * (m / 2 % 2) + 4 * (m / 4 % 2) + 4 * (m / 8 % 2) + 12 * (m / 16 % 2) + 32 * (m / 32 % 2) + 12 * (m / 64 % 2);
  end = 1 + 12 * (m % 2) + 4 * (m / 2 % 2) + 4 * (m / 4 % 2) + 4 * (m / 8 % 2) + 12 * (m / 16 % 2) + 32 * (m / 32 % 2) + 12 * (m / 64 % 2) + 8448 * (m / 128 % 2);
})
placed m =
    let a : m / 2 / 2 ≡ m / 4 = omega arith in
    let b : m / 2 / 2 / 2 ≡ m / 8 = omega arith in
    let c : m / 2 / 2 / 2 / 2 ≡ m / 16 = omega arith in
    let d : m / 2 / 2 / 2 / 2 / 2 ≡ m / 32 = omega arith in
    let e : m / 2 / 2 / 2 / 2 / 2 / 2 ≡ m / 64 = omega arith in
    let f : m / 2 / 2 / 2 / 2 / 2 / 2 / 2 ≡ m / 128 = omega arith in
    record {
      loss = omega arith;
      advance = omega arith;
      last = rw a (omega arith);
      state = rw (b, a) (omega arith);
      change = rw (c, b, a) (omega arith);
      pluck = rw (d, c, b, a) (omega arith);
      line = rw (e, d, c, b, a) (omega arith);
      end = rw (f, e, d, c, b, a) (omega arith);
      whole = refl;
    }

-- ---- the numbers of a waiting change
move : (s : List ℕ) (i j there : ℕ) {x : ℕ} → i ≡ j → x ≡ read s i there 0 → x ≡ read s j there 0
move s i j there e h = rw (← e) h

abbrev Thrice : List ℕ → ℕ → ℕ → ℕ → ℕ → ℕ → ℕ → ℕ → ℕ → Type 0
Thrice s at there x y z a b c =
    (a ≡ read s at there x) × (b ≡ read s (at + 4) there y) × (c ≡ read s (at + 8) there z)

pub change-read : (s : List ℕ) (at there : ℕ) (c : ChangeWords) → c.kind ≡ read s at there 0
    → Thrice s (at + 4) there 0 0 0 c.tuning.order c.tuning.length c.tuning.delay → c.taken ≡ read s (at + 16) there 0
    → Thrice s (at + 20) there 0 0 0 c.state.a c.state.b c.state.c → ChangeRead s at there c
change-read s at there c k t n v = record {
  kind = k;
  order = t.0;
  length = move s (at + 4 + 4) (at + 8) there (omega arith) t.1;
  delay = move s (at + 4 + 8) (at + 12) there (omega arith) t.2;
  taken = n;
  v1 = v.0;
  v2 = move s (at + 20 + 4) (at + 24) there (omega arith) v.1;
  v3 = move s (at + 20 + 8) (at + 28) there (omega arith) v.2;
}

-- ---- all numbers but the line's
at-found : (s : List ℕ) (j k at there other : ℕ) {x : ℕ} → at ≡ 1 + ahead sizes (get_or s 0 0) j + 4 * k
    → there ≡ get_or s 0 0 / 2 ^ j % 2 → x ≡ read s at there other → x ≡ found s j k other
unfolding read
at-found s j k at there other e f h = rw (← e, ← f) h

pub found-read : (s : List ℕ) (j k at there other : ℕ) → at ≡ 1 + ahead sizes (get_or s 0 0) j + 4 * k
    → there ≡ get_or s 0 0 / 2 ^ j % 2 → found s j k other ≡ read s at there other
found-read s j k at there other e f = sym (at-found s j k at there other e f refl)

same : (w : Words) (i : Numbers) → w.tuning.order ≡ i.tuning.N → w.tuning.length ≡ i.tuning.L → w.tuning.delay ≡ i.tuning.d
    → w.loss ≡ i.G → w.advance ≡ i.Na → value w.last ≡ i.last → value w.state.a ≡ i.state.v1
    → value w.state.b ≡ i.state.v2 → value w.state.c ≡ i.state.v3 → w.change.kind ≡ i.change.kind
    → w.change.tuning.order ≡ i.change.tuning.N → w.change.tuning.length ≡ i.change.tuning.L
    → w.change.tuning.delay ≡ i.change.tuning.d → w.change.taken ≡ i.change.taken
    → value w.change.state.a ≡ i.change.state.v1 → value w.change.state.b ≡ i.change.state.v2
    → value w.change.state.c ≡ i.change.state.v3 → w.pluck.amplitude ≡ i.pluck.amplitude
    → w.pluck.left ≡ i.pluck.left → w.pluck.noise ≡ i.pluck.noise → numbers_of w i.line ≡ i
same w i N L d G Na y a b c k N' L' d' n a' b' c' p l z =
    rw (N, L, d, G, Na, y, a, b, c, k, N', L', d', n, a', b', c', p, l, z)

module _ (s : List ℕ) (m : ℕ) (map : m ≡ get_or s 0 0) (p : Offsets) (at : Placed m p) (w : Words)
    (t : Thrice s 1 (m % 2) 1 1 4096 w.tuning.order w.tuning.length w.tuning.delay) (G : w.loss ≡ read s p.loss (m / 2 % 2) 0)
    (Na : w.advance ≡ read s p.advance (m / 4 % 2) 0) (y : w.last ≡ read s p.last (m / 8 % 2) 0)
    (v : Thrice s p.state (m / 16 % 2) 0 0 0 w.state.a w.state.b w.state.c)
    (c : ChangeRead s p.change (m / 32 % 2) w.change)
    (u : Thrice s p.pluck (m / 64 % 2) 0 0 0 w.pluck.amplitude w.pluck.left w.pluck.noise) where
  r : Reads s (held_in s)
  r = refuses.reads s

  bit : (j : ℕ) → m / 2 ^ j % 2 ≡ get_or s 0 0 / 2 ^ j % 2
  bit j = rw map

  in_tuning : (k at other : ℕ) {x : ℕ} → at ≡ 1 + 4 * k → x ≡ read s at (m % 2) other → x ≡ found s 0 k other
  in_tuning k at other e h = at-found s 0 k at (m % 2) other (omega arith) (rw (← map) (omega arith)) h

  -- in a part that starts at place n
  in_part : (j n k at there : ℕ) {x : ℕ} → n ≡ 1 + ahead sizes m j → there ≡ m / 2 ^ j % 2 → at ≡ n + 4 * k
      → x ≡ read s at there 0 → x ≡ found s j k 0
  in_part j n k at there e b i h =
      let q = subst (λ (x : ℕ). n ≡ 1 + ahead sizes x j) map e in
      at-found s j k at there 0 (omega arith) (b ∙ bit j) h

  in_state : (k at : ℕ) {x : ℕ} → at ≡ p.state + 4 * k → x ≡ read s at (m / 16 % 2) 0 → x ≡ found s 4 k 0
  in_state k a e h = in_part 4 p.state k a (m / 16 % 2) at.state refl e h

  in_change : (k at : ℕ) {x : ℕ} → at ≡ p.change + 4 * k → x ≡ read s at (m / 32 % 2) 0 → x ≡ found s 5 k 0
  in_change k a e h = in_part 5 p.change k a (m / 32 % 2) at.change refl e h

  in_pluck : (k at : ℕ) {x : ℕ} → at ≡ p.pluck + 4 * k → x ≡ read s at (m / 64 % 2) 0 → x ≡ found s 6 k 0
  in_pluck k a e h = in_part 6 p.pluck k a (m / 64 % 2) at.pluck refl e h

  pub held : numbers_of w (held_in s).line ≡ held_in s
  held =
      let a = p.state in
      let b = p.change in
      let d = p.pluck in
      same w (held_in s) (in_tuning 0 1 1 (omega arith) t.0 ∙ sym r.N)
      (in_tuning 1 5 1 (omega arith) t.1 ∙ sym r.L) (in_tuning 2 9 4096 (omega arith) t.2 ∙ sym r.d)
      (in_part 1 p.loss 0 p.loss (m / 2 % 2) at.loss refl (omega arith) G ∙ sym r.G)
      (in_part 2 p.advance 0 p.advance (m / 4 % 2) at.advance refl (omega arith) Na ∙ sym r.Na)
      (ap value (in_part 3 p.last 0 p.last (m / 8 % 2) at.last refl (omega arith) y) ∙ sym r.last)
      (ap value (in_state 0 a (omega arith) v.0) ∙ sym r.v1)
      (ap value (in_state 1 (a + 4) (omega arith) v.1) ∙ sym r.v2)
      (ap value (in_state 2 (a + 8) (omega arith) v.2) ∙ sym r.v3)
      (in_change 0 b (omega arith) c.kind ∙ sym r.kind)
      (in_change 1 (b + 4) (omega arith) c.order ∙ sym r.N')
      (in_change 2 (b + 8) (omega arith) c.length ∙ sym r.L')
      (in_change 3 (b + 12) (omega arith) c.delay ∙ sym r.d')
      (in_change 4 (b + 16) (omega arith) c.taken ∙ sym r.taken)
      (ap value (in_change 5 (b + 20) (omega arith) c.v1) ∙ sym r.w1)
      (ap value (in_change 6 (b + 24) (omega arith) c.v2) ∙ sym r.w2)
      (ap value (in_change 7 (b + 28) (omega arith) c.v3) ∙ sym r.w3)
      (in_pluck 0 d (omega arith) u.0 ∙ sym r.amplitude)
      (in_pluck 1 (d + 4) (omega arith) u.1 ∙ sym r.left)
      (in_pluck 2 (d + 8) (omega arith) u.2 ∙ sym r.noise)
