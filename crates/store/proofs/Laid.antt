-- Parts put one after the other.

use mathlib.Core.Path.{◌≡◌, refl, sym, ap, ◌∙◌}
use mathlib.Core.Bool.{Bool, true, false, not, cond, ◌&&◌}
use mathlib.Core.List.{List, [], ◌∷◌, ◌++◌, map, reverse}
use Prim.Native.Nat.{ℕ, suc, ◌+◌, ◌-◌, ◌*◌, ◌^◌, ◌%◌, ◌≤◌, ◌<◌}
use native.Mathlib.Omega.{arith}
use mir.Val.{bool_byte}
use lib.Pointwise.{pointwise}
use native.Mathlib.Numerals.{add-one}
use lib.Dec.{eqb}
use lib.IntN.{ℤ, pos, nat_abs}
use lib.ListN.{length, take, drop, get_or, length-append, length-take, length-drop, length-map, length-reverse, drop_of_length-le, get_or-map}
use lib.Seq.{drop-cons}
use Rattle.integer.specs.Rounding.{M}
use Rattle.allpass.specs.Bounds.{Within}
use Rattle.allpass.specs.Stored.{stored}
use Rattle.line.specs.Ring.{ring}
use Rattle.rule.specs.State.{silence}
use Rattle.rule.proofs.Read.{get_d_within}
use Rattle.octets.specs.Octets.{number, bytes, laid}
use Rattle.octets.proofs.Laws.{bytes-length, laid_nil, laid_next, laid-length, number-bytes}
use Rattle.octets.proofs.Theorems.{number_back}
use Rattle.form.specs.Parts.{encoded, packed, size, map_byte, word, same, parts, chosen, refused_parts}
use Rattle.form.proofs.Packing.{encoded-length}
use Rattle.form.proofs.Numbers.{word-under, refused-line}
use Rattle.form.proofs.Refusals.{turned_at}
use Rattle.store.specs.Puts.{given, flags_of, Puts, Packs, Chooses}
use Rattle.store.specs.declared.Words.{Words}
use Rattle.store.specs.declared.Bits.{Bits}

-- ---- bytes of numbers
encoded-step : (ns : List ℕ) (i : ℕ) → i < length ns
    → encoded (drop i ns) ≡ bytes 4 (get_or ns i 0) ++ encoded (drop (i + 1) ns)
unfolding encoded
encoded-step ns i h = rw (drop-cons ns i 0 h, add-one)

encoded-end : (ns : List ℕ) (i : ℕ) → length ns ≤ i → encoded (drop i ns) ≡ []
unfolding encoded
encoded-end ns i h = rw (drop_of_length-le ns {i = i} h)

pub word-is : (x : ℤ) (r : ℕ) → nat_abs x ≤ 2 * M → bytes 4 r ≡ bytes 4 (word x) → r % 2 ^ 32 ≡ word x
word-is x r h e = sym (number-bytes 4 r) ∙ ap number e ∙ number_back 4 (word x) (word-under x h)

-- ---- numbers put one after the other: i of the numbers ns stand in d from the place at on, and the rest is still to be
-- laid from the place next on
pub record Reached (before d : List ℕ) (at next i : ℕ) (ns : List ℕ) : Type 0 where
  pub place : next ≡ at + 4 * i
  pub rest : laid d next (encoded (drop i ns)) ≡ laid before at (encoded ns)

pub begun : (d : List ℕ) (at next : ℕ) (ns : List ℕ) → next ≡ at → Reached d d at next 0 ns
begun d at next ns e = record {
  place = omega (arith, e);
  rest = ap (λ (k : ℕ). laid d k (encoded ns)) e;
}

pub one-more : {before d : List ℕ} {at next i : ℕ} {ns : List ℕ} (e : List ℕ) (w to : ℕ)
    → Reached before d at next i ns → i < length ns → at + 4 * length ns ≤ length d → w ≡ get_or ns i 0
    → e ≡ laid d next (bytes 4 w) → to ≡ next + 4 → Reached before e at to (i + 1) ns
one-more {before} {d} {at} {next} {i} {ns} e w to r h l q s t =
    let x = bytes 4 (get_or ns i 0) in
    let n = bytes-length 4 (get_or ns i 0) in
    let y = encoded (drop (i + 1) ns) in
    record {
      place = omega (arith, r.place, t);
      rest =
          ap (λ (k : List ℕ). laid k to y) (s ∙ ap (λ (k : ℕ). laid d next (bytes 4 k)) q)
          ∙ laid_next d next x (omega (arith, n, r.place, h, l)) to y (omega (arith, n, t))
          ∙ ap (λ (k : List ℕ). laid d next k) (sym (encoded-step ns i h))
          ∙ r.rest;
    }

pub all-there : {before d : List ℕ} {at next i : ℕ} {ns : List ℕ} → Reached before d at next i ns
    → length ns ≤ i → d ≡ laid before at (encoded ns)
all-there {before} {d} {at} {next} {i} {ns} r h =
    sym (ap (λ (k : List ℕ). laid d next k) (encoded-end ns i h) ∙ laid_nil d next) ∙ r.rest

-- ---- parts
pub given-all : (on : Bool) (ns : List ℕ) → on ≡ true → length (given on ns) ≡ 4 * length ns
given-all on ns e = rw e (encoded-length ns)

pub room-all : (at : ℕ) (on : Bool) (ns out : List ℕ) → on ≡ true → at + length (given on ns) ≤ length out
    → at + 4 * length ns ≤ length out
room-all at on ns out e h = omega (arith, given-all on ns e)

pub none-put : (d : List ℕ) (at : ℕ) (on : Bool) (ns : List ℕ) → on ≡ false → Puts d d at on ns at
none-put d at on ns e = rw e (record { there = sym (laid_nil d at); next = omega arith })

pub all-put : (d e : List ℕ) (at : ℕ) (on : Bool) (ns : List ℕ) (r : ℕ) → on ≡ true → e ≡ laid d at (encoded ns)
    → r ≡ at + 4 * length ns → Puts d e at on ns r
all-put d e at on ns r o i n = rw o (record { there = i; next = omega (arith, encoded-length ns) })

pub same-room : {d e : List ℕ} {at r : ℕ} {on : Bool} {ns : List ℕ} → Puts d e at on ns r
    → at + length (given on ns) ≤ length d → length e ≡ length d
same-room {d} {at = at} {on = on} {ns = ns} a h = ap length a.there ∙ laid-length d at (given on ns) h

-- ---- the line's numbers, the oldest first
abbrev pub oldest : ℕ → List ℤ → List ℕ
oldest at l = map word (reverse (ring at l))

pub length-ring : (at : ℕ) (l : List ℤ) → length (ring at l) ≡ length l
unfolding ring
length-ring at l =
    omega (
      arith,
      length-append (reverse (take at l)) (reverse (drop at l)),
      length-reverse (take at l),
      length-reverse (drop at l),
      length-take at l,
      length-drop at l,
    )

module _ (at : ℕ) (l : List ℤ) (n : length l ≡ 2112) where
  ring_long : length (ring at l) ≡ 2112
  ring_long = length-ring at l ∙ n

  pub oldest-long : length (oldest at l) ≡ 2112
  oldest-long = length-map (reverse (ring at l)) word ∙ length-reverse (ring at l) ∙ ring_long

  pub oldest-at : (i : ℕ) → i < 2112 → get_or (oldest at l) i 0 ≡ word (get_or (ring at l) (2112 - i - 1) (pos 0))
  oldest-at i h =
      let e : length (ring at l) - suc i ≡ 2112 - i - 1 = omega (arith, ring_long) in
      get_or-map word (reverse (ring at l)) i (pos 0)
      ∙ ap word (turned_at (ring at l) i (omega (arith, ring_long))
      ∙ ap (λ (k : ℕ). get_or (ring at l) k (pos 0)) e)

pub read_small : {xs : List ℤ} (k : ℕ) → Within M xs → nat_abs (get_or xs k (pos 0)) ≤ 2 * M
read_small k h = omega (arith, get_d_within k h)

-- ---- part after part
packed-cons : (b : Bool) (bs : List Bool) (p : List ℕ) (ps : List (List ℕ))
    → packed (b ∷ bs) (p ∷ ps) ≡ given b p ++ packed bs ps
unfolding packed
packed-cons true bs p ps = refl
packed-cons false bs p ps = refl

pub pack_size : (b : Bool) (bs : List Bool) (p : List ℕ) (ps : List (List ℕ))
    → length (packed (b ∷ bs) (p ∷ ps)) ≡ length (given b p) + length (packed bs ps)
pack_size b bs p ps = ap length (packed-cons b bs p ps) ∙ length-append (given b p) (packed bs ps)

pub no_more : (d : List ℕ) (at : ℕ) → Packs d d at [] [] at
unfolding packed
no_more d at = record { there = sym (laid_nil d at); next = omega arith }

pub end-size : length (packed [] []) ≡ 0
unfolding packed
end-size = refl

-- there is room for the parts ps whose bit stands
pub record Room (d : List ℕ) (at : ℕ) (bs : List Bool) (ps : List (List ℕ)) : Type 0 where
  pub room : at + length (packed bs ps) ≤ length d

module _ {d : List ℕ} {at : ℕ} {on : Bool} {ns : List ℕ} {bs : List Bool} {ps : List (List ℕ)}
    (h : Room d at (on ∷ bs) (ns ∷ ps)) where
  -- for the first of them
  pub for-one : at + length (given on ns) ≤ length d
  for-one = omega (arith, h.room, pack_size on bs ns ps)

  module _ {e : List ℕ} {p : ℕ} (a : Puts d e at on ns p) where
    -- and once it is there, for the others
    pub for-more : Room e p bs ps
    for-more = record {
      room = omega (arith, h.room, pack_size on bs ns ps, same-room a for-one, a.next);
    }

    pub then-pack : {f : List ℕ} {r : ℕ} → Packs e f p bs ps r → Packs d f at (on ∷ bs) (ns ∷ ps) r
    then-pack {f} {r} b =
        record {
          there =
              b.there
              ∙ ap (λ (l : List ℕ). laid l p (packed bs ps)) a.there
              ∙ laid_next d at (given on ns) for-one p (packed bs ps) a.next
              ∙ ap (λ (l : List ℕ). laid d at l) (sym (packed-cons on bs ns ps));
          next = omega (arith, a.next, b.next, pack_size on bs ns ps);
        }

-- ---- which parts differ
same-words : (p u : List ℕ) → pointwise eqb p u ≡ same p u
same-words [] [] = refl
same-words [] (b ∷ u) = refl
same-words (a ∷ p) [] = refl
same-words (a ∷ p) (b ∷ u) = ap (λ (r : Bool). eqb a b && r) (same-words p u)

alone : (b : Bool) → not (b && true) ≡ not b
alone true = refl
alone false = refl

pub choose : (w : Words) (sounds : Bool) (b : Bits)
    → b.tuning ≡ not (pointwise eqb w.tuning (1 ∷ 1 ∷ 4096 ∷ []))
    → b.loss ≡ not (eqb w.loss 0) → b.advance ≡ not (eqb w.advance 0) → b.last ≡ not (eqb w.last 0)
    → b.state ≡ not (pointwise eqb w.state (0 ∷ 0 ∷ 0 ∷ []))
    → b.change ≡ not (pointwise eqb w.change (0 ∷ 0 ∷ 0 ∷ 0 ∷ 0 ∷ 0 ∷ 0 ∷ 0 ∷ []))
    → b.pluck ≡ not (pointwise eqb w.pluck (0 ∷ 0 ∷ 0 ∷ [])) → b.line ≡ sounds
    → Chooses w sounds b
unfolding chosen refused_parts parts stored
choose w sounds b t l a y s c p n ws e =
    rw (
      t ∙ ap not (same-words w.tuning _),
      l ∙ sym (alone (eqb w.loss 0)),
      a ∙ sym (alone (eqb w.advance 0)),
      y ∙ sym (alone (eqb w.last 0)),
      s ∙ ap not (same-words w.state _),
      c ∙ ap not (same-words w.change _),
      p ∙ ap not (same-words w.pluck _),
      n ∙ e,
    )

-- ---- the length and the bit map
size-part : (b : Bool) (bs : List Bool) (u : List ℕ) (us : List (List ℕ)) (n : ℕ) → 4 * length u ≡ n
    → size (b ∷ bs) (u ∷ us) ≡ n * bool_byte b + size bs us
unfolding size
size-part true bs u us n e = omega arith
size-part false bs u us n e = omega arith

size-end : size [] [] ≡ 0
unfolding size
size-end = refl

line-size : 4 * length (map word (reverse silence)) ≡ 8448
line-size = omega (arith, refused-line)

pub size_is : (b : Bits) → size (flags_of b) refused_parts
    ≡ 12 * bool_byte b.tuning + (4 * bool_byte b.loss + (4 * bool_byte b.advance + (4 * bool_byte b.last
    + (12 * bool_byte b.state + (32 * bool_byte b.change + (12 * bool_byte b.pluck + 8448 * bool_byte b.line))))))
unfolding refused_parts parts
size_is b =
    size-part b.tuning _ _ _ 12 refl
    ∙ ap (λ (n : ℕ). 12 * bool_byte b.tuning + n) (size-part b.loss _ _ _ 4 refl
    ∙ ap (λ (n : ℕ). 4 * bool_byte b.loss + n) (size-part b.advance _ _ _ 4 refl
    ∙ ap (λ (n : ℕ). 4 * bool_byte b.advance + n) (size-part b.last _ _ _ 4 refl
    ∙ ap (λ (n : ℕ). 4 * bool_byte b.last + n) (size-part b.state _ _ _ 12 refl
    ∙ ap (λ (n : ℕ). 12 * bool_byte b.state + n) (size-part b.change _ _ _ 32 refl
    ∙ ap (λ (n : ℕ). 32 * bool_byte b.change + n) (size-part b.pluck _ _ _ 12 refl
    ∙ ap (λ (n : ℕ). 12 * bool_byte b.pluck + n) (size-part b.line _ _ _ 8448 line-size
    ∙ ap (λ (n : ℕ). 8448 * bool_byte b.line + n) size-end ∙ omega arith)))))))

weight : (b : Bool) → cond b 1 0 ≡ bool_byte b
weight true = refl
weight false = refl

pub map_is : (b : Bits) → map_byte (flags_of b)
    ≡ bool_byte b.tuning + 2 * bool_byte b.loss + 4 * bool_byte b.advance + 8 * bool_byte b.last
    + 16 * bool_byte b.state + 32 * bool_byte b.change + 64 * bool_byte b.pluck + 128 * bool_byte b.line
unfolding map_byte
map_is b =
    omega (
      arith,
      weight b.tuning,
      weight b.loss,
      weight b.advance,
      weight b.last,
      weight b.state,
      weight b.change,
      weight b.pluck,
      weight b.line,
    )
