-- The bits, the length and the bytes that `store` works out are those of the voice's form.

use mathlib.Core.Path.{◌≡◌, refl, sym, ap, subst, ◌∙◌}
use mathlib.Core.Bool.{Bool, true, false, not}
use mathlib.Core.List.{List, [], ◌∷◌, ◌++◌, map, reverse, reverse-reverse}
use Prim.Native.Nat.{ℕ, ◌+◌, ◌%◌, ◌≤◌, ◌<◌}
use native.Mathlib.Omega.{arith}
use native.Mathlib.Decide.{dec_lt}
use lib.Dec.{ltb}
use lib.IntN.{ℤ, pos}
use lib.ListN.{length, take, drop, replicate, take-append-drop}
use borrow.Author.Tests.{lt-ltb, le-ltb, eq-eqb}
use Rattle.integer.specs.Rounding.{M}
use Rattle.samples.specs.Samples.{loudest, over}
use Rattle.samples.proofs.Samples as Samples
use Rattle.allpass.specs.Bounds.{Within, none, more}
use Rattle.allpass.proofs.Bounds.{rest-within, append-within, front_within, back-within}
use Rattle.line.specs.Ring.{ring}
use Rattle.octets.specs.Octets.{bytes, laid}
use Rattle.octets.proofs.Laws.{laid_next}
use Rattle.rule.specs.State.{State, silence}
use Rattle.form.specs.Numbers.{numbers_of}
use Rattle.form.specs.Parts.{word, value, same, parts, refused_parts, map_byte, packed, size, chosen, stored}
use Rattle.form.specs.Loads.{store_number, store_length, left}
use Rattle.form.specs.Theorems.{Storable}
use Rattle.form.proofs.Packing.{same-is, is_same, Shaped, packed-length, map-under}
use Rattle.form.proofs.Limits.{quiet, unquiet, turned_within}
use Rattle.form.proofs.Numbers.{values-back}
use Rattle.form.proofs.Theorems.{of-voice}
use Rattle.form.proofs.Refusals.{refuses}
use Rattle.voice.specs.Struct.{state_of}
use Rattle.voice.specs.Valid.{Valid}
use Rattle.voice.specs.declared.Head.{Head}
use Rattle.store.specs.declared.Words.{Words}
use Rattle.store.specs.declared.Bits.{Bits}
use Rattle.store.specs.Puts.{parts_of, flags_of, Packs, Chooses}
use Rattle.store.specs.Coming.{WordsOf}
use Rattle.store.specs.Stores.{Stores}
use Rattle.store.proofs.Heads.{storable}

-- ---- a line sounds where its numbers are not all those of silence
wider : {A B : ℕ} {xs : List ℤ} → A ≤ B → Within A xs → Within B xs
wider h none = none
wider h (more {x} p w) = more {x = x} (omega arith) (wider h w)

unturned : {B : ℕ} (xs : List ℤ) → Within B (reverse xs) → Within B xs
unturned {B} xs h = subst (λ (l : List ℤ). Within B l) (reverse-reverse xs) (turned_within h)

module _ (at : ℕ) (l : List ℤ) where
  ring-quiet : Within 0 l → Within 0 (ring at l)
  unfolding ring
  ring-quiet h =
      let w : Within 0 (take at l ++ drop at l) = rw (take-append-drop at l) h in
      append-within (turned_within (front_within (take at l) (drop at l) w))
      (turned_within (back-within (take at l) (drop at l) w))

  quiet-ring : Within 0 (ring at l) → Within 0 l
  unfolding ring
  quiet-ring h =
      let t = unturned (take at l) (front_within (reverse (take at l)) (reverse (drop at l)) h) in
      let d = unturned (drop at l) (back-within (reverse (take at l)) (reverse (drop at l)) h) in
      rw (take-append-drop at l) at (append-within t d)

silent-quiet : Within 0 silence
unfolding silence
silent-quiet = rest-within 2112

all-silent : (xs : List ℤ) → length xs ≡ 2112 → Within 0 xs → xs ≡ silence
unfolding silence
all-silent xs n h =
    let z : loudest xs ≡ 0 = omega (arith, unquiet h) in
    Samples.silence xs z ∙ ap (λ (k : ℕ). replicate k (pos 0)) n

words_same : (xs : List ℤ) → Within M xs → map word (reverse xs) ≡ map word (reverse silence) → xs ≡ silence
words_same xs h e =
    let a = values-back (turned_within (wider (omega arith) h)) in
    let b = values-back (turned_within (wider (omega arith) silent-quiet)) in
    sym (reverse-reverse xs) ∙ ap reverse (sym a ∙ ap (map value) e ∙ b) ∙ reverse-reverse silence

pub sounding : (at : ℕ) (l : List ℤ) → length (ring at l) ≡ 2112 → Within M (ring at l)
    → ltb 0 (loudest l) ≡ not (same (map word (reverse (ring at l))) (map word (reverse silence)))
sounding at l n w = go (dec_lt 0 (loudest l)) (same ws us) refl
  where
    ws : List ℕ
    ws = map word (reverse (ring at l))

    us : List ℕ
    us = map word (reverse silence)

    go : Dec (0 < loudest l) → (b : Bool) → same ws us ≡ b → ltb 0 (loudest l) ≡ not b
    go (yes h) false e = lt-ltb 0 (loudest l) h
    go (yes h) true e =
        let s = words_same (ring at l) w (same-is ws us e) in
        let q = quiet-ring at l (rw s silent-quiet) in
        absurd (omega (arith, unquiet q))
    go (no h) true e = le-ltb 0 (loudest l) (omega arith)
    go (no h) false e =
        let s = all-silent (ring at l) n (ring-quiet at l (quiet l (omega arith))) in
        let i : same ws us ≡ true = rw s (is_same us) in
        let z : ◌≡◌ {A = ℕ} 0 1 = cc in
        absurd (omega arith)

-- ---- the form of a voice
module _ (h : Head) (l : List ℤ) (v : Valid h l) (n : length l ≡ 2112) (w : Words) (b : Bits) {sounds : Bool}
    (e : sounds ≡ ltb 0 (loudest l)) (ww : WordsOf h w) (c : Chooses w sounds b) where
  abbrev st : State
  st = state_of h l

  abbrev ws : List ℕ
  ws = map word (reverse (ring h.at l))

  abbrev body : List ℕ
  body = packed (flags_of b) (parts_of w ws)

  can : Storable st
  can = storable h l v n

  bits_are : flags_of b ≡ chosen (parts (numbers_of st)) refused_parts
  bits_are =
      c ws (e ∙ sounding h.at l can.whole.many can.whole.within)
      ∙ ap (λ (ps : List (List ℕ)). chosen ps refused_parts) (ww l)

  stored_is : map_byte (flags_of b) ∷ body ≡ stored st
  unfolding stored
  stored_is =
      ap (λ (ps : List (List ℕ)). map_byte (flags_of b) ∷ packed (flags_of b) ps) (ww l)
      ∙ ap (λ (bs : List Bool). map_byte bs ∷ packed bs (parts (numbers_of st))) bits_are

  pub body_long : length body ≡ size (flags_of b) refused_parts
  body_long =
      packed-length (flags_of b)
      (subst (λ (ps : List (List ℕ)). Shaped ps refused_parts) (sym (ww l)) (of-voice st can))

  pub stored-long : length (stored st) ≡ 1 + size (flags_of b) refused_parts
  stored-long = omega (arith, ap length stored_is, body_long)

  pub too_short : (old : List ℕ) → length old < 1 + size (flags_of b) refused_parts
      → Stores st old old (record { refusal = 18; length = 0 })
  too_short old s =
      let r = (refuses.storing st old).short.1 (omega (arith, stored-long)) in
      let u = refuses.untouched st old (λ z. omega (arith, r, z)) in
      record { number = sym r; long = sym u.0; slice = sym u.1 }

  one_byte : (m : ℕ) → m < 256 → bytes 1 m ≡ m ∷ []
  unfolding bytes
  one_byte m s = let i : m % 256 ≡ m = omega arith in rw i

  all_there : (old mid new : List ℕ) (r : ℕ) → 1 + size (flags_of b) refused_parts ≤ length old
      → mid ≡ laid old 0 (bytes 1 (map_byte (flags_of b))) → Packs mid new 1 (flags_of b) (parts_of w ws) r
      → new ≡ over (stored st) old
  all_there old mid new r s i p =
      let m = map_byte (flags_of b) in
      let q = one_byte m (map-under (flags_of b)) in
      p.there
      ∙ ap (λ (d : List ℕ). laid d 1 body) (i ∙ ap (λ (x : List ℕ). laid old 0 x) q)
      ∙ laid_next old 0 (m ∷ []) (omega arith) 1 body refl
      ∙ ap (λ (x : List ℕ). laid old 0 x) stored_is
      ∙ at_front (stored st)
    where
      at_front : (x : List ℕ) → laid old 0 x ≡ over x old
      at_front x = let z : 0 + length x ≡ length x = omega arith in ap (λ (k : ℕ). x ++ drop k old) z

  pub fits_in : (old mid new : List ℕ) (r : ℕ) → 1 + size (flags_of b) refused_parts ≤ length old
      → mid ≡ laid old 0 (bytes 1 (map_byte (flags_of b))) → Packs mid new 1 (flags_of b) (parts_of w ws) r
      → Stores st old new (record { refusal = 0; length = r })
  unfolding store_length left
  fits_in old mid new r s i p =
      let z = (refuses.storing st old).accepted.1 (omega (arith, stored-long)) in
      let f = eq-eqb (store_number st (length old)) 0 z in
      record {
        number = sym z;
        long = rw f (omega (arith, p.next, body_long, stored-long));
        slice = rw f (all_there old mid new r s i p);
      }
