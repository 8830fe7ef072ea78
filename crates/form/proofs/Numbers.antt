-- The numbers of a voice are those of no other, and in parts of 32 bits they come back.

use mathlib.Core.Path.{◌≡◌, refl, sym, ap, ap₂, ◌∙◌}
use mathlib.Core.List.{List, [], ◌∷◌, ◌++◌, map, reverse, reverse-reverse}
use mathlib.Core.Option.{Option, none, some}
use Prim.Native.Nat.{ℕ, zero, suc, ◌+◌, ◌*◌, ◌^◌, ◌≤◌, ◌<◌}
use native.Mathlib.Omega.{arith}
use lib.IntN.{ℤ, pos, negsuc, nat_abs}
use lib.ListN.{length, length-map, length-reverse}
use Rattle.integer.specs.Rounding.{M}
use Rattle.integer.proofs.View.{Zs, absv, negv}
use Rattle.refusal.specs.Limits.{Limit}
use Rattle.refusal.specs.Orders.{orders}
use Rattle.octets.specs.Octets.{half}
use Rattle.octets.specs.Theorems.{Fits}
use Rattle.octets.proofs.Theorems.{signed_back}
use Rattle.allpass.specs.Bounds.{Within, none, more}
use Rattle.allpass.specs.Stored.{stored, entries, held}
use Rattle.allpass.specs.declared.State.{State as Three}
use Rattle.allpass.proofs.Stored.{held-stored}
use Rattle.rule.specs.Voice.{Tuning, announced, asked, Kind, Waiting, Pluck, Voice}
use Rattle.rule.specs.State.{State, silence}
use Rattle.rule.specs.Valid.{Tunable, Filled, Coming, Whole}
use Rattle.rule.proofs.Line.{length-silence}
use Rattle.form.specs.Numbers.{Change, Numbers, kind_of, change_of, numbers_of, waits, waiting_of, state_of}
use Rattle.form.specs.Parts.{word, value, parts, three, numbers_in, refused_parts}
use Rattle.form.proofs.Packing.{total, Words, none, more, Shaped, Worded}

-- ---- a voice and its numbers
same-waiting : (w : Waiting) {k : Kind} {q : List ℤ} → k ≡ w.kind → q ≡ w.state
    → ◌≡◌ {A = Waiting} (record { kind = k; tuning = w.tuning; taken = w.taken; state = q }) w
same-waiting w e i = rw (e, i)

waiting-back : (Na : ℕ) (o : Option Waiting) → ((w : Waiting) → o ≡ some w → Coming Na w)
    → waiting_of (change_of o).kind (change_of o) ≡ o
waiting-back Na none f = refl
waiting-back Na (some w) f = by_kind w.kind refl
  where
    g : Coming Na w
    g = f w refl

    back : held w.tuning.N (stored w.state) ≡ w.state
    back = held-stored w.tuning.N w.state g.state.many g.fit.takes.most

    by_kind : (k : Kind) → w.kind ≡ k → waiting_of (kind_of k) (change_of (some w)) ≡ some w
    by_kind announced e = ap some (same-waiting w (sym e) back)
    by_kind asked e = ap some (same-waiting w (sym e) back)

same-state : (v : State) {q l : List ℤ} {o : Option Waiting} → q ≡ v.voice.state → o ≡ v.voice.waiting
    → l ≡ v.line
    → ◌≡◌ {A = State} (record {
      voice = record {
        tuning = v.voice.tuning;
        G = v.voice.G;
        Na = v.voice.Na;
        state = q;
        last = v.voice.last;
        waiting = o;
        pluck = v.voice.pluck;
      };
      line = l;
    }) v
same-state v e i j = rw (e, i, j)

pub state_back : (v : State) → Whole v → state_of (numbers_of v) ≡ v
state_back v h =
    let u = v.voice in
    let k = h.voice in
    same-state v (held-stored u.tuning.N u.state k.state.many k.fit.takes.most)
    (waiting-back u.Na u.waiting k.waiting) (reverse-reverse v.line)

-- ---- numbers and words
pub fits : (z : ℤ) → nat_abs z ≤ 2 * M → Fits 4 z
fits z h = record { least = omega (Zs, absv z, negv (pos (half 4))); most = omega (Zs, absv z) }

pub value-back : (z : ℤ) → nat_abs z ≤ 2 * M → value (word z) ≡ z
value-back z h = signed_back 4 (omega arith) z (fits z h)

pub word-under : (z : ℤ) → nat_abs z ≤ 2 * M → word z < 2 ^ 32
word-under (pos n) h = omega arith
word-under (negsuc n) h = omega arith

pub values-back : {xs : List ℤ} → Within (2 * M) xs → map value (map word xs) ≡ xs
values-back none = refl
values-back (more {x} h w) = ap₂ ◌∷◌ (value-back x h) (values-back w)

pub words-under : {xs : List ℤ} → Within (2 * M) xs → Words (map word xs)
words-under none = none
words-under (more {x} h w) = more (word-under x h) (words-under w)

-- ---- the numbers that 32 bits hold
pub record Small (i : Numbers) : Type 0 where
  pub tuning : Words (i.tuning.N ∷ i.tuning.L ∷ i.tuning.d ∷ [])
  pub G : i.G < 2 ^ 32
  pub Na : i.Na < 2 ^ 32
  pub last : nat_abs i.last ≤ 2 * M
  pub state : Within (2 * M) (entries i.state)
  pub change : Words (
      i.change.kind
      ∷ i.change.tuning.N
      ∷ i.change.tuning.L
      ∷ i.change.tuning.d
      ∷ i.change.taken
      ∷ map word (entries i.change.state))
  pub change-state : Within (2 * M) (entries i.change.state)
  pub pluck : Words (i.pluck.amplitude ∷ i.pluck.left ∷ i.pluck.noise ∷ [])
  pub line : Within (2 * M) i.line

entries-back : (v : Three) → Within (2 * M) (entries v)
    → ◌≡◌ {A = Three} (record { v1 = value (word v.v1); v2 = value (word v.v2); v3 = value (word v.v3) }) v
entries-back v (more a (more b (more c none))) =
    rw (value-back v.v1 a, value-back v.v2 b, value-back v.v3 c)

pub numbers_back : (i : Numbers) → Small i → numbers_in (parts i) ≡ i
unfolding numbers_in parts
numbers_back i s =
    rw (
      value-back i.last s.last,
      entries-back i.state s.state,
      entries-back i.change.state s.change-state,
      values-back s.line,
    )

pub refused-line : length (map word (reverse silence)) ≡ 2112
refused-line = length-map (reverse silence) word ∙ length-reverse silence ∙ length-silence

pub parts_shaped : (i : Numbers) → Small i → length i.line ≡ 2112 → Shaped (parts i) refused_parts
unfolding parts refused_parts
parts_shaped i s n =
    more refl s.tuning
    (more refl (more s.G none)
    (more refl (more s.Na none)
    (more refl (more (word-under i.last s.last) none)
    (more refl (words-under s.state)
    (more refl s.change
    (more refl s.pluck
    (more (length-map i.line word ∙ n ∙ sym refused-line) (words-under s.line) none)))))))

pub refused-total : total refused_parts ≡ 8528
unfolding refused_parts parts
refused-total = omega (arith, refused-line)
