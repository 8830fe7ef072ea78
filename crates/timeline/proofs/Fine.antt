-- Merged records are well formed, and their fields are 16 bits.
-- Assumes nothing.
use mathlib.Core.Path.{◌≡◌, refl, sym, ◌∙◌}
use mathlib.Core.Bool.{Bool, true, false, cond}
use mathlib.Core.List.{List, [], ◌∷◌}
use Prim.Native.Nat.{ℕ, zero, suc, ◌+◌, ◌-◌, ◌<◌, min}
use native.Mathlib.Omega.{arith}
use borrow.Author.Tests.{ne_eqb}
use lib.Dec.{leb}
use lib.ListN.{get_or}
use Rattle.refusal.proofs.Tests.{accepted}
use Rattle.refusal.specs.Orders.{order, delay}
use Rattle.rule.specs.Tests as Tests
use Rattle.rule.specs.Voice.{tuning}
use Rattle.record.specs.Record.{present, without, ill_formed}
use Rattle.follow.specs.Follow.{value, stands, absent, count_of}
use Rattle.outline.specs.Outline.{Outline, passed, result, change_calls}
use Rattle.outline.specs.Outline.{waits, length_to, delay_to}
use Rattle.outline.proofs.Calls.{single, change-number}
use Rattle.timeline.specs.Merge.{merge}
use Rattle.timeline.specs.Events.{Event, event, events}
use Rattle.timeline.specs.Merged.{changes, map_for, merge_record, merged_from}
use Rattle.timeline.specs.Order.{at, Ready}
use Rattle.timeline.specs.Order as Order
use Rattle.timeline.proofs.Acts.{accepts}
use Rattle.timeline.proofs.Sound.{Field, Sound, AllSound}
use Rattle.timeline.proofs.Sound as Sounds
use Rattle.timeline.specs.Ends.{Ends}
use Rattle.timeline.specs.Ends as Ends'
use Rattle.timeline.proofs.Bits.{map-bits}
use Rattle.timeline.proofs.ReadBack.{Written}
use Rattle.timeline.proofs.ReadBack as Back

pub record Fine (e : Event) : Type 0 where
  pub sound : Sound e.own
  pub changed : 0 < stands e.own 1 + stands e.own 2 → (e.L < 65536) × (e.d < 65536)

pub data All (P : Event → Type 0) : List Event → Type 0 where
  none : All P []
  more : {e : Event} {es : List Event} → P e → All P es → All P (e ∷ es)

-- ---- of two lists, so of their merge
module _ (P : Event → Type 0) where
  placed_all : (e : Event) (es fs : List Event) → P e → ((gs : List Event) → All P gs → All P (merge at es gs))
      → All P fs → All P (merge at (e ∷ es) fs)
  placed_all e es [] p f none = more p (f [] none)
  placed_all e es (g ∷ gs) p f (more q qs) = go (leb (at e) (at g)) (placed_all e es gs p f qs)
    where
      go : (b : Bool) → All P (merge at (e ∷ es) gs) → All P (cond b (e ∷ merge at es (g ∷ gs)) (g ∷ merge at (e ∷ es) gs))
      go true i = more p (f (g ∷ gs) (more q qs))
      go false i = more q i

  pub all-merge : (es fs : List Event) → All P es → All P fs → All P (merge at es fs)
  all-merge [] fs s t = t
  all-merge (e ∷ es) fs (more p s) t = placed_all e es fs p (λ gs u. all-merge es gs s u) t

-- ---- a merged record
present_ok : (c : ℕ) {v : ℕ} → (0 < c → v < 65536) → Field c (present c v)
present_ok zero h = record { small = omega arith; absent = λ e. refl }
present_ok (suc c) h = record { small = h (omega arith); absent = λ e. absurd (omega arith) }

count_small : (r : List ℕ) → Sound r → count_of r < 65536
count_small r s = go (absent r 5)
  where
    go : (b : Bool) → cond b 100 (value r 5) < 65536
    go true = omega arith
    go false = (s.field 5 (omega arith)).small

formed-pluck : (p five six : ℕ) → without (five + six) p ≡ 0 → without (p + six) p ≡ 0
formed-pluck zero five six e = omega arith
formed-pluck (suc p) five six e = refl

formed-change : (x : ℕ) {c : ℕ} (seven : ℕ) → c ≡ min x 1 → without seven x ≡ 0 → without seven (c + c) ≡ 0
formed-change zero {c} seven i e = let z : c ≡ 0 = omega arith in rw z e
formed-change (suc x) {c} seven i e = let z : c ≡ 1 = omega arith in rw z refl

module _ (w : ℕ) (e : Event) (h : w < 65536) (f : Fine e) where
  abbrev r : List ℕ
  r = e.own

  abbrev M : ℕ
  M = map_for w r

  merged-field : (k : ℕ) → k < 7 → Field (stands (merge_record w e) k) (value (merge_record w e) k)
  unfolding merge_record
  merged-field zero l =
      let b = map-bits w r in
      rw b.b0 (record { small = h; absent = λ z. omega arith })
  merged-field (suc zero) l =
      let b = map-bits w r in
      rw b.b1 (present_ok (changes r) (λ z. (f.changed (omega arith)).0))
  merged-field (suc (suc zero)) l =
      let b = map-bits w r in
      rw b.b2 (present_ok (changes r) (λ z. (f.changed (omega arith)).1))
  merged-field (suc (suc (suc zero))) l =
      let b = map-bits w r in
      rw b.b3 (f.sound.field 3 (omega arith))
  merged-field (suc (suc (suc (suc zero)))) l =
      let b = map-bits w r in
      rw b.b4 (f.sound.field 4 (omega arith))
  merged-field (suc (suc (suc (suc (suc zero))))) l =
      let b = map-bits w r in
      rw b.b5 (present_ok (stands r 4) (λ z. count_small r f.sound))
  merged-field (suc (suc (suc (suc (suc (suc zero)))))) l =
      let b = map-bits w r in
      rw b.b6 (f.sound.field 6 (omega arith))
  merged-field (suc (suc (suc (suc (suc (suc (suc k))))))) l = absurd (omega arith)

  merged-formed : ill_formed (get_or (merge_record w e) 1 0) ≡ 0
  unfolding merge_record
  merged-formed =
      let b = map-bits w r in
      let own = f.sound.formed in
      let p = formed-pluck (stands r 4) (stands r 5) (stands r 6) (omega arith) in
      let q = formed-change (stands r 1 + stands r 2) (stands r 7) refl (omega arith) in
      rw (b.b1, b.b2, b.b4, b.b5, b.b6, b.b7) (omega (arith, p, q))

  pub merged_sound : Sound (merge_record w e)
  merged_sound = record { field = merged-field; formed = merged-formed }

merged_shape : (w : ℕ) (e : Event)
    → let r = merge_record w e in
    0 ∷ get_or r 1 0 ∷ value r 0 ∷ value r 1 ∷ value r 2 ∷ value r 3 ∷ value r 4 ∷ value r 5 ∷ value r 6 ∷ [] ≡ r
unfolding merge_record
merged_shape w e = refl

pub written : {p : ℕ} {es : List Event} → Ready p es → All Fine es → Written (merged_from p es)
unfolding merged_from
written Order.done none = Back.none
written {p} (Order.next {e = e} l k s) (more f fs) =
    let b = (f.sound.field 0 (omega arith)).small in
    Back.more (merged_sound (at e - p) e (omega arith) f) (merged_shape (at e - p) e) (written s fs)

-- ---- the events of a score
-- a change that was accepted is within its limits
change-small : (N Na : ℕ) (r : List ℕ) (o : Outline) → result Na o (change_calls N r o) ≡ 0
    → 0 < stands r 1 + stands r 2 → (length_to r o < 65536) × (delay_to r o < 65536)
change-small N Na r o e l =
    let to = tuning N (length_to r o) (delay_to r o) in
    let i = rw (ne_eqb (stands r 1 + stands r 2) 0 (λ z. omega arith)) at e in
    let n = sym (change-number (absent r 7) o to) ∙ sym single ∙ i in
    let a = (accepted (order N) (Tests.long to.L ∷ delay N to.d ∷ record { number = 6; low = 0; value = waits o.ahead; high = 0 } ∷ []) tt).0 n in
    (omega (arith, a.1.0.most), omega (arith, a.0.most, a.1.1.0.most))

pub events_fine : (N Na m : ℕ) {o : Outline} {rs : List (List ℕ)} → Ends N Na o rs → AllSound rs
    → All Fine (events N Na m o rs)
unfolding events
events_fine N Na m Ends'.done Sounds.none = none
events_fine N Na m (Ends'.next {o} {r} z s) (Sounds.more t ts) =
    more {e = event m r o}
    (record { sound = t; changed = change-small N Na r (passed (value r 0) o) (accepts N Na r o z).change })
    (events_fine N Na (m + value r 0) s ts)
