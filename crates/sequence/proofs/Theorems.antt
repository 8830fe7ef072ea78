-- Frames and events as calls on an instrument: `Sequences`.
use mathlib.Core.Path.{◌≡◌, refl, sym, ap, subst, ◌∙◌}
use mathlib.Core.Bool.{Bool, true, false, cond}
use mathlib.Core.List.{List, [], ◌∷◌, ◌++◌, append-nil, append_assoc}
use Prim.Native.Nat.{ℕ, ◌+◌}
use lib.Dec.{eqb}
use lib.IntN.{ℤ}
use lib.Ieee.{Float}
use borrow.Author.Tests.{eqb-true, eqb-false, eq-eqb}
use Rattle.integer.specs.Rounding.{clip}
use Rattle.rule.specs.Calls.{Call, block, Opening}
use Rattle.rule.specs.State.{State, sounds}
use Rattle.floats.specs.Sample.{enters}
use Rattle.instrument.specs.Strings.{Play, on, calls, mix, Strings, silent, play, plays}
use Rattle.instrument.specs.Share.{Share, calling, mixing}
use Rattle.instrument.proofs.Sums.{total-same}
use Rattle.events.specs.declared.Event.{Event}
use Rattle.events.specs.Events.{call_of, leaves}
use Rattle.events.specs.Events as E
use Rattle.events.proofs.Theorems as Events
use Rattle.host.specs.Frames.{frame_number, one_sample, frame_leaves, left_side, right_side, frame_of, silent_frame}
use Rattle.host.specs.Frames.{frame_out}
use Rattle.host.proofs.Theorems.{frames_hold}
use Rattle.host.proofs.Figures.{frame-figure}
use Rattle.sequence.specs.Sequence.{Host, frame, event, other, host_leaves, host_after, made_by, made}
use Rattle.sequence.specs.Theorems.{Sequences}

-- ---- strings that are alike
abbrev Same : Strings → Strings → Type 0
Same s t = (j : ℕ) → s j ≡ t j

play-same : (p : Play) (s t : Strings) → Same s t → Same (play s p) (play t p)
unfolding play
play-same (on k a) s t h j = rw (h j, h k) refl
play-same (mix xs n) s t h j = rw (h j) refl

plays-same : (ps : List Play) (s t : Strings) → Same s t → Same (plays s ps) (plays t ps)
plays-same [] s t h = h
plays-same (p ∷ ps) s t h = plays-same ps (play s p) (play t p) (play-same p s t h)

plays-append : (ps qs : List Play) (s : Strings) → plays s (ps ++ qs) ≡ plays (plays s ps) qs
plays-append [] qs s = refl
plays-append (p ∷ ps) qs s = plays-append ps qs (play s p)

-- ---- one call
frame_made : (s : Strings) (x : Float) → Same (frame_leaves s x) (plays s (made_by s (frame x)))
frame_made s x j = go (eqb (frame_number x) 0) refl
  where
    go : (b : Bool) → eqb (frame_number x) 0 ≡ b → frame_leaves s x j ≡ plays s (cond b (one_sample x ∷ []) []) j
    go true i = (frames_hold.accepted s x (eqb-true (frame_number x) 0 i)).states j
    go false i = (frames_hold.refused s x (eqb-false (frame_number x) 0 i)).states j

event-made : (s : Strings) (k : ℕ) (e : Event) → Same (leaves s k e) (plays s (made_by s (event k e)))
event-made s k e j = go (eqb (E.number s k e) 0) refl
  where
    go : (b : Bool) → eqb (E.number s k e) 0 ≡ b
        → leaves s k e j ≡ plays s (cond b (on k (calls (call_of (s k) e)) ∷ []) []) j
    go true i = ((Events.theorems).acts s k e (eqb-true (E.number s k e) 0 i)).states j
    go false i = (Events.theorems).refused s k e (eqb-false (E.number s k e) 0 i) j

one-made : (s : Strings) (h : Host) → Same (host_leaves s h) (plays s (made_by s h))
one-made s (frame x) = frame_made s x
one-made s (event k e) = event-made s k e
one-made s (other p) = λ j. refl

-- ---- a list
states : (hs : List Host) (s : Strings) → Same (host_after s hs) (plays s (made s hs))
states [] s j = refl
states (h ∷ hs) s j =
    let u = host_leaves s h in
    states hs u j
    ∙ plays-same (made u hs) u (plays s (made_by s h)) (one-made s h) j
    ∙ ap (λ (t : Strings). t j) (sym (plays-append (made_by s h) (made u hs) s))

made_more : (hs : List Host) (s : Strings) (h : Host)
    → made s (hs ++ h ∷ []) ≡ made s hs ++ made_by (host_after s hs) h
made_more [] s h = append-nil (made_by s h)
made_more (g ∷ hs) s h =
    ap (λ (ps : List Play). made_by s g ++ ps) (made_more hs (host_leaves s g) h)
    ∙ sym (append_assoc (made_by s g) (made (host_leaves s g) hs) (made_by (host_after (host_leaves s g) hs) h))

-- ---- shares
module _ (hs : List Host) (k : ℕ) (o : Opening) (cs : List Call) (h : Share k (made silent hs) o cs) where
  abbrev after : Strings
  after = host_after silent hs

  by_event : (e : Event) → E.number after k e ≡ 0
      → Share k (made silent (hs ++ event k e ∷ [])) o (cs ++ call_of (after k) e ∷ [])
  by_event e z =
      let is : made silent (hs ++ event k e ∷ []) ≡ made silent hs ++ on k (calls (call_of (after k) e)) ∷ []
      = made_more hs silent (event k e)
      ∙ ap (λ (b : Bool). made silent hs ++ cond b (on k (calls (call_of (after k) e)) ∷ []) [])
      (eq-eqb (E.number after k e) 0 z) in
      subst (λ (ps : List Play). Share k ps o (cs ++ call_of (after k) e ∷ [])) (sym is)
      (calling (call_of (after k) e) h)

  by_frame : (x : Float) → frame_number x ≡ 0
      → Share k (made silent (hs ++ frame x ∷ [])) o (cs ++ block ((enters x).n ∷ []) 1 ∷ [])
  by_frame x z =
      let is : made silent (hs ++ frame x ∷ []) ≡ made silent hs ++ one_sample x ∷ []
      = made_more hs silent (frame x)
      ∙ ap (λ (b : Bool). made silent hs ++ cond b (one_sample x ∷ []) []) (eq-eqb (frame_number x) 0 z) in
      subst (λ (ps : List Play). Share k ps o (cs ++ block ((enters x).n ∷ []) 1 ∷ [])) (sym is)
      (mixing ((enters x).n ∷ []) 1 h)

-- ---- the frame of strings that are alike
frame_same : (s t : Strings) (x : Float) → Same s t → frame_out s x ≡ frame_out t x
unfolding frame_out
frame_same s t x h =
    let l : left_side s ≡ left_side t
    = ap clip (total-same (λ k. sounds (s k)) (λ k. sounds (t k)) 3 (λ k. ap sounds (h k))) in
    let r : right_side s ≡ right_side t
    = ap clip
    (total-same (λ k. sounds (s (3 + k))) (λ k. sounds (t (3 + k))) 3 (λ k. ap sounds (h (3 + k)))) in
    ap (λ (y : ℤ). cond (eqb (frame_number x) 0) (frame_of y (right_side s)) silent_frame) l
    ∙ ap (λ (y : ℤ). cond (eqb (frame_number x) 0) (frame_of (left_side t) y) silent_frame) r

pub sequences : Sequences
sequences = record {
  states = λ s hs. states hs s;
  events = λ hs k e o cs z h. by_event hs k o cs h e z;
  frames = λ hs x k o cs z h. by_frame hs k o cs h x z;
  figures = λ hs x K z. (
    frame-figure (made silent hs) x K z,
    frame_same (host_after silent hs) (plays silent (made silent hs)) x (states hs silent),
  );
}
