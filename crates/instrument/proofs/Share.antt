-- With the share (o, cs) a string is the voice that cs leave after o.
use mathlib.Core.Path.{◌≡◌, refl, sym, ap, ◌∙◌}
use mathlib.Core.List.{List, [], ◌∷◌, ◌++◌}
use Prim.Native.Nat.{ℕ, ◌≤◌}
use Rattle.rule.specs.Calls.{Call, block, Opening}
use Rattle.rule.specs.State.{State, call, fresh, from}
use Rattle.rule.proofs.Puts.{from-append}
use Rattle.form.specs.Loads.{Loaded, loads}
use Rattle.form.proofs.Theorems as Trip
use Rattle.form.proofs.Resumed.{resumed}
use Rattle.instrument.specs.Strings.{Own, opens, calls, store, load, Play, on, mix, Strings, silent}
use Rattle.instrument.specs.Strings.{own, play, plays}
use Rattle.instrument.specs.Share.{Share, first, opening, calling, mixing, storing, other, resuming}
use Rattle.instrument.specs.Share.{refusing}
use Rattle.instrument.proofs.Apart.{others, itself}

pub plays-more : (ps : List Play) (s : Strings) (p : Play) → plays s (ps ++ p ∷ []) ≡ play (plays s ps) p
plays-more [] s p = refl
plays-more (q ∷ ps) s p = plays-more ps (play s q) p

-- ---- the State
module _ (k : ℕ) (h : k ≤ 5) where
  more : (ps : List Play) (p : Play) → plays silent (ps ++ p ∷ []) k ≡ play (plays silent ps) p k
  more ps p = ap (λ (s : Strings). s k) (plays-more ps silent p)

  more-own : (ps : List Play) (a : Own) → plays silent (ps ++ on k a ∷ []) k ≡ own (plays silent ps k) a
  more-own ps a = more ps (on k a) ∙ itself k h (plays silent ps) a

  pub held : {ps : List Play} {o : Opening} {cs : List Call} → Share k ps o cs
      → plays silent ps k ≡ from (fresh o) cs
  unfolding play
  held (first {o} f) = sym (Trip.refused_opens o f)
  held (opening ps {o}) = more-own ps (opens o)
  held (calling {ps} {o} {cs} c s) =
      more-own ps (calls c) ∙ ap (λ (v : State). call v c) (held s) ∙ sym (from-append (fresh o) cs (c ∷ []))
  held (mixing {ps} {o} {cs} xs n s) =
      more ps (mix xs n)
      ∙ ap (λ (v : State). call v (block xs n)) (held s)
      ∙ sym (from-append (fresh o) cs (block xs n ∷ []))
  held (storing {ps} old s) = more-own ps (store old) ∙ held s
  held (other {ps} j a f s) = more ps (on j a) ∙ others (plays silent ps) j k a (λ e. f (sym e)) ∙ held s
  held (resuming ps o cs bytes z e) =
      more-own ps (load bytes)
      ∙ ap (λ (r : Loaded). r.state)
      (ap loads e ∙ Trip.back (from (fresh o) cs) (resumed.reached o cs z))
  held (refusing ps {o} bytes f g) =
      more-own ps (load bytes) ∙ Trip.nothing bytes f ∙ sym (Trip.refused_opens o g)
