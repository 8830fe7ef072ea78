-- Once a move has taken effect, and while no later one is accepted, the junction is that of its filters alone.
use mathlib.Core.Path.{◌≡◌, refl, sym, subst}
use mathlib.Core.List.{List, [], ◌∷◌}
use mathlib.Core.Option.{Option, none, some}
use Prim.Native.Nat.{ℕ, ◌+◌, ◌≤◌}
use native.Mathlib.Omega.{arith}
use lib.IntN.{ℤ}
use Rattle.refusal.specs.Limits.{Between}
use Rattle.junction.specs.Junction.{Side, from_left, from_right, Two, at, both, Move, Junction}
use Rattle.junction.specs.Calls.{Call, move, Opening, number, open_junction}
use Rattle.junction.specs.History.{History, steps, call, from, after}
use Rattle.junction.specs.Click.{effect, NoneBy}
use Rattle.junction.specs.InForce.{NoMove, in_force, InForce}
use Rattle.junction.specs.Valid.{Sound}
use Rattle.junction.proofs.Accepted.{move-delay}
use Rattle.junction.proofs.Valid.{after_sound, call_sound, from_sound}
use Rattle.junction.proofs.Course.{Course, coming, ruling, passed, course_begins, course_from}
use Rattle.junction.proofs.Click.{after-split, call-accepted}
use Rattle.junction.proofs.Outputs.{Kept, call_kept, from-kept, after_kept}

none_by : (m : ℕ) (cs : List Call) (h : History) → NoMove h cs → NoneBy m h cs
none_by m [] h n = tt
none_by m (c ∷ cs) h n = (λ d e a. absurd (n.0 d e a), none_by m cs (call h c) n.1)

nothing-waits : (o : Option Move) → ((w : Move) → o ≡ some w → ⊥) → o ≡ none
nothing-waits none f = refl
nothing-waits (some w) f = absurd (f w refl)

pair_is : {X : Type 0} {p : Two X} {f : Side → X} → ((s : Side) → at s p ≡ f s) → p ≡ both f
pair_is e = rw (← e from_left, ← e from_right)

fields_are : (j : Junction) {r : ℤ} {d Na : ℕ} {v : Two (List ℤ)} {x : Two ℤ}
    → j.r ≡ r → j.d ≡ d → j.Na ≡ Na → j.states ≡ v → j.last ≡ x → j.waiting ≡ none
    → j ≡ record { r = r; d = d; Na = Na; states = v; last = x; waiting = none }
fields_are j a b c e f g = rw (← a, ← b, ← c, ← e, ← f, ← g)

module _ (o : Opening) (d c m : ℕ) (h : History) (due : c + (open_junction o).Na ≤ m) (b : Between 2049 d 6143) where
  junction-is : Sound h → Kept (open_junction o).r (open_junction o).Na h → steps h + 64 ≡ m
      → c + (open_junction o).Na ≤ steps h → Course d (open_junction o).Na c m due b h
      → h.junction ≡ in_force o d c h
  junction-is g k e l (coming w p q n t r) = absurd (omega (arith, (g.valid.waiting w p).early))
  junction-is g k e l (passed n f) = absurd (omega arith)
  junction-is g k e l (ruling q n s r f) =
      let z : h.junction.waiting ≡ none
      = nothing-waits h.junction.waiting (λ w p. omega (arith, f w p, g.valid.advance)) in
      fields_are h.junction k.r-is q k.Na-is (pair_is r) (pair_is k.last) z

module _ (o : Opening) (pre post : List Call) (d : ℕ) where
  abbrev start : History
  start = after o pre

  abbrev end : History
  end = from (call start (move d)) post

  end_in_force : number start.junction (move d) ≡ 0 → NoMove (call start (move d)) post
      → effect start ≤ steps end → end.junction ≡ in_force o d (steps start) end
  end_in_force k alone late =
      let m = steps end + 64 in
      let g = after_sound o pre in
      let b = move-delay start.junction d k in
      let a = after_kept o pre in
      let Na-is = a.Na-is in
      let due : steps start + (open_junction o).Na ≤ m = omega arith in
      let begun : Course d (open_junction o).Na (steps start) m due b (call start (move d))
      = subst (λ (x : History). Course d (open_junction o).Na (steps start) m due b x)
      (sym (call-accepted start (move d) k))
      (course_begins d (open_junction o).Na (steps start) m due b start g refl Na-is) in
      let sound = call_sound start (move d) g in
      junction-is o d (steps start) m end due b (from_sound post (call start (move d)) sound)
      (from-kept post (call start (move d)) (call_kept start (move d) a)) refl (omega arith)
      (course_from d (open_junction o).Na (steps start) m due b post (call start (move d))
      (none_by m post (call start (move d)) alone) sound begun)

pub in_force_lem : (o : Opening) (cs : List Call) → InForce o cs
in_force_lem o cs pre post d split k alone late =
    let e = after-split o pre post (move d) split in
    subst (λ (g : History). effect (after o pre) ≤ steps g → g.junction ≡ in_force o d (steps (after o pre)) g)
    (sym e) (end_in_force o pre post d k alone) late
