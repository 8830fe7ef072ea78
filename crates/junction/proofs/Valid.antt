-- Every junction that calls reach is within its limits, "states within 2M"; so are all its accepted inputs.
--
use mathlib.Core.Path.{◌≡◌, refl, sym, subst, ◌∙◌}
use mathlib.Core.Bool.{Bool, true, false, cond}
use mathlib.Core.List.{List, [], ◌∷◌, ◌++◌}
use mathlib.Core.Option.{Option, none, some}
use Prim.Native.Nat.{ℕ, ◌+◌, ◌≤◌}
use native.Mathlib.Omega.{arith}
use lib.Dec.{eqb}
use lib.IntN.{ℤ, nat_abs}
use lib.ListN.{length, length-append}
use borrow.Author.Tests.{eqb-true}
use Rattle.integer.specs.Rounding.{M}
use Rattle.refusal.specs.Limits.{Between, refusal}
use Rattle.refusal.proofs.Tests.{accepted}
use Rattle.allpass.specs.Bounds.{Within, none, more}
use Rattle.junction.specs.Junction.{Side, from_left, from_right, Two, at, both, Move, Junction, rest_states, next_states}
use Rattle.junction.specs.Junction.{reflection, filter_output, take_inputs}
use Rattle.junction.specs.Calls.{Opening, Call, move, sample, area_limit, delay_limit, advance_limit, open_limits, number}
use Rattle.junction.specs.Calls.{junction_at_rest, open_junction, accept}
use Rattle.junction.specs.History.{History, steps, extend, call, from, fresh, after}
use Rattle.junction.specs.Valid.{Full, Coming, Valid, Sound}
use Rattle.junction.proofs.Filters.{rest-filled, next-filled, snoc_within}
use Rattle.junction.proofs.Steps.{none-some, same_some, Settles, switches, holds, Goes, idle, waits}
use Rattle.junction.proofs.Steps.{goes, moves}
use Rattle.junction.proofs.Accepted.{move-delay, sample-within}

-- ---- states
pub rests_full : Full rest_states
rests_full from_left = rest-filled
rests_full from_right = rest-filled

nexts_full : {d : ℕ} {v : Two (List ℤ)} (x : Two ℤ) → Between 2049 d 6143 → Full v
    → ((s : Side) → nat_abs (at s x) ≤ M) → Full (next_states d v x)
nexts_full x b h k from_left = next-filled from_left x.a b (h from_left) (k from_left)
nexts_full x b h k from_right = next-filled from_right x.b b (h from_right) (k from_right)

nothing : {Na : ℕ} {o : Option Move} → o ≡ none → (w : Move) → o ≡ some w → Coming Na w
nothing e w p = absurd (none-some (sym e ∙ p))

-- ---- a junction
module _ (j : Junction) where
  -- a move that has not taken more than Na inputs
  settles_valid : {w : Move} {k : Junction} → Valid j → Between 2049 w.d 6143 → w.taken ≤ j.Na
      → Full w.states → Settles j w k → Valid k
  settles_valid g b l f (switches e i) =
      rw i (record { delay = b; advance = g.advance; states = f; waiting = nothing refl })
  settles_valid {w} g b l f (holds n i) =
      let c : Coming j.Na w = record { delay = b; early = omega arith; states = f } in
      rw i
      (record {
        delay = g.delay;
        advance = g.advance;
        states = g.states;
        waiting = λ u p. subst (Coming j.Na) (same_some p) c;
      })

take-valid : (j : Junction) (x : Two ℤ) → Valid j → ((s : Side) → nat_abs (at s x) ≤ M) → Valid (take_inputs j x)
take-valid j x g k = record {
  delay = g.delay;
  advance = g.advance;
  states = nexts_full x g.delay g.states k;
  waiting = nothing refl;
}

goes-valid : (j : Junction) (x : Two ℤ) {k : Junction} → Valid j → ((s : Side) → nat_abs (at s x) ≤ M)
    → Goes j x k → Valid k
goes-valid j x g l (idle p i) = rw i (take-valid j x g l)
goes-valid j x g l (waits w p t) =
    let c = g.waiting w p in
    settles_valid (take_inputs j x) (take-valid j x g l) c.delay c.early
    (nexts_full x c.delay c.states l) t

pub accept-valid : (j : Junction) (c : Call) → number j c ≡ 0 → Valid j → Valid (accept j c)
unfolding accept
accept-valid j (move d) e g = settles_valid j g (move-delay j d e) (omega arith) rests_full (moves j d)
accept-valid j (sample x) e g = goes-valid j x g (sample-within j x e) (goes j x)

at-rest-valid : (r : ℤ) (d Na : ℕ) → Between 2049 d 6143 → Na ≤ 64 → Valid (junction_at_rest r d Na)
at-rest-valid r d Na b l = record { delay = b; advance = l; states = rests_full; waiting = nothing refl }

pub open_valid : (o : Opening) → Valid (open_junction o)
unfolding open_junction
open_valid o = go (eqb (refusal (open_limits o)) 0) refl
  where
    go : (b : Bool) → eqb (refusal (open_limits o)) 0 ≡ b
        → Valid (cond b (junction_at_rest (reflection o.left o.right) o.d o.Na) (junction_at_rest (reflection 1 1) 4096 0))
    go true e =
        let p = (accepted (area_limit o.left o.right) (delay_limit o.d ∷ advance_limit o.Na ∷ []) tt).0
        (eqb-true (refusal (open_limits o)) 0 e) in
        at-rest-valid (reflection o.left o.right) o.d o.Na p.1.0 p.1.1.most
    go false e =
        at-rest-valid (reflection 1 1) 4096 0 (record { least = omega arith; most = omega arith }) (omega arith)

-- ---- with its history
snoc_length : (l : List ℤ) (x : ℤ) (k : List ℤ) (y : ℤ) → length l ≡ length k
    → length (l ++ (x ∷ [])) ≡ length (k ++ (y ∷ []))
snoc_length l x k y e = omega (arith, length-append l (x ∷ []), length-append k (y ∷ []))

pub extend_sound : (h : History) (c : Call) → number h.junction c ≡ 0 → Sound h → Sound (extend h c)
extend_sound h (move d) e g = record {
  valid = accept-valid h.junction (move d) e g.valid;
  many = g.many;
  put = g.put;
  within = g.within;
}
extend_sound h (sample x) e g = record {
  valid = accept-valid h.junction (sample x) e g.valid;
  many = many;
  put = put;
  within = within;
}
  where
    many : (s : Side) → length (at s (extend h (sample x)).inputs) ≡ steps (extend h (sample x))
    many from_left = refl
    many from_right = snoc_length h.inputs.b x.b h.inputs.a x.a (g.many from_right)

    put : (s : Side) → length (at s (extend h (sample x)).filters) ≡ steps (extend h (sample x))
    put from_left =
        snoc_length h.filters.a (filter_output h.junction x from_left) h.inputs.a x.a (g.put from_left)
    put from_right =
        snoc_length h.filters.b (filter_output h.junction x from_right) h.inputs.a x.a (g.put from_right)

    within : (s : Side) → Within M (at s (extend h (sample x)).inputs)
    within from_left = snoc_within x.a (sample-within h.junction x e from_left) (g.within from_left)
    within from_right = snoc_within x.b (sample-within h.junction x e from_right) (g.within from_right)

pub call_sound : (h : History) (c : Call) → Sound h → Sound (call h c)
unfolding call
call_sound h c g = go (eqb (number h.junction c) 0) refl
  where
    go : (b : Bool) → eqb (number h.junction c) 0 ≡ b → Sound (cond b (extend h c) h)
    go true e = extend_sound h c (eqb-true (number h.junction c) 0 e) g
    go false e = g

pub from_sound : (cs : List Call) (h : History) → Sound h → Sound (from h cs)
from_sound [] h g = g
from_sound (c ∷ cs) h g = from_sound cs (call h c) (call_sound h c g)

pub fresh_sound : (o : Opening) → Sound (fresh o)
fresh_sound o = record { valid = open_valid o; many = even; put = even; within = empty }
  where
    even : (s : Side) → length (at s (both {X = List ℤ} (λ s. []))) ≡ 0
    even from_left = refl
    even from_right = refl

    empty : (s : Side) → Within M (at s (both (λ s. [])))
    empty from_left = none
    empty from_right = none

pub after_sound : (o : Opening) (cs : List Call) → Sound (after o cs)
after_sound o cs = from_sound cs (fresh o) (fresh_sound o)
