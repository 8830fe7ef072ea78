-- r in numbers, and the outputs after every list of calls.
--
use mathlib.Core.Path.{◌≡◌, refl, sym, ap, ◌∙◌}
use mathlib.Core.Bool.{Bool, true, false, cond}
use mathlib.Core.List.{List, [], ◌∷◌, ◌++◌}
use Prim.Native.Nat.{ℕ, ◌+◌, ◌*◌, ◌-◌, ◌≤◌, ◌<◌}
use native.Mathlib.Omega.{arith}
use native.Mathlib.Nat.{mul-le-mul_left}
use native.Mathlib.Decide.{dec_lt}
use lib.Dec.{eqb}
use lib.IntN.{ℤ, pos, nat_abs, ◌-ℤ◌, ◌*ℤ◌}
use lib.ListN.{length, length-append}
use lib.Seq.{get_or_at}
use borrow.Author.Tests.{eq-eqb}
use Rattle.refusal.specs.Limits.{refusal}
use Rattle.integer.specs.Parts.{up, dn}
use Rattle.integer.specs.Rounding.{Nearest, nearest}
use Rattle.integer.proofs.View.{Zs, +v, -v, *v, near}
use Rattle.integer.proofs.Rounding.{nearest-is, nearest-only}
use Rattle.junction.specs.Junction.{Side, from_left, from_right, Two, at, Junction, reflection, filter_output}
use Rattle.junction.specs.Junction.{to_right, to_left}
use Rattle.junction.specs.Calls.{Opening, Call, move, sample, open_limits, number, junction_at_rest, open_junction, accept, put}
use Rattle.junction.specs.Calls as C
use Rattle.junction.specs.History.{History, extend, call, from, fresh, after}
use Rattle.junction.specs.Refusals.{Areas}
use Rattle.junction.specs.Outputs.{Reflects, newest, Outputs, call_all, Agrees}
use Rattle.junction.proofs.Steps.{Settles, switches, holds, Goes, idle, waits, goes, moves}

-- 2qA ≤ 2p + q < 2qA + 2q with |p| at most 32,768·(q − 2) and q below 131,072
module _ (left right : ℕ) (w : Areas left right) where
  abbrev q : ℕ
  q = left + right

  abbrev z : ℤ
  z = pos left -ℤ pos right

  abbrev p : ℤ
  p = pos 32768 *ℤ z

  abbrev A : ℤ
  A = nearest p q

  near-is : Nearest p q A
  near-is = nearest-is p q (omega (arith, w.0.least))

  high : Dec (dn A + 32767 < up A) → up A ≤ dn A + 32767
  high (yes h) = absurd (omega (
    Zs,
    near-is.low,
    w.0.least,
    w.0.most,
    w.1.least,
    w.1.most,
    *v (pos (2 * q)) A,
    +v (pos 2 *ℤ p) (pos q),
    *v (pos 2) p,
    *v (pos 32768) z,
    -v (pos left) (pos right),
    mul-le-mul_left (2 * q) h,
  ))
  high (no h) = omega arith

  low : Dec (up A + 32767 < dn A) → dn A ≤ up A + 32767
  low (yes h) = absurd (omega (
    Zs,
    near-is.high,
    w.0.least,
    w.0.most,
    w.1.least,
    w.1.most,
    *v (pos (2 * q)) A,
    +v (pos (2 * q) *ℤ A) (pos (2 * q)),
    +v (pos 2 *ℤ p) (pos q),
    *v (pos 2) p,
    *v (pos 32768) z,
    -v (pos left) (pos right),
    mul-le-mul_left (2 * q) h,
  ))
  low (no h) = omega arith

  pub reflection-small : nat_abs (reflection left right) ≤ 32767
  unfolding reflection
  reflection-small = near A (high (dec_lt (dn A + 32767) (up A)), low (dec_lt (up A + 32767) (dn A)))

pub reflects : Reflects
unfolding reflection
reflects = record {
  nearest = λ l r h. nearest-is _ _ h;
  only = λ l r x h n. nearest-only _ _ x h n;
  small = reflection-small;
}

newest_snoc : (l : List ℤ) (x : ℤ) → newest (l ++ (x ∷ [])) ≡ x
newest_snoc l x =
    get_or_at l x [] (pos 0) (length (l ++ (x ∷ [])) - 1) (omega (arith, length-append l (x ∷ [])))

-- r and Na never change, and what is kept of the inputs is the newest
pub record Kept (r : ℤ) (Na : ℕ) (h : History) : Type 0 where
  pub r-is : h.junction.r ≡ r
  pub Na-is : h.junction.Na ≡ Na
  pub last : (s : Side) → at s h.junction.last ≡ newest (at s h.inputs)

settles_r : {j k : Junction} {w : _} → Settles j w k → k.r ≡ j.r
settles_r (switches e i) = ap (λ (k : Junction). k.r) i
settles_r (holds e i) = ap (λ (k : Junction). k.r) i

settles-Na : {j k : Junction} {w : _} → Settles j w k → k.Na ≡ j.Na
settles-Na (switches e i) = ap (λ (k : Junction). k.Na) i
settles-Na (holds e i) = ap (λ (k : Junction). k.Na) i

settles_last : {j k : Junction} {w : _} → Settles j w k → k.last ≡ j.last
settles_last (switches e i) = ap (λ (k : Junction). k.last) i
settles_last (holds e i) = ap (λ (k : Junction). k.last) i

goes-r : {j k : Junction} {x : Two ℤ} → Goes j x k → k.r ≡ j.r
goes-r (idle p i) = ap (λ (k : Junction). k.r) i
goes-r (waits w p t) = settles_r t

goes-Na : {j k : Junction} {x : Two ℤ} → Goes j x k → k.Na ≡ j.Na
goes-Na (idle p i) = ap (λ (k : Junction). k.Na) i
goes-Na (waits w p t) = settles-Na t

goes_last : {j k : Junction} {x : Two ℤ} → Goes j x k → k.last ≡ x
goes_last (idle p i) = ap (λ (k : Junction). k.last) i
goes_last (waits w p t) = settles_last t

extend-kept : {r : ℤ} {Na : ℕ} (h : History) (c : Call) → Kept r Na h → Kept r Na (extend h c)
unfolding accept
extend-kept h (move d) g = record {
  r-is = settles_r (moves h.junction d) ∙ g.r-is;
  Na-is = settles-Na (moves h.junction d) ∙ g.Na-is;
  last = λ s. ap (λ (x : Two ℤ). at s x) (settles_last (moves h.junction d)) ∙ g.last s;
}
extend-kept h (sample x) g = record {
  r-is = goes-r (goes h.junction x) ∙ g.r-is;
  Na-is = goes-Na (goes h.junction x) ∙ g.Na-is;
  last = last;
}
  where
    last : (s : Side) → at s (extend h (sample x)).junction.last ≡ newest (at s (extend h (sample x)).inputs)
    last from_left =
        ap (λ (x : Two ℤ). x.a) (goes_last (goes h.junction x)) ∙ sym (newest_snoc h.inputs.a x.a)
    last from_right =
        ap (λ (x : Two ℤ). x.b) (goes_last (goes h.junction x)) ∙ sym (newest_snoc h.inputs.b x.b)

pub call_kept : {r : ℤ} {Na : ℕ} (h : History) (c : Call) → Kept r Na h → Kept r Na (call h c)
unfolding call
call_kept {r} {Na} h c g = go (eqb (number h.junction c) 0)
  where
    go : (b : Bool) → Kept r Na (cond b (extend h c) h)
    go true = extend-kept h c g
    go false = g

pub from-kept : {r : ℤ} {Na : ℕ} (cs : List Call) (h : History) → Kept r Na h → Kept r Na (from h cs)
from-kept [] h g = g
from-kept (c ∷ cs) h g = from-kept cs (call h c) (call_kept h c g)

at_rest : (r r' : ℤ) (d d' Na Na' : ℕ) (b : Bool) (s : Side)
    → at s (cond b (junction_at_rest r d Na) (junction_at_rest r' d' Na')).last ≡ pos 0
at_rest r r' d d' Na Na' true from_left = refl
at_rest r r' d d' Na Na' true from_right = refl
at_rest r r' d d' Na Na' false from_left = refl
at_rest r r' d d' Na Na' false from_right = refl

fresh_kept : (o : Opening) → Kept (open_junction o).r (open_junction o).Na (fresh o)
unfolding open_junction
fresh_kept o = record { r-is = refl; Na-is = refl; last = last }
  where
    none_yet : (s : Side) → at s (open_junction o).last ≡ pos 0
    none_yet =
        at_rest (reflection o.left o.right) (reflection 1 1) o.d 4096 o.Na 0
        (eqb (refusal (open_limits o)) 0)

    last : (s : Side) → at s (fresh o).junction.last ≡ newest (at s (fresh o).inputs)
    last from_left = none_yet from_left
    last from_right = none_yet from_right

pub after_kept : (o : Opening) (cs : List Call) → Kept (open_junction o).r (open_junction o).Na (after o cs)
after_kept o cs = from-kept cs (fresh o) (fresh_kept o)

pub outputs : (o : Opening) (cs : List Call) → Outputs o cs
unfolding put call to_right to_left filter_output
outputs o cs x e =
    let h = after o cs in
    let k = after_kept o cs in
    let t = eq-eqb (number h.junction (sample x)) 0 e in
    record {
      over_a = rw t (newest_snoc h.filters.a (filter_output h.junction x from_left));
      over_b = rw t (newest_snoc h.filters.b (filter_output h.junction x from_right));
      right = rw (
        t,
        newest_snoc h.filters.b (filter_output h.junction x from_right),
        k.r-is,
        k.last from_left,
      );
      left = rw (
        t,
        newest_snoc h.filters.a (filter_output h.junction x from_left),
        k.r-is,
        k.last from_right,
      );
    }

call_agrees : (h : History) (c : Call) → (call h c).junction ≡ C.call h.junction c
unfolding call C.call
call_agrees h c = go (eqb (number h.junction c) 0)
  where
    extend-is : (c : Call) → (extend h c).junction ≡ accept h.junction c
    extend-is (move d) = refl
    extend-is (sample x) = refl

    go : (b : Bool) → (cond b (extend h c) h).junction ≡ cond b (accept h.junction c) h.junction
    go true = extend-is c
    go false = refl

from_agrees : (cs : List Call) (h : History) → (from h cs).junction ≡ call_all h.junction cs
from_agrees [] h = refl
from_agrees (c ∷ cs) h =
    from_agrees cs (call h c) ∙ ap (λ (j : Junction). call_all j cs) (call_agrees h c)

pub agrees : (o : Opening) (cs : List Call) → Agrees o cs
agrees o cs = from_agrees cs (fresh o)
