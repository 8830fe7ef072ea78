-- The course of one accepted move by later calls: it waits, it rules as far as step m, and step m is passed.
--
use mathlib.Core.Path.{◌≡◌, refl, sym, ap, ◌∙◌}
use mathlib.Core.Bool.{Bool, true, false, cond}
use mathlib.Core.List.{List, [], ◌∷◌}
use mathlib.Core.Option.{some}
use Prim.Native.Nat.{ℕ, suc, ◌+◌, ◌≤◌, ◌<◌}
use native.Mathlib.Omega.{arith}
use native.Mathlib.Decide.{dec_lt}
use lib.Dec.{eqb}
use lib.IntN.{ℤ}
use lib.ListN.{drop, length-append, drop_of_length-le}
use lib.Seq.{drop-append-le}
use borrow.Author.Tests.{eqb-true}
use Rattle.refusal.specs.Limits.{Between}
use Rattle.allpass.specs.Allpass.{rest, run, out}
use Rattle.allpass.proofs.Contraction.{run-append}
use Rattle.junction.specs.Junction.{Side, from_left, from_right, Two, at, A, Move, Junction, rest_states, next_states}
use Rattle.junction.specs.Junction.{filter_output, feed}
use Rattle.junction.specs.Calls.{Call, move, sample, number, accept}
use Rattle.junction.specs.History.{History, steps, extend, call, from}
use Rattle.junction.specs.Valid.{Sound}
use Rattle.junction.specs.Click.{Figure, effect, NoneBy}
use Rattle.junction.proofs.Steps.{none-some, same_some, Settles, switches, holds, Goes, idle, waits}
use Rattle.junction.proofs.Steps.{goes, moves}
use Rattle.junction.proofs.Accepted.{move-idle}
use Rattle.junction.proofs.Valid.{call_sound}
use Rattle.junction.proofs.Figures.{figure-here, figure-on}

sample-goes : (h : History) (x : Two ℤ) → Goes h.junction x (extend h (sample x)).junction
unfolding accept
sample-goes h x = goes h.junction x

sample-steps : (h : History) (x : Two ℤ) → steps (extend h (sample x)) ≡ suc (steps h)
sample-steps h x = omega (arith, length-append h.inputs.a (x.a ∷ []))

-- a move to d, called before step c, that takes effect after Na inputs; as far as step m
module _ (d Na c m : ℕ) (due : c + Na ≤ m) (b : Between 2049 d 6143) where
  -- v are states of filters of d that were at rest before step c
  abbrev pub Ran : History → Two (List ℤ) → Type 0
  Ran h v = (s : Side) → at s v ≡ run (A s d) (rest 1) (drop c (at s h.inputs))

  pub data Course (h : History) : Type 0 where
    coming : (w : Move) → h.junction.waiting ≡ some w → w.d ≡ d → h.junction.Na ≡ Na
        → c + w.taken ≡ steps h → Ran h w.states
        → Course h
    -- a move that waits takes effect after m
    ruling : h.junction.d ≡ d → c + Na ≤ steps h → steps h ≤ m → Ran h h.junction.states
        → ((w : Move) → h.junction.waiting ≡ some w → m + w.taken < steps h + h.junction.Na)
        → Course h
    passed : m < steps h
        → ((s : Side) → Figure (at s h.filters) (at s h.inputs) s d Na c (c + Na) m)
        → Course h

  -- ---- a sample
  ran_on : (h : History) (x : Two ℤ) {d' : ℕ} (v : Two (List ℤ)) → Sound h → d' ≡ d → c ≤ steps h → Ran h v
      → Ran (extend h (sample x)) (next_states d' v x)
  ran_on h x v g q l r from_left =
      rw (
        q,
        drop-append-le c h.inputs.a (x.a ∷ []) l,
        run-append (A from_left d) (rest 1) (drop c h.inputs.a) (x.a ∷ []),
        r from_left,
      )
  ran_on h x v g q l r from_right =
      rw (
        q,
        drop-append-le c h.inputs.b (x.b ∷ []) (omega (arith, g.many from_right)),
        run-append (A from_right d) (rest 1) (drop c h.inputs.b) (x.b ∷ []),
        r from_right,
      )

  output_is : (h : History) (x : Two ℤ) (s : Side) → h.junction.d ≡ d → Ran h h.junction.states
      → filter_output h.junction x s ≡ out (A s d) (run (A s d) (rest 1) (drop c (at s h.inputs))) (at s x)
  unfolding filter_output
  output_is h x s q r = rw (q, r s)

  here : (h : History) (x : Two ℤ) → Sound h → h.junction.d ≡ d → Ran h h.junction.states → steps h ≡ m
      → (s : Side)
      → Figure (at s (extend h (sample x)).filters) (at s (extend h (sample x)).inputs) s d Na c (c + Na) m
  here h x g q r e from_left =
      figure-here from_left d Na c m due h.inputs.a h.filters.a x.a (filter_output h.junction x from_left) b
      (g.many from_left ∙ e) (g.put from_left ∙ e) (g.within from_left) (output_is h x from_left q r)
  here h x g q r e from_right =
      figure-here from_right d Na c m due h.inputs.b h.filters.b x.b (filter_output h.junction x from_right)
      b (g.many from_right ∙ e) (g.put from_right ∙ e) (g.within from_right) (output_is h x from_right q r)

  later : (h : History) (x : Two ℤ) → Sound h → m < steps h
      → ((s : Side) → Figure (at s h.filters) (at s h.inputs) s d Na c (c + Na) m) → (s : Side)
      → Figure (at s (extend h (sample x)).filters) (at s (extend h (sample x)).inputs) s d Na c (c + Na) m
  later h x g l f from_left =
      figure-on from_left d Na c m due h.inputs.a h.filters.a x.a (filter_output h.junction x from_left)
      (omega (arith, g.many from_left)) (omega (arith, g.put from_left)) (f from_left)
  later h x g l f from_right =
      figure-on from_right d Na c m due h.inputs.b h.filters.b x.b (filter_output h.junction x from_right)
      (omega (arith, g.many from_right)) (omega (arith, g.put from_right)) (f from_right)

  states_are : (h : History) (x : Two ℤ) {k : Junction} {v : Two (List ℤ)} → (extend h (sample x)).junction ≡ k
      → k.states ≡ v → Ran (extend h (sample x)) v → Ran (extend h (sample x)) (extend h (sample x)).junction.states
  states_are h x i p r s = ap (λ (k : Junction). at s k.states) i ∙ ap (λ (u : Two (List ℤ)). at s u) p ∙ r s

  pub course_sample : (h : History) (x : Two ℤ) → Sound h → Course h → Course (extend h (sample x))
  course_sample h x g (coming w p q n t r) = go (sample-goes h x) (sample-steps h x)
    where
      early : w.taken < h.junction.Na
      early = (g.valid.waiting w p).early

      go : Goes h.junction x (extend h (sample x)).junction → steps (extend h (sample x)) ≡ suc (steps h)
          → Course (extend h (sample x))
      go (idle z i) e = absurd (none-some (sym z ∙ p))
      go (waits u z (switches y i)) e =
          let o : u ≡ w = same_some (sym z ∙ p) in
          let y' : suc w.taken ≡ h.junction.Na = rw o at y in
          let i' = rw o at i in
          ruling (ap (λ (k : Junction). k.d) i' ∙ q) (omega arith) (omega arith)
          (states_are h x i' refl (ran_on h x w.states g q (omega arith) r))
          (λ v s. absurd (none-some (sym (ap (λ (k : Junction). k.waiting) i') ∙ s)))
      go (waits u z (holds y i)) e =
          let o : u ≡ w = same_some (sym z ∙ p) in
          let i' = rw o at i in
          coming (feed w x) (ap (λ (k : Junction). k.waiting) i') q (ap (λ (k : Junction). k.Na) i' ∙ n)
          (omega arith) (ran_on h x w.states g q (omega arith) r)
  course_sample h x g (ruling q l k r f) = go (dec_lt (steps h) m) (sample-goes h x) (sample-steps h x)
    where
      on : Ran (extend h (sample x)) (next_states h.junction.d h.junction.states x)
      on = ran_on h x h.junction.states g q (omega arith) r

      go : Dec (steps h < m) → Goes h.junction x (extend h (sample x)).junction
          → steps (extend h (sample x)) ≡ suc (steps h) → Course (extend h (sample x))
      go (no n) z e = passed (omega arith) (here h x g q r (omega arith))
      go (yes n) (idle z i) e =
          ruling (ap (λ (k : Junction). k.d) i ∙ q) (omega arith) (omega arith) (states_are h x i refl on)
          (λ v s. absurd (none-some (sym (ap (λ (k : Junction). k.waiting) i) ∙ s)))
      go (yes n) (waits u z (switches y i)) e = absurd (omega (arith, f u z))
      go (yes n) (waits u z (holds y i)) e =
          ruling (ap (λ (k : Junction). k.d) i ∙ q) (omega arith) (omega arith) (states_are h x i refl on)
          (λ v s.
          let o : feed u x ≡ v = same_some (sym (ap (λ (k : Junction). k.waiting) i) ∙ s) in
          let t : suc u.taken ≡ v.taken = ap (λ (a : Move). a.taken) o in
          let a : (extend h (sample x)).junction.Na ≡ h.junction.Na = ap (λ (k : Junction). k.Na) i in
          omega (arith, f u z))
  course_sample h x g (passed l f) = passed (omega (arith, sample-steps h x)) (later h x g l f)

  -- ---- a later move
  pub course_move : (h : History) (to : ℕ) → number h.junction (move to) ≡ 0 → m < effect h → Course h
      → Course (extend h (move to))
  course_move h to e n (coming w p q a t r) = absurd (none-some (sym (move-idle h.junction to e) ∙ p))
  course_move h to e n (ruling q l k r f) = go (moves h.junction to)
    where
      go : Settles h.junction (record { d = to; taken = 0; states = rest_states }) (accept h.junction (move to))
          → Course (extend h (move to))
      go (switches y i) = absurd (omega arith)
      go (holds y i) =
          ruling (ap (λ (k : Junction). k.d) i ∙ q) l k
          (λ s. ap (λ (k : Junction). at s k.states) i ∙ r s)
          (λ v s.
          let o = same_some (sym (ap (λ (k : Junction). k.waiting) i) ∙ s) in
          let t : 0 ≡ v.taken = ap (λ (a : Move). a.taken) o in
          let a : (accept h.junction (move to)).Na ≡ h.junction.Na = ap (λ (k : Junction). k.Na) i in
          omega arith)
  course_move h to e n (passed l f) = passed l f

  -- ---- the move itself
  pub course_begins : (h : History) → Sound h → steps h ≡ c → h.junction.Na ≡ Na → Course (extend h (move d))
  course_begins h g e n = go (moves h.junction d)
    where
      at_rest : (s : Side) → at s rest_states ≡ run (A s d) (rest 1) (drop c (at s h.inputs))
      at_rest from_left = rw (drop_of_length-le h.inputs.a {i = c} (omega arith))
      at_rest from_right = rw (drop_of_length-le h.inputs.b {i = c} (omega (arith, g.many from_right)))

      go : Settles h.junction (record { d = d; taken = 0; states = rest_states }) (accept h.junction (move d))
          → Course (extend h (move d))
      go (switches y i) =
          ruling (ap (λ (k : Junction). k.d) i) (omega arith) (omega arith)
          (λ s. ap (λ (k : Junction). at s k.states) i ∙ at_rest s)
          (λ v s. absurd (none-some (sym (ap (λ (k : Junction). k.waiting) i) ∙ s)))
      go (holds y i) =
          coming (record { d = d; taken = 0; states = rest_states }) (ap (λ (k : Junction). k.waiting) i) refl
          (ap (λ (k : Junction). k.Na) i ∙ n) (omega arith) at_rest

  -- ---- calls
  course_extend : (h : History) (k : Call) → number h.junction k ≡ 0
      → ((to : ℕ) → k ≡ move to → number h.junction k ≡ 0 → m < effect h) → Sound h → Course h
      → Course (extend h k)
  course_extend h (move to) e n g r = course_move h to e (n to refl e) r
  course_extend h (sample x) e n g r = course_sample h x g r

  course_call : (h : History) (k : Call)
      → ((to : ℕ) → k ≡ move to → number h.junction k ≡ 0 → m < effect h) → Sound h → Course h
      → Course (call h k)
  unfolding call
  course_call h k n g r = go (eqb (number h.junction k) 0) refl
    where
      go : (a : Bool) → eqb (number h.junction k) 0 ≡ a → Course (cond a (extend h k) h)
      go true e = course_extend h k (eqb-true (number h.junction k) 0 e) n g r
      go false e = r

  pub course_from : (cs : List Call) (h : History) → NoneBy m h cs → Sound h → Course h → Course (from h cs)
  course_from [] h n g r = r
  course_from (k ∷ cs) h n g r =
      course_from cs (call h k) n.1 (call_sound h k g) (course_call h k n.0 g r)

  pub course_ends : (h : History) → Sound h → m < steps h → Course h → (s : Side)
      → Figure (at s h.filters) (at s h.inputs) s d Na c (c + Na) m
  course_ends h g l (coming w p q n t r) = absurd (omega (arith, (g.valid.waiting w p).early))
  course_ends h g l (ruling q k n r f) = absurd (omega arith)
  course_ends h g l (passed k f) = f
