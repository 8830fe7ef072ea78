-- Demand 2 over lists: the voice with its line of 2,112 samples goes through any list of calls as the rule
-- over the whole history says. Assumes nothing.
use mathlib.Core.Path.{◌≡◌, refl, sym, ap, ◌∙◌}
use mathlib.Core.Bool.{Bool, true, false, cond}
use mathlib.Core.List.{List, [], ◌∷◌, ◌++◌, append-nil, append_assoc}
use lib.IntN.{ℤ}
use lib.ListN.{length}
use lib.Dec.{eqb}
use borrow.Author.Tests.{eqb-true}
use Rattle.rule.specs.Voice.{Voice, written}
use Rattle.rule.specs.Calls.{Call, Opening, number, inputs}
use Rattle.rule.specs.History.{History, ago, after}
use Rattle.rule.specs.History as H
use Rattle.rule.specs.State.{State, back, block_after, block_out, puts, put, sounds}
use Rattle.rule.specs.State as S
use Rattle.rule.specs.Demands.{newest, Agrees}
use Rattle.rule.proofs.Sound.{Sound, step_sound, told_sound, call_sound, fresh_sound, after_sound}
use Rattle.rule.proofs.States.{same-state}
use Rattle.rule.proofs.Line.{newest-none, newest_snoc, back_is}
use Rattle.rule.proofs.Alike.{Alike, output-alike, written-alike, stepped-alike, done-alike}

-- the voice that a history leaves
abbrev held : History → State
held h = record { voice = h.voice; line = newest h.s }

alike : (h : History) → Alike (back (newest h.s)) (ago h)
alike h = back_is h.s

-- ---- a step and a block
same_step : (h : History) (x : ℤ) → Sound h → S.step (held h) x ≡ held (H.step h x)
unfolding S.step H.step
same_step h x g =
    let v = h.voice in
    let l = back (newest h.s) in
    same-state (stepped-alike v l (ago h) g.valid (alike h))
    (rw (written-alike v l (ago h) g.valid (alike h) x) (newest_snoc h.s (written v (ago h) x)))

same_block : (xs : List ℤ) (h : History) → Sound h → block_after (held h) xs ≡ held (H.through h xs)
same_block [] h g = refl
same_block (x ∷ xs) h g =
    ap (λ (v : State). block_after v xs) (same_step h x g) ∙ same_block xs (H.step h x) (step_sound h x g)

same_sound : (h : History) (x : ℤ) → Sound h → h.y ++ (sounds (held h) ∷ []) ≡ (H.step h x).y
unfolding S.sounds H.step
same_sound h x g =
    ap (λ (i : ℤ). h.y ++ (i ∷ []))
    (output-alike h.voice (back (newest h.s)) (ago h) g.valid (alike h))

out-more : (v : State) (x : ℤ) (xs : List ℤ) → block_out v (x ∷ xs) ≡ sounds v ∷ block_out (S.step v x) xs
out-more v x xs = refl

same_out : (xs : List ℤ) (h : History) → Sound h → h.y ++ block_out (held h) xs ≡ (H.through h xs).y
same_out [] h g = append-nil h.y
same_out (x ∷ xs) h g =
    ap (λ (l : List ℤ). h.y ++ l) (out-more (held h) x xs)
    ∙ sym (append_assoc h.y (sounds (held h) ∷ []) (block_out (S.step (held h) x) xs))
    ∙ ap (λ (l : List ℤ). l ++ block_out (S.step (held h) x) xs) (same_sound h x g)
    ∙ ap (λ (v : State). (H.step h x).y ++ block_out v xs) (same_step h x g)
    ∙ same_out xs (H.step h x) (step_sound h x g)

-- ---- a call
same-told : (h : History) (c : Call) → Sound h → number h.voice c ≡ 0
    → S.told (held h) c ≡ held (H.told h c)
same-told h c g z =
    ap (λ (u : Voice). record { voice = u; line = newest h.s })
    (done-alike h.voice (back (newest h.s)) (ago h) g.valid (alike h) c z)

record Same (h : History) (c : Call) : Type 0 where
  pub left : S.call (held h) c ≡ held (H.call h c)
  pub out : h.y ++ put (held h) c ≡ (H.call h c).y

same-call : (h : History) (c : Call) → Sound h → Same h c
unfolding S.call S.put H.call
same-call h c g =
    record { left = left (eqb (number h.voice c) 0) refl; out = out (eqb (number h.voice c) 0) refl }
  where
    left : (b : Bool) → eqb (number h.voice c) 0 ≡ b
        → cond b (block_after (S.told (held h) c) (inputs c)) (held h)
        ≡ held (cond b (H.through (H.told h c) (inputs c)) h)
    left true i =
        let z = eqb-true (number h.voice c) 0 i in
        ap (λ (v : State). block_after v (inputs c)) (same-told h c g z)
        ∙ same_block (inputs c) (H.told h c) (told_sound h c z g)
    left false i = refl

    out : (b : Bool) → eqb (number h.voice c) 0 ≡ b
        → h.y ++ cond b (block_out (S.told (held h) c) (inputs c)) []
        ≡ (cond b (H.through (H.told h c) (inputs c)) h).y
    out true i =
        let z = eqb-true (number h.voice c) 0 i in
        ap (λ (v : State). h.y ++ block_out v (inputs c)) (same-told h c g z)
        ∙ same_out (inputs c) (H.told h c) (told_sound h c z g)
    out false i = append-nil h.y

-- ---- a list
same_from : (cs : List Call) (h : History) → Sound h → S.from (held h) cs ≡ held (H.from h cs)
same_from [] h g = refl
same_from (c ∷ cs) h g =
    ap (λ (v : State). S.from v cs) (same-call h c g).left ∙ same_from cs (H.call h c) (call_sound h c g)

same-puts : (cs : List Call) (h : History) → Sound h → h.y ++ puts (held h) cs ≡ (H.from h cs).y
same-puts [] h g = append-nil h.y
same-puts (c ∷ cs) h g =
    sym (append_assoc h.y (put (held h) c) (puts (S.call (held h) c) cs))
    ∙ ap (λ (l : List ℤ). l ++ puts (S.call (held h) c) cs) (same-call h c g).out
    ∙ ap (λ (v : State). (H.call h c).y ++ puts v cs) (same-call h c g).left
    ∙ same-puts cs (H.call h c) (call_sound h c g)

same-fresh : (o : Opening) → S.fresh o ≡ held (H.fresh o)
same-fresh o = rw newest-none

pub agrees : (o : Opening) (cs : List Call) → Agrees o cs
agrees o cs =
    let outputs : puts (S.fresh o) cs ≡ (after o cs).y
    = ap (λ (v : State). puts v cs) (same-fresh o) ∙ same-puts cs (H.fresh o) (fresh_sound o) in
    record {
      state = ap (λ (v : State). S.from v cs) (same-fresh o) ∙ same_from cs (H.fresh o) (fresh_sound o);
      outputs = outputs;
      count = ap length outputs ∙ (after_sound o cs).even;
    }
