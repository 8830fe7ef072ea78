-- A chain of calls that meet their contracts, on what Open returned, is the list of its calls.
-- Assumes nothing.
use mathlib.Core.Path.{◌≡◌, refl, sym, ap, subst, ◌∙◌}
use mathlib.Core.List.{List, [], ◌∷◌, ◌++◌}
use mathlib.Core.Bool.{Bool, true, false, cond}
use Prim.Native.Nat.{ℕ}
use lib.Dec.{eqb}
use lib.IntN.{ℤ}
use lib.ListN.{length}
use borrow.Author.Tests.{eqb-false}
use Rattle.line.specs.Ring.{ring}
use Rattle.rule.specs.Voice.{Voice}
use Rattle.rule.specs.Calls.{Call, Opening, block, instant, number, count}
use Rattle.rule.specs.State.{State, back, put, from, puts, numbers, counts}
use Rattle.rule.specs.Click.{ClickFigure}
use Rattle.rule.specs.OwnFigure.{OwnClickFigure}
use Rattle.rule.proofs.Refusals.{refuses}
use Rattle.rule.proofs.Puts.{put-none}
use Rattle.rule.proofs.Click.{click, own_click}
use Rattle.voice.specs.declared.Head.{Head}
use Rattle.voice.specs.Called.{Answer}
use Rattle.voice.specs.Struct.{voice_of, state_of}
use Rattle.voice.specs.Valid.{Valid}
use Rattle.voice.specs.Called.{On, lent}
use Rattle.voice.proofs.Called.{on}
use Rattle.open.specs.Opened.{Opened, Opens}
use Rattle.list.specs.Chain.{heard, Chain, none, called, changed, rendered, resumed, Chained}

-- what the calls cs do from the head h and the line l, as the list of them does from that voice
record Follows (h : Head) (l : List ℤ) (cs : List Call) (ns ks : List ℕ) (ys : List ℤ) (g : Head) (k : List ℤ)
    : Type 0 where
  codes : ns ≡ numbers (state_of h l) cs
  runs : ks ≡ counts (state_of h l) cs
  samples : ys ≡ puts (state_of h l) cs
  state : state_of g k ≡ from (state_of h l) cs
  valid : Valid g k

-- one more call in front, which puts out zs
before : {h g : Head} {l m k : List ℤ} {c : Call} {cs : List Call} {ns ks : List ℕ} {zs ys : List ℤ} {a : Answer}
    {n : ℕ} → On h l c a m → n ≡ count (voice_of h) (back (ring h.at l)) c → zs ≡ put (state_of h l) c
    → Follows a.head m cs ns ks ys g k
    → Follows h l (c ∷ cs) (a.refusal ∷ ns) (n ∷ ks) (zs ++ ys) g k
before {h} {l = l} {c = c} {cs} e j i f = record {
  codes = cc (f.codes, e.number, ap (λ (v : State). numbers v cs) e.state);
  runs = cc (f.runs, j, ap (λ (v : State). counts v cs) e.state);
  samples = cc (f.samples, i, ap (λ (v : State). puts v cs) e.state);
  state = f.state ∙ ap (λ (v : State). from v cs) e.state;
  valid = f.valid;
}

-- what a block put out is in the lent output, or it was refused and put out nothing
heard-is : {h : Head} {l m : List ℤ} {c : Call} {a : Answer} {out : List ℤ} (lends : List ℤ) → On h l c a m
    → out ≡ lent h l c lends → heard a.refusal out ≡ put (state_of h l) c
heard-is {h} {l} {c = c} lends e i =
    rw (e.number, i) (go (eqb (number (voice_of h) c) 0) refl)
  where
    go : (b : Bool) → eqb (number (voice_of h) c) 0 ≡ b
        → cond b (cond b (put (state_of h l) c) lends) [] ≡ put (state_of h l) c
    go true z = refl
    go false z = sym (refuses.unchanged (state_of h l) c (eqb-false (number (voice_of h) c) 0 z)).1

-- a block has no count
block-counts : (v : Voice) (r : ℕ → ℤ) (xs : List ℤ) (n : ℕ) → 0 ≡ count v r (block xs n)
unfolding count
block-counts v r xs n = refl

follows : {h g : Head} {l k : List ℤ} {cs : List Call} {ns ks : List ℕ} {ys : List ℤ} → Valid h l
    → Chain h l cs ns ks ys g k → Follows h l cs ns ks ys g k
follows v none = record { codes = refl; runs = refl; samples = refl; state = refl; valid = v }
follows {h} {l = l} v (called {c = c} still z e k) =
    let o = on l e v.line in
    before o (sym (z (voice_of h) (back (ring h.at l)))) (sym (put-none (state_of h l) c still))
    (follows o.valid k)
follows {h} {l = l} v (changed {to = to} e i k) =
    before e i (sym (put-none (state_of h l) (instant to) refl)) (follows e.valid k)
follows {h} {l = l} v (rendered xs over e i k) =
    before e (block-counts (voice_of h) (back (ring h.at l)) xs (length over)) (heard-is over e i)
    (follows e.valid k)
follows {cs = cs} v (resumed e w k) =
    let f = follows w k in
    record {
      codes = f.codes ∙ ap (λ (u : State). numbers u cs) e;
      runs = f.runs ∙ ap (λ (u : State). counts u cs) e;
      samples = f.samples ∙ ap (λ (u : State). puts u cs) e;
      state = f.state ∙ ap (λ (u : State). from u cs) e;
      valid = f.valid;
    }

pub chained : (o : Opening) (r : Opened) → Opens o r → {g : Head} {k : List ℤ} {cs : List Call}
    {ns ks : List ℕ} {ys : List ℤ} → Chain r.voice.head r.voice.line cs ns ks ys g k
    → Chained o cs ns ks ys g k
chained o r p {cs = cs} c =
    let f = follows p.valid c in
    let e = p.state in
    let i = f.samples ∙ ap (λ (v : State). puts v cs) e in
    record {
      codes = f.codes ∙ ap (λ (v : State). numbers v cs) e;
      runs = f.runs ∙ ap (λ (v : State). counts v cs) e;
      samples = i;
      state = f.state ∙ ap (λ (v : State). from v cs) e;
      valid = f.valid;
      click = subst (λ (y : List ℤ). ClickFigure o cs y) (sym i) (click o cs);
      own_click = subst (λ (y : List ℤ). OwnClickFigure o cs y) (sym i) (own_click o cs);
    }
