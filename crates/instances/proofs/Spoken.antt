-- The instances of what demand 3 speaks of: which change is in force by the theorems, the samples by computation.
use mathlib.Core.Path.{◌≡◌, refl, sym, ap, subst, ◌∙◌}
use mathlib.Core.List.{List, [], ◌∷◌, ◌++◌}
use Prim.Native.Nat.{ℕ, ◌/◌, ◌≤◌, ◌<◌}
use native.Mathlib.Omega.{arith}
use lib.IntN.{ℤ, pos}
use lib.ListN.{length, get_or}
use Rattle.integer.specs.Rounding.{floor, nearest, clip}
use Rattle.integer.specs.Cut.{cut, R, Q}
use Rattle.thiran.specs.Formula.{factor, a}
use Rattle.thiran.specs.Coefficients.{coefficient, coefficients}
use Rattle.allpass.specs.Allpass.{inner, next, out}
use Rattle.rule.specs.Voice.{Tuning, noise, spent, output, written, settled, stepped}
use Rattle.rule.specs.Calls.{Call, instant, number, opened, done}
use Rattle.rule.specs.History as History
use Rattle.rule.specs.History.{History, steps, read, from, fresh, after, new}
use Rattle.rule.specs.State as S
use Rattle.rule.specs.State.{puts, step, sounds, call, put, silence}
use Rattle.rule.specs.Click.{figure, Change, instantly, NoneBy, Figure}
use Rattle.rule.specs.Demands.{Rules, Spoken, exact, figured}
use Rattle.rule.proofs.Cover.{speaks}
use Rattle.rule.proofs.Ruling.{none-block, single}
use Rattle.rule.proofs.Many.{as_many}
use Rattle.rule.proofs.Literals.{tightens}
use Rattle.instances.specs.Live as Live
use Rattle.instances.specs.Spoken as Spoken
use Rattle.instances.specs.Spoken.{o, earlier, later, four, pre, three, cs, y, s, Speaking, Ruling, Many, Late}

-- an instant change takes effect at once, by as many samples as the advance
at_once : {h : History} {to t : Tuning} {b e : ℕ} → Change h (instant to) t b e
    → (t ≡ to) × ((b ≡ h.voice.Na) × (e ≡ steps h))
at_once (instantly z) = (refl, (refl, refl))

rules : Rules 5 (fresh o) cs pre (instant later) three
unfolding
    floor nearest cut R Q clip factor a coefficient coefficients inner next out noise spent output written settled
    stepped number opened done read History.step History.call
rules = record {
  t = later;
  a = 2;
  e = 4;
  split = refl;
  change = instantly refl;
  since = omega arith;
  until = (none-block 5 _ _ _, tt);
}

-- whichever change is in force at step 5, it is that one
this : (ds post : List Call) (c : Call) (k : Rules 5 (fresh o) cs ds c post)
    → (k.t ≡ later) × ((k.a ≡ 2) × (k.e ≡ 4))
unfolding
    floor nearest cut R Q clip factor a coefficient coefficients inner next out noise spent output written settled
    stepped number opened done read History.step History.call
this ds post c k =
    let p : ds ≡ pre = single o cs 5 ds pre post three c (instant later) k rules in
    let q : pre ++ instant later ∷ three ≡ pre ++ c ∷ post = rw p at k.split in
    let i : c ≡ instant later = cc in
    at_once (rw (p, i) at k.change)

figure_5 : Spoken o cs 5 → Figure y s later 2 4 5
unfolding
    floor nearest cut R Q clip factor a coefficient coefficients inner next out noise spent output written settled
    stepped number opened done read History.step History.call
figure_5 (exact n e) = let l : 5 < 4 = n.1.0 _ _ _ (instantly refl) in absurd (omega arith)
figure_5 (figured ds c post k f) = let q = this ds post c k in rw (q.0, q.1.0, q.1.1) at f

-- a change among calls none of which takes effect by step m takes effect later
none-at : (m : ℕ) (h : History) (ds post : List Call) {c : Call} {t : Tuning} {b e : ℕ}
    → NoneBy m h (ds ++ c ∷ post) → Change (from h ds) c t b e → m < e
none-at m h [] post n k = n.0 _ _ _ k
none-at m h (d ∷ ds) post n k = none-at m (History.call h d) ds post n.1 k

none_3 : NoneBy 3 (fresh o) cs
unfolding
    floor nearest cut R Q clip factor a coefficient coefficients inner next out noise spent output written settled
    stepped number opened done read History.step History.call
none_3 = (
  none-block 3 _ _ _,
  (
    (λ t b e k. omega (arith, (at_once k).1.1)),
    ((λ t b e k. omega (arith, (at_once k).1.1)), (none-block 3 _ _ _, tt)),
  ),
)

exact_3 : Spoken o cs 3 → get_or y 3 (pos 0) ≡ new (opened o).tuning s 3
exact_3 (exact n e) = e
exact_3 (figured ds c post k f) =
    let n = subst (λ (x : List Call). NoneBy 3 (fresh o) x) k.split none_3 in
    absurd (omega (arith, k.since, none-at 3 (fresh o) ds post n k.change))

pub speaking : Speaking
unfolding
    floor nearest cut R Q clip factor a coefficient coefficients inner next out noise spent output written settled
    stepped number opened done read History.step History.call new step sounds call put silence
speaking = record {
  exactly = exact_3 (speaks o cs 3 (omega arith));
  opening = refl;
  figured = figure_5 (speaks o cs 5 (omega arith));
  voice = refl;
  filter = refl;
}

not_shorter : four ≡ pre → ⊥
not_shorter e = omega (arith, ap length e)

pub ruling : Ruling
ruling = record {
  rules = rules;
  only = λ ds post c k. single o cs 5 ds pre post three c (instant later) k rules;
  not_earlier = λ post k. not_shorter (single o cs 5 four pre post three (instant earlier) (instant later) k rules);
}

pub many : Many
unfolding
    floor nearest cut R Q clip factor a coefficient coefficients inner next out noise spent output written settled
    stepped number opened done step sounds call put silence
many =
    let n : length (puts Spoken.waiting Spoken.calls) ≡ 2 = refl in
    record {
      accepted = refl;
      refused = refl;
      two = n;
      as_many = as_many Spoken.calls Live.stored Spoken.waiting ∙ n;
    }

pub late : Late
unfolding figure
late = record {
  tighter = tightens 64 75 3 (omega arith) (omega arith);
  alike = tightens 6 7 2 (omega arith) (omega arith);
  after_64 = refl;
  after_75 = refl;
}
