-- Each filter keeps the click figure over its own inputs, for every opening and every list of calls.
--
use mathlib.Core.Path.{◌≡◌, refl, ap, ◌∙◌}
use mathlib.Core.List.{List, [], ◌∷◌, ◌++◌}
use borrow.Author.Tests.{eq-eqb}
use Rattle.junction.specs.Calls.{Call, move, Opening, number}
use Rattle.junction.specs.History.{History, steps, extend, call, from, fresh, after}
use Rattle.junction.specs.Click.{Click}
use Rattle.junction.proofs.Accepted.{move-delay}
use Rattle.junction.proofs.Valid.{call_sound, after_sound}
use Rattle.junction.proofs.Course.{Course, course_begins, course_from, course_ends}

from-append : (p q : List Call) (h : History) → from h (p ++ q) ≡ from (from h p) q
from-append [] q h = refl
from-append (c ∷ p) q h = from-append p q (call h c)

pub after-split : (o : Opening) {cs : List Call} (pre post : List Call) (c : Call) → cs ≡ pre ++ c ∷ post
    → after o cs ≡ from (call (after o pre) c) post
after-split o pre post c s = ap (λ (x : List Call). after o x) s ∙ from-append pre (c ∷ post) (fresh o)

pub call-accepted : (h : History) (c : Call) → number h.junction c ≡ 0 → call h c ≡ extend h c
unfolding call
call-accepted h c e = rw (eq-eqb (number h.junction c) 0 e)

pub click : (o : Opening) (cs : List Call) → Click o cs
click o cs pre post d m s split k late since short =
    let h = after o pre in
    let g = after_sound o pre in
    let b = move-delay h.junction d k in
    let begun : Course d h.junction.Na (steps h) m since b (call h (move d))
    = rw (call-accepted h (move d) k) (course_begins d h.junction.Na (steps h) m since b h g refl refl) in
    let end : Course d h.junction.Na (steps h) m since b (after o cs)
    = rw (after-split o pre post (move d) split)
    (course_from d h.junction.Na (steps h) m since b post (call h (move d)) late (call_sound h (move d) g) begun) in
    course_ends d h.junction.Na (steps h) m since b (after o cs) (after_sound o cs) short end s
