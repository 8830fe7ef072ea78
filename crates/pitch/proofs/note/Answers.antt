-- `pitch::note` meets its contract: by which of the first three tests came out, and past them by `split`.
-- Assumes nothing.
use mathlib.Core.Path.{◌≡◌, refl, sym, ap, ◌∙◌}
use mathlib.Core.List.{[], ◌∷◌}
use Prim.Native.Nat.{ℕ}
use lib.IntN.{ℤ}
use Rattle.std.proofs.Common.{rules}
use Rattle.std.specs.Prelude.{Err}
use Rattle.refusal.specs.Limits.{Limit, refusal}
use Rattle.refusal.specs.Numbers.{number_of}
use Rattle.refusal.specs.Orders.{order}
use Rattle.refusal.proofs.Passed.{passes}
use Rattle.pitch.specs.Pitch.{rate, note, note_length, split_l, pitch, period}
use Rattle.pitch.specs.Pitch.{pitch_of}
use Rattle.pitch.proofs.Refused.{refused-is, stopped}
use Rattle.pitch.proofs.note.Goals as goal

module _ (N fs m : ℕ) where
  abbrev T : ℤ
  T = period fs m

  abbrev last : Limit
  last = note_length (split_l N T)

  two : 0 ≡ refusal (order N ∷ []) → 0 ≡ refusal (rate fs ∷ []) → refusal (order N ∷ rate fs ∷ []) ≡ 0
  two e i = passes (order N ∷ []) (rate fs ∷ []) tt (sym e) ∙ sym i

  three : 0 ≡ refusal (order N ∷ []) → 0 ≡ refusal (rate fs ∷ []) → 0 ≡ refusal (note m ∷ [])
      → refusal (order N ∷ rate fs ∷ note m ∷ []) ≡ 0
  three e i j = passes (order N ∷ rate fs ∷ []) (note m ∷ []) tt (two e i) ∙ sym j

pub returns-in_err-within : goal.returns-in_err-within
unfolding pitch
returns-in_err-within c =
    let a = c.args in
    let r = c.in_err-within.field-0.0 in
    let i : c.from_residual.result ≡ Err r = search rules in
    let e : number_of r ≡ refusal (order a.order ∷ []) = search rules in
    let post = rate a.rate ∷ note a.m ∷ last a.order a.rate a.m ∷ [] in
    ap pitch_of i ∙ refused-is a.order (T a.order a.rate a.m) _ r (stopped [] (order a.order ∷ []) post r tt refl e)

pub returns-in_err-within-2 : goal.returns-in_err-within-2
unfolding pitch
returns-in_err-within-2 c =
    let a = c.args in
    let r = c.in_err-within-2.field-0.0 in
    let i : c.from_residual-in_err-within-2.result ≡ Err r = search rules in
    let o : 0 ≡ refusal (order a.order ∷ []) = search rules in
    let e : number_of r ≡ refusal (rate a.rate ∷ []) = search rules in
    let post = note a.m ∷ last a.order a.rate a.m ∷ [] in
    ap pitch_of i
    ∙ refused-is a.order (T a.order a.rate a.m) _ r
    (stopped (order a.order ∷ []) (rate a.rate ∷ []) post r tt (sym o) e)

pub returns-in_err-within-3 : goal.returns-in_err-within-3
unfolding pitch
returns-in_err-within-3 c =
    let a = c.args in
    let r = c.in_err-within-3.field-0.0 in
    let i : c.from_residual-in_err-within-3.result ≡ Err r = search rules in
    let o : 0 ≡ refusal (order a.order ∷ []) = search rules in
    let f : 0 ≡ refusal (rate a.rate ∷ []) = search rules in
    let e : number_of r ≡ refusal (note a.m ∷ []) = search rules in
    let post = last a.order a.rate a.m ∷ [] in
    ap pitch_of i
    ∙ refused-is a.order (T a.order a.rate a.m) _ r
    (stopped (order a.order ∷ rate a.rate ∷ []) (note a.m ∷ []) post r tt (two a.order a.rate a.m o f) e)

pub returns : goal.returns
unfolding pitch
returns c =
    let a = c.args in
    let o : 0 ≡ refusal (order a.order ∷ []) = search rules in
    let f : 0 ≡ refusal (rate a.rate ∷ []) = search rules in
    let n : 0 ≡ refusal (note a.m ∷ []) = search rules in
    let N = a.order in
    let p = passes (order N ∷ rate a.rate ∷ note a.m ∷ []) (last N a.rate a.m ∷ []) tt (three N a.rate a.m o f n) in
    rw (p, ← c.loop_period.ensures) c.split.ensures
