-- `allpass::products::carry` meets its contract: w, its products, and the sums that w and the output take.
-- Assumes nothing.
use mathlib.Core.Path.{◌≡◌, refl, sym, ap, ◌∙◌}
use mathlib.Core.List.{List, reverse}
use Prim.Native.Nat.{ℕ, ◌*◌, ◌≤◌, ◌^◌}
use native.Mathlib.Omega.{arith}
use borrow.Author.Rules.{rules}
use lib.IntN.{ℤ, pos, nat_abs, ◌+ℤ◌}
use mir.Syntax.{w64}
use mir.Val.{to_z, of_z}
use Rattle.integer.specs.Rounding.{M, clip}
use Rattle.integer.specs.Cut.{R}
use Rattle.thiran.specs.Answers.{taps}
use Rattle.thiran.specs.declared.formula.Coefficients.{Coefficients}
use Rattle.allpass.specs.Allpass.{dot, final, shift, inner, next, out}
use Rattle.allpass.specs.Stored.{stored, held, Fed}
use Rattle.allpass.specs.Products.{scaled_of, last_of, renewed_of, products_of}
use Rattle.allpass.specs.declared.State.{State}
use Rattle.allpass.specs.declared.multiples.Multiples.{Multiples}
use Rattle.allpass.specs.declared.products.Products.{Products}
use Rattle.allpass.proofs.Bounds.{inner-within, final-within}
use Rattle.allpass.proofs.Renewed.{first-cut, turned_sum, renewed}
use Rattle.allpass.proofs.Little.{Little, Fits, a1-small, scaled_little, last_little, products_fit}
use Rattle.allpass.proofs.products.carry.Goals as goal

-- what the machine reads back of z is z
abbrev Read : ℤ → Type 0
Read z = to_z w64 (of_z w64 z) ≡ z

-- a filter that is fed f
module _ (N : ℕ) (c : Coefficients) (v : State) (f : ℤ) (q : Fed N c v f) where
  abbrev A : List ℤ
  A = taps N c

  abbrev k : Products
  k = products_of N c v

  fit : Fits k
  fit = products_fit N c v q.least q.most q.taps_small q.state_within

  -- ---- w and its products
  abbrev w : ℤ
  w = inner A (held N v) f

  w-within : nat_abs w ≤ 2 * M
  w-within = inner-within A q.taps_small f q.state_within q.sample

  abbrev x : Multiples
  x = scaled_of N c w

  little : Little x
  little = scaled_little N c w q.least q.most q.taps_small w-within

  last : nat_abs (last_of N x) ≤ 2 ^ 39
  last = last_little N x q.least q.most little

  oldest_within : nat_abs (final (pos 0) (held N v)) ≤ 2 * M
  oldest_within = final-within (pos 0) (omega arith) q.state_within

  -- ---- what is returned
  is-next : shift w (held N v) ≡ next A (held N v) f
  unfolding next
  is-next = refl

  is_sum : last_of N x +ℤ k.turned ≡ dot (reverse A) (next A (held N v) f)
  is_sum = turned_sum c v w N q.least q.most ∙ ap (dot (reverse A)) is-next

  carried : (s : State) → s ≡ stored (shift w (held N v)) → renewed_of N k x ≡ products_of N c s
  carried s e = renewed c v w N q.least q.most ∙ ap (products_of N c) (sym e)

-- products of equal products are equal, and so is what is heard of equal numbers
renewed_as : (N : ℕ) {k k' : Products} {x x' : Multiples} → k ≡ k' → x ≡ x' → renewed_of N k x ≡ renewed_of N k' x'
renewed_as N ek ex = rw (ek, ex)

heard_as : (N : ℕ) {o o' t t' : ℤ} {x x' : Multiples} → o ≡ o' → x ≡ x' → t ≡ t'
    → o +ℤ R (last_of N x +ℤ t) ≡ o' +ℤ R (last_of N x' +ℤ t')
heard_as N eo ex et = rw (eo, ex, et)

pub scaled-x-requires : goal.scaled-x-requires
scaled-x-requires c =
    let q = c.requires.0 in
    (q.least, q.most, q.taps_small, rw c.entered-w.ensures (w-within _ _ _ _ q))

pub renewed-n-requires : goal.renewed-n-requires
renewed-n-requires c =
    let N = c.args.order in
    let q = c.requires.0 in
    let b = w-within _ _ _ _ q in
    let l = little _ _ _ _ q in
    let p = fit _ _ _ _ q in
    let e = c.scaled-x.ensures ∙ ap (scaled_of N c.args.c) c.entered-w.ensures in
    record {
      x2_bound = (
        rw e (omega (arith, l.two)),
        rw c.requires.1 (omega (arith, p.third)),
        rw c.requires.1 (omega (arith, p.newest)),
      );
      x1_value = (
        ap (λ (x : Multiples). x.x1) c.scaled-x.ensures,
        omega (arith, a1-small N c.args.c q.least, q.taps_small),
        rw c.entered-w.ensures (omega (arith, b)),
      );
    }

pub output-y-requires : goal.output-y-requires
output-y-requires c =
    let N = c.args.order in
    let q = c.requires.0 in
    let e = c.scaled-x.ensures ∙ ap (scaled_of N c.args.c) c.entered-w.ensures in
    let t : Read c.args.k.turned = search rules in
    let turned = t ∙ ap (λ (k : Products). k.turned) c.requires.1 in
    let n : Read c.renewed-n.result.cut = search rules in
    let cut = n ∙ ap (λ (k : Products). k.cut) c.renewed-n.ensures in
    let p = fit _ _ _ _ q in (
      λ one. cut ∙ first-cut c.args.c c.args.v N c.scaled-x.result one
          ∙ ap (λ (u : ℤ). R (last_of N c.scaled-x.result +ℤ u)) (sym turned),
      rw c.oldest.ensures (omega (arith, oldest_within _ _ _ _ q)),
      rw e (omega (arith, last _ _ _ _ q)),
      rw turned (omega (arith, p.turned)),
    )

pub returns : goal.returns
unfolding out
returns c =
    let q = c.requires.0 in
    let N = c.args.order in
    let e = c.scaled-x.ensures ∙ ap (scaled_of N c.args.c) c.entered-w.ensures in
    let s = c.shifted-s.ensures ∙ ap (λ (z : ℤ). stored (shift z (held N c.args.v))) c.entered-w.ensures in
    let t : Read c.args.k.turned = search rules in
    let turned = t ∙ ap (λ (k : Products). k.turned) c.requires.1 in
    let heard = c.output-y.ensures ∙ heard_as N c.oldest.ensures e turned
    ∙ ap (λ (u : ℤ). final (pos 0) (held N c.args.v) +ℤ R u) (is_sum _ _ _ _ q) in (
      ap clip heard,
      s ∙ ap stored (is-next _ _ _ _ q),
      c.renewed-n.ensures ∙ renewed_as N c.requires.1 e ∙ carried _ _ _ _ q _ s,
    )
