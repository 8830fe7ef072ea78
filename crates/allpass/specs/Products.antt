-- The products of a filter's coefficients and the numbers of its state, which a loop carries from sample to
-- sample: a number is multiplied by each coefficient once. Definitions alone. Assumes nothing.
use Rattle.std.specs.Prelude.{cond, ℕ, eqb, leb, ℤ, pos, ◌+ℤ◌, ◌*ℤ◌, get_or}
use Rattle.integer.specs.Cut.{R}
use Rattle.thiran.specs.declared.formula.Coefficients.{Coefficients}
use Rattle.allpass.specs.Stored.{held}
use Rattle.allpass.specs.declared.State.{State}
use Rattle.allpass.specs.declared.multiples.Multiples.{Multiples}
use Rattle.allpass.specs.declared.products.Products.{Products}

-- A1·x, A2·x and A3·x; 0 past the order
abbrev pub scaled_of : ℕ → Coefficients → ℤ → Multiples
scaled_of N c x = record {
  x1 = c.a1 *ℤ x;
  x2 = cond (leb 2 N) (c.a2 *ℤ x) (pos 0);
  x3 = cond (leb 3 N) (c.a3 *ℤ x) (pos 0);
}

-- AN·x
abbrev pub last_of : ℕ → Multiples → ℤ
last_of N x = cond (eqb N 1) x.x1 (cond (eqb N 2) x.x2 x.x3)

-- what an output takes beside AN·w: x has the products of v1, and m is A1·v2
abbrev pub turned_of : ℕ → Multiples → ℤ → ℤ
turned_of N x m = cond (eqb N 1) (pos 0) (cond (eqb N 2) x.x1 (x.x2 +ℤ m))

-- R(A1·v1), which is all that order 1 takes
abbrev pub cut_of : ℕ → Multiples → ℤ
cut_of N x = cond (eqb N 1) (R x.x1) (pos 0)

-- those of a state, whose numbers v1, v2 and v3 have the products x, y and z
abbrev pub products_in : ℕ → Multiples → Multiples → Multiples → Products
products_in N x y z = record {
  cut = cut_of N x;
  newest = x.x1;
  older = y.x2 +ℤ z.x3;
  next = x.x2 +ℤ y.x3;
  third = x.x3;
  turned = turned_of N x y.x1;
}

-- those of the next state, from those of a state, where w has the products x
abbrev pub renewed_of : ℕ → Products → Multiples → Products
renewed_of N k x = record {
  cut = cut_of N x;
  newest = x.x1;
  older = k.next;
  next = x.x2 +ℤ k.third;
  third = x.x3;
  turned = turned_of N x k.newest;
}

-- number i of the state of order N, from 0 on; 0 past the order
abbrev pub number : ℕ → State → ℕ → ℤ
number N v i = get_or (held N v) i (pos 0)

unfoldable pub products_of : ℕ → Coefficients → State → Products
products_of N c v =
    products_in N (scaled_of N c (number N v 0)) (scaled_of N c (number N v 1)) (scaled_of N c (number N v 2))
