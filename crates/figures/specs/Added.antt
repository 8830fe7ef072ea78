-- Checked figures that requests of document 02 add to document 01's, as facts about the definitions; `oracle`
-- has them too. proofs/Added.antt proves them by computation. Assumes nothing.
use Rattle.std.specs.Prelude.{◌≡◌, [], ◌∷◌, pos, negsuc}
use Rattle.thiran.specs.Coefficients.{coefficients}

pub record Added : Type 0 where
  -- L5, order 3: the least d, the whole delay, and the greatest d
  pub d10241 : coefficients 3 10241 ≡ pos 28071 ∷ negsuc 3119 ∷ pos 284 ∷ []
  pub d12288 : coefficients 3 12288 ≡ pos 0 ∷ pos 0 ∷ pos 0 ∷ []
  pub d14336 : coefficients 3 14336 ≡ negsuc 21844 ∷ pos 5958 ∷ negsuc 763 ∷ []
