-- `store::bits_of` meets its contract: a part by its numbers.
use mathlib.Core.Path.{refl}
use Rattle.store.proofs.Laid.{choose}
use Rattle.store.proofs.bits_of.Goals as goal

pub returns : goal.returns
returns c =
    choose c.args.w c.args.sounds _ c.ne.ensures refl refl refl c.ne-2.ensures c.ne-3.ensures c.ne-4.ensures
    refl
