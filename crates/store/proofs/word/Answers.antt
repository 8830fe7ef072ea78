-- `store::word` meets its contract.
use mathlib.Core.Path.{refl}
use Rattle.store.proofs.Laid.{word-is}
use Rattle.store.proofs.word.Goals as goal

pub returns : goal.returns
returns c = word-is c.args.x.n c.bits.result c.requires (c.bits.ensures 4 refl)
