use Rattle.load.proofs.Found.{placed}
use Rattle.load.proofs.words.places.Goals as goal

-- src/words.rt:64:1
pub returns : goal.returns
returns c = placed c.args.m
