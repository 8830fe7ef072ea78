use Rattle.load.proofs.Said.{comes}
use Rattle.load.proofs.build.waiting_of.Goals as goal

-- src/build.rt:80:5
pub prepared-requires : goal.prepared-requires
prepared-requires c =
    comes c.args.advance c.args.c c.if-c-eq0.false c.requires
