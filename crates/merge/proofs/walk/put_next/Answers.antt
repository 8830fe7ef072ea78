-- `merge::walk::put_next` meets its contract.
use mathlib.Core.Path.{◌≡◌, refl, sym, ap, subst, ◌∙◌}
use mathlib.Core.Bool.{true, false}
use native.Mathlib.Omega.{arith}
use lib.Dec.{T}
use lib.ListN.{length}
use Rattle.octets.proofs.Laws.{laid-length}
use Rattle.timeline.specs.Merged.{record_bytes}
use Rattle.merge.proofs.Putting.{record-length}
use Rattle.merge.proofs.walk.put_next.Goals as goal

not-both : true ≡ false → ⊥
not-both e = subst T e tt

pub returns-then-not-writes : goal.returns-then-not-writes
returns-then-not-writes c =
    let w = c.args.writes in
    record {
      wrote = λ e. absurd (not-both (sym e ∙ c.if-not-writes.true));
      silent = λ _. refl;
      same = refl;
    }

pub returns : goal.returns
returns c =
    let s = c.before.before.before.before.before.before in
    let w = s.args.writes in
    let e = c.put_record.ensures in
    let q = s.args.q.now in
    record {
      wrote = λ _. e;
      silent = λ z. absurd (not-both (sym c.if-not-writes.false ∙ z));
      same = ap length e
          ∙ laid-length s.args.out.now s.args.at (record_bytes q) (omega (arith, record-length q, s.requires.1));
    }
