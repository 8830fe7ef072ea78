use Rattle.load.proofs.Said.{says_no, granted, refuted}
use native.Mathlib.Omega.{arith}
use Rattle.load.proofs.limits.head_in.Goals as goal

-- src/limits.rt:131:9
pub returns-then-not-filter_in : goal.returns-then-not-filter_in
returns-then-not-filter_in c =
    says_no (λ h. refuted c.filter_in.ensures c.if-not-filter_in.true h.filter)

-- src/limits.rt:134:9
pub returns-then-w-gt65535 : goal.returns-then-w-gt65535
returns-then-w-gt65535 c = says_no (λ h. omega (arith, h.loss, c.if-w-gt65535.true))

-- src/limits.rt:137:9
pub returns-then-w-gt64 : goal.returns-then-w-gt64
returns-then-w-gt64 c = says_no (λ h. omega (arith, h.advance, c.if-w-gt64.true))

-- src/limits.rt:140:9
pub returns-then-magnitude-gt8388607 : goal.returns-then-magnitude-gt8388607
returns-then-magnitude-gt8388607 c =
    says_no (λ h. omega (arith, h.last, c.magnitude.ensures, c.if-magnitude-gt8388607.true))

-- src/limits.rt:143:9
pub returns-then-not-pluck_in : goal.returns-then-not-pluck_in
returns-then-not-pluck_in c = says_no (λ h. refuted c.pluck_in.ensures c.if-not-pluck_in.true h.pluck)

-- src/limits.rt:127:1
pub returns : goal.returns
returns c =
    let s = c.change_in.ensures in
    record {
      yes = λ t. record {
        filter = granted c.filter_in.ensures c.if-not-filter_in.false;
        loss = c.if-w-gt65535.false;
        advance = c.if-w-gt64.false;
        last = omega (arith, c.magnitude.ensures, c.if-magnitude-gt8388607.false);
        change = s.yes t;
        pluck = granted c.pluck_in.ensures c.if-not-pluck_in.false;
      };
      no = λ h. s.no h.change;
    }
