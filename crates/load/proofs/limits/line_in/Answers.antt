use Rattle.load.proofs.limits.line_in.Goals as goal

-- src/limits.rt:172:9
pub all_samples-requires : goal.all_samples-requires
all_samples-requires c = c.requires c.if-there-eq1.true

-- src/limits.rt:172:9
pub returns-then-there-eq1 : goal.returns-then-there-eq1
returns-then-there-eq1 c =
    let s = c.all_samples.ensures in
    record { yes = λ t e. s.yes t; no = λ f. s.no (f c.if-there-eq1.true) }
