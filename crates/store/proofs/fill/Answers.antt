-- `store::fill` meets its contract: part after part, each where its bit stands.
use mathlib.Core.List.{List}
use Prim.Native.Nat.{ℕ, ◌+◌, ◌≤◌}
use lib.ListN.{length}
use Rattle.form.specs.Parts.{packed}
use Rattle.store.specs.declared.Words.{Words}
use Rattle.store.specs.declared.Bits.{Bits}
use Rattle.store.specs.Puts.{parts_of, flags_of}
use Rattle.store.proofs.Laid.{Room, for-one, for-more, then-pack, no_more, oldest}
use Rattle.store.proofs.fill.Goals as goal

whole : {out : List ℕ} (b : Bits) (w : Words) (line : List ℕ)
    → 1 + length (packed (flags_of b) (parts_of w line)) ≤ length out → Room out 1 (flags_of b) (parts_of w line)
whole b w line h = record { room = h }

pub part-a1-requires : goal.part-a1-requires
part-a1-requires c =
    let r1 = whole c.args.b c.args.w (oldest c.args.from c.args.line.now) c.requires.0 in
    for-one r1

pub part-a2-requires : goal.part-a2-requires
part-a2-requires c =
    let r1 = whole c.args.b c.args.w (oldest c.args.from c.args.line.now) c.requires.0 in
    let r2 = for-more r1 c.part-a1.ensures in
    for-one r2

pub part-a3-requires : goal.part-a3-requires
part-a3-requires c =
    let r1 = whole c.args.b c.args.w (oldest c.args.from c.args.line.now) c.requires.0 in
    let r2 = for-more r1 c.part-a1.ensures in
    let r3 = for-more r2 c.part-a2.ensures in
    for-one r3

pub part-a4-requires : goal.part-a4-requires
part-a4-requires c =
    let r1 = whole c.args.b c.args.w (oldest c.args.from c.args.line.now) c.requires.0 in
    let r2 = for-more r1 c.part-a1.ensures in
    let r3 = for-more r2 c.part-a2.ensures in
    let r4 = for-more r3 c.part-a3.ensures in
    for-one r4

pub part-a5-requires : goal.part-a5-requires
part-a5-requires c =
    let r1 = whole c.args.b c.args.w (oldest c.args.from c.args.line.now) c.requires.0 in
    let r2 = for-more r1 c.part-a1.ensures in
    let r3 = for-more r2 c.part-a2.ensures in
    let r4 = for-more r3 c.part-a3.ensures in
    let r5 = for-more r4 c.part-a4.ensures in
    for-one r5

pub part-a6-requires : goal.part-a6-requires
part-a6-requires c =
    let r1 = whole c.args.b c.args.w (oldest c.args.from c.args.line.now) c.requires.0 in
    let r2 = for-more r1 c.part-a1.ensures in
    let r3 = for-more r2 c.part-a2.ensures in
    let r4 = for-more r3 c.part-a3.ensures in
    let r5 = for-more r4 c.part-a4.ensures in
    let r6 = for-more r5 c.part-a5.ensures in
    for-one r6

pub part-a7-requires : goal.part-a7-requires
part-a7-requires c =
    let r1 = whole c.args.b c.args.w (oldest c.args.from c.args.line.now) c.requires.0 in
    let r2 = for-more r1 c.part-a1.ensures in
    let r3 = for-more r2 c.part-a2.ensures in
    let r4 = for-more r3 c.part-a3.ensures in
    let r5 = for-more r4 c.part-a4.ensures in
    let r6 = for-more r5 c.part-a5.ensures in
    let r7 = for-more r6 c.part-a6.ensures in
    for-one r7

pub samples-requires : goal.samples-requires
samples-requires c =
    let r1 = whole c.args.b c.args.w (oldest c.args.from c.args.line.now) c.requires.0 in
    let r2 = for-more r1 c.part-a1.ensures in
    let r3 = for-more r2 c.part-a2.ensures in
    let r4 = for-more r3 c.part-a3.ensures in
    let r5 = for-more r4 c.part-a4.ensures in
    let r6 = for-more r5 c.part-a5.ensures in
    let r7 = for-more r6 c.part-a6.ensures in
    let r8 = for-more r7 c.part-a7.ensures in
    (for-one r8, c.requires.1, c.requires.2)

pub returns : goal.returns
returns c =
    let r1 = whole c.args.b c.args.w (oldest c.args.from c.args.line.now) c.requires.0 in
    let r2 = for-more r1 c.part-a1.ensures in
    let r3 = for-more r2 c.part-a2.ensures in
    let r4 = for-more r3 c.part-a3.ensures in
    let r5 = for-more r4 c.part-a4.ensures in
    let r6 = for-more r5 c.part-a5.ensures in
    let r7 = for-more r6 c.part-a6.ensures in
    let r8 = for-more r7 c.part-a7.ensures in
    let p8 = then-pack r8 c.samples.ensures (no_more c.samples.new.out c.samples.result) in
    let p7 = then-pack r7 c.part-a7.ensures p8 in
    let p6 = then-pack r6 c.part-a6.ensures p7 in
    let p5 = then-pack r5 c.part-a5.ensures p6 in
    let p4 = then-pack r4 c.part-a4.ensures p5 in
    let p3 = then-pack r3 c.part-a3.ensures p4 in
    let p2 = then-pack r2 c.part-a2.ensures p3 in
    then-pack r1 c.part-a1.ensures p2
