-- `frames::frame` meets its contract: refused, nothing is changed; else both sides.
use Rattle.std.proofs.Common.{rules, ◌≡◌, sym, ◌∙◌, arith, w64, to_z, of_z, to_z-of_z}
use lib.Ieee.{Float}
use Rattle.std.specs.Prelude.{Err}
use Rattle.refusal.specs.Numbers.{number_of}
use Rattle.refusal.proofs.Numbers.{refused-above}
use Rattle.integer.proofs.View.{abs_fits}
use Rattle.strings.specs.Rows.{strings_of}
use Rattle.floats.specs.Sample.{enters}
use Rattle.floats.proofs.Returns.{enters-small}
use Rattle.host.specs.Frames.{frame_number}
use Rattle.host.proofs.Theorems.{refused}
use Rattle.frames.proofs.Frames.{leaves-steps, frame_sides}
use Rattle.frames.proofs.frame.Goals as goal

pub returns-in_err-n : goal.returns-in_err-n
returns-in_err-n c =
    let s = c.args in
    let q = c.in_err-n.field-0.0 in
    let i : c.from_residual.result ≡ Err q = search rules in
    let e : number_of q ≡ frame_number s.x = search rules in
    let r = refused (strings_of s.heads.now s.lines.now) s.x (λ z. refused-above q (e ∙ z)) in
    rw i (record {
      number = e;
      frame = sym r.frame;
      states = λ j l. sym (r.states j);
      voices = c.requires;
    })

-- the sample fits the machine's word
read_sample : (x : Float) → to_z w64 (of_z w64 (enters x).n) ≡ (enters x).n
read_sample x = to_z-of_z (abs_fits w64 (enters x).n (omega (arith, enters-small x)))

pub sides-requires : goal.sides-requires
sides-requires c =
    let e : c.in_ok-n.n ≡ (enters c.args.x).n = search rules in
    rw (e, read_sample c.args.x) (c.requires, enters-small c.args.x)

pub returns : goal.returns
returns c =
    let s = c.args in
    let S = strings_of s.heads.now s.lines.now in
    let e : c.in_ok-n.n ≡ (enters s.x).n = search rules in
    let z : frame_number s.x ≡ 0 = search rules in
    let f = rw (e, read_sample s.x) at c.sides.ensures in
    record {
      number = sym z;
      frame = f.frame ∙ sym (frame_sides S s.x z);
      states = λ j l. f.states j l ∙ sym (leaves-steps S s.x z j);
      voices = f.voices;
    }
