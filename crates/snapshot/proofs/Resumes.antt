-- specs/Resumes.antt: by the round trip of crate form.
use mathlib.Core.Path.{◌≡◌, sym, ap, ◌∙◌}
use mathlib.Core.List.{List}
use Prim.Native.Nat.{ℕ}
use lib.ListN.{take}
use Rattle.rule.specs.State.{State}
use Rattle.form.specs.Parts.{stored}
use Rattle.form.specs.Loads.{Loaded, loads}
use Rattle.form.proofs.Refusals.{refuses}
use Rattle.form.proofs.Theorems.{round_trip}
use Rattle.voice.specs.Struct.{state_of}
use Rattle.store.specs.Stores.{Kept, Stores}
use Rattle.store.proofs.Heads.{storable}
use Rattle.snapshot.specs.Resumes.{Resumes}

-- the bytes that were filled are the stored voice
filled : (v : State) (old new : List ℕ) (r : Kept) → Stores v old new r → r.refusal ≡ 0
    → take r.length new ≡ stored v
filled v old new r s z = rw (s.long, s.slice) (refuses.wrote v old (sym s.number ∙ z)).1

pub resumes : Resumes
resumes = record {
  resumes = λ h l w n old new r s z a m g.
      let e = ap loads (filled (state_of h l) old new r s z) ∙ round_trip.back (state_of h l) (storable h l w n) in (
        g.number ∙ ap (λ (q : Loaded). q.refusal) e,
        record { state = g.state ∙ ap (λ (q : Loaded). q.state) e; valid = g.valid },
      );
}
