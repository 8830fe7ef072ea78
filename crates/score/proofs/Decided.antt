-- Header and records, part by part: each is accepted, as specs/Reached.antt has it, or refused, as
-- specs/Ends.antt has it. Assumes nothing.
use mathlib.Core.Path.{◌≡◌, refl}
use mathlib.Core.Logic.{◌⊎◌, inl, inr, ⊎_elim}
use mathlib.Core.List.{List}
use mathlib.Core.Option.{Option, none, some}
use Prim.Native.Nat.{ℕ, ◌≤◌}
use native.Mathlib.Omega.{arith}
use native.Mathlib.Decide.{dec_le, ℕ_discrete}
use lib.ListN.{length}
use Rattle.refusal.specs.Orders.{orders, lowest, highest}
use Rattle.rule.specs.Voice.{Waiting}
use Rattle.rule.specs.State.{State, call}
use Rattle.rule.specs.Calls.{Call}
use Rattle.refusal.specs.Limits.{Between}
use Rattle.record.specs.Record.{map_of, ill_formed, field}
use Rattle.record.specs.Returns.{IllFormed}
use Rattle.record.proofs.Returns.{ill, found, stands}
use Rattle.score.specs.Reached.{header, HeaderOpens, Has}
use Rattle.score.specs.Reached.{Lacks, size, keeping}
use Rattle.score.specs.Reached.{Readable}
use Rattle.score.specs.Reached.{SetsLoss, as_it_was, set, Given, present, absent, AsksChange}
use Rattle.score.specs.Reached.{MakesChange, no_change, changed, MakesPluck, no_pluck, plucked}
use Rattle.score.specs.Ends.{HeaderRefused, RecordRefused, LossRefused, ChangeRefused, PluckRefused}
use Rattle.score.specs.Ends.{cut, order, long, delay, loss, advance, ill_formed as not_formed, full, loss_outside}
use Rattle.score.specs.Ends.{waits}
use Rattle.score.specs.Ends.{amplitude, count}
use Rattle.score.proofs.Parts.{manner}

-- ---- what is within its limits or not
pub between : (low x high : ℕ) → Between low x high ⊎ (Between low x high → ⊥)
between low x high = go (dec_le low x) (dec_le x high)
  where
    go : Dec (low ≤ x) → Dec (x ≤ high) → Between low x high ⊎ (Between low x high → ⊥)
    go (yes a) (yes b) = inl (record { least = a; most = b })
    go (yes a) (no f) = inr (λ i. f i.most)
    go (no f) d = inr (λ i. f i.least)

idle : (w : Option Waiting) → (w ≡ none) ⊎ (w ≡ none → ⊥)
idle none = inl refl
idle (some w) = inr (λ e. let z : ◌≡◌ {A = ℕ} 0 1 = cc in omega arith)

decided : {A : Type 0} → Dec A → A ⊎ (A → ⊥)
decided (yes a) = inl a
decided (no f) = inr f

pub at_most : (x y : ℕ) → (x ≤ y) ⊎ (x ≤ y → ⊥)
at_most x y = decided (dec_le x y)

-- what goes on where A holds, and is refused where it does not
try : {A B C : Type 0} → A ⊎ (A → ⊥) → ((A → ⊥) → B) → (A → C ⊎ B) → C ⊎ B
try (inl a) f g = g a
try (inr h) f g = inr (f h)

-- ---- the header opens a voice, or is refused
pub opens-or : (s : List ℕ) → HeaderOpens s ⊎ ((n : ℕ) × HeaderRefused s n)
opens-or s =
    try (at_most 8 (length s)) (λ f. (14, cut (omega arith))) λ w.
    try (between 1 (header s).N orders) (λ f. (1, order w f)) λ n.
    try (between 1 (header s).L 2048) (λ f. (2, long w n f)) λ l.
    try (between (lowest (header s).N) (header s).d (highest (header s).N)) (λ f. (3, delay w n l f)) λ d.
    try (between 0 (header s).G 65535) (λ f. (4, loss w n l d f)) λ g.
    try (between 0 (header s).Na 64) (λ f. (5, advance w n l d g f)) λ a.
    inl (record { whole = w; order = n; long = l; delay = d; loss = g; advance = a })

-- ---- the parts of a record are accepted, or refused
module _ (t : List ℕ) where
  has : (k : ℕ) → Has t k ⊎ Lacks t k
  has k = decided (stands (map_of t) k)

  given : (k y : ℕ) → (x : ℕ) × Given t k y x
  given k y = ⊎_elim (λ e. (field t k, present e refl)) (λ e. (y, absent e refl)) (has k)

  ill-or : IllFormed (map_of t) ⊎ (IllFormed (map_of t) → ⊥)
  ill-or = go (ℕ_discrete (ill_formed (map_of t)) 0)
    where
      go : Dec (ill_formed (map_of t) ≡ 0) → IllFormed (map_of t) ⊎ (IllFormed (map_of t) → ⊥)
      go (yes e) = inr (λ i. ill (map_of t) i e)
      go (no f) = inl (found (map_of t) f)

  pub readable_or : (left : ℕ) → Readable t left ⊎ ((n : ℕ) × RecordRefused t left n)
  readable_or left =
      try (at_most (size t) (length t)) (λ f. (14, cut (omega arith))) λ w.
      ⊎_elim (λ i. inr (15, not_formed w i))
      (λ e. try (at_most (field t 0) left) (λ f. (16, full w e (omega arith))) λ h.
      inl (record { whole = w; formed = e; fits = h })) ill-or

  pub loss-or : (v : State) → ((u : State) × SetsLoss t v u) ⊎ ((n : ℕ) × LossRefused t n)
  loss-or v = ⊎_elim there (λ e. inl (v, as_it_was e refl)) (has 3)
    where
      there : Has t 3 → ((u : State) × SetsLoss t v u) ⊎ ((n : ℕ) × LossRefused t n)
      there e =
          try (between 0 (field t 3) 65535) (λ f. (4, loss_outside e f)) λ b.
          inl (call v (Call.loss (field t 3)), set e b refl)

  pub change-or : (v : State) → ((u : State) × MakesChange t v u) ⊎ ((n : ℕ) × ChangeRefused t v n)
  change-or v =
      ⊎_elim (λ e. there (λ f g. f e))
      (λ f. ⊎_elim (λ e. there (λ g h. h e)) (λ g. inl (v, no_change f g refl)) (has 2)) (has 1)
    where
      there : (Lacks t 1 → Lacks t 2 → ⊥)
          → ((u : State) × MakesChange t v u) ⊎ ((n : ℕ) × ChangeRefused t v n)
      there h =
          let L = given 1 v.voice.tuning.L in
          let d = given 2 v.voice.tuning.d in
          let c = manner t (keeping v L.0 d.0) in
          let a : AsksChange t v L.0 d.0 = record { some = h; long = L.1; delay = d.1 } in
          let N = v.voice.tuning.N in
          try (between 1 L.0 2048) (λ f. (2, long a f)) λ l.
          try (between (lowest N) d.0 (highest N)) (λ f. (3, delay a l f)) λ k.
          try (idle v.voice.waiting) (λ f. (6, waits a l k f)) λ w.
          inl (call v c.0, changed a l k w c.1 refl)

  pub pluck-or : (v : State) → ((u : State) × MakesPluck t v u) ⊎ ((n : ℕ) × PluckRefused t n)
  pluck-or v = ⊎_elim there (λ e. inl (v, no_pluck e refl)) (has 4)
    where
      there : Has t 4 → ((u : State) × MakesPluck t v u) ⊎ ((n : ℕ) × PluckRefused t n)
      there e =
          let n = given 5 100 in
          try (between 0 (field t 4) 255) (λ f. (7, amplitude e f)) λ a.
          try (between 1 n.0 2048) (λ f. (8, count e a n.1 f)) λ k.
          inl (call v (Call.pluck (field t 4) n.0 (field t 6)), plucked e a n.1 k refl)
