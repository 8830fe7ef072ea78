-- What a host stores and loads again is the same voice: "A stored and resumed voice goes on as if never stopped"
-- (document 02, L10). Its two facts are those that `Chain.resumed` of crate list asks, so that calls made one by one,
-- with stores and loads between them, are a list. proofs/Resumes.antt proves `Resumes`.
use Rattle.std.specs.Prelude.{◌≡◌, List, ℕ, ℤ, length, take}
use Rattle.voice.specs.declared.Head.{Head}
use Rattle.voice.specs.Called.{Answer}
use Rattle.voice.specs.Struct.{state_of}
use Rattle.voice.specs.Valid.{Valid}
use Rattle.store.specs.Stores.{Kept, Stores}
use Rattle.load.specs.Loaded.{Loads}

-- the head g and the line m are the voice of h and l
pub record Same (h : Head) (l : List ℤ) (g : Head) (m : List ℤ) : Type 0 where
  pub state : state_of g m ≡ state_of h l
  pub valid : Valid g m

pub record Resumes : Type 0 where
  -- stored into bytes that were old and then are new, with room enough; loaded from those that were filled
  pub resumes : (h : Head) (l : List ℤ) → Valid h l → length l ≡ 2112 → (old new : List ℕ) (r : Kept)
      → Stores (state_of h l) old new r → r.refusal ≡ 0 → (a : Answer) (m : List ℤ)
      → Loads (take r.length new) a m → (a.refusal ≡ 0) × Same h l a.head m
