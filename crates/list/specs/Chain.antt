-- Calls that a caller makes one after the other, each on what the one before left, of which each meets its
-- contract: demands 2 and 3 hold of them as of a list. proofs/Chain.antt proves `Chained`.
use Rattle.std.specs.Prelude.{◌≡◌, cond, List, [], ◌∷◌, ◌++◌, ℕ, eqb, ℤ, length}
use Rattle.line.specs.Ring.{ring}
use Rattle.rule.specs.Voice.{Tuning, Voice}
use Rattle.rule.specs.Calls.{Call, Opening, block, instant, inputs, count}
use Rattle.rule.specs.State.{back, fresh, from, puts, numbers, counts}
use Rattle.rule.specs.Click.{ClickFigure}
use Rattle.rule.specs.OwnFigure.{OwnClickFigure}
use Rattle.voice.specs.declared.Head.{Head}
use Rattle.voice.specs.Called.{Answer}
use Rattle.voice.specs.Struct.{voice_of, state_of}
use Rattle.voice.specs.Valid.{Valid}
use Rattle.voice.specs.Called.{Called, On, lent}

-- the samples that a block has put out, which are in the lent output unless it was refused
abbrev pub heard : ℕ → List ℤ → List ℤ
heard n out = cond (eqb n 0) out []

-- a call that has no count
abbrev pub Uncounted : Call → Type 0
Uncounted c = (v : Voice) (r : ℕ → ℤ) → count v r c ≡ 0

-- from the head h and the line l, the calls cs returned the numbers ns and the counts ks, put out the samples ys,
-- and left the head g and the line k: what is said of each call is its contract
pub data Chain : Head → List ℤ → List Call → List ℕ → List ℕ → List ℤ → Head → List ℤ → Type 0 where
  none : {h : Head} {l : List ℤ} → Chain h l [] [] [] [] h l
  -- a loss, a pluck, an announced change: they are no steps, and leave the line alone
  called : {h g : Head} {l k : List ℤ} {c : Call} {cs : List Call} {ns ks : List ℕ} {ys : List ℤ} {a : Answer}
      → inputs c ≡ [] → Uncounted c → Called h c a → Chain a.head l cs ns ks ys g k
      → Chain h l (c ∷ cs) (a.refusal ∷ ns) (0 ∷ ks) ys g k
  -- an instant change, which reads the line, with its count
  changed : {h g : Head} {l k : List ℤ} {to : Tuning} {cs : List Call} {ns ks : List ℕ} {ys : List ℤ}
      {a : Answer} {j : ℕ} → On h l (instant to) a l → j ≡ count (voice_of h) (back (ring h.at l)) (instant to)
      → Chain a.head l cs ns ks ys g k → Chain h l (instant to ∷ cs) (a.refusal ∷ ns) (j ∷ ks) ys g k
  -- a block with the input xs, whose lent output was before and then is out
  rendered : {h g : Head} {l m k : List ℤ} {cs : List Call} {ns ks : List ℕ} {ys : List ℤ} {a : Answer}
      (xs before : List ℤ) {out : List ℤ} → On h l (block xs (length before)) a m
      → out ≡ lent h l (block xs (length before)) before → Chain a.head m cs ns ks ys g k
      → Chain h l (block xs (length before) ∷ cs) (a.refusal ∷ ns) (0 ∷ ks) (heard a.refusal out ++ ys) g k
  -- "A stored and resumed voice goes on as if never stopped" (document 02, L10): the head and the line are
  -- replaced by others of the same voice
  resumed : {h f g : Head} {l m k : List ℤ} {cs : List Call} {ns ks : List ℕ} {ys : List ℤ}
      → state_of f m ≡ state_of h l → Valid f m → Chain f m cs ns ks ys g k → Chain h l cs ns ks ys g k

-- such a chain on what Open returned is the list of its calls
pub record Chained (o : Opening) (cs : List Call) (ns ks : List ℕ) (ys : List ℤ) (g : Head) (k : List ℤ) : Type 0
  where
    pub codes : ns ≡ numbers (fresh o) cs
    pub runs : ks ≡ counts (fresh o) cs
    pub samples : ys ≡ puts (fresh o) cs
    pub state : state_of g k ≡ from (fresh o) cs
    -- what the next call requires
    pub valid : Valid g k
    pub click : ClickFigure o cs ys
    pub own_click : OwnClickFigure o cs ys
