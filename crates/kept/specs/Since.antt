-- What a host has made of a voice's words and line since their last opening: the calls cs, which returned
-- the numbers ns and the counts ks, put out the samples ys and left the words ws and the line l. Each constructor is the
-- contract of a routine, so that every sequence of their calls that begins with an opening is here.
-- proofs/Since.antt proves `Lists`: such a sequence is the list of its calls, and demands 1, 2 and 3 hold of
-- it as of that list.
use Rattle.std.specs.Prelude.{◌≡◌, List, [], ◌∷◌, ◌++◌, ℕ, ℤ, length}
use Rattle.rule.specs.Voice.{Tuning}
use Rattle.rule.specs.Calls.{Call, Opening, block, instant, inputs, count}
use Rattle.rule.specs.State.{back}
use Rattle.line.specs.Ring.{ring}
use Rattle.voice.specs.Struct.{voice_of, state_of}
use Rattle.voice.specs.Valid.{Valid}
use Rattle.voice.specs.Called.{Called, On, lent}
use Rattle.open.specs.Opened.{Opens}
use Rattle.packed.specs.Words.{head_of}
use Rattle.list.specs.Chain.{heard, Uncounted, Chained}
use Rattle.kept.specs.Lent.{answer_of, opened_of}

pub data Since (o : Opening) : List Call → List ℕ → List ℕ → List ℤ → List ℕ → List ℤ → Type 0 where
  -- an opening, whatever the memory held: a later one begins another sequence
  opened : {n : ℕ} {ws : List ℕ} {l : List ℤ} → Opens o (opened_of n ws l) → Since o [] [] [] [] ws l
  -- a loss, a pluck, an announced or asked change, a commit, a withdrawal: they leave the line alone
  called : {cs : List Call} {ns ks : List ℕ} {ys : List ℤ} {ws us : List ℕ} {l : List ℤ} {n : ℕ} {c : Call}
      → Since o cs ns ks ys ws l → inputs c ≡ [] → Uncounted c → Called (head_of ws) c (answer_of n us)
      → Since o (cs ++ (c ∷ [])) (ns ++ (n ∷ [])) (ks ++ (0 ∷ [])) ys us l
  -- an instant change, which reads the line, with its count
  changed : {cs : List Call} {ns ks : List ℕ} {ys : List ℤ} {ws us : List ℕ} {l : List ℤ} {n j : ℕ} {to : Tuning}
      → Since o cs ns ks ys ws l → On (head_of ws) l (instant to) (answer_of n us) l
      → j ≡ count (voice_of (head_of ws)) (back (ring (head_of ws).at l)) (instant to)
      → Since o (cs ++ (instant to ∷ [])) (ns ++ (n ∷ [])) (ks ++ (j ∷ [])) ys us l
  -- a block with the input xs, zeros where it is played, whose lent output was before and then is out
  rendered : {cs : List Call} {ns ks : List ℕ} {ys : List ℤ} {ws us : List ℕ} {l m : List ℤ} {n : ℕ}
      → Since o cs ns ks ys ws l → (xs before : List ℤ) {out : List ℤ}
      → On (head_of ws) l (block xs (length before)) (answer_of n us) m
      → out ≡ lent (head_of ws) l (block xs (length before)) before
      → Since o (cs ++ (block xs (length before) ∷ [])) (ns ++ (n ∷ [])) (ks ++ (0 ∷ [])) (ys ++ heard n out) us m
  -- "A stored and resumed voice goes on as if never stopped" (document 02, L10): the words and the line are replaced by
  -- others of the same voice, which a load of what was stored leaves (crate snapshot: `Resumes`)
  resumed : {cs : List Call} {ns ks : List ℕ} {ys : List ℤ} {ws us : List ℕ} {l m : List ℤ}
      → Since o cs ns ks ys ws l → state_of (head_of us) m ≡ state_of (head_of ws) l → Valid (head_of us) m
      → Since o cs ns ks ys us m

pub record Lists : Type 0 where
  pub chained : {o : Opening} {cs : List Call} {ns ks : List ℕ} {ys : List ℤ} {ws : List ℕ} {l : List ℤ}
      → Since o cs ns ks ys ws l → Chained o cs ns ks ys (head_of ws) l
