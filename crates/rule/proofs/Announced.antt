-- L9 and L3: up to the moment the voice in which a change was announced, or asked for, is worked out from the
-- voice in which it was not: by steps and blocks the one goes beside the other. Assumes nothing.
use mathlib.Core.Path.{◌≡◌, refl, sym, ap, ap₂, ◌∙◌}
use mathlib.Core.Bool.{false}
use mathlib.Core.List.{List, [], ◌∷◌, ◌++◌}
use mathlib.Core.Option.{Option, none, some}
use Prim.Native.Nat.{ℕ, suc, ◌+◌, ◌-◌, ◌≤◌, ◌<◌, min}
use native.Mathlib.Omega.{arith}
use borrow.Author.Tests.{eq-eqb, ne_eqb}
use lib.IntN.{ℤ, pos}
use lib.ListN.{length, take, get_or}
use lib.Seq.{get_or-take}
use Rattle.allpass.specs.Allpass.{run}
use Rattle.allpass.proofs.Contraction.{run-append}
use Rattle.rule.specs.Voice.{Tuning, Kind, announced, asked, Waiting, Voice, A, rest, output, written}
use Rattle.rule.specs.Voice.{tuned, fed, fed_too, commits, settled, heard, stepped}
use Rattle.rule.specs.Calls.{instant, window, done}
use Rattle.rule.specs.State.{State, back, step, sounds, block_after, block_out, told}
use Rattle.rule.proofs.Read.{window_grows}
use Rattle.rule.proofs.Alike.{Alike, window-alike}
use Rattle.rule.proofs.Steps.{stepped-idle, stepped_keeps}

-- ---- the line, a sample x later
module _ (l : List ℤ) (x : ℤ) where
  -- the oldest sample, which is dropped, was not read
  uncut : Alike (back (x ∷ take 2111 l)) (back (x ∷ l))
  uncut k low high = get_or-take 2112 (x ∷ l) (k - 1) (pos 0) (omega arith)

  further : (k j : ℕ) → 1 ≤ k → j ≡ suc k → back (x ∷ l) j ≡ back l k
  further k j low e =
      let i : j - 1 ≡ suc (k - 1) = omega arith in
      ap (λ (m : ℕ). get_or (x ∷ l) m (pos 0)) i

  window-later : (L a : ℕ) → 1 ≤ L → L + suc a ≤ 2112
      → window (back (x ∷ take 2111 l)) L (suc a) ≡ window (back l) L a ++ (back l L ∷ [])
  window-later L a low high =
      window-alike (back (x ∷ take 2111 l)) (back (x ∷ l)) L (suc a) uncut high
      ∙ window_grows (back l) (back (x ∷ l)) L a low further

-- before Na samples were taken it waits, whichever its kind
uncommitted : (k : Kind) (a Na : ℕ) → a < Na → commits k a Na ≡ false
uncommitted announced a Na h = ne_eqb a Na (λ e. omega arith)
uncommitted asked a Na h = refl

module _ (k : Kind) (to : Tuning) where
  -- the change, a samples after it was announced or asked for, with the line l
  abbrev pub eliminator : List ℤ → ℕ → Waiting
  eliminator l a = record {
    kind = k;
    tuning = to;
    taken = a;
    state = run (A to) (rest to) (window (back l) to.L a);
  }

  -- u, had the change been announced, or asked for, in it a samples ago
  abbrev pub beside : State → ℕ → State
  beside u a = record { voice = settled u.voice (some (eliminator u.line a)); line = u.line }

  waits : (v : Voice) (l : List ℤ) (a : ℕ) → a < v.Na
      → settled v (some (eliminator l a)) ≡ tuned v v.tuning v.state (some (eliminator l a))
  unfolding settled
  waits v l a h = rw (uncommitted k a v.Na h)

  beside_waits : (u : State) (a : ℕ) → a < u.voice.Na
      → beside u a ≡ record {
        voice = tuned u.voice u.voice.tuning u.voice.state (some (eliminator u.line a));
        line = u.line;
      }
  beside_waits u a h =
      ap (λ (v : Voice). record { voice = v; line = u.line }) (waits u.voice u.line a h)

  -- ---- a step
  beside_sounds : (u : State) (a : ℕ) → a < u.voice.Na → sounds (beside u a) ≡ sounds u
  unfolding sounds output
  beside_sounds u a h = ap sounds (beside_waits u a h)

  -- a sample later the eliminator has taken s(n − L')
  fed-later : (l : List ℤ) (s : ℤ) (Na a : ℕ) → 1 ≤ to.L → to.L + suc a ≤ 2112 → a < Na
      → fed Na (eliminator l a) (back l) ≡ eliminator (s ∷ take 2111 l) (suc a)
  fed-later l s Na a low high h =
      let i : min (suc a) Na ≡ suc a = omega arith in
      let before = window (back l) to.L a in
      rw (i, window-later l s to.L a low high, run-append (A to) (rest to) before (back l to.L ∷ []))

  stepped-heard : (v : Voice) (r : ℕ → ℤ) → v.waiting ≡ none → stepped v r ≡ heard v r
  unfolding stepped settled
  stepped-heard v r i = ap (λ (w : Option Waiting). settled (heard v r) (fed_too v.Na w r)) i

  beside_step : (u : State) (x : ℤ) (a : ℕ) → u.voice.waiting ≡ none → 1 ≤ to.L → to.L + suc a ≤ 2112
      → a < u.voice.Na → step (beside u a) x ≡ beside (step u x) (suc a)
  unfolding step stepped written output
  beside_step u x a i low high h =
      let v = u.voice in
      let r = back u.line in
      let l = written v r x ∷ take 2111 u.line in
      ap (λ (b : State). step b x) (beside_waits u a h)
      ∙ ap (λ (w : Waiting). record { voice = settled (heard v r) (some w); line = l })
      (fed-later u.line (written v r x) v.Na a low high h)
      ∙ ap (λ (g : Voice). record { voice = settled g (some (eliminator l (suc a))); line = l })
      (sym (stepped-heard v r i))

-- ---- the moment
-- with Na samples taken an announced change is in force, and is the instant one
pub due : (to : Tuning) (u : State) → beside announced to u u.voice.Na ≡ told u (instant to)
unfolding settled done
due to u = rw (eq-eqb u.voice.Na u.voice.Na refl)

-- ---- a block
-- the voice without the change, of advance Na
pub record Idle (Na : ℕ) (u : State) : Type 0 where
  pub waiting : u.voice.waiting ≡ none
  pub advance : u.voice.Na ≡ Na

idle-step : {Na : ℕ} (u : State) (x : ℤ) → Idle Na u → Idle Na (step u x)
unfolding step
idle-step u x i =
    let r = back u.line in
    record {
      waiting = (stepped-idle u.voice r i.waiting).waiting;
      advance = (stepped_keeps u.voice r).advance ∙ i.advance;
    }

module _ (k : Kind) (to : Tuning) (low : 1 ≤ to.L) (Na : ℕ) (high : to.L + Na ≤ 2112) where
  pub record Blocks (u : State) (a : ℕ) (xs : List ℤ) : Type 0 where
    pub left : block_after (beside k to u a) xs ≡ beside k to (block_after u xs) (a + length xs)
    pub out : block_out (beside k to u a) xs ≡ block_out u xs
    pub idle : Idle Na (block_after u xs)

  pub blocks : (xs : List ℤ) (u : State) (a : ℕ) → Idle Na u → a + length xs ≤ Na → Blocks u a xs
  blocks [] u a i h =
      let e : a ≡ a + 0 = omega arith in
      record { left = ap (beside k to u) e; out = refl; idle = i }
  blocks (x ∷ xs) u a i h =
      let one : a < u.voice.Na = omega (arith, i.advance) in
      let s : step (beside k to u a) x ≡ beside k to (step u x) (suc a)
      = beside_step k to u x a i.waiting low (omega arith) one in
      let b = blocks xs (step u x) (suc a) (idle-step u x i) (omega arith) in
      let e : suc a + length xs ≡ a + suc (length xs) = omega arith in
      record {
        left = ap (λ (v : State). block_after v xs) s ∙ b.left ∙ ap (beside k to (block_after (step u x) xs)) e;
        out =
            ap₂ (λ (y : ℤ) (ys : List ℤ). y ∷ ys) (beside_sounds k to u a one)
            (ap (λ (v : State). block_out v xs) s ∙ b.out);
        idle = b.idle;
      }
