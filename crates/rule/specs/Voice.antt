-- A voice but for its line, and what one sample does to it: document 01, "One sample of the voice". `r` reads
-- the samples written so far: `r k` is s(n − k), before step n. Definitions alone. Assumes nothing.
use Rattle.std.specs.Prelude.{Bool, false, cond, List, ℕ, suc, ◌-◌, min, leb, eqb, ℤ, pos, ◌+ℤ◌, ◌*ℤ◌}
use Rattle.std.proofs.Math.Option.{Option, none, some}
use Rattle.integer.specs.Rounding.{clip}
use Rattle.integer.specs.Cut.{Q}
use Rattle.thiran.specs.Coefficients.{coefficients}
use Rattle.allpass.specs.Allpass as Filter
use Rattle.allpass.specs.Allpass.{next, out}
use Rattle.noise.specs.Noise as Noise

-- "N, a length L, d": what a change replaces; L6: "The order becomes part of the tuning"
pub record Tuning : Type 0 where
  pub N : ℕ
  pub L : ℕ
  pub d : ℕ

abbrev pub tuning : ℕ → ℕ → ℕ → Tuning
tuning N L d = record { N = N; L = L; d = d }

-- L3: a change waits as an announced one, or as one that was asked for
pub data Kind : Type 0 where
  announced : Kind
  asked : Kind

-- a waiting change: its eliminator's tuning, how many samples it has taken, counted up to Na, and its state
pub record Waiting : Type 0 where
  pub kind : Kind
  pub tuning : Tuning
  pub taken : ℕ
  pub state : List ℤ

-- "the rest of a pluck with its noise state": all 0 where no step is left
pub record Pluck : Type 0 where
  pub amplitude : ℕ
  pub left : ℕ
  pub noise : ℕ

-- "A voice has N, a length L, d, a loss G, an advance Na, a filter state, the last output, a waiting change
-- or none, the rest of a pluck"
pub record Voice : Type 0 where
  pub tuning : Tuning
  pub G : ℕ
  pub Na : ℕ
  pub state : List ℤ
  pub last : ℤ
  pub waiting : Option Waiting
  pub pluck : Pluck

-- A1, .. , AN of a tuning, and its filter at rest
abbrev pub A : Tuning → List ℤ
A t = coefficients t.N t.d

abbrev pub rest : Tuning → List ℤ
rest t = Filter.rest t.N

-- ---- a pluck
abbrev pub silent : Pluck
silent = record { amplitude = 0; left = 0; noise = 0 }

-- "the next count steps add amplitude × draw to p": what it adds at this step, and what is left of it
unfoldable pub noise : Pluck → ℤ
noise p = cond (eqb p.left 0) (pos 0) (pos p.amplitude *ℤ Noise.value (Noise.next p.noise))

unfoldable pub spent : Pluck → Pluck
spent p =
    cond (leb p.left 1) silent
    (record { amplitude = p.amplitude; left = p.left - 1; noise = Noise.next p.noise })

-- ---- step n, with the caller's input x
-- "1. f = s(n − L). The filter gives the output y(n)"
unfoldable pub output : Voice → (ℕ → ℤ) → ℤ
output v r = out (A v.tuning) v.state (r v.tuning.L)

-- "2. If a change to L', d' waits, its eliminator takes s(n − L')"; L3: it "keeps running", past Na too
abbrev pub fed : ℕ → Waiting → (ℕ → ℤ) → Waiting
fed Na w r = record {
  kind = w.kind;
  tuning = w.tuning;
  taken = min (suc w.taken) Na;
  state = next (A w.tuning) w.state (r w.tuning.L);
}

abbrev pub fed_too : ℕ → Option Waiting → (ℕ → ℤ) → Option Waiting
fed_too Na none r = none
fed_too Na (some w) r = some (fed Na w r)

-- step 3, by document 02's L7: s(n) = clip(p(n) + G·(y(n) + y(n − 1))/131,072), the quotient cut toward zero. p(n)
-- is the input plus the noise, and Q is "the loop's division"
unfoldable pub written : Voice → (ℕ → ℤ) → ℤ → ℤ
written v r x =
    clip ((x +ℤ noise v.pluck) +ℤ Q (pos v.G *ℤ (output v r +ℤ v.last)))

-- the voice whose filter took s(n − L); what waits is told beside it
abbrev pub heard : Voice → (ℕ → ℤ) → Voice
heard v r = record {
  tuning = v.tuning;
  G = v.G;
  Na = v.Na;
  state = next (A v.tuning) v.state (r v.tuning.L);
  last = output v r;
  waiting = none;
  pluck = spent v.pluck;
}

-- v with another tuning, filter state and waiting change
abbrev pub tuned : Voice → Tuning → List ℤ → Option Waiting → Voice
tuned v t q w =
    record { tuning = t; G = v.G; Na = v.Na; state = q; last = v.last; waiting = w; pluck = v.pluck }

-- "4. .. If the eliminator has now taken Na samples"; L3: "An announced change acts as an ask that commits
-- itself"
abbrev pub commits : Kind → ℕ → ℕ → Bool
commits announced taken Na = eqb taken Na
commits asked taken Na = false

-- "L', d' and its state replace the voice's"
unfoldable pub settled : Voice → Option Waiting → Voice
settled v none = v
settled v (some w) =
    cond (commits w.kind w.taken v.Na) (tuned v w.tuning w.state none)
    (tuned v v.tuning v.state (some w))

unfoldable pub stepped : Voice → (ℕ → ℤ) → Voice
stepped v r = settled (heard v r) (fed_too v.Na v.waiting r)
