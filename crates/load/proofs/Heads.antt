-- The head that is made of a stored voice's numbers is valid, and is that voice.
use mathlib.Core.Path.{◌≡◌, refl, ap}
use mathlib.Core.List.{List}
use mathlib.Core.Option.{some}
use Prim.Native.Nat.{ℕ, zero, suc, ◌*◌, ◌≤◌, ◌<◌}
use native.Mathlib.Omega.{arith}
use lib.IntN.{ℤ, pos, nat_abs}
use Rattle.integer.specs.Rounding.{M}
use Rattle.refusal.specs.Orders.{Takes}
use Rattle.refusal.proofs.Ranges.{ordered, delayed}
use Rattle.allpass.specs.Bounds.{Within, none, more}
use Rattle.allpass.specs.Stored.{stored, held}
use Rattle.allpass.specs.declared.State.{State as Three}
use Rattle.thiran.specs.Coefficients.{coefficients}
use Rattle.thiran.specs.Answers.{padded}
use Rattle.rule.specs.Voice.{Tuning, tuning, announced, asked}
use Rattle.form.specs.Numbers.{waiting_of as waits, state_of as state_of_numbers}
use Rattle.form.specs.Parts.{value}
use Rattle.form.specs.Refusals.{FilterIn}
use Rattle.voice.specs.Struct.{tuning_of, prepared_of, waiting_of, pluck_of, voice_of}
use Rattle.voice.specs.Valid.{Preparing}
use Rattle.voice.specs.declared.Filter.{Filter}
use Rattle.voice.specs.declared.Head.{Head}
use Rattle.voice.specs.declared.Kind.TheVariants.{Announced, Asked}
use Rattle.load.specs.declared.words.Change.{Change as ChangeWords}
use Rattle.load.specs.declared.words.Words.{Words}
use Rattle.load.specs.Words.{three_of, change_of, numbers_of}
use Rattle.load.specs.Loaded.{Makes}

-- ---- a filter
pub takes : (t : Tuning) (v : Three) → FilterIn t v → Takes t.N t.d
takes t v f =
    let o = ordered f.tuned in
    let d = delayed f.tuned in
    record { least = o.least; most = o.most; low = d.least; high = d.most }

zeros-past : (N : ℕ) (v : Three) → 1 ≤ N → N ≤ 3 → (N ≤ 1 → v.v2 ≡ pos 0) → (N ≤ 2 → v.v3 ≡ pos 0)
    → v ≡ stored (held N v)
unfolding stored
zeros-past zero v l m f g = absurd (omega arith)
zeros-past (suc zero) v l m f g = rw (f (omega arith), g (omega arith))
zeros-past (suc (suc zero)) v l m f g = rw (g (omega arith))
zeros-past (suc (suc (suc zero))) v l m f g = refl
zeros-past (suc (suc (suc (suc N)))) v l m f g = absurd (omega arith)

within : (N : ℕ) (v : Three) → N ≤ 3 → nat_abs v.v1 ≤ 16777214 → nat_abs v.v2 ≤ 16777214
    → nat_abs v.v3 ≤ 16777214 → Within (2 * M) (held N v)
within zero v m a b c = none
within (suc zero) v m a b c = more a none
within (suc (suc zero)) v m a b c = more a (more b none)
within (suc (suc (suc zero))) v m a b c = more a (more b (more c none))
within (suc (suc (suc (suc N)))) v m a b c = absurd (omega arith)

pub filter-tuned : (f : Filter) (t : Tuning) → tuning_of f.tuning ≡ t
    → f.coefficients ≡ padded (coefficients f.tuning.order f.tuning.delay) → FilterIn (tuning_of f.tuning) f.state
    → Makes t f.state f
filter-tuned f t e k h =
    let N = f.tuning.order in
    let s = takes (tuning_of f.tuning) f.state h in
    record {
      tuning = e;
      state = refl;
      tuned = record {
        takes = s;
        short = h.long.least;
        long = h.long.most;
        coefficients_are = k;
        past = zeros-past N f.state s.least s.most h.second h.third;
        within = within N f.state s.most h.v1 h.v2 h.v3;
      };
    }

-- ---- what waits
pub announced_waits : (Na : ℕ) (c : ChangeWords) (e : Filter) → c.kind ≡ 1 → c.taken < Na
    → Makes (tuning c.tuning.order c.tuning.length c.tuning.delay) (three_of c.state.a c.state.b c.state.c) e
    → (some (prepared_of Announced e c.taken) ≡ waits c.kind (change_of c)) × Preparing Na Announced e c.taken
announced_waits Na c e k n m = (
  rw k (rw (m.state, ap (λ (t : Tuning). t.N) m.tuning, ap (λ (t : Tuning). t.L) m.tuning, ap (λ (t : Tuning). t.d) m.tuning)),
  record { tuned = m.tuned; counted = omega arith; early = λ i. n },
)

pub asked_waits : (Na : ℕ) (c : ChangeWords) (e : Filter) → c.kind ≡ 2 → c.taken ≤ Na
    → Makes (tuning c.tuning.order c.tuning.length c.tuning.delay) (three_of c.state.a c.state.b c.state.c) e
    → (some (prepared_of Asked e c.taken) ≡ waits c.kind (change_of c)) × Preparing Na Asked e c.taken
asked_waits Na c e k n m = (
  rw k (rw (m.state, ap (λ (t : Tuning). t.N) m.tuning, ap (λ (t : Tuning). t.L) m.tuning, ap (λ (t : Tuning). t.d) m.tuning)),
  record { tuned = m.tuned; counted = n; early = λ i. absurd (unlike i) },
)
  where
    unlike : asked ≡ announced → ⊥
    unlike i = let z : ◌≡◌ {A = ℕ} 0 1 = cc in omega arith

-- ---- the head
pub voice-is : (w : Words) (h : Head) (l : List ℤ)
    → Makes (tuning w.tuning.order w.tuning.length w.tuning.delay) (three_of w.state.a w.state.b w.state.c) h.filter
    → h.loss ≡ w.loss → h.advance ≡ w.advance → h.last.n ≡ value w.last
    → waiting_of h.waiting ≡ waits w.change.kind (change_of w.change)
    → pluck_of h.pluck ≡ record { amplitude = w.pluck.amplitude; left = w.pluck.left; noise = w.pluck.noise }
    → voice_of h ≡ (state_of_numbers (numbers_of w l)).voice
voice-is w h l m G Na y c p =
    let N : h.filter.tuning.order ≡ w.tuning.order = ap (λ (t : Tuning). t.N) m.tuning in
    let L : h.filter.tuning.length ≡ w.tuning.length = ap (λ (t : Tuning). t.L) m.tuning in
    let d : h.filter.tuning.delay ≡ w.tuning.delay = ap (λ (t : Tuning). t.d) m.tuning in
    rw (N, L, d, m.state, G, Na, y, c, p)
