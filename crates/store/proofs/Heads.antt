-- The numbers of a head are those of its voice.

use mathlib.Core.Path.{◌≡◌, refl, sym, ap, subst, ◌∙◌}
use mathlib.Core.List.{List, [], ◌∷◌, map, reverse}
use Prim.Native.Nat.{ℕ, ◌*◌, ◌≤◌}
use native.Mathlib.Omega.{arith}
use lib.IntN.{ℤ}
use lib.ListN.{length}
use Rattle.integer.specs.Rounding.{M}
use Rattle.refusal.specs.Orders.{orders}
use Rattle.samples.specs.Samples.{loudest}
use Rattle.allpass.specs.Stored.{stored, entries}
use Rattle.allpass.specs.declared.State.{State}
use Rattle.allpass.proofs.Stored.{length-held}
use Rattle.line.specs.Ring.{ring}
use Rattle.form.specs.Numbers.{Change, change_of}
use Rattle.form.specs.Parts.{word, parts}
use Rattle.form.proofs.Limits.{fits}
use mathlib.Core.Option.{some}
use Rattle.rule.specs.Voice as Rule
use Rattle.rule.specs.Valid.{Tunable, Filled, Coming}
use Rattle.rule.proofs.Keeps.{none-some, same_some}
use Rattle.form.specs.Theorems.{Storable}
use Rattle.store.proofs.Laid.{length-ring}
use Rattle.voice.specs.Struct.{tuning_of, filter_of, prepared_of, waiting_of, state_of}
use Rattle.voice.specs.Valid.{Tuned, Waiting-valid, Fit, Valid}
use Rattle.voice.specs.declared.Filter.{Filter}
use Rattle.voice.specs.declared.Head.{Head}
use Rattle.voice.specs.declared.Waiting.{Waiting}
use Rattle.voice.specs.declared.Waiting.TheVariants.{Idle, Prepared}
use Rattle.store.specs.declared.Words.{Words}
use Rattle.store.specs.Coming.{waiting_list, Quiet, WordsOf}

pub quiet-state : (f : Filter) → Tuned f → loudest (entries f.state) ≤ 2 * M
quiet-state f t =
    let n : length (filter_of f) ≤ orders = omega (arith, length-held f.tuning.order f.state t.takes.most, t.takes.most) in
    subst (λ (v : State). loudest (entries v) ≤ 2 * M) (sym t.past) (fits n t.within).0

pub quiet-waiting : (Na : ℕ) (x : Waiting) → Waiting-valid Na x → Quiet x
quiet-waiting Na Idle v = tt
quiet-waiting Na (Prepared k e n) v = quiet-state e v.tuned

-- the sixth part
abbrev sixth : Change → List ℕ
sixth c = c.kind ∷ c.tuning.N ∷ c.tuning.L ∷ c.tuning.d ∷ c.taken ∷ map word (entries c.state)

waiting-words : (Na : ℕ) (x : Waiting) → Waiting-valid Na x → waiting_list x ≡ sixth (change_of (waiting_of x))
unfolding stored
waiting-words Na Idle v = refl
waiting-words Na (Prepared k e n) v =
    ap (λ (s : State). waiting_list (Prepared k (record { tuning = e.tuning; coefficients = e.coefficients; state = s }) n))
    v.tuned.past

same_parts : {a b c d e f g h i j : List ℕ} → a ≡ b → c ≡ d → e ≡ f → g ≡ h → i ≡ j → (p q r : List ℕ)
    → ◌≡◌ {A = List (List ℕ)} (a ∷ p ∷ q ∷ c ∷ e ∷ g ∷ i ∷ r ∷ []) (b ∷ p ∷ q ∷ d ∷ f ∷ h ∷ j ∷ r ∷ [])
same_parts s t u v w p q r = cc

module _ (h : Head) (k : Fit h) (w : Words) where
  pub words_are :
      w.tuning ≡ (h.filter.tuning.order ∷ h.filter.tuning.length ∷ h.filter.tuning.delay ∷ [])
      → w.loss ≡ h.loss → w.advance ≡ h.advance → w.last ≡ word h.last.n
      → w.state ≡ map word (entries h.filter.state) → w.change ≡ waiting_list h.waiting
      → w.pluck ≡ (h.pluck.amplitude ∷ h.pluck.left ∷ h.pluck.noise ∷ [])
      → WordsOf h w
  unfolding parts
  words_are t g a y s c p l =
      rw (g, a, y)
      (same_parts t refl (s ∙ ap (λ (v : State). map word (entries v)) k.filter.past)
      (c ∙ waiting-words h.advance h.waiting k.waiting) p (h.loss ∷ []) (h.advance ∷ [])
      (map word (reverse (ring h.at l))))

-- ---- a valid head and its line are a voice that can be stored
filled : (f : Filter) → Tuned f → Filled f.tuning.order (filter_of f)
filled f t = record { many = length-held f.tuning.order f.state t.takes.most; within = t.within }

tunable : (f : Filter) → Tuned f → Tunable (tuning_of f.tuning)
tunable f t = record { takes = t.takes; short = t.short; long = t.long }

comes : (Na : ℕ) (x : Waiting) → Waiting-valid Na x → (u : Rule.Waiting) → waiting_of x ≡ some u → Coming Na u
comes Na Idle v u e = absurd (none-some e)
comes Na (Prepared k f n) v u e =
    let g : Coming Na (prepared_of k f n)
    = record {
      fit = tunable f v.tuned;
      counted = v.counted;
      early = v.early;
      state = filled f v.tuned;
    } in
    subst (λ (q : Rule.Waiting). Coming Na q) (same_some e) g

all-zero : {a l n : ℕ} → a ≡ 0 → l ≡ 0 → n ≡ 0
    → ◌≡◌ {A = Rule.Pluck} (record { amplitude = a; left = l; noise = n }) Rule.silent
all-zero a l n = cc

pub storable : (h : Head) (l : List ℤ) → Valid h l → length l ≡ 2112 → Storable (state_of h l)
storable h l v n =
    let k = v.fit in
    record {
      whole = record {
        voice = record {
          fit = tunable h.filter k.filter;
          loss = k.loss;
          advance = k.advance;
          state = filled h.filter k.filter;
          last = k.last;
          waiting = comes h.advance h.waiting k.waiting;
          pluck = record {
            amplitude = k.pluck.amplitude;
            left = k.pluck.left;
            over = λ e. let z = k.pluck.none_left e in all-zero z.0 e z.1;
          };
        };
        many = length-ring h.at l ∙ n;
        within = v.line;
      };
      noise = k.pluck.noise;
    }
