-- L9 and L3: the voice in which a change was announced, or asked for, beside the voice in which it was not, through
-- calls that are no changes, and lists of them. Assumes nothing.
use mathlib.Core.Path.{◌≡◌, refl, sym, ap, ap₂, subst, ◌∙◌}
use mathlib.Core.Bool.{Bool}
use mathlib.Core.List.{List, [], ◌∷◌, ◌++◌}
use Prim.Native.Nat.{ℕ, ◌+◌, ◌≤◌}
use native.Mathlib.Omega.{arith}
use native.Mathlib.Decide.{ℕ_discrete}
use lib.IntN.{ℤ}
use lib.ListN.{length, length-append}
use Rattle.rule.specs.Voice.{Tuning, Kind, announced, asked, commits, settled}
use Rattle.rule.specs.Calls.{Call, block, loss, pluck, prepare, instant, commit, withdraw}
use Rattle.rule.specs.Calls.{number, count, done, inputs}
use Rattle.rule.specs.State.{State, back, block_after, block_out, told, call, put}
use Rattle.rule.specs.State.{from, puts, numbers, counts}
use Rattle.rule.specs.Live.{NoChanges}
use Rattle.rule.specs.Asked.{Still, AllStill}
use Rattle.rule.proofs.Refusals.{refuses}
use Rattle.rule.proofs.Puts.{length-out}
use Rattle.rule.proofs.Announced.{eliminator, beside, Idle, blocks}
use Rattle.rule.proofs.Told.{accepts, idle_unasked, coming_unasked, told-loss, told-pluck}

first : (c : Call) (cs : List Call) → NoChanges (c ∷ cs) → NoChanges (c ∷ []) × NoChanges cs
first (block xs n) cs k = (tt, k)
first (loss G) cs k = (tt, k)
first (pluck a n z) cs k = (tt, k)
first (prepare i to) cs k = absurd k
first (instant to) cs k = absurd k
first commit cs k = (tt, k)
first withdraw cs k = (tt, k)

-- 21 is a refusal
not_21 : {n : ℕ} → n ≡ 21 → n ≡ 0 → ⊥
not_21 e z = omega arith

module _ (kind : Kind) (to : Tuning) (low : 1 ≤ to.L) (Na : ℕ) (high : to.L + Na ≤ 2112) where
  -- ---- a call
  pub record Same (u : State) (a : ℕ) (c : Call) : Type 0 where
    pub left : call (beside kind to u a) c ≡ beside kind to (call u c) (a + length (put u c))
    pub put : put (beside kind to u a) c ≡ put u c
    pub idle : Idle Na (call u c)

  pub refused : (u : State) (a : ℕ) (c : Call) → (number (beside kind to u a).voice c ≡ 0 → ⊥)
      → (number u.voice c ≡ 0 → ⊥) → Idle Na u → Same u a c
  refused u a c g f i =
      let p = refuses.unchanged u c f in
      let q = refuses.unchanged (beside kind to u a) c g in
      let e : a ≡ a + length (put u c) = omega (arith, ap length p.1) in
      record {
        left = q.0 ∙ ap₂ (beside kind to) (sym p.0) e;
        put = q.1 ∙ sym p.1;
        idle = subst (Idle Na) (sym p.0) i;
      }

  -- told to both alike
  alike : (u : State) (a : ℕ) (c : Call) → number (beside kind to u a).voice c ≡ number u.voice c
      → told (beside kind to u a) c ≡ beside kind to (told u c) a → Idle Na u → Idle Na (told u c)
      → a + length (put u c) ≤ Na → Same u a c
  alike u a c n t i j h = go (ℕ_discrete (number u.voice c) 0)
    where
      go : Dec (number u.voice c ≡ 0) → Same u a c
      go (no f) = refused u a c (λ z. f (sym n ∙ z)) f i
      go (yes z) =
          let p = accepts u c z in
          let q = accepts (beside kind to u a) c (n ∙ z) in
          let many : length (put u c) ≡ length (inputs c)
          = ap length p.1 ∙ length-out (told u c) (inputs c) in
          let b = blocks kind to low Na high (inputs c) (told u c) a j (omega arith) in
          let e : a + length (inputs c) ≡ a + length (put u c) = omega arith in
          record {
            left =
                q.0
                ∙ ap (λ (v : State). block_after v (inputs c)) t
                ∙ b.left
                ∙ ap₂ (beside kind to) (sym p.0) e;
            put = q.1 ∙ ap (λ (v : State). block_out v (inputs c)) t ∙ b.out ∙ sym p.1;
            idle = subst (Idle Na) (sym p.0) b.idle;
          }

  -- whether the change is in force
  abbrev in_force_lem : State → ℕ → Bool
  in_force_lem u a = commits kind a u.voice.Na

  pub same_block : (u : State) (a : ℕ) (xs : List ℤ) (n : ℕ) → Idle Na u
      → a + length (put u (block xs n)) ≤ Na → Same u a (block xs n)
  unfolding number done
  same_block u a xs n i h = alike u a (block xs n) refl refl i i h

  pub same-loss : (u : State) (a G : ℕ) → Idle Na u → a + length (put u (loss G)) ≤ Na → Same u a (loss G)
  unfolding number done settled
  same-loss u a G i h =
      let t = told-loss (in_force_lem u a) u (eliminator kind to u.line a) G in
      alike u a (loss G) refl t i (record { waiting = i.waiting; advance = i.advance }) h

  pub same-pluck : (u : State) (a p n z : ℕ) → Idle Na u → a + length (put u (pluck p n z)) ≤ Na
      → Same u a (pluck p n z)
  unfolding number done settled
  same-pluck u a p n z i h =
      let t = told-pluck (in_force_lem u a) u (eliminator kind to u.line a) p n z in
      alike u a (pluck p n z) refl t i (record { waiting = i.waiting; advance = i.advance }) h

  -- ---- a list
  pub record Runs (u : State) (a : ℕ) (cs : List Call) : Type 0 where
    pub left : from (beside kind to u a) cs ≡ beside kind to (from u cs) (a + length (puts u cs))
    pub puts : puts (beside kind to u a) cs ≡ puts u cs
    pub idle : Idle Na (from u cs)

  pub empty : (u : State) (a : ℕ) → Idle Na u → Runs u a []
  empty u a i =
      let e : a ≡ a + 0 = omega arith in
      record { left = ap (beside kind to u) e; puts = refl; idle = i }

  pub longer : (u : State) (a : ℕ) (c : Call) (cs : List Call) → Same u a c
      → Runs (call u c) (a + length (put u c)) cs → Runs u a (c ∷ cs)
  longer u a c cs s r =
      let n = length-append (put u c) (puts (call u c) cs) in
      let e : a + length (put u c) + length (puts (call u c) cs) ≡ a + length (puts u (c ∷ cs)) = omega arith in
      record {
        left = ap (λ (v : State). from v cs) s.left ∙ r.left ∙ ap (beside kind to (from (call u c) cs)) e;
        puts =
            ap₂ (λ (x y : List ℤ). x ++ y) s.put (ap (λ (v : State). puts v cs) s.left ∙ r.puts);
        idle = r.idle;
      }

-- ---- an announced change: both voices refuse a commit and a withdrawal, and all numbers are equal
module _ (to : Tuning) (low : 1 ≤ to.L) (Na : ℕ) (high : to.L + Na ≤ 2112) where
  record Named (u : State) (a : ℕ) (c : Call) : Type 0 where
    same : Same announced to low Na high u a c
    number : number (beside announced to u a).voice c ≡ number u.voice c
    count : count (beside announced to u a).voice (back u.line) c ≡ count u.voice (back u.line) c

  named : (u : State) (a : ℕ) (c : Call) → NoChanges (c ∷ []) → Idle Na u → a + length (put u c) ≤ Na
      → Named u a c
  unfolding number count settled
  named u a (block xs n) k i h =
      record { same = same_block announced to low Na high u a xs n i h; number = refl; count = refl }
  named u a (loss G) k i h =
      record { same = same-loss announced to low Na high u a G i h; number = refl; count = refl }
  named u a (pluck p n z) k i h =
      record { same = same-pluck announced to low Na high u a p n z i h; number = refl; count = refl }
  named u a (prepare j t) k i h = absurd k
  named u a (instant t) k i h = absurd k
  named u a commit k i h =
      let m = (coming_unasked (commits announced a u.voice.Na) u.voice
      (eliminator announced to u.line a) refl).commit in
      let n = (idle_unasked u.voice i.waiting).commit in
      record {
        same = refused announced to low Na high u a commit (not_21 m) (not_21 n) i;
        number = m ∙ sym n;
        count = refl;
      }
  named u a withdraw k i h =
      let m = (coming_unasked (commits announced a u.voice.Na) u.voice
      (eliminator announced to u.line a) refl).withdraw in
      let n = (idle_unasked u.voice i.waiting).withdraw in
      record {
        same = refused announced to low Na high u a withdraw (not_21 m) (not_21 n) i;
        number = m ∙ sym n;
        count = refl;
      }

  pub record Through (u : State) (a : ℕ) (cs : List Call) : Type 0 where
    pub runs : Runs announced to low Na high u a cs
    pub numbers : numbers (beside announced to u a) cs ≡ numbers u cs
    pub counts : counts (beside announced to u a) cs ≡ counts u cs

  pub through : (cs : List Call) (u : State) (a : ℕ) → NoChanges cs → Idle Na u → a + length (puts u cs) ≤ Na
      → Through u a cs
  through [] u a k i h = record { runs = empty announced to low Na high u a i; numbers = refl; counts = refl }
  through (c ∷ cs) u a k i h =
      let (one, rest) = first c cs k in
      let n = length-append (put u c) (puts (call u c) cs) in
      let s = named u a c one i (omega arith) in
      let e = s.same.left in
      let r = through cs (call u c) (a + length (put u c)) rest s.same.idle (omega arith) in
      record {
        runs = longer announced to low Na high u a c cs s.same r.runs;
        numbers =
            ap₂ (λ (x : ℕ) (y : List ℕ). x ∷ y) s.number
            (ap (λ (v : State). numbers v cs) e ∙ r.numbers);
        counts =
            ap₂ (λ (x : ℕ) (y : List ℕ). x ∷ y) s.count (ap (λ (v : State). counts v cs) e ∙ r.counts);
      }

-- ---- a change that was asked for: no commit and no withdrawal of it is accepted
module _ (to : Tuning) (low : 1 ≤ to.L) (Na : ℕ) (high : to.L + Na ≤ 2112) where
  still : (u : State) (a : ℕ) (c : Call) → Still (beside asked to u a) c → Idle Na u
      → a + length (put u c) ≤ Na → Same asked to low Na high u a c
  still u a (block xs n) k i h = same_block asked to low Na high u a xs n i h
  still u a (loss G) k i h = same-loss asked to low Na high u a G i h
  still u a (pluck p n z) k i h = same-pluck asked to low Na high u a p n z i h
  still u a (prepare j t) k i h = absurd k
  still u a (instant t) k i h = absurd k
  still u a commit k i h =
      refused asked to low Na high u a commit k (not_21 (idle_unasked u.voice i.waiting).commit) i
  still u a withdraw k i h =
      refused asked to low Na high u a withdraw k (not_21 (idle_unasked u.voice i.waiting).withdraw) i

  pub waits-through : (cs : List Call) (u : State) (a : ℕ) → AllStill (beside asked to u a) cs → Idle Na u
      → a + length (puts u cs) ≤ Na → Runs asked to low Na high u a cs
  waits-through [] u a k i h = empty asked to low Na high u a i
  waits-through (c ∷ cs) u a k i h =
      let n = length-append (put u c) (puts (call u c) cs) in
      let s = still u a c k.0 i (omega arith) in
      let rest = subst (λ (v : State). AllStill v cs) s.left k.1 in
      longer asked to low Na high u a c cs s
      (waits-through cs (call u c) (a + length (put u c)) rest s.idle (omega arith))
