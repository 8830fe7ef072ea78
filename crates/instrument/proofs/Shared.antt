-- When a string has a share: `Shared`.
use mathlib.Core.Path.{◌≡◌, refl, sym, ap, subst, ◌∙◌}
use mathlib.Core.Bool.{Bool, true, false, cond}
use mathlib.Core.List.{List, [], ◌∷◌, ◌++◌, append-nil, append_assoc}
use mathlib.Core.Option.{Option, none, some}
use Prim.Native.Nat.{ℕ}
use native.Mathlib.Omega.{arith}
use lib.Dec.{eqb}
use borrow.Author.Tests.{eqb-true, eqb-false, eq-eqb, ne_eqb}
use Rattle.rule.specs.Calls.{Call, block, Opening}
use Rattle.form.specs.Loads.{loads}
use Rattle.instrument.specs.Strings.{Own, opens, calls, store, load, Play, on, mix}
use Rattle.instrument.specs.Share.{Refused, Share, first, opening, calling, mixing, storing, other}
use Rattle.instrument.specs.Share.{resuming, refusing, loaded_by, loaded_since, loaded}
use Rattle.instrument.specs.Shared.{Has, Resumes, Shared}
use Rattle.instrument.proofs.Share.{held}

-- ---- where there is one
some-none : {bytes : List ℕ} → some bytes ≡ none → ⊥
some-none e = let z : ◌≡◌ {A = ℕ} 0 1 = cc in omega arith

abbrev refusing-opening : Opening
refusing-opening = record { N = 0; L = 0; d = 0; G = 0; Na = 0 }

refuses : Refused refusing-opening
refuses z = omega arith

-- bytes that were taken up
within : Option (List ℕ) → List ℕ
within none = []
within (some bytes) = bytes

taken : (b bytes : List ℕ) → loaded_by none (load b) ≡ some bytes → ((loads b).refusal ≡ 0) × (b ≡ bytes)
unfolding within
taken b bytes = go (eqb (loads b).refusal 0) refl
  where
    go : (c : Bool) → eqb (loads b).refusal 0 ≡ c → cond c (some b) none ≡ some bytes
        → ((loads b).refusal ≡ 0) × (b ≡ bytes)
    go true i e = (eqb-true (loads b).refusal 0 i, ap within e)
    go false i e = absurd (some-none {bytes = bytes} (sym e))

-- more calls after those that store the bytes
grow : {bytes : List ℕ} {o : Opening} {cs : List Call} → Resumes bytes o cs → (ds : List Call)
    → Resumes bytes o (cs ++ ds)
grow {bytes} {o} {cs} r ds = record {
  pre = r.pre;
  post = r.post ++ ds;
  split = ap (λ (l : List Call). l ++ ds) r.split ∙ append_assoc r.pre r.post ds;
  seeds = r.seeds;
  bytes_are = r.bytes_are;
}

module _ (k : ℕ) where
  -- by one more call on string k
  has-own : (ps : List Play) (u : Option (List ℕ)) (a : Own) → (u ≡ none → Has k ps) → loaded_by u a ≡ none
      → Has k (ps ++ on k a ∷ [])
  has-own ps u (opens o) f e = record { o = o; cs = []; share = opening ps }
  has-own ps u (calls c) f e =
      let r = f e in
      record { o = r.o; cs = r.cs ++ c ∷ []; share = calling c r.share }
  has-own ps u (store old) f e =
      let r = f e in
      record { o = r.o; cs = r.cs; share = storing old r.share }
  has-own ps u (load bytes) f e = record {
    o = refusing-opening;
    cs = [];
    share =
        refusing ps bytes (λ z. some-none {bytes = bytes} (rw (eq-eqb (loads bytes).refusal 0 z) at e))
        refuses;
  }

  has_on : (j : ℕ) (a : Own) (ps : List Play) (u : Option (List ℕ)) → (u ≡ none → Has k ps)
      → cond (eqb j k) (loaded_by u a) u ≡ none → Has k (ps ++ on j a ∷ [])
  has_on j a ps u f = go (eqb j k) refl
    where
      go : (b : Bool) → eqb j k ≡ b → cond b (loaded_by u a) u ≡ none → Has k (ps ++ on j a ∷ [])
      go true i e =
          subst (λ (m : ℕ). Has k (ps ++ on m a ∷ [])) (sym (eqb-true j k i)) (has-own ps u a f e)
      go false i e =
          let r = f e in
          record { o = r.o; cs = r.cs; share = other j a (eqb-false j k i) r.share }

  has-from : (qs ps : List Play) (u : Option (List ℕ)) → (u ≡ none → Has k ps) → loaded_since k u qs ≡ none
      → Has k (ps ++ qs)
  has-from [] ps u f e = subst (Has k) (sym (append-nil ps)) (f e)
  has-from (on j a ∷ qs) ps u f e =
      subst (Has k) (append_assoc ps (on j a ∷ []) qs)
      (has-from qs (ps ++ on j a ∷ []) (cond (eqb j k) (loaded_by u a) u) (has_on j a ps u f) e)
  has-from (mix xs n ∷ qs) ps u f e =
      subst (Has k) (append_assoc ps (mix xs n ∷ []) qs)
      (has-from qs (ps ++ mix xs n ∷ []) u
      (λ i.
      let r = f i in
      record { o = r.o; cs = r.cs ++ block xs n ∷ []; share = mixing xs n r.share }) e)

  -- ---- where bytes were taken up
  since-more : (ps : List Play) (u : Option (List ℕ)) (p : Play)
      → loaded_since k u (ps ++ p ∷ []) ≡ loaded_since k (loaded_since k u ps) (p ∷ [])
  since-more [] u p = refl
  since-more (on j a ∷ ps) u p = since-more ps (cond (eqb j k) (loaded_by u a) u) p
  since-more (mix xs n ∷ ps) u p = since-more ps u p

  since-own : (ps : List Play) (a : Own) → loaded k (ps ++ on k a ∷ []) ≡ loaded_by (loaded k ps) a
  since-own ps a = since-more ps none (on k a) ∙ rw (eq-eqb k k refl) refl

  since-other : (ps : List Play) (j : ℕ) (a : Own) → (j ≡ k → ⊥) → loaded k (ps ++ on j a ∷ []) ≡ loaded k ps
  since-other ps j a f = since-more ps none (on j a) ∙ rw (ne_eqb j k f) refl

  only : {ps : List Play} {o : Opening} {cs : List Call} (bytes : List ℕ) → Share k ps o cs
      → loaded k ps ≡ some bytes → Resumes bytes o cs
  only bytes (first f) e = absurd (some-none {bytes = bytes} (sym e))
  only bytes (opening ps {o}) e = absurd (some-none {bytes = bytes} (sym e ∙ since-own ps (opens o)))
  only bytes (calling {ps} {o} {cs} c s) e =
      grow (only bytes s (sym (since-own ps (calls c)) ∙ e)) (c ∷ [])
  only bytes (mixing {ps} {o} {cs} xs n s) e =
      grow (only bytes s (sym (since-more ps none (mix xs n)) ∙ e)) (block xs n ∷ [])
  only bytes (storing {ps} old s) e = only bytes s (sym (since-own ps (store old)) ∙ e)
  only bytes (other {ps} j a f s) e = only bytes s (sym (since-other ps j a f) ∙ e)
  only bytes (resuming ps o cs b z i) e = record {
    pre = cs;
    post = [];
    split = sym (append-nil cs);
    seeds = z;
    bytes_are = sym (taken b bytes (sym (since-own ps (load b)) ∙ e)).1 ∙ i;
  }
  only bytes (refusing ps b f g) e = absurd (f (taken b bytes (sym (since-own ps (load b)) ∙ e)).0)

pub shared : Shared
shared = record {
  state = λ k ps o cs h s. held k h s;
  has = λ k ps e.
      has-from k ps [] none (λ i. record { o = refusing-opening; cs = []; share = first refuses }) e;
  only = λ k ps bytes o cs e s. only k bytes s e;
}
