-- A sequence of calls that begins with an opening is a chain of crate list, one call longer at its end each
-- time.
use mathlib.Core.Path.{◌≡◌, sym, ap, subst}
use mathlib.Core.List.{List, [], ◌∷◌, ◌++◌, append-nil, append_assoc}
use Prim.Native.Nat.{ℕ}
use lib.IntN.{ℤ}
use lib.ListN.{length}
use Rattle.rule.specs.Calls.{Call, Opening, block}
use Rattle.voice.specs.declared.Head.{Head}
use Rattle.open.specs.Opened.{Opened, Opens}
use Rattle.packed.specs.Words.{head_of}
use Rattle.list.specs.Chain.{Chain, heard, Chained}
use Rattle.list.proofs.Chain.{chained}
use Rattle.kept.specs.Lent.{opened_of}
use Rattle.kept.specs.Since.{Since, opened, called, changed, rendered, resumed, Lists}

-- one chain after another
then : {h g f : Head} {l k m : List ℤ} {cs ds : List Call} {ns os ks js : List ℕ} {ys zs : List ℤ}
    → Chain h l cs ns ks ys g k → Chain g k ds os js zs f m
    → Chain h l (cs ++ ds) (ns ++ os) (ks ++ js) (ys ++ zs) f m
then Chain.none d = d
then (Chain.called still z e c) d = Chain.called still z e (then c d)
then (Chain.changed e i c) d = Chain.changed e i (then c d)
then (Chain.resumed e w c) d = Chain.resumed e w (then c d)
then {h} {f = f} {l = l} {m = m} {ds = ds} {os = os} {js = js} {zs = zs}
    (Chain.rendered {cs = bs} {ns = qs} {ks = rs} {ys = xs} {a = a} ins lends {out = out} e i c) d =
    subst (λ (q : List ℤ). Chain h l (block ins (length lends) ∷ (bs ++ ds)) (a.refusal ∷ (qs ++ os)) (0 ∷ (rs ++ js)) q f m)
    (sym (append_assoc (heard a.refusal out) xs zs))
    (Chain.rendered ins lends e i (then c d))

-- the voice that was opened, and the chain from it
record Through (o : Opening) (cs : List Call) (ns ks : List ℕ) (ys : List ℤ) (g : Head) (k : List ℤ) : Type 0 where
  first : Opened
  opens : Opens o first
  chain : Chain first.voice.head first.voice.line cs ns ks ys g k

on : {o : Opening} {cs : List Call} {ns ks : List ℕ} {ys zs qs : List ℤ} {g f : Head} {k m : List ℤ} {c : Call} {n j : ℕ}
    → Through o cs ns ks ys g k → Chain g k (c ∷ []) (n ∷ []) (j ∷ []) zs f m → ys ++ zs ≡ qs
    → Through o (cs ++ (c ∷ [])) (ns ++ (n ∷ [])) (ks ++ (j ∷ [])) qs f m
on {cs = cs} {ns} {ks} {f = f} {m = m} {c = c} {n = n} {j = j} t d e = record {
  first = t.first;
  opens = t.opens;
  chain =
      subst (λ (q : List ℤ). Chain t.first.voice.head t.first.voice.line (cs ++ (c ∷ [])) (ns ++ (n ∷ [])) (ks ++ (j ∷ [])) q f m)
      e (then t.chain d);
}

through : {o : Opening} {cs : List Call} {ns ks : List ℕ} {ys : List ℤ} {ws : List ℕ} {l : List ℤ}
    → Since o cs ns ks ys ws l → Through o cs ns ks ys (head_of ws) l
through (opened {n} {ws} {l} p) = record { first = opened_of n ws l; opens = p; chain = Chain.none }
through (called {ys = ys} s still z e) = on (through s) (Chain.called still z e Chain.none) (append-nil ys)
through (changed {ys = ys} s e i) = on (through s) (Chain.changed e i Chain.none) (append-nil ys)
through (rendered {ys = ys} {n = n} s xs before {out = out} e i) =
    on (through s) (Chain.rendered xs before e i Chain.none)
    (ap (λ (q : List ℤ). ys ++ q) (append-nil (heard n out)))
through (resumed {cs = cs} {ns = ns} {ks = ks} {ys = ys} s e v) =
    let t = through s in
    record {
      first = t.first;
      opens = t.opens;
      chain =
          rw (append-nil cs, append-nil ns, append-nil ks, append-nil ys) at
          (then t.chain (Chain.resumed e v Chain.none));
    }

list_of : {o : Opening} {cs : List Call} {ns ks : List ℕ} {ys : List ℤ} {ws : List ℕ} {l : List ℤ}
    → Since o cs ns ks ys ws l → Chained o cs ns ks ys (head_of ws) l
list_of {o} s = let t = through s in chained o t.first t.opens t.chain

pub lists : Lists
lists = record { chained = λ s. list_of s }
