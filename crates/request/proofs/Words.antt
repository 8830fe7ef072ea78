-- What the words of a text spell: none where no word is left, and one more behind those that were read.
use Rattle.std.proofs.Common.{◌≡◌, sym, ap, ◌∙◌, subst, ℕ, ◌+◌, ◌<◌, List, [], ◌∷◌, ◌++◌, length, take, Option, append_assoc}
use Rattle.std.proofs.lemmas.List.{append-nil, take_more_set, nil_from_length}
use lib.ListN.{set}
use Rattle.request.specs.Rest.{Split, Spelt, Spells, Ended, none, more}

pub no_word : {s w t : List ℕ} → Split s w t → length w ≡ 0 → Ended s
no_word {s} {w} {t} p h = (t, subst (λ (v : List ℕ). Split s v t) (nil_from_length w h) p)

-- what the words of s spell, where those of t behind them spell the rest
abbrev pub Behind : {A : Type 0} → (List ℕ → Option A) → List ℕ → List A → List ℕ → Type 0
Behind {A} spells s xs t = (ys : List A) → Spells spells t ys → Spells spells s (xs ++ ys)

pub first : {A : Type 0} (spells : List ℕ → Option A) (s : List ℕ) → Behind spells s [] s
first spells s = λ ys h. h

pub last : {A : Type 0} (spells : List ℕ → Option A) (s t : List ℕ) (xs zs : List A) → Behind spells s xs t → Ended t
    → zs ≡ xs → Spells spells s zs
last {A} spells s t xs zs b e h =
    subst (λ (ys : List A). Spells spells s ys) (append-nil xs ∙ sym h) (b [] (none e))

pub another : {A : Type 0} (spells : List ℕ → Option A) (s t u : List ℕ) (into : List A) (i : ℕ) (x : A)
    → i < length into → Behind spells s (take i into) t → Spelt spells t x u
    → Behind spells s (take (i + 1) (set into i x)) u
another {A} spells s t u into i x h b p = λ ys q.
    let e : take (i + 1) (set into i x) ++ ys ≡ take i into ++ (x ∷ ys)
    = ap (λ (xs : List A). xs ++ ys) (take_more_set into i x h) ∙ append_assoc (take i into) (x ∷ []) ys in
    subst (λ (xs : List A). Spells spells s xs) (sym e) (b (x ∷ ys) (more p q))
