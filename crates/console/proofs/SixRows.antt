-- The heads of six voices, and the place in the line of one of them.
use Rattle.std.proofs.Common.{◌≡◌, ℕ, ◌≤◌, ◌<◌, List, [], ℤ, get_or, sym, subst}
use Rattle.voice.specs.declared.Head.{Head}
use Rattle.packed.specs.Words.{head_of}
use Rattle.strings.specs.Rows.{Heads, Voices}

pub heads_of : (hs : List (List ℕ)) (ls : List (List ℤ)) → Voices hs ls → Heads hs
heads_of hs ls v = record { six = v.heads; fit = λ k h. (v.valid k h).fit }

pub place : (hs : List (List ℕ)) (ls : List (List ℤ)) (k : ℕ) (h : Head) → h ≡ head_of (get_or hs k []) → k ≤ 5
    → Voices hs ls → h.at < 2112
place hs ls k h e l v = subst (λ (g : Head). g.at < 2112) (sym e) (v.valid k l).fit.at
