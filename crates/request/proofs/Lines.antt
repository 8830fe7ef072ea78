-- What a line asks stands in the line, and a request with no list stands in each.
use Rattle.std.proofs.Common.{◌≡◌, ℕ, ◌+◌, ◌-◌, List, [], length, drop, sym, ap, ◌∙◌, subst, arith, IfSome, Some, None, Option, unwrap_or, length-drop}
use Rattle.std.proofs.lemmas.List.{drop-drop, drop_all}
use Rattle.request.specs.declared.Request.{Request}
use Rattle.request.specs.InLine.{InLine}
use Rattle.request.specs.Rest.{Rest}

pub nothing : (s : List ℕ) (r : Request) → (r.places ≡ 0) × (r.list.now ≡ []) → InLine s r
nothing s r h = record {
  places = omega (arith, h.0);
  list = (length s, omega arith, h.1 ∙ sym (drop_all (length s) s (omega arith)));
}

pub behind : (s t : List ℕ) (r : Request) → Rest s t → InLine t r → InLine s r
behind s t r h l =
    let m : r.list.now ≡ drop l.list.0 (drop h.0 s) = l.list.2 ∙ ap (drop l.list.0) h.2 in
    let n : length t ≡ length s - h.0 = ap length h.2 ∙ length-drop h.0 s in
    record {
      places = l.places;
      list = (h.0 + l.list.0, omega (arith, n, l.list.1, h.1), m ∙ drop-drop l.list.0 h.0 s);
    }

pub either : (s t : List ℕ) → Rest s t → (o : Option Request) (d r : Request) → IfSome o (λ l. InLine t l)
    → (d.places ≡ 0) × (d.list.now ≡ []) → r ≡ unwrap_or o d → InLine s r
either s t h (Some l) d r a b e = subst (λ (l : Request). InLine s l) (sym e) (behind s t l h a)
either s t h None d r a b e = subst (λ (l : Request). InLine s l) (sym e) (nothing s d b)
