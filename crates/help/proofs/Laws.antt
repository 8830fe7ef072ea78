-- One call more in a list of them, and the kind that a line's first word names.
use Rattle.std.proofs.Common.{◌≡◌, subst, ℕ, suc, ◌+◌, List, [], ◌∷◌, ◌++◌, arith}
use Rattle.print.specs.declared.Printer.{Printer}
use Rattle.print.specs.Printer.{Prints, PrintsEach}
use Rattle.print.proofs.Printers.{each_more}
use Rattle.request.specs.Rest.{Split, at}
use Rattle.request.specs.Table.{table, Named}
use Rattle.help.specs.Said.{Listed, up_to, Wrong, Error, of}

pub rows_more : (p q r : Printer) (i kind : ℕ) → kind ≡ suc i → PrintsEach Listed (up_to i) p q
    → Prints (Listed kind) q r → PrintsEach Listed (up_to (i + 1)) p r
rows_more p q r i kind h before last =
    let m : i + 1 ≡ suc i = omega arith in
    rw m (subst (λ (j : ℕ). PrintsEach Listed (up_to i ++ j ∷ []) p r) h (each_more kind before last))

pub of_split : {s w t b d : List ℕ} {index i r kind : ℕ} → Split s w t → Named table w kind → Wrong index kind b i d r
    → Error s index b i d r
of_split {kind} (at a e first word rest) n p = of first (subst (λ (l : List ℕ). Named table l kind) word n) p
