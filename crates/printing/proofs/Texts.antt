-- Numbers as text.
use Rattle.std.proofs.Common.{◌≡◌, ℕ, List, [], ◌∷◌, ◌++◌, codes, decimal, sym, ap, ◌∙◌, append_assoc, append-nil}
use Rattle.printing.specs.Lines.{each_spaced}

-- numbers each after a space, and one more
pub spaced_more : (ts : List ℕ) (t : ℕ) → each_spaced (ts ++ (t ∷ [])) ≡ each_spaced ts ++ (codes " " ++ decimal t)
spaced_more [] t = ap (λ x. codes " " ++ x) (append-nil (decimal t))
spaced_more (s ∷ ts) t =
    ap (λ x. codes " " ++ (decimal s ++ x)) (spaced_more ts t)
    ∙ ap (λ x. codes " " ++ x) (sym (append_assoc (decimal s) (each_spaced ts) (codes " " ++ decimal t)))
    ∙ sym (append_assoc (codes " ") (decimal s ++ each_spaced ts) (codes " " ++ decimal t))
