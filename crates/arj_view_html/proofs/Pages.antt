-- Pages around what is told.
use Rattle.std.proofs.Common.{◌≡◌, ◌++◌, ◌∙◌, ℕ, List, ap}
use Rattle.arj_words.specs.Page.{escaped}

-- a page is that of what is told, also where this is known by another name
pub page_by : (old front back bytes told text : List ℕ) → told ≡ text → bytes ≡ old ++ (front ++ (escaped told ++ back)) →
    bytes ≡ old ++ (front ++ (escaped text ++ back))
page_by old front back bytes told text e h = h ∙ ap (λ t. old ++ (front ++ (escaped t ++ back))) e
