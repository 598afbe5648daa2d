-- What is kept whatever the history; and lines that no coordinator says.
use Rattle.arj_law_parts.proofs.Words
use Words.{◌≡◌, ◌&&◌, Bool, true, List, [], ◌∷◌, refl, list_all, and_parts, Header, Seen, Effect}
use Rattle.arj_law_parts.proofs.moves.Happens.{Wide, keeps_asked, wide_kept}
use Rattle.arj_law_parts.specs.moves.Keeps.{IsAtStarts, Keeps}
use Rattle.arj_law_parts.specs.moves.With.{KeepsAll}

-- with more that was sent
pub wide_all : (hd : Header) (P : Seen → Type 0) → Keeps hd P → KeepsAll hd (Wide P)
wide_all hd P keeps =
    let k = wide_kept hd (IsAtStarts hd P) P (keeps_asked hd P keeps) in
    record { opens = k.opens; closes = k.closes; steps = k.steps; first = λ st formed. ([], (λ p i. i), k.first st formed) }

-- effects each of whose lines passes this test pass one that follows from it
pub all_too : (f g : Effect → Bool) → ((x : Effect) → f x ≡ true → g x ≡ true) → (es : List Effect) → list_all f es ≡ true →
    list_all g es ≡ true
all_too f g to [] all = refl
all_too f g to (x ∷ es) all = let p = and_parts (f x) (list_all f es) all in λ i. to x p.0 i && all_too f g to es p.1 i
