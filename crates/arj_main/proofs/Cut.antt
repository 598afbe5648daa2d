-- The first piece of a text, and those behind it.
use Rattle.std.proofs.Common.{◌≡◌, ℕ, ◌+◌, ◌-◌, ◌<◌, Bool, ◌||◌, List, [], ◌∷◌, ◌++◌, suc, false, Some, None, refl, sym, ◌∙◌, ap, arith}
use Rattle.std.specs.Prelude.{◌==◌, if◌then◌else◌}
use Rattle.std.specs.List.{list_any, slice_get}
use Rattle.std.proofs.lemmas.Bool.{or_parts, eq-eqb}
use Rattle.std.proofs.lemmas.List.{append_assoc, append-nil}
use Rattle.arj_text.specs.Fields.{has_byte}
use Rattle.arj_main.specs.Pieces.{pieces, pieces_from}

-- bytes without the separator go into the piece in hand
goes_on : (k : ℕ) (front w rest : List ℕ) → has_byte k w ≡ false → pieces_from k front (w ++ rest) ≡ pieces_from k (front ++ w) rest
goes_on k front [] rest h = ap (λ f. pieces_from k f rest) (sym (append-nil front))
goes_on k front (b ∷ w) rest h =
    let parts = or_parts (b == k) (has_byte k w) h in
    ap (λ is. if is then front ∷ pieces_from k [] (w ++ rest) else pieces_from k (front ++ b ∷ []) (w ++ rest)) parts.0
    ∙ goes_on k (front ++ b ∷ []) w rest parts.1
    ∙ ap (λ f. pieces_from k f rest) (append_assoc front (b ∷ []) w)

-- where a text is cut
pub pieces_at_cut : (k : ℕ) (bytes w rest : List ℕ) → has_byte k w ≡ false → bytes ≡ w ++ k ∷ rest → pieces k bytes ≡ w ∷ pieces k rest
pieces_at_cut k bytes w rest h is =
    ap (λ bs. pieces k bs) is
    ∙ goes_on k [] w (k ∷ rest) h
    ∙ ap (λ same. if same then w ∷ pieces_from k [] rest else pieces_from k (w ++ k ∷ []) rest) (eq-eqb k k refl)

-- a text that isn't cut
pub piece_alone : (k : ℕ) (w : List ℕ) → has_byte k w ≡ false → pieces k w ≡ w ∷ []
piece_alone k w h = ap (λ bs. pieces k bs) (sym (append-nil w)) ∙ goes_on k [] w [] h

-- one piece on
pub one_on : (k n i : ℕ) (bytes w rest : List ℕ) → i < n → has_byte k w ≡ false → bytes ≡ w ++ k ∷ rest
    → slice_get (pieces k rest) (n - (i + 1)) ≡ slice_get (pieces k bytes) (n - i)
one_on k n i bytes w rest within h is =
    let more : suc (n - (i + 1)) ≡ n - i = omega (arith, within) in
    ap (λ ps. slice_get ps (suc (n - (i + 1)))) (sym (pieces_at_cut k bytes w rest h is))
    ∙ ap (λ m. slice_get (pieces k bytes) m) more

-- no piece is left
pub none_left : (k n i : ℕ) (w : List ℕ) → i < n → has_byte k w ≡ false → slice_get (pieces k w) (n - i) ≡ None
none_left k n i w within h =
    let more : n - i ≡ suc (n - (i + 1)) = omega (arith, within) in
    ap (λ ps. slice_get ps (n - i)) (piece_alone k w h) ∙ ap (λ m. slice_get (w ∷ []) m) more

-- whether some piece meets a test: the first does, or one behind it
pub any_at_cut : (p : ℕ → List ℕ → Bool) (n k : ℕ) (bytes w rest : List ℕ) → has_byte k w ≡ false → bytes ≡ w ++ k ∷ rest
    → list_any (p n) (pieces k bytes) ≡ (p n w || list_any (p n) (pieces k rest))
any_at_cut p n k bytes w rest h is = ap (λ ps. list_any (p n) ps) (pieces_at_cut k bytes w rest h is)

-- whether the only piece does
pub any_alone : (p : ℕ → List ℕ → Bool) (n k : ℕ) (w : List ℕ) → has_byte k w ≡ false → list_any (p n) (pieces k w) ≡ (p n w || false)
any_alone p n k w h = ap (λ ps. list_any (p n) ps) (piece_alone k w h)

-- the piece in front, of a text that is cut
pub front_at_cut : (k m : ℕ) (bytes w rest : List ℕ) → m ≡ 0 → has_byte k w ≡ false → bytes ≡ w ++ k ∷ rest →
    slice_get (pieces k bytes) m ≡ Some w
front_at_cut k m bytes w rest none h is =
    ap (λ ps. slice_get ps m) (pieces_at_cut k bytes w rest h is) ∙ ap (λ j. slice_get (w ∷ pieces k rest) j) none

-- the piece in front, of one that isn't
pub front_alone : (k m : ℕ) (w : List ℕ) → m ≡ 0 → has_byte k w ≡ false → slice_get (pieces k w) m ≡ Some w
front_alone k m w none h = ap (λ ps. slice_get ps m) (piece_alone k w h) ∙ ap (λ j. slice_get (w ∷ []) j) none
