-- What follows for each line from what is known of it, along a run.
use Rattle.arj_law_parts.proofs.Words
use Words.{◌≡◌, ◌∙◌, ◌&&◌, ◌++◌, ℕ, Bool, true, List, [], ◌∷◌, length, map, refl, ap, Body, Event, Line, and_parts, Start, numbered}
use Rattle.arj_law_runs.specs.follow.Frames.{are_so}
use Rattle.arj_model.specs.CauseSpans.{Here, behind}
use Rattle.arj_model.specs.Follows.{Runs}
use Rattle.arj_model.specs.Past.{Along, Past, next}
use Rattle.std.specs.Prelude.{drop}

-- a test that is weaker holds of these lines too
pub so_too : (f g : Here → Body → Bool) → ((h : Here) (b : Body) → f h b ≡ true → g h b ≡ true) → (h : Here) (bs : List Body) →
    are_so f h bs ≡ true → are_so g h bs ≡ true
so_too f g to h [] is = is
so_too f g to h (b ∷ bs) is =
    let p = and_parts (f h b) (are_so f (behind h b) bs) is in λ i. to h b p.0 i && so_too f g to (behind h b) bs p.1 i

along_too : (P Q : Past → Event → List Body → Type 0) → ((p : Past) (e : Event) (bs : List Body) → P p e bs → Q p e bs) →
    (es : List Event) (p end : Past) → Along P p es end → Along Q p es end
along_too P Q to [] p end a = a
along_too P Q to (e ∷ es) p end a = (a.0, to p e a.0 a.1, along_too P Q to es (next p e a.0) end a.2)

-- what holds of each event gives what follows from it
pub runs_too : (P Q : Past → Event → List Body → Type 0) → ((p : Past) (e : Event) (bs : List Body) → P p e bs → Q p e bs) →
    (st : Start) (es : List Event) (lines : List Line) → Runs P st es lines → Runs Q st es lines
runs_too P Q to st es lines r = (r.0, r.1, along_too P Q to es _ r.0 r.2, r.3, r.4)

-- what stands behind lines
pub behind_block : (ls : List Line) (n : ℕ) (bs : List Body) → map (λ (l : Line). l.body) (drop (length ls) (ls ++ numbered n bs)) ≡ bs
behind_block ls n bs = ap (λ xs. map (λ (l : Line). l.body) xs) (dropped ls) ∙ bodies_of bs
  where
    dropped : (xs : List Line) → drop (length xs) (xs ++ numbered n bs) ≡ numbered n bs
    dropped [] = refl
    dropped (x ∷ xs) = dropped xs

    bodies_of : (cs : List Body) → map (λ (l : Line). l.body) (numbered n cs) ≡ cs
    bodies_of [] = refl
    bodies_of (c ∷ cs) = ap (λ (ds : List Body). c ∷ ds) (bodies_of cs)
