-- A journal that grows along a walk, and what is known as long as few bindings were made and few labels given.
use Rattle.arj_law_parts.proofs.Words
use Words.{◌≡◌, ◌∙◌, ◌++◌, ℕ, suc, List, [], ◌∷◌, refl, ap, subst, arith, length, ◌≤◌, append_assoc, Body, Line, Disk, Do, Effect, Say}
use Words.{Send, stopped, worked, Parts, numbered, Seen, most_labels}
use Words.body
use Rattle.arj_law_serial.proofs.Terms.{down, posted, said, up, Up, Walks, walks_both, walks_to, HasFewBindings, HasFewLabels, nothing_more}
use Rattle.arj_law_parts.proofs.moves.Together.{walks_where}
use Rattle.arj_law_runs.proofs.calls.WholeRuns.{few_before}

-- ---- a journal that grows

-- there are more lines, and the labels as they are
pub record IsGrown (M N : Seen) : Type 0 where
  pub more : List Line
  pub lines : N.lines ≡ M.lines ++ more
  pub labels : N.labels ≡ M.labels

pub grown_said : (e : ℕ) (bs : List Body) (M N : Seen) → IsGrown M N → IsGrown M (said e bs N)
grown_said e bs M N g = record {
  more = g.more ++ numbered e bs;
  lines = ap (λ ls. ls ++ numbered e bs) g.lines ∙ append_assoc M.lines g.more (numbered e bs);
  labels = g.labels;
}

pub as_it_is : (M : Seen) → IsGrown M M
as_it_is M = record { more = []; lines = nothing_more M.lines; labels = refl }

-- so it is along a walk
grown_walk : (M : Seen) (e k : ℕ) (v : Parts) (outs : List Effect) (d : Disk) (N : Seen) → IsGrown M N →
    Walks (IsGrown M) e k outs (Up (IsGrown M) k v) d N
grown_walk M e k v [] d N g = record { more = g.more; lines = g.lines; labels = g.labels }
grown_walk M e k v (Do w ∷ es) d N g = (
  λ how. grown_said e (body.Halted k ∷ []) M (down k (stopped how w d) N) (record { more = g.more; lines = g.lines; labels = g.labels }),
  grown_walk M e k v es (worked w d) N g,
)
grown_walk M e k v (Say b ∷ es) d N g = grown_walk M e k v es d (said e (b ∷ []) N) (grown_said e (b ∷ []) M N g)
grown_walk M e k v (Send to m ∷ es) d N g = λ more quiet.
    let L : Seen = posted (record { from = k; to = to; message = m }) N in
    grown_walk M e k v es d (said e more L) (grown_said e more M L (record { more = g.more; lines = g.lines; labels = g.labels }))

-- few bindings were made, and few labels given
abbrev pub AreFew : Seen → Type 0
AreFew M = HasFewBindings M.lines × HasFewLabels M

pub few_first : (M N : Seen) → IsGrown M N → AreFew N → AreFew M
few_first M N g few = (few_before M.lines g.more (subst HasFewBindings g.lines few.0), subst (λ ls. length ls ≤ most_labels) g.labels few.1)

-- so it is where so few are, along a walk from where they are
pub few_walk : (P : Seen → Type 0) (M : Seen) (e k : ℕ) (outs : List Effect) (v : Parts) (d : Disk) (N : Seen) → IsGrown M N →
    (AreFew M → Walks P e k outs (Up P k v) d N) → Walks (λ Z. AreFew Z → P Z) e k outs (Up (λ Z. AreFew Z → P Z) k v) d N
few_walk P M e k outs v d N g each =
    let F : Type 0 = AreFew M in
    walks_to (λ Z. IsGrown M Z × (F → P Z)) (λ Z. AreFew Z →
    P Z) e k outs (λ c Z. Up (IsGrown M) k v c Z × (F → Up P k v c Z)) (Up (λ Z. AreFew Z → P Z) k v) d N
    (λ Z h few. h.1 (few_first M Z h.0 few)) (λ c Z h few. h.1 (few_first M (up k c v Z) h.0 few))
    (walks_both (IsGrown M) (λ Z. F → P Z) e k outs (Up (IsGrown M) k v) (λ c Z. F →
    Up P k v c Z) d N (grown_walk M e k v outs d N g) (walks_where F P e k outs (Up P k v) d N each))

-- a new label leaves fewer before it
pub fewer_labels : (a b : ℕ) → b ≡ suc a → b ≤ most_labels → a ≤ most_labels
fewer_labels a b is le = omega (arith, is, le)
