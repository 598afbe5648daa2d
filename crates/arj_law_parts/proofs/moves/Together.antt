-- Relations together: where a node's effects are walked through with each of them, they are with all.
use Rattle.arj_law_parts.proofs.Words.{ℕ, List, [], ◌∷◌, Disk, Effect, Say, Send, Do, worked, Seen}
use Rattle.arj_law_parts.proofs.Terms.{said, posted, Walks}
use Rattle.arj_law_parts.proofs.moves.Flat.{post}
use Rattle.arj_law_parts.specs.moves.Moments as moments
use Rattle.arj_law_parts.specs.moves.Moments.{Moment}
use Rattle.arj_law_parts.specs.moves.With.{WalksWith}

-- two relations
pub walks_both : (P Q : Seen → Type 0) (e k : ℕ) (es : List Effect) (f g : Disk → Seen → Type 0) (d : Disk) (M : Seen) →
    Walks P e k es f d M → Walks Q e k es g d M → Walks (λ N. P N × Q N) e k es (λ c N. f c N × g c N) d M
walks_both P Q e k [] f g d M a b = (a, b)
walks_both P Q e k (Do w ∷ es) f g d M a b = (λ how. (a.0 how, b.0 how), walks_both P Q e k es f g (worked w d) M a.1 b.1)
walks_both P Q e k (Say l ∷ es) f g d M a b = walks_both P Q e k es f g d (said e (l ∷ []) M) a b
walks_both P Q e k (Send to m ∷ es) f g d M a b = λ more quiet.
    walks_both P Q e k es f g d (said e more (posted (record { from = k; to = to; message = m }) M)) (a more quiet) (b more quiet)

-- a weaker one
pub walks_to : (P Q : Seen → Type 0) (e k : ℕ) (es : List Effect) (f g : Disk → Seen → Type 0) (d : Disk) (M : Seen) →
    ((N : Seen) → P N → Q N) → ((c : Disk) (N : Seen) → f c N → g c N) → Walks P e k es f d M → Walks Q e k es g d M
walks_to P Q e k [] f g d M to end a = end d M a
walks_to P Q e k (Do w ∷ es) f g d M to end a = (λ how. to _ (a.0 how), walks_to P Q e k es f g (worked w d) M to end a.1)
walks_to P Q e k (Say l ∷ es) f g d M to end a = walks_to P Q e k es f g d (said e (l ∷ []) M) to end a
walks_to P Q e k (Send to_node m ∷ es) f g d M to end a =
    λ more quiet. walks_to P Q e k es f g d (said e more (posted (record { from = k; to = to_node; message = m }) M)) to end (a more quiet)

-- one for each of many
pub walks_each : {A : Type 0} (P : A → Seen → Type 0) (e k : ℕ) (es : List Effect) (f : A → Disk → Seen → Type 0) (d : Disk) (M : Seen) →
    ((x : A) → Walks (P x) e k es (f x) d M) → Walks (λ N. (x : A) → P x N) e k es (λ c N. (x : A) → f x c N) d M
walks_each P e k [] f d M each = each
walks_each P e k (Do w ∷ es) f d M each = (λ how x. (each x).0 how, walks_each P e k es f (worked w d) M (λ x. (each x).1))
walks_each P e k (Say l ∷ es) f d M each = walks_each P e k es f d (said e (l ∷ []) M) each
walks_each P e k (Send to m ∷ es) f d M each =
    λ more quiet. walks_each P e k es f d (said e more (posted (record { from = k; to = to; message = m }) M)) (λ x. each x more quiet)

-- one that holds on a condition which isn't about what is seen
pub walks_where : (A : Type 0) (P : Seen → Type 0) (e k : ℕ) (es : List Effect) (f : Disk → Seen → Type 0) (d : Disk) (M : Seen) →
    (A → Walks P e k es f d M) → Walks (λ N. A → P N) e k es (λ c N. A → f c N) d M
walks_where A P e k es f d M each = walks_each {A = A} (λ x. P) e k es (λ x. f) d M each

-- two relations with a history
pub with_both : (P Q : Moment → Type 0) (k : ℕ) (es : List Effect) (f g : Disk → Moment → Type 0) (d : Disk) (M : Moment) →
    WalksWith P k es f d M → WalksWith Q k es g d M → WalksWith (λ N. P N × Q N) k es (λ c N. f c N × g c N) d M
with_both P Q k [] f g d M a b = (a, b)
with_both P Q k (Do w ∷ es) f g d M a b = (λ how. (a.0 how, b.0 how), with_both P Q k es f g (worked w d) M a.1 b.1)
with_both P Q k (Say l ∷ es) f g d M a b = with_both P Q k es f g d (moments.said (l ∷ []) M) a b
with_both P Q k (Send to m ∷ es) f g d M a b = with_both P Q k es f g d (moments.sent (post k to m) M) a b
