-- A journal with one line more.
use Rattle.std.proofs.Common.{◌≡◌, ℕ, ◌+◌, List, [], ◌∷◌, ◌++◌, length, Bool, Option, Some, None, refl, ◌∙◌, ap, arith}
use Rattle.arj_journal.specs.declared.body.Body.{Body}
use Rattle.arj_journal.specs.declared.body.Line.{Line}
use Rattle.arj_model.specs.Actions.{Act, Placed, acts_from, acts_after, read, put}
use Rattle.arj_model.specs.Refusals.{down_from, down_step, inc_from, inc_step}

pub put-append : {A : Type 0} (n : ℕ) (o : Option A) (xs ys : List (Placed A)) → put n o (xs ++ ys) ≡ put n o xs ++ ys
put-append n None xs ys = refl
put-append n (Some a) xs ys = refl

pub acts-append : (us : List Act) (ls : List Line) (l : Line) → acts_from us (ls ++ l ∷ []) ≡ acts_after (acts_from us ls) l.body
acts-append us [] l = refl
acts-append us (k ∷ ls) l = acts-append (acts_after us k.body) ls l

-- what is read of the journal so far stays, and at most one item comes, stamped with the actions so far
pub read-append : {A : Type 0} (f : List Act → Body → Option A) (us : List Act) (n : ℕ) (ls : List Line) (l : Line) →
    read f us n (ls ++ l ∷ []) ≡ read f us n ls ++ put (n + length ls) (f (acts_from us ls) l.body) []
read-append f us n [] l = ap (λ m. put m (f us l.body) []) (omega arith)
read-append {A} f us n (k ∷ ls) l =
    let e : n + 1 + length ls ≡ n + length (k ∷ ls) = omega arith in
    let ih = read-append f (acts_after us k.body) (n + 1) ls l in
    ap (put n (f us k.body)) (ih ∙ ap (λ m. read f (acts_after us k.body) (n + 1) ls ++ put m (f (acts_from (acts_after us k.body) ls) l.body) []) e)
    ∙ put-append n (f us k.body) (read f (acts_after us k.body) (n + 1) ls) (put (n + length (k ∷ ls)) (f (acts_from us (k ∷ ls)) l.body) [])

pub down-append : (n : ℕ) (d : Bool) (ls : List Line) (l : Line) → down_from n d (ls ++ l ∷ []) ≡ down_step n l.body (down_from n d ls)
down-append n d [] l = refl
down-append n d (k ∷ ls) l = down-append n (down_step n k.body d) ls l

pub inc-append : (n i : ℕ) (ls : List Line) (l : Line) → inc_from n i (ls ++ l ∷ []) ≡ inc_step n l.body (inc_from n i ls)
inc-append n i [] l = refl
inc-append n i (k ∷ ls) l = inc-append n (inc_step n k.body i) ls l
