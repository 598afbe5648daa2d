-- By the lines up to a place the actions at work at a node began there, and only node 1 has naming.
use Rattle.arj_law_parts.proofs.Words
use Words.{◌≡◌, ◌⊎◌, ◌∙◌, ◌==◌, ◌&&◌, ◌||◌, ◌++◌, ℕ, zero, suc, Bool, true, false, cond, List, [], ◌∷◌, refl, sym, ap, subst, nat_tests}
use Words.{arith}
use Words.{inl, inr, ⊎_elim, In, Option, Some, None, is_some, list_any, AllByRecursion, bytes_eq, bytes_eq-Decides, or_right, eqb-true}
use Words.{Body, Line}
use Words.{Header, Uid, Node, Parts, World, Doing, Branch, at_place, slice_get, is_own, branch_of, doing_of, see, name, Naming}
use Words.body
use Rattle.arj_law_runs.proofs.Terms.{Act, Holds, IsKept, IsMemory, IsUp, IsWritten, KnowsUp, act_in, acts, book}
use Rattle.arj_law_runs.proofs.follow.Labeled.{place_there}
use Rattle.arj_law_runs.proofs.journal.{Models.its_acts, Models.named_in, Ties.named_label}
use Rattle.arj_law_runs.proofs.kept.Walked.{same_number}
use Rattle.arj_law_runs.specs.journal.Knows.{IsKnown, KnowsNode}
use Rattle.arj_law_promise.proofs.settling.Stills.{IsRight}
use Rattle.arj_model.specs.Actions.{acts_after, acts_from}
use Rattle.arj_law_cause.proofs.local.Handled.{IsHome}
use Rattle.arj_law_cause.specs.told.Local.{began_at, begins_at}

-- ---- lines and more

pub any_front : {A : Type 0} (f : A → Bool) (xs ys : List A) → list_any f xs ≡ true → list_any f (xs ++ ys) ≡ true
any_front f [] ys is = absurd (cc is)
any_front f (x ∷ xs) ys is = by (f x) is (any_front f xs ys)
  where
    by : (b : Bool) → (b || list_any f xs) ≡ true → (list_any f xs ≡ true → list_any f (xs ++ ys) ≡ true) →
        (b || list_any f (xs ++ ys)) ≡ true
    by true is more = refl
    by false is more = more is

-- who is among the actions began
in_acts : (us : List Act) (ls : List Line) (a : Act) → In a (acts_from us ls) →
    In a us ⊎ (began_at ls a.label (let u = a.uid in u.node) ≡ true)
in_acts us [] a i = inl i
in_acts us (line ∷ ls) a i = ⊎_elim (one line.body)
    (λ new. inr (or_right (begins_at a.label (let u = a.uid in u.node) line.body) (began_at ls a.label (let u = a.uid in u.node)) new))
    (in_acts (acts_after us line.body) ls a i)
  where
    Either : Body → Type 0
    Either b = In a us ⊎ ((begins_at a.label (let u = a.uid in u.node) b || began_at ls a.label (let u = a.uid in u.node)) ≡ true)

    this : (l : List ℕ) (n : ℕ) → l ≡ a.label → n ≡ (let u = a.uid in u.node) →
        ((bytes_eq l a.label && (n == (let u = a.uid in u.node))) || began_at ls a.label (let u = a.uid in u.node)) ≡ true
    this l n same at = λ i. ((bytes_eq-Decides l a.label).1 same i && number n at i) || began_at ls a.label (let u = a.uid in u.node)
      where
        number : (n : ℕ) → n ≡ (let u = a.uid in u.node) → (n == (let u = a.uid in u.node)) ≡ true
        number n at = grind (arith, nat_tests, at)

    one : (b : Body) → In a (acts_after us b) → Either b
    one (body.Began l k u p) (inl same) = inr
        (this (name l) u.node (ap (λ (x : Act). x.label) same) (ap (λ (x : Act). let v = x.uid in v.node) same))
    one (body.Began l k u p) (inr old) = inl old
    one b old = inl old

-- the action of a label began at its node
pub named_began : (ls : List Line) (l : List ℕ) (a : Act) → act_in (acts ls) l ≡ Some a → began_at ls l (let u = a.uid in u.node) ≡ true
named_began ls l a named =
    subst (λ k. began_at ls k (let u = a.uid in u.node) ≡ true) (named_label (acts ls) l a named)
    (⊎_elim (λ none. absurd none) (λ is. is) (in_acts [] ls a (named_in (acts ls) l a named)))

all_places : {A : Type 0} (P : A → Type 0) (xs : List A) → ((j : ℕ) (x : A) → slice_get xs j ≡ Some x → P x) → AllByRecursion P xs
all_places P [] each = tt
all_places P (x ∷ xs) each = (each zero x refl, all_places P xs (λ j y is. each (suc j) y is))

module _ (hd : Header) (w : World) (right : Holds hd IsRight w) (ls : List Line) (front : (more : List Line) × (ls ≡ w.lines ++ more)) where
  kept : IsKept (see right.sent w)
  kept = let r = right.holds in r.0.0.0.0

  written : IsWritten (see right.sent w)
  written = kept.1

  acts_are : (let B = book w.lines in B.acts) ≡ acts w.lines
  acts_are = its_acts w.lines written.right

  module _ (k : ℕ) (n : Node) (there : at_place k w.nodes ≡ Some n) (t : Parts) (live : n.live ≡ Some t) where
    up : KnowsUp (book w.lines) (let d = n.disk in d.intents) t.coord
    up = let s : KnowsNode (book w.lines) k n = written.nodes k n there in s.live t live

    its : (let good = kept.0 in IsUp good.0 right.sent w.labels k (let d = n.disk in d.inc) t)
    its = let good = kept.0 in let place = good.1.places k n there in
        subst (IsMemory good.0 right.sent w.labels k (let d = n.disk in d.inc)) live place.memory

    its_count : Words.length t.coord.doings ≡ Words.length t.coord.tree.branches
    its_count = up.tops.names.count

    here : (j : ℕ) (d : Doing) → slice_get t.coord.doings j ≡ Some d → began_at ls (name d.label) k ≡ true
    here j d is =
        subst (λ xs. began_at xs (name d.label) k ≡ true) (sym front.1)
        (any_front (λ (line : Line). begins_at (name d.label) k line.body) w.lines front.0
        (subst (λ m. began_at w.lines (name d.label) m ≡ true) node
        (named_began w.lines (name d.label) known.act (ap (λ xs. act_in xs (name d.label)) (sym acts_are) ∙ known.named))))
      where
        u : Uid
        u = record { node = t.coord.tree.node; inc = t.coord.tree.inc; num = suc j }

        own : is_own u t.coord.tree ≡ true
        own = λ i. same_number t.coord.tree.node i && same_number t.coord.tree.inc i

        branch : (b : Branch) × (at_place (suc j) t.coord.tree.branches ≡ Some b)
        branch = place_there t.coord.doings t.coord.tree.branches (suc j) d its_count is

        known : IsKnown (book w.lines) u (let b = branch.0 in b.kind) (let b = branch.0 in b.ended) d.label
        known = up.knows.acts u branch.0 d ((λ i. cond (own i) (at_place (suc j) t.coord.tree.branches) None) ∙ branch.1)
            ((λ i. cond (own i) (at_place (suc j) t.coord.doings) None) ∙ is)

        node : (let a = known.act in let v = a.uid in v.node) ≡ k
        node = ap (λ (v : Uid). v.node) known.uid ∙ its.node

    place : is_some t.naming ≡ (k == 1)
    place = let r = right.holds in let z = r.0.0.1 in let p = z.2.1 in let q = p.nodes k n there in q.live t live

    pub home : IsHome ls k t
    home = (
      all_places (λ (d : Doing). began_at ls (name d.label) k ≡ true) t.coord.doings here,
      λ o is. eqb-true k 1 (sym place ∙ ap (λ (z : Option Naming). is_some z) is),
    )
