-- Who is decided began, and each action has its node.
use Rattle.arj_law_parts.proofs.Words
use Words.{◌≡◌, ◌≤◌, arith, ℕ, List, [], ◌∷◌, ◌++◌, Bool, true, false, cond, length, Option, Some, None, is_some, refl, sym, subst, inl}
use Words.{inr, ⊎_elim, AllByRecursion, is_at, Line, In, in_from, Parts, at_place, Header, Label, label_cmp, Labelled, World, see}
use Rattle.arj_law_runs.proofs.Terms
use Terms.{Act, acts, acts_after, acts_from, IsCounted, label_at, Keeping, Book, book, IsGiven, IsKept, IsWritten, Remembers}
use Rattle.arj_law_runs.proofs.{calls.Reaching.kept_holds, journal.Models.its_acts, journal.Runs.lines_keep}
use Rattle.arj_law_runs.specs.journal.Whose.{HaveNodes}

-- ---- a journal

-- what began is there behind its line, and behind more
pub acts_more : (acts_now : List Act) (before more : List Line) →
    acts_from acts_now (before ++ more) ≡ acts_from (acts_from acts_now before) more
acts_more xs [] more = refl
acts_more xs (l ∷ ls) more = acts_more (acts_after xs l.body) ls more

-- ---- nodes

pub all_in : {A : Type 0} (P : A → Type 0) (xs : List A) → AllByRecursion P xs → (x : A) → In x xs → P x
all_in P [] all x i = absurd i
all_in P (y ∷ ys) all x (inl same) = subst P same all.0
all_in P (y ∷ ys) all x (inr i) = all_in P ys all.1 x i

-- what a label stands for is given
given_in : (l : Label) (labels : List (Label × Labelled)) (g : Labelled) → label_at l labels ≡ Some g → (q : Label) × In (q, g) labels
given_in l [] g is = absurd (cc is)
given_in l (x ∷ labels) g is = by (is_at (label_cmp l) x.0) is (given_in l labels g)
  where
    by : (b : Bool) → cond b (Some x.1) (label_at l labels) ≡ Some g → (label_at l labels ≡ Some g → (q : Label) × In (q, g) labels) →
        (q : Label) × In (q, g) (x ∷ labels)
    by true e ih = (x.0, inl (let k : ◌≡◌ {A = Option Labelled} (Some x.1) (Some g) = e in λ i. (x.0, (let s : x.1 ≡ g = cc in s) i)))
    by false e ih = let r = ih e in (r.0, inr r.1)

there_is : {A : Type 0} (o : Option A) → is_some o ≡ true → (x : A) × (o ≡ Some x)
there_is None is = absurd (cc is)
there_is (Some x) is = (x, refl)

pub kept_nodes : (hd : Header) (w : World) → Keeping hd w → HaveNodes w
kept_nodes hd w keeping a there =
    let h = kept_holds hd w keeping IsKept (lines_keep hd) in
    let k = h.holds in
    let written : IsWritten (see h.sent w) = k.1 in
    let world = h.stands in
    let B = book w.lines in
    let i : In a B.acts = subst (In a) (sym (its_acts w.lines written.right)) (in_from a (acts w.lines) there) in
    let g = all_in (IsGiven w.labels) B.acts written.labels a i in
    let q = given_in g.0 w.labels g.1 g.3 in
    let some = all_in (λ (x : Label × Labelled). is_some (at_place (let y = x.1 in y.node) w.nodes) ≡ true) w.labels world.labels (q.0, g.1)
    q.1 in
    let n = there_is (at_place (let y = g.1 in y.node) w.nodes) some in
    let at : at_place (let u = a.uid in u.node) w.nodes ≡ Some n.0 = subst (λ j. at_place j w.nodes ≡ Some n.0) g.4 n.1 in
    let o = written.nodes (let u = a.uid in u.node) n.0 at in
    record {
      node = n.0;
      there = at;
      present = by B (let u = a.uid in u.node) (let d = (let m = n.0 in m.disk) in d.inc) (let m = n.0 in m.live) i o.counts refl;
    }
  where
    counted : (k inc count : ℕ) (xs : List Act) → AllByRecursion (λ (x : Act). IsCounted k inc count x.uid) xs → In a xs →
        (let u = a.uid in u.node) ≡ k → (let u = a.uid in u.inc) ≤ inc
    counted k inc count xs all i at = ⊎_elim (λ lower. omega (arith, lower)) (λ here. omega (arith, here.0))
        (all_in (λ (x : Act). IsCounted k inc count x.uid) xs all a i at)

    by : (B : Book) (k inc : ℕ) (o : Option Parts) → In a B.acts → Remembers B k inc o → k ≡ (let u = a.uid in u.node) →
        (let u = a.uid in u.inc) ≤ inc
    by B k inc None i c at = counted k inc c.0 B.acts c.1 i (sym at)
    by B k inc (Some t) i c at = counted k inc (length t.coord.tree.branches) B.acts c i (sym at)
