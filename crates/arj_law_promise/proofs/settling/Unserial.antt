-- No line decides a serializing action.
use Rattle.arj_law_parts.proofs.Words
use Words.{◌≡◌, ◌⊎◌, ◌∙◌, List, [], ◌∷◌, true, false, refl, sym, ap, inl, inr, ⊎_elim, Contains, or_cases, uid_is, is_on, uid_eq, In}
use Words.{in_from, Body, Line, Uid, name, Seen, is_serial}
use Words.body
use Words.kind
use Rattle.arj_law_promise.proofs.Terms
use Terms.{Act, Action, act_of, Book, book, book_from, is_decided, is_top, new_book, turned, IsAlikeOf, AreRight, Right}
use Terms.{named_is, named_in}
use Rattle.arj_law_runs.proofs.journal
use journal.{Books.later_turn, Books.never}
use journal.Closed.{Stands, one_act, stands_lines, stands_new, stands_turn}
use Rattle.arj_law_runs.specs.journal.Paths.{AreAlike}

-- who committed is no serializing action, and whose record was found had its commit called
record ArePlain (B : Book) : Type 0 where
  committed : (a : Act) → In a B.acts → is_on B.committed a.uid ≡ true → is_serial a.kind ≡ false
  found : (u : Uid) → is_on B.found u ≡ true → is_on B.called u ≡ true

on_first : (w u : Uid) (us : List Uid) → is_on (w ∷ us) u ≡ true → (w ≡ u) ⊎ (is_on us u ≡ true)
on_first w u us on = ⊎_elim (λ same. inl (uid_is w u same)) (λ old. inr old) (or_cases (uid_eq w u) (is_on us u) on)

plain_turn : (B : Book) (b : Body) → Right B b → Stands B → ArePlain B → ArePlain (turned B b)
plain_turn B (body.Began l h w p) r s q = record {
  committed = λ a i on. ⊎_elim (λ same. absurd
      (never (let z = s.sane in z.committed w (ap (λ (x : Act). is_on B.committed x.uid) same ∙ on)) r.1)) (λ old. q.committed a old on) i;
  found = q.found;
}
plain_turn B (body.Committed l) r s q = let a = r.0 in let o = r.1 in record {
  committed = λ x i on. ⊎_elim
      (λ same. let one : a ≡ x = one_act B.acts (let z = s.sound in z.distinct) a x (named_in B.acts (name l) a o.named) i same in
      ap (λ (y : Act). is_serial y.kind) (sym one) ∙ r.2)
      (λ old. q.committed x i old)
      (on_first a.uid x.uid B.committed (ap (λ us. is_on us x.uid) (sym (named_is B.acts l B.committed a o.named)) ∙ on));
  found = q.found;
}
plain_turn B (body.Committing l) r s q =
    record { committed = q.committed; found = λ u on. let t = later_turn B (body.Committing l) in t.called u (q.found u on) }
plain_turn B (body.Recovered n w) r s q = record {
  committed = q.committed;
  found = λ u on. ⊎_elim (λ same. ap (is_on B.called) (sym same) ∙ r.called) (λ old. q.found u old) (on_first w u B.found on);
}
plain_turn B (body.Aborted l c) r s q = record { committed = q.committed; found = q.found }
plain_turn B (body.Ended l) r s q = record { committed = q.committed; found = q.found }
plain_turn B (body.Ok l x o a) r s q = record { committed = q.committed; found = q.found }
plain_turn B (body.Includes l x n) r s q = record { committed = q.committed; found = q.found }
plain_turn B b r s q = q

plain_lines : (B : Book) (ls : List Line) → AreRight B ls → Stands B → ArePlain B → ArePlain (book_from B ls)
plain_lines B [] right s q = q
plain_lines B (l ∷ ls) right s q =
    plain_lines (turned B l.body) ls right.1 (stands_turn B l.body right.0 s) (plain_turn B l.body right.0 s q)

-- the act of an action
alike_at : (begun : List Action) (acts : List Act) → AreAlike begun acts → (a : Action) → In a begun →
    (x : Act) × In x acts × (x.uid ≡ act_of a) × (x.kind ≡ a.kind)
alike_at [] [] alike a i = absurd i
alike_at (b ∷ begun) (x ∷ acts) alike a (inl same) = (x, inl refl, alike.0 ∙ ap act_of same, alike.1 ∙ ap (λ (z : Action). z.kind) same)
alike_at (b ∷ begun) (x ∷ acts) alike a (inr i) = let r = alike_at begun acts alike.3 a i in (r.0, inr r.1, r.2, r.3)
alike_at [] (x ∷ acts) alike a i = absurd i
alike_at (b ∷ begun) [] alike a i = absurd alike

pub serial_undecided : (begun : List Action) (M : Seen) → IsAlikeOf begun M → (a : Action) → Contains begun a → a.kind ≡ kind.Serial →
    is_decided (book M.lines) (act_of a) ≡ true → ⊥
serial_undecided begun M alike a there serial decided =
    let right = (let w = alike.2 in w.right) in
    let s = stands_lines new_book M.lines right stands_new in
    let q = plain_lines new_book M.lines right stands_new (record { committed = λ x i on. absurd i; found = λ u on. absurd (cc on) }) in
    let x = alike_at begun (let B = book M.lines in B.acts) alike.1 a (in_from a begun there) in
    let is_it : is_serial (let y = x.0 in y.kind) ≡ true = ap is_serial (x.3 ∙ serial) in
    let no_top : is_top (let y = x.0 in y.kind) ≡ false = ap is_top (x.3 ∙ serial) in
    ⊎_elim
    (λ on. never is_it (q.committed x.0 x.1 (ap (is_on (let B = book M.lines in B.committed)) x.2 ∙ on)))
    (λ on. never (let z = s.closes in z.calls x.0 x.1 (ap (is_on (let B = book M.lines in B.called)) x.2 ∙ q.found (act_of a) on)) no_top)
    (or_cases (is_on (let B = book M.lines in B.committed) (act_of a)) (is_on (let B = book M.lines in B.found) (act_of a)) decided)
