-- The calls of a journal whose lines are right, and the calls of its tops' commits: whose they are.
use Rattle.arj_law_parts.proofs.Words
use Words.{◌≡◌, ℕ, ◌+◌, List, [], ◌∷◌, true, Option, Some, None, refl, sym, ◌∙◌, ap, subst, inl, inr, Body, Line, name, In}
use Rattle.arj_law_serial.proofs.Terms
use Terms.{option_map, Act, Placed, act_in, acts, acts_after, path, put, read, Said, committing_of, committings, said_of, Book, book_from}
use Terms.{is_top, new_book, turned, called, called_of, AreRight, Right, acts_turn, its_acts, named_in, named_label}
use Terms.body
use Rattle.arj_law_serial.proofs.order.Paths.{paths_stay}
use Rattle.arj_model.specs.Calls.{said}

-- ---- whose a call is

-- an item's path is that of an action of the journal
pub record HasMaker (all : List Act) (p : List Act) : Type 0 where
  pub act : Act
  pub there : In act all
  pub path_is : p ≡ path all act.label

-- a path that a label has at some line is one of the journal
maker : (B : Book) (ls : List Line) (l : List ℕ) (a : Act) → AreRight B ls → act_in B.acts l ≡ Some a →
    HasMaker (let V = book_from B ls in V.acts) (path B.acts l)
maker B ls l a right named = let s = paths_stay B ls a right (named_in B.acts l a named) in
    record { act = a; there = s.1; path_is = ap (path B.acts) (sym (named_label B.acts l a named)) ∙ sym s.0 }

-- The same at the line itself: the book after it has its actions.
pub maker_at : (B : Book) (b : Body) (ls : List Line) (l : List ℕ) (a : Act) → AreRight (turned B b) ls → (let V = turned B b in V.acts)
    ≡ B.acts → act_in B.acts l ≡ Some a → HasMaker (let V = book_from (turned B b) ls in V.acts) (path B.acts l)
maker_at B b ls l a right same named = subst (λ xs. HasMaker (let V = book_from (turned B b) ls in V.acts) (path xs l)) same
    (maker (turned B b) ls l a right (ap (λ xs. act_in xs l) same ∙ named))

said_from : (B : Book) (n : ℕ) (ls : List Line) → AreRight B ls → (s : Placed Said) → In s (read said_of B.acts n ls) →
    HasMaker (let V = book_from B ls in V.acts) s.it.path
said_from B n [] right s i = absurd i
said_from B n (l ∷ ls) right s i = by l.body right.0 right.1 i
    (λ j. said_from (turned B l.body) (n + 1) ls right.1 s (subst (λ xs. In s (read said_of xs (n + 1) ls)) (sym (acts_turn B l.body)) j))
  where
    by : (b : Body) → Right B b → AreRight (turned B b) ls → In s
        (put n (said_of B.acts b) (read said_of (acts_after B.acts b) (n + 1) ls)) → (In s (read said_of (acts_after B.acts b) (n + 1) ls) →
        HasMaker (let V = book_from (turned B b) ls in V.acts) s.it.path) → HasMaker (let V = book_from (turned B b) ls in V.acts) s.it.path
    by (body.Ok m x o q) (a, opened, quiet) rest (inl is) ih = subst (λ (z : Placed Said). HasMaker (let V = book_from
        (turned B (body.Ok m x o q)) ls in V.acts) z.it.path) is (maker_at B (body.Ok m x o q) ls (name m) a rest refl opened.named)
    by (body.Ok m x o q) r rest (inr j) ih = ih j
    by b r rest j ih = ih j

-- ---- calls of commits

-- The call of a commit: of a top that began, by its path; and by its number it is one of those that are read.
pub record IsCallOfTop (all : List Act) (numbers : List (Placed ℕ)) (m : Placed (List Act)) : Type 0 where
  pub act : Act
  pub there : In act all
  pub top : is_top act.kind ≡ true
  pub path_is : m.it ≡ path all act.label
  pub number : In (record { at = m.at; it = act.id }) numbers

call_more : (all : List Act) (numbers : List (Placed ℕ)) (n : ℕ) (o : Option ℕ) (m : Placed (List Act)) → IsCallOfTop all numbers m →
    IsCallOfTop all (put n o numbers) m
call_more all numbers n None m c = c
call_more all numbers n (Some k) m c = record { act = c.act; there = c.there; top = c.top; path_is = c.path_is; number = inr c.number }

calls_from : (B : Book) (n : ℕ) (ls : List Line) → AreRight B ls → (m : Placed (List Act)) → In m (read committing_of B.acts n ls) →
    IsCallOfTop (let V = book_from B ls in V.acts) (read called_of B.acts n ls) m
calls_from B n [] right m i = absurd i
calls_from B n (l ∷ ls) right m i =
    by l.body right.0 right.1 i (λ j. subst (λ xs. IsCallOfTop (let V = book_from (turned B l.body) ls in
    V.acts) (read called_of xs (n + 1) ls) m) (acts_turn B l.body) (calls_from (turned B l.body) (n + 1) ls right.1 m
    (subst (λ xs. In m (read committing_of xs (n + 1) ls)) (sym (acts_turn B l.body)) j)))
  where
    by : (b : Body) → Right B b → AreRight (turned B b) ls →
        In m (put n (committing_of B.acts b) (read committing_of (acts_after B.acts b) (n + 1) ls))
        → (In m (read committing_of (acts_after B.acts b) (n + 1) ls) →
        IsCallOfTop (let V = book_from (turned B b) ls in V.acts) (read called_of (acts_after B.acts b) (n + 1) ls) m)
        → IsCallOfTop (let V = book_from (turned B b) ls in
        V.acts) (put n (called_of B.acts b) (read called_of (acts_after B.acts b) (n + 1) ls)) m
    by (body.Committing q) (a, opened, top, quiet, closed) rest (inl is) ih =
        let z = maker_at B (body.Committing q) ls (name q) a rest refl opened.named in
        subst (λ (w : Placed (List Act)). IsCallOfTop (let V = book_from (turned B (body.Committing q)) ls in V.acts)
        (put n (called_of B.acts (body.Committing q)) (read called_of B.acts (n + 1) ls)) w) is (of_it z (found_in opened.named))
      where
        found_in : act_in B.acts (name q) ≡ Some a → put n (option_map (λ (x : Act). x.id) (act_in B.acts (name q)))
            (read called_of B.acts (n + 1) ls) ≡ record { at = n; it = a.id } ∷ read called_of B.acts (n + 1) ls
        found_in named = ap (λ o. put n (option_map (λ (x : Act). x.id) o) (read called_of B.acts (n + 1) ls)) named

        of_it : HasMaker (let V = book_from (turned B (body.Committing q)) ls in V.acts) (path B.acts (name q)) →
            put n (option_map (λ (x : Act). x.id) (act_in B.acts (name q))) (read called_of B.acts (n + 1) ls)
            ≡ record { at = n; it = a.id } ∷ read called_of B.acts (n + 1) ls
            → IsCallOfTop (let V = book_from (turned B (body.Committing q)) ls in V.acts) (put n (called_of B.acts (body.Committing q))
            (read called_of B.acts (n + 1) ls)) (record { at = n; it = path B.acts (name q) })
        of_it z e = let s = paths_stay (turned B (body.Committing q)) ls a rest (named_in B.acts (name q) a opened.named) in record {
          act = a;
          there = s.1;
          top = top;
          path_is = ap (path B.acts) (sym (named_label B.acts (name q) a opened.named)) ∙ sym s.0;
          number = subst (In (record { at = n; it = a.id })) (sym e) (inl refl);
        }
    by (body.Committing q) r rest (inr j) ih = call_more (let V = book_from (turned B (body.Committing q)) ls in
        V.acts) (read called_of B.acts (n + 1) ls) n (called_of B.acts (body.Committing q)) m (ih j)
    by b r rest j ih = ih j

module _ (lines : List Line) (right : AreRight new_book lines) where
  pub said_maker : (s : Placed Said) → In s (said lines) → HasMaker (acts lines) s.it.path
  said_maker s i = subst (λ xs. HasMaker xs s.it.path) (its_acts lines right) (said_from new_book 0 lines right s i)

  pub call_top : (m : Placed (List Act)) → In m (committings lines) → IsCallOfTop (acts lines) (called lines) m
  call_top m i = subst (λ xs. IsCallOfTop xs (called lines) m) (its_acts lines right) (calls_from new_book 0 lines right m i)
