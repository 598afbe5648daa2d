-- The book of a journal, line by line: what it keeps, what other nodes see of it, and that it is sane.
use Rattle.arj_law_parts.proofs.Words
use Words.{◌≡◌, ◌≢◌, ◌⊎◌, ◌||◌, arith, ℕ, suc, Contains, List, [], ◌∷◌, ◌++◌, Bool, true, false, cond, Option, Some, None, refl, sym, ◌∙◌}
use Words.{ap, subst, inl, inr, ⊎_elim, AllByRecursion, cons_option, list_all, bytes_eq, and_parts, or_parts, bytes_eq-Decides, uid_is}
use Words.{uid_other, uid_same, is_on, uid_eq, In, in_find, in_from, in_to, Uid, Body, Label, Line, name, Labelled, numbered}
use Words.body
use Rattle.arj_law_runs.proofs.Terms
use Terms.{option_map, Act, act_in, IsCounted, AreQuiet, Access, Book, book_from, is_decided, is_over, new_book, turned, with_access}
use Terms.{with_named, Counts, IsAbout, IsGiven, AreRight, IsOpen, IsOpenPlain, Right, has_act}
use Rattle.arj_law_parts.specs.moves.Seen.{is_quiet_line}

pub never : {P : Type 0} {b : Bool} → b ≡ true → b ≡ false → P
never holds fails = let no_way : true ≡ false = sym holds ∙ fails in absurd (cc no_way)

-- ---- lines behind one another

pub book_more : (B : Book) (ls ks : List Line) → book_from B (ls ++ ks) ≡ book_from (book_from B ls) ks
book_more B [] ks = refl
book_more B (l ∷ ls) ks = book_more (turned B l.body) ls ks

pub right_more : (B : Book) (ls ks : List Line) → AreRight B ls → AreRight (book_from B ls) ks → AreRight B (ls ++ ks)
right_more B [] ks a b = b
right_more B (l ∷ ls) ks a b = (a.0, right_more (turned B l.body) ls ks a.1 b)

-- lines at which no view looks
quiet_turn : (B : Book) (b : Body) → is_quiet_line b ≡ true → turned B b ≡ B
quiet_turn B (body.Began l k u p) is = absurd (cc is)
quiet_turn B (body.Committing l) is = absurd (cc is)
quiet_turn B (body.Committed l) is = absurd (cc is)
quiet_turn B (body.Aborted l c) is = absurd (cc is)
quiet_turn B (body.Ended l) is = absurd (cc is)
quiet_turn B (body.Recovered n u) is = absurd (cc is)
quiet_turn B (body.Ok l x o r) is = absurd (cc is)
quiet_turn B (body.Includes l x n) is = absurd (cc is)
quiet_turn B b is = refl

-- an open action is one, whether or not it is serializing
pub is_open : (B : Book) (l : Label) (a : Act) → IsOpenPlain B l a → IsOpen B l a
is_open B l a o = record { named = o.named; unended = o.unended; unfound = o.unfound }

quiet_right : (B : Book) (b : Body) → is_quiet_line b ≡ true → Right B b
quiet_right B (body.Began l k u p) is = absurd (cc is)
quiet_right B (body.Committing l) is = absurd (cc is)
quiet_right B (body.Committed l) is = absurd (cc is)
quiet_right B (body.Aborted l c) is = absurd (cc is)
quiet_right B (body.Ended l) is = absurd (cc is)
quiet_right B (body.Recovered n u) is = absurd (cc is)
quiet_right B (body.Ok l x o r) is = absurd (cc is)
quiet_right B (body.Includes l x n) is = absurd (cc is)
quiet_right B (body.Excluded l x n) is = absurd (cc is)
quiet_right B (body.Conflict l h m n) is = absurd (cc is)
quiet_right B (body.Lost l n) is = absurd (cc is)
quiet_right B (body.Changed l n d) is = absurd (cc is)
quiet_right B (body.GaveUp l n) is = absurd (cc is)
quiet_right B (body.Told n u e p) is = absurd (cc is)
quiet_right B (body.Done n u r e) is = absurd (cc is)
quiet_right B b is = tt

pub quiet_book : (B : Book) (e : ℕ) (bs : List Body) → AreQuiet bs → book_from B (numbered e bs) ≡ B
quiet_book B e [] quiet = refl
quiet_book B e (b ∷ bs) quiet =
    let q = and_parts (is_quiet_line b) (list_all is_quiet_line bs) quiet in
    ap (λ X. book_from X (numbered e bs)) (quiet_turn B b q.0) ∙ quiet_book B e bs q.1

pub quiet_lines : (B : Book) (e : ℕ) (bs : List Body) → AreQuiet bs → AreRight B (numbered e bs)
quiet_lines B e [] quiet = tt
quiet_lines B e (b ∷ bs) quiet =
    let q = and_parts (is_quiet_line b) (list_all is_quiet_line bs) quiet in
    (quiet_right B b q.0, subst (λ X. AreRight X (numbered e bs)) (sym (quiet_turn B b q.0)) (quiet_lines B e bs q.1))

-- ---- what stays

-- what the first book has the second has
pub record Later (B V : Book) : Type 0 where
  pub called : (u : Uid) → is_on B.called u ≡ true → is_on V.called u ≡ true
  pub committed : (u : Uid) → is_on B.committed u ≡ true → is_on V.committed u ≡ true
  pub aborted : (u : Uid) → is_on B.aborted u ≡ true → is_on V.aborted u ≡ true
  pub found : (u : Uid) → is_on B.found u ≡ true → is_on V.found u ≡ true
  pub acts : (j inc count : ℕ) → Counts j inc count V → Counts j inc count B
  pub given : (labels : List (Label × Labelled)) → AllByRecursion (IsGiven labels) V.acts → AllByRecursion (IsGiven labels) B.acts

pub later_same : (B : Book) → Later B B
later_same B = record {
  called = λ u on. on;
  committed = λ u on. on;
  aborted = λ u on. on;
  found = λ u on. on;
  acts = λ j inc count all. all;
  given = λ labels all. all;
}

pub later_on : (B C V : Book) → Later B C → Later C V → Later B V
later_on B C V a b = record {
  called = λ u on. b.called u (a.called u on);
  committed = λ u on. b.committed u (a.committed u on);
  aborted = λ u on. b.aborted u (a.aborted u on);
  found = λ u on. b.found u (a.found u on);
  acts = λ j inc count all. a.acts j inc count (b.acts j inc count all);
  given = λ labels all. a.given labels (b.given labels all);
}

on_behind : (o : Option Uid) (us : List Uid) (u : Uid) → is_on us u ≡ true → is_on (cons_option o us) u ≡ true
on_behind None us u on = on
on_behind (Some w) us u on = by (uid_eq w u)
  where
    by : (b : Bool) → (b || is_on us u) ≡ true
    by true = refl
    by false = on

pub later_turn : (B : Book) (b : Body) → Later B (turned B b)
later_turn B (body.Began l k u p) = record {
  called = λ u on. on;
  committed = λ u on. on;
  aborted = λ u on. on;
  found = λ u on. on;
  acts = λ j inc count all. all.1;
  given = λ labels all. all.1;
}
later_turn B (body.Committing l) = let s = later_same B in record {
  called = λ u on. on_behind _ B.called u on;
  committed = s.committed;
  aborted = s.aborted;
  found = s.found;
  acts = s.acts;
  given = s.given;
}
later_turn B (body.Committed l) = let s = later_same B in record {
  called = s.called;
  committed = λ u on. on_behind _ B.committed u on;
  aborted = s.aborted;
  found = s.found;
  acts = s.acts;
  given = s.given;
}
later_turn B (body.Aborted l c) = let s = later_same B in record {
  called = s.called;
  committed = s.committed;
  aborted = λ u on. on_behind _ B.aborted u on;
  found = s.found;
  acts = s.acts;
  given = s.given;
}
later_turn B (body.Ended l) = let s = later_same B in
    record { called = s.called; committed = s.committed; aborted = s.aborted; found = s.found; acts = s.acts; given = s.given }
later_turn B (body.Recovered n w) = let s = later_same B in record {
  called = s.called;
  committed = s.committed;
  aborted = s.aborted;
  found = λ u on. on_behind (Some w) B.found u on;
  acts = s.acts;
  given = s.given;
}
later_turn B (body.Ok l x o r) = let s = later_same B in
    record { called = s.called; committed = s.committed; aborted = s.aborted; found = s.found; acts = s.acts; given = s.given }
later_turn B (body.Includes l x n) = let s = later_same B in
    record { called = s.called; committed = s.committed; aborted = s.aborted; found = s.found; acts = s.acts; given = s.given }
later_turn B b = later_same B

pub later_from : (B : Book) (ls : List Line) → Later B (book_from B ls)
later_from B [] = later_same B
later_from B (l ∷ ls) =
    later_on B (turned B l.body) (book_from (turned B l.body) ls) (later_turn B l.body) (later_from (turned B l.body) ls)

or_left : (a b : Bool) → a ≡ true → (a || b) ≡ true
or_left a b is = ap (λ x. x || b) is

or_right : (a b : Bool) → b ≡ true → (a || b) ≡ true
or_right true b is = refl
or_right false b is = is

pub over_by_commit : (B : Book) (u : Uid) → is_on B.committed u ≡ true → is_over B u ≡ true
over_by_commit B u on = or_left (is_on B.committed u) (is_on B.aborted u || is_on B.ended u) on

pub over_by_abort : (B : Book) (u : Uid) → is_on B.aborted u ≡ true → is_over B u ≡ true
over_by_abort B u on =
    or_right (is_on B.committed u) (is_on B.aborted u || is_on B.ended u) (or_left (is_on B.aborted u) (is_on B.ended u) on)

pub over_by_end : (B : Book) (u : Uid) → is_on B.ended u ≡ true → is_over B u ≡ true
over_by_end B u on =
    or_right (is_on B.committed u) (is_on B.aborted u || is_on B.ended u) (or_right (is_on B.aborted u) (is_on B.ended u) on)

-- one of two is so
pub or_which : (a b : Bool) → (a || b) ≡ true → (a ≡ true) ⊎ (b ≡ true)
or_which true b is = inl refl
or_which false b is = inr is

pub committed_decided : (B : Book) (u : Uid) → is_on B.committed u ≡ true → is_decided B u ≡ true
committed_decided B u on = or_left (is_on B.committed u) (is_on B.found u) on

pub found_decided : (B : Book) (u : Uid) → is_on B.found u ≡ true → is_decided B u ≡ true
found_decided B u on = or_right (is_on B.committed u) (is_on B.found u) on

pub decided_later : (B V : Book) → Later B V → (u : Uid) → is_decided B u ≡ true → is_decided V u ≡ true
decided_later B V l u is = ⊎_elim (λ on. committed_decided V u (l.committed u on)) (λ on. found_decided V u (l.found u on))
    (or_which (is_on B.committed u) (is_on B.found u) is)

-- ---- what a line about one node's actions leaves of the others

-- The labels of the first book are those of the second, and of actions of other nodes than this one both say the same.
pub record Apart (k : ℕ) (B V : Book) : Type 0 where
  pub acts : (l : List ℕ) (a : Act) → act_in B.acts l ≡ Some a → act_in V.acts l ≡ Some a
  pub called : (u : Uid) → (u.node ≡ k → ⊥) → is_on V.called u ≡ is_on B.called u
  pub committed : (u : Uid) → (u.node ≡ k → ⊥) → is_on V.committed u ≡ is_on B.committed u
  pub aborted : (u : Uid) → (u.node ≡ k → ⊥) → is_on V.aborted u ≡ is_on B.aborted u
  pub ended : (u : Uid) → (u.node ≡ k → ⊥) → is_on V.ended u ≡ is_on B.ended u
  pub found : (u : Uid) → (u.node ≡ k → ⊥) → is_on V.found u ≡ is_on B.found u
  pub counts : (j inc count : ℕ) → (j ≡ k → ⊥) → Counts j inc count B → Counts j inc count V

apart_same : (k : ℕ) (B : Book) → Apart k B B
apart_same k B = record {
  acts = λ l a is. is;
  called = λ u o. refl;
  committed = λ u o. refl;
  aborted = λ u o. refl;
  ended = λ u o. refl;
  found = λ u o. refl;
  counts = λ j inc count o all. all;
}

-- these with the action of a label
pub named_is : (acts : List Act) (l : Label) (us : List Uid) (a : Act) → act_in acts (name l) ≡ Some a → with_named acts l us ≡ a.uid ∷ us
named_is acts l us a is = ap (λ o. cons_option (option_map (λ (x : Act). x.uid) o) us) is

pub on_other : (w u : Uid) (us : List Uid) → w ≢ u → is_on (w ∷ us) u ≡ is_on us u
on_other w u us other = ap (λ b. b || is_on us u) (uid_other w u other)

pub on_here : (u : Uid) (us : List Uid) → is_on (u ∷ us) u ≡ true
on_here u us = ap (λ b. b || is_on us u) (uid_same u)

named_other : (k : ℕ) (acts : List Act) (l : Label) (us : List Uid) (a : Act) → act_in acts (name l) ≡ Some a → a.uid.node ≡ k → (u : Uid) →
    (u.node ≡ k → ⊥) → is_on (with_named acts l us) u ≡ is_on us u
named_other k acts l us a is at u other =
    ap (λ ws. is_on ws u) (named_is acts l us a is) ∙ on_other a.uid u us (λ same. other (ap (λ (w : Uid). w.node) (sym same) ∙ at))

-- a label that is new is none of those that stand for something
pub still_named : (acts : List Act) (new : Act) → act_in acts new.label ≡ None → (l : List ℕ) (a : Act) → act_in acts l ≡ Some a →
    act_in (new ∷ acts) l ≡ Some a
still_named acts new none l a is = by (bytes_eq new.label l) refl
  where
    by : (b : Bool) → bytes_eq new.label l ≡ b → cond b (Some new) (act_in acts l) ≡ Some a
    by true same = let no_way : ◌≡◌ {A = Option Act} None (Some a) = sym none ∙ ap (act_in acts) ((bytes_eq-Decides new.label l).0 same)
        ∙ is in absurd (cc no_way)
    by false other = is

elsewhere : (j k inc count : ℕ) (u : Uid) → u.node ≡ k → (j ≡ k → ⊥) → IsCounted j inc count u
elsewhere j k inc count u at other = λ here. absurd (other (sym here ∙ at))

pub apart_turn : (k : ℕ) (B : Book) (b : Body) → Right B b → IsAbout k B b → Apart k B (turned B b)
apart_turn k B (body.Began l h u p) right at = let s = apart_same k B in record {
  acts = λ q a is. still_named B.acts (record { id = _; label = name l; kind = h; uid = u; parent = option_map name p }) right.0 q a is;
  called = s.called;
  committed = s.committed;
  aborted = s.aborted;
  ended = s.ended;
  found = s.found;
  counts = λ j inc count other all. (elsewhere j k inc count u at other, all);
}
apart_turn k B (body.Committing l) right at = let s = apart_same k B in let r = right.1 in record {
  acts = s.acts;
  called = named_other k B.acts l B.called right.0 r.named (at right.0 r.named);
  committed = s.committed;
  aborted = s.aborted;
  ended = s.ended;
  found = s.found;
  counts = s.counts;
}
apart_turn k B (body.Committed l) right at = let s = apart_same k B in let r = right.1 in record {
  acts = s.acts;
  called = s.called;
  committed = named_other k B.acts l B.committed right.0 r.named (at right.0 r.named);
  aborted = s.aborted;
  ended = s.ended;
  found = s.found;
  counts = s.counts;
}
apart_turn k B (body.Aborted l c) right at = let s = apart_same k B in let r = right.1 in record {
  acts = s.acts;
  called = s.called;
  committed = s.committed;
  aborted = named_other k B.acts l B.aborted right.0 r.named (at right.0 r.named);
  ended = s.ended;
  found = s.found;
  counts = s.counts;
}
apart_turn k B (body.Ended l) right at = let s = apart_same k B in let r = right.1 in record {
  acts = s.acts;
  called = s.called;
  committed = s.committed;
  aborted = s.aborted;
  ended = named_other k B.acts l B.ended right.0 r.named (at right.0 r.named);
  found = s.found;
  counts = s.counts;
}
apart_turn k B (body.Recovered n w) right at = let s = apart_same k B in record {
  acts = s.acts;
  called = s.called;
  committed = s.committed;
  aborted = s.aborted;
  ended = s.ended;
  found = λ u other. on_other w u B.found (λ same. other (ap (λ (x : Uid). x.node) (sym same) ∙ at));
  counts = s.counts;
}
apart_turn k B (body.Ok l x o r) right at = let s = apart_same k B in record {
  acts = s.acts;
  called = s.called;
  committed = s.committed;
  aborted = s.aborted;
  ended = s.ended;
  found = s.found;
  counts = s.counts;
}
apart_turn k B (body.Includes l x n) right at = let s = apart_same k B in record {
  acts = s.acts;
  called = s.called;
  committed = s.committed;
  aborted = s.aborted;
  ended = s.ended;
  found = s.found;
  counts = s.counts;
}
apart_turn k B b right at = apart_same k B

-- ---- a sane book

-- Who is decided wasn't aborted, and the book speaks of actions that began.
pub record Sane (B : Book) : Type 0 where
  pub kept : (u : Uid) → is_decided B u ≡ true → is_on B.aborted u ≡ false
  pub called : (u : Uid) → is_on B.called u ≡ true → has_act B.acts u ≡ true
  pub committed : (u : Uid) → is_on B.committed u ≡ true → has_act B.acts u ≡ true
  pub aborted : (u : Uid) → is_on B.aborted u ≡ true → has_act B.acts u ≡ true
  pub ended : (u : Uid) → is_on B.ended u ≡ true → has_act B.acts u ≡ true
  pub found : (u : Uid) → is_on B.found u ≡ true → has_act B.acts u ≡ true
  pub acted : (a : Access) → Contains B.accesses a → Contains B.acts a.act

named_there : (acts : List Act) (l : List ℕ) (a : Act) → act_in acts l ≡ Some a → has_act acts a.uid ≡ true
named_there [] l a is = absurd (cc is)
named_there (x ∷ acts) l a is = by (λ f. named_there acts l a f) (bytes_eq x.label l) is
  where
    by : (act_in acts l ≡ Some a → has_act acts a.uid ≡ true) → (b : Bool) → cond b (Some x) (act_in acts l) ≡ Some a →
        has_act (x ∷ acts) a.uid ≡ true
    by ih true e = let same : x ≡ a = cc e in
        or_left (uid_eq x.uid a.uid) (has_act acts a.uid) (ap (λ (y : Act). uid_eq y.uid a.uid) same ∙ uid_same a.uid)
    by ih false e = or_right (uid_eq x.uid a.uid) (has_act acts a.uid) (ih e)

-- who is among these with one more is that one, or was among them
on_cases : (w u : Uid) (us : List Uid) → is_on (w ∷ us) u ≡ true → (w ≡ u) ⊎ (is_on us u ≡ true)
on_cases w u us on = ⊎_elim (λ same. inl (uid_is w u same)) (λ old. inr old) (or_which (uid_eq w u) (is_on us u) on)

named_known : (acts : List Act) (l : Label) (us : List Uid) (a : Act) → act_in acts (name l) ≡ Some a →
    ((u : Uid) → is_on us u ≡ true → has_act acts u ≡ true) → (u : Uid) → is_on (with_named acts l us) u ≡ true → has_act acts u ≡ true
named_known acts l us a is old u on = ⊎_elim (λ same. subst (λ w. has_act acts w ≡ true) same (named_there acts (name l) a is))
    (λ was. old u was) (on_cases a.uid u us (ap (λ ws. is_on ws u) (sym (named_is acts l us a is)) ∙ on))

-- an open action isn't decided, nor aborted
pub open_is : (B : Book) (u : Uid) → is_over B u ≡ false →
    (is_on B.committed u ≡ false) × (is_on B.aborted u ≡ false) × (is_on B.ended u ≡ false)
open_is B u is =
    let a = or_parts (is_on B.committed u) (is_on B.aborted u || is_on B.ended u) is in
    let b = or_parts (is_on B.aborted u) (is_on B.ended u) a.1 in
    (a.0, b.0, b.1)

-- an access more is by an action that began
acted_more : (acts : List Act) (accesses : List Access) (o : Option Act) (x : ℕ) (s : Option ℕ) → ((a : Act) → o ≡ Some a → In a acts) →
    ((a : Access) → Contains accesses a → Contains acts a.act) → (a : Access) → Contains (with_access o x s accesses) a →
    Contains acts a.act
acted_more acts accesses None x s began old a there = old a there
acted_more acts accesses (Some b) x s began old a there = ⊎_elim (λ same. subst (λ (y : Access). Contains acts y.act) same
    (in_to b acts (began b refl))) (λ i. old a (in_to a accesses i)) (in_from a (record { act = b; x = x; store = s } ∷ accesses) there)

pub sane_turn : (B : Book) (b : Body) → Right B b → Sane B → Sane (turned B b)
sane_turn B (body.Began l k w p) right s = record {
  kept = s.kept;
  called = λ u on. or_right (uid_eq w u) (has_act B.acts u) (s.called u on);
  committed = λ u on. or_right (uid_eq w u) (has_act B.acts u) (s.committed u on);
  aborted = λ u on. or_right (uid_eq w u) (has_act B.acts u) (s.aborted u on);
  ended = λ u on. or_right (uid_eq w u) (has_act B.acts u) (s.ended u on);
  found = λ u on. or_right (uid_eq w u) (has_act B.acts u) (s.found u on);
  acted = λ a there. let i = s.acted a there in (suc i.0, omega (arith, i.1), i.2);
}
sane_turn B (body.Committing l) right s = let r = right.1 in record {
  kept = s.kept;
  called = named_known B.acts l B.called right.0 r.named s.called;
  committed = s.committed;
  aborted = s.aborted;
  ended = s.ended;
  found = s.found;
  acted = s.acted;
}
sane_turn B (body.Committed l) right s = let r = right.1 in let a = right.0 in record {
  kept = λ u is. ⊎_elim
      (λ on. ⊎_elim (λ same. subst (λ w. is_on B.aborted w ≡ false) same (open_is B a.uid r.unended).1) (λ old. s.kept u (committed_decided
      B u old)) (on_cases a.uid u B.committed (ap (λ ws. is_on ws u) (sym (named_is B.acts l B.committed a r.named)) ∙ on)))
      (λ on. s.kept u (found_decided B u on)) (or_which (is_on (with_named B.acts l B.committed) u) (is_on B.found u) is);
  called = s.called;
  committed = named_known B.acts l B.committed a r.named s.committed;
  aborted = s.aborted;
  ended = s.ended;
  found = s.found;
  acted = s.acted;
}
sane_turn B (body.Aborted l c) right s = let r = right.1 in let a = right.0 in record {
  kept = λ u is. ap (λ ws. is_on ws u) (named_is B.acts l B.aborted a r.named)
      ∙ on_other a.uid u B.aborted (λ same. undecided (subst (λ w. is_decided B w ≡ true) (sym same) is)) ∙ s.kept u is;
  called = s.called;
  committed = s.committed;
  aborted = named_known B.acts l B.aborted a r.named s.aborted;
  ended = s.ended;
  found = s.found;
  acted = s.acted;
}
  where
    undecided : is_decided B (let a = right.0 in a.uid) ≡ true → ⊥
    undecided is = let r = right.1 in let a = right.0 in ⊎_elim (λ on. never on (open_is B a.uid r.unended).0) (λ on. never on r.unfound)
        (or_which (is_on B.committed a.uid) (is_on B.found a.uid) is)
sane_turn B (body.Ended l) right s = let r = right.1 in record {
  kept = s.kept;
  called = s.called;
  committed = s.committed;
  aborted = s.aborted;
  ended = named_known B.acts l B.ended right.0 r.named s.ended;
  found = s.found;
  acted = s.acted;
}
sane_turn B (body.Recovered n w) right s = record {
  kept = λ u is.
      ⊎_elim (λ on. s.kept u (committed_decided B u on)) (λ on. ⊎_elim (λ same. subst (λ x. is_on B.aborted x ≡ false) same right.kept)
      (λ old. s.kept u (found_decided B u old)) (on_cases w u B.found on)) (or_which (is_on B.committed u) (is_on (w ∷ B.found) u) is);
  called = s.called;
  committed = s.committed;
  aborted = s.aborted;
  ended = s.ended;
  found = λ u on.
      ⊎_elim (λ same. s.called u (subst (λ x. is_on B.called x ≡ true) same right.called)) (λ old. s.found u old) (on_cases w u B.found on);
  acted = s.acted;
}
sane_turn B (body.Ok l x o r) right s = record {
  kept = s.kept;
  called = s.called;
  committed = s.committed;
  aborted = s.aborted;
  ended = s.ended;
  found = s.found;
  acted = acted_more B.acts B.accesses (act_in B.acts (name l)) x None
      (λ a is. (in_find (λ (b : Act). bytes_eq b.label (name l)) a B.acts is).0) s.acted;
}
sane_turn B (body.Includes l x n) right s = record {
  kept = s.kept;
  called = s.called;
  committed = s.committed;
  aborted = s.aborted;
  ended = s.ended;
  found = s.found;
  acted = acted_more B.acts B.accesses (act_in B.acts (name l)) x (Some n)
      (λ a is. (in_find (λ (b : Act). bytes_eq b.label (name l)) a B.acts is).0) s.acted;
}
sane_turn B b right s = s

pub sane_lines : (B : Book) (ls : List Line) → AreRight B ls → Sane B → Sane (book_from B ls)
sane_lines B [] right s = s
sane_lines B (l ∷ ls) right s = sane_lines (turned B l.body) ls right.1 (sane_turn B l.body right.0 s)

pub sane_new : Sane new_book
sane_new = record {
  kept = λ u is. refl;
  called = λ u on. on;
  committed = λ u on. on;
  aborted = λ u on. on;
  ended = λ u on. on;
  found = λ u on. on;
  acted = λ a there. absurd (in_from a [] there);
}
