-- Of two tops that wrote an object, one that is new in the last event had its commit called last, where nothing stands before a commit
-- call in that event.
use Rattle.arj_law_parts.proofs.Words
use Words.{◌≡◌, ◌≢◌, ◌⊎◌, ◌≤◌, ◌<◌, ℕ, ◌+◌, List, [], ◌∷◌, ◌++◌, length, Bool, true, false, cond, nat_lt, Option, Some, None, refl, sym}
use Words.{◌∙◌, ap, subst, inl, inr, ⊎_elim, arith, AllByRecursion, nat_tests, append_assoc, is_on, Body, Line, Uid, name, Label, In}
use Words.{in_from, in_to, Wrote, IsNew, lines_before, uid_of}
use Rattle.arj_law_serial.proofs.Terms
use Terms.{option_map, uid_of_id, Act, Placed, act_in, acts, acts_after, acts_from, id_in, put, read, Top, tops, Values, top_place, Book}
use Terms.{book, book_from, is_decided, new_book, turned, called_of, AreRight, book_more, decided_later, later_from, named_is, on_here}
use Terms.{in_later, its_acts, named_in, State, IsTied, CommitsBeginIt, is_said}
use Terms.body
use Rattle.arj_law_runs.proofs.journal.{Books.never, Likes.some_is, Models.decided_in, Models.right_before}
use Rattle.arj_law_serial.proofs.joint.{Behind.said_so, Called.right_front, Called.writers_are_called_first}
use Rattle.arj_law_serial.proofs.order
use order.{Locks.number_uid}
use order.Order.{IsTopOf, listed, place_of_top, same_number, top_item}
use Rattle.arj_law_serial.specs.joint.Excluded.{NewWritersAreLast}

-- where an item that was read stands
pub record IsReadAt {A : Type 0} (f : List Act → Body → Option A) (us : List Act) (n : ℕ) (ls : List Line) (s : Placed A) : Type 0 where
  pub before : List Line
  pub line : Line
  pub behind : List Line
  pub are : ls ≡ before ++ line ∷ behind
  pub place : s.at ≡ n + length before
  pub reads : f (acts_from us before) line.body ≡ Some s.it

pub read_at : {A : Type 0} (f : List Act → Body → Option A) (us : List Act) (n : ℕ) (ls : List Line) (s : Placed A) →
    In s (read f us n ls) → IsReadAt f us n ls s
read_at f us n [] s i = absurd i
read_at {A} f us n (l ∷ ls) s i = by (f us l.body) refl i (read_at f (acts_after us l.body) (n + 1) ls s)
  where
    by : (o : Option A) → f us l.body ≡ o → In s (put n o (read f (acts_after us l.body) (n + 1) ls)) →
        (In s (read f (acts_after us l.body) (n + 1) ls) → IsReadAt f (acts_after us l.body) (n + 1) ls s) → IsReadAt f us n (l ∷ ls) s
    by (Some a) e (inl is) ih = record {
      before = [];
      line = l;
      behind = ls;
      are = refl;
      place = (let p = ap (λ (z : Placed A). z.at) is in omega (arith, p));
      reads = e ∙ ap Some (ap (λ (z : Placed A). z.it) is);
    }
    by (Some a) e (inr j) ih = let r = ih j in record {
      before = l ∷ r.before;
      line = r.line;
      behind = r.behind;
      are = ap (λ zs. l ∷ zs) r.are;
      place = (let p = r.place in omega (arith, p));
      reads = r.reads;
    }
    by None e j ih = let r = ih j in record {
      before = l ∷ r.before;
      line = r.line;
      behind = r.behind;
      are = ap (λ zs. l ∷ zs) r.are;
      place = (let p = r.place in omega (arith, p));
      reads = r.reads;
    }

-- a line that calls a commit
pub call_is : (us : List Act) (b : Body) (id : ℕ) → called_of us b ≡ Some id →
    (l : Label) × (b ≡ body.Committing l) × (id_in us (name l) ≡ Some id)
call_is us (body.Committing l) id e = (l, refl, e)
call_is us b id e = absurd (cc e)

-- the action of its label
named_so : (o : Option Act) (id : ℕ) → option_map (λ (a : Act). a.id) o ≡ Some id → (a : Act) × (o ≡ Some a) × (a.id ≡ id)
named_so None id e = absurd (cc e)
named_so (Some a) id e = (a, refl, some_is a.id id e)

-- ---- the lines of earlier events

before_all : (e : ℕ) (xs ys : List Line) → AllByRecursion (λ (k : Line). k.event < e) xs →
    lines_before e (xs ++ ys) ≡ xs ++ lines_before e ys
before_all e [] ys all = refl
before_all e (x ∷ xs) ys all =
    ap (λ b. cond b (x ∷ lines_before e (xs ++ ys)) []) (yes x.event e all.0) ∙ ap (λ zs. x ∷ zs) (before_all e xs ys all.1)
  where
    yes : (a b : ℕ) → a < b → nat_lt a b ≡ true
    yes a b l = grind (arith, nat_tests)

front_of : (e : ℕ) (ls : List Line) → (rest : List Line) × (ls ≡ lines_before e ls ++ rest)
front_of e [] = ([], refl)
front_of e (l ∷ ls) = by (nat_lt l.event e) (front_of e ls)
  where
    by : (b : Bool) → (rest : List Line) × (ls ≡ lines_before e ls ++ rest) →
        (rest : List Line) × (l ∷ ls ≡ cond b (l ∷ lines_before e ls) [] ++ rest)
    by true r = (r.0, ap (λ zs. l ∷ zs) r.1)
    by false r = (l ∷ ls, refl)

module _ (lines : List Line) (right : AreRight new_book lines) where
  pub its_uid : (t : Top) (i : IsTopOf lines t) → uid_of lines t ≡ i.act.uid
  its_uid t i =
      ap (uid_of_number) (sym i.number) ∙ number_uid i.act (acts lines) (λ y k f. same_number lines right y i.act k i.there f) i.there
    where
      uid_of_number : ℕ → Uid
      uid_of_number n = uid_of_id (acts lines) n

  -- whoever is decided where a commit is called was so by an earlier event
  pub said_before : (e : ℕ) → CommitsBeginIt e lines → (before : List Line) (line : Line) (behind : List Line) (l : Label) →
      lines ≡ before ++ line ∷ behind → line.body ≡ body.Committing l → (u : Uid) → is_decided (book before) u ≡ true →
      is_said (lines_before e lines) u ≡ true
  said_before e begins before line behind l are calls u old =
      let rest = lines_before e (line ∷ behind) in
      let front : lines_before e lines ≡ before ++ rest = ap (lines_before e) are
      ∙ before_all e before (line ∷ behind) (begins before line behind l are calls) in
      let f = front_of e lines in
      let right_front_of : AreRight new_book (lines_before e lines) = right_front new_book (lines_before e lines) f.0
      (subst (AreRight new_book) f.1 right) in
      let now : is_decided (book (lines_before e lines)) u ≡ true =
      ap (λ zs. is_decided (book zs) u) front ∙ ap (λ (B : Book). is_decided B u) (book_more new_book before rest)
      ∙ decided_later (book before) (book_from (book before) rest) (later_from (book before) rest) u old in
      said_so (lines_before e lines) u (decided_in (lines_before e lines) right_front_of u now)

module _ (values : Values) (lines : List Line) (right : AreRight new_book lines) (x : ℕ) (S : State) (tied : IsTied values lines x S)
    (e : ℕ) (begins : CommitsBeginIt e lines) where
  module _ (t u : Top) (new : IsNew e lines t) (t_wrote : Wrote lines x t) (u_there : In u (tops lines)) (u_wrote : Wrote lines x u)
      (later : t.at < u.at) where
    t_there : In t (tops lines)
    t_there = in_from t (tops lines) new.0

    ti : IsTopOf lines t
    ti = top_item lines right t t_there

    ui : IsTopOf lines u
    ui = top_item lines right u u_there

    found : IsReadAt called_of [] 0 lines (record { at = u.at; it = ui.act.id })
    found = read_at called_of [] 0 lines (record { at = u.at; it = ui.act.id }) ui.call

    call : (l : Label) × (found.line.body ≡ body.Committing l) × (id_in (acts found.before) (name l) ≡ Some ui.act.id)
    call = call_is (acts found.before) found.line.body ui.act.id found.reads

    named : (a : Act) × (act_in (acts found.before) (name call.0) ≡ Some a) × (a.id ≡ ui.act.id)
    named = named_so (act_in (acts found.before) (name call.0)) ui.act.id call.2

    right_there : AreRight new_book found.before
    right_there = (right_before new_book found.before found.line found.behind (subst (AreRight new_book) found.are right)).0

    -- it is the top's action
    is_it : named.0 ≡ ui.act
    is_it = same_number lines right named.0 ui.act (subst (λ zs. In named.0 (acts zs)) (sym found.are)
        (subst (In named.0) (sym (acts_more found.before (found.line ∷ found.behind))) (in_later (found.line ∷ found.behind)
        (acts found.before) named.0 (named_in (acts found.before) (name call.0) named.0 named.1)))) ui.there named.2
      where
        acts_grow : (us : List Act) (xs ys : List Line) → acts_from us (xs ++ ys) ≡ acts_from (acts_from us xs) ys
        acts_grow us [] ys = refl
        acts_grow us (z ∷ xs) ys = acts_grow (acts_after us z.body) xs ys

        acts_more : (xs ys : List Line) → acts (xs ++ ys) ≡ acts_from (acts xs) ys
        acts_more xs ys = acts_grow [] xs ys

    book_there : book (found.before ++ found.line ∷ []) ≡ turned (book found.before) (body.Committing call.0)
    book_there = book_more new_book found.before (found.line ∷ []) ∙ ap (turned (book found.before)) call.1

    is_called : is_on (book (found.before ++ found.line ∷ [])).called ui.act.uid ≡ true
    is_called =
        ap (λ (B : Book). is_on B.called ui.act.uid) book_there
        ∙ ap (λ us. is_on us ui.act.uid) (named_is (book found.before).acts call.0 (book found.before).called named.0
        (ap (λ us. act_in us (name call.0)) (its_acts found.before right_there) ∙ named.1))
        ∙ ap (λ (a : Act). is_on (named.0.uid ∷ (book found.before).called) a.uid) (sym is_it)
        ∙ on_here named.0.uid (book found.before).called

    apart : u.id ≢ t.id
    apart same =
        let a = let l = listed lines right in l.apart in
        let p = sym (place_of_top (tops lines) u a u_there) ∙ ap (top_place (tops lines)) same ∙ place_of_top (tops lines) t a t_there in
        absurd (omega (arith, p, later))

    decided_before : is_decided (book (found.before ++ found.line ∷ [])) ti.act.uid ≡ true →
        is_said (lines_before e lines) (uid_of lines t) ≡ true
    decided_before is =
        let old : is_decided (book found.before) ti.act.uid ≡ true = sym (ap (λ (B : Book). is_decided B ti.act.uid) book_there) ∙ is in
        ap (is_said (lines_before e lines)) (its_uid lines right t ti)
        ∙ said_before lines right e begins found.before found.line found.behind call.0 found.are call.1 ti.act.uid old

    impossible : ⊥
    impossible = by (is_decided (book (found.before ++ found.line ∷ [])) ti.act.uid) refl
      where
        by : (b : Bool) → is_decided (book (found.before ++ found.line ∷ [])) ti.act.uid ≡ b → ⊥
        by true is = never (decided_before is) new.1
        by false is =
            let l = writers_are_called_first values lines x S right tied u t ui.act ti.act
            (record {
              listed = in_to u (tops lines) u_there;
              wrote = u_wrote;
              there = in_to ui.act (acts lines) ui.there;
              number = ui.number;
            })
            (record { listed = new.0; wrote = t_wrote; there = in_to ti.act (acts lines) ti.there; number = ti.number })
            apart (
              found.before ++ found.line ∷ [],
              found.behind,
              found.are ∙ sym (append_assoc found.before (found.line ∷ []) found.behind),
              is_called,
              is,
            ) in
            absurd (omega (arith, l, later))

  new_is_last : (t u : Top) → IsNew e lines t → Wrote lines x t → In u (tops lines) → Wrote lines x u → u.at ≤ t.at
  new_is_last t u new tw i uw = ⊎_elim (λ le. le) (λ less. absurd (impossible t u new tw i uw less)) (cases u.at t.at)
    where
      cases : (m n : ℕ) → (m ≤ n) ⊎ (n < m)
      cases m n = grind arith

pub new_writers_last : NewWritersAreLast
new_writers_last values lines x S e right tied begins t u new tw there uw =
    new_is_last values lines right x S tied e begins t u new tw (in_from u (tops lines) there) uw
