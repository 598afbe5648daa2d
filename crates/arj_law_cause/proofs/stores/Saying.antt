-- A journal whose last line, but for quiet ones, says that a top committed: this is a committed top of it, and wasn't before the line; each
-- other one's commit had been called; and the same stores are listed as behind the line.
use Rattle.arj_law.proofs.Reading.{read_none, read_some}
use Rattle.arj_law_parts.proofs.Words
use Words.{◌≡◌, ◌∙◌, ◌+◌, ◌==◌, ◌&&◌, ◌||◌, ◌++◌, ℕ, true, List, [], ◌∷◌, Some, None, refl, sym, ap, subst, inl, inr}
use Words.{append_assoc, append-nil, eq-eqb, filter, filter_map, length, list_any, map, option_map, not, uid_eq, In, is_on, Body, Header}
use Words.{Label, Line, Uid, name}
use Words.body
use Rattle.arj_law_parts.specs.moves.Seen.{is_quiet_line}
use Rattle.arj_law_runs.proofs.Terms.{Act, Placed, act_in, acts, new_book}
use Rattle.arj_law_runs.proofs.journal.{Books.book_more, Models.in_later, Models.its_call, Models.named_in, Owners.acts_more}
use Rattle.arj_law_runs.specs.journal.Book.{Book, book, book_from, is_top, turned}
use Rattle.arj_law_runs.specs.journal.Laws.{IsDone, called}
use Rattle.arj_law_runs.specs.journal.Right.{AreRight}
use Rattle.arj_law_serial.proofs.order.Order.{IsTopOf, top_for}
use Rattle.arj_model.specs.Actions.{committed, committed_of, has_end, recovered, recovered_of, top_in}
use Rattle.arj_model.specs.Calls.{Top, committing_of, committings, top_of, tops}
use Rattle.arj_model.specs.Last.{Exclusion, Inclusion, excluded, excluded_of, included, included_of, increasing, is_among, joins_by}
use Rattle.arj_model.specs.Last.{joins_of}
use Rattle.arj_model.specs.Last.{leaves_of, listed, listed_after, listed_from, object_line, serial_tops, stores_of_line}
use Rattle.arj_model.specs.Serial.{arrange, lex, serial_key}
use Rattle.arj_law_cause.proofs.kinds.Over.{read_later}
use Rattle.arj_law_cause.proofs.stores.Moments.{AreCalm}
use Rattle.arj_law_cause.proofs.waits.waiting.Lists.{any_in}

-- ---- quiet lines

-- nothing is read of a quiet line
record IsUnread (us : List Act) (b : Body) : Type 0 where
  called : committing_of us b ≡ None
  commit : committed_of us b ≡ None
  found : recovered_of us b ≡ None
  leaves : excluded_of us b ≡ None
  joins : included_of us b ≡ None
  book : (B : Book) → turned B b ≡ B

unread : (us : List Act) (b : Body) → is_quiet_line b ≡ true → IsUnread us b
unread us (body.Began l k u p) is = absurd (cc is)
unread us (body.Committing l) is = absurd (cc is)
unread us (body.Committed l) is = absurd (cc is)
unread us (body.Aborted l c) is = absurd (cc is)
unread us (body.Ended l) is = absurd (cc is)
unread us (body.Recovered n u) is = absurd (cc is)
unread us (body.Ok l x o r) is = absurd (cc is)
unread us (body.Includes l x n) is = absurd (cc is)
unread us (body.Excluded l x n) is = absurd (cc is)
unread us b is = record { called = refl; commit = refl; found = refl; leaves = refl; joins = refl; book = λ B. refl }

calm_book : (B : Book) (ls : List Line) → AreCalm ls → book_from B ls ≡ B
calm_book B [] all = refl
calm_book B (l ∷ ls) all = ap (λ X. book_from X ls) (let u = unread [] l.body all.0 in u.book B) ∙ calm_book B ls all.1

-- ---- lists of stores

-- what lists are made of
record AreSame (ls ks : List Line) : Type 0 where
  called : committings ks ≡ committings ls
  commit : committed ks ≡ committed ls
  found : recovered ks ≡ recovered ls
  leaves : excluded ks ≡ excluded ls
  joins : included ks ≡ included ls

calm_same : (ls ks : List Line) → AreCalm ks → AreSame ls (ls ++ ks)
calm_same ls [] all = let e = append-nil ls in record {
  called = ap committings e;
  commit = ap committed e;
  found = ap recovered e;
  leaves = ap excluded e;
  joins = ap included e;
}
calm_same ls (k ∷ ks) all =
    let u = unread (acts ls) k.body all.0 in
    let e = append_assoc ls (k ∷ []) ks in
    let s = calm_same (ls ++ k ∷ []) ks all.1 in
    record {
      called = ap committings (sym e) ∙ s.called ∙ read_none committing_of ls k u.called;
      commit = ap committed (sym e) ∙ s.commit ∙ read_none committed_of ls k u.commit;
      found = ap recovered (sym e) ∙ s.found ∙ read_none recovered_of ls k u.found;
      leaves = ap excluded (sym e) ∙ s.leaves ∙ read_none excluded_of ls k u.leaves;
      joins = ap included (sym e) ∙ s.joins ∙ read_none included_of ls k u.joins;
    }

module _ (ls ks : List Line) (s : AreSame ls ks) where
  same_tops : tops ks ≡ tops ls
  same_tops = λ i. filter_map (top_of (s.commit i) (s.found i)) (s.called i)

  same_leaves : (id x : ℕ) → leaves_of ks id x ≡ leaves_of ls id x
  same_leaves id x = λ i. map (λ (e : Placed Exclusion). e.it.node) (filter (λ (e : Placed Exclusion). (e.it.top == id) && (e.it.x == x))
      (s.leaves i))

  same_joins : (id x : ℕ) → joins_of ks id x ≡ joins_of ls id x
  same_joins id x = λ i. filter_map (λ (z : Placed Inclusion). joins_by (s.commit i) id x z (top_in z.it.path)) (s.joins i)

  same_after : (x : ℕ) (stores : List ℕ) (t : Top) → listed_after ks x stores t ≡ listed_after ls x stores t
  same_after x stores t = λ i. filter (λ n. not (is_among (same_leaves t.id x i) n)) stores
      ++ increasing (filter (λ n. not (is_among (same_leaves t.id x i) n)) (same_joins t.id x i))

  same_from : (x : ℕ) (stores : List ℕ) (ts : List Top) → listed_from ks x stores ts ≡ listed_from ls x stores ts
  same_from x stores [] = refl
  same_from x stores (t ∷ ts) = ap (λ ns. listed_from ks x ns ts) (same_after x stores t) ∙ same_from x (listed_after ls x stores t) ts

  same_serial : serial_tops ks ≡ serial_tops ls
  same_serial = λ i. arrange (λ t u. lex (serial_key (same_tops i) t.id) (serial_key (same_tops i) u.id)) (same_tops i)

  same_listed : (hd : Header) (x : ℕ) → listed hd ks x ≡ listed hd ls x
  same_listed hd x = ap (listed_from ks x (stores_of_line (object_line hd x))) same_serial
      ∙ same_from x (stores_of_line (object_line hd x)) (serial_tops ls)

-- quiet lines behind others change no list
pub calm_listed : (hd : Header) (ls ks : List Line) (x : ℕ) → AreCalm ks → listed hd (ls ++ ks) x ≡ listed hd ls x
calm_listed hd ls ks x all = same_listed ls (ls ++ ks) (calm_same ls ks all) hd x

-- ---- who commits

in_last : {A : Type 0} (xs : List A) (a : A) → In a (xs ++ a ∷ [])
in_last [] a = inl refl
in_last (x ∷ xs) a = inr (in_last xs a)

-- by the line the action ends as committed
pub ended_by : (before calm : List Line) (line : Line) (l : Label) → line.body ≡ body.Committed l → AreCalm calm → (a : Act) →
    act_in (acts before) (name l) ≡ Some a → has_end (committed (before ++ line ∷ calm)) a.id ≡ true
ended_by before calm line l is quiet a named = ap (λ ls. has_end (committed ls) a.id) (sym (append_assoc before (line ∷ []) calm))
    ∙ read_later committed_of (λ (e : Placed ℕ). e.it == a.id) [] 0 (before ++ line ∷ []) calm
    (ap (λ es. has_end es a.id) (read_some committed_of before line a.id
    (ap (committed_of (acts before)) is ∙ ap (option_map (λ (b : Act). b.id)) named))
    ∙ any_in (λ (e : Placed ℕ). e.it == a.id) (committed before ++ record { at = 0 + length before; it = a.id } ∷ [])
    (record { at = 0 + length before; it = a.id }) (in_last (committed before) (record { at = 0 + length before; it = a.id }))
    (eq-eqb a.id a.id refl))

module _ (lines : List Line) (right : AreRight new_book lines) (before calm : List Line) (line : Line) (l : Label)
    (is : line.body ≡ body.Committed l) (quiet : AreCalm calm) (are : lines ≡ before ++ line ∷ calm) (a : Act)
    (named : act_in (acts before) (name l) ≡ Some a) where
  began_before : In a (acts before)
  began_before = named_in (acts before) (name l) a named

  pub began_there : In a (acts lines)
  began_there = subst (λ ls. In a (acts ls)) (sym are)
      (subst (In a) (sym (acts_more [] before (line ∷ calm))) (in_later (line ∷ calm) (acts before) a began_before))

  -- it is committed now
  ended : has_end (committed lines) a.id ≡ true
  ended = ap (λ ls. has_end (committed ls) a.id) are ∙ ended_by before calm line l is quiet a named

  done : IsDone lines a
  done = (λ i. ended i || list_any (λ (u : Placed Uid). uid_eq u.it a.uid) (recovered lines))

  -- whose commit is called had it called before
  book_is : book lines ≡ turned (book before) (body.Committed l)
  book_is = ap book are ∙ book_more new_book before (line ∷ calm) ∙ calm_book (turned (book before) line.body) calm quiet
      ∙ ap (turned (book before)) is

  pub called_then : (u : Uid) → is_on (let B = book lines in B.called) u ≡ true → is_on (let B = book before in B.called) u ≡ true
  called_then u on = ap (λ (B : Book). is_on B.called u) (sym book_is) ∙ on

  pub called_of_top : (t : Top) (k : IsTopOf lines t) → is_on (let B = book before in B.called) (let b = k.act in b.uid) ≡ true
  called_of_top t k = called_then (let b = k.act in b.uid) (sym (its_call lines right k.act k.there)
      ∙ any_in (λ (e : Placed ℕ). e.it == (let b = k.act in b.id)) (called lines)
      (record { at = t.at; it = (let b = k.act in b.id) }) k.call
      (eq-eqb (let b = k.act in b.id) (let b = k.act in b.id) refl))

  pub top_of_it : is_top a.kind ≡ true → (t : Top) × In t (tops lines) × (t.id ≡ a.id)
  top_of_it kind = top_for lines right a began_there kind done
