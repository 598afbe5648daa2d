-- A journal with one line more, as it is kept.
use Rattle.std.proofs.Common.{◌≡◌, ℕ, suc, ◌+◌, List, [], ◌∷◌, ◌++◌, length, map, Bool, true, false, cond, ◌==◌, ◌||◌, Option, Some, None}
use Rattle.std.proofs.Common.{refl, sym, ◌∙◌, ap, subst, arith, append-nil}
use Rattle.std.specs.Prelude.{is_some}
use Rattle.std.specs.BTreeMap.{get}
use Rattle.std.specs.List.{list_any}
use Rattle.std.specs.Option.{option_map}
use Rattle.std.specs.Ordering.{nat_cmp}
use Rattle.std.specs.Str.{bytes_eq}
use Rattle.arj_base.specs.Order.{uid_order}
use Rattle.arj_base.specs.Uid.{uid_eq}
use Rattle.arj_base.specs.declared.uid.Uid.{Uid}
use Rattle.arj_journal.specs.declared.body.Body.{Body}
use Rattle.arj_journal.specs.declared.body.Body.TheVariants as body
use Rattle.arj_journal.specs.declared.body.Line.{Line}
use Rattle.arj_text.specs.declared.label.Label.{Label}
use Rattle.arj_text.specs.Label.{name, label_cmp}
use Rattle.arj_model.specs.Actions.{Act, Placed, act_in, acts, acts_after, acts_from, committed, committed_of, ended, ended_of, id_in, put}
use Rattle.arj_model.specs.Actions.{read, recovered, recovered_of}
use Rattle.arj_model.proofs.Read.{acts-append, read-append}
use Rattle.arj_reading.specs.Readable.{act_by, called, called_of}
use Rattle.arj_reading.specs.Reading.{HasRead, actions_of, first_place, found_with, known_with, labelled_with, listed_with, marked, next_of}
use Rattle.arj_reading.specs.Reading.{noted, placed_of, said_at}
use Rattle.arj_reading.specs.declared.mark.Mark.{Mark}
use Rattle.arj_reading.specs.declared.reading.Reading.{Reading}
use Rattle.arj_reading.proofs.Numbers.{length_actions}

-- one item more at the end
first_put : (es : List (Placed ℕ)) (n : ℕ) (o : Option ℕ) (i : ℕ) → first_place (es ++ put n o []) i ≡ noted o n (first_place es i) i
first_put [] n None i = refl
first_put [] n (Some a) i = refl
first_put (e ∷ es) n o i = by (first_put es n o i) (e.it == i)
  where
    stays : (o : Option ℕ) → Some e.at ≡ noted o n (Some e.at) i
    stays None = refl
    stays (Some a) = refl

    by : first_place (es ++ put n o []) i ≡ noted o n (first_place es i) i → (b : Bool) →
        cond b (Some e.at) (first_place (es ++ put n o []) i) ≡ noted o n (cond b (Some e.at) (first_place es i)) i
    by ih true = stays o
    by ih false = ih

none_more : (n : ℕ) → 0 + n ≡ n
none_more n = omega arith

-- the first places, where a line is read
first_more : (f : List Act → Body → Option ℕ) (lines : List Line) (line : Line) (i : ℕ)
    → first_place (read f [] 0 (lines ++ line ∷ [])) i ≡ noted (f (acts lines) line.body) (length lines) (first_place (read f [] 0 lines) i) i
first_more f lines line i =
    ap (λ es. first_place es i) (read-append f [] 0 lines line)
    ∙ first_put (read f [] 0 lines) (0 + length lines) (f (acts lines) line.body) i
    ∙ ap (λ n. noted (f (acts lines) line.body) n (first_place (read f [] 0 lines) i) i) (none_more (length lines))

-- the Uids found, where a line is read
found_put : (es : List (Placed Uid)) (n : ℕ) (o : Option Uid) (u : Uid) →
    list_any (λ p. uid_eq p.it u) (es ++ put n o []) ≡ found_with o (list_any (λ p. uid_eq p.it u) es) u
found_put [] n None u = refl
found_put [] n (Some w) u = by (uid_eq w u)
  where
    by : (b : Bool) → (b || false) ≡ (false || b)
    by true = refl
    by false = refl
found_put (e ∷ es) n o u = by (found_put es n o u) (uid_eq e.it u)
  where
    rest : Bool
    rest = list_any (λ p. uid_eq p.it u) es

    stays : (o : Option Uid) → true ≡ found_with o (true || rest) u
    stays None = refl
    stays (Some w) = refl

    by : list_any (λ p. uid_eq p.it u) (es ++ put n o []) ≡ found_with o rest u → (b : Bool) →
        (b || list_any (λ p. uid_eq p.it u) (es ++ put n o [])) ≡ found_with o (b || rest) u
    by ih true = stays o
    by ih false = ih

-- the marks, where a line is read
marks_put : (ms : List Mark) (es : List (Placed ℕ)) (n : ℕ) (o : Option ℕ) → map placed_of ms ≡ es →
    map placed_of (marked o n ms) ≡ es ++ put n o []
marks_put ms es n None e = e ∙ sym (append-nil es)
marks_put ms es n (Some a) e = behind ms ∙ ap (λ xs. xs ++ (record { at = n; it = a }) ∷ []) e
  where
    behind : (ms : List Mark) →
        map placed_of (ms ++ (record { at = n; action = a }) ∷ []) ≡ map placed_of ms ++ (record { at = n; it = a }) ∷ []
    behind [] = refl
    behind (m ∷ ms) = ap (λ xs. placed_of m ∷ xs) (behind ms)

marks_more : (f : List Act → Body → Option ℕ) (lines : List Line) (line : Line) (ms : List Mark) → map placed_of ms ≡ read f [] 0 lines
    → map placed_of (marked (f (acts lines) line.body) (length lines) ms) ≡ read f [] 0 (lines ++ line ∷ [])
marks_more f lines line ms e =
    ap (λ n. map placed_of (marked (f (acts lines) line.body) n ms)) (sym (none_more (length lines))) ∙ marks_put ms (read f [] 0 lines) (0 + length lines) (f (acts lines) line.body) e ∙ sym (read-append f [] 0 lines line)

-- the numbers of actions, where one more begins
number_more : (us : List Act) (b : Body) (q : Label) →
    id_in (acts_after us b) (name q) ≡ labelled_with (next_of us b) (length us) (id_in us (name q)) q
number_more us (body.Began l k u p) q = by (bytes_eq (name l) (name q))
  where
    one : Act
    one = record { id = length us; label = name l; kind = k; uid = u; parent = option_map name p }

    by : (t : Bool) → option_map (λ a. a.id) (cond t (Some one) (act_in us (name q))) ≡ cond t (Some (length us)) (id_in us (name q))
    by true = refl
    by false = refl
number_more us _ q = refl

known_more : (us : List Act) (b : Body) (w : Uid) →
    option_map (λ a. a.id) (act_by (acts_after us b) w) ≡ known_with (next_of us b) (length us) (option_map (λ a. a.id) (act_by us w)) w
known_more us (body.Began l k u p) w = by (uid_eq u w)
  where
    one : Act
    one = record { id = length us; label = name l; kind = k; uid = u; parent = option_map name p }

    by : (t : Bool) →
        option_map (λ a. a.id) (cond t (Some one) (act_by us w)) ≡ cond t (Some (length us)) (option_map (λ a. a.id) (act_by us w))
    by true = refl
    by false = refl
known_more us _ w = refl

list_more : (us : List Act) (b : Body) → actions_of (acts_after us b) ≡ listed_with (next_of us b) (actions_of us)
list_more us (body.Began l k u p) = refl
list_more us _ = refl

-- What a line changes in what is kept. `us` are the actions before it, and it stands at this place.
pub record Takes (us : List Act) (b : Body) (at : ℕ) (old new : Reading) : Type 0 where
  pub labels : (q : Label) →
      get label_cmp new.labels q ≡ labelled_with (next_of us b) (length old.list.items) (get label_cmp old.labels q) q
  pub uids : (u : Uid) → get uid_order new.uids u ≡ known_with (next_of us b) (length old.list.items) (get uid_order old.uids u) u
  pub list : new.list.items ≡ listed_with (next_of us b) old.list.items
  pub called_at : (i : ℕ) → get nat_cmp new.called i ≡ noted (called_of us b) at (get nat_cmp old.called i) i
  pub ended_at : (i : ℕ) → get nat_cmp new.ended i ≡ noted (ended_of us b) at (get nat_cmp old.ended i) i
  pub committed_at : (i : ℕ) → get nat_cmp new.committed i ≡ noted (committed_of us b) at (get nat_cmp old.committed i) i
  pub found : (u : Uid) → is_some (get uid_order new.found u) ≡ found_with (recovered_of us b) (is_some (get uid_order old.found u)) u
  pub said : new.said.items ≡ marked (said_at us b) at old.said.items
  pub calls : new.calls.items ≡ marked (called_of us b) at old.calls.items

-- what is kept of a journal with one line more
pub line_more : (lines : List Line) (line : Line) (old new : Reading) → HasRead lines old →
    Takes (acts lines) line.body (length lines) old new → HasRead (lines ++ line ∷ []) new
line_more lines line old new has t = record {
  labels = λ q. t.labels q ∙ (λ i. labelled_with (next_of us b) (count i) (has.labels q i) q) ∙ sym (number_more us b q) ∙ ap (λ vs. id_in vs (name q)) (sym more);
  uids = λ u. t.uids u ∙ (λ i. known_with (next_of us b) (count i) (has.uids u i) u) ∙ sym (known_more us b u) ∙ ap (λ vs. option_map (λ a. a.id) (act_by vs u)) (sym more);
  list = t.list ∙ ap (listed_with (next_of us b)) has.list ∙ sym (list_more us b) ∙ ap actions_of (sym more);
  called_at = λ j. t.called_at j ∙ ap (λ o. noted (called_of us b) at o j) (has.called_at j) ∙ sym (first_more called_of lines line j);
  ended_at = λ j. t.ended_at j ∙ ap (λ o. noted (ended_of us b) at o j) (has.ended_at j) ∙ sym (first_more ended_of lines line j);
  committed_at =
      λ j. t.committed_at j ∙ ap (λ o. noted (committed_of us b) at o j) (has.committed_at j) ∙ sym (first_more committed_of lines line j);
  found = λ u. t.found u ∙ ap (λ o. found_with (recovered_of us b) o u) (has.found u) ∙ sym (found_put (recovered lines) (0 + at) (recovered_of us b) u) ∙ ap (list_any (λ p. uid_eq p.it u)) (sym (read-append recovered_of [] 0 lines line));
  said = ap (map placed_of) t.said ∙ marks_more said_at lines line old.said.items has.said;
  calls = ap (map placed_of) t.calls ∙ marks_more called_of lines line old.calls.items has.calls;
}
  where
    us : List Act
    us = acts lines

    b : Body
    b = line.body

    at : ℕ
    at = length lines

    more : acts (lines ++ line ∷ []) ≡ acts_after us b
    more = acts-append [] lines line

    count : length old.list.items ≡ length us
    count = ap length has.list ∙ length_actions us
