-- The row of records that restarts find: of tops of the node whose commits were called, and that weren't aborted.
use Rattle.arj_law_parts.proofs.Words
use Words.{⊤, ◌≡◌, ◌∙◌, ◌+◌, ◌==◌, ◌++◌, ◌&&◌, ◌||◌, not, ℕ, Bool, true, false, List, [], ◌∷◌, Option, Some, None, refl, sym, ap, subst}
use Words.{eqb-true, inl, inr, ⊎_elim, In, list_any, bytes_eq, bytes_eq-Decides, name, Uid, is_on, uid_same, map, Line}
use Words.{Body, Effect, Event, Header, Handled, Took, Label, Start, Message, Parts, Disk}
use Words.{acts as does, acts_own, again_all, again_own, all_both, begin_action, handle, holders, parent_of, query_about, restart_outs}
use Words.{tick_outs, tolds_again, tolds_again_own, is_coord_effect, is_coord_line, is_naming_line, is_server_line, AreAll}
use Words.body
use Words.input
use Rattle.arj_law_parts.proofs.moves.Happens.{Wide}
use Rattle.arj_law_parts.specs.moves.Seen.{is_quiet_line}
use Rattle.arj_law_runs.proofs.Terms.{Act, Book, act_in, acts, book, new_book, path, turned, AreRight}
use Rattle.arj_law_runs.proofs.follow.Uids.{KnowsNext, next_keep}
use Rattle.arj_law_runs.proofs.journal.Books.{later_from, named_is}
use Rattle.arj_law_runs.proofs.journal.Closed.{Stands, stands_lines, stands_new}
use Rattle.arj_law_runs.proofs.journal.Models.{AreSound, act_there, book_acts, in_later, its_acts, its_sound, named_in, right_before}
use Rattle.arj_law_runs.proofs.journal.Ties.{in_named, named_label}
use Rattle.arj_law_runs.proofs.kept.Walked.{same_number}
use Rattle.arj_law_runs.specs.follow.Frames.{run_events}
use Rattle.arj_law_runs.specs.journal.Book.{book_from, with_named}
use Rattle.arj_law_runs.specs.journal.Laws.{AreDistinct}
use Rattle.arj_law_runs.specs.journal.Right.{MayBeFound, Right, has_act}
use Rattle.arj_law_serial.proofs.holding.Says as saying
use Rattle.arj_law_serial.proofs.holding.Says.{outs_of}
use Rattle.arj_model.specs.Calls.{committings}
use Rattle.arj_model.specs.CauseNodes.{is_aborted, restarts}
use Rattle.arj_model.specs.CauseSpans.{Here, act_by, holds_in, is_top_in}
use Rattle.arj_model.specs.Caused.{has_cause}
use Rattle.arj_model.specs.Past.{Past}
use Rattle.arj_model.specs.Refusals.{was_called}
use Rattle.arj_promise.specs.Runs.{journal_by}
use Rattle.arj_law_cause.proofs.kinds.Committed.{act_found, right_lines}
use Rattle.arj_law_cause.proofs.kinds.Lines.{tested_row}
use Rattle.arj_law_cause.proofs.kinds.Nodes.{wide_all}
use Rattle.arj_law_cause.proofs.kinds.Running.{nothing_more, row_run}
use Rattle.arj_law_cause.proofs.kinds.Waiting.{called_is, top_path}
use Rattle.arj_law_cause.proofs.kinds.Walks as walks
use Rattle.arj_law_cause.specs.kinds.Kinds.{is_found}
use Rattle.arj_law_cause.specs.kinds.Rows.{RowHolds, tested}

-- ---- by the lines before

-- actions are told apart by their labels
same_label : (xs : List Act) → AreDistinct xs → (x a : Act) → In x xs → In a xs → x.label ≡ a.label → x ≡ a
same_label [] d x a i j same = absurd i
same_label (y ∷ ys) d x a (inl i) (inl j) same = sym i ∙ j
same_label (y ∷ ys) d x a (inl i) (inr j) same =
    let n = in_named ys a j in
    let no_way : ◌≡◌ {A = Option Act} None (Some n.0) =
    sym d.1 ∙ ap (act_in ys) (ap (λ (z : Act). z.label) i ∙ same) ∙ n.1 in absurd (cc no_way)
same_label (y ∷ ys) d x a (inr i) (inl j) same =
    let n = in_named ys x i in
    let no_way : ◌≡◌ {A = Option Act} None (Some n.0) =
    sym d.1 ∙ ap (act_in ys) (ap (λ (z : Act). z.label) j ∙ sym same) ∙ n.1 in absurd (cc no_way)
same_label (y ∷ ys) d x a (inr i) (inr j) same = same_label ys d.3 x a i j same

-- no line aborts by its label whom the book of all lines doesn't have as aborted
not_aborted : (B : Book) (ls : List Line) → AreRight B ls → (a : Act) → (let V = book_from B ls in AreDistinct V.acts) →
    (let V = book_from B ls in In a V.acts) → is_on (let V = book_from B ls in V.aborted) a.uid ≡ false →
    list_any (λ (l : Line). is_aborted a.label l.body) ls ≡ false
not_aborted B [] right a distinct there off = refl
not_aborted B (l ∷ ls) right a distinct there off =
    λ i. at l.body right.0 refl i || not_aborted (turned B l.body) ls right.1 a distinct there off i
  where
    found : (m : Label) → (let V = turned B l.body in V.acts) ≡ B.acts →
        (let V = turned B l.body in V.aborted) ≡ with_named B.acts m B.aborted →
        (x : Act) → act_in B.acts (name m) ≡ Some x → (b : Bool) → bytes_eq (name m) a.label ≡ b → b ≡ false
    found m same adds x named false is = refl
    found m same adds x named true is =
        let V = book_from (turned B l.body) ls in
        let x_there : In x V.acts = subst (In x) (sym (book_acts (turned B l.body) ls))
        (in_later ls (let W = turned B l.body in W.acts) x (subst (In x) (sym same) (named_in B.acts (name m) x named))) in
        let is_a : x ≡ a = same_label V.acts distinct x a x_there there
        (named_label B.acts (name m) x named ∙ (bytes_eq-Decides (name m) a.label).0 is) in
        let on : is_on (let W = turned B l.body in W.aborted) x.uid ≡ true =
        ap (λ us. is_on us x.uid) (adds ∙ named_is B.acts m B.aborted x named) ∙ ap (λ b. b || is_on B.aborted x.uid) (uid_same x.uid) in
        let later : is_on V.aborted x.uid ≡ true = (let f = later_from (turned B l.body) ls in f.aborted x.uid on) in
        let no_way : true ≡ false = sym later ∙ ap (λ (z : Act). is_on V.aborted z.uid) is_a ∙ off in absurd (cc no_way)

    at : (b : Body) → Right B b → l.body ≡ b → is_aborted a.label l.body ≡ false
    at (body.Aborted m c) r is = ap (is_aborted a.label) is
        ∙ found m (ap (λ y. let V = turned B y in V.acts) is) (ap (λ y. let V = turned B y in V.aborted) is) r.0 (let o = r.1 in o.named)
        (bytes_eq (name m) a.label) refl
    at (body.Began p q r s) t is = ap (is_aborted a.label) is
    at (body.Ok p q r s) t is = ap (is_aborted a.label) is
    at (body.Includes p q r) t is = ap (is_aborted a.label) is
    at (body.Conflict p q r s) t is = ap (is_aborted a.label) is
    at (body.Lost p q) t is = ap (is_aborted a.label) is
    at (body.Changed p q r) t is = ap (is_aborted a.label) is
    at (body.Committing p) t is = ap (is_aborted a.label) is
    at (body.Committed p) t is = ap (is_aborted a.label) is
    at (body.Ended p) t is = ap (is_aborted a.label) is
    at (body.GaveUp p q) t is = ap (is_aborted a.label) is
    at (body.Excluded p q r) t is = ap (is_aborted a.label) is
    at (body.Granted p q r s) t is = ap (is_aborted a.label) is
    at (body.Lowered p q r) t is = ap (is_aborted a.label) is
    at (body.Bound p q r) t is = ap (is_aborted a.label) is
    at (body.Active p q r) t is = ap (is_aborted a.label) is
    at (body.Told p q r s) t is = ap (is_aborted a.label) is
    at (body.Prepared p q r) t is = ap (is_aborted a.label) is
    at (body.Done p q r s) t is = ap (is_aborted a.label) is
    at (body.Sent p q r s) t is = ap (is_aborted a.label) is
    at (body.Got p) t is = ap (is_aborted a.label) is
    at (body.Void p) t is = ap (is_aborted a.label) is
    at (body.Dropped p) t is = ap (is_aborted a.label) is
    at (body.Halted p) t is = ap (is_aborted a.label) is
    at (body.Up p q) t is = ap (is_aborted a.label) is
    at (body.Armed p) t is = ap (is_aborted a.label) is
    at (body.Recovered p q) t is = ap (is_aborted a.label) is
    at (body.Refused p) t is = ap (is_aborted a.label) is
    at (body.Entry p q r s) t is = ap (is_aborted a.label) is
    at (body.Copy p q r s v) t is = ap (is_aborted a.label) is
    at (body.Quiet p) t is = ap (is_aborted a.label) is
    at (body.Bad p) t is = ap (is_aborted a.label) is
    at (body.Limit p) t is = ap (is_aborted a.label) is

-- by the lines before it a record is of a top of this node, whose commit was called, and that wasn't aborted
abbrev may_be : List Line → ℕ → Act → Bool
may_be lines n a = (a.uid.node == n) && (is_top_in a (path (acts lines) a.label) && (was_called (committings lines) a.id
    && not (list_any (λ (line : Line). is_aborted a.label line.body) lines)))

found_so : (lines : List Line) → AreRight new_book lines → (n : ℕ) (u : Uid) → MayBeFound (book lines) n u →
    holds_in (may_be lines n) (act_by lines u) ≡ true
found_so lines right n u m =
    ap (holds_in (may_be lines n)) (act_found (acts lines) sound.distinct a there u its)
    ∙ (λ i. (ap (λ k. k == n) (ap (λ (v : Uid). v.node) its ∙ m.here) ∙ same_number n) i && (top i && (called i && not (kept i))))
  where
    stands : Stands (book lines)
    stands = stands_lines new_book lines right stands_new

    sound : AreSound (acts lines)
    sound = its_sound lines right

    begun : (a : Act) × In a (acts lines) × (a.uid ≡ u)
    begun = act_there (acts lines) u (subst (λ xs. has_act xs u ≡ true) (its_acts lines right)
        (let s = stands.sane in s.called u m.called))

    a : Act
    a = begun.0

    there : In a (acts lines)
    there = begun.1

    its : a.uid ≡ u
    its = begun.2

    called : was_called (committings lines) a.id ≡ true
    called = called_is lines right a there ∙ ap (is_on (let B = book lines in B.called)) its ∙ m.called

    named : act_in (acts lines) a.label ≡ Some a
    named = let x = in_named (acts lines) a there in
        x.1 ∙ ap Some (same_label (acts lines) sound.distinct x.0 a (named_in (acts lines) a.label x.0 x.1) there
        (named_label (acts lines) a.label x.0 x.1))

    in_book : In a (let B = book lines in B.acts)
    in_book = subst (In a) (sym (its_acts lines right)) there

    top : is_top_in a (path (acts lines) a.label) ≡ true
    top = ap (holds_in (λ (t : Act). t.id == a.id)) (top_path (acts lines) a.label a sound.formed named
        (let c = stands.closes in c.calls a in_book (ap (is_on (let B = book lines in B.called)) its ∙ m.called))) ∙ same_number a.id

    kept : list_any (λ (line : Line). is_aborted a.label line.body) lines ≡ false
    kept = not_aborted new_book lines right a (let s = stands.sound in s.distinct) in_book
        (ap (is_on (let B = book lines in B.aborted)) its ∙ m.kept)

-- ---- in a restart

-- the event restarts the node
abbrev in_restart : Here → Body → Bool
in_restart h (body.Recovered n u) = restarts n h.event
in_restart h _ = false

quiet : (b : Body) → is_quiet_line b ≡ true → is_found b ≡ false
quiet (body.Recovered n u) is = absurd (cc is)
quiet b is = refl

no_halt : (k : ℕ) → is_found (body.Halted k) ≡ false
no_halt k = refl

-- no record was found, but by a restart of this node
abbrev only_by : ℕ → Body → Bool
only_by k (body.Recovered n u) = n == k
only_by k _ = true

abbrev none_by : Body → Bool
none_by b = not (is_found b)

coord_none : (b : Body) → is_coord_line b ≡ true → none_by b ≡ true
coord_none (body.Recovered n u) is = absurd (cc is)
coord_none b is = refl

server_none : (n : ℕ) (b : Body) → is_server_line n b ≡ true → none_by b ≡ true
server_none n (body.Recovered m u) is = absurd (cc is)
server_none n b is = refl

naming_none : (b : Body) → is_naming_line b ≡ true → none_by b ≡ true
naming_none (body.Recovered n u) is = absurd (cc is)
naming_none b is = refl

coord_only : (k : ℕ) (b : Body) → is_coord_line b ≡ true → only_by k b ≡ true
coord_only k (body.Recovered n u) is = absurd (cc is)
coord_only k b is = refl

coord_effects : (es : List Effect) → AreAll is_coord_effect es → saying.All none_by es
coord_effects = saying.kind_says none_by is_coord_effect is_coord_line (λ b. refl) coord_none

message_none : (k : ℕ) (d : Disk) (t v : Parts) (from : ℕ) (m : Message) (outs : List Effect) → handle k d t from m ≡ Took v outs →
    saying.All none_by outs
message_none k d t v from m outs is = subst (λ (x : Handled). saying.All none_by (outs_of x)) is
    (⊎_elim (λ coord. coord_effects (outs_of (handle k d t from m)) coord) (λ all. all)
    (saying.handle_says none_by k (⊤) (server_none k) (λ may. naming_none) (λ u r. refl) (λ u r e. refl) d t from m (λ o is. tt)))

restart_only : (hd : Header) (k : ℕ) (d : Disk) → saying.All (only_by k) (restart_outs hd k (d.inc + 1) d)
restart_only hd k d = saying.restart_says (only_by k) hd k (d.inc + 1) d (coord_only k) (λ is u o how. refl) (λ u. same_number k) refl

module _ (hd : Header) (st : Start) (q : Past) (e : Event) where
  abbrev kind : Here → Body → Bool
  kind h = is_found

  none_well : (es : List Effect) (ls : List Line) → saying.All none_by es → walks.Well in_restart hd is_found quiet no_halt st q e es ls
  none_well es ls all = walks.each_well in_restart hd is_found quiet no_halt st q e none_by pass es ls all
    where
      pass : (ls : List Line) (b : Body) → none_by b ≡ true → tested in_restart kind
          (walks.here_behind in_restart hd is_found quiet no_halt st q e ls) b ≡ true
      pass ls (body.Recovered n u) is = absurd (cc is)
      pass ls b is = λ i. is i || in_restart (walks.here_behind in_restart hd is_found quiet no_halt st q e ls) b

  restart_well : (k : ℕ) (es : List Effect) (ls : List Line) → restarts k e ≡ true → saying.All (only_by k) es →
      walks.Well in_restart hd is_found quiet no_halt st q e es ls
  restart_well k es ls asks all = walks.each_well in_restart hd is_found quiet no_halt st q e (only_by k) pass es ls all
    where
      pass : (ls : List Line) (b : Body) → only_by k b ≡ true → tested in_restart kind
          (walks.here_behind in_restart hd is_found quiet no_halt st q e ls) b ≡ true
      pass ls (body.Recovered n u) is = ap (λ j. restarts j e) (eqb-true n k is) ∙ asks
      pass ls b is = refl

  well : walks.SaysWell in_restart hd is_found quiet no_halt st q e (Wide KnowsNext)
  well = record {
    message = λ k d t v from m outs M known h there meant may is. none_well outs M.seen.lines (message_none k d t v from m outs is);
    act = λ k d t i M is brings fresh asks free known h. none_well (does i d.intents t.coord).outs M.seen.lines
        (coord_effects (does i d.intents t.coord).outs (acts_own i d.intents t.coord));
    begin = λ k d t l how parent M brings fresh new gives none known h.
        let did = begin_action l how parent (parent_of parent t.coord) t.coord in
        none_well did.outs M.seen.lines (coord_effects did.outs (acts_own (input.Begin l how parent) d.intents t.coord));
    tick = λ k d t M known h.
        let r = again_all t.coord.doings t.coord in
        none_well (tick_outs (record { number = k; disk = d; live = Some t }) t) M.seen.lines
        (all_both (saying.says none_by) (r.outs ++ tolds_again t.coord.telling) (map query_about (holders d t))
        (all_both (saying.says none_by) r.outs (tolds_again t.coord.telling) (coord_effects r.outs (again_own t.coord.doings t.coord))
        (coord_effects (tolds_again t.coord.telling) (tolds_again_own t.coord.telling)))
        (saying.map_says none_by query_about (holders d t) (λ u. refl)));
    restart = λ k d M its fresh known h. restart_well k (restart_outs hd k (d.inc + 1) d) M.seen.lines
        (ap (restarts k) (sym h.event ∙ its) ∙ same_number k) (restart_only hd k d);
  }

-- ---- both

-- what is known of a line by the lines before it
record IsRightLine (before : List Line) (b : Body) : Type 0 where
  pub right : AreRight new_book before
  pub its : Right (book before) b

to_cause : (h : Here) (b : Body) → is_found b ≡ true → IsRightLine h.lines b → in_restart h b ≡ true → has_cause h b ≡ true
to_cause h (body.Recovered n u) its k asks = λ i. asks i && found_so h.lines k.right n u k.its i
to_cause h b its k asks = absurd (cc asks)

pub found_row : RowHolds is_found
found_row hd r form =
    let lines = journal_by hd r in
    let right = right_lines hd r in
    let keeps = wide_all hd KnowsNext (next_keep hd) in
    tested_row IsRightLine is_found in_restart has_cause to_cause lines (λ before line behind is.
    let x = right_before new_book before line behind (subst (AreRight new_book) is right) in record { right = x.0; its = x.1 })
    hd r.start (run_events hd r)
    (row_run in_restart is_found quiet no_halt hd (Wide KnowsNext) keeps (nothing_more hd (Wide KnowsNext) keeps.steps)
    (λ st q e w between lines count. well hd st q e) r form)
