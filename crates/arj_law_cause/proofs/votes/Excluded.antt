-- What is excluded: while the commit is under way, of a top that has written the object or includes the store for it.
use Rattle.arj_law.proofs.Reading.{read_none}
use Rattle.arj_law_parts.proofs.Words
use Words.{◌≡◌, ◌∙◌, ◌&&◌, ◌||◌, ◌++◌, ◌+◌, not, ℕ, Bool, true, false, cond, List, [], ◌∷◌, Option, Some, None, refl, sym, ap, subst}
use Words.{⊎_elim, AllByRecursion, IfSome, and_parts, append-nil, append_assoc, list_all, map, numbered, or_cases, journal_by}
use Words.{Body, Disk, Do, Effect, Say, Send, Header, Label, Line, Message, Parts, Seen, Took, Uid, handle, name}
use Words.{again_all, begin_action, holders, parent_of, parts_in, query_about, restart_outs, tick_outs, tolds_again, with_coord, worked}
use Words.{Input, Machine, Committing, Doing, doing_of, end_line, CallEnd, Goal, Include, Run, plan_of, say_for, says}
use Words.{is_committing_now}
use Words.{acts as acts_of}
use Words.{Handled, Void, is_meant}
use Words.{acts_own, again_own, all_both, is_serial, tolds_again_own, AreAll, is_coord_effect, is_coord_line}
use Words.body
use Words.calls
use Words.commit
use Rattle.arj_law_disk_view.proofs.Terms.{or_left, or_right}
use Rattle.arj_law_lock_view.proofs.Terms.{Up, Walks, given, posted, said, up, walks_both}
use Rattle.arj_law_parts.proofs.moves.Moving.{moves_asked}
use Rattle.arj_law_parts.proofs.steps.Still.{Still, is_still, outs_of, says_still, taken_good}
use Rattle.arj_law_parts.specs.moves.Keeps.{KeepsAsked, is_act}
use Rattle.arj_law_parts.specs.moves.Seen.{AreQuiet, is_quiet_line}
use Rattle.arj_law_promise.proofs.Terms.{keeps_asked}
use Rattle.arj_law_runs.proofs.coordinators.RunCoords as coords
use Rattle.arj_law_runs.proofs.follow.Halts.{KnowsAll, halts_keep}
use Rattle.arj_law_runs.proofs.journal.{Books.book_more, Models.its_end, Models.its_acts, Models.named_in, Models.right_before}
use Rattle.arj_law_runs.proofs.kept.Walked.{same_number}
use Rattle.arj_law_runs.specs.journal.Book.{book, new_book}
use Rattle.arj_law_runs.specs.journal.Right.{AreRight, Right}
use Rattle.arj_law_serial.proofs.holding.Says as saying
use Rattle.arj_law_serial.proofs.joint.MarkMoves.{acts_stay}
use Rattle.arj_law_serial.proofs.whole.CalledSays.{acts_fine, both, is_apart, message_fine, restart_fine, tick_fine}
use Rattle.arj_law_serial.specs.whole.Called.{SayOf}
use Rattle.arj_model.specs.Actions.{Act, act_in, acts, ended, halt_of, halts, has_end, is_halted}
use Rattle.arj_model.specs.Actions as model
use Rattle.arj_model.specs.Calls.{committings}
use Rattle.arj_model.specs.CausePends.{has_written}
use Rattle.arj_model.specs.Last.{is_among, joins_of}
use Rattle.arj_model.specs.Refusals.{holds_of, is_committing, was_called}
use Rattle.arj_promise.specs.Runs.{HeaderFits, IsInForm, Run as RunOf}
use Rattle.arj_law_cause.proofs.confirm.Called.{is_called}
use Rattle.arj_law_cause.proofs.confirm.{Joined.IsEarly, Joined.early_before, Labels.right_rest, Reached.Reached, Reached.reached_has}
use Rattle.arj_law_cause.proofs.confirm.{Reached.reached_kept, Runs.runs_early, Spans.right_front}
use Rattle.arj_law_cause.proofs.kinds.Asking.{joins_later}
use Rattle.arj_law_cause.proofs.kinds.Committed.{right_lines}
use Rattle.arj_law_cause.proofs.kinds.Waiting.{called_is}
use Rattle.arj_law_cause.proofs.votes.{Asks.ChangesFor, Asks.its_act, Asks.its_name, Asks.sends_written, Growing.written_later}
use Rattle.arj_law_cause.proofs.votes.{Lines.AreFit, Lines.fit_at, Lines.fit_both, Lines.fit_each}
use Rattle.arj_law_cause.proofs.votes.{Marks.AreFor, Marks.IsFor, Marks.Marking, Marks.answered_for, Marks.given_for, Marks.marking}
use Rattle.arj_law_cause.proofs.waits.waiting.Acting as acting
use Rattle.arj_law_cause.proofs.waits.waiting.Waiting.{commit_is}

-- ---- what a line says

-- what the line excludes: by whom, of which object, which store
abbrev pub exclusion : Body → Option (Label × ℕ × ℕ)
exclusion (body.Excluded l x n) = Some (l, x, n)
exclusion b = None

-- The action's node hasn't halted, and the action has written the object or includes the store for it.
abbrev HasMarked : List Line → Label × ℕ × ℕ → Type 0
HasMarked lines m = IsEarly lines → AreRight new_book lines → (a : Act) × (act_in (let B = book lines in B.acts) (name m.0) ≡ Some a)
    × ChangesFor lines a.id m.1 m.2 × (is_halted (halts lines) a ≡ false)

abbrev IsMarked : List Line → Body → Type 0
IsMarked lines b = IfSome (exclusion b) (HasMarked lines)

changes_later : (ls ms : List Line) (id x s : ℕ) → ChangesFor ls id x s → ChangesFor (ls ++ ms) id x s
changes_later ls ms id x s on = ⊎_elim
    (λ wrote. or_left (has_written (ls ++ ms) id x) (is_among (joins_of (ls ++ ms) id x) s) (written_later ls ms id x wrote))
    (λ among. or_right (has_written (ls ++ ms) id x) (is_among (joins_of (ls ++ ms) id x) s) (joins_later ls ms id x s among))
    (or_cases (has_written ls id x) (is_among (joins_of ls id x) s) on)

-- so it is by more lines, by which no node halts
marked_later : (ls ms : List Line) → halts (ls ++ ms) ≡ halts ls → (b : Body) → IsMarked ls b → IsMarked (ls ++ ms) b
marked_later ls ms calm b = by (exclusion b)
  where
    by : (o : Option (Label × ℕ × ℕ)) → IfSome o (HasMarked ls) → IfSome o (HasMarked (ls ++ ms))
    by None so = tt
    by (Some m) so = λ early right. let z = so (early_before ls ms early) (right_front ls ms right) in (
      z.0,
      ap (λ B. act_in B.acts (name m.0)) (book_more new_book ls ms)
          ∙ acts_stay (book ls) ms (right_rest new_book ls ms right) (name m.0) z.0 z.1,
      changes_later ls ms (let a = z.0 in a.id) m.1 m.2 z.2,
      ap (λ hs. is_halted hs z.0) calm ∙ z.3,
    )

-- nobody halts by the line
abbrev goes_on : Body → Bool
goes_on (body.Halted n) = false
goes_on b = true

no_halt : (b : Body) → goes_on b ≡ true → (xs : List Act) → halt_of xs b ≡ None
no_halt (body.Halted n) is xs = absurd (cc is)
no_halt b is xs = refl

calm_lines : (e : ℕ) (bs : List Body) (ls : List Line) → list_all goes_on bs ≡ true → halts (ls ++ numbered e bs) ≡ halts ls
calm_lines e [] ls all = ap halts (append-nil ls)
calm_lines e (b ∷ bs) ls all =
    let line : Line = record { event = e; body = b } in
    let p = and_parts (goes_on b) (list_all goes_on bs) all in
    ap halts (sym (append_assoc ls (line ∷ []) (numbered e bs))) ∙ calm_lines e bs (ls ++ line ∷ []) p.1
    ∙ read_none halt_of ls line (no_halt b p.0 (acts ls))

quiet_on : (bs : List Body) → AreQuiet bs → list_all goes_on bs ≡ true
quiet_on [] quiet = refl
quiet_on (b ∷ bs) quiet = let p = and_parts (is_quiet_line b) (list_all is_quiet_line bs) quiet in λ i. one b p.0 i && quiet_on bs p.1 i
  where
    one : (c : Body) → is_quiet_line c ≡ true → goes_on c ≡ true
    one (body.Halted n) is = absurd (cc is)
    one c is = refl

quiet_so : (b : Body) → is_quiet_line b ≡ true → (lines : List Line) → IsMarked lines b
quiet_so (body.Excluded l x n) is lines = absurd (cc is)
quiet_so b is lines = tt

apart_so : (lines : List Line) (b : Body) → is_apart b ≡ false → IsMarked lines b
apart_so lines (body.Excluded l x n) is = absurd (cc is)
apart_so lines b is = tt

end_so : (lines : List Line) (x : ℕ) (g : Goal) (e : CallEnd) (l : Label) → IsMarked lines (end_line x g e l)
end_so lines x (Run o) (calls.Answered a) l = tt
end_so lines x (Include n) (calls.Answered a) l = tt
end_so lines x g (calls.Included st) l = tt
end_so lines x g (calls.Conflict h m n) l = tt
end_so lines x g (calls.Changed n w) l = tt
end_so lines x g (calls.Lost n b) l = tt

committing_so : (lines : List Line) (o : Option Doing) → AllByRecursion (SayOf (IsMarked lines)) (say_for body.Committing o)
committing_so lines None = tt
committing_so lines (Some d) = (tt, tt)

still_on : (es : List Effect) → Still es → saying.All goes_on es
still_on [] all = refl
still_on (Say b ∷ es) all = let p = and_parts (is_still b) (list_all says_still es) all in λ i. one b p.0 i && still_on es p.1 i
  where
    one : (c : Body) → is_still c ≡ true → goes_on c ≡ true
    one (body.Halted n) is = absurd (cc is)
    one c is = refl
still_on (Send to m ∷ es) all = still_on es all
still_on (Do w ∷ es) all = still_on es all

coord_line_on : (b : Body) → is_coord_line b ≡ true → goes_on b ≡ true
coord_line_on (body.Halted n) is = absurd (cc is)
coord_line_on b is = refl

coord_on : (es : List Effect) → AreAll is_coord_effect es → saying.All goes_on es
coord_on = saying.kind_says goes_on is_coord_effect is_coord_line (λ b. refl) coord_line_on

-- a message that is taken halts nobody
message_on : (k : ℕ) (d : Disk) (t v : Parts) (from : ℕ) (m : Message) (outs : List Effect) → is_meant t m ≡ true →
    handle k d t from m ≡ Took v outs → saying.All goes_on outs
message_on k d t v from m outs meant is = still_on outs (subst (λ (h : Handled). Still (outs_of h))
    ((λ i. cond (meant i) (handle k d t from m) (Void [])) ∙ is) (taken_good k d t from m))

-- ---- lines so far

abbrev LinesMarked : Seen → Type 0
LinesMarked M = AreFit IsMarked [] M.lines

abbrev AreMarked : List Line → List Effect → Type 0
AreMarked lines es = AllByRecursion (SayOf (IsMarked lines)) es

quiet_lines : (e : ℕ) (bs : List Body) (M : Seen) → AreQuiet bs → LinesMarked M → LinesMarked (said e bs M)
quiet_lines e bs M quiet h = fit_both IsMarked [] M.lines (numbered e bs) h (fit_each IsMarked M.lines e bs (each bs quiet))
  where
    each : (xs : List Body) → AreQuiet xs → AllByRecursion (λ b. (ls : List Line) → IsMarked ls b) xs
    each [] all = tt
    each (b ∷ xs) all = let p = and_parts (is_quiet_line b) (list_all is_quiet_line xs) all in (quiet_so b p.0, each xs p.1)

one_line : (e : ℕ) (b : Body) (M : Seen) → IsMarked M.lines b → LinesMarked M → LinesMarked (said e (b ∷ []) M)
one_line e b M its h = fit_both IsMarked [] M.lines (numbered e (b ∷ [])) h (its, tt)

grown : (es : List Effect) (ls ms : List Line) → halts (ls ++ ms) ≡ halts ls → AreMarked ls es → AreMarked (ls ++ ms) es
grown [] ls ms calm so = tt
grown (Say c ∷ es) ls ms calm so = (marked_later ls ms calm c so.0, grown es ls ms calm so.1)
grown (Do w ∷ es) ls ms calm so = (tt, grown es ls ms calm so.1)
grown (Send to m ∷ es) ls ms calm so = (tt, grown es ls ms calm so.1)

walk : (e k : ℕ) (v : Parts) (outs : List Effect) (d : Disk) (M : Seen) → AreMarked M.lines outs → saying.All goes_on outs → LinesMarked M →
    Walks LinesMarked e k outs (Up LinesMarked k v) d M
walk e k v [] d M so on h = h
walk e k v (Do w ∷ es) d M so on h = ((λ how. one_line e (body.Halted k) M tt h), walk e k v es (worked w d) M so.1 on h)
walk e k v (Say b ∷ es) d M so on h =
    let p = and_parts (goes_on b) (list_all (saying.says goes_on) es) on in
    walk e k v es d (said e (b ∷ []) M) (grown es M.lines (numbered e (b ∷ [])) (calm_lines e (b ∷ []) M.lines (λ i. p.0 i && true)) so.1)
    p.1 (one_line e b M so.0 h)
walk e k v (Send to m ∷ es) d M so on h = λ more quiet. walk e k v es d (said e more (posted (record { from = k; to = to; message = m }) M))
    (grown es M.lines (numbered e more) (calm_lines e more M.lines (quiet_on more quiet)) so.1) on (quiet_lines e more M quiet h)

-- ---- at a coordinator

module _ (hd : Header) (form : HeaderFits hd) (k : ℕ) (d : Disk) (t : Parts) (M : Seen) (r : Reached hd (up k d t M)) where
  here : (up k d t M).nodes k ≡ Some (record { number = k; disk = d; live = Some t })
  here = λ i. cond (same_number k i) (Some (record { number = k; disk = d; live = Some t })) (M.nodes k)

  all : KnowsAll (up k d t M)
  all = reached_has hd KnowsAll (keeps_asked hd KnowsAll (halts_keep hd)) (up k d t M) r

  its : Marking t.coord
  its =
      let f : coords.IsSo Marking marking (up k d t M) = reached_has hd (coords.IsSo Marking marking)
      (keeps_asked hd (coords.IsSo Marking marking) (coords.all_keep_so Marking marking hd)) (up k d t M) r in
      f.1 k (record { number = k; disk = d; live = Some t }) t here refl

  module _ (u : Uid) (q : Doing) (m : Machine) (found : doing_of u t.coord ≡ Some q) (now : q.now ≡ Committing m) where
    under : is_committing M.lines (name q.label) ≡ true
    under = commit_is (up k d t M) all k (record { number = k; disk = d; live = Some t }) t here refl u q found
        (acting.stands (up k d t M) all k (record { number = k; disk = d; live = Some t }) t here refl u q found) ∙ ap is_committing_now now

    unhalted : AreRight new_book M.lines → is_halted (halts M.lines) (its_act hd form k d t M r u q m found now) ≡ false
    unhalted right =
        let b = its_act hd form k d t M r u q m found now in
        let at : act_in (acts M.lines) (name q.label) ≡ Some b = ap (λ xs. act_in xs (name q.label)) (sym (its_acts M.lines right))
        ∙ its_name hd form k d t M r u q m found now in
        let is = sym (ap (holds_of (λ (z : Act). was_called (committings M.lines) z.id && not (model.is_over M.lines z))) at) ∙ under in
        off (has_end (ended M.lines) b.id) (is_halted (halts M.lines) b)
        (and_parts (was_called (committings M.lines) b.id) (not (model.is_over M.lines b)) is).1
      where
        off : (x y : Bool) → not (x || y) ≡ true → y ≡ false
        off true y e = absurd (cc e)
        off false true e = absurd (cc e)
        off false false e = refl

    one_so : (z : ℕ × ℕ) → IsFor (plan_of m) z → IsMarked M.lines (body.Excluded q.label z.0 z.1)
    one_so z its early right = (
      its_act hd form k d t M r u q m found now,
      its_name hd form k d t M r u q m found now,
      subst (λ x. ChangesFor M.lines (let b = its_act hd form k d t M r u q m found now in b.id) x z.1) its.2
          (sends_written hd form k d t M r u q m found now early z.1 its.0 its.1),
      unhalted right,
    )

    marks_so : (marks : List (ℕ × ℕ)) → AreFor (plan_of m) marks →
        AllByRecursion (λ (z : ℕ × ℕ). IsMarked M.lines (body.Excluded q.label z.0 z.1)) marks
    marks_so [] are = tt
    marks_so (z ∷ marks) are = (one_so z are.0, marks_so marks are.1)

  message_marked : (v : Parts) (from : ℕ) (m : Message) (outs : List Effect) → handle k d t from m ≡ Took v outs → AreMarked M.lines outs
  message_marked v from m outs is = message_fine (IsMarked M.lines) (apart_so M.lines) k d t v from m outs is
      (λ a q z s some found now waits e at l. end_so M.lines s.x s.goal e l)
      (λ a q z c some found now. marks_so a.act z c found now (commit.answered from c q).marks
      (answered_for a.act from c q (its a.act z c found now)))

  acts_marked : (i : Input) → is_act i ≡ true → AreMarked M.lines (acts_of i d.intents t.coord).outs
  acts_marked i is = acts_fine (IsMarked M.lines) (apart_so M.lines) (AreMarked M.lines) (λ es all. all) t.coord i d.intents
      (λ l how parent same. let no_way : false ≡ true = sym (ap is_act same) ∙ is in cc no_way)
      (λ u z s found now e at l. end_so M.lines s.x s.goal e l)
      (λ u z m found now. marks_so u z m found now (commit.given_up m).marks (given_for u m (its u z m found now)))
      (λ l same u es all. both (IsMarked M.lines) (apart_so M.lines) (says u body.Committing t.coord) es
      (committing_so M.lines (doing_of u t.coord)) all)

-- ---- in every run

module _ (hd : Header) (form : HeaderFits hd) where
  beside : (e k : ℕ) (v : Parts) (outs : List Effect) (d : Disk) (M : Seen) → AreMarked M.lines outs → saying.All goes_on outs →
      LinesMarked M → Walks (Reached hd) e k outs (Up (Reached hd) k v) d M →
      Walks (λ N. Reached hd N × LinesMarked N) e k outs (Up (λ N. Reached hd N × LinesMarked N) k v) d M
  beside e k v outs d M so on h base = walks_both (Reached hd) LinesMarked e k outs (Up (Reached hd) k v) (Up LinesMarked k v) d M base
      (walk e k v outs d M so on h)

  marked_keep : KeepsAsked hd (λ M. Reached hd M × LinesMarked M)
  marked_keep = let keeps = reached_kept hd in record {
    quiet = λ e bs M quiet g. (keeps.quiet e bs M quiet g.0, quiet_lines e bs M quiet g.1);
    stop = λ e k d live M g. (keeps.stop e k d live M g.0, one_line e (body.Halted k) M tt g.1);
    message = λ e k d t v from m outs M g there meant is. beside e k v outs d M
        (message_marked hd form k d t M g.0 v from m outs is)
        (message_on k d t v from m outs meant is) g.1 (keeps.message e k d t v from m outs M g.0 there meant is);
    act = λ e k d t i M is asks free g. let did = acts_of i d.intents t.coord in beside e k (with_coord t did.part) did.outs d M
        (acts_marked hd form k d t M g.0 i is)
        (coord_on did.outs (acts_own i d.intents t.coord)) g.1 (keeps.act e k d t i M is asks free g.0);
    begin = λ e k d t l how parent M new may free g. let did = begin_action l how parent (parent_of parent t.coord) t.coord in
        let N = given l (record { node = k; serial = is_serial how }) M in beside e k (with_coord t did.part) did.outs d N (tt, tt) refl g.1
        (keeps.begin e k d t l how parent M new may free g.0);
    tick = λ e k d t M g. let r = again_all t.coord.doings t.coord in
        let outs = tick_outs (record { number = k; disk = d; live = Some t }) t in beside e k (with_coord t r.part) outs d M
        (tick_fine (IsMarked M.lines) (apart_so M.lines) (record { number = k; disk = d; live = Some t }) t)
        (all_both (saying.says goes_on) (r.outs ++ tolds_again t.coord.telling) (map query_about (holders d t))
        (all_both (saying.says goes_on) r.outs (tolds_again t.coord.telling) (coord_on r.outs (again_own t.coord.doings t.coord))
        (coord_on (tolds_again t.coord.telling) (tolds_again_own t.coord.telling)))
        (saying.map_says goes_on query_about (holders d t) (λ u. refl))) g.1 (keeps.tick e k d t M g.0);
    restart = λ e k d M g. let outs = restart_outs hd k (d.inc + 1) d in beside e k (parts_in k (d.inc + 1) d) outs d M
        (restart_fine (IsMarked M.lines) (apart_so M.lines) hd k (d.inc + 1) d)
        (saying.restart_says goes_on hd k (d.inc + 1) d coord_line_on (λ is u o how. refl) (λ u. refl) refl) g.1
        (keeps.restart e k d M g.0);
    first = λ st formed. (keeps.first st formed, tt);
  }

  lines_marked : (r : RunOf hd) → AreFit IsMarked [] (journal_by hd r)
  lines_marked r = let h = moves_asked hd (λ M. Reached hd M × LinesMarked M) marked_keep r in h.holds.1

-- ---- what is known of a line that excludes a store

pub record IsExcludedLine (before : List Line) (b : Body) : Type 0 where
  pub right : AreRight new_book before
  pub its : Right (book before) b
  pub early : IsEarly before
  pub marked : IsMarked before b

-- its commit is under way, of a top that has written the object or includes the store for it
pub record IsExcluding (lines : List Line) (l : Label) (x n : ℕ) : Type 0 where
  pub act : Act
  pub named : act_in (acts lines) (name l) ≡ Some act
  pub changed : ChangesFor lines act.id x n
  pub called : is_called lines act.uid
  pub opened : model.is_over lines act ≡ false
  pub under : is_committing lines (name l) ≡ true

pub excluding : (lines : List Line) (l : Label) (x n : ℕ) → IsExcludedLine lines (body.Excluded l x n) → IsExcluding lines l x n
excluding lines l x n k = record {
  act = a;
  named = named;
  changed = subst (λ (b : Act). ChangesFor lines b.id x n) same z.2;
  called = (let r = k.its in r.2);
  opened = open_yet;
  under = ap (holds_of (λ (c : Act). was_called (committings lines) c.id && not (model.is_over lines c))) named
      ∙ (λ i. (called_is lines k.right a (named_in (acts lines) (name l) a named) ∙ (let r = k.its in r.2)) i && not (open_yet i));
}
  where
    z : (a : Act) × (act_in (let B = book lines in B.acts) (name l) ≡ Some a) × ChangesFor lines a.id x n
        × (is_halted (halts lines) a ≡ false)
    z = k.marked k.early k.right

    a : Act
    a = (let r = k.its in r.0)

    same : z.0 ≡ a
    same = let e : ◌≡◌ {A = Option Act} (Some z.0) (Some a) = sym z.1 ∙ (let r = k.its in let o = r.1 in o.named) in cc e

    named : act_in (acts lines) (name l) ≡ Some a
    named = let r = k.its in let o = r.1 in ap (λ xs. act_in xs (name l)) (sym (its_acts lines k.right)) ∙ o.named

    unended : has_end (ended lines) (let b = a in b.id) ≡ false
    unended = its_end lines k.right a (named_in (acts lines) (name l) a named) ∙ (let r = k.its in let o = r.1 in o.unended)

    open_yet : model.is_over lines a ≡ false
    open_yet = λ i. unended i || (ap (is_halted (halts lines)) (sym same) ∙ z.3) i

-- so much is known of each line of a run
pub each_excluded : (hd : Header) (r : RunOf hd) → IsInForm hd r → (before : List Line) (line : Line) (behind : List Line) →
    journal_by hd r ≡ before ++ line ∷ behind → IsExcludedLine before line.body
each_excluded hd r form before line behind is =
    let x = right_before new_book before line behind (subst (AreRight new_book) is (right_lines hd r)) in record {
      right = x.0;
      its = x.1;
      early = early_before before (line ∷ behind) (subst IsEarly is (runs_early hd r form));
      marked = fit_at IsMarked [] before line behind (subst (AreFit IsMarked []) is (lines_marked hd form.header r));
    }
