-- In every run naming was asked to confirm the commit of each action of which a line says an exclusion.
use Rattle.arj_law_parts.proofs.Words
use Words.{◌≡◌, ◌⊎◌, ◌||◌, ◌++◌, ◌∙◌, ◌+◌, ℕ, Bool, true, false, cond, List, [], ◌∷◌, Some, ap, inl, inr, refl, subst, sym, ⊎_elim}
use Words.{bytes_eq-Decides, In, in_from, in_to, actor, again_all, begin_action, Preparing, Disk, Do, Effect, Say, Send, stopped, worked}
use Words.{tick_outs, Parts, with_coord, acts as acts_of, parent_of, parts_in, restart_outs, Body, Header, Line, name}
use Words.{numbered, Post, Seen, world_by, is_serial}
use Words.body
use Rattle.arj_law_serial.proofs.Terms
use Terms.{KeepsGiven, kept_both, book, AreIdle, IsKept, or_which, in_later, its_acts, named_in, acts_more, lines_keep, named_label, Act}
use Terms.{acts, paths_of, IsBusy, IsGoodCoord, IsVoting, actor_is, good_coord, one_tree, same_number, AreQuiet, given, posted}
use Terms.{said as said_lines, up, Up, Walks, halted, kept_holds, moves_keep, MarksAreAsked, MarksAreSaid, WasAsked, excludes, was_marked}
use Terms.seen
use Rattle.arj_law_serial.proofs.joint
use joint.{MarkStates.or_false}
use joint.MarkMoves.{Confirms, IsMarking, NoMark, apart_none, said_in, unmarked_said, or_more}
use joint.MarkRuns.{IsNamed, act_moved, marked_more, marks_given, message_moved, named_at, same_marked}
use Rattle.arj_law_serial.proofs.whole.CalledSays.{restart_fine, tick_fine}
use Rattle.arj_law_serial.specs.joint.Marked.{RunsAskMarks}

-- ---- it stays so

acts_grow : (ls ks : List Line) (a : Act) → In a (acts ls) → In a (acts (ls ++ ks))
acts_grow ls ks a i = subst (In a) (sym (acts_more [] ls ks)) (in_later ks (acts ls) a i)

asked_more : (ls ks : List Line) (sent many : List Post) (l : List ℕ) → ((p : Post) → seen.In p sent → seen.In p many) →
    WasAsked ls sent l → WasAsked (ls ++ ks) many l
asked_more ls ks sent many l within w = record {
  act = w.act;
  there = in_to w.act (acts (ls ++ ks)) (acts_grow ls ks w.act (in_from w.act (acts ls) w.there));
  label = w.label;
  post = w.post;
  posted = within w.post w.posted;
  confirms = w.confirms;
}

-- ---- along effects

-- with these effects naming is asked to confirm the commit of the action with this name, and nothing is done on the disk
abbrev IsAsking : List Effect → List Line → List ℕ → Type 0
IsAsking outs lines l = AreIdle outs × ((a : Act) × In a (acts lines) × (a.label ≡ l) × Confirms a.uid outs)

-- of whom an exclusion is said, or will be with these effects, naming was asked, or will be
abbrev AreAsked : List Effect → Seen → Type 0
AreAsked outs M = (l : List ℕ) (x s : ℕ) → (was_marked M.lines l x s || said_in outs l x s) ≡ true →
    WasAsked M.lines M.sent l ⊎ IsAsking outs M.lines l

or_left : (a b : Bool) → a ≡ true → (a || b) ≡ true
or_left a b is = ap (λ z. z || b) is

halted_so : (e k : ℕ) (d : Disk) (M : Seen) → MarksAreAsked M → MarksAreAsked (halted e k d M)
halted_so e k d M all l x s on = asked_more M.lines (numbered e (body.Halted k ∷ [])) M.sent M.sent l (λ p i. i)
    (all l x s (sym (marked_more M.lines (numbered e (body.Halted k ∷ [])) l x s ∙ or_false (was_marked M.lines l x s)) ∙ on))

walk : (e k : ℕ) (v : Parts) (outs : List Effect) (d : Disk) (M : Seen) → AreAsked outs M →
    Walks MarksAreAsked e k outs (Up MarksAreAsked k v) d M
walk e k v [] d M are = λ l x s on. ⊎_elim (λ asked. asked) (λ (none : IsAsking [] M.lines l). absurd (let z = none.1 in z.3))
    (are l x s (or_left (was_marked M.lines l x s) false on))
walk e k v (Do w ∷ es) d M are = (
  λ how. halted_so e k (stopped how w d) M was,
  walk e k v es (worked w d) M (λ l x s on.
      inl (⊎_elim (λ asked. asked) (λ (none : IsAsking (Do w ∷ es) M.lines l). absurd (let z = none.0 in z.0)) (are l x s on))),
)
  where
    was : MarksAreAsked M
    was l x s on = ⊎_elim (λ asked. asked) (λ (none : IsAsking (Do w ∷ es) M.lines l). absurd (let z = none.0 in z.0))
        (are l x s (or_left (was_marked M.lines l x s) (said_in es l x s) on))
walk e k v (Say b ∷ es) d M are = walk e k v es d (said_lines e (b ∷ []) M) next
  where
    new : List Line
    new = numbered e (b ∷ [])

    same : (l : List ℕ) (x s : ℕ) → (was_marked (M.lines ++ numbered e (b ∷ [])) l x s || said_in es l x s)
        ≡ (was_marked M.lines l x s || (excludes l x s b || said_in es l x s))
    same l x s = ap (λ z. z || said_in es l x s) (marked_more M.lines (numbered e (b ∷ [])) l x s)
        ∙ sym (or_more (was_marked M.lines l x s) (excludes l x s b || false) (said_in es l x s))
        ∙ ap (λ z. was_marked M.lines l x s || (z || said_in es l x s)) (or_false (excludes l x s b))

    next : AreAsked es (said_lines e (b ∷ []) M)
    next l x s on = ⊎_elim
        (λ (asked : WasAsked M.lines M.sent l). inl (asked_more M.lines new M.sent M.sent l (λ p i. i) asked))
        (λ (r : IsAsking (Say b ∷ es) M.lines l). inr (r.0.1, (let z = r.1 in (z.0, acts_grow M.lines new z.0 z.1, z.2, z.3))))
        (are l x s (sym (same l x s) ∙ on))
walk e k v (Send to m ∷ es) d M are =
    λ more quiet. walk e k v es d (said_lines e more (posted (record { from = k; to = to; message = m }) M)) (next more quiet)
  where
    now : Post
    now = record { from = k; to = to; message = m }

    sent : List Post
    sent = record { from = k; to = to; message = m } ∷ M.sent

    next : (more : List Body) → AreQuiet more → AreAsked es (said_lines e more (posted (record { from = k; to = to; message = m }) M))
    next more quiet l x s on = ⊎_elim
        (λ (asked : WasAsked M.lines M.sent l). inl (asked_more M.lines (numbered e more) M.sent sent l (λ p i. inr i) asked))
        (λ (r : IsAsking (Send to m ∷ es) M.lines l). by r.0 r.1)
        (are l x s (ap (λ z. z || said_in es l x s) (sym (same_marked e more M.lines quiet l x s)) ∙ on))
      where
        by : AreIdle (Send to m ∷ es) → ((a : Act) × In a (acts M.lines) × (a.label ≡ l) × Confirms a.uid (Send to m ∷ es)) →
            WasAsked (M.lines ++ numbered e more) sent l ⊎ IsAsking es (M.lines ++ numbered e more) l
        by idle (a, there, label, inl here) = inl (record {
          act = a;
          there = in_to a (acts (M.lines ++ numbered e more)) (acts_grow M.lines (numbered e more) a there);
          label = label;
          post = now;
          posted = inl refl;
          confirms = here;
        })
        by idle (a, there, label, inr behind) = inr (idle.1, (a, acts_grow M.lines (numbered e more) a there, label, behind))

-- ---- each handler

unmarked_asked : (outs : List Effect) (M : Seen) → ((l : List ℕ) (x s : ℕ) → said_in outs l x s ≡ false) → MarksAreAsked M → AreAsked outs M
unmarked_asked outs M none all l x s on =
    inl (all l x s (sym (ap (λ z. was_marked M.lines l x s || z) (none l x s) ∙ or_false (was_marked M.lines l x s)) ∙ on))

module _ (e k : ℕ) (d : Disk) (t : Parts) (M : Seen) (kept : IsKept (up k d t M)) (asked : MarksAreAsked (up k d t M)) where
  -- whose marks these effects say naming is asked for
  of_marking : (outs : List Effect) (l : List ℕ) → IsMarking t.coord outs l → IsAsking outs M.lines l
  of_marking outs l mark = (
    mark.idle,
    (
      named.act,
      there,
      named_label (book M.lines).acts (name (let q = mark.doing in q.label)) named.act named.named
          ∙ (bytes_eq-Decides (name (let q = mark.doing in q.label)) l).0 mark.named,
      subst (λ u. Confirms u outs) (its_actor ∙ sym named.uid) mark.asked,
    ),
  )
    where
      good : IsGoodCoord (let g = kept.0 in g.0) (paths_of (let g = kept.0 in g.0)) t.coord
      good = good_coord 0 k d t M kept.0

      voting : IsVoting t.coord.tree mark.action mark.plan
      voting = subst (IsBusy t.coord.tree mark.action) mark.now (good.busy mark.action mark.doing mark.found)

      its_actor : actor (let p = mark.plan in p.path) ≡ mark.action
      its_actor = actor_is (let g = kept.0 in g.0) (paths_of (let g = kept.0 in g.0)) (one_tree 0 k d t M kept.0) mark.action
          (let p = mark.plan in p.path) t.coord good voting.asking

      named : IsNamed (up k d t M) k mark.action mark.doing
      named = named_at (up k d t M) kept k (record { number = k; disk = d; live = Some t }) t mark.action mark.doing
          (Preparing mark.plan mark.left) (λ i. cond (same_number k i) (Some (record { number = k; disk = d; live = Some t })) (M.nodes k))
          refl mark.found mark.now

      there : In named.act (acts M.lines)
      there = subst (In named.act) (its_acts M.lines (let w = kept.1 in w.right))
          (named_in (book M.lines).acts (name (let q = mark.doing in q.label)) named.act named.named)

  moves_asked : (outs : List Effect) → ((l : List ℕ) (x s : ℕ) → (said_in outs l x s ≡ false) ⊎ IsMarking t.coord outs l) → AreAsked outs M
  moves_asked outs whose l x s on = ⊎_elim
      (λ old. inl (asked l x s old))
      (λ new. ⊎_elim (λ (none : said_in outs l x s ≡ false). let no_way : true ≡ false = sym new ∙ none in
      absurd (cc no_way)) (λ (mark : IsMarking t.coord outs l). inr (of_marking outs l mark)) (whose l x s))
      (or_which (was_marked M.lines l x s) (said_in outs l x s) on)

-- beside good nodes, the journal and what commits under way have said
pub asks_given : (hd : Header) → KeepsGiven hd (λ M. IsKept M × MarksAreSaid M) MarksAreAsked
asks_given hd = record {
  quiet = λ e bs M quiet g p l x s on.
      asked_more M.lines (numbered e bs) M.sent M.sent l (λ q i. i) (p l x s (sym (same_marked e bs M.lines quiet l x s) ∙ on));
  stop = λ e k d live M g p. halted_so e k d M p;
  message = λ e k d t v from m outs M g p there meant is.
      walk e k v outs d M (moves_asked e k d t M g.0 p outs (let w = message_moved e k d t M g.0 g.1 v from m outs is in w.whose));
  act = λ e k d t i M is free g p. let did = acts_of i d.intents t.coord in walk e k (with_coord t did.part) did.outs d M
      (moves_asked e k d t M g.0 p did.outs (let w = act_moved e k d t M g.0 g.1 hd i is free in w.whose));
  begin = λ e k d t l how parent M new may free g p.
      let did = begin_action l how parent (parent_of parent t.coord) t.coord in
      walk e k (with_coord t did.part) did.outs d (given l (record { node = k; serial = is_serial how }) M)
      (unmarked_asked did.outs (given l (record { node = k; serial = is_serial how }) M) (λ y x s. refl) p);
  tick = λ e k d t M g p.
      let outs = tick_outs (record { number = k; disk = d; live = Some t }) t in
      walk e k (with_coord t (again_all t.coord.doings t.coord).part) outs d M
      (unmarked_asked outs M (unmarked_said outs (tick_fine NoMark apart_none (record { number = k; disk = d; live = Some t }) t)) p);
  restart = λ e k d M g p.
      let outs = restart_outs hd k (d.inc + 1) d in
      walk e k (parts_in k (d.inc + 1) d) outs d M
      (unmarked_asked outs M (unmarked_said outs (restart_fine NoMark apart_none hd k (d.inc + 1) d)) p);
  first = λ st formed l x s on. let no_way : false ≡ true = on in absurd (cc no_way);
}

pub runs_ask_marks : RunsAskMarks
runs_ask_marks hd r =
    let h = kept_holds hd (world_by hd r) (moves_keep hd r) (λ M. (IsKept M × MarksAreSaid M) × MarksAreAsked M) (kept_both hd (λ M.
    IsKept M × MarksAreSaid M) MarksAreAsked (kept_both hd IsKept MarksAreSaid (lines_keep hd) (marks_given hd)) (asks_given hd)) in
    record { sent = h.sent; stands = h.stands; holds = h.holds.1 }
