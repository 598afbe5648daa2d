-- Which exclusions a handler's effects say, and which commits are under way behind it.
use Rattle.arj_law_parts.proofs.Words
use Words.{◌≡◌, ◌≢◌, ◌⊎◌, ◌||◌, ◌==◌, ◌&&◌, ◌++◌, ◌∙◌, ℕ, Bool, true, false, cond, List, [], ◌∷◌, Option, Some, None, ap, inl, inr, refl}
use Words.{subst, sym, ⊎_elim, AllByRecursion, bytes_eq, bytes_eq-Decides, Reply, actor, answers, call, call_steps, next_req, renewed}
use Words.{commit_action, commit_open, commit_top, end_line, gaveup_lines, give_up, give_up_call, give_up_doing, gives_up, heard, heard_by}
use Words.{heard_call, heard_doing, heard_none, heard_now, include, last_req, mark_lines, moved_commit, step_commit, waits_for_call}
use Words.{waits_for_commit, CallEnd, Goal, Include, Run, Steps, next_node, Aborts, Asks, CommitStep, Confirming, Decides, Machine, Marked}
use Words.{Plan, Preparing, Stays, Used, Voting, begin_confirm, further, marks_store, marks_stores, nodes_given_up, stores_left}
use Words.{unbound, with_number, without_number, Keeping, Root, is_free, keeping_of, on_root, with_keeping, Calling, Committing, Coord}
use Words.{Doing, Idle, Now, doing_of, plan_for, root_at, Did, Disk, Do, Effect, Intent, Say, Send, Served, abort_action, aborts_with}
use Words.{ends_with, say_for, says, Parts, Took, handle, Input, acts, branch_named, on_branch, Branch, open_below, root_of, uses_object}
use Words.{Asked, Body, End, Kind, Label, Line, Message, Path, Uid, name, is_on, is_empty}
use Words.calls
use Words.commit
use Words.input
use Words.body
use Words.cause
use Words.ending
use Words.kind
use Words.prepared
use Words.voted
use Rattle.arj_law_serial.proofs.Terms
use Terms.{all_append, Book, book_from, turned, AreIdle, AreRight, Right, later_from, still_named, handled_answer, response_is, took_heard}
use Terms.{SayOf, Act, act_in, uses_same, all_flat, ConfirmsFor, FitsMarks, excludes, was_marked}
use Rattle.arj_law_runs.specs.journal.Knows.{IsIdle}
use Rattle.arj_law_serial.proofs.joint
use joint.MarkStates.{All, AllBut, FitsMoved, FitsStep, GoesOn, aborted_all, acked_same, all_same, among, answered_fits, begin_fits, but}
use joint.MarkStates.{call_all, ended_all, fits_same, goes_all, lost_fits, moved_all, or_false, own_all, plus}
use Rattle.arj_law_serial.proofs.whole.CalledSays.{abort_fine, call_fine, ends_fine, is_apart, message_fine, step_fine}
use Rattle.arj_law_serial.proofs.whole.CoordCases.{CoordCase, coord_case}
use Rattle.arj_law_serial.proofs.whole.CoordCases as cases

-- ---- what effects say

abbrev pub said_in : List Effect → List ℕ → ℕ → ℕ → Bool
said_in [] l x s = false
said_in (Say b ∷ es) l x s = excludes l x s b || said_in es l x s
said_in (Send to m ∷ es) l x s = said_in es l x s
said_in (Do w ∷ es) l x s = said_in es l x s

-- the line says no exclusion
abbrev pub NoMark : Body → Type 0
NoMark b = (l : List ℕ) (x s : ℕ) → excludes l x s b ≡ false

abbrev pub Unmarked : List Effect → Type 0
Unmarked outs = AllByRecursion (SayOf NoMark) outs

pub apart_none : (b : Body) → is_apart b ≡ false → NoMark b
apart_none (body.Excluded m y n) none l x s = absurd (cc none)
apart_none b none l x s = refl

end_none : (x : ℕ) (g : Goal) (e : CallEnd) (l : Label) → NoMark (end_line x g e l)
end_none x (Run o) (calls.Answered a) l k y s = refl
end_none x (Include n) (calls.Answered a) l k y s = refl
end_none x g (calls.Included st) l k y s = refl
end_none x g (calls.Conflict h m n) l k y s = refl
end_none x g (calls.Changed n w) l k y s = refl
end_none x g (calls.Lost n b) l k y s = refl

pub or_more : (a b c : Bool) → (a || (b || c)) ≡ ((a || b) || c)
or_more true b c = refl
or_more false b c = refl

and_none : (b : Bool) → (b && false) ≡ false
and_none true = refl
and_none false = refl

and_or : (b p q : Bool) → ((b && p) || (b && q)) ≡ (b && (p || q))
and_or true p q = refl
and_or false p q = refl

pub unmarked_said : (es : List Effect) → Unmarked es → (l : List ℕ) (x s : ℕ) → said_in es l x s ≡ false
unmarked_said [] none l x s = refl
unmarked_said (Say b ∷ es) none l x s = λ i. none.0 l x s i || unmarked_said es none.1 l x s i
unmarked_said (Send to m ∷ es) none l x s = unmarked_said es none.1 l x s
unmarked_said (Do w ∷ es) none l x s = unmarked_said es none.1 l x s

pub said_on : (es fs : List Effect) (l : List ℕ) (x s : ℕ) → said_in (es ++ fs) l x s ≡ (said_in es l x s || said_in fs l x s)
said_on [] fs l x s = refl
said_on (Say b ∷ es) fs l x s =
    ap (λ z. excludes l x s b || z) (said_on es fs l x s) ∙ or_more (excludes l x s b) (said_in es l x s) (said_in fs l x s)
said_on (Send to m ∷ es) fs l x s = said_on es fs l x s
said_on (Do w ∷ es) fs l x s = said_on es fs l x s

-- the marks of an action, by its name
said_marks : (u : Uid) (marks : List (ℕ × ℕ)) (c : Coord) (d : Doing) → doing_of u c ≡ Some d → (l : List ℕ) (x s : ℕ) →
    said_in (mark_lines u marks c) l x s ≡ (bytes_eq (name d.label) l && among marks x s)
said_marks u [] c d found l x s = sym (and_none (bytes_eq (name d.label) l))
said_marks u (z ∷ marks) c d found l x s =
    said_on (says u (λ n. body.Excluded n z.0 z.1) c) (mark_lines u marks c) l x s
    ∙ (λ i. said_in (say_for (λ n. body.Excluded n z.0 z.1) (found i)) l x s || said_marks u marks c d found l x s i)
    ∙ ap (λ b. b || (bytes_eq (name d.label) l && among marks x s)) (or_false (bytes_eq (name d.label) l && ((z.0 == x) && (z.1 == s))))
    ∙ and_or (bytes_eq (name d.label) l) ((z.0 == x) && (z.1 == s)) (among marks x s)

-- a line about an action is said, and nothing is done on the disk
say_idle : (u : Uid) (f : Label → Body) (c : Coord) → AreIdle (says u f c)
say_idle u f c = by (doing_of u c)
  where
    by : (o : Option Doing) → AreIdle (say_for f o)
    by None = tt
    by (Some d) = (tt, tt)

marks_idle : (u : Uid) (marks : List (ℕ × ℕ)) (c : Coord) → AreIdle (mark_lines u marks c)
marks_idle u marks c =
    all_flat IsIdle (λ (m : ℕ × ℕ). says u (λ l. body.Excluded l m.0 m.1) c) marks (λ m. say_idle u (λ l. body.Excluded l m.0 m.1) c)

gaveup_idle : (u : Uid) (ns : List ℕ) (c : Coord) → AreIdle (gaveup_lines u ns c)
gaveup_idle u ns c = all_flat IsIdle (λ n. says u (λ l. body.GaveUp l n) c) ns (λ n. say_idle u (λ l. body.GaveUp l n) c)

-- naming is asked to confirm the commit of this action
abbrev pub Confirms : Uid → List Effect → Type 0
Confirms u [] = ⊥
Confirms u (Send to m ∷ es) = ConfirmsFor u m ⊎ Confirms u es
Confirms u (Say b ∷ es) = Confirms u es
Confirms u (Do w ∷ es) = Confirms u es

confirms_behind : (u : Uid) (es fs : List Effect) → Confirms u fs → Confirms u (es ++ fs)
confirms_behind u [] fs its = its
confirms_behind u (Send to m ∷ es) fs its = inr (confirms_behind u es fs its)
confirms_behind u (Say b ∷ es) fs its = confirms_behind u es fs its
confirms_behind u (Do w ∷ es) fs its = confirms_behind u es fs its

-- what was said before, and these
abbrev pub after : (List ℕ → ℕ → ℕ → Bool) → List Effect → List ℕ → ℕ → ℕ → Bool
after F es l x s = F l x s || said_in es l x s

-- ---- whose marks they are

-- The name is that of an action at the coordinator whose prepare step runs; and with these effects naming is asked to confirm its commit,
-- and nothing is done on the disk.
pub record IsMarking (c : Coord) (outs : List Effect) (l : List ℕ) : Type 0 where
  pub action : Uid
  pub doing : Doing
  pub plan : Plan
  pub left : List ℕ
  pub found : doing_of action c ≡ Some doing
  pub now : doing.now ≡ Committing (Preparing plan left)
  pub named : bytes_eq (name doing.label) l ≡ true
  pub idle : AreIdle outs
  pub asked : Confirms (let p = plan in actor p.path) outs

-- What a handler says is what its commits mark, and the commits under way behind it fit that.
pub record Moves (F : List ℕ → ℕ → ℕ → Bool) (c : Coord) (outs : List Effect) (e : Coord) : Type 0 where
  pub all : All (after F outs) e
  pub whose : (l : List ℕ) (x s : ℕ) → (said_in outs l x s ≡ false) ⊎ IsMarking c outs l

pub plain_moves : (F : List ℕ → ℕ → ℕ → Bool) (c : Coord) (outs : List Effect) (e : Coord) → Unmarked outs → All F e → Moves F c outs e
plain_moves F c outs e none a = record {
  all = all_same F (after F outs) e (λ l x s. ap (λ b. F l x s || b) (unmarked_said outs none l x s) ∙ or_false (F l x s)) a;
  whose = λ l x s. inl (unmarked_said outs none l x s);
}

-- the names of two commits under way are apart
abbrev pub Distinct : Coord → Type 0
Distinct c = (u w : Uid) (d q : Doing) (m n : Machine) → u ≢ w → doing_of u c ≡ Some d → doing_of w c ≡ Some q → d.now ≡ Committing m →
    q.now ≡ Committing n → bytes_eq (name d.label) (name q.label) ≡ false

-- only a prepare step marks, as it asks naming to confirm
abbrev MarksBy : Machine → Marked → Type 0
MarksBy m mk = (mk.marks ≡ [])
    ⊎ ((p : Plan) × (left : List ℕ) × (m ≡ Preparing p left) × (q : Plan) × (mk.step ≡ Asks (Confirming q)) × (q.path ≡ p.path))

stores_by : (p q : Plan) (left : List ℕ) → is_empty q.used ≡ false → q.path ≡ p.path → (ns : List ℕ) →
    MarksBy (Preparing p left) (stores_left ns q)
stores_by p q left used same [] = let r = by q.used used in inr (p, left, refl, r.0, r.1, r.2)
  where
    by : (us : List Used) → is_empty us ≡ false → (r : Plan) × (begin_confirm us q ≡ Asks (Confirming r)) × (r.path ≡ p.path)
    by [] none = absurd (cc none)
    by (u ∷ us) some = (further (1 ∷ []) q, refl, same)
stores_by p q left used same (n ∷ ns) = inl refl

marked_same : (ns : List ℕ) (p : Plan) → ((marks_stores ns p).used ≡ p.used) × ((marks_stores ns p).path ≡ p.path)
marked_same [] p = (refl, refl)
marked_same (n ∷ ns) p = marked_same ns (marks_store n p)

answered_by : (f : ℕ → ℕ → Bool) (from : ℕ) (m : Machine) (r : Reply) → FitsMarks f m → MarksBy m (commit.answered from m r)
answered_by f from (Voting p left) r fits = inl (by r)
  where
    by : (r : Reply) → (commit.answered from (Voting p left) r).marks ≡ []
    by (Reply.Voted (voted.Yes states)) = refl
    by (Reply.Voted (voted.Changed w)) = refl
    by r = refl
answered_by f from (Preparing p left) r fits = by r
  where
    by : (r : Reply) → MarksBy (Preparing p left) (commit.answered from (Preparing p left) r)
    by (Reply.Prepared prepared.Yes) =
        stores_by p (record p { prepared = with_number from p.prepared }) left fits.1 refl (without_number from left)
    by (Reply.Prepared (prepared.InDoubt x holder)) = stores_by p (marks_store from p) left fits.1 refl (without_number from left)
    by (Reply.Prepared (prepared.Old x v)) = inl refl
    by r = inl refl
answered_by f from (Confirming p) r fits = inl (by r)
  where
    by : (r : Reply) → (commit.answered from (Confirming p) r).marks ≡ []
    by (Reply.Confirmed r) = refl
    by r = refl

lost_by : (f : ℕ → ℕ → Bool) (m : Machine) → FitsMarks f m → MarksBy m (commit.given_up m)
lost_by f (Voting p left) fits = inl refl
lost_by f (Preparing p left) fits = let same = marked_same left p in
    stores_by p (marks_stores left p) left (ap is_empty same.0 ∙ fits.1) same.1 []
lost_by f (Confirming p) fits = inl refl

same_doing : (u : Uid) (c : Coord) (d e : Doing) → doing_of u c ≡ Some d → doing_of u c ≡ Some e → d ≡ e
same_doing u c d e one two = let q : ◌≡◌ {A = Option Doing} (Some d) (Some e) = sym one ∙ two in cc q

module _ (F : List ℕ → ℕ → ℕ → Bool) (c : Coord) (distinct : Distinct c) (a : All F c) where
  -- a step of a commit
  moved_moves : (u : Uid) (d : Doing) (m : Machine) → doing_of u c ≡ Some d → d.now ≡ Committing m → (mk : Marked) → FitsMoved (F
      (name d.label)) mk → MarksBy m mk → (intents : List (Uid × Intent)) → (let t = moved_commit u mk intents c in Moves F c t.outs t.part)
  moved_moves u d m found now mk fits who intents = record { all = all; whose = whose }
    where
      outs : List Effect
      outs = (moved_commit u mk intents c).outs

      said : (l : List ℕ) (x s : ℕ) → said_in outs l x s ≡ (bytes_eq (name d.label) l && among mk.marks x s)
      said l x s =
          said_on (mark_lines u mk.marks c) (step_commit u mk.step intents c).outs l x s
          ∙ (λ i. said_marks u mk.marks c d found l x s i
          || unmarked_said (step_commit u mk.step intents c).outs (step_fine NoMark apart_none u mk.step intents c) l x s i)
          ∙ or_false (bytes_eq (name d.label) l && among mk.marks x s)

      none_said : mk.marks ≡ [] → (l : List ℕ) (x s : ℕ) → said_in outs l x s ≡ false
      none_said empty l x s = said l x s ∙ ap (λ z. bytes_eq (name d.label) l && among z x s) empty ∙ and_none (bytes_eq (name d.label) l)

      others : AllBut (after F outs) u c
      others w q other at n is = fits_same (F (name q.label)) (after F outs (name q.label)) (λ x s. ap (λ b. F (name q.label) x s || b)
          (said (name q.label) x s ∙ ap (λ b. b && among mk.marks x s) (distinct u w d q m n (λ same. other (sym same)) found at now is))
          ∙ or_false (F (name q.label) x s)) n (a w q at n is)

      whole : (p : Plan) → mk.step ≡ Decides p → All (after F outs) c
      whole p is = all_same F (after F outs) c
          (λ l x s. ap (λ b. F l x s || b) (none_said (subst (FitsStep (F (name d.label)) mk.marks) is fits) l x s) ∙ or_false (F l x s)) a

      goes : (s : CommitStep) → FitsStep (F (name d.label)) mk.marks s → GoesOn (after F outs (name d.label)) s
      goes (Stays n) is =
          fits_same (plus (F (name d.label)) mk.marks) (after F outs (name d.label)) (λ x s. ap (λ b. F (name d.label) x s || b)
          (said (name d.label) x s ∙ ap (λ b. b && among mk.marks x s) ((bytes_eq-Decides (name d.label) (name d.label)).1 refl))) n is
      goes (Asks n) is = fits_same (plus (F (name d.label)) mk.marks) (after F outs (name d.label)) (λ x s. ap (λ b. F (name d.label) x s ||
          b) (said (name d.label) x s ∙ ap (λ b. b && among mk.marks x s) ((bytes_eq-Decides (name d.label) (name d.label)).1 refl))) n is
      goes (Decides p) is = tt
      goes (Aborts why p) is = tt

      all : All (after F outs) (moved_commit u mk intents c).part
      all = moved_all (after F outs) u mk intents c others whole
          (λ e at. subst (λ (z : Doing). GoesOn (after F outs (name z.label)) mk.step) (same_doing u c d e found at) (goes mk.step fits))

      whose : (l : List ℕ) (x s : ℕ) → (said_in outs l x s ≡ false) ⊎ IsMarking c outs l
      whose l x s = ⊎_elim (λ empty. inl (none_said empty l x s)) (λ r. by (bytes_eq (name d.label) l) refl r) who
        where
          asks_it : (q : Plan) → mk.step ≡ Asks (Confirming q) → AreIdle outs × Confirms (actor q.path) outs
          asks_it q is = (
            all_append IsIdle (mark_lines u mk.marks c) (step_commit u mk.step intents c).outs (marks_idle u mk.marks c)
                (subst (λ z. AreIdle (step_commit u z intents c).outs) (sym is) (tt, tt)),
            confirms_behind (actor q.path) (mark_lines u mk.marks c) (step_commit u mk.step intents c).outs
                (subst (λ z. Confirms (actor q.path) (step_commit u z intents c).outs) (sym is)
                (inl (record { head = _; grants = _; excluded = _; included = _; asked = refl; whose = refl }))),
          )

          by : (b : Bool) → bytes_eq (name d.label) l ≡ b → (p : Plan) × (left : List ℕ) × (m ≡ Preparing p left) × (q : Plan)
              × (mk.step ≡ Asks (Confirming q)) × (q.path ≡ p.path) → (said_in outs l x s ≡ false) ⊎ IsMarking c outs l
          by false is r = inl (said l x s ∙ ap (λ b. b && among mk.marks x s) is)
          by true is r = let k = asks_it r.3 r.4 in inr (record {
            action = u;
            doing = d;
            plan = r.0;
            left = r.1;
            found = found;
            now = now ∙ ap Committing r.2;
            named = is;
            idle = k.0;
            asked = subst (λ p. Confirms (actor p) outs) r.5 k.1;
          })

  -- behind lines that say none
  behind_moves : (es fs : List Effect) (e : Coord) → Unmarked es → AreIdle es → Moves F c fs e → Moves F c (es ++ fs) e
  behind_moves es fs e none idle moves = record {
    all = all_same (after F fs) (after F (es ++ fs)) e (λ l x s. ap (λ b. F l x s || b) (same l x s)) moves.all;
    whose = λ l x s. ⊎_elim (λ (off : said_in fs l x s ≡ false). inl (same l x s ∙ off)) (λ (on : IsMarking c fs l). inr (with_them l on))
        (moves.whose l x s);
  }
    where
      with_them : (l : List ℕ) → IsMarking c fs l → IsMarking c (es ++ fs) l
      with_them l on = record {
        action = on.action;
        doing = on.doing;
        plan = on.plan;
        left = on.left;
        found = on.found;
        now = on.now;
        named = on.named;
        idle = all_append IsIdle es fs idle on.idle;
        asked = confirms_behind (let p = on.plan in actor p.path) es fs on.asked;
      }

      same : (l : List ℕ) (x s : ℕ) → said_in (es ++ fs) l x s ≡ said_in fs l x s
      same l x s = said_on es fs l x s ∙ ap (λ b. b || said_in fs l x s) (unmarked_said es none l x s)

  pub heard_moves : (from : ℕ) (q : Asked) (r : Reply) (intents : List (Uid × Intent)) →
      (let t = heard from q r intents c in Moves F c t.outs t.part)
  heard_moves from q r intents = by (doing_of q.act c) refl
    where
      nothing : Moves F c [] c
      nothing = plain_moves F c [] c tt a

      now : (d : Doing) → doing_of q.act c ≡ Some d → (n : Now) → d.now ≡ n →
          (let t = heard_now from q r intents c n in Moves F c t.outs t.part)
      now d found Idle is = nothing
      now d found (Calling s) is = one (waits_for_call from q r s)
        where
          one : (w : Bool) →
              (let t = cond {A = Served Coord (Unit {0})} w (heard_by (heard_call s r c)) (heard_none c) in Moves F c t.outs t.part)
          one true = plain_moves F c (heard_call s r c).outs (heard_call s r c).part
              (call_fine NoMark apart_none s _ _ (λ e is l. end_none s.x s.goal e l)) (call_all F s _ _ (λ u z at. a u z at))
          one false = nothing
      now d found (Committing m) is = one (waits_for_commit from q r m)
        where
          one : (w : Bool) → (let t = cond {A = Served Coord (Unit {0})} w
              (heard_by (moved_commit q.act (commit.answered from m r) intents c)) (heard_none c) in Moves F c t.outs t.part)
          one true = moved_moves q.act d m found is (commit.answered from m r) (answered_fits (F (name d.label)) from m r
              (a q.act d found m is)) (answered_by (F (name d.label)) from m r (a q.act d found m is)) intents
          one false = nothing

      by : (o : Option Doing) → doing_of q.act c ≡ o → (let t = heard_doing from q r intents c o in Moves F c t.outs t.part)
      by None is = nothing
      by (Some d) is = now d is d.now refl

  gives_moves : (u : Uid) (intents : List (Uid × Intent)) → (let t = give_up u intents c in Moves F c t.outs t.part)
  gives_moves u intents = by (doing_of u c) refl
    where
      nothing : Moves F c [] c
      nothing = plain_moves F c [] c tt a

      lines : (ns : List ℕ) → Unmarked (gaveup_lines u ns c)
      lines [] = tt
      lines (n ∷ ns) = all_append (SayOf NoMark) (says u (λ l. body.GaveUp l n) c) (gaveup_lines u ns c) (one (doing_of u c)) (lines ns)
        where
          one : (o : Option Doing) → Unmarked (say_for (λ l. body.GaveUp l n) o)
          one None = tt
          one (Some d) = ((λ l x s. refl), tt)

      now : (d : Doing) → doing_of u c ≡ Some d → (n : Now) → d.now ≡ n → (let t = gives_up u intents c n in Moves F c t.outs t.part)
      now d found Idle is = nothing
      now d found (Calling s) is = behind_moves (gaveup_lines u (next_node s ∷ []) c) (give_up_call s c).outs (give_up_call s c).part
          (lines (next_node s ∷ [])) (gaveup_idle u (next_node s ∷ []) c)
          (plain_moves F c (give_up_call s c).outs (give_up_call s c).part
          (call_fine NoMark apart_none s _ _ (λ e is l. end_none s.x s.goal e l)) (call_all F s _ _ (λ u z at. a u z at)))
      now d found (Committing m) is = let t = moved_commit u (commit.given_up m) intents c in behind_moves (gaveup_lines u
          (nodes_given_up m) c) t.outs t.part (lines (nodes_given_up m)) (gaveup_idle u (nodes_given_up m) c) (moved_moves u d m found is
          (commit.given_up m) (lost_fits (F (name d.label)) m (a u d found m is)) (lost_by (F (name d.label)) m (a u d found m is)) intents)

      by : (o : Option Doing) → doing_of u c ≡ o → (let t = give_up_doing u intents c o in Moves F c t.outs t.part)
      by None is = nothing
      by (Some d) is = now d is d.now refl

  -- the commit of an action of which no mark was said
  commit_moves : (b : Branch) (intents : List (Uid × Intent)) → ((d : Doing) → doing_of (actor b.path) c ≡ Some d → (x s : ℕ) →
      F (name d.label) x s ≡ false) → (let t = commit_top b.path intents c in Moves F c t.outs t.part)
  commit_moves b intents fresh =
      plain_moves F c (commit_top b.path intents c).outs (commit_top b.path intents c).part
      (all_append (SayOf NoMark) (says (actor b.path) body.Committing c) (moved_commit (actor b.path) mk intents c).outs
      (one (doing_of (actor b.path) c)) (step_fine NoMark apart_none (actor b.path) mk.step intents c))
      (moved_all F (actor b.path) mk intents c (but F (actor b.path) c a) (λ p is. a)
      (λ d found. goes (name d.label) mk.step (begin_fits (F (name d.label)) plan (fresh d found) refl)))
    where
      plan : Plan
      plan = plan_for b.path (last_req (doing_of (actor b.path) c)) (root_at (root_of b.path) c) c

      mk : Marked
      mk = commit.start plan

      one : (o : Option Doing) → Unmarked (say_for body.Committing o)
      one None = tt
      one (Some d) = ((λ l x s. refl), tt)

      goes : (l : List ℕ) (s : CommitStep) → FitsStep (F l) [] s → GoesOn (F l) s
      goes l (Stays n) is = fits_same (plus (F l) []) (F l) (λ x s. sym (or_false (F l x s))) n is
      goes l (Asks n) is = fits_same (plus (F l) []) (F l) (λ x s. sym (or_false (F l x s))) n is
      goes l (Decides p) is = tt
      goes l (Aborts why p) is = tt

  -- where a commit is called, none was said of its action
  pub acts_move : (i : Input) (intents : List (Uid × Intent)) →
      ((l : Label) (how : Kind) (parent : Option Label) → i ≢ input.Begin l how parent)
      → ((b : Branch) (es : List Effect) → (let t = acts i intents c in t.outs) ≡ says (actor b.path) body.Committing c ++ es →
      (d : Doing) → doing_of (actor b.path) c ≡ Some d → (x s : ℕ) → F (name d.label) x s ≡ false) →
      (let t = acts i intents c in Moves F c t.outs t.part)
  acts_move i intents other fresh = by i refl
    where
      nothing : Moves F c [] c
      nothing = plain_moves F c [] c tt a

      used : (p : Path) (x : ℕ) → All F (record c { tree = uses_object p x c.tree })
      used p x = let q = uses_same p x c.tree in own_all F c (record c { tree = uses_object p x c.tree }) q.own refl a

      ends : (u : Uid) (how : End) (f : Label → Body) → ((l : Label) → NoMark (f l)) →
          (let t = ends_with u how f intents c in Moves F c t.outs t.part)
      ends u how f none = plain_moves F c (ends_with u how f intents c).outs (ends_with u how f intents c).part
          (ends_fine NoMark apart_none u how f intents c none) (ended_all F u how c (but F u c a))

      by : (j : Input) → i ≡ j → (let t = acts j intents c in Moves F c t.outs t.part)
      by (input.Begin l how parent) same = absurd (other l how parent same)
      by (input.Call l x o) same = one (branch_named l c)
        where
          one : (f : Option Branch) → (let t = on_branch (λ b. call b.path x o c) c f in Moves F c t.outs t.part)
          one None = nothing
          one (Some b) = plain_moves F c (call b.path x o c).outs (call b.path x o c).part (tt, tt)
              (goes_all F its noted (λ u z at. used b.path x u z at))
            where
              root : Root
              root = root_at (root_of b.path) c

              kept : Keeping
              kept = renewed (is_free (root_of b.path) (actor b.path) x c) (keeping_of x root) (let h = keeping_of x root in h.kept)

              its : Steps
              its = call_steps b.path x o (next_req (actor b.path) c) root c kept

              noted : Coord
              noted = on_root (root_of b.path) (with_keeping x kept) (record c { tree = uses_object b.path x c.tree })
      by (input.Include l x n) same = one (branch_named l c)
        where
          one : (f : Option Branch) → (let t = on_branch (λ b. include b.path x n c) c f in Moves F c t.outs t.part)
          one None = nothing
          one (Some b) = plain_moves F c (include b.path x n c).outs (include b.path x n c).part (tt, tt) (goes_all F (calls.start b.path x
              (Include n) None unbound (next_req (actor b.path) c)) (record c { tree = uses_object b.path x c.tree }) (used b.path x))
      by (input.Commit l) same = one (branch_named l c) refl
        where
          one : (f : Option Branch) → branch_named l c ≡ f →
              (let t = on_branch (λ b. commit_action b intents c) c f in Moves F c t.outs t.part)
          one None at = nothing
          one (Some b) at = doomed b.doomed refl
            where
              outs_are : (let t = acts i intents c in t.outs) ≡ (commit_action b intents c).outs
              outs_are = ap (λ j. let t = acts j intents c in t.outs) same
                  ∙ ap (λ f. let t = on_branch (λ z. commit_action z intents c) c f in t.outs) at

              top : (k : Kind) → b.doomed ≡ false → b.kind ≡ k → (commit_open b intents c k).outs ≡ (commit_top b.path intents c).outs →
                  (let t = commit_top b.path intents c in Moves F c t.outs t.part)
              top k off is same_outs = commit_moves b intents (fresh b (moved_commit (actor b.path) (commit.start (plan_for b.path
                  (last_req (doing_of (actor b.path) c)) (root_at (root_of b.path) c) c)) intents c).outs (outs_are ∙ (λ z. let t = cond
                  (off z) (aborts_with (actor b.path) cause.Doomed intents c) (commit_open b intents c (is z)) in t.outs) ∙ same_outs))

              kinds : (k : Kind) → b.doomed ≡ false → b.kind ≡ k → (let t = commit_open b intents c k in Moves F c t.outs t.part)
              kinds kind.Nested off is = ends (actor b.path) ending.Commit body.Committed (λ l k x s. refl)
              kinds kind.Serial off is = ends (actor b.path) ending.Commit body.Ended (λ l k x s. refl)
              kinds kind.Top off is = top kind.Top off is refl
              kinds kind.Independent off is = top kind.Independent off is refl
              kinds kind.Constituent off is = top kind.Constituent off is refl

              doomed : (d : Bool) → b.doomed ≡ d → (let t = cond {A = Did Coord} d (aborts_with (actor b.path) cause.Doomed intents c)
                  (commit_open b intents c b.kind) in Moves F c t.outs t.part)
              doomed true is = ends (actor b.path) ending.Abort (λ l. body.Aborted l cause.Doomed) (λ l k x s. refl)
              doomed false is = kinds b.kind is refl
      by (input.Abort l) same = one (branch_named l c)
        where
          one : (f : Option Branch) → (let t = on_branch (λ b. abort_action (actor b.path) intents c) c f in Moves F c t.outs t.part)
          one None = nothing
          one (Some b) =
              plain_moves F c (abort_action (actor b.path) intents c).outs (abort_action (actor b.path) intents c).part (abort_fine NoMark
              apart_none (actor b.path) intents c) (aborted_all F (open_below (actor b.path) c.tree ++ actor b.path ∷ []) c a)
      by (input.GiveUp l) same = one (branch_named l c)
        where
          one : (f : Option Branch) → (let t = on_branch (λ b. give_up (actor b.path) intents c) c f in Moves F c t.outs t.part)
          one None = nothing
          one (Some b) = gives_moves (actor b.path) intents
      by _ same = nothing

  pub message_moves : (k : ℕ) (d : Disk) (t v : Parts) (from : ℕ) (m : Message) (outs : List Effect) → t.coord ≡ c →
      handle k d t from m ≡ Took v outs → Moves F c outs v.coord
  message_moves k d t v from m outs at is = by (answers m) refl
    where
      by : (o : Option (Asked × Reply)) → answers m ≡ o → Moves F c outs v.coord
      by (Some q) of =
          let r = heard from q.0 q.1 d.intents t.coord in
          let took = took_heard t v r outs (sym (handled_answer k d t from q.0 q.1)
          ∙ subst (λ (z : Message). handle k d t from z ≡ Took v outs) (response_is m q of) is) in
          subst (λ es. Moves F c es v.coord) took.1 (subst (Moves F c r.outs) (ap (λ (z : Parts). z.coord) took.0) (subst
          (λ z. let w = heard from q.0 q.1 d.intents z in Moves F c w.outs w.part) (sym at) (heard_moves from q.0 q.1 d.intents)))
      by None of = plain_moves F c outs v.coord quiet (here (coord_case k d t v from m outs is))
        where
          never : (q : Asked × Reply) → answers m ≡ Some q → ⊥
          never q some = let no_way : ◌≡◌ {A = Option (Asked × Reply)} None (Some q) = sym of ∙ some in cc no_way

          quiet : Unmarked outs
          quiet = message_fine NoMark apart_none k d t v from m outs is (λ q r z s some. absurd (never (q, r) some))
              (λ q r z n some. absurd (never (q, r) some))

          old : All F t.coord
          old = subst (All F) (sym at) a

          here : CoordCase d t from m v outs → All F v.coord
          here (cases.OfParts mine same plain sent_to) = subst (All F) (sym same) old
          here (cases.Asks u query same outs_are) = subst (All F) (sym same) old
          here (cases.Heard q r some same outs_are) = absurd (never (q, r) some)
          here (cases.Acks u which same outs_are) = subst (All F) same (acked_same F from u d.intents t.coord old)

-- ---- marks and calls

-- names stay
pub acts_stay : (B : Book) (lines : List Line) → AreRight B lines → (l : List ℕ) (a : Act) → act_in B.acts l ≡ Some a →
    act_in (book_from B lines).acts l ≡ Some a
acts_stay B [] right l a is = is
acts_stay B (k ∷ ls) right l a is = acts_stay (turned B k.body) ls right.1 l a (one k.body right.0)
  where
    one : (b : Body) → Right B b → act_in (turned B b).acts l ≡ Some a
    one (body.Began m how u p) r = still_named B.acts _ r.0 l a is
    one b r = is

-- an action whose commit wasn't called has none
pub unmarked : (B : Book) (lines : List Line) → AreRight B lines → (l : List ℕ) (a : Act) → act_in (book_from B lines).acts l ≡ Some a →
    is_on (book_from B lines).called a.uid ≡ false → (x s : ℕ) → was_marked lines l x s ≡ false
unmarked B [] right l a named off x s = refl
unmarked B (k ∷ ls) right l a named off x s = λ i. first k.body right.0 i || unmarked (turned B k.body) ls right.1 l a named off x s i
  where
    first : (b : Body) → Right B b → excludes l x s b ≡ false
    first (body.Excluded m y n) (z, open_it, on) = one (bytes_eq (name m) l) refl
      where
        one : (b : Bool) → bytes_eq (name m) l ≡ b → (b && ((y == x) && (n == s))) ≡ false
        one false same = refl
        one true same =
            let still = acts_stay B (k ∷ ls) right l z (ap (act_in B.acts) (sym ((bytes_eq-Decides (name m) l).0 same)) ∙ open_it.named) in
            let q : ◌≡◌ {A = Option Act} (Some z) (Some a) = sym still ∙ named in
            let act : z ≡ a = cc q in
            let later = later_from B (k ∷ ls) in
            let no_way : true ≡ false = sym (later.called z.uid on) ∙ ap (λ (y : Act). is_on (book_from B (k ∷ ls)).called y.uid) act
            ∙ off in absurd (cc no_way)
    first b r = refl
